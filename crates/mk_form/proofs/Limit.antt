-- A part that is made by steps is read exactly where each step is.
use Rattle.std.proofs.Common.{◌≡◌, ℕ, zero, suc, ◌+◌, ◌-◌, ◌≤◌, Bool, List, [], ◌∷◌, ◌++◌, length, sym, ap, subst, ◌∙◌, arith}
use Rattle.mk_form.specs.Exact.{Part, Exact, Completes, NeverDue}
use Rattle.mk_form.specs.Limit.{limit, Grows, IsLimit}

module _ {L V : Type 0} {says : L → Bool} {Follows : List L → Type 0} {steps : ℕ → Part L V} {q : Part L V} (e : (n : ℕ) → Exact says Follows (steps n)) (w : IsLimit steps q) where
  -- for each fact a large enough step
  pub exact-limit : Exact says Follows q
  exact-limit = record {
    took = λ lines rest v h.
        let n : ℕ = length lines in
        let k = (e n).took lines rest v (w.reads n lines (omega arith) ∙ h) in
        record { front = k.front; whole = k.whole; is = w.is_to n k.front v k.is; follows = k.follows };
    again = λ front rest v h f.
        let from = w.is_from front v h in
        let n : ℕ = from.0 + length (front ++ rest) in
        sym (w.reads n (front ++ rest) (omega arith)) ∙ (e n).again front rest v (from.1 n (omega arith)) f;
    fits = λ lines rest named h.
        let n : ℕ = length lines in
        let k = (e n).fits lines rest named (w.reads n lines (omega arith) ∙ h) in
        record { front = k.front; whole = k.whole; live = w.live_to n k.front k.live };
    none = λ front rest l named h k.
        let from = w.live_from (front ++ l ∷ []) k in
        let n : ℕ = from.0 + length (front ++ l ∷ rest) in
        (e n).none front rest l named (w.reads n (front ++ l ∷ rest) (omega arith) ∙ h) (from.1 n (omega arith));
    due = λ front rest l d h.
        let from = w.due_from front d in
        let n : ℕ = from.0 + length (front ++ l ∷ rest) in
        sym (w.reads n (front ++ l ∷ rest) (omega arith)) ∙ (e n).due front rest l (from.1 n (omega arith)) h;
    named = λ lines rest h.
        let n : ℕ = length lines in
        let k = (e n).named lines rest (w.reads n lines (omega arith) ∙ h) in
        record { front = k.front; line = k.line; behind = k.behind; whole = k.whole; rest_is = k.rest_is; due = w.due_to n k.front k.due; says_so = k.says_so };
    live = λ lines v h. let from = w.is_from lines v h in w.live_to from.0 lines ((e from.0).live lines v (from.1 from.0 (omega arith)));
    shorter = λ front more h. let from = w.live_from (front ++ more) h in w.live_to from.0 front ((e from.0).shorter front more (from.1 from.0 (omega arith)));
    ends = λ front more l v h f k.
        let a = w.is_from front v h in
        let b = w.live_from (front ++ l ∷ more) k in
        let n : ℕ = a.0 + b.0 in
        (e n).ends front more l v (a.1 n (omega arith)) f (b.1 n (omega arith));
  }

-- what is live in some step is completed there
pub completes-limit : {L V : Type 0} {steps : ℕ → Part L V} {q : Part L V} → ((n : ℕ) → Completes (steps n)) → IsLimit steps q → Completes q
completes-limit c w = record {
  starts = w.live_to 0 [] (c 0).starts;
  completed = λ lines h.
      let from = w.live_from lines h in
      let k = (c from.0).completed lines (from.1 from.0 (omega arith)) in
      (k.0, k.1, w.is_to from.0 (lines ++ k.0) k.1 k.2);
}

-- a name due would be due in some step
pub never-limit : {L V : Type 0} {steps : ℕ → Part L V} {q : Part L V} → ((n : ℕ) → NeverDue (steps n)) → IsLimit steps q → NeverDue q
never-limit c w = record { never = λ lines d. let from = w.due_from lines d in (c from.0).never lines (from.1 from.0 (omega arith)) }

-- ---- steps that grow

module _ {L V : Type 0} {steps : ℕ → Part L V} (g : Grows steps) where
  -- some steps on, what held still holds
  is_on : (d n : ℕ) (lines : List L) (v : V) → (steps n).is lines v → (steps (d + n)).is lines v
  is_on zero n lines v h = subst (λ (k : ℕ). (steps k).is lines v) (let e : n ≡ 0 + n = omega arith in e) h
  is_on (suc d) n lines v h = subst (λ (k : ℕ). (steps k).is lines v) (let e : suc (d + n) ≡ suc d + n = omega arith in e) ((g.more (d + n)).is lines v (is_on d n lines v h))

  -- some steps on, what was live still is
  live_on : (d n : ℕ) (lines : List L) → (steps n).live lines → (steps (d + n)).live lines
  live_on zero n lines h = subst (λ (k : ℕ). (steps k).live lines) (let e : n ≡ 0 + n = omega arith in e) h
  live_on (suc d) n lines h = subst (λ (k : ℕ). (steps k).live lines) (let e : suc (d + n) ≡ suc d + n = omega arith in e) ((g.more (d + n)).live lines (live_on d n lines h))

  -- some steps on, a name that was due still is
  due_on : (d n : ℕ) (lines : List L) → (steps n).due lines → (steps (d + n)).due lines
  due_on zero n lines h = subst (λ (k : ℕ). (steps k).due lines) (let e : n ≡ 0 + n = omega arith in e) h
  due_on (suc d) n lines h = subst (λ (k : ℕ). (steps k).due lines) (let e : suc (d + n) ≡ suc d + n = omega arith in e) ((g.more (d + n)).due lines (due_on d n lines h))

  -- some steps on, few enough lines still read alike
  reads_on : (d n : ℕ) (lines : List L) → length lines ≤ n → (steps (d + n)).read lines ≡ (steps n).read lines
  reads_on zero n lines few = ap (λ (k : ℕ). (steps k).read lines) (let e : 0 + n ≡ n = omega arith in e)
  reads_on (suc d) n lines few =
      ap (λ (k : ℕ). (steps k).read lines) (let e : suc d + n ≡ suc (d + n) = omega arith in e) ∙ g.reads (d + n) lines (omega arith) ∙ reads_on d n lines few

  -- a number above another is that many steps on
  above : (n m : ℕ) → m ≤ n → (n - m) + m ≡ n
  above n m le = omega arith

  -- steps that grow come to what holds of some of them
  pub limit_of_steps : IsLimit steps (limit steps)
  limit_of_steps = record {
    is_to = λ n lines v h. (n, h);
    is_from = λ lines v h. (h.0, λ n few. subst (λ (k : ℕ). (steps k).is lines v) (above n h.0 few) (is_on (n - h.0) h.0 lines v h.1));
    live_to = λ n lines h. (n, h);
    live_from = λ lines h. (h.0, λ n few. subst (λ (k : ℕ). (steps k).live lines) (above n h.0 few) (live_on (n - h.0) h.0 lines h.1));
    due_to = λ n lines h. (n, h);
    due_from = λ lines h. (h.0, λ n few. subst (λ (k : ℕ). (steps k).due lines) (above n h.0 few) (due_on (n - h.0) h.0 lines h.1));
    reads = λ n lines few. ap (λ (k : ℕ). (steps k).read lines) (sym (above n (length lines) few)) ∙ reads_on (n - length lines) (length lines) lines (omega arith);
  }
