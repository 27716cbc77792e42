-- What is noted of each atom, one thing after the other.
use Rattle.std.proofs.Common.{◌≡◌, ℕ, ◌+◌, ◌-◌, ◌<◌, ◌≤◌, true, false, cond, eqb, List, [], ◌∷◌, ◌++◌, length, get_or, replicate, set, take, refl, sym, subst, ap, ◌∙◌, arith, ⊎_elim}
use Rattle.std.proofs.lemmas.Bool.{cases_eq, eq-eqb, ne_eqb}
use Rattle.std.proofs.lemmas.List.{append-nil, append_assoc, get_or-replicate, get_or-set_same, get_or-set_other, get_or_default, length-replicate, length-set, take_all, take_more}
use Rattle.mk_query.specs.Marks.{AreMarks, AreMore, HasMore}

-- ---- notes

-- nothing was noted yet
pub marks-none : {X : Type 0} (Is : ℕ → X → Type 0) (n : ℕ) (none : X) → ((x : ℕ) → Is x none) → AreMarks Is (replicate n none)
marks-none Is n none is k d below = (let same : get_or (replicate n none) k d ≡ none = get_or-replicate n k none d (omega (arith, length-replicate n none)) in rw same (is (k + 1)))

-- what is noted of an atom
pub marks-at : {X : Type 0} (Is : ℕ → X → Type 0) (marks : List X) (n : ℕ) (d : X) → 1 ≤ n → n ≤ length marks → AreMarks Is marks → Is n (get_or marks (n - 1) d)
marks-at Is marks n d least most are = (let place : n - 1 + 1 ≡ n = omega arith in subst (λ (x : ℕ). Is x (get_or marks (n - 1) d)) place (are (n - 1) d (omega arith)))

-- a list of notes says nothing new where it is the same
pub more-none : {V X : Type 0} (Is : List V → X → Type 0) (list : List X) → AreMore Is (λ x. []) list list
more-none Is list = record {
  size = refl;
  each = λ k d below those is. rw (append-nil those) is;
}

-- other words for what was noted
pub more-same : {V X : Type 0} (Is : List V → X → Type 0) (more more' : ℕ → List V) (old new : List X) → ((x : ℕ) → more x ≡ more' x) → AreMore Is more old new → AreMore Is more' old new
more-same Is more more' old new same are = record {
  size = are.size;
  each = λ k d below those is. rw (← same (k + 1)) (are.each k d below those is);
}

-- one thing and then another
pub more-both : {V X : Type 0} (Is : List V → X → Type 0) (first second : ℕ → List V) (old mid new : List X)
    → AreMore Is first old mid → AreMore Is second mid new → AreMore Is (λ x. first x ++ second x) old new
more-both Is first second old mid new p q = record {
  size = q.size ∙ p.size;
  each = λ k d below those is.
      rw (← append_assoc those (first (k + 1)) (second (k + 1)))
      (q.each k d (omega (arith, p.size)) (those ++ first (k + 1)) (p.each k d below those is));
}

-- one thing at atom n
pub more-at : {V X : Type 0} (Is : List V → X → Type 0) (old : List X) (n : ℕ) (v : V) (here new : X) → 1 ≤ n → n ≤ length old → here ≡ get_or old (n - 1) here → HasMore Is (v ∷ []) here new
    → AreMore Is (λ x. cond (eqb n x) (v ∷ []) []) old (set old (n - 1) new)
more-at Is old n v here new least most is more = record {
  size = length-set old (n - 1) new;
  each = λ k d below.
      ⊎_elim
      (λ same.
      let at : get_or (set old (n - 1) new) k d ≡ new = ap (λ (j : ℕ). get_or (set old (n - 1) new) j d) same ∙ get_or-set_same old (n - 1) new d (omega arith) in
      let from : get_or old k d ≡ here = ap (λ (j : ℕ). get_or old j d) same ∙ get_or_default old (n - 1) d here (omega arith) ∙ sym is in
      let number : eqb n (k + 1) ≡ true = eq-eqb n (k + 1) (omega arith) in
      rw (at, from, number) more)
      (λ other.
      let at : get_or (set old (n - 1) new) k d ≡ get_or old k d = get_or-set_other old (n - 1) k new d other in
      let number : eqb n (k + 1) ≡ false = ne_eqb n (k + 1) (λ e. other (omega arith)) in
      rw (at, number) (λ those those_are. rw (append-nil those) those_are))
      (cases_eq k (n - 1));
}

-- ---- passes

-- the words of a pass are told by its items, one after the other
abbrev pub TellsOn : {A V : Type 0} → (List A → ℕ → List V) → Type 0
TellsOn {A} F = (items : List A) (item : A) (x : ℕ) → F (items ++ item ∷ []) x ≡ F items x ++ F (item ∷ []) x

-- one item more
pub pass-more : {A V X : Type 0} (Is : List V → X → Type 0) (F : List A → ℕ → List V) → TellsOn F → (items : List A) (i : ℕ) (item : A) (old mid new : List X)
    → i < length items → item ≡ get_or items i item → AreMore Is (F (take i items)) old mid → AreMore Is (F (item ∷ [])) mid new → AreMore Is (F (take (i + 1) items)) old new
pass-more Is F tells items i item old mid new below is first second =
    let next : take (i + 1) items ≡ take i items ++ item ∷ [] = take_more items i item below ∙ ap (λ y. take i items ++ y ∷ []) (sym is) in
    more-same Is (λ x. F (take i items) x ++ F (item ∷ []) x) (F (take (i + 1) items)) old new
    (λ x. sym (ap (λ (l : List _). F l x) next ∙ tells (take i items) item x))
    (more-both Is (F (take i items)) (F (item ∷ [])) old mid new first second)

-- the same of an item that is read at its place
pub pass-more_at : {A V X : Type 0} (Is : List V → X → Type 0) (F : List A → ℕ → List V) → TellsOn F → (items : List A) (i : ℕ) (d : A) (old mid new : List X)
    → i < length items → AreMore Is (F (take i items)) old mid → AreMore Is (F (get_or items i d ∷ [])) mid new → AreMore Is (F (take (i + 1) items)) old new
pass-more_at Is F tells items i d old mid new below first second =
    pass-more Is F tells items i (get_or items i d) old mid new below (get_or_default items i d (get_or items i d) below) first second

-- behind the last item
pub pass-all : {A V X : Type 0} (Is : List V → X → Type 0) (F : List A → ℕ → List V) (items : List A) (i : ℕ)
    (old new : List X) → length items ≤ i → AreMore Is (F (take i items)) old new → AreMore Is (F items) old new
pass-all Is F items i old new all more = more-same Is (F (take i items)) (F items) old new (λ x. ap (λ (l : List _). F l x) (take_all i items all)) more

-- over notes that say nothing
pub noted : {V X : Type 0} (Is : List V → X → Type 0) (more : ℕ → List V) (n : ℕ) (none : X) (old new : List X)
    → Is [] none → old ≡ replicate n none → AreMore Is more old new → AreMarks (λ x. Is (more x)) new
noted Is more n none old new is blank are k d below =
    let inside : k < length old = omega (arith, are.size) in
    let at : get_or old k d ≡ none = ap (λ (l : List _). get_or l k d) blank ∙ get_or-replicate n k none d (omega (arith, ap length blank, length-replicate n none)) in
    are.each k d inside [] (rw at is)
