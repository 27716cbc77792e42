-- Six-rings as walks of six bonds, which may begin at any bond and go either way.
--     IsRound bonds set l x k    the atoms x 0 .. x 5 in a cycle by the bonds k 0 .. k 5, with the labels l, 3 - l, l ..
--     turned, reversed           the same cycle from the next bond on, and backwards
--     CanClose-round             a path can be closed along a cycle
--     round_from                 a path that can be closed is a cycle
use Rattle.std.proofs.Common.{◌≡◌, ◌≢◌, ◌<◌, ◌+◌, ◌-◌, ◌%◌, ℕ, zero, suc, Bool, cond, eqb, List, [], ◌∷◌, refl, sym, inl, inr, ⊎_elim, arith, length, get_or}
use Rattle.std.specs.Prelude.{◌⊎◌, IsTrue}
use Rattle.std.proofs.lemmas.Bool.{cases_order}
use Rattle.mk_model.specs.declared.edge.Edge.{Edge}
use Rattle.mk_model.specs.Edges.{Joins}
use Rattle.mk_model.specs.Aromatic.{IsSixCycle, Takes, TakesLabels, IsClosed}
use Rattle.mk_marks.specs.SixRings.{CanClose, NotAmong}
use Rattle.mk_marks.proofs.WayLemmas.{joins_back}

-- a fact of each of six numbers
pub below_six : (P : ℕ → Type 0) → P 0 → P 1 → P 2 → P 3 → P 4 → P 5 → (i : ℕ) → i < 6 → P i
below_six P a b c d e f zero h = a
below_six P a b c d e f (suc zero) h = b
below_six P a b c d e f (suc (suc zero)) h = c
below_six P a b c d e f (suc (suc (suc zero))) h = d
below_six P a b c d e f (suc (suc (suc (suc zero)))) h = e
below_six P a b c d e f (suc (suc (suc (suc (suc zero))))) h = f
below_six P a b c d e f (suc (suc (suc (suc (suc (suc i)))))) h = absurd (omega arith)

-- the label of the i-th of six bonds, where the first has the label l
abbrev pub label : ℕ → ℕ → ℕ
label l i = cond (eqb (i % 2) 0) l (3 - l)

-- six distinct atoms in a cycle whose bonds take the labels in turn, from l on
pub record IsRound (bonds : List Edge) (set : ℕ → Bool) (l : ℕ) (x k : ℕ → ℕ) : Type 0 where
  pub distinct : (i j : ℕ) → i < 6 → j < 6 → x i ≡ x j → i ≡ j
  pub joined : (i : ℕ) → i < 6 → Joins bonds (k i) (x i) (x ((i + 1) % 6))
  pub labels : (i : ℕ) → i < 6 → Takes bonds set (k i) (label l i)

module _ (bonds : List Edge) (set : ℕ → Bool) where
  -- the rule's cycles are rounds from label 1 on
  pub round_of_rule : (x k : ℕ → ℕ) → IsSixCycle bonds x k → TakesLabels bonds set k → IsRound bonds set 1 x k
  round_of_rule x k cycle labels = record {
    distinct = cycle.distinct;
    joined = cycle.joined;
    labels = below_six (λ i. Takes bonds set (k i) (label 1 i)) (labels 0 (omega arith)) (labels 1 (omega arith))
        (labels 2 (omega arith)) (labels 3 (omega arith)) (labels 4 (omega arith)) (labels 5 (omega arith));
  }

  -- and back
  pub rule_of_round : (x k : ℕ → ℕ) → IsRound bonds set 1 x k → IsSixCycle bonds x k × TakesLabels bonds set k
  rule_of_round x k r = (
    record { distinct = r.distinct; joined = r.joined },
    below_six (λ i. Takes bonds set (k i) (1 + i % 2)) (r.labels 0 (omega arith)) (r.labels 1 (omega arith))
        (r.labels 2 (omega arith)) (r.labels 3 (omega arith)) (r.labels 4 (omega arith)) (r.labels 5 (omega arith)),
  )

  -- places that are one further are distinct
  next_distinct : (i j : ℕ) → i < 6 → j < 6 → (i + 1) % 6 ≡ (j + 1) % 6 → i ≡ j
  next_distinct i j hi hj same = omega arith

  -- the same cycle from the next bond on
  pub turned : (l : ℕ) (x k : ℕ → ℕ) → (l ≡ 1) ⊎ (l ≡ 2) → IsRound bonds set l x k → IsRound bonds set (3 - l) (λ i. x ((i + 1) % 6)) (λ i. k ((i + 1) % 6))
  turned l x k one_or_two r = record {
    distinct = λ i j hi hj same. next_distinct i j hi hj (r.distinct ((i + 1) % 6) ((j + 1) % 6) (omega arith) (omega arith) same);
    joined = below_six (λ i. Joins bonds (k ((i + 1) % 6)) (x ((i + 1) % 6)) (x (((i + 1) % 6 + 1) % 6)))
        (r.joined 1 (omega arith)) (r.joined 2 (omega arith)) (r.joined 3 (omega arith)) (r.joined 4 (omega arith))
        (r.joined 5 (omega arith)) (r.joined 0 (omega arith));
    labels = below_six (λ i. Takes bonds set (k ((i + 1) % 6)) (label (3 - l) i)) (r.labels 1 (omega arith))
        (back 2 (r.labels 2 (omega arith))) (r.labels 3 (omega arith)) (back 4 (r.labels 4 (omega arith)))
        (r.labels 5 (omega arith)) (back 0 (r.labels 0 (omega arith)));
  }
    where
      back : (i : ℕ) → Takes bonds set (k i) l → Takes bonds set (k i) (3 - (3 - l))
      back i t = let same : 3 - (3 - l) ≡ l = ⊎_elim (λ e. omega (arith, e)) (λ e. omega (arith, e)) one_or_two in rw same t

  -- the same cycle backwards, from the same bond on
  pub reversed : (l : ℕ) (x k : ℕ → ℕ) → IsRound bonds set l x k → IsRound bonds set l (λ i. x ((7 - i) % 6)) (λ i. k ((6 - i) % 6))
  reversed l x k r = record {
    distinct = λ i j hi hj same. back_distinct i j hi hj (r.distinct ((7 - i) % 6) ((7 - j) % 6) (omega arith) (omega arith) same);
    joined = below_six (λ i. Joins bonds (k ((6 - i) % 6)) (x ((7 - i) % 6)) (x ((7 - (i + 1) % 6) % 6)))
        (joins_back (r.joined 0 (omega arith))) (joins_back (r.joined 5 (omega arith)))
        (joins_back (r.joined 4 (omega arith))) (joins_back (r.joined 3 (omega arith)))
        (joins_back (r.joined 2 (omega arith))) (joins_back (r.joined 1 (omega arith)));
    labels = below_six (λ i. Takes bonds set (k ((6 - i) % 6)) (label l i)) (r.labels 0 (omega arith))
        (r.labels 5 (omega arith)) (r.labels 4 (omega arith)) (r.labels 3 (omega arith)) (r.labels 2 (omega arith))
        (r.labels 1 (omega arith));
  }
    where
      back_distinct : (i j : ℕ) → i < 6 → j < 6 → (7 - i) % 6 ≡ (7 - j) % 6 → i ≡ j
      back_distinct i j hi hj same = omega arith

  -- ---- paths

  -- a number of the list is one of its places
  not_among : (atoms : List ℕ) (y : ℕ) → ((i : ℕ) → i < length atoms → get_or atoms i 0 ≢ y) → NotAmong atoms y
  not_among atoms y h = h

  -- the path along a cycle can be closed
  pub CanClose-round : (l : ℕ) (x k : ℕ → ℕ) → (l ≡ 1) ⊎ (l ≡ 2) → IsRound bonds set l x k → CanClose bonds set (x 0) (x 1 ∷ x 0 ∷ []) (x 1) (3 - l) 4
  CanClose-round l x k one_or_two r = (
    k 1,
    (
      x 2,
      r.joined 1 (omega arith),
      r.labels 1 (omega arith),
      new_two,
      (
        k 2,
        (
          x 3,
          r.joined 2 (omega arith),
          even 2 (r.labels 2 (omega arith)),
          new_three,
          (
            k 3,
            (
              x 4,
              r.joined 3 (omega arith),
              odd 3 (r.labels 3 (omega arith)),
              new_four,
              (
                k 4,
                (
                  x 5,
                  r.joined 4 (omega arith),
                  even' 4 (r.labels 4 (omega arith)),
                  new_five,
                  (k 5, (r.joined 5 (omega arith), odd' 5 (r.labels 5 (omega arith)))),
                ),
              ),
            ),
          ),
        ),
      ),
    ),
  )
    where
      once : 3 - (3 - l) ≡ l
      once = ⊎_elim (λ e. omega (arith, e)) (λ e. omega (arith, e)) one_or_two

      even : (i : ℕ) → Takes bonds set (k i) l → Takes bonds set (k i) (3 - (3 - l))
      even i t = rw once t

      odd : (i : ℕ) → Takes bonds set (k i) (3 - l) → Takes bonds set (k i) (3 - (3 - (3 - l)))
      odd i t = rw once t

      even' : (i : ℕ) → Takes bonds set (k i) l → Takes bonds set (k i) (3 - (3 - (3 - (3 - l))))
      even' i t = rw (once, once) t

      odd' : (i : ℕ) → Takes bonds set (k i) (3 - l) → Takes bonds set (k i) (3 - (3 - (3 - (3 - (3 - l)))))
      odd' i t = rw (once, once) t

      differ : (i j : ℕ) → i < 6 → j < 6 → i ≢ j → x i ≢ x j
      differ i j hi hj other same = other (r.distinct i j hi hj same)

      new_two : NotAmong (x 1 ∷ x 0 ∷ []) (x 2)
      new_two zero h = differ 1 2 (omega arith) (omega arith) (λ e. omega arith)
      new_two (suc zero) h = differ 0 2 (omega arith) (omega arith) (λ e. omega arith)
      new_two (suc (suc i)) h = absurd (omega arith)

      new_three : NotAmong (x 2 ∷ x 1 ∷ x 0 ∷ []) (x 3)
      new_three zero h = differ 2 3 (omega arith) (omega arith) (λ e. omega arith)
      new_three (suc zero) h = differ 1 3 (omega arith) (omega arith) (λ e. omega arith)
      new_three (suc (suc zero)) h = differ 0 3 (omega arith) (omega arith) (λ e. omega arith)
      new_three (suc (suc (suc i))) h = absurd (omega arith)

      new_four : NotAmong (x 3 ∷ x 2 ∷ x 1 ∷ x 0 ∷ []) (x 4)
      new_four zero h = differ 3 4 (omega arith) (omega arith) (λ e. omega arith)
      new_four (suc zero) h = differ 2 4 (omega arith) (omega arith) (λ e. omega arith)
      new_four (suc (suc zero)) h = differ 1 4 (omega arith) (omega arith) (λ e. omega arith)
      new_four (suc (suc (suc zero))) h = differ 0 4 (omega arith) (omega arith) (λ e. omega arith)
      new_four (suc (suc (suc (suc i)))) h = absurd (omega arith)

      new_five : NotAmong (x 4 ∷ x 3 ∷ x 2 ∷ x 1 ∷ x 0 ∷ []) (x 5)
      new_five zero h = differ 4 5 (omega arith) (omega arith) (λ e. omega arith)
      new_five (suc zero) h = differ 3 5 (omega arith) (omega arith) (λ e. omega arith)
      new_five (suc (suc zero)) h = differ 2 5 (omega arith) (omega arith) (λ e. omega arith)
      new_five (suc (suc (suc zero))) h = differ 1 5 (omega arith) (omega arith) (λ e. omega arith)
      new_five (suc (suc (suc (suc zero)))) h = differ 0 5 (omega arith) (omega arith) (λ e. omega arith)
      new_five (suc (suc (suc (suc (suc i))))) h = absurd (omega arith)

module _ (bonds : List Edge) (set : ℕ → Bool) (b u v l : ℕ) (joined : Joins bonds b u v) (takes : Takes bonds set b l)
    (apart : u ≢ v) (one_or_two : (l ≡ 1) ⊎ (l ≡ 2)) (c1 : CanClose bonds set u (v ∷ u ∷ []) v (3 - l) 4) where
  once : 3 - (3 - l) ≡ l
  once = ⊎_elim (λ e. omega (arith, e)) (λ e. omega (arith, e)) one_or_two

  abbrev c2 : CanClose bonds set u (c1.1.0 ∷ v ∷ u ∷ []) c1.1.0 (3 - (3 - l)) 3
  c2 = c1.1.4

  abbrev c3 : CanClose bonds set u (c2.1.0 ∷ c1.1.0 ∷ v ∷ u ∷ []) c2.1.0 (3 - (3 - (3 - l))) 2
  c3 = c2.1.4

  abbrev c4 : CanClose bonds set u (c3.1.0 ∷ c2.1.0 ∷ c1.1.0 ∷ v ∷ u ∷ []) c3.1.0 (3 - (3 - (3 - (3 - l)))) 1
  c4 = c3.1.4

  abbrev c5 : CanClose bonds set u (c4.1.0 ∷ c3.1.0 ∷ c2.1.0 ∷ c1.1.0 ∷ v ∷ u ∷ []) c4.1.0 (3 - (3 - (3 - (3 - (3 - l))))) 0
  c5 = c4.1.4

  abbrev x : ℕ → ℕ
  x i = get_or (u ∷ v ∷ c1.1.0 ∷ c2.1.0 ∷ c3.1.0 ∷ c4.1.0 ∷ []) i 0

  abbrev k : ℕ → ℕ
  k i = get_or (b ∷ c1.0 ∷ c2.0 ∷ c3.0 ∷ c4.0 ∷ c5.0 ∷ []) i 0

  joins : (i : ℕ) → i < 6 → Joins bonds (k i) (x i) (x ((i + 1) % 6))
  joins = below_six (λ i. Joins bonds (k i) (x i) (x ((i + 1) % 6))) joined c1.1.1 c2.1.1 c3.1.1 c4.1.1 c5.1.0

  three : Takes bonds set c3.0 (3 - l)
  three = rw once at c3.1.2

  four : Takes bonds set c4.0 l
  four = rw once at (rw once at c4.1.2)

  five : Takes bonds set c5.0 (3 - l)
  five = rw once at (rw once at c5.1.1)

  two : Takes bonds set c2.0 l
  two = rw once at c2.1.2

  labels : (i : ℕ) → i < 6 → Takes bonds set (k i) (label l i)
  labels = below_six (λ i. Takes bonds set (k i) (label l i)) takes c1.1.2 two three four five

  earlier : (j : ℕ) → j < 6 → (i : ℕ) → i < j → x i ≢ x j
  earlier zero h i below = absurd (omega arith)
  earlier (suc zero) h zero below = apart
  earlier (suc zero) h (suc i) below = absurd (omega arith)
  earlier (suc (suc zero)) h zero below = c1.1.3 1 (omega arith)
  earlier (suc (suc zero)) h (suc zero) below = c1.1.3 0 (omega arith)
  earlier (suc (suc zero)) h (suc (suc i)) below = absurd (omega arith)
  earlier (suc (suc (suc zero))) h zero below = c2.1.3 2 (omega arith)
  earlier (suc (suc (suc zero))) h (suc zero) below = c2.1.3 1 (omega arith)
  earlier (suc (suc (suc zero))) h (suc (suc zero)) below = c2.1.3 0 (omega arith)
  earlier (suc (suc (suc zero))) h (suc (suc (suc i))) below = absurd (omega arith)
  earlier (suc (suc (suc (suc zero)))) h zero below = c3.1.3 3 (omega arith)
  earlier (suc (suc (suc (suc zero)))) h (suc zero) below = c3.1.3 2 (omega arith)
  earlier (suc (suc (suc (suc zero)))) h (suc (suc zero)) below = c3.1.3 1 (omega arith)
  earlier (suc (suc (suc (suc zero)))) h (suc (suc (suc zero))) below = c3.1.3 0 (omega arith)
  earlier (suc (suc (suc (suc zero)))) h (suc (suc (suc (suc i)))) below = absurd (omega arith)
  earlier (suc (suc (suc (suc (suc zero))))) h zero below = c4.1.3 4 (omega arith)
  earlier (suc (suc (suc (suc (suc zero))))) h (suc zero) below = c4.1.3 3 (omega arith)
  earlier (suc (suc (suc (suc (suc zero))))) h (suc (suc zero)) below = c4.1.3 2 (omega arith)
  earlier (suc (suc (suc (suc (suc zero))))) h (suc (suc (suc zero))) below = c4.1.3 1 (omega arith)
  earlier (suc (suc (suc (suc (suc zero))))) h (suc (suc (suc (suc zero)))) below = c4.1.3 0 (omega arith)
  earlier (suc (suc (suc (suc (suc zero))))) h (suc (suc (suc (suc (suc i))))) below = absurd (omega arith)
  earlier (suc (suc (suc (suc (suc (suc j)))))) h i below = absurd (omega arith)

  distinct : (i j : ℕ) → i < 6 → j < 6 → x i ≡ x j → i ≡ j
  distinct i j hi hj same =
      ⊎_elim
      (λ e. e)
      (λ ne. ⊎_elim (λ below. absurd (earlier j hj i below same)) (λ above. absurd (earlier i hi j above (sym same))) ne)
      (cases_order i j)

  -- a path that can be closed is a cycle
  pub round_from : (x' : ℕ → ℕ) × (k' : ℕ → ℕ) × IsRound bonds set l x' k' × (k' 0 ≡ b)
  round_from = (x, k, record { distinct = distinct; joined = joins; labels = labels }, refl)

-- ---- closed sets

-- labels taken by the smaller set are taken by the larger
takes_more : (bonds : List Edge) (small large : ℕ → Bool) → ((b : ℕ) → IsTrue (small b) → IsTrue (large b)) → (b l : ℕ) → Takes bonds small b l → Takes bonds large b l
takes_more bonds small large more b l t = ⊎_elim (λ marked. inl (more b marked)) (λ kind. inr kind) t

-- a closed set holds the first bond of each round whose labels a part of it takes
pub closed_round : (bonds : List Edge) (small large : ℕ → Bool) → ((b : ℕ) → IsTrue (small b) → IsTrue (large b))
    → IsClosed bonds large → (l : ℕ) (x k : ℕ → ℕ) → (l ≡ 1) ⊎ (l ≡ 2) → IsRound bonds small l x k
    → IsTrue (large (k 0))
closed_round bonds small large more closed l x k one_or_two r =
    ⊎_elim
    (λ one.
    let first : IsRound bonds large 1 x k = rw one at wide in
    let rule = rule_of_round bonds large x k first in
    closed.six_rings x k rule.0 rule.1 0 (omega arith))
    (λ two.
    let three : 3 - l ≡ 1 = omega (arith, two) in
    let next : IsRound bonds large 1 (λ i. x ((i + 1) % 6)) (λ i. k ((i + 1) % 6)) = rw three at (turned bonds large l x k one_or_two wide) in
    let rule = rule_of_round bonds large (λ i. x ((i + 1) % 6)) (λ i. k ((i + 1) % 6)) next in
    closed.six_rings (λ i. x ((i + 1) % 6)) (λ i. k ((i + 1) % 6)) rule.0 rule.1 5 (omega arith))
    one_or_two
  where
    wide : IsRound bonds large l x k
    wide = record { distinct = r.distinct; joined = r.joined; labels = λ i h. takes_more bonds small large more (k i) (label l i) (r.labels i h) }
