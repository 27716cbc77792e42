-- Facts that can be decided, and what follows by finitely many decisions.
--     Decided P                     P holds, or it doesn't
--     decided_both, decided_either  two facts
--     decided_some                  some number below a bound
--     some_or_none                  some number below a bound that has P, or none
--     marks_by                      a list of marks that says of each number whether it has P
--     Closure, closed_from          marks to which a rule adds no more, reached by at most as many rounds as there are marks
--     decided_joins .. decided_closes      of bonds: ends, labels, paths that can be closed
use Rattle.std.proofs.Common.{◌≡◌, ◌≤◌, ◌<◌, ◌+◌, ◌-◌, ℕ, zero, suc, Bool, true, false, List, [], ◌∷◌, Option, Some, None, refl, ap, sym, ◌∙◌, subst, inl, inr, arith, length, get_or, set, length-set, get_or-set_other}
use Rattle.std.specs.Prelude.{◌⊎◌, ◌↔◌, IsTrue, slice_get}
use Rattle.std.proofs.lemmas.Bool.{cases_eq, true≢false}
use Rattle.mk_model.specs.declared.edge.Edge.{Edge}
use Rattle.mk_model.specs.Edges.{AreBetween, HasEnds, HasKind, Joins}
use Rattle.mk_model.specs.Aromatic.{Takes}
use Rattle.mk_marks.specs.Marks.{IsMarked}
use Rattle.mk_marks.specs.SixRings.{CanClose, ClosesBy, ClosesRing, NotAmong, unmarked}
use Rattle.mk_marks.proofs.ClosedLemmas.{unmarked-set}
use Rattle.mk_marks.proofs.JoinLemmas.{get_or-from_get, joins_within}

-- the fact holds, or it doesn't
abbrev pub Decided : Type 0 → Type 0
Decided P = P ⊎ (P → ⊥)

-- facts that follow from each other are decided together
pub decided_as : {P Q : Type 0} → (P → Q) → (Q → P) → Decided P → Decided Q
decided_as to from d = elim d [ inl p ↦ inl (to p) | inr never ↦ inr (λ q. never (from q)) ]

-- both of two facts
pub decided_both : {P Q : Type 0} → Decided P → Decided Q → Decided (P × Q)
decided_both d e = elim d [ inl p ↦ (elim e [ inl q ↦ inl (p, q) | inr never ↦ inr (λ both. never both.1) ]) | inr never ↦ inr (λ both. never both.0) ]

-- one of two facts
pub decided_either : {P Q : Type 0} → Decided P → Decided Q → Decided (P ⊎ Q)
decided_either d e =
    elim d [
      | inl p ↦ inl (inl p)
      | inr never ↦ elim e [
        | inl q ↦ inl (inr q)
        | inr neither ↦ inr (λ one. elim one [ inl p ↦ never p | inr q ↦ neither q ])
      ]
    ]

-- some number below the bound has P, or none has
pub some_or_none : (P : ℕ → Type 0) → ((b : ℕ) → Decided (P b)) → (n : ℕ) → ((b : ℕ) × (b < n) × P b) ⊎ ((b : ℕ) → b < n → P b → ⊥)
some_or_none P decide zero = inr (λ b below p. absurd (omega arith))
some_or_none P decide (suc n) =
    elim (some_or_none P decide n) [
      | inl found ↦ inl (found.0, omega (arith, found.1), found.2)
      | inr none ↦ elim (decide n) [
        | inl p ↦ inl (n, omega arith, p)
        | inr never ↦ inr (λ b below p. elim (cases_eq b n) [ inl same ↦ never (subst P same p) | inr other ↦ none b (omega arith) p ])
      ]
    ]

-- whether some number has P is decided, where only numbers below a bound can
pub decided_some : (P : ℕ → Type 0) → ((b : ℕ) → Decided (P b)) → (n : ℕ) → ((b : ℕ) → P b → b < n) → Decided ((b : ℕ) × P b)
decided_some P decide n within =
    elim (some_or_none P decide n) [
      | inl found ↦ inl (found.0, found.2)
      | inr none ↦ inr (λ p. none p.0 (within p.0 p.1) p.1)
    ]

-- ---- marks

-- the mark of a decided fact
mark_of : {P : Type 0} → Decided P → Bool
mark_of (inl p) = true
mark_of (inr never) = false

mark_is : {P : Type 0} → (d : Decided P) → IsTrue (mark_of d) ↔ P
unfolding mark_of
mark_is (inl p) = (λ _. p, λ _. refl)
mark_is (inr never) = (λ marked. absurd (true≢false (sym marked)), λ p. absurd (never p))

-- as many marks, each of which says whether its number has P
pub record SayWhether (P : ℕ → Type 0) (n : ℕ) (marks : List Bool) : Type 0 where
  pub size : length marks ≡ n
  pub each : (b : ℕ) → b < n → IsTrue (get_or marks b false) ↔ P b

pub marks_by : (n : ℕ) (P : ℕ → Type 0) → ((b : ℕ) → Decided (P b)) → (marks : List Bool) × SayWhether P n marks
marks_by zero P decide = ([], record { size = refl; each = λ b below. absurd (omega arith) })
marks_by (suc n) P decide =
    let behind = marks_by n (λ b. P (suc b)) (λ b. decide (suc b)) in
    (mark_of (decide 0) ∷ behind.0, record { size = ap suc behind.1.size; each = each_mark behind.0 behind.1.each })
  where
    each_mark : (marks : List Bool) → ((b : ℕ) → b < n → IsTrue (get_or marks b false) ↔ P (suc b)) → (b : ℕ) → b < suc n → IsTrue (get_or (mark_of (decide 0) ∷ marks) b false) ↔ P b
    each_mark marks each zero below = mark_is (decide 0)
    each_mark marks each (suc b) below = each b (omega arith)

-- ---- a rule that adds marks

-- marks that only true facts have, and to which the rule adds none
pub record Closure (n : ℕ) (T : ℕ → Type 0) (Adds : List Bool → ℕ → Type 0) (marks : List Bool) : Type 0 where
  pub size : length marks ≡ n
  pub true_facts : (b : ℕ) → IsMarked marks b → T b
  pub closed : (b : ℕ) → b < n → Adds marks b → IsMarked marks b

module _ (n : ℕ) (T : ℕ → Type 0) (Adds : List Bool → ℕ → Type 0)
    (decide : (marks : List Bool) (b : ℕ) → Decided (Adds marks b))
    (sound : (marks : List Bool) → ((b : ℕ) → IsMarked marks b → T b) → (b : ℕ) → Adds marks b → T b) where
  -- the number isn't marked, and the rule adds it
  IsNew : List Bool → ℕ → Type 0
  IsNew marks b = (get_or marks b false ≡ false) × Adds marks b

  cases_mark : (mark : Bool) → (mark ≡ true) ⊎ (mark ≡ false)
  cases_mark true = inl refl
  cases_mark false = inr refl

  not_marked : (mark : Bool) → Decided (mark ≡ false)
  not_marked true = inr (λ same. true≢false same)
  not_marked false = inl refl

  decided_new : (marks : List Bool) (b : ℕ) → Decided (IsNew marks b)
  unfolding IsNew
  decided_new marks b = decided_both (not_marked (get_or marks b false)) (decide marks b)

  -- where none is new, the marks are closed
  closed_now : (marks : List Bool) → length marks ≡ n → ((b : ℕ) → IsMarked marks b → T b) → ((b : ℕ) → b < n → IsNew marks b → ⊥) → (new : List Bool) × Closure n T Adds new
  unfolding IsNew
  closed_now marks size known none = (
    marks,
    record {
      size = size;
      true_facts = known;
      closed = λ b below adds. elim (cases_mark (get_or marks b false)) [ inl marked ↦ marked | inr new ↦ absurd (none b below (new, adds)) ];
    },
  )

  -- with one mark more only true facts are marked
  known_more : (marks : List Bool) → ((b : ℕ) → IsMarked marks b → T b) → (b : ℕ) → b < length marks → IsNew marks b → (k : ℕ) → IsMarked (set marks b true) k → T k
  unfolding IsNew
  known_more marks known b below new k marked =
      elim (cases_eq k b) [
        | inl same ↦ subst T (sym same) (sound marks known b new.1)
        | inr other ↦ known k (sym (get_or-set_other marks b k true false other) ∙ marked)
      ]

  -- fewer are left
  fewer : (marks : List Bool) (b : ℕ) → b < length marks → IsNew marks b → unmarked (set marks b true) + 1 ≡ unmarked marks
  unfolding IsNew
  fewer marks b below new = unmarked-set marks b below new.0

  -- one mark after another is added, until none is left to add
  pub closed_from : (left : ℕ) (marks : List Bool) → length marks ≡ n → unmarked marks ≤ left → ((b : ℕ) → IsMarked marks b → T b) → (new : List Bool) × Closure n T Adds new
  closed_from zero marks size few known =
      elim (some_or_none (IsNew marks) (decided_new marks) n) [
        | inl found ↦ absurd (omega (arith, few, fewer marks found.0 (omega (arith, size, found.1)) found.2))
        | inr none ↦ closed_now marks size known none
      ]
  closed_from (suc left) marks size few known =
      elim (some_or_none (IsNew marks) (decided_new marks) n) [
        | inl found ↦ (let below : found.0 < length marks = omega (arith, size, found.1) in
            closed_from left (set marks found.0 true) (length-set marks found.0 true ∙ size) (omega (arith, few, fewer marks found.0 below found.2)) (known_more marks known found.0 below found.2))
        | inr none ↦ closed_now marks size known none
      ]

-- ---- bonds

-- a mark is set
decided_true : (mark : Bool) → Decided (IsTrue mark)
decided_true true = inl refl
decided_true false = inr (λ same. true≢false (sym same))

decided_ends : (edge : Edge) (x y : ℕ) → Decided (HasEnds edge x y)
decided_ends edge x y =
    decided_either (decided_both (cases_eq edge.first x) (cases_eq edge.second y)) (decided_both (cases_eq edge.first y) (cases_eq edge.second x))

-- a fact of the bond at a place is decided, where it is decided of each bond
decided_at : (bonds : List Edge) (b : ℕ) (P : Edge → Type 0) → ((edge : Edge) → Decided (P edge)) → Decided ((edge : Edge) × (slice_get bonds b ≡ Some edge) × P edge)
decided_at bonds b P decide = by_found (slice_get bonds b) refl
  where
    by_found : (found : Option Edge) → slice_get bonds b ≡ found → Decided ((edge : Edge) × (slice_get bonds b ≡ Some edge) × P edge)
    by_found None at = inr (λ there. absurd (let one = sym at ∙ there.1 in cc))
    by_found (Some edge) at =
        elim (decide edge) [
          | inl holds ↦ inl (edge, at, holds)
          | inr never ↦ inr (λ there. never (let one : Some edge ≡ Some there.0 = sym at ∙ there.1 in let same : edge ≡ there.0 = cc in subst P (sym same) there.2))
        ]

pub decided_joins : (bonds : List Edge) (b x y : ℕ) → Decided (Joins bonds b x y)
decided_joins bonds b x y =
    decided_as (λ there. record { edge = there.0; at = there.1; ends = there.2 })
    (λ joins. (joins.edge, joins.at, joins.ends)) (decided_at bonds b (λ edge. HasEnds edge x y)
    (λ edge. decided_ends edge x y))

pub decided_kind : (bonds : List Edge) (b kind : ℕ) → Decided (HasKind bonds b kind)
decided_kind bonds b kind =
    decided_as (λ there. record { edge = there.0; at = there.1; is = there.2 }) (λ has. (has.edge, has.at, has.is)) (decided_at bonds b (λ edge. edge.kind ≡ kind) (λ edge. cases_eq edge.kind kind))

decided_takes : (bonds : List Edge) (set' : ℕ → Bool) (b label : ℕ) → Decided (Takes bonds set' b label)
decided_takes bonds set' b label = decided_either (decided_true (set' b)) (decided_kind bonds b label)

decided_not_among : (atoms : List ℕ) (y : ℕ) → Decided (NotAmong atoms y)
decided_not_among atoms y =
    elim (some_or_none (λ i. get_or atoms i 0 ≡ y) (λ i. cases_eq (get_or atoms i 0) y) (length atoms)) [
      | inl found ↦ inr (λ none. none found.0 found.1 found.2)
      | inr none ↦ inl (λ i below same. none i below same)
    ]

-- the ends of a bond are among the atoms
pub end_within : (atoms : ℕ) (bonds : List Edge) (b x y : ℕ) → AreBetween atoms bonds → Joins bonds b x y → y < atoms + 1
end_within atoms bonds b x y ends joins =
    let below = joins_within bonds b x y joins in
    let at : get_or bonds b joins.edge ≡ joins.edge = get_or-from_get bonds b joins.edge joins.edge joins.at in
    let between = rw at at (ends b joins.edge below) in
    elim joins.ends [ inl e ↦ omega (arith, e.1, between.second) | inr e ↦ omega (arith, e.0, between.first) ]

module _ (atoms : ℕ) (bonds : List Edge) (ends : AreBetween atoms bonds) (set' : ℕ → Bool) (start : ℕ) where
  pub decided_close : (left : ℕ) (path : List ℕ) (at label : ℕ) → Decided (CanClose bonds set' start path at label left)
  decided_close zero path at label =
      decided_some (λ b. ClosesBy bonds set' start path at label zero b)
      (λ b. decided_both (decided_joins bonds b at start) (decided_takes bonds set' b label)) (length bonds)
      (λ b closes. joins_within bonds b at start closes.0)
  decided_close (suc left) path at label =
      decided_some (λ b. ClosesBy bonds set' start path at label (suc left) b)
      (λ b.
      decided_as (λ there. (there.0, there.1.0, there.1.1, there.1.2.0, there.1.2.1)) (λ closes. (closes.0, (closes.1, closes.2, (closes.3, closes.4))))
      (decided_some (λ y. Joins bonds b at y × Takes bonds set' b label × (NotAmong path y × CanClose bonds set' start (y ∷ path) y (3 - label) left))
      (λ y. decided_three (decided_joins bonds b at y) (decided_takes bonds set' b label) (decided_both (decided_not_among path y) (decided_close left (y ∷ path) y (3 - label))))
      (atoms + 1) (λ y there. end_within atoms bonds b at y ends there.0)))
      (length bonds) (λ b closes. joins_within bonds b at closes.0 closes.1)
    where
      decided_three : {P Q R : Type 0} → Decided P → Decided Q → Decided R → Decided (P × Q × R)
      decided_three d e f = decided_as (λ all. (all.0, all.1.0, all.1.1)) (λ all. (all.0, (all.1, all.2))) (decided_both d (decided_both e f))

-- a bond closes a six-ring, or it doesn't
pub decided_closes : (atoms : ℕ) (bonds : List Edge) → AreBetween atoms bonds → (set' : ℕ → Bool) (b : ℕ) → Decided (ClosesRing bonds set' b)
decided_closes atoms bonds ends set' b =
    decided_as (λ there. record { edge = there.0; at = there.1; kind = there.2.0; closes = there.2.1 }) (λ c. (c.edge, c.at, (c.kind, c.closes)))
    (decided_at bonds b (λ edge. ((edge.kind ≡ 1) ⊎ (edge.kind ≡ 2)) × CanClose bonds set' edge.first (edge.second ∷ edge.first ∷ []) edge.second (3 - edge.kind) 4)
    (λ edge. decided_both (decided_either (cases_eq edge.kind 1) (cases_eq edge.kind 2))
    (decided_close atoms bonds ends set' edge.first 4 (edge.second ∷ edge.first ∷ []) edge.second (3 - edge.kind))))
