-- The steps of the search for a six-ring.
use Rattle.std.proofs.Common.{◌≡◌, ◌≢◌, ◌≤◌, ◌<◌, ◌+◌, ◌-◌, ℕ, zero, suc, Bool, true, eqb, List, ◌∷◌, refl, ap, sym, ◌∙◌, subst, ⊎_elim, arith, length, get_or, set, take, drop}
use Rattle.std.specs.Prelude.{◌↔◌, IsTrue, Contains}
use Rattle.std.proofs.lemmas.Bool.{eq-eqb, eqb-true}
use Rattle.std.proofs.lemmas.List.{drop-set, get_or_default, take_rest}
use Rattle.mk_model.specs.declared.edge.Edge.{Edge}
use Rattle.mk_model.specs.Edges.{Joins, numbers_at, touches}
use Rattle.mk_model.specs.Aromatic.{Takes}
use Rattle.mk_model.proofs.ForCallers.{numbers_at-all}
use Rattle.mk_marks.specs.SixRings.{CanClose, ClosesBy, NotAmong}
use Rattle.mk_marks.proofs.WayLemmas.{same_ends}
use Rattle.mk_marks.proofs.JoinLemmas.{joins_within}
use Rattle.mk_rings.proofs.GrowLemmas.{touches_joined}

module _ (bonds : List Edge) (s : ℕ → Bool) (start : ℕ) (path : List ℕ) (at label b y : ℕ) (joined : Joins bonds b at y) where
  -- the other end of the bond is its one
  end_is : (z : ℕ) → Joins bonds b at z → z ≡ y
  end_is z other = ⊎_elim (λ e. e.1) (λ e. e.1 ∙ e.0) (same_ends other joined)

  -- with no atom left the bond has to lead back
  pub back_to_start : (left : ℕ) → left ≡ 0 → Takes bonds s b label → IsTrue (eqb y start) ↔ ClosesBy bonds s start path at label left b
  back_to_start zero none takes = (
    λ same.
        let P : ℕ → Type 0 = λ z. Joins bonds b at z in
        (subst P (eqb-true y start same) joined, takes),
    λ by. eq-eqb y start (sym (end_is start by.0)),
  )
  back_to_start (suc left) none takes = absurd (omega arith)

  -- an atom of the path is none to go on from
  pub not_from_path : (left : ℕ) → left ≢ 0 → Contains path y → ClosesBy bonds s start path at label left b → ⊥
  not_from_path zero some among by = absurd (some refl)
  not_from_path (suc left) some among by =
      let same : by.0 ≡ y = end_is by.0 by.1 in
      by.3 among.0 among.1 (get_or_default path among.0 0 y among.1 ∙ among.2 ∙ sym same)

  -- a bond that doesn't take the label is none to go over
  pub not_over : (left : ℕ) → (Takes bonds s b label → ⊥) → ClosesBy bonds s start path at label left b → ⊥
  not_over zero not by = not by.1
  not_over (suc left) not by = not by.2

  -- a path that is closed over the bond is closed from its other end
  pub on_from : (left : ℕ) → left ≢ 0 → ClosesBy bonds s start path at label left b → CanClose bonds s start (y ∷ path) y (3 - label) (left - 1)
  on_from zero some by = absurd (some refl)
  on_from (suc left) some by =
      let one_less : suc left - 1 ≡ left = omega arith in
      let P : ℕ → Type 0 = λ n. CanClose bonds s start (y ∷ path) y (3 - label) n in
      let same : by.0 ≡ y = end_is by.0 by.1 in
      let Q : ℕ → Type 0 = λ z. CanClose bonds s start (z ∷ path) z (3 - label) left in
      subst P (sym one_less) (subst Q same by.4)

  -- from a new atom the path has to be closed
  pub on_from_new : (left : ℕ) → left ≢ 0 → Takes bonds s b label → NotAmong path y → CanClose bonds s start (y ∷ path) y (3 - label) (left - 1) ↔ ClosesBy bonds s start path at label left b
  on_from_new zero some takes new = absurd (some refl)
  on_from_new (suc left) some takes new =
      let one_less : suc left - 1 ≡ left = omega arith in
      let P : ℕ → Type 0 = λ n. CanClose bonds s start (y ∷ path) y (3 - label) n in (
        λ rest. (y, joined, takes, new, subst P one_less rest),
        λ by. on_from (suc left) some by,
      )

-- the path with one atom more in front
pub path_longer : (path : List ℕ) (left y : ℕ) → left ≢ 0 → left ≤ length path → drop (left - 1) (set path (left - 1) y) ≡ y ∷ drop left path
path_longer path left y some within =
    let back : left - 1 + 1 ≡ left = omega arith in
    drop-set path (left - 1) y (omega arith) ∙ ap (λ n. y ∷ drop n path) back

-- the path behind its places that are left, as a slice of it
pub path_rest : (path : List ℕ) (left : ℕ) → length path ≡ 6 → take (6 - left) (drop left path) ≡ drop left path
path_rest path left size = let P : ℕ → Type 0 = λ n. take (n - left) (drop left path) ≡ drop left path in subst P size (take_rest path left)

-- where no number of the atom closes the path it can't be closed
pub none_closes : (bonds : List Edge) (s : ℕ → Bool) (start : ℕ) (path : List ℕ) (at label left : ℕ) (numbers : List ℕ)
    (n : ℕ) → numbers ≡ numbers_at bonds at → length numbers ≤ n
    → ((i : ℕ) → i < n → ClosesBy bonds s start path at label left (get_or numbers i 0 - 1) → ⊥)
    → CanClose bonds s start path at label left → ⊥
none_closes bonds s start path at label left numbers n are all none can =
    let b = can.0 in
    let within = by_within left b can.1 in
    let d : Edge = record { first = 0; second = 0; kind = 0 } in
    let there = numbers_at-all bonds at b d within.0 (within.1 d) in
    let number : get_or numbers there.0 0 - 1 ≡ b = omega (arith, ap (λ xs. get_or xs there.0 0) are, there.2) in
    let below : there.0 < n = omega (arith, ap length are, there.1) in
    let P : ℕ → Type 0 = λ c. ClosesBy bonds s start path at label left c in
    none there.0 below (subst P (sym number) can.1)
  where
    by_within : (left b : ℕ) → ClosesBy bonds s start path at label left b → (b < length bonds) × ((d : Edge) → touches at (get_or bonds b d) ≡ true)
    by_within zero b by = (joins_within bonds b at start by.0, λ d. touches_joined bonds b at start d by.0)
    by_within (suc left) b by = (joins_within bonds b at by.0 by.1, λ d. touches_joined bonds b at by.0 d by.1)
