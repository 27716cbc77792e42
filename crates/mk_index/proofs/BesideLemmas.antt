-- Screens beside rows.
--     beside_size, beside_at                        as many, and each that of its row's molecule
--     beside_put, beside_replaced, beside_without   one more, another, and one less
use Rattle.std.proofs.Common.{◌≡◌, ◌≢◌, ℕ, zero, suc, ◌<◌, ◌≤◌, inl, inr, true, false, List, [], ◌∷◌, length, get_or, set, nat_eq, nat_lt, refl, sym, ap, subst, arith, add-one}
use Rattle.std.specs.Prelude.{IfSome, Option}
use Rattle.std.specs.List.{AllByRecursion, insert, remove}
use Rattle.std.proofs.lemmas.Bool.{cases_Bool, eqb-true, ltb-false, ltb-true, lt-ltb, le-ltb, eq-eqb}
use Rattle.std.proofs.lemmas.Grind.{common_steps}
use Rattle.mk_model.specs.Molecules.{Molecule}
use Rattle.mk_model.specs.declared.screen.Screen.{Screen}
use Rattle.mk_model.specs.Screens.{IsScreenOf}
use Rattle.mk_rows.specs.declared.by_number.Numbered.{Numbered}
use Rattle.mk_rows.specs.Rows.{holds, IsRising, item_at, place_of, put_in_order, replaced, without}
use Rattle.mk_index.specs.Shelf.{AreScreens}
use Rattle.mk_rows.proofs.ForCallers.{held_within, item_there, none_above, none_of, without_none}

pub beside_size : (rows : List (Numbered Molecule)) (screens : List Screen) → AreScreens rows screens → length screens ≡ length rows
beside_size [] [] are = refl
beside_size [] (screen ∷ screens) are = absurd are
beside_size (row ∷ rows) [] are = absurd are
beside_size (row ∷ rows) (screen ∷ screens) are = ap suc (beside_size rows screens are.1)

pub beside_at : (rows : List (Numbered Molecule)) (screens : List Screen) → AreScreens rows screens
    → (i : ℕ) (d : Numbered Molecule) (e : Screen) → i < length rows
    → IsScreenOf (get_or rows i d).item (get_or screens i e)
beside_at [] screens are i d e within = absurd (omega arith)
beside_at (row ∷ rows) [] are i d e within = absurd are
beside_at (row ∷ rows) (screen ∷ screens) are zero d e within = are.0
beside_at (row ∷ rows) (screen ∷ screens) are (suc i) d e within = beside_at rows screens are.1 i d e (omega arith)

-- a row that stands before a number that is held is below it
over_held : (n : ℕ) (x : Numbered Molecule) (others : List (Numbered Molecule)) → AllByRecursion (λ later. x.number < later.number) others → holds n others ≡ true → nat_lt x.number n ≡ true
over_held n x [] h held = absurd cc
over_held n x (y ∷ others) h held = elim (cases_Bool (nat_eq y.number n)) [
  | inl same ↦ (let is_same : y.number ≡ n = eqb-true y.number n same in lt-ltb x.number n (let less : x.number < y.number = h.0 in omega arith))
  | inr differs ↦ over_held n x others h.1 (grind (arith, common_steps, held, differs))
]

module _ (row : Numbered Molecule) (screen : Screen) (is : IsScreenOf row.item screen) where
  -- one more
  pub beside_put : (rows : List (Numbered Molecule)) (screens : List Screen) → AreScreens rows screens → holds row.number rows ≡ false
      → AreScreens (put_in_order row rows) (insert screens (place_of row.number rows) screen)
  beside_put [] [] are new = (is, tt)
  beside_put [] (other ∷ screens) are new = absurd are
  beside_put (x ∷ rows) [] are new = absurd are
  beside_put (x ∷ rows) (other ∷ screens) are new =
      let parts = none_of row.number x rows new in
      elim (cases_Bool (nat_lt row.number x.number)) [
        | inl before ↦
            (let not_under : nat_lt x.number row.number ≡ false = (let less : row.number < x.number = ltb-true row.number x.number before in le-ltb x.number row.number (omega arith)) in
            rw (before, not_under) (is, are))
        | inr from ↦
            (let under : nat_lt x.number row.number ≡ true = (let more : x.number ≤ row.number = ltb-false row.number x.number from in
            let differ : x.number ≢ row.number = λ same. (let e = eq-eqb x.number row.number same in absurd cc (parts.0, e)) in lt-ltb x.number row.number (omega arith)) in
            rw (from, under, add-one (place_of row.number rows)) (are.0, beside_put rows screens are.1 parts.1))
      ]

  -- another one
  pub beside_replaced : (rows : List (Numbered Molecule)) (screens : List Screen) → AreScreens rows screens → IsRising rows → holds row.number rows ≡ true
      → AreScreens (replaced row rows) (set screens (place_of row.number rows) screen)
  beside_replaced [] screens are rising held = absurd cc
  beside_replaced (x ∷ rows) [] are rising held = absurd are
  beside_replaced (x ∷ rows) (other ∷ screens) are rising held =
      elim (cases_Bool (nat_eq x.number row.number)) [
        | inl same ↦
            (let not_under : nat_lt x.number row.number ≡ false = (let is_same : x.number ≡ row.number = eqb-true x.number row.number same in le-ltb x.number row.number (omega arith)) in
            rw (same, not_under) (is, are.1))
        | inr differs ↦
            (let later : holds row.number rows ≡ true = grind (arith, common_steps, held, differs) in
            let under : nat_lt x.number row.number ≡ true = over_held row.number x rows rising.0 later in
            rw (differs, under, add-one (place_of row.number rows)) (are.0, beside_replaced rows screens are.1 rising.1 later))
      ]

-- one less
pub beside_without : (n : ℕ) (rows : List (Numbered Molecule)) (screens : List Screen) → AreScreens rows screens → IsRising rows → holds n rows ≡ true
    → AreScreens (without n rows) (remove screens (place_of n rows))
beside_without n [] screens are rising held = absurd cc
beside_without n (x ∷ rows) [] are rising held = absurd are
beside_without n (x ∷ rows) (other ∷ screens) are rising held =
    elim (cases_Bool (nat_eq x.number n)) [
      | inl same ↦
          (let is_same : x.number ≡ n = eqb-true x.number n same in
          let not_under : nat_lt x.number n ≡ false = le-ltb x.number n (omega arith) in
          let above : AllByRecursion (λ later. n < later.number) rows = subst (λ (m : ℕ). AllByRecursion (λ (later : Numbered Molecule). m < later.number) rows) is_same rising.0 in
          let rest : without n rows ≡ rows = without_none n rows (none_above n rows above) in
          rw (same, not_under, rest) are.1)
      | inr differs ↦
          (let later : holds n rows ≡ true = grind (arith, common_steps, held, differs) in
          let under : nat_lt x.number n ≡ true = over_held n x rows rising.0 later in
          rw (differs, under, add-one (place_of n rows)) (are.0, beside_without n rows screens are.1 rising.1 later))
    ]

-- the screen at the place of a number is that of its molecule
pub beside_item : (n : ℕ) (rows : List (Numbered Molecule)) (screens : List Screen) → AreScreens rows screens
    → IsRising rows → holds n rows ≡ true → (screen : Screen) → screen ≡ get_or screens (place_of n rows) screen
    → IfSome (item_at n rows) (λ mol. IsScreenOf mol screen)
beside_item n rows screens are rising held screen is =
    let d : Numbered Molecule = record { number = 0; item = record { written = 0; atoms = []; bonds = [] } } in
    let P : Option Molecule → Type 0 = λ found. IfSome found (λ mol. IsScreenOf mol screen) in
    subst P (sym (item_there n rows d rising held))
    (subst (IsScreenOf (get_or rows (place_of n rows) d).item) (sym is) (beside_at rows screens are (place_of n rows) d screen (held_within n rows held)))
