-- The attachment points of a table that passes, as its template has them.
--     points_few           there are two at most
--     points_in_range      they are atoms, and each bears a point
use Rattle.std.proofs.Common.{◌≡◌, ◌≤◌, ◌<◌, ◌+◌, ◌-◌, ℕ, zero, suc, Bool, true, false, cond, List, [], ◌∷◌, ◌++◌, Some, refl, ap, ◌∙◌, length, arith, ⊎_elim}
use Rattle.std.specs.Prelude.{All, slice_get}
use Rattle.std.specs.List.{filter, range_with_len}
use Rattle.std.proofs.lemmas.List.{append-nil, length-append}
use Rattle.std.proofs.lemmas.List.Elements.{All-append, All-filter, filter_passes}
use Rattle.std.proofs.lemmas.List.FromFn.{get_or-range_with_len, length-range_with_len}
use Rattle.std.proofs.lemmas.Option.{slice_get_cases}
use Rattle.mk_tables.specs.declared.raw.RawAtom.{RawAtom}
use Rattle.mk_tables.specs.declared.raw.RawTable.{RawTable}
use Rattle.mk_query.specs.Compiled.{points_of}
use Rattle.mk_query.specs.Drawn.{bears_point}
use Rattle.mk_query.specs.FirstFault.{attachment_points}
use Rattle.mk_query.specs.LinkChecks.{BearsSome, IsPointed}
use Rattle.mk_query.specs.Passed.{HasPassed}
use Rattle.mk_query.proofs.RangeLemmas.{filter_more}

-- the line of an atom
pub atom_line : (table : RawTable) (x : ℕ) → 1 ≤ x → x ≤ length table.atoms → (line : RawAtom) × (slice_get table.atoms (x - 1) ≡ Some line)
atom_line table x least most =
    ⊎_elim
    (λ found. (found.0, found.2))
    (λ none. absurd (omega (arith, none.0, least, most)))
    (slice_get_cases table.atoms (x - 1)).1

-- what is demanded of the points of an atom
pub pointed_at : (table : RawTable) (x : ℕ) → (passed : HasPassed table) → 1 ≤ x → x ≤ length table.atoms → IsPointed passed.is_root table x
pointed_at table x passed least most = (let there = atom_line table x least most in passed.passes attachment_points x there.0 least there.1)

-- ---- numbers that pass a test

not_true : (b : Bool) → (b ≡ true → ⊥) → b ≡ false
not_true true not = absurd (not refl)
not_true false not = refl

-- none does
none_pass : (p : ℕ → Bool) (n : ℕ) → ((y : ℕ) → 1 ≤ y → y ≤ n → p y ≡ false) → filter p (range_with_len 1 n) ≡ []
none_pass p zero none = refl
none_pass p (suc n) none =
    let on : suc n ≡ n + 1 = omega arith in
    let last : p (n + 1) ≡ false = none (n + 1) (omega arith) (omega arith) in
    let others : filter p (range_with_len 1 n) ≡ [] = none_pass p n (λ y least most. none y least (omega (arith, most))) in
    ap (λ (m : ℕ). filter p (range_with_len 1 m)) on ∙ filter_more p n ∙ ap (λ (l : List ℕ). l ++ cond (p (n + 1)) ((n + 1) ∷ []) []) others ∙ ap (λ (b : Bool). cond b ((n + 1) ∷ []) []) last

one_more : (p : ℕ → Bool) (n : ℕ) (b : Bool) → p (n + 1) ≡ b → ((y : ℕ) → 1 ≤ y → y ≤ n → b ≡ true → p y ≡ false)
    → length (filter p (range_with_len 1 n)) ≤ 1 → length (filter p (range_with_len 1 (n + 1))) ≤ 1
one_more p n true is alone few =
    let others : filter p (range_with_len 1 n) ≡ [] = none_pass p n (λ y least most. alone y least most refl) in
    let next : filter p (range_with_len 1 (n + 1)) ≡ (n + 1) ∷ [] = filter_more p n
    ∙ ap (λ (l : List ℕ). l ++ cond (p (n + 1)) ((n + 1) ∷ []) []) others
    ∙ ap (λ (b : Bool). cond b ((n + 1) ∷ []) []) is in
    omega (arith, ap (λ (l : List ℕ). length l) next)
one_more p n false is alone few =
    let next : filter p (range_with_len 1 (n + 1)) ≡ filter p (range_with_len 1 n) ++ [] = filter_more p n ∙ ap (λ (b : Bool). filter p (range_with_len 1 n) ++ cond b ((n + 1) ∷ []) []) is in
    omega (arith, few, ap (λ (l : List ℕ). length l) (next ∙ append-nil (filter p (range_with_len 1 n))))

-- one does at most, where no lower one does
one_passes : (p : ℕ → Bool) (n : ℕ) → ((x y : ℕ) → 1 ≤ y → y < x → x ≤ n → p x ≡ true → p y ≡ true → ⊥) → length (filter p (range_with_len 1 n)) ≤ 1
one_passes p zero alone = omega arith
one_passes p (suc n) alone =
    let on : n + 1 ≡ suc n = omega arith in
    let few = one_passes p n (λ x y least below most is. alone x y least below (omega (arith, most)) is) in
    rw on at
    (one_more p n (p (n + 1)) refl (λ y least most is. not_true (p y) (λ there. alone (n + 1) y least (omega (arith, most)) (omega arith) is there)) few)

-- ---- the points of a table

bears_once : (table : RawTable) (p : ℕ) → HasPassed table → 1 ≤ p → p ≤ 2 → length (filter (bears_point table p) (range_with_len 1 (length table.atoms))) ≤ 1
bears_once table p passed least most =
    one_passes (bears_point table p) (length table.atoms)
    (λ x y from below to is there. (pointed_at table x passed (omega (arith, from, below)) to).alone p y least most from below is there)

-- there are two at most
pub points_few : (table : RawTable) → HasPassed table → length (points_of table) ≤ 2
points_few table passed =
    omega (
      arith,
      bears_once table 1 passed (omega arith) (omega arith),
      bears_once table 2 passed (omega arith) (omega arith),
      length-append (filter (bears_point table 1) (range_with_len 1 (length table.atoms))) (filter (bears_point table 2) (range_with_len 1 (length table.atoms))),
    )

-- an atom that bears a point
abbrev pub IsBearer : RawTable → ℕ → Type 0
IsBearer table x = ((1 ≤ x) × (x ≤ length table.atoms)) × BearsSome table x

in_range : (n : ℕ) → All (λ x. (1 ≤ x) × (x ≤ n)) (range_with_len 1 n)
in_range n k d below =
    let inside : k < n = omega (arith, below, length-range_with_len 1 n) in
    let is = get_or-range_with_len 1 n k d inside in
    (omega (arith, is), omega (arith, is, inside))

bearers : (table : RawTable) (p : ℕ) → 1 ≤ p → p ≤ 2 → All (IsBearer table) (filter (bears_point table p) (range_with_len 1 (length table.atoms)))
bearers table p least most k d below = (
  All-filter (bears_point table p) (λ (x : ℕ). (1 ≤ x) × (x ≤ length table.atoms)) (range_with_len 1 (length table.atoms)) (in_range (length table.atoms)) k d below,
  (p, least, most, filter_passes (bears_point table p) (range_with_len 1 (length table.atoms)) k d below),
)

-- they are atoms, and each bears a point
pub points_in_range : (table : RawTable) → All (IsBearer table) (points_of table)
points_in_range table =
    All-append (IsBearer table) (filter (bears_point table 1) (range_with_len 1 (length table.atoms))) (filter (bears_point table 2) (range_with_len 1 (length table.atoms)))
    (bearers table 1 (omega arith) (omega arith)) (bearers table 2 (omega arith) (omega arith))
