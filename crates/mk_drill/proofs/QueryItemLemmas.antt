-- Demands on the items of lists that are written out.
--     EachFrom P n xs              P holds of each item, where the first has the number n
--     each_item                    so of the item of each number
use Rattle.std.proofs.Common.{[], ◌∷◌, ◌≡◌, ℕ, zero, suc, ◌+◌, ◌-◌, List, Some, arith, subst}
use Rattle.std.specs.Prelude.{slice_get}
use Rattle.mk_text.specs.Items.{OfItem}

-- P holds of each item with its number, where the first has the number n
abbrev pub EachFrom : {X : Type 0} → (ℕ → X → Type 0) → ℕ → List X → Type 0
EachFrom P n [] = Unit {0}
EachFrom P n (x ∷ xs) = P n x × EachFrom P (n + 1) xs

item_from : {X : Type 0} (P : ℕ → X → Type 0) (n : ℕ) (xs : List X) → EachFrom P n xs → (k : ℕ) (x : X) → slice_get xs k ≡ Some x → P (n + k) x
item_from P n [] each k x at = absurd cc
item_from P n (first ∷ xs) each zero x at =
    let same : first ≡ x = cc in
    let place : n ≡ n + 0 = omega arith in
    subst (λ m. P m x) place (subst (P n) same each.0)
item_from P n (first ∷ xs) each (suc k) x at =
    let place : (n + 1) + k ≡ n + suc k = omega arith in
    subst (λ m. P m x) place (item_from P (n + 1) xs each.1 k x at)

-- so it holds of the item of each number
pub each_item : {X : Type 0} (P : ℕ → X → Type 0) (xs : List X) → EachFrom P 1 xs → (item : ℕ) → OfItem (P item) xs item
each_item P xs each item = λ x least at.
    let place : 1 + (item - 1) ≡ item = omega (arith, least) in
    subst (λ m. P m x) place (item_from P 1 xs each (item - 1) x at)
