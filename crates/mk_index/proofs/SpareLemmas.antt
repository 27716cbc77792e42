-- The room of a shelf: the least of that of its rows, its screens and its columns.
--     spare_put, spare_taken, spare_made      after one more row, one less, and a reservation
use Rattle.std.proofs.Common.{◌≡◌, ℕ, ◌+◌, ◌-◌, ◌*◌, ◌/◌, ◌≤◌, inl, inr, List, length, Option, Some, None, min, refl, arith}
use Rattle.std.specs.Prelude.{IfNone}
use Rattle.std.proofs.lemmas.Bool.{cases_lt}
use Rattle.mk_model.specs.declared.screen.Screen.{Screen}
use Rattle.mk_index.specs.Columns.{AreColumns}

-- the room that is left where there are n rows
abbrev pub spare_of : ℕ → ℕ → ℕ → ℕ → ℕ
spare_of rows screens columns n = min rows (min (screens - n) (64 * (columns / 512) - n))

pub spare_put : (r r' s s' c c' n n' : ℕ) → r ≤ r' + 1 → s ≤ s' → c ≤ c' → n' ≡ n + 1 → spare_of r s c n ≤ spare_of r' s' c' n' + 1
spare_put r r' s s' c c' n n' rows screens columns more = omega arith

pub spare_taken : (r r' s s' c c' n n' : ℕ) → r + 1 ≤ r' → s' ≡ s → c' ≡ c → n' + 1 ≡ n → n ≤ s → n ≤ 64 * (c / 512) → spare_of r s c n + 1 ≤ spare_of r' s' c' n'
spare_taken r r' s s' c c' n n' rows screens columns less in_screens in_columns = omega arith

-- what can't be none asks nothing there
pub none_absurd : {A : Type 0} (r : Option A) (P : Type 0) → (r ≡ None → ⊥) → IfNone r P
none_absurd None P some = absurd (some refl)
none_absurd (Some x) P some = tt

pub spare_same : (r r' s s' c c' n n' : ℕ) → r' ≡ r → s' ≡ s → c' ≡ c → n' ≡ n → spare_of r' s' c' n' ≡ spare_of r s c n
spare_same r r' s s' c c' n n' rows screens columns same = cc

pub spare_made : (more words r s c n m : ℕ) → more ≤ r → n + more ≤ s → n + more ≤ 64 * (words / 512) → words ≤ c → m ≡ n → more ≤ spare_of r s c m
spare_made more words r s c n m rows screens room columns same = omega arith

-- the columns have room for the rows that stand in them
pub room_within : (screens : List Screen) (columns : List ℕ) (capacity : ℕ) → AreColumns screens columns → length columns ≤ capacity → length screens ≤ 64 * (capacity / 512)
room_within screens columns capacity are within = elim (cases_lt 0 (length screens)) [
  | inl some ↦ (let last = are.size (length screens - 1) (omega arith) in omega arith)
  | inr none ↦ omega arith
]
