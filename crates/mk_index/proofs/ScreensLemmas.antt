-- Columns and screens together: one put in, changed and taken out.
--     put_columns, taken_columns
use Rattle.std.proofs.Common.{◌≡◌, ℕ, ◌+◌, ◌-◌, ◌*◌, ◌/◌, ◌%◌, ◌<◌, ◌≤◌, inl, inr, eqb, zero, suc, List, [], ◌∷◌, ◌++◌, length, get_or, replicate, refl, ap, ◌∙◌, arith}
use Rattle.std.specs.List.{insert, remove}
use Rattle.std.specs.Int.{bit_at}
use Rattle.std.proofs.lemmas.Bool.{cases_eq, cases_lt, eq-eqb, le-ltb, lt-ltb, ne_eqb}
use Rattle.std.proofs.lemmas.List.{length-append}
use Rattle.std.proofs.lemmas.List.Edits.{get_or-insert_above, get_or-insert_at, get_or-insert_below, get_or-remove_above, get_or-remove_below, length-insert, length-remove}
use Rattle.mk_model.specs.declared.screen.Screen.{Screen}
use Rattle.mk_model.specs.Screens.{has_bit}
use Rattle.mk_index.specs.Columns.{AreColumns, IsClear, IsClosed, IsInserted, cell}

-- ---- more words

-- words of no bit behind the columns change nothing
with_zeros : (columns : List ℕ) (n k : ℕ) → get_or (columns ++ replicate n 0) k 0 ≡ get_or columns k 0
with_zeros [] zero k = refl
with_zeros [] (suc n) zero = refl
with_zeros [] (suc n) (suc k) = with_zeros [] n k
with_zeros (word ∷ columns) n zero = refl
with_zeros (word ∷ columns) n (suc k) = with_zeros columns n k

pub grown : (screens : List Screen) (columns : List ℕ) (n : ℕ) → AreColumns screens columns → AreColumns screens (columns ++ replicate n 0)
grown screens columns n are = record {
  size = λ i within. (let size = are.size i within in omega (arith, length-append columns (replicate n 0)));
  cells = λ i b d within bit. ap (λ w. eqb (bit_at w (i % 64)) 1) (with_zeros columns n (512 * (i / 64) + b)) ∙ are.cells i b d within bit;
  clear = λ i behind b bit. ap (λ w. bit_at w (i % 64)) (with_zeros columns n (512 * (i / 64) + b)) ∙ are.clear i behind b bit;
}

-- ---- one is put in

pub put_columns : (screens : List Screen) (screen : Screen) (at : ℕ) (old new : List ℕ) → at ≤ length screens → AreColumns screens old
    → IsInserted at screen.bits old new → (length screens / 64 + 1) * 512 ≤ length new → AreColumns (insert screens at screen) new
put_columns screens screen at old new within are inserted size = record {
  size = λ i inside. (let long = length-insert screens at screen within in omega arith);
  cells = λ i b d inside bit. cell_is i b d inside bit;
  clear = λ i behind b bit.
      (let long = length-insert screens at screen within in
      rw (inserted i b bit, le-ltb i at (omega arith), ne_eqb i at (λ same. absurd (omega arith))) (are.clear (i - 1) (omega arith) b bit));
}
  where
    cell_is : (i b : ℕ) (d : Screen) → i < length (insert screens at screen) → b < 512 → eqb (cell new i b) 1 ≡ has_bit (get_or (insert screens at screen) i d).bits b
    cell_is i b d inside bit =
        let long = length-insert screens at screen within in
        rw (inserted i b bit) (elim (cases_lt i at) [
          | inl before ↦ rw (lt-ltb i at before, get_or-insert_below screens at screen d i before within) (are.cells i b d (omega arith) bit)
          | inr from ↦ rw (le-ltb i at from) (elim (cases_eq i at) [
            | inl same ↦ rw (eq-eqb i at same, same, get_or-insert_at screens at screen d within) refl
            | inr other ↦
                (let behind : i - 1 + 1 ≡ i = omega arith in
                let moved : get_or (insert screens at screen) i d ≡ get_or screens (i - 1) d = rw behind at (get_or-insert_above screens at screen d (i - 1) (omega arith) within) in
                rw (ne_eqb i at other, moved) (are.cells (i - 1) b d (omega arith) bit))
          ])
        ])

-- ---- one is taken out

pub taken_columns : (screens : List Screen) (at : ℕ) (old new : List ℕ) → at < length screens → AreColumns screens old
    → IsClosed ((length screens - 1) / 64 + 1) at old new → IsClear new (64 * ((length screens - 1) / 64 + 1) - 1)
    → ((i b : ℕ) → 64 * ((length screens - 1) / 64 + 1) ≤ i → b < 512 → cell new i b ≡ cell old i b) → length new ≡ length old → AreColumns (remove screens at) new
taken_columns screens at old new within are closed last rest same_size = record {
  size = λ i inside. (let long = length-remove screens at within in let size = are.size i (omega arith) in omega arith);
  cells = λ i b d inside bit. cell_is i b d inside bit;
  clear = λ i behind b bit. (let long = length-remove screens at within in none i (omega arith) b bit);
}
  where
    none : (i : ℕ) → length screens - 1 ≤ i → IsClear new i
    none i behind b bit = elim (cases_lt (i + 1) (64 * ((length screens - 1) / 64 + 1))) [
      | inl own ↦ rw (closed i b own bit, le-ltb i at (omega arith)) (are.clear (i + 1) (omega arith) b bit)
      | inr later ↦ elim (cases_eq i (64 * ((length screens - 1) / 64 + 1) - 1)) [
        | inl same ↦ rw same (last b bit)
        | inr other ↦ rest i b (omega arith) bit ∙ are.clear i (omega arith) b bit
      ]
    ]

    cell_is : (i b : ℕ) (d : Screen) → i < length (remove screens at) → b < 512 → eqb (cell new i b) 1 ≡ has_bit (get_or (remove screens at) i d).bits b
    cell_is i b d inside bit =
        let long = length-remove screens at within in
        let rows : i + 1 < 64 * ((length screens - 1) / 64 + 1) = omega arith in
        rw (closed i b rows bit) (elim (cases_lt i at) [
          | inl before ↦ rw (lt-ltb i at before, get_or-remove_below screens at d i before within) (are.cells i b d (omega arith) bit)
          | inr from ↦ rw (le-ltb i at from, get_or-remove_above screens at d i from within) (are.cells (i + 1) b d (omega arith) bit)
        ])
