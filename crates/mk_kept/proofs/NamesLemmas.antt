-- Names of queries.
--     name_ascii     a name is ASCII
--     name_if        what the tests of a name come to
use Rattle.std.proofs.Common.{◌≡◌, ℕ, ◌<◌, ◌≤◌, Bool, true, false, ◌&&◌, List, [], ◌∷◌, length, arith}
use Rattle.std.specs.Prelude.{nat_le, ◌==◌}
use Rattle.std.specs.List.{list_all}
use Rattle.std.specs.Str.{IsAscii}
use Rattle.std.proofs.lemmas.Bool.{le-leb}
use Rattle.std.proofs.lemmas.Bool.Decides.{nat_tests}
use Rattle.std.proofs.lemmas.Str.Ascii.{IsAscii-cons, IsAscii-nil}
use Rattle.mk_text.proofs.ForCallers.{both}
use Rattle.mk_kept.specs.Names.{is_name, is_name_byte}

-- a list that isn't empty
pub some_bytes : (n : ℕ) → false ≡ (n == 0) → 0 < n
some_bytes n h = grind (arith, nat_tests)

small : (c : ℕ) → is_name_byte c ≡ true → c < 128
small c h = grind (arith, nat_tests)

ascii : (word : List ℕ) → list_all is_name_byte word ≡ true → IsAscii word
ascii [] all = IsAscii-nil
ascii (c ∷ word) all = let h = both (is_name_byte c) (list_all is_name_byte word) all in IsAscii-cons c word (small c h.0) (ascii word h.1)

-- a name is ASCII
pub name_ascii : (word : List ℕ) → is_name word ≡ true → IsAscii word
name_ascii word is =
    let h = both (nat_le 1 (length word)) (nat_le (length word) 64 && list_all is_name_byte word) is in
    ascii word (both (nat_le (length word) 64) (list_all is_name_byte word) h.1).1

pub name_if : (word : List ℕ) (b : Bool) → 0 < length word → length word ≤ 64 → b ≡ list_all is_name_byte word → b ≡ is_name word
name_if word b some few is = rw (le-leb 1 (length word) some, le-leb (length word) 64 few) is
