-- The lines around the tables: one keyword is no other, and the number of a group is computed.
use Rattle.std.proofs.Common.{◌≡◌, ℕ, ◌-◌, ◌≤◌, Bool, true, false, ◌&&◌, eqb, leb, Option, Some, None, List, ◌∷◌, ◌++◌, length, drop, refl, ap, ◌∙◌, arith}
use Rattle.std.specs.Prelude.{ℤ, pos, negsuc, codes, nat_eq}
use Rattle.std.specs.List.{starts_with}
use Rattle.std.proofs.lemmas.Bool.{leb-true, le-leb}
use Rattle.std.proofs.lemmas.Bool.Decides.{Decides-eqb}
use Rattle.std.proofs.lemmas.List.{take_all}
use Rattle.std.proofs.lemmas.Slice.Eq.{starts_is}
use Rattle.mk_text.specs.Columns.{are_blank}
use Rattle.mk_text.specs.Fields.{signed_in, field_in, field_of}
use Rattle.mk_text.specs.Options.{◌>>=◌, when, count_in}
use Rattle.mk_text.proofs.ForCallers.{both, fields_are_read, trimmed-columns}
use Rattle.mk_tables.specs.TableLines.{Line}
use Rattle.mk_rgfile.specs.QueryLines.{is_keyword, IsGroupNumber, group_number_of}

-- ---- keywords

-- a line begins with the bytes that it is found to begin with
pub begins : (line word : List ℕ) → starts_with nat_eq line word ≡ true → line ≡ word ++ drop (length word) line
begins line word h = (starts_is Decides-eqb line word (starts_with nat_eq line word) refl).0 h

-- no two words that differ in their second byte begin one line
two_words : (a b c d : ℕ) (v w x y line : List ℕ) → line ≡ a ∷ b ∷ (v ++ x) → line ≡ c ∷ d ∷ (w ++ y) → eqb b d ≡ false → ⊥
two_words a b c d v w x y line e f apart =
    let same : b ≡ d = cc in
    let equal : eqb b d ≡ true = (Decides-eqb b d).1 same in
    cc

-- so a line is none of two such keywords at once
no_other_at : (t : Bool) (a b c d : ℕ) (v w : List ℕ) (line : Line) → is_keyword (c ∷ d ∷ w) line ≡ t → is_keyword (a ∷ b ∷ v) line ≡ true → eqb b d ≡ false → t ≡ false
no_other_at false a b c d v w line e h apart = refl
no_other_at true a b c d v w line e h apart =
    let one = begins line (a ∷ b ∷ v) (both (starts_with nat_eq line (a ∷ b ∷ v)) (are_blank (drop (length (a ∷ b ∷ v)) line)) h).0 in
    let two = begins line (c ∷ d ∷ w) (both (starts_with nat_eq line (c ∷ d ∷ w)) (are_blank (drop (length (c ∷ d ∷ w)) line)) e).0 in
    absurd (two_words a b c d v w (drop (length (a ∷ b ∷ v)) line) (drop (length (c ∷ d ∷ w)) line) line one two apart)

no_other : (a b c d : ℕ) (v w : List ℕ) (line : Line) → eqb b d ≡ false → is_keyword (a ∷ b ∷ v) line ≡ true → is_keyword (c ∷ d ∷ w) line ≡ false
no_other a b c d v w line apart h = no_other_at (is_keyword (c ∷ d ∷ w) line) a b c d v w line refl h apart

-- where a table begins, no group ends
pub ctab_no_end : (line : Line) → is_keyword (codes "$CTAB") line ≡ true → is_keyword (codes "$END RGP") line ≡ false
ctab_no_end line h = no_other 36 67 36 69 (codes "TAB") (codes "ND RGP") line refl h

-- where a group begins, no molecule ends
pub rgp_no_end : (line : Line) → is_keyword (codes "$RGP") line ≡ true → is_keyword (codes "$END MOL") line ≡ false
rgp_no_end line h = no_other 36 82 36 69 (codes "GP") (codes "ND MOL") line refl h

-- ---- the number of a group

-- the columns of a whole line are the line, and blanks
pub whole_field : (line : Line) (b : ℕ) → 1 ≤ b → length line ≤ b → field_of line 1 b ≡ field_in line
unfolding field_of
whole_field line b some enough = ap signed_in (trimmed-columns line 1 b (omega arith) some) ∙ ap field_in (take_all (b - 0) line (omega arith))

-- which number a count from 1 on comes from
count_found : (most n : ℕ) (z : ℤ) → count_in most z ≡ Some n → (z ≡ pos n) × (1 ≤ n) × (n ≤ most)
count_found most n (negsuc m) h = absurd cc
count_found most n (pos m) h = count_at most n m (leb 1 m) (leb m most) refl refl h
  where
    count_at : (most n m : ℕ) (a b : Bool) → leb 1 m ≡ a → leb m most ≡ b → when (a && b) (Some m) ≡ Some n → (pos m ≡ pos n) × (1 ≤ n) × (n ≤ most)
    count_at most n m true true e f h =
        let same : m ≡ n = cc in
        (ap pos same, omega (arith, leb-true 1 m e), omega (arith, leb-true m most f))
    count_at most n m true false e f h = absurd cc
    count_at most n m false b e f h = absurd cc

-- by what field the line is
number_at : (line : Line) (n : ℕ) (o : Option ℤ) → field_in line ≡ o → (o >>= count_in 32) ≡ Some n → IsGroupNumber line n
number_at line n None e h = absurd cc
number_at line n (Some z) e h =
    let c = count_found 32 n z h in
    record { field = (fields_are_read line (pos n)).0 (e ∙ ap Some c.0); from_one = c.1; to_32 = c.2 }

-- the number that is computed is that of the group
pub number_found : (line : Line) (n : ℕ) → group_number_of line ≡ Some n → IsGroupNumber line n
unfolding group_number_of
number_found line n h = number_at line n (field_in line) refl h

-- and the number of the group is computed
pub number_given : (line : Line) (n : ℕ) → IsGroupNumber line n → group_number_of line ≡ Some n
unfolding group_number_of
number_given line n h = rw ((fields_are_read line (pos n)).1 h.field, le-leb 1 n h.from_one, le-leb n 32 h.to_32) refl
