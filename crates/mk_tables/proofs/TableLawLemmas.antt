-- The laws of the tables in a text, and what stands on a blank line.
use Rattle.std.proofs.Common.{◌≡◌, ℕ, ◌-◌, ◌≤◌, true, false, None, List, [], take, drop, refl, sym, ap, ◌∙◌, arith}
use Rattle.std.proofs.lemmas.List.{take-append-drop}
use Rattle.std.proofs.lemmas.List.Folds.{list_all-append}
use Rattle.mk_form.proofs.Stops.{one_part_from, bad_from_is_no_part, one_bad_line_from}
use Rattle.mk_text.specs.Columns.{standing, is_space, are_blank}
use Rattle.mk_text.proofs.ForCallers.{both, trimmed-columns, trimmed_blank}
use Rattle.mk_tables.specs.TableLaws.{OneTable, BadWhereNoTable, OneBadLine, BlankIsNoCountsLine, table_form}
use Rattle.mk_tables.specs.TableLines.{Line, word_of, is_v3000, counts_of}
use Rattle.mk_tables.proofs.TableLemmas.{exact-table}

-- ---- the laws

-- at most one table begins at a line
pub one : OneTable
one = one_part_from exact-table

-- a bad line exactly where no table begins
pub bad_where_none : BadWhereNoTable
bad_where_none = bad_from_is_no_part exact-table

-- and only one
pub one_bad : OneBadLine
one_bad = one_bad_line_from table_form

-- ---- a blank line is no counts line

-- the first so many bytes of a blank line are blank, and so are those behind them
blank_cut : (n : ℕ) (cells : List ℕ) → are_blank cells ≡ true → (are_blank (take n cells) ≡ true) × (are_blank (drop n cells) ≡ true)
blank_cut n cells blank =
    both (are_blank (take n cells)) (are_blank (drop n cells)) (sym (list_all-append is_space (take n cells) (drop n cells)) ∙ ap are_blank (take-append-drop n cells) ∙ blank)

-- nothing stands on a blank line between any two columns
no_word : (l : Line) (a b : ℕ) → 1 ≤ a → a ≤ b → are_blank l ≡ true → word_of l a b ≡ []
no_word l a b first order blank = trimmed-columns l a b first order ∙ trimmed_blank (standing l a b) (blank_cut (b - (a - 1)) (drop (a - 1) l) (blank_cut (a - 1) l blank).1).0

-- so it holds no counts
no_counts : (l : Line) → are_blank l ≡ true → counts_of l ≡ None
unfolding counts_of
no_counts l blank = rw (no_word l 1 3 (omega arith) (omega arith) blank) refl

-- and doesn't say V3000
no_v3000 : (l : Line) → are_blank l ≡ true → is_v3000 l ≡ true → ⊥
no_v3000 l blank says =
    let none : is_v3000 l ≡ false = rw (no_word l 34 39 (omega arith) (omega arith) blank) refl in
    cc

-- it is none
pub blank_is_no_counts_line : BlankIsNoCountsLine
blank_is_no_counts_line l blank = (no_counts l blank, no_v3000 l blank)
