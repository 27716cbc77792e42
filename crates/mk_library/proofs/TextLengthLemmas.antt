-- How many bytes are kept of lines.
--     kept_lines_are_short      of all lines of a text at most one more than the text has
--     records_are_short         the text of a record no more than of all lines
use Rattle.std.proofs.Common.{[], ◌∷◌, ◌++◌, ◌≡◌, ℕ, ◌+◌, ◌-◌, ◌==◌, ◌≤◌, Bool, true, false, if◌then◌else◌, List, length, map, Option, Some, None, arith, sym, ap, ◌∙◌, subst, length-append}
use Rattle.std.specs.Prelude.{option_to_list, MatchOption}
use Rattle.std.specs.List.{AllByRecursion, suffix_len}
use Rattle.std.proofs.lemmas.List.{length-take}
use Rattle.mk_form.specs.Rows.{Series}
use Rattle.mk_form.specs.ToEnd.{EachIs}
use Rattle.mk_text.specs.Columns.{are_blank}
use Rattle.mk_text.specs.KeptLines.{is_cr, kept_lines, without_crs}
use Rattle.mk_text.specs.Lines.{lines_of, onto_first_piece, pieces, without_cr}
use Rattle.mk_sdfile.specs.declared.raw_record.RawRecord.{RawRecord}
use Rattle.mk_sdfile.specs.Sdfile.{IsRecordBlock, IsRecord, IsSdfile}

-- how many bytes the lines have, each with LF behind it
abbrev pub size_of : List (List ℕ) → ℕ
size_of [] = 0
size_of (line ∷ lines) = (length line + 1) + size_of lines

size_more : (xs ys : List (List ℕ)) → size_of (xs ++ ys) ≡ size_of xs + size_of ys
size_more [] ys = omega arith
size_more (x ∷ xs) ys = let rest = size_more xs ys in omega (arith, rest)

-- ---- what is kept

without_shorter : (line : List ℕ) → length (without_crs line) ≤ length line
without_shorter line = let size = length-take (length line - suffix_len is_cr line) line in omega (arith, size)

pub kept_shorter : (lines : List (List ℕ)) → length (kept_lines lines) ≤ size_of lines
kept_shorter [] = omega arith
kept_shorter (line ∷ lines) =
    let first : length (without_crs line ++ 10 ∷ []) ≡ length (without_crs line) + 1 = length-append (without_crs line) (10 ∷ []) in
    let both : length ((without_crs line ++ 10 ∷ []) ++ kept_lines lines) ≡ length
    (without_crs line ++ 10 ∷ []) + length (kept_lines lines) =
    length-append (without_crs line ++ 10 ∷ []) (kept_lines lines) in
    omega (arith, first, both, without_shorter line, kept_shorter lines)

-- ---- the lines of a text

one_cr_shorter : (line : List ℕ) → length (without_cr line) ≤ length line
one_cr_shorter [] = omega arith
one_cr_shorter (c ∷ []) = by_test (c == 13)
  where
    by_test : (b : Bool) → length (if b then [] else c ∷ []) ≤ 1
    by_test true = omega arith
    by_test false = omega arith
one_cr_shorter (c ∷ d ∷ cs) = let rest = one_cr_shorter (d ∷ cs) in omega (arith, rest)

lines_shorter : (ps : List (List ℕ)) → size_of (map without_cr ps) ≤ size_of ps
lines_shorter [] = omega arith
lines_shorter (p ∷ ps) = let rest = lines_shorter ps in omega (arith, rest, one_cr_shorter p)

onto_size : (c : ℕ) (ps : List (List ℕ)) (n : ℕ) → size_of ps ≤ n + 1 → size_of (onto_first_piece c ps) ≤ n + 2
onto_size c [] n le = omega arith
onto_size c (p ∷ ps) n le = omega (arith, le)

one_more_byte : (c : ℕ) (cs : List ℕ) → size_of (pieces cs) ≤ length cs + 1 → size_of (pieces (c ∷ cs)) ≤ length (c ∷ cs) + 1
one_more_byte c cs le = by_test (c == 10)
  where
    by_test : (b : Bool) → size_of (if b then [] ∷ pieces cs else onto_first_piece c (pieces cs)) ≤ length (c ∷ cs) + 1
    by_test true = omega (arith, le)
    by_test false = let more = onto_size c (pieces cs) (length cs) le in omega (arith, more)

pieces_short : (text : List ℕ) → size_of (pieces text) ≤ length text + 1
pieces_short [] = omega arith
pieces_short (c ∷ cs) = one_more_byte c cs (pieces_short cs)

pub lines_short : (text : List ℕ) → size_of (lines_of text) ≤ length text + 1
unfolding lines_of
lines_short text = let fewer = lines_shorter (pieces text) in omega (arith, fewer, pieces_short text)

-- the last line may gain its LF
pub kept_lines_are_short : (text : List ℕ) → length (kept_lines (lines_of text)) ≤ length text + 1
kept_lines_are_short text = let kept = kept_shorter (lines_of text) in omega (arith, kept, lines_short text)

-- ---- records

record_shorter : (lines : List (List ℕ)) (of : RawRecord) → IsRecord lines of → length of.text ≤ size_of lines
record_shorter lines of is = let kept = kept_shorter lines in let same = ap length is.text in omega (arith, kept, same)

block_shorter : (lines : List (List ℕ)) (of : RawRecord) → IsRecordBlock lines of → length of.text ≤ size_of lines
block_shorter lines of is =
    let first = record_shorter is.record_lines of is.is in
    let whole = ap size_of is.whole ∙ size_more is.record_lines (is.separator ∷ []) in
    omega (arith, first, whole)

all_more : (P : RawRecord → Type 0) (xs ys : List RawRecord) → AllByRecursion P xs → AllByRecursion P ys → AllByRecursion P (xs ++ ys)
all_more P [] ys p q = q
all_more P (x ∷ xs) ys p q = (p.0, all_more P xs ys p.1 q)

blocks_short : (most : ℕ) (lines : List (List ℕ)) (blocks : List RawRecord) → Series IsRecordBlock lines blocks
    → size_of lines ≤ most → AllByRecursion (λ (of : RawRecord). length of.text ≤ most) blocks
blocks_short most lines [] each le = tt
blocks_short most lines (of ∷ blocks) (front, back, whole, is, rest) le =
    let sizes : size_of lines ≡ size_of front + size_of back = ap size_of whole ∙ size_more front back in
    let first = block_shorter front of is in
    (omega (arith, sizes, first, le), blocks_short most back blocks rest (omega (arith, sizes, le)))

last_short : (most : ℕ) (lines : List (List ℕ)) (last : Option RawRecord) → MatchOption last (EachIs are_blank true lines) (IsRecord lines) → size_of lines ≤ most
    → AllByRecursion (λ (of : RawRecord). length of.text ≤ most) (option_to_list last)
last_short most lines None ended le = tt
last_short most lines (Some of) ended le = let first = record_shorter lines of ended in (omega (arith, first, le), tt)

pub records_are_short : (most : ℕ) (lines : List (List ℕ)) (records : List RawRecord) → IsSdfile lines records
    → size_of lines ≤ most → AllByRecursion (λ (of : RawRecord). length of.text ≤ most) records
records_are_short most lines records is le =
    let sizes : size_of lines ≡ size_of is.block_lines + size_of is.last_lines = ap size_of is.whole ∙ size_more is.block_lines is.last_lines in
    subst (AllByRecursion (λ (of : RawRecord). length of.text ≤ most)) (sym is.all)
    (all_more (λ (of : RawRecord). length of.text ≤ most) is.blocks (option_to_list is.last)
    (blocks_short most is.block_lines is.blocks is.each (omega (arith, sizes, le))) (last_short most is.last_lines is.last is.ended (omega (arith, sizes, le))))
