-- Each part on two or three lines. A line is a number here: a number below 10 spells itself, 30
-- says its name, and 99 is an end or a separator. What each reader gives is computed.
--     digit, says, is_end            what a line is in the examples
use Rattle.std.specs.Prelude.{◌≡◌, refl, ℕ, zero, suc, nat_eq, nat_lt, Bool, true, false, if◌then◌else◌, Option, Some, None, List, [], ◌∷◌, length, sum}
use Rattle.mk_form.specs.Reading.{Took, Stop}
use Rattle.mk_form.specs.Exact.{Part}
use Rattle.mk_form.specs.Limit.{limit}
use Rattle.mk_form.specs.Lines.{give, line, counts_line, line_where}
use Rattle.mk_form.specs.Sequence.{sequence}
use Rattle.mk_form.specs.Seen.{seen_as, with_lines}
use Rattle.mk_form.specs.Rows.{rows, any_lines}
use Rattle.mk_form.specs.Choice.{choice}
use Rattle.mk_form.specs.Until.{until}
use Rattle.mk_form.specs.ToEnd.{lines_to_end, up_to}
use Rattle.mk_form.specs.Either.{either}
use Rattle.mk_form.specs.Joined.{joined}

-- a number below 10 spells itself
abbrev pub digit : ℕ → Option ℕ
digit l = if nat_lt l 10 then Some l else None

-- the line 30 says its name
abbrev pub says : ℕ → Bool
says l = nat_eq l 30

-- the line 99 is an end
abbrev pub is_end : ℕ → Bool
is_end l = nat_eq l 99

-- ---- one line

-- a line that fits is taken, and the others are left
pub line_fits : (line digit).read (5 ∷ 99 ∷ []) ≡ Took 5 (99 ∷ [])
line_fits = refl

-- a line that doesn't fit is where the reading stops
pub line_does_not : (line digit).read (99 ∷ 5 ∷ []) ≡ Stop false (99 ∷ 5 ∷ [])
line_does_not = refl

-- where no line is left, the reading stops behind the last
pub line_is_wanted : (line digit).read [] ≡ Stop false []
line_is_wanted = refl

-- a line that says its name is named where such a line is due
pub line_is_named : (counts_line says digit).read (30 ∷ 5 ∷ []) ≡ Stop true (30 ∷ 5 ∷ [])
line_is_named = refl

-- a line that says its name isn't named where another line is due
pub line_is_not_named : (line digit).read (30 ∷ 5 ∷ []) ≡ Stop false (30 ∷ 5 ∷ [])
line_is_not_named = refl

-- one line that passes a test
pub line_passes : (line_where is_end).read (99 ∷ 5 ∷ []) ≡ Took tt (5 ∷ [])
line_passes = refl

-- ---- one part and then another

-- no line, and the value 7
abbrev pub seven : Part ℕ ℕ
seven = give 7

-- no line is taken
pub nothing_taken : seven.read (5 ∷ []) ≡ Took 7 (5 ∷ [])
nothing_taken = refl

-- a count, and as many rows
abbrev pub counted : Part ℕ (List ℕ)
counted = sequence (counts_line says digit) (λ n. rows n (line digit))

-- two rows are taken
pub count_and_rows : counted.read (2 ∷ 5 ∷ 6 ∷ 7 ∷ []) ≡ Took (5 ∷ 6 ∷ []) (7 ∷ [])
count_and_rows = refl

-- the second row doesn't fit: line 3 is bad
pub row_does_not_fit : counted.read (2 ∷ 5 ∷ 99 ∷ []) ≡ Stop false (99 ∷ [])
row_does_not_fit = refl

-- the second row is missing: the line behind the last is bad
pub row_is_missing : counted.read (2 ∷ 5 ∷ []) ≡ Stop false []
row_is_missing = refl

-- a value seen as another
pub seen_as_a_list : (seen_as (λ x. x ∷ []) (line digit)).read (5 ∷ 6 ∷ []) ≡ Took (5 ∷ []) (6 ∷ [])
seen_as_a_list = refl

-- a value with the lines that it was read from
pub with_its_lines : (with_lines counted).read (2 ∷ 5 ∷ 6 ∷ 7 ∷ []) ≡ Took (5 ∷ 6 ∷ [], 2 ∷ 5 ∷ 6 ∷ []) (7 ∷ [])
with_its_lines = refl

-- two lines, whatever they are
abbrev pub any_two : Part ℕ (Unit {0})
any_two = any_lines 2

-- two lines are passed over
pub two_lines : any_two.read (50 ∷ 99 ∷ 7 ∷ []) ≡ Took tt (7 ∷ [])
two_lines = refl

-- the second is missing
pub no_second_line : any_two.read (50 ∷ []) ≡ Stop false []
no_second_line = refl

-- ---- by the first line

-- an end, or a digit, by the first line
abbrev pub end_or_digit : Part ℕ ℕ
end_or_digit = choice is_end (seen_as (λ _. 100) (line_where is_end)) (line digit)

-- the first line is an end
pub the_end : end_or_digit.read (99 ∷ 5 ∷ []) ≡ Took 100 (5 ∷ [])
the_end = refl

-- the first line is none
pub a_digit : end_or_digit.read (5 ∷ 99 ∷ []) ≡ Took 5 (99 ∷ [])
a_digit = refl

-- digits until the end
abbrev pub digits : Part ℕ (List ℕ × Unit {0})
digits = until is_end (line digit) (line_where is_end)

-- two digits and the end
pub digits_and_end : digits.read (5 ∷ 6 ∷ 99 ∷ 7 ∷ []) ≡ Took (5 ∷ 6 ∷ [], tt) (7 ∷ [])
digits_and_end = refl

-- at the end's place stands something else: line 2 is bad
pub no_digit : digits.read (5 ∷ 50 ∷ 99 ∷ []) ≡ Stop false (50 ∷ 99 ∷ [])
no_digit = refl

-- the end is missing
pub no_end : digits.read (5 ∷ 6 ∷ []) ≡ Stop false []
no_end = refl

-- ---- to the end of the text

-- both lines are ends
pub all_ends : (lines_to_end is_end).read (99 ∷ 99 ∷ []) ≡ Took tt []
all_ends = refl

-- line 2 is none
pub not_all_ends : (lines_to_end is_end).read (99 ∷ 5 ∷ 99 ∷ []) ≡ Stop false (5 ∷ 99 ∷ [])
not_all_ends = refl

-- lines up to a separator, and ends behind it
pub up_to_separator : (up_to is_end (lines_to_end is_end)).read (5 ∷ 50 ∷ 99 ∷ 99 ∷ []) ≡ Took (5 ∷ 50 ∷ [], Some tt) []
up_to_separator = refl

-- there is no separator
pub up_to_last : (up_to is_end (lines_to_end is_end)).read (5 ∷ 50 ∷ []) ≡ Took (5 ∷ 50 ∷ [], None) []
up_to_last = refl

-- behind the separator stands something else
pub not_behind : (up_to is_end (lines_to_end is_end)).read (5 ∷ 99 ∷ 50 ∷ []) ≡ Stop false (50 ∷ [])
not_behind = refl

-- ---- one of two

-- ends alone, or lines with an end behind the first two
abbrev pub ends_or_more : Part ℕ (List ℕ)
ends_or_more = either (seen_as (λ _. []) (lines_to_end is_end)) (sequence (rows 2 (line digit)) (λ xs. seen_as (λ _. xs) (lines_to_end is_end)))

-- ends alone
pub just_ends : ends_or_more.read (99 ∷ 99 ∷ []) ≡ Took [] []
just_ends = refl

-- digits before the ends
pub digits_before : ends_or_more.read (5 ∷ 6 ∷ 99 ∷ []) ≡ Took (5 ∷ 6 ∷ []) []
digits_before = refl

-- the first stops at line 1 and the second at line 2, so line 2 is bad
pub farther_stop : ends_or_more.read (5 ∷ 99 ∷ []) ≡ Stop false (99 ∷ [])
farther_stop = refl

-- the first stops at line 2 and the second at line 1, so line 2 is bad
pub farther_first : ends_or_more.read (99 ∷ 6 ∷ []) ≡ Stop false (6 ∷ [])
farther_first = refl

-- ---- a form that speaks of itself

-- the line 40 is blank
abbrev pub is_blank : ℕ → Bool
is_blank l = nat_eq l 40

-- the digit of a block, and those of the blocks behind its separator
abbrev pub digits_of : ℕ → List ℕ × Option (List ℕ) → List ℕ
digits_of x (between, None) = x ∷ []
digits_of x (between, Some xs) = x ∷ xs

-- no more than n blocks, and then blank lines
abbrev pub blocks_within : ℕ → Part ℕ (List ℕ)
blocks_within zero = seen_as (λ _. []) (lines_to_end is_blank)
blocks_within (suc n) = either (seen_as (λ _. []) (lines_to_end is_blank)) (sequence (line digit) (λ x. seen_as (digits_of x) (up_to is_end (blocks_within n))))

-- Blocks, each a digit and further lines, with a separator behind each but perhaps the last; or
-- blank lines.
abbrev pub blocks : Part ℕ (List ℕ)
blocks = limit blocks_within

-- two blocks with their separators, and a blank line
pub two_blocks : blocks.read (5 ∷ 50 ∷ 99 ∷ 6 ∷ 99 ∷ 40 ∷ []) ≡ Took (5 ∷ 6 ∷ []) []
two_blocks = refl

-- the last block has no separator
pub last_block : blocks.read (5 ∷ 99 ∷ 6 ∷ 50 ∷ []) ≡ Took (5 ∷ 6 ∷ []) []
last_block = refl

-- line 3 is no block, but it may begin blank lines to the end, and line 4 is no blank line: line 4
-- is bad
pub behind_a_blank : blocks.read (5 ∷ 99 ∷ 40 ∷ 6 ∷ []) ≡ Stop false (6 ∷ [])
behind_a_blank = refl

-- ---- several lines as one

-- the sum of some numbers, if they are three
abbrev pub three_of : List ℕ → Option ℕ
three_of xs = if nat_eq (length xs) 3 then Some (sum xs) else None

-- numbers below 5 go on, and one from 5 to 9 closes; together they are three
abbrev pub three : Part ℕ ℕ
three = joined (λ l. nat_lt l 5) (λ l. nat_lt l 10) three_of

-- three lines are read as one
pub three_lines_as_one : three.read (4 ∷ 2 ∷ 6 ∷ 7 ∷ []) ≡ Took 12 (7 ∷ [])
three_lines_as_one = refl

-- the lines are two: the last of them is bad
pub not_three : three.read (4 ∷ 7 ∷ []) ≡ Stop false (7 ∷ [])
not_three = refl

-- the text is cut behind a line that goes on: the line behind the last is bad, though no further
-- line could make them three
pub cut_behind : three.read (4 ∷ 4 ∷ 4 ∷ 4 ∷ []) ≡ Stop false []
cut_behind = refl
