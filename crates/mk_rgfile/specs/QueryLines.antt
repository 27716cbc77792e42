-- The lines of a query file that stand around its tables.
--     begins_mdl line              the line begins with `$MDL`
--     is_keyword word line         the line is the keyword and blanks after it
--     IsGroupNumber line n         the line as a whole is a numeric field with the number n, from 1
--                                  to 32
--     group_number_of line         that number, or None
use Rattle.std.specs.Prelude.{ℕ, ◌≤◌, ◌&&◌, nat_eq, Bool, List, length, drop, Option, pos, codes}
use Rattle.std.specs.List.{starts_with}
use Rattle.mk_text.specs.Columns.{are_blank}
use Rattle.mk_text.specs.Fields.{IsField, field_in}
use Rattle.mk_text.specs.Options.{◌>>=◌, count_in}
use Rattle.mk_tables.specs.TableLines.{Line}

-- the line begins with `$MDL`, whatever stands behind it
abbrev pub begins_mdl : Line → Bool
begins_mdl line = starts_with nat_eq line (codes "$MDL")

-- the line is the keyword, and blanks after it or nothing
abbrev pub is_keyword : List ℕ → Line → Bool
is_keyword word line = starts_with nat_eq line word && are_blank (drop (length word) line)

-- the number of a group stands on its line alone, and is from 1 to 32
pub record IsGroupNumber (line : Line) (number : ℕ) : Type 0 where
  pub field : IsField line (pos number)
  pub from_one : 1 ≤ number
  pub to_32 : number ≤ 32

-- the number, from 1 to 32, that the line as a whole spells, or None
unfoldable pub group_number_of : Line → Option ℕ
group_number_of line = field_in line >>= count_in 32
