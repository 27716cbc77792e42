-- A V3000 table by its parts, read from the left. It serves the code and the proofs.
--     texts                    a logical line, with its text
--     one_step walk            a logical line, with what it makes of what has been read
--     walk_part walk           logical lines from there to the end of the table
--     v3000_part               a V3000 table from its counts line to `M  END`
--     v3000_at lines           what reading one from the first of the lines on gives
use Rattle.std.specs.Prelude.{ℕ, zero, suc, nat_eq, Bool, true, false, List, codes, Option, Some, None}
use Rattle.std.specs.List.{starts_with}
use Rattle.mk_form.specs.Exact.{Part}
use Rattle.mk_form.specs.Joined.{joined}
use Rattle.mk_form.specs.Limit.{limit}
use Rattle.mk_form.specs.Lines.{give, line_where}
use Rattle.mk_form.specs.Reading.{Reading}
use Rattle.mk_form.specs.Seen.{seen_as}
use Rattle.mk_form.specs.Sequence.{sequence}
use Rattle.mk_text.specs.Lines.{words_of}
use Rattle.mk_tables.specs.declared.raw.RawTable.{RawTable}
use Rattle.mk_tables.specs.TableLines.{Line, is_v3000}
use Rattle.mk_v3000.specs.declared.walk.Walk.{Walk}
use Rattle.mk_v3000.specs.LogicalLines.{goes_on, closes, joined_text, words_in}
use Rattle.mk_v3000.specs.V3000Table.{is_end_line}
use Rattle.mk_v3000.specs.Walk.{first_walk, step, is_done}

-- a logical line, with its text
abbrev pub texts : Part Line (List ℕ)
texts = joined goes_on closes (λ lines. Some (joined_text lines))

-- a logical line that is due here, with what it makes of what has been read
abbrev pub one_step : Walk → Part Line Walk
one_step w = joined goes_on closes (λ lines. step w (words_in lines))

-- a logical line that is never due
abbrev pub no_step : Part Line Walk
no_step = joined goes_on closes (λ lines. None)

-- nothing more where the end has been read, else the part p
abbrev pub unless_done : Bool → Walk → Part Line Walk → Part Line Walk
unless_done true w p = give w
unless_done false w p = p

-- no more than n logical lines to the end of the table
abbrev pub walks : Walk → ℕ → Part Line Walk
walks w zero = unless_done (is_done w.phase) w no_step
walks w (suc n) = unless_done (is_done w.phase) w (sequence (one_step w) (λ x. walks x n))

-- logical lines to the end of the table
abbrev pub walk_part : Walk → Part Line Walk
walk_part w = limit (walks w)

-- the twin, where the table's logical lines have been read
abbrev pub end_part : Walk → Part Line RawTable
end_part w = seen_as (λ _. w.table) (line_where is_end_line)

-- the logical lines, and the last line
abbrev pub behind_counts : Part Line RawTable
behind_counts = sequence (walk_part first_walk) end_part

-- a V3000 table from its counts line to `M  END`
abbrev pub v3000_part : Part Line RawTable
v3000_part = sequence (line_where is_v3000) (λ _. behind_counts)

-- what reading a V3000 table from the first of the lines on gives
unfoldable pub v3000_at : List Line → Reading Line RawTable
v3000_at = v3000_part.read
