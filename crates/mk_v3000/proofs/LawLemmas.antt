-- The laws of the V3000 tables in a text.
use Rattle.std.proofs.Common.{ℕ, Result, Ok, Err, List}
use Rattle.mk_form.specs.Exact.{Never}
use Rattle.mk_form.specs.Fronts.{IsNamedFrom}
use Rattle.mk_form.proofs.Stops.{one_part_from, bad_from_is_no_part, one_bad_line_from}
use Rattle.mk_tables.specs.declared.fault.TableFault.{TableFault}
use Rattle.mk_tables.specs.declared.fault.TableFault.TheVariants.{Bad, V3000, Memory}
use Rattle.mk_tables.specs.declared.raw.RawTable.{RawTable}
use Rattle.mk_tables.specs.TableFaults.{IfV3000}
use Rattle.mk_tables.specs.TableLines.{Line, is_v3000}
use Rattle.mk_v3000.specs.V3000Form.{OneTable, BadWhereNoTable, OneBadLine, v3000_form}
use Rattle.mk_v3000.proofs.LiveLemmas.{exact-v3000}

-- at most one V3000 table begins at a line
pub one : OneTable
one = one_part_from exact-v3000

-- a bad line exactly where none begins
pub bad_where_none : BadWhereNoTable
bad_where_none = bad_from_is_no_part exact-v3000

-- and only one
pub one_bad : OneBadLine
one_bad = one_bad_line_from v3000_form

-- no line is named
pub never_named : (lines : List Line) (at : ℕ) (answer : Result (RawTable × ℕ) TableFault) → IfV3000 answer (IsNamedFrom Never is_v3000 at lines) → IfV3000 answer (λ k. ⊥)
never_named lines at (Ok r) h = tt
never_named lines at (Err (Bad k)) h = tt
never_named lines at (Err (V3000 k)) h = h.named.due
never_named lines at (Err Memory) h = tt
