-- Molfiles are read exactly.
use Rattle.std.proofs.Common.{◌≡◌, List, [], refl}
use Rattle.mk_form.specs.Exact.{Exact, Completes, Anything}
use Rattle.mk_form.proofs.Fronts.{exact-form, completes-form, completes-any_lines, completes-sequence}
use Rattle.mk_form.proofs.NeverDue.{due_behind_any, due_behind_exactly}
use Rattle.mk_form.proofs.Rows.{exact-any_lines}
use Rattle.mk_form.proofs.Sequence.{exact-sequence}
use Rattle.mk_tables.specs.declared.raw.RawTable.{RawTable}
use Rattle.mk_tables.specs.Molfile.{IsMolfile, molfile_part, molfile_at, molfile}
use Rattle.mk_tables.specs.TableLaws.{table_form}
use Rattle.mk_tables.specs.TableLines.{Line, is_v3000}
use Rattle.mk_tables.proofs.TableLemmas.{exact-table}

-- the parts are read exactly
exact-molfile_part : Exact is_v3000 Anything molfile_part
exact-molfile_part = exact-sequence (exact-any_lines 3) (λ _. exact-table)

-- and can be completed
completes-molfile_part : Completes molfile_part
completes-molfile_part = completes-sequence (completes-any_lines [] 3) (λ _. completes-form exact-table)

-- what the parts make up is a molfile
to_molfile : (lines : List Line) (t : RawTable) → molfile_part.is lines t → IsMolfile lines t
to_molfile lines t h = record { header_lines = h.front; table_lines = h.back; whole = h.whole; three = h.first; is = h.second }

-- and a molfile is made up of the parts
from_molfile : (lines : List Line) (t : RawTable) → IsMolfile lines t → molfile_part.is lines t
from_molfile lines t h = record { front = h.header_lines; back = h.table_lines; middle = tt; whole = h.whole; first = h.three; second = h.is }

-- molfiles are read exactly
pub exact-molfile : Exact is_v3000 Anything molfile
unfolding molfile_at
exact-molfile =
    exact-form exact-molfile_part completes-molfile_part
    (record { is_to = to_molfile; is_from = from_molfile; due_to = due_behind_any 3 (λ _. table_form) (λ _ lines d. d); due_from = due_behind_exactly 3 (λ _. table_form) refl })

-- where a molfile can't begin with what is left, it is read as its parts are
pub molfile_is : (lines : List Line) → molfile_at lines ≡ molfile_part.read lines
unfolding molfile_at
molfile_is lines = refl
