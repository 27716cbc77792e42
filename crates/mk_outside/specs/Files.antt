-- Files in memory.
--     file_named rows name             the bytes of the first row of the name
--     sure_file rows name              these bytes, and no bytes under every other name
--     files_after f name result        files in memory after `read`
use Rattle.std.specs.Prelude.{ℕ, List, [], ◌∷◌, Option, Some, None, Result, unwrap_or, bytes_eq, if◌then◌else◌}
use Rattle.mk_outside.specs.declared.files.FileRow.{FileRow}
use Rattle.mk_outside.specs.declared.answers.FileFail.{FileFail}
use Rattle.mk_outside.specs.Counts.{one_more}
use Rattle.mk_outside.specs.Calls.{CallState, calls_after}
use Rattle.mk_outside.specs.Told.{is_failed_read, is_absence}

-- the files, the calls of `read`, and how many of them failed on a name that isn't there
pub record FilesState : Type 0 where
  pub rows : List FileRow
  pub calls : CallState
  pub absences : ℕ

-- the bytes of the first row of the name
abbrev pub file_named : List FileRow → List ℕ → Option (List ℕ)
file_named [] name = None
file_named (row ∷ rows) name = if bytes_eq row.name name then Some row.bytes else file_named rows name

-- the bytes of the first row of the name, and no bytes under every other name
abbrev pub sure_file : List FileRow → List ℕ → Option (List ℕ)
sure_file rows name = Some (unwrap_or (file_named rows name) [])

-- files in memory after `read`
abbrev pub files_after : {A : Type 0} → FilesState → List ℕ → Result A FileFail → FilesState
files_after f name result = record {
  rows = f.rows;
  calls = calls_after f.calls (is_failed_read result);
  absences = if is_absence (file_named f.rows name) result then one_more f.absences else f.absences;
}
