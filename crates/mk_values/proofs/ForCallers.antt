-- What proofs of the crates above use of this one.
--     first_fault, filled_molecule     a table passes every check or has a first fault, and one that passes has its molecule
--     sdfile_or_bad, read_keeps        lines are an SDfile or have a bad line, and its tables are those of a text
--     molecule_or_none                 a text is that of a molecule, or of none
--     rows_of, rows_hold               the rows of the records that are molecules
--     file_is_judged                   a file of one record is refused, or holds a molecule
--     edit_is_judged, drill_has_line   edits and drills have their values
--     taken_first, list_by             the first so many of all, and lists of keys over the same molecules
pub use Rattle.mk_values.proofs.TableMoleculeLemmas.{fault_or_molecule, filled_molecule, first_fault}
pub use Rattle.mk_values.proofs.FileLemmas.{IsAtNumber, IsStopOfSdfile, molecule_or_none, read_keeps, rows_hold, rows_of, sdfile_or_bad}
pub use Rattle.mk_values.proofs.EditLemmas.{edit_is_judged, file_is_judged}
pub use Rattle.mk_values.proofs.DrillLemmas.{drill_has_line}
pub use Rattle.mk_values.proofs.ListingLemmas.{list_by, taken_first}
