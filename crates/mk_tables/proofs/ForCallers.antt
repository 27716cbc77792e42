-- The lemmas that proofs of crates above cite.
pub use Rattle.mk_tables.proofs.FaultLemmas.{text_by, bad_by, unnamed_by, v3000_by, named_by, part_by, bad_from_by, unnamed_from_by, v3000_from_by, named_from_by, fails_first, fails_second, rows_fail, until_fails, until_end_fails, block_read, block_fails}
pub use Rattle.mk_tables.proofs.MolfileLemmas.{exact-molfile, molfile_is}
pub use Rattle.mk_tables.proofs.TableFactLemmas.{keeps, few_properties}
pub use Rattle.mk_tables.proofs.TableLawLemmas.{blank_is_no_counts_line}
pub use Rattle.mk_tables.proofs.TableLemmas.{exact-table}
pub use Rattle.mk_tables.proofs.KeptTablesLemmas.{whole_is_table, part_is_table}
