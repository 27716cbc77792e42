-- What `table` comes to.
--     rows_over_records, rows_begun_over_records     the table over the molecules of a library, as that over its records
use Rattle.std.proofs.Common.{ℕ, List}
use Rattle.mk_model.specs.Molecules.{Molecule}
use Rattle.mk_model.specs.Queries.{QueryView}
use Rattle.mk_mol.specs.Laws.{OneFilledMolecule}
use Rattle.mk_outside.specs.declared.tables.RecordRow.{RecordRow}
use Rattle.mk_rows.specs.declared.by_number.Numbered.{Numbered}
use Rattle.mk_sdfile.specs.Sdfile.{HasOneValue}
use Rattle.mk_library.specs.Records.{AreHeld, IsMoleculeAt}
use Rattle.mk_search.specs.Pages.{IsHeldIn}
use Rattle.mk_rtable.specs.declared.rows.TableRow.{TableRow}
use Rattle.mk_rtable.specs.Begins.{BeginsOfTable}
use Rattle.mk_rtable.specs.Table.{IsRGroupTable}
use Rattle.mk_rtable.proofs.ForCallers.{begins_over, table_over}
use Rattle.mk_library.proofs.ForCallers.{at_is_item, item_is_at}

module _ (filled : OneFilledMolecule) (sdfile : HasOneValue) (records : List RecordRow) (rows : List (Numbered Molecule)) (query : QueryView) (held : AreHeld records rows) where
  pub rows_over_records : (table : List TableRow) → IsRGroupTable (IsHeldIn rows) query table → IsRGroupTable (IsMoleculeAt records) query table
  rows_over_records table =
      table_over (IsHeldIn rows) (IsMoleculeAt records) query table (λ n mol h. item_is_at records rows n mol held h) (λ n mol h. at_is_item filled sdfile records rows n mol held h)

  pub rows_begun_over_records : (old new : ℕ) → BeginsOfTable (IsHeldIn rows) query old new → BeginsOfTable (IsMoleculeAt records) query old new
  rows_begun_over_records old new =
      begins_over (IsHeldIn rows) (IsMoleculeAt records) query old new (λ n mol h. item_is_at records rows n mol held h) (λ n mol h. at_is_item filled sdfile records rows n mol held h)
