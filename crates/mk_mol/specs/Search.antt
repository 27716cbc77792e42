-- What is known of the bonds once they passed their checks. For the code alone.
--     IsDrawn table drawn               the edges of all bonds, and the numbers of each atom's
use Rattle.std.specs.Prelude.{◌≡◌, length}
use Rattle.mk_model.specs.Edges.{IsSimple, rows_of}
use Rattle.mk_tables.specs.declared.raw.RawTable.{RawTable}
use Rattle.mk_demands.specs.Bonds.{edges_of}
use Rattle.mk_mol.specs.declared.bond_checks.Drawn.{Drawn}

-- the edges of all bonds, and the numbers of each atom's
pub record IsDrawn (table : RawTable) (drawn : Drawn) : Type 0 where
  pub edges : drawn.edges.items ≡ edges_of table.bonds
  pub near : drawn.near ≡ rows_of (length table.atoms) drawn.edges.items
  pub graph : IsSimple (length table.atoms) drawn.edges.items
