-- What the crates above need: that a raw query that is read is such as `compile` asks for.
--     table_in_range   a table that is read is in range
--     in_range         a raw query that is read is in range
--     few_by_lines     a raw query of a text of at most 2^32 lines has few members and few properties
use Rattle.std.proofs.Common.{◌+◌, ◌<◌, ◌≤◌, ℕ, arith}
use Rattle.mk_tables.specs.declared.raw.RawTable.{RawTable}
use Rattle.mk_tables.specs.TableFacts.{IsRawTable}
use Rattle.mk_rgfile.specs.declared.raw_query.RawQuery.{RawQuery}
use Rattle.mk_rgfile.specs.QueryFacts.{FitsIn, IsRawQuery, member_count}
use Rattle.mk_query.specs.InRange.{HaveFewProperties, IsQueryInRange, IsTableInRange}

pub table_in_range : (table : RawTable) → IsRawTable table → IsTableInRange table
table_in_range table read = record { few_atoms = read.few_atoms; few_bonds = read.few_bonds; numbers = read.numbers; symbols = read.symbols }

pub in_range : (raw : RawQuery) → IsRawQuery raw → IsQueryInRange raw
in_range raw read = record {
  root = table_in_range raw.root read.root;
  groups = λ i d below.
      let group = read.groups i d below in
      record { from_one = group.from_one; to_32 = group.to_32; members = λ k e inside. table_in_range _ (group.members k e inside) };
}

pub few_by_lines : (size : ℕ) (raw : RawQuery) → size ≤ 4294967296 → FitsIn size raw → HaveFewProperties raw × (member_count raw + 1 < 4294967296)
few_by_lines size raw most fits = (
  record {
    root = (let few = fits.root in omega (arith, few, most));
    members = λ i d below k e inside. (let few = fits.members i d below k e inside in omega (arith, few, most));
  },
  omega (arith, fits.few_members, most),
)
