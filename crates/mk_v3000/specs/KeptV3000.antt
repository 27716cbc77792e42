-- V3000 tables whose text is kept: the lines without the CR bytes at their ends are the same table.
--     KeptLinesAreTheTable     the law
use Rattle.std.specs.Prelude.{List, map}
use Rattle.mk_text.specs.KeptLines.{without_crs}
use Rattle.mk_tables.specs.declared.raw.RawTable.{RawTable}
use Rattle.mk_tables.specs.TableLines.{Line}
use Rattle.mk_v3000.specs.V3000Table.{IsV3000Table}

-- the lines of a V3000 table are, without the CR bytes at their ends, a V3000 table with the same
-- twin: CR bytes at the ends of logical lines aren't read
abbrev pub KeptLinesAreTheTable : Type 0
KeptLinesAreTheTable = (lines : List Line) (table : RawTable) → IsV3000Table lines table → IsV3000Table (map without_crs lines) table
