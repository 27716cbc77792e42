-- A molecules' file has no more records than lines.
use Rattle.std.proofs.Common.{[], ◌∷◌, ◌≤◌, List, length, arith, length-append}
use Rattle.std.specs.Prelude.{Option, Some, None, MatchOption, option_to_list, true}
use Rattle.mk_form.specs.ToEnd.{EachIs}
use Rattle.mk_text.specs.Columns.{are_blank}
use Rattle.mk_form.specs.Rows.{Series}
use Rattle.mk_tables.specs.TableLines.{Line}
use Rattle.mk_sdfile.specs.declared.raw_record.RawRecord.{RawRecord}
use Rattle.mk_sdfile.specs.Sdfile.{IsRecordBlock, IsRecord, IsSdfile}

blocks_few : (lines : List Line) (blocks : List RawRecord) → Series IsRecordBlock lines blocks → length blocks ≤ length lines
blocks_few lines [] h = omega arith
blocks_few lines (raw ∷ blocks) (front, back, whole, block, rest) =
    let few = blocks_few back blocks rest in
    rw (whole, block.whole, length-append, length-append) (omega (arith, few))

record_lines : (lines : List Line) (raw : RawRecord) → IsRecord lines raw → 1 ≤ length lines
record_lines lines raw is = rw (is.whole, is.molfile.whole, length-append, length-append) (omega (arith, is.molfile.three))

last_few : (last : Option RawRecord) (lines : List Line) → MatchOption last (EachIs are_blank true lines) (IsRecord lines) → length (option_to_list last) ≤ length lines
last_few None lines h = omega arith
last_few (Some raw) lines h = let one = record_lines lines raw h in omega (arith, one)

pub records_few : (lines : List Line) (raws : List RawRecord) → IsSdfile lines raws → length raws ≤ length lines
records_few lines raws is =
    let blocks = blocks_few is.block_lines is.blocks is.each in
    let last = last_few is.last is.last_lines is.ended in
    rw (is.all, is.whole, length-append, length-append) (omega (arith, blocks, last))
