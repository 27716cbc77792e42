use Rattle.std.proofs.Common.{◌+◌, false, get_or, arith}
use Rattle.mk_query.proofs.OwnSizesLemmas.{few_if, marked_more}
use Rattle.mk_query.proofs.own_sizes.marked.Goals as goal

pub loop-i-preserved : goal.loop-i-preserved
loop-i-preserved c =
    let more = marked_more c.args.marks.now c.loop-i.i in
    let one = few_if (get_or c.args.marks.now (c.loop-i.i + 1) false) in
    record {
      count = omega (arith, more, c.one_if-number.ensures, c.loop-i.invariant.count);
      few = omega (arith, c.one_if-number.ensures, one, c.loop-i.invariant.few);
    }
