use Rattle.std.proofs.lemmas.List.Elements.{All-push}
use Rattle.mk_demands.specs.Charges.{HasRadical}
use Rattle.mk_demands.proofs.ChargeLemmas.{lines-more}
use Rattle.mk_demands.proofs.charges.of_lines.Goals as goal

pub loop-line-preserved : goal.loop-line-preserved
loop-line-preserved c =
    rw c.in_ok-push.ensures.items (
      lines-more c.args.aside c.args.lines.now c.loop-line.line-index c.line-item.result c.loop-line.list.items _ c.loop-line-test.true c.line-item.is c.loop-line.invariant.0 c.of_line.ensures.line,
      All-push HasRadical c.loop-line.list.items _ c.loop-line.invariant.1 c.of_line.ensures.small,
    )
