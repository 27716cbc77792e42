use Rattle.std.proofs.Common.{List, ℕ, get_or, subst}
use Rattle.mk_effects.specs.Hits.{PutsLine}
use Rattle.mk_effects.proofs.HitLinesLemmas.{lines_more}
use Rattle.mk_effects.proofs.hit_lines.lines_of.Goals as goal

pub loop-key-preserved : goal.loop-key-preserved
loop-key-preserved c =
    let keys = c.args.keys.now in
    let i = c.loop-key.key-index in
    let key = c.key-item.result in
    let puts : PutsLine c.args.query.now (get_or keys i key) c.loop-key.lines.items c.put_hit.new.lines.items =
    subst (λ (k : List ℕ). PutsLine c.args.query.now k c.loop-key.lines.items c.put_hit.new.lines.items) c.key-item.is (rw c.as_slice.ensures at c.in_ok-put_hit.ensures) in
    lines_more c.args.query.now keys i key c.loop-key.lines.items c.put_hit.new.lines.items c.loop-key-test.true c.loop-key.invariant puts
