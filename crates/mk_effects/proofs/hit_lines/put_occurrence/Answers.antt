use Rattle.mk_effects.proofs.HitLinesLemmas.{line_put}
use Rattle.mk_effects.proofs.hit_lines.put_occurrence.Goals as goal

pub returns : goal.returns
returns c =
    line_put c.args.query.now c.args.number c.in-Some.size c.args.numbers.now _ _ c.args.lines.now.items c.put_line.new.lines.items c.put_line.result c.in-Some.ensures.code
    c.split_at.ensures.front c.split_at.ensures.back c.put_line.ensures
