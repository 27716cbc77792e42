use Rattle.std.proofs.Common.{◌<◌, ◌∙◌, ap, false, get_or, length, arith}
use Rattle.mk_model.specs.declared.graph.GraphBond.{GraphBond}
use Rattle.mk_rings.proofs.GraphLemmas.{put_more, put_none}
use Rattle.mk_rings.proofs.graphs.put_marks.Goals as goal

pub loop-b-init : goal.loop-b-init
loop-b-init c = put_none c.args.rings.now c.args.aromatics.now c.args.bonds.now.items

pub loop-b-preserved : goal.loop-b-preserved
loop-b-preserved c =
    let below : c.loop-b.b < length c.loop-b.bonds.items = omega (arith, c.loop-b.invariant.size) in
    put_more c.args.rings.now c.args.aromatics.now c.args.bonds.now.items c.loop-b.bonds.items c.loop-b.b
    c.with_marks.result c.index.result.now below (c.with_marks.ensures
    ∙ ap (λ (x : GraphBond). record x {
      ring = get_or c.args.rings.now c.loop-b.b false;
      aromatic = get_or c.args.aromatics.now c.loop-b.b false;
    }) c.index.ensures) c.loop-b.invariant

pub returns-clause-same : goal.returns-clause-same
returns-clause-same c = c.loop-b.invariant.same

pub returns-clause-ring : goal.returns-clause-ring
returns-clause-ring c = λ b d within. c.loop-b.invariant.ring b d (omega (arith, c.loop-b.invariant.size)) within

pub returns-clause-aromatic : goal.returns-clause-aromatic
returns-clause-aromatic c = λ b d within. c.loop-b.invariant.aromatic b d (omega (arith, c.loop-b.invariant.size)) within
