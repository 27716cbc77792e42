use Rattle.std.proofs.lemmas.List.{take_all}
use Rattle.std.proofs.lemmas.List.Elements.{All-more}
use Rattle.mk_model.specs.Edges.{IsBetween}
use Rattle.mk_fixtures.proofs.checks.are_between.Goals as goal

pub loop-bond-preserved : goal.loop-bond-preserved
loop-bond-preserved c =
    All-more (IsBetween c.args.atoms) c.args.bonds.now c.loop-bond.bond-index _ c.loop-bond-test.true c.loop-bond.invariant
    (record {
      first = (c.if-bond-lt1.false, c.if-bond-atoms.false);
      second = (c.if-bond-lt1-2.false, c.if-bond-atoms-2.false);
      differ = c.if-bond.false;
    })

pub returns : goal.returns
returns c = λ _. rw (take_all c.loop-bond.bond-index c.args.bonds.now c.loop-bond-test.false) at c.loop-bond.invariant
