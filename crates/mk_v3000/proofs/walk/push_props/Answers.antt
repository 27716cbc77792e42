use Rattle.std.proofs.Common.{rules, SFits, to_z-of_z, w32}
use Rattle.mk_v3000.proofs.PushLemmas.{three_pushed}
use Rattle.mk_v3000.proofs.walk.push_props.Goals as goal

pub returns : goal.returns
returns c =
    let charge : SFits w32 c.args.atom.now.charge = search rules in
    let radical : SFits w32 c.args.atom.now.radical = search rules in
    let mass : SFits w32 c.args.atom.now.mass = search rules in
    let whole = three_pushed c.args.props.now _ _ _ _ _ _ c.in_ok-push_charge.ensures c.in_ok-push_radical.ensures c.in_ok-push_isotope.ensures in
    rw (to_z-of_z charge, to_z-of_z radical, to_z-of_z mass) at whole
