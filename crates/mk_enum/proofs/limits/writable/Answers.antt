use Rattle.std.proofs.Common.{length, arith, ap}
use Rattle.mk_enum.specs.Writable.{HasNoFreeEnd}
use Rattle.mk_enum.proofs.limits.writable.Goals as goal

pub returns : goal.returns
returns c =
    let closed : HasNoFreeEnd c.args.graph.now.atoms = rw c.atoms.ensures.list at (c.has_no_free_end.ensures.0 c.if-not-has_no_free_end.false) in (
      λ few. record { closed = closed; few_bonds = omega (arith, ap length c.bonds.ensures.list, c.if-bonds-gt-MOST_BONDS.false); few_each = c.has_few_each.ensures.0 few },
      λ is. c.has_few_each.ensures.1 is.few_each,
    )
