use Rattle.std.proofs.Common.{refl}
use Rattle.mk_model.proofs.FitsOnLiterals.{root}
use Rattle.mk_model.proofs.OnLiterals.{atom, bond, site_atom}
use Rattle.mk_fixtures.proofs.links.root.Goals as goal

pub returns : goal.returns
unfolding root atom bond site_atom
returns c =
    rw (
      c.of-2.ensures,
      c.in_ok-atoms.ensures.items,
      c.of_kind.ensures,
      c.of_kind-2.ensures,
      c.of_kind-3.ensures,
      c.of_kind-4.ensures,
      c.in_ok-bonds.ensures.items,
      c.bond.ensures,
      c.bond-2.ensures,
      c.bond-3.ensures,
      c.in_ok-slots.ensures.items,
      c.of.ensures,
      c.in_ok-vec.ensures.items,
      c.new.ensures,
    ) refl
