use Rattle.std.proofs.Common.{ap, arith, length}
use Rattle.mk_query.proofs.TestLemmas.{known_values, names_atoms}
use Rattle.mk_query.proofs.atom_tests.notes_of.Goals as goal

pub charges_and_radicals-requires-clause-for_atoms : goal.charges_and_radicals-requires-clause-for_atoms
charges_and_radicals-requires-clause-for_atoms c = names_atoms c.args.table.now c.requires.passed

pub charges_and_radicals-requires-clause-values : goal.charges_and_radicals-requires-clause-values
charges_and_radicals-requires-clause-values c = known_values c.args.table.now c.requires.passed

pub returns : goal.returns
returns c =
    let lines = ap length c.as_slice.ensures in
    record {
      electrons_are = c.in_ok-electrons.ensures.are;
      places_size = c.in_ok-places.ensures.size;
      places_are = c.in_ok-places.ensures.in_force;
      ring_bonds_size = omega (arith, c.in_ok-ring_bonds.ensures.size, lines);
      ring_bonds_are = rw c.as_slice-props.ensures at c.in_ok-ring_bonds.ensures.last;
      substitutions_size = omega (arith, c.in_ok-substitutions.ensures.size, lines);
      substitutions_are = rw c.as_slice-props.ensures at c.in_ok-substitutions.ensures.last;
      unsaturations_size = omega (arith, c.in_ok-unsaturations.ensures.size, lines);
      unsaturations_are = rw c.as_slice-props.ensures at c.in_ok-unsaturations.ensures.last;
    }
