use Rattle.std.proofs.Common.{arith}
use Rattle.mk_walk.proofs.ForCallers.{owed_at}
use Rattle.mk_match.proofs.maps.Maps.from_place.Goals as goal

pub invariant_of-result : goal.invariant_of-result
invariant_of-result g c = record {
  search_is = c.in_ok-search.ensures.kept;
  left = rw c.put.ensures.put c.in_ok-search.ensures.left;
  owed = rw c.put.ensures.put (owed_at c.args.graph c.args.mol.now c.args.place.now c.debt_at-debt.result
      c.in_ok-search.search c.in_ok-search.ensures.kept c.in_ok-search.ensures.owed c.debt_at-debt.ensures);
  within = omega (arith, c.put.ensures.size, c.in_ok-kept.ensures.len, c.max-room.ensures);
  room = omega (arith, c.put.ensures.size, c.in_ok-kept.ensures.len, c.max-room.ensures, c.atom_count.ensures.count);
}
