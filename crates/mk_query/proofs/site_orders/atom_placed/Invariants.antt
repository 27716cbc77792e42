use Rattle.std.proofs.Common.{◌≡◌, drop}
use Rattle.mk_query.specs.Compiled.{atom_placed}
use Rattle.mk_query.proofs.site_orders.atom_placed.Given as goal

abbrev pub invariant-loop-entry : goal.invariant-loop-entry
invariant-loop-entry l = atom_placed l.k (drop l.entry-index l.entries) ≡ atom_placed l.k l.entries
