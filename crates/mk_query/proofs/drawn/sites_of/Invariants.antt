use Rattle.std.proofs.Common.{◌≡◌, take, map}
use Rattle.mk_query.specs.Drawn.{is_site}
use Rattle.mk_query.proofs.drawn.sites_of.Given as goal

abbrev pub invariant-loop-atom : goal.invariant-loop-atom
invariant-loop-atom l = l.sites.items ≡ map is_site (take l.atom-index l.atoms)
