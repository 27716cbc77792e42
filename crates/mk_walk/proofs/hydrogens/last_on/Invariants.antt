use Rattle.std.proofs.Common.{◌≡◌, ◌≤◌, take, All}
use Rattle.mk_walk.specs.Hydrogens.{IsListedOn}
use Rattle.mk_walk.proofs.hydrogens.last_on.Given as goal

abbrev pub invariant-loop-one : goal.invariant-loop-one
invariant-loop-one l = (1 ≤ l.last → IsListedOn l.list l.host l.last) × All (λ one. one.host ≡ l.host → one.atom ≤ l.last) (take l.one-index l.list)
