use Rattle.std.proofs.Common.{◌≡◌, ◌≤◌, ◌*◌, take}
use Rattle.std.specs.Prelude.{sum}
use Rattle.mk_mol.proofs.hydrogen_filling.sum_of.Given as goal

-- the last part keeps the sum small
abbrev pub invariant-loop-gained : goal.invariant-loop-gained
invariant-loop-gained l = (l.total ≡ sum (take l.gained-index l.gains)) × (l.total ≤ 256 * l.gained-index)
