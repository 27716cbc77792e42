use Rattle.std.proofs.Common.{◌≡◌, ◌+◌, map, take}
use Rattle.mk_model.specs.Pieces.{before}
use Rattle.mk_layout.proofs.atoms.expanded_points.Given as goal

abbrev pub invariant-loop-x : goal.invariant-loop-x
invariant-loop-x l = l.points.items ≡ map (λ x. before l.layout.template l.layout.pieces x + 1) (take l.x-index l.layout.template.points)
