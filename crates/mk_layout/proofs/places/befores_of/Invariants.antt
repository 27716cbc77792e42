use Rattle.std.proofs.Common.{◌≡◌}
use Rattle.mk_model.specs.Pieces.{room}
use Rattle.mk_layout.proofs.LaidLemmas.{AreBefores}
use Rattle.mk_layout.proofs.places.befores_of.Given as goal

abbrev pub invariant-loop-number : goal.invariant-loop-number
invariant-loop-number l = (l.total ≡ room l.template l.pieces l.number-index) × AreBefores l.template l.pieces l.number-index l.befores.items
