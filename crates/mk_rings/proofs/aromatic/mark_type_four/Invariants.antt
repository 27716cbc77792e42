use Rattle.std.proofs.Common.{◌≡◌, ◌<◌, ℕ, false, eqb, get_or}
use Rattle.mk_model.specs.declared.edge.Edge.{Edge}
use Rattle.mk_rings.proofs.aromatic.mark_type_four.Given as goal

abbrev pub invariant-loop-b : goal.invariant-loop-b
invariant-loop-b l = (k : ℕ) (d : Edge) → k < l.b → get_or l.marks k false ≡ eqb (get_or l.bonds k d).kind 4
