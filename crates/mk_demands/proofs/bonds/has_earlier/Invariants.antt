use Rattle.std.proofs.Common.{ℕ, ◌<◌, ◌-◌, get_or}
use Rattle.mk_model.specs.declared.edge.Edge.{Edge}
use Rattle.mk_model.specs.Edges.{HasEnds}
use Rattle.mk_demands.proofs.bonds.has_earlier.Given as goal

abbrev pub invariant-loop-number : goal.invariant-loop-number
invariant-loop-number l =
    (i : ℕ) (d : Edge) → i < l.number-index → get_or l.numbers i 0 - 1 < l.b → HasEnds (get_or l.edges (get_or l.numbers i 0 - 1) d) (get_or l.edges l.b d).first (get_or l.edges l.b d).second → ⊥
