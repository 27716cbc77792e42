use Rattle.std.proofs.Common.{◌≡◌, vec_len, ◌<◌, ℕ, false, get_or, length}
use Rattle.mk_model.specs.declared.edge.Edge.{Edge}
use Rattle.mk_rings.specs.Bridges.{label_if}
use Rattle.mk_rings.proofs.aromatic.without_bridges.Given as goal

abbrev pub invariant-loop-b : goal.invariant-loop-b
invariant-loop-b l = record {
  size : vec_len l.edges ≡ l.b;
  each : (k : ℕ) (d : Edge) → k < length l.edges.items → get_or l.edges.items k d ≡ label_if (get_or l.rings k false) (get_or l.bonds k d);
}
