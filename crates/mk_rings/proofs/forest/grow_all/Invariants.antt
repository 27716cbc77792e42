use Rattle.std.proofs.Common.{◌≡◌, ◌≢◌, ◌≤◌, ◌<◌, ℕ, []}
use Rattle.mk_rings.specs.Forests.{node, IsGrown}
use Rattle.mk_rings.specs.Growing.{AllDone}
use Rattle.mk_rings.proofs.forest.grow_all.Given as goal

abbrev pub invariant-loop-top : goal.invariant-loop-top
invariant-loop-top l = record {
  grown : IsGrown l.bonds l.nodes;
  done : AllDone l.bonds l.nodes;
  reached : (x : ℕ) → 1 ≤ x → x < l.top → (node l.nodes x).root ≢ 0;
  empty : l.stack.items ≡ [];
}
