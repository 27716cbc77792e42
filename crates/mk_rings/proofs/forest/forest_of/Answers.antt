use Rattle.std.proofs.Common.{◌≡◌, ◌+◌, replicate}
use Rattle.mk_rings.specs.Forests.{nowhere}
use Rattle.mk_rings.proofs.TreeLemmas.{IsGrown-none}
use Rattle.mk_rings.proofs.forest.forest_of.Goals as goal

pub grow_all-requires-clause-grown : goal.grow_all-requires-clause-grown
grow_all-requires-clause-grown c =
    let items : c.in_ok-nodes.nodes.items ≡ replicate (c.args.atoms + 1) nowhere = c.in_ok-nodes.ensures.items_if_clones_equal (λ y h. h) in
    rw (c.deref_mut.ensures.value, items) (IsGrown-none c.args.bonds.now (c.args.atoms + 1)).0
