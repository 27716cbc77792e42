use Rattle.std.proofs.Common.{ℕ, ◌≡◌, ◌+◌, ◌-◌, ◌<◌, ◌++◌, ◌∷◌, [], length, get_or, ap}
use Rattle.std.proofs.lemmas.List.{map_more}
use Rattle.mk_model.specs.Pieces.{room}
use Rattle.mk_layout.proofs.atoms.expanded_points.Goals as goal

pub loop-x-preserved : goal.loop-x-preserved
loop-x-preserved c =
    let template = c.args.layout.now.template in
    let f : ℕ → ℕ = λ x. room template c.args.layout.now.pieces (x - 1) + 1 in
    let below : c.loop-x.x-index < length template.points = rw (c.points-x-items.ensures, c.template.ensures) at c.loop-x-test.true in
    let item : c.before-in-loop-x.result + 1 ≡ f (get_or template.points c.loop-x.x-index 0) = ap (λ n. n + 1) (rw (c.points-x-items.ensures, c.template.ensures) at c.before-in-loop-x.ensures.is) in
    rw (c.in_ok-push.ensures.items, item, map_more f template.points c.loop-x.x-index 0 below) (ap (λ s. s ++ f (get_or template.points c.loop-x.x-index 0) ∷ []) c.loop-x.invariant)
