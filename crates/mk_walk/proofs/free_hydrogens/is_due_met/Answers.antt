use Rattle.std.proofs.Common.{◌≡◌, ◌+◌, length, arith}
use Rattle.mk_walk.proofs.free_hydrogens.is_due_met.Goals as goal

pub returns : goal.returns
returns c =
    let met = rw c.image_with.ensures at c.are_lower_taken.ensures in
    let now : c.args.one.due ≡ length c.args.first.now + 1 = omega arith in
    (λ is _. met.0 is, λ free. met.1 (free now))
