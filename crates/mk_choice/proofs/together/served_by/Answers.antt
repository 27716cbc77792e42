use Rattle.std.proofs.Common.{◌≡◌, ◌+◌, ℕ, cond, subst, arith}
use Rattle.mk_choice.specs.Bounds.{bound_in}
use Rattle.mk_choice.specs.Together.{is_wanting, total}
use Rattle.mk_choice.proofs.together.served_by.Goals as goal

pub returns : goal.returns
returns c =
    let end : c.loop-g.g ≡ 32 = omega arith in
    subst (λ (n : ℕ). c.loop-g.sum ≡ total (λ i. cond (is_wanting c.args.wants i) (bound_in c.args.most.now (c.args.h + 1) (i + 1)) 0) n) end c.loop-g.invariant.sum
