use Rattle.std.proofs.Common.{◌≡◌, ◌≤◌, ◌*◌, ℕ, cond, subst, arith}
use Rattle.std.specs.Prelude.{slice_index}
use Rattle.mk_choice.specs.Together.{is_capped, total}
use Rattle.mk_choice.proofs.together.served_to_ends.Goals as goal

pub returns : goal.returns
returns c = λ small.
    let end : c.loop-i.i ≡ 32 = omega arith in
    subst (λ (n : ℕ). total (λ i. cond (is_capped c.args.caps i) (slice_index c.args.caps i * slice_index c.args.served i) 0) n ≤ c.loop-i.sum) end (c.loop-i.invariant small)
