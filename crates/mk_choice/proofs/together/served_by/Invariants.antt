use Rattle.std.proofs.Common.{◌≡◌, ◌≤◌, ◌+◌, ◌*◌, cond}
use Rattle.mk_choice.specs.Together.{is_wanting, total}
use Rattle.mk_choice.specs.Bounds.{bound_in}
use Rattle.mk_choice.proofs.together.served_by.Given as goal

abbrev pub invariant-loop-g : goal.invariant-loop-g
invariant-loop-g l = record {
  sum : l.sum ≡ total (λ i. cond (is_wanting l.wants i) (bound_in l.most (l.h + 1) (i + 1)) 0) l.g;
  few : l.sum ≤ 513 * l.g;
}
