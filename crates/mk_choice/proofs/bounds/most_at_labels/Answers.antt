use Rattle.std.proofs.Common.{◌≡◌, ◌*◌, ◌-◌, ◌+◌, ℕ, get_or, ap, arith}
use Rattle.std.specs.Prelude.{slice_index}
use Rattle.mk_choice.specs.Bounds.{bound_in}
use Rattle.mk_choice.proofs.LabelLemmas.{greatest_next}
use Rattle.mk_choice.proofs.bounds.most_at_labels.Goals as goal

pub loop-h-preserved : goal.loop-h-preserved
loop-h-preserved c =
    let labels = c.args.labels.now in
    let most = c.args.most.now in
    let g = c.args.g in
    let h : ℕ = get_or labels c.loop-h.h-index 0 in
    let column : g + 1 - 1 ≡ g = omega arith in
    let here : bound_in most h (g + 1) ≡ slice_index most ((h - 1) * 32 + g) = ap (λ (j : ℕ). slice_index most ((h - 1) * 32 + j)) column in
    omega (arith, c.max-greatest.ensures, here, c.loop-h.invariant, greatest_next (λ h. bound_in most h (g + 1)) labels c.loop-h.h-index 0 c.loop-h-test.true)
