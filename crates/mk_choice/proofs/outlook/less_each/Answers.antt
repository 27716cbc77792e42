use Rattle.std.proofs.Common.{◌<◌, ◌-◌, ◌+◌, ℕ, get_or, length, length-set, ◌∙◌, arith}
use Rattle.mk_choice.proofs.LabelLemmas.{borne_next, number_less, same_label}
use Rattle.mk_choice.proofs.outlook.less_each.Goals as goal

pub loop-g-preserved : goal.loop-g-preserved
loop-g-preserved c =
    let labels = c.args.labels.now in
    let at = c.loop-g.g-index in
    let sites = c.loop-g.sites in
    let h : ℕ = get_or labels at 0 in
    let range = c.requires.labels.in_range at 0 c.loop-g-test.true in
    let below : h - 1 < length sites = omega (arith, range.0, range.1, c.loop-g.invariant.size) in
    record {
      size = length-set sites (h - 1) c.saturating_sub.result ∙ c.loop-g.invariant.size;
      less = λ i within.
          let before = c.loop-g.invariant.less i within in
          let next = number_less sites (h - 1) c.saturating_sub.result i below (λ same. c.saturating_sub.ensures) in
          omega (arith, next, before, borne_next labels at 0 (i + 1) c.requires.labels.rise c.loop-g-test.true, same_label h i range.0);
    }
