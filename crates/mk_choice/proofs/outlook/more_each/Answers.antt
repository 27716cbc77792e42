use Rattle.std.proofs.Common.{◌<◌, ◌-◌, ℕ, get_or, length, take, ◌+◌, length-set, ap, ◌∙◌, arith}
use Rattle.std.specs.Prelude.{slice_index}
use Rattle.mk_choice.proofs.LabelLemmas.{borne_few, borne_next, number_more, same_label}
use Rattle.mk_choice.proofs.outlook.more_each.Goals as goal

pub loop-g-preserved : goal.loop-g-preserved
loop-g-preserved c =
    let labels = c.args.labels.now in
    let at = c.loop-g.g-index in
    let sites = c.loop-g.sites in
    let h : ℕ = get_or labels at 0 in
    let range = c.requires.labels.in_range at 0 c.loop-g-test.true in
    let below : h - 1 < length sites = omega (arith, range.0, range.1, c.loop-g.invariant.size) in
    record {
      size = length-set sites (h - 1) c.saturating_add.result ∙ c.loop-g.invariant.size;
      more = λ i within few.
          let before = c.loop-g.invariant.more i within few in
          let next = number_more sites (h - 1) c.saturating_add.result i below
          (λ same. omega (arith, c.saturating_add.ensures, ap (slice_index sites) same, before, few, borne_few (take at labels) (i + 1))) in
          omega (arith, next, before, borne_next labels at 0 (i + 1) c.requires.labels.rise c.loop-g-test.true, same_label h i range.0);
    }
