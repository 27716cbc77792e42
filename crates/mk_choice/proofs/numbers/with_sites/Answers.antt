use Rattle.std.proofs.Common.{◌≤◌, ◌-◌, ◌+◌, ℕ, get_or, length, length-set, refl, ◌∙◌, arith}
use Rattle.mk_model.specs.declared.query.Count.{Count}
use Rattle.mk_choice.proofs.CountLemmas.{filled_same, site_more}
use Rattle.mk_choice.proofs.LabelLemmas.{borne_next}
use Rattle.mk_choice.proofs.numbers.with_sites.Goals as goal

-- what is read behind the end
abbrev no_sites : Count
no_sites = record { sites = 0; filled = 0 }

pub loop-g-preserved : goal.loop-g-preserved
loop-g-preserved c =
    let labels = c.args.labels.now in
    let at = c.loop-g.g-index in
    let counts = c.loop-g.counts in
    let h : ℕ = get_or labels at 0 in
    let range = c.requires.labels.in_range at 0 c.loop-g-test.true in
    let within : h ≤ length counts = omega (arith, range.1, c.loop-g.invariant.size) in
    let old : Count = get_or counts (h - 1) no_sites in
    let new : Count = record { sites = old.sites + 1; filled = old.filled } in
    record {
      size = length-set counts (h - 1) new ∙ c.loop-g.invariant.size;
      sites = λ g low.
          omega (
            arith,
            site_more counts h new no_sites range.0 within refl g low,
            c.loop-g.invariant.sites g low,
            borne_next labels at 0 g c.requires.labels.rise c.loop-g-test.true,
          );
      filled = λ g low. filled_same counts h new no_sites range.0 within refl g low ∙ c.loop-g.invariant.filled g low;
    }
