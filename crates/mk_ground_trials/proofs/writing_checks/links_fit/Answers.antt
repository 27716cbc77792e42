use Rattle.std.proofs.Common.{rules, refl}
use Rattle.std.proofs.lemmas.List.Elements.{All-more}
use Rattle.mk_spelling.specs.TableSpelling.{LinkFits}
use Rattle.mk_spelling.proofs.GraphicLemmas.{all_taken}
use Rattle.mk_ground_trials.proofs.writing_checks.links_fit.Goals as goal

pub loop-link-preserved : goal.loop-link-preserved
loop-link-preserved c = All-more LinkFits c.args.links.now c.loop-link.link-index _ c.loop-link-test.true c.loop-link.invariant (c.if-not-link_fits.ensures refl)

pub returns : goal.returns
returns c = λ is. record {
  count = record { some = search rules; no_more = search rules };
  each = all_taken LinkFits c.args.links.now c.loop-link.link-index c.loop-link-test.false c.loop-link.invariant;
}
