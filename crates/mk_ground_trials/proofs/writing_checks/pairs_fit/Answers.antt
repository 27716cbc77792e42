use Rattle.std.proofs.Common.{rules, refl}
use Rattle.std.proofs.lemmas.List.Elements.{All-more}
use Rattle.mk_spelling.specs.TableSpelling.{PairFits}
use Rattle.mk_spelling.proofs.GraphicLemmas.{all_taken}
use Rattle.mk_ground_trials.proofs.writing_checks.pairs_fit.Goals as goal

pub loop-pair-preserved : goal.loop-pair-preserved
loop-pair-preserved c = All-more PairFits c.args.pairs.now c.loop-pair.pair-index _ c.loop-pair-test.true c.loop-pair.invariant (c.if-not-pair_fits.ensures refl)

pub returns : goal.returns
returns c = λ is. record {
  count = record { some = search rules; no_more = search rules };
  each = all_taken PairFits c.args.pairs.now c.loop-pair.pair-index c.loop-pair-test.false c.loop-pair.invariant;
}
