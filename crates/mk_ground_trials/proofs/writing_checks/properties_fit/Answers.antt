use Rattle.std.proofs.Common.{refl}
use Rattle.mk_tables.specs.Table.{IsKept}
use Rattle.mk_spelling.specs.TableSpelling.{PropertyFits, SymbolsFit, SymbolsEnd, RangeFits}
use Rattle.mk_spelling.proofs.GraphicLemmas.{one_more}
use Rattle.mk_ground_trials.proofs.writing_checks.properties_fit.Goals as goal

pub loop-property-preserved : goal.loop-property-preserved
loop-property-preserved c =
    let all = c.loop-property.invariant in
    record {
      kept = one_more IsKept c.args.properties.now c.loop-property.property-index c.property-item.result all.kept
          c.loop-property-test.true c.property-item.is (c.if-not-property_fits.ensures.kept refl);
      fit = one_more PropertyFits c.args.properties.now c.loop-property.property-index c.property-item.result all.fit
          c.loop-property-test.true c.property-item.is (c.if-not-property_fits.ensures.fits refl);
      symbols = one_more SymbolsFit c.args.properties.now c.loop-property.property-index c.property-item.result
          all.symbols c.loop-property-test.true c.property-item.is (c.if-not-property_fits.ensures.symbols refl);
      symbols_end = one_more SymbolsEnd c.args.properties.now c.loop-property.property-index c.property-item.result
          all.symbols_end c.loop-property-test.true c.property-item.is
          (c.if-not-property_fits.ensures.symbols_end refl);
      ranges = one_more RangeFits c.args.properties.now c.loop-property.property-index c.property-item.result all.ranges
          c.loop-property-test.true c.property-item.is (c.if-not-property_fits.ensures.range refl);
    }
