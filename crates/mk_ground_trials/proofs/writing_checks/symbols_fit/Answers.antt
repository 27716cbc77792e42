use Rattle.std.proofs.Common.{ℕ, List, refl}
use Rattle.mk_text.specs.Lines.{EndsWith}
use Rattle.mk_spelling.specs.TableSpelling.{IsSymbol}
use Rattle.mk_spelling.proofs.GraphicLemmas.{all_taken, one_more}
use Rattle.mk_ground_trials.proofs.writing_checks.symbols_fit.Goals as goal

pub loop-symbol-preserved : goal.loop-symbol-preserved
loop-symbol-preserved c =
    let fits = rw c.as_slice.ensures at c.if-not-is_writable_symbol.ensures.fits in
    let no_cr = rw c.as_slice.ensures at c.if-not-is_writable_symbol.ensures.no_cr in (
      one_more (IsSymbol 4) c.args.symbols.now c.loop-symbol.symbol-index c.symbol-item.result c.loop-symbol.invariant.0 c.loop-symbol-test.true c.symbol-item.is (fits refl),
      one_more (λ (text : List ℕ). EndsWith 13 text → ⊥) c.args.symbols.now c.loop-symbol.symbol-index c.symbol-item.result c.loop-symbol.invariant.1 c.loop-symbol-test.true c.symbol-item.is
          (no_cr refl),
    )

pub returns-clause-fit : goal.returns-clause-fit
returns-clause-fit c = λ is. all_taken (IsSymbol 4) c.args.symbols.now c.loop-symbol.symbol-index c.loop-symbol-test.false c.loop-symbol.invariant.0

pub returns-clause-no_cr : goal.returns-clause-no_cr
returns-clause-no_cr c = λ is. all_taken (λ (text : List ℕ). EndsWith 13 text → ⊥) c.args.symbols.now c.loop-symbol.symbol-index c.loop-symbol-test.false c.loop-symbol.invariant.1
