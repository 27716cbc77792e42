use Rattle.std.proofs.Common.{ℕ, List, sym, subst, ◌∙◌, refl}
use Rattle.std.proofs.lemmas.Bool.{true≢false, false≢true}
use Rattle.std.proofs.lemmas.List.{take_all}
use Rattle.std.proofs.lemmas.List.Elements.{All-more}
use Rattle.mk_query.specs.Checks.{IsElementName}
use Rattle.mk_query.proofs.lists.are_symbols.Goals as goal

pub loop-symbol-preserved : goal.loop-symbol-preserved
loop-symbol-preserved c =
    let names = rw c.as_slice.ensures at (c.is_element_name.ensures.0 c.if-not-is_element_name.false) in
    All-more IsElementName c.args.symbols.now c.loop-symbol.symbol-index c.symbol-item.result c.loop-symbol-test.true c.loop-symbol.invariant
    (subst (λ (symbol : List ℕ). IsElementName symbol) c.symbol-item.is names)

pub returns-then-not-is_element_name : goal.returns-then-not-is_element_name
returns-then-not-is_element_name c = (
  λ t. absurd (false≢true t),
  λ all.
      (let here = subst (λ (symbol : List ℕ). IsElementName symbol) (sym c.symbol-item.is) (all c.loop-symbol.symbol-index c.symbol-item.result c.loop-symbol-test.true) in
      let tests = rw c.as_slice.ensures at c.is_element_name.ensures in
      absurd (true≢false (sym (tests.1 here) ∙ c.if-not-is_element_name.true))),
)

pub returns : goal.returns
returns c = (λ t. rw (take_all c.loop-symbol.symbol-index c.args.symbols.now c.loop-symbol-test.false) at c.loop-symbol.invariant, λ all. refl)
