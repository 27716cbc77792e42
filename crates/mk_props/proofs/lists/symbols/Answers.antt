use Rattle.std.proofs.Common.{◌≡◌, ℕ, List, Option, Some, sym, ap, ◌∙◌}
use Rattle.mk_props.specs.Lists.{symbol_of}
use Rattle.mk_text.specs.Options.{entries_of}
use Rattle.mk_text.proofs.ForCallers.{entries_more}
use Rattle.mk_props.proofs.lists.symbols.Goals as goal

abbrev entry : List ℕ → ℕ → Option (List ℕ)
entry line i = Some (symbol_of line i)

pub loop-i-preserved : goal.loop-i-preserved
loop-i-preserved c =
    let each = entry c.args.line.now in
    let is : each c.loop-i.i ≡ Some c.of.result = ap Some (sym (c.of.ensures ∙ c.in_ok-from_slice.ensures.items ∙ c.trimmed_column-symbol.ensures)) in
    rw c.in_ok-push.ensures.ok (entries_more each c.loop-i.symbols c.in-Some.count c.loop-i.i c.of.result (entries_of each c.in-Some.count 0) c.loop-i-test.true is c.loop-i.invariant)
