use Rattle.std.proofs.Common.{◌≡◌, ◌≤◌, ◌∙◌, false, eqb, length, arith, sym}
use Rattle.std.proofs.lemmas.Bool.Decides.{nat_tests}
use Rattle.mk_logic.proofs.RangeTextsLemmas.{trimmed_whole}
use Rattle.mk_logic.proofs.range_texts.without_blanks.Goals as goal

pub returns : goal.returns
returns c =
    let some : eqb (length c.args.text.now) 0 ≡ false = sym (c.is_empty.ensures) ∙ c.if-is_empty.false in
    let least : 1 ≤ length c.args.text.now = grind (arith, nat_tests) in
    c.trimmed_column.ensures ∙ trimmed_whole c.args.text.now least
