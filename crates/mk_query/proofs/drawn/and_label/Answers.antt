use Rattle.std.proofs.Common.{refl, sym, ap, ◌∙◌, ◌≡◌, arith}
use Rattle.std.proofs.lemmas.Bool.{true≢false}
use Rattle.mk_demands.specs.Numbers.{natural}
use Rattle.mk_query.proofs.LabelMarkLemmas.{known_number, label_known, label_unknown}
use Rattle.mk_query.proofs.drawn.and_label.Goals as goal

pub returns-then-not-is_known : goal.returns-then-not-is_known
returns-then-not-is_known c = λ those are.
    label_unknown those c.args.labels _ c.args.pair.now.value are refl refl refl (λ known. true≢false (sym (c.is_known.ensures.1 known) ∙ c.if-not-is_known.true))

pub with_label-requires : goal.with_label-requires
with_label-requires c =
    let number = known_number c.args.pair.now.value (c.is_known.ensures.0 c.if-not-is_known.false) in
    let same = c.group_of.ensures ∙ ap natural number.3 in
    (omega (arith, same, number.1), omega (arith, same, number.2))

pub returns : goal.returns
returns c = λ those are.
    let number = known_number c.args.pair.now.value (c.is_known.ensures.0 c.if-not-is_known.false) in
    let same : c.group_of.result ≡ number.0 = c.group_of.ensures ∙ ap natural number.3 in
    label_known those c.args.labels c.with_label.result c.args.pair.now.value are c.with_label.ensures.some number.0 number.3 number.1 number.2
    (rw same at c.with_label.ensures.once) (rw same at c.with_label.ensures.set) (rw same at c.with_label.ensures.others)
