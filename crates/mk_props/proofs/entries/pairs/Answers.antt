use Rattle.std.proofs.Common.{ℕ, ◌+◌, ◌*◌, List, Option, sym, ap, ◌∙◌}
use Rattle.mk_props.specs.declared.property.Pair.{Pair}
use Rattle.mk_text.specs.Options.{◌>>=◌, entries_of}
use Rattle.mk_props.specs.Reading.{pair_of, pairs_of}
use Rattle.mk_text.proofs.ForCallers.{entries_more, entries_fail}
use Rattle.mk_props.proofs.entries.pairs.Goals as goal

abbrev entry : List ℕ → ℕ → ℕ → Option Pair
entry line at i = pair_of line (at + 3 + 8 * i)

pub loop-i-preserved : goal.loop-i-preserved
loop-i-preserved c =
    let each = entry c.args.line.now c.args.at in
    rw c.in_ok-push.ensures.ok (entries_more each c.loop-i.pairs c.in-Some.count c.loop-i.i c.in-Some-pair_at.pair
    (entries_of each c.in-Some.count 0) c.loop-i-test.true (sym c.in-Some-pair_at.ensures) c.loop-i.invariant)

pub returns-in_default-pair_at : goal.returns-in_default-pair_at
unfolding pairs_of
returns-in_default-pair_at c =
    let each = entry c.args.line.now c.args.at in
    ap (λ (o : Option ℕ). o >>= λ n. entries_of each n 0) (sym c.in-Some.ensures.value)
    ∙ entries_fail each c.loop-i.pairs c.in-Some.count c.loop-i.i (entries_of each c.in-Some.count 0) c.loop-i-test.true (sym c.in_default-pair_at.ensures) c.loop-i.invariant
