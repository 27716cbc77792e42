use Rattle.std.proofs.Common.{ℕ, ◌+◌, ◌*◌, List, Option, sym, ap, ◌∙◌}
use Rattle.mk_props.specs.declared.property.LinkEntry.{LinkEntry}
use Rattle.mk_text.specs.Options.{◌>>=◌, entries_of}
use Rattle.mk_props.specs.Reading.{link_of, links_of}
use Rattle.mk_text.proofs.ForCallers.{entries_more, entries_fail}
use Rattle.mk_props.proofs.entries.links.Goals as goal

abbrev entry : List ℕ → ℕ → Option LinkEntry
entry line i = link_of line (10 + 16 * i)

pub loop-i-preserved : goal.loop-i-preserved
loop-i-preserved c =
    let each = entry c.args.line.now in
    rw c.in_ok-push.ensures.ok (entries_more each c.loop-i.links c.in-Some.count c.loop-i.i c.in-Some-link_at.link
    (entries_of each c.in-Some.count 0) c.loop-i-test.true (sym c.in-Some-link_at.ensures) c.loop-i.invariant)

pub returns-in_default-link_at : goal.returns-in_default-link_at
unfolding links_of
returns-in_default-link_at c =
    let each = entry c.args.line.now in
    ap (λ (o : Option ℕ). o >>= λ n. entries_of each n 0) (sym c.in-Some.ensures.value)
    ∙ entries_fail each c.loop-i.links c.in-Some.count c.loop-i.i (entries_of each c.in-Some.count 0) c.loop-i-test.true (sym c.in_default-link_at.ensures) c.loop-i.invariant
