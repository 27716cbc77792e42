use Rattle.std.proofs.Common.{ℕ, ◌+◌, ◌*◌, List, Option, sym, ap, ◌∙◌, rules, w32}
use Rattle.std.specs.Prelude.{ℤ}
use Rattle.std.proofs.lemmas.Int.{to_z-of_z}
use mir.Val.{SFits}
use Rattle.mk_text.specs.Fields.{field_of}
use Rattle.mk_text.specs.Options.{◌>>=◌, entries_of}
use Rattle.mk_text.proofs.ForCallers.{entries_more, entries_fail}
use Rattle.mk_tables.specs.TableLines.{list_numbers_of}
use Rattle.mk_tables.proofs.table_lines.list_numbers.Goals as goal

abbrev entry : List ℕ → ℕ → Option ℤ
entry line i = field_of line (12 + 4 * i) (14 + 4 * i)

pub loop-i-preserved : goal.loop-i-preserved
loop-i-preserved c =
    let each = entry c.args.line.now in
    let number = c.in-Some-field.number in
    let fits : SFits w32 number = search rules in
    rw (c.in_ok-push.ensures.items, to_z-of_z w32 number fits)
    (entries_more each c.loop-i.numbers.items c.in-Some.count c.loop-i.i number (entries_of each c.in-Some.count 0)
    c.loop-i-test.true (sym c.in-Some-field.ensures.value) c.loop-i.invariant)

pub returns-in_default-field : goal.returns-in_default-field
unfolding list_numbers_of
returns-in_default-field c =
    let each = entry c.args.line.now in
    ap (λ (o : Option ℕ). o >>= λ n. entries_of each n 0) (sym c.in-Some.ensures.value)
    ∙ entries_fail each c.loop-i.numbers.items c.in-Some.count c.loop-i.i (entries_of each c.in-Some.count 0) c.loop-i-test.true (sym c.in_default-field.ensures.value) c.loop-i.invariant
