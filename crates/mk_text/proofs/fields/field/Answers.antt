use Rattle.std.proofs.Common.{◌≡◌, ◌∙◌, ap, sym, Option, Some, None, refl}
use Rattle.std.specs.Prelude.{ℕ, List, ℤ, IfSome, IfNone}
use Rattle.mk_text.specs.Columns.{columns}
use Rattle.mk_text.specs.Fields.{IsField, field_in, field_of, signed_in}
use Rattle.mk_text.proofs.FieldLemmas.{some_is_field, none_is_no_field}
use Rattle.mk_text.proofs.TrimLemmas.{trimmed-columns}
use Rattle.mk_text.proofs.fields.field.Goals as goal

number_by : (cells : List ℕ) (o : Option ℤ) → o ≡ field_in cells → IfSome o (IsField cells)
number_by cells None read = tt
number_by cells (Some z) read = some_is_field cells (Some z) z read refl

none_by : (cells : List ℕ) (o : Option ℤ) → o ≡ field_in cells → IfNone o ((z : ℤ) → IsField cells z → ⊥)
none_by cells None read = none_is_no_field cells read
none_by cells (Some z) read = tt

-- the number of what stands on the line is that of the columns
read : (c : goal.After-number_in) → c.number_in.result ≡ field_in (columns c.args.line.now c.args.from c.args.to)
read c =
    c.number_in.ensures ∙ ap field_in c.column.ensures
    ∙ sym (ap signed_in (trimmed-columns c.args.line.now c.args.from c.args.to c.requires.first c.requires.order))

pub returns-clause-number : goal.returns-clause-number
returns-clause-number c = number_by (columns c.args.line.now c.args.from c.args.to) c.number_in.result (read c)

pub returns-clause-none : goal.returns-clause-none
returns-clause-none c = none_by (columns c.args.line.now c.args.from c.args.to) c.number_in.result (read c)

pub returns-clause-value : goal.returns-clause-value
unfolding field_of
returns-clause-value c = read c
