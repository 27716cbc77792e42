use Rattle.std.proofs.Common.{◌≡◌, ℕ, ◌<◌, List, Some, arith, subst, sym}
use Rattle.std.specs.Prelude.{IfSome, pos}
use Rattle.mk_text.specs.Fields.{field_in}
use Rattle.mk_text.proofs.FieldLemmas.{three_cells}
use Rattle.mk_text.proofs.fields.small_number.Goals as goal

pub returns-in-len3 : goal.returns-in-len3
returns-in-len3 c =
    subst (λ (cells : List ℕ). IfSome c.number_of_three.result (λ n. (field_in cells ≡ Some (pos n)) × (n < 100))) (sym (three_cells c.args.cells.now (omega arith)))
    c.number_of_three.ensures
