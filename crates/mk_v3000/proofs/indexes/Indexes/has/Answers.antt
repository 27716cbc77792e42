use Rattle.std.proofs.Common.{◌∙◌, sym, ap, rules, List, SFits, to_z-of_z, w32}
use Rattle.std.specs.Prelude.{ℤ}
use Rattle.mk_v3000.specs.Twin.{has_index}
use Rattle.mk_v3000.proofs.IndexLemmas.{has_by_count, has_by_list}
use Rattle.mk_v3000.proofs.indexes.Indexes.has.Goals as goal

pub returns-then-is_counted : goal.returns-then-is_counted
returns-then-is_counted c =
    let fits : SFits w32 c.args.index = search rules in
    let test = rw (to_z-of_z fits) at c.is_counted.ensures in
    has_by_count c.self.inside.counted c.self.inside.others.keys c.args.index (sym test ∙ c.if-is_counted.true)
    ∙ ap (λ (xs : List ℤ). has_index xs c.args.index) c.self.view_is

pub returns : goal.returns
returns c =
    let fits : SFits w32 c.args.index = search rules in
    let test = rw (to_z-of_z fits) at c.is_counted.ensures in
    let listed = rw (to_z-of_z fits) at c.contains.ensures in
    listed
    ∙ has_by_list c.self.inside.counted c.self.inside.others.keys c.args.index (sym test ∙ c.if-is_counted.false)
    ∙ ap (λ (xs : List ℤ). has_index xs c.args.index) c.self.view_is
