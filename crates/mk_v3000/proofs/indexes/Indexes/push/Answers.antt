use Rattle.std.proofs.Common.{◌≡◌, ◌++◌, ◌∷◌, ◌∙◌, [], false, sym, ap, rules, List, SFits, to_z-of_z, w32}
use Rattle.std.specs.Prelude.{ℤ}
use Rattle.std.specs.Ordering.{int_eq}
use Rattle.indexmap.specs.IndexSet.{insert_key}
use Rattle.mk_v3000.specs.Indexes.{numbers_from}
use Rattle.mk_v3000.specs.Twin.{has_index}
use Rattle.mk_v3000.proofs.IndexLemmas.{count_more, list_more}
use Rattle.mk_v3000.proofs.indexes.Indexes.push.Goals as goal

pub returns-then-is_next : goal.returns-then-is_next
returns-then-is_next c =
    let fits : SFits w32 c.args.index = search rules in
    let test = rw (to_z-of_z fits) at c.is_next.ensures in
    count_more c.self.inside.counted c.self.inside.others.keys c.args.index (c.is_empty.ensures.0 c.if-is_empty.true) (sym test ∙ c.if-is_next.true)
    ∙ ap (λ (xs : List ℤ). xs ++ c.args.index ∷ []) c.self.view_is

pub returns : goal.returns
returns c =
    let fits : SFits w32 c.args.index = search rules in
    let keys : c.insert.new.self.keys ≡ insert_key int_eq c.self.inside.others.keys c.args.index = rw (to_z-of_z fits) at c.in_ok-insert.ensures.keys in
    let new : has_index (numbers_from 1 c.self.inside.counted ++ c.self.inside.others.keys) c.args.index ≡ false = ap (λ (xs : List ℤ). has_index xs c.args.index) c.self.view_is ∙ c.requires in
    ap (λ (ks : List ℤ). numbers_from 1 c.self.inside.counted ++ ks) keys
    ∙ list_more c.self.inside.counted c.self.inside.others.keys c.args.index new
    ∙ ap (λ (xs : List ℤ). xs ++ c.args.index ∷ []) c.self.view_is
