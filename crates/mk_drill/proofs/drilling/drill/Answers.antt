use Rattle.std.proofs.Common.{◌≡◌, ◌++◌, List, ℕ, refl, ap, ◌∙◌}
use Rattle.std.proofs.lemmas.Result.{on_ok_weaker}
use Rattle.mk_drill.specs.Drill.{AppendsDrill, drill_line}
use Rattle.mk_drill.proofs.drilling.drill.Goals as goal

pub returns-clause-line : goal.returns-clause-line
returns-clause-line c =
    on_ok_weaker
    {P = c.put_drill_line.new.answer.items ≡ c.args.answer.now.items ++ drill_line c.args.count c.deref.result.now}
    {Q = AppendsDrill c.args.start c.args.count c.args.answer.now.items c.put_drill_line.new.answer.items}
    c.put_drill_line.result
    (λ put. record {
      line = drill_line c.args.count c.in_ok-hits.hits.items;
      is = record { query = c.in_ok-query.query; is_query = c.in_ok-query.ensures; hits = c.in_ok-hits.hits.items; are_hits = c.in_ok-hits.ensures; whole = refl };
      whole = put ∙ ap (λ (hits : List (List ℕ)). c.args.answer.now.items ++ drill_line c.args.count hits) c.deref.ensures.value;
    })
    c.put_drill_line.ensures.ok
