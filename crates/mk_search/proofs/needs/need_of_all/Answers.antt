use Rattle.std.proofs.Common.{◌∙◌, None, subst}
use Rattle.mk_text.specs.Rising.{IsLeastFrom}
use Rattle.mk_model.specs.Logic.{IsValid}
use Rattle.mk_model.specs.Nodes.{SameFrom}
use Rattle.mk_model.specs.Queries.{QueryView}
use Rattle.mk_search.proofs.NeedsLemmas.{need_all, need_moved, need_none, need_taken}
use Rattle.mk_search.proofs.needs.need_of_all.Goals as goal

pub loop-turns-init : goal.loop-turns-init
loop-turns-init c = record {
  below = rw c.requires.first (need_none c.args.query.now _);
  query = c.requires.query;
  kept = c.requires.kept;
}

pub returns-in-End-clause-need : goal.returns-in-End-clause-need
returns-in-End-clause-need c =
    let query = c.args.query.now in
    let place = c.loop-turns.codes.place in
    let ended = rw c.in-End.is at c.advance.ensures in
    let none : IsLeastFrom place (IsValid query) None = subst (λ (q : QueryView). IsLeastFrom place (IsValid q) None) c.loop-turns.invariant.query ended.0 in
    need_all query place c.loop-turns.need none c.loop-turns.invariant.below

pub loop-turns-preserved-in-Moved : goal.loop-turns-preserved-in-Moved
loop-turns-preserved-in-Moved c =
    let query = c.args.query.now in
    let invariant = c.loop-turns.invariant in
    let from = c.loop-turns.codes.place in
    let to = c.advance.new.self.place in
    let moved = (rw c.in-Moved.is at c.advance.ensures).0 in
    let same : SameFrom (IsValid query) from to = subst (λ (q : QueryView). SameFrom (IsValid q) from to) invariant.query moved.same in
    record {
      below = need_moved query from to c.loop-turns.need same invariant.below;
      query = moved.query ∙ invariant.query;
      kept = invariant.kept;
    }

pub loop-turns-preserved : goal.loop-turns-preserved
loop-turns-preserved c =
    let query = c.args.query.now in
    let invariant = c.loop-turns.invariant in
    let expansion = c.in_ok-expansion.expansion in
    let taken = (rw c.in-Item.is at c.advance.ensures).0 in
    let given = c.in_ok-expansion.ensures in
    let both = c.meet-need.ensures in
    record {
      below = need_taken query c.loop-turns.codes c.advance.new.self c.item.result.now expansion.code.items expansion.graph c.loop-turns.need expansion.need c.meet-need.result
          invariant.query taken c.item.ensures given.code given.is.is given.is.need both.first both.second invariant.below;
      query = taken.1.query ∙ invariant.query;
      kept = c.in_ok-keep.ensures query given.kept given.is;
    }
