use Rattle.std.proofs.Common.{◌∙◌, length, sym}
use Rattle.std.proofs.lemmas.Bool.{ltb-false, ltb-true}
use Rattle.mk_model.proofs.MembersLemmas.{members_past, members_there}
use Rattle.mk_model.proofs.query.Query.members_of.Goals as goal

pub returns-in-Some : goal.returns-in-Some
returns-in-Some c =
    let found = c.in-Some.ensures.lookup in
    record {
      list =
          c.as_slice.ensures
          ∙ members_there c.args.self.now c.args.g c.groups.result.now c.saturating_sub.result c.in-Some.group.now
          c.groups.ensures.list c.saturating_sub.ensures (ltb-true c.saturating_sub.result (length c.groups.result.now) (sym found.0)) found.1;
      kept = c.groups.ensures.kept;
    }

pub returns-in-None : goal.returns-in-None
returns-in-None c =
    record {
      list =
          members_past c.args.self.now c.args.g c.groups.result.now c.saturating_sub.result
          c.groups.ensures.list c.saturating_sub.ensures (ltb-false c.saturating_sub.result (length c.groups.result.now) (sym c.in-None.ensures.lookup.0));
      kept = c.groups.ensures.kept;
    }
