use Rattle.std.proofs.Common.{◌≡◌, ◌≤◌, ◌∷◌, [], replicate}
use Rattle.mk_model.proofs.FitsOnLiterals.{root}
use Rattle.mk_model.proofs.OnLiterals.{plain_group, single}
use Rattle.mk_fixtures.proofs.links.query_of_link_and_site.Given as goal

abbrev pub invariant-loop : goal.invariant-loop
invariant-loop l = record {
  templates : l.templates.items ≡ root ∷ single 9 ∷ single 17 ∷ single 35 ∷ [];
  groups : l.groups.items ≡ plain_group (1 ∷ 3 ∷ []) ∷ plain_group (2 ∷ []) ∷ replicate l.counter (plain_group []);
  within : l.counter ≤ 30;
}
