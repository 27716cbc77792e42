use Rattle.std.proofs.Common.{◌≡◌, ◌≤◌, ◌∷◌, [], replicate}
use Rattle.mk_model.proofs.OnLiterals.{group, plain_group, range, single, two_sites}
use Rattle.mk_fixtures.proofs.queries.query_of_two_sites.Given as goal

abbrev pub invariant-loop : goal.invariant-loop
invariant-loop l = record {
  templates : l.templates.items ≡ two_sites 1 2 ∷ single 9 ∷ single 17 ∷ [];
  groups : l.groups.items ≡ group (1 ∷ []) 2 (range 0 1) ∷ group (2 ∷ []) 0 (range 1 1) ∷ replicate l.counter (plain_group []);
  within : l.counter ≤ 30;
}
