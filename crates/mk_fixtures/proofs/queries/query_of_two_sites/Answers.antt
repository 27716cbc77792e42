use Rattle.std.proofs.Common.{◌≡◌, ◌+◌, ◌∷◌, ◌++◌, [], List, ℕ, replicate, ap, ◌∙◌, refl, subst, arith}
use Rattle.std.proofs.lemmas.List.{replicate-append-replicate}
use Rattle.mk_model.specs.declared.group.Group.{Group}
use Rattle.mk_model.proofs.OnLiterals.{group, plain_group, range, then_query}
use Rattle.mk_choice.proofs.ExampleFits.{fits_so}
use Rattle.mk_fixtures.proofs.queries.query_of_two_sites.Goals as goal

-- one group more
one_more : (first second plain : Group) (n : ℕ) (groups : List Group) → groups ≡ first ∷ second ∷ replicate n plain
    → groups ++ (plain ∷ []) ≡ first ∷ second ∷ replicate (n + 1) plain
one_more first second plain n groups is =
    ap (λ (gs : List Group). gs ++ (plain ∷ [])) is ∙ ap (λ (gs : List Group). first ∷ second ∷ gs) (replicate-append-replicate n 1 plain)

pub loop-preserved : goal.loop-preserved
loop-preserved c = record {
  templates = c.loop.invariant.templates;
  groups = rw (c.in_ok-push.ensures.items, c.in_ok-plain_group.ensures)
      (one_more (group (1 ∷ []) 2 (range 0 1)) (group (2 ∷ []) 0 (range 1 1)) (plain_group []) c.loop.counter c.loop.groups.items c.loop.invariant.groups);
  within = omega (arith, c.loop-test.true);
}

-- behind the loop there are 32 groups
all_groups : (groups : List Group) (n : ℕ) → n ≡ 30 → groups ≡ group (1 ∷ []) 2 (range 0 1) ∷ group (2 ∷ []) 0 (range 1 1) ∷ replicate n (plain_group [])
    → groups ≡ group (1 ∷ []) 2 (range 0 1) ∷ group (2 ∷ []) 0 (range 1 1) ∷ replicate 30 (plain_group [])
all_groups groups n thirty are = subst (λ (k : ℕ). groups ≡ group (1 ∷ []) 2 (range 0 1) ∷ group (2 ∷ []) 0 (range 1 1) ∷ replicate k (plain_group [])) thirty are

pub of-requires : goal.of-requires
of-requires c =
    fits_so c.in_ok-templates.templates.items c.loop.groups.items c.loop.invariant.templates
    (all_groups c.loop.groups.items c.loop.counter (omega (arith, c.loop.invariant.within, c.loop-test.false)) c.loop.invariant.groups)

pub returns : goal.returns
unfolding then_query
returns c =
    rw (c.of.ensures, c.loop.invariant.templates, all_groups c.loop.groups.items c.loop.counter (omega (arith, c.loop.invariant.within, c.loop-test.false)) c.loop.invariant.groups) refl
