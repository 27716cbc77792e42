use Rattle.std.proofs.Common.{◌≡◌, ◌+◌, ◌∷◌, ◌++◌, [], List, ℕ, replicate, ap, ◌∙◌, refl, subst, arith}
use Rattle.std.proofs.lemmas.List.{replicate-append-replicate}
use Rattle.mk_model.specs.declared.group.Group.{Group}
use Rattle.mk_model.specs.QueryFits.{QueryFits}
use Rattle.mk_model.specs.Templates.{TemplateView}
use Rattle.mk_model.proofs.FitsOnLiterals.{fits, query, root}
use Rattle.mk_model.proofs.OnLiterals.{plain_group, single}
use Rattle.mk_fixtures.proofs.links.query_of_link_and_site.Goals as goal

-- the first two groups, and so many more
abbrev groups_to : ℕ → List Group
groups_to n = plain_group (1 ∷ 3 ∷ []) ∷ plain_group (2 ∷ []) ∷ replicate n (plain_group [])

one_more : (n : ℕ) (groups : List Group) → groups ≡ groups_to n → groups ++ (plain_group [] ∷ []) ≡ groups_to (n + 1)
one_more n groups is =
    ap (λ (gs : List Group). gs ++ (plain_group [] ∷ [])) is
    ∙ ap (λ (gs : List Group). plain_group (1 ∷ 3 ∷ []) ∷ plain_group (2 ∷ []) ∷ gs) (replicate-append-replicate n 1 (plain_group []))

-- behind the loop there are 32 groups
all_groups : (groups : List Group) (n : ℕ) → n ≡ 30 → groups ≡ groups_to n → groups ≡ groups_to 30
all_groups groups n thirty are = subst (λ (k : ℕ). groups ≡ groups_to k) thirty are

fits_so : (templates : List TemplateView) (groups : List Group) → templates ≡ root ∷ single 9 ∷ single 17 ∷ single 35 ∷ [] → groups ≡ groups_to 30
    → QueryFits (record { templates = templates; groups = groups })
unfolding query
fits_so templates groups t g = rw (t, g) fits

pub loop-init : goal.loop-init
loop-init c = record {
  templates = rw (c.in_ok-templates.ensures.items, c.in_ok-root.ensures, c.in_ok-single.ensures, c.in_ok-single-2.ensures, c.in_ok-single-3.ensures) refl;
  groups = rw (
    c.in_ok-groups.ensures.items,
    c.in_ok-group.ensures,
    c.in_ok-group-2.ensures,
    c.of-ones.ensures,
    c.of-twos.ensures,
    c.in_ok-vec.ensures.items,
    c.in_ok-vec-2.ensures.items,
  ) refl;
  within = omega arith;
}

pub loop-preserved : goal.loop-preserved
loop-preserved c = record {
  templates = c.loop.invariant.templates;
  groups = rw (c.in_ok-push.ensures.items, c.in_ok-plain_group.ensures) (one_more c.loop.counter c.loop.groups.items c.loop.invariant.groups);
  within = omega (arith, c.loop-test.true);
}

pub of-requires : goal.of-requires
of-requires c =
    fits_so c.in_ok-templates.templates.items c.loop.groups.items c.loop.invariant.templates
    (all_groups c.loop.groups.items c.loop.counter (omega (arith, c.loop.invariant.within, c.loop-test.false)) c.loop.invariant.groups)

pub returns : goal.returns
unfolding query
returns c =
    rw (c.of.ensures, c.loop.invariant.templates, all_groups c.loop.groups.items c.loop.counter (omega (arith, c.loop.invariant.within, c.loop-test.false)) c.loop.invariant.groups) refl
