use Rattle.std.proofs.Common.{◌≡◌, ◌∙◌, ◌∷◌, ◌++◌, [], List, ℕ, Some, inl, inr, ap, refl, subst, sym}
use Rattle.mk_choice.specs.Codes.{CodesLeft}
use Rattle.mk_expansions.specs.Starts.{IsBehind}
use Rattle.mk_search.proofs.occurrences.Occurrences.open_code.Goals as goal

pub returns-then-branch-clause-shown : goal.returns-then-branch-clause-shown
returns-then-branch-clause-shown g c = inl (refl, rw c.requires.shut (c.in_ok-passes_front.ensures.passed c.if-branch.true c.args.steps.now))

pub returns-then-not-may_hold-clause-shown : goal.returns-then-not-may_hold-clause-shown
returns-then-not-may_hold-clause-shown g c =
    let stays = c.in_ok-passes_front.ensures.stays c.if-branch.false in
    inr (inl (
      refl,
      record {
        expansion = c.in_ok-expansion.expansion;
        placed = ap (λ (codes : CodesLeft). codes.place) (sym stays) ∙ c.item-code.ensures ∙ ap (λ (zs : List ℕ). zs ++ 0 ∷ []) (sym c.in_ok-expansion.ensures.code);
        kept = c.in_ok-expansion.ensures.is;
        none = c.if-not-may_hold.ensures.none refl;
        same = stays;
        shut = c.requires.shut;
        same_count = refl;
      },
    ))

pub returns-clause-shown : goal.returns-clause-shown
returns-clause-shown g c =
    let stays = c.in_ok-passes_front.ensures.stays c.if-branch.false in
    inr (inr (
      record {
        expansion = c.in_ok-expansion.expansion;
        placed = ap (λ (codes : CodesLeft). codes.place) (sym stays) ∙ c.item-code.ensures ∙ ap (λ (zs : List ℕ). zs ++ 0 ∷ []) (sym c.in_ok-expansion.ensures.code);
        kept = c.in_ok-expansion.ensures.is;
        screen = c.args.row.screen.now;
        shows = c.requires.screen;
        covers = c.if-not-may_hold.ensures.covers refl;
        back = c.behind-back.result.now;
        behind = subst (λ (zs : List ℕ). IsBehind zs c.args.place.now c.behind-back.result.now) (sym c.in_ok-expansion.ensures.code) c.behind-back.ensures;
        maps = c.in_ok-its.its.maps;
        made = c.in_ok-its.ensures.made;
        same = stays;
        opened = c.replace.ensures.after ∙ ap Some c.in_ok-its.ensures.same;
        one_more = c.in_ok-its.ensures.begin;
      },
      rw c.atom_count-bare.ensures.count refl,
    ))
