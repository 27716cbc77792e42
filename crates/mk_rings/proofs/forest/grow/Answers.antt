use Rattle.std.proofs.Common.{◌≡◌, ◌-◌, ◌++◌, [], ◌∷◌, ℕ, refl, ap, sym, subst, ◌∙◌, length, arith}
use Rattle.std.proofs.lemmas.List.{length-set, nil_from_length}
use Rattle.mk_model.proofs.ForCallers.{length-rows_of}
use Rattle.mk_model.specs.Edges.{AreBetween}
use Rattle.mk_rings.specs.Growing.{IsReaching, IsInTree}
use Rattle.mk_rings.proofs.GrowLemmas.{numbers-row}
use Rattle.mk_rings.proofs.TreeLemmas.{IsReaching-top, IsReaching-pop, AllDone-empty}
use Rattle.mk_rings.proofs.forest.grow.Goals as goal
use Rattle.mk_rings.proofs.forest.grow.Goals.{In-Some}

pub loop-x-init : goal.loop-x-init
loop-x-init c =
    let items : c.push.new.self.items ≡ c.args.top ∷ [] = c.in_ok-push.ensures.items ∙ ap (λ xs. xs ++ c.args.top ∷ []) c.requires.empty in
    let begun = IsReaching-top c.args.bonds.now c.args.nodes.now c.args.top _ c.requires.grown c.requires.done c.requires.within.0 c.requires.within.1 c.requires.new refl refl in
    record {
      reaching = rw items begun.0;
      stay = begun.1;
      reached = begun.2;
    }

popped : (c : In-Some) → IsReaching c.args.bonds.now c.loop-x.nodes c.pop.new.self.items c.args.top c.in-Some.x × IsInTree c.loop-x.nodes c.args.top c.in-Some.x
popped c =
    let size : length c.loop-x.nodes ≡ length c.args.nodes.now = c.loop-x.auto.nodes ∙ length-set _ _ _ in
    let ends : AreBetween (length c.loop-x.nodes - 1) c.args.bonds.now = rw size c.requires.ends in
    IsReaching-pop c.args.bonds.now c.loop-x.nodes c.loop-x.stack.items c.pop.new.self.items c.in-Some.x c.args.top c.in-Some.ensures.items ends c.loop-x.invariant.reaching

pub at-requires-clause-most : goal.at-requires-clause-most
at-requires-clause-most c =
    let size : length c.loop-x.nodes ≡ length c.args.nodes.now = c.loop-x.auto.nodes ∙ length-set _ _ _ in
    omega (arith, (popped (goal.at.at-requires-clause-most c).In-Some).1.1, size, ap length c.requires.rows, length-rows_of (length c.args.nodes.now - 1) c.args.bonds.now)

pub follow-requires-clause-reaching : goal.follow-requires-clause-reaching
follow-requires-clause-reaching c =
    let both = popped (goal.at.follow-requires-clause-reaching c).In-Some in
    let P : ℕ → Type 0 = λ t. IsReaching c.args.bonds.now c.loop-x.nodes c.pop.new.self.items t c.in-Some.x in
    subst P (sym both.1.2) both.0

pub follow-requires-clause-numbers : goal.follow-requires-clause-numbers
follow-requires-clause-numbers c =
    let in_tree = (popped (goal.at.follow-requires-clause-numbers c).In-Some).1 in
    let size : length c.loop-x.nodes ≡ length c.args.nodes.now = c.loop-x.auto.nodes ∙ length-set _ _ _ in
    numbers-row (length c.args.nodes.now - 1) c.args.bonds.now c.args.near.now c.in-Some.x c.at.result.now c.requires.rows in_tree.0 (omega (arith, in_tree.1, size)) c.at.ensures

pub loop-x-preserved : goal.loop-x-preserved
loop-x-preserved c =
    let in_tree = (popped (goal.at.loop-x-preserved c).In-Some).1 in
    let P : ℕ → Type 0 = λ t. IsReaching c.args.bonds.now c.follow.new.nodes c.follow.new.stack.items t 0 in
    record {
      reaching = subst P in_tree.2 c.in_ok-follow.ensures.reaching;
      stay = λ x was. c.in_ok-follow.ensures.stay x (c.loop-x.invariant.stay x was);
      reached = c.in_ok-follow.ensures.stay c.args.top c.loop-x.invariant.reached;
    }

pub returns-clause-done : goal.returns-clause-done
returns-clause-done c =
    let size : length c.loop-x.nodes ≡ length c.args.nodes.now = c.loop-x.auto.nodes ∙ length-set _ _ _ in
    let ends : AreBetween (length c.loop-x.nodes - 1) c.args.bonds.now = rw size c.requires.ends in
    let empty : c.loop-x.stack.items ≡ [] = nil_from_length c.loop-x.stack.items (omega (arith, c.in_default.ensures.cases.0, c.loop-x.stack.ok.0)) in
    AllDone-empty c.args.bonds.now c.loop-x.nodes c.loop-x.stack.items c.args.top empty ends c.loop-x.invariant.reaching
