-- A search that goes on by turns from its beginning.
--     CameSoFar graph mol turns search       where the search stands behind so many turns
--     came_nowhere, came_further             before the first turn, and behind one more
use Rattle.std.proofs.Common.{◌≡◌, ◌≤◌, ◌+◌, inl, inr, ◌⊎◌, ℕ, List, [], ◌++◌, length, refl, arith}
use Rattle.std.proofs.lemmas.Bool.{cases_eq}
use Rattle.std.proofs.lemmas.List.{length-append}
use Rattle.mk_text.specs.Rising.{Holds, IsBelow}
use Rattle.mk_text.proofs.ForCallers.{below_or_not, below_what_isnt, holds_each, holds_either, rises_append}
use Rattle.mk_model.specs.Molecules.{Molecule}
use Rattle.mk_model.specs.Graphs.{GraphView}
use Rattle.mk_model.specs.Hits.{IsHit}
use Rattle.mk_model.specs.Nodes.{StandBetween}
use Rattle.mk_walk.specs.declared.search.Search.{Search}
use Rattle.mk_walk.specs.Search.{IsLeft, IsOwed, IsSearch}
use Rattle.mk_walk.specs.SearchTurns.{MovesOn, node_reached}
use Rattle.mk_walk.specs.Turns.{IsMapNode}
use Rattle.mk_walk.specs.Walk.{SameFrom}
use Rattle.mk_walk.proofs.PassedLemmas.{same_through}
use Rattle.mk_walk.proofs.SearchTurnLemmas.{owed_at}

-- ---- lists that stand between places

-- what a list is above, all that isn't above that list is below
below_later : (xs ys zs : List ℕ) → (IsBelow ys xs → ⊥) → IsBelow ys zs → IsBelow xs zs
below_later xs ys zs not below =
    elim (below_or_not xs zs) [
      | inl under ↦ under
      | inr over ↦ absurd (not (below_what_isnt ys xs zs below over))
    ]

-- what each of two lists of lists keeps, both together keep
in_either : (P : List ℕ → Type 0) (lists others : List (List ℕ)) → ((xs : List ℕ) → Holds lists xs → P xs)
    → ((xs : List ℕ) → Holds others xs → P xs) → (xs : List ℕ) → Holds (lists ++ others) xs → P xs
in_either P lists others one two xs held =
    elim (holds_either lists others xs held) [
      | inl here ↦ one xs here
      | inr there ↦ two xs there
    ]

-- what lies between a place and a second, and between that and a third, adds up
stand_together : (P : List ℕ → Type 0) (from through to : List ℕ) (j k : ℕ) → (IsBelow through from → ⊥) → (IsBelow to through → ⊥)
    → StandBetween P from through j → StandBetween P through to k → StandBetween P from to (j + k)
stand_together P from through to j k up on a b =
    let across : (xs ys : List ℕ) → Holds a.nodes xs → Holds b.nodes ys → IsBelow xs ys =
    λ xs ys here there. below_later xs through ys (a.not_above xs here) (b.above ys there) in
    record {
      nodes = a.nodes ++ b.nodes;
      rise = rises_append a.nodes b.nodes a.rise b.rise (holds_each _ a.nodes (λ xs here. holds_each _ b.nodes (λ ys there. across xs ys here there)));
      each = in_either P a.nodes b.nodes a.each b.each;
      above = in_either (IsBelow from) a.nodes b.nodes a.above (λ xs there. below_later from through xs up (b.above xs there));
      not_above = in_either (λ xs. IsBelow to xs → ⊥) a.nodes b.nodes (λ xs here over. a.not_above xs here (below_later through to xs on over)) b.not_above;
      many = (let whole = length-append a.nodes b.nodes in let one = a.many in let other = b.many in omega (arith, whole, one, other));
    }

-- ---- turns

-- The place at which the search is, with no hit below it and a node for each turn on the way. What
-- is owed there is nothing, but for a graph without atoms.
pub record CameSoFar (graph : GraphView) (mol : Molecule) (turns : ℕ) (search : Search) : Type 0 where
  pub is : IsSearch graph mol search
  pub place : List ℕ
  pub debt : ℕ
  pub passed : ℕ
  pub left : IsLeft graph mol place search
  pub owed : IsOwed place debt search
  pub owing : (debt ≡ 0) ⊎ (length graph.atoms ≡ 0)
  pub stand : StandBetween (IsMapNode graph mol) [] place passed
  pub enough : turns ≤ passed
  pub same : SameFrom (IsHit graph mol) [] place

-- none stand between a place and itself
none_stand : (P : List ℕ → Type 0) (place : List ℕ) → StandBetween P place place 0
none_stand P place = record { nodes = []; rise = tt; each = λ xs held. absurd held; above = λ xs held. absurd held; not_above = λ xs held. absurd held; many = refl }

same_itself : (P : List ℕ → Type 0) (place : List ℕ) → SameFrom P place place
same_itself P place = record { on = λ xs has not. not; back = λ xs has not. not }

module _ (graph : GraphView) (mol : Molecule) where
  came_with : (debt : ℕ) (search : Search) → IsSearch graph mol search → IsLeft graph mol [] search → IsOwed [] debt search
      → (debt ≡ 0) ⊎ (length graph.atoms ≡ 0) → CameSoFar graph mol 0 search
  came_with debt search is left owed owing = record {
    is = is;
    place = [];
    debt = debt;
    passed = 0;
    left = left;
    owed = owed;
    owing = owing;
    stand = none_stand (IsMapNode graph mol) [];
    enough = omega arith;
    same = same_itself (IsHit graph mol) [];
  }

  -- before the first turn
  pub came_nowhere : (search : Search) → IsSearch graph mol search → IsLeft graph mol [] search → IsOwed [] 1 search → CameSoFar graph mol 0 search
  came_nowhere search is left owed =
      elim (cases_eq (length graph.atoms) 0) [
        | inl none ↦ came_with 1 search is left owed (inr none)
        | inr some ↦ came_with 0 search is left (owed_at graph mol [] 0 search is owed (inr (refl, refl, omega (arith, some)))) (inl refl)
      ]

  module _ (turns : ℕ) (old new : Search) (came : CameSoFar graph mol turns old) where
    -- one turn more
    pub came_further : IsSearch graph mol new
        → ((place : List ℕ) (debt : ℕ) → IsLeft graph mol place old → IsOwed place debt old → MovesOn graph mol place debt new)
        → CameSoFar graph mol (turns + 1) new
    came_further is turned =
        let on = turned came.place came.debt came.left came.owed in
        let none : came.debt ≡ 0 = elim came.owing [ inl none ↦ none | inr bare ↦ absurd (omega (arith, bare, on.short, on.room)) ] in
        record {
          is = is;
          place = node_reached new;
          debt = 0;
          passed = came.passed + on.pays.passed;
          left = on.left;
          owed = on.owed;
          owing = inl refl;
          stand = stand_together (IsMapNode graph mol) [] came.place (node_reached new) came.passed on.pays.passed (λ below. below) on.pays.up came.stand on.pays.stand;
          enough = omega (arith, came.enough, on.pays.pays, none);
          same = same_through (IsHit graph mol) [] came.place (node_reached new) came.same on.same;
        }
