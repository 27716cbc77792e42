-- What a turn of a search comes to, from where its walk stood to where it stands.
--     item_least, item_owed, item_pays        a hit
--     moved_same .. moved_short               a node that is no hit
use Rattle.std.proofs.Common.{◌≡◌, ℕ, ◌+◌, ◌≤◌, inl, inr, Bool, List, [], ◌∷◌, ◌++◌, length, take, sym, subst, arith}
use Rattle.mk_text.specs.Rising.{IsBelow, IsLeast}
use Rattle.mk_text.proofs.ForCallers.{below_through, not_below_itself}
use Rattle.mk_model.specs.Molecules.{Molecule}
use Rattle.mk_model.specs.Graphs.{GraphView}
use Rattle.mk_model.specs.Hits.{IsHit}
use Rattle.mk_model.specs.Nodes.{Pays}
use Rattle.mk_model.proofs.ForCallers.{not_below_front, pays_visit, same_from_between, same_to_between}
use Rattle.mk_walk.specs.declared.hydrogens.PlainHydrogen.{PlainHydrogen}
use Rattle.mk_walk.specs.declared.search.Search.{Search}
use Rattle.mk_walk.specs.declared.search.Stage.{Stage}
use Rattle.mk_walk.specs.declared.search.Stage.TheVariants.{Walking, Once, Ended}
use Rattle.mk_walk.specs.Search.{IsDebt, IsOwed, IsOwedAt, IsSearch, IsStage}
use Rattle.mk_walk.specs.Turns.{IsMapNode, IsVisit, node_of}
use Rattle.mk_walk.specs.Walk.{IsWalk, SameFrom, place_of}
use Rattle.mk_walk.proofs.PassedLemmas.{least_of, same_through}
use Rattle.mk_walk.proofs.TurnLemmas.{node_below, node_short}

-- what is above a list isn't below it
pub over_not : (xs ys : List ℕ) → IsBelow xs ys → IsBelow ys xs → ⊥
over_not xs ys over under = not_below_itself xs (below_through xs ys xs over under)

-- the hit that is reached is the least from each place where the same are left
pub item_least : (graph : GraphView) (mol : Molecule) (place from : List ℕ) → SameFrom (IsHit graph mol) place from
    → (hit : List ℕ) → SameFrom (IsHit graph mol) from hit → IsHit graph mol hit → IsLeast place (IsHit graph mol) hit
item_least graph mol place from left hit least is = least_of (IsHit graph mol) place hit (same_through (IsHit graph mol) place from hit left least) is

module _ (graph : GraphView) (mol : Molecule) (place : List ℕ) (debt : ℕ) (from : List ℕ)
    (left : SameFrom (IsHit graph mol) place from) (up : IsBelow from place → ⊥)
    (owed : debt ≡ 0 → IsBelow place from) where
  -- ---- a hit

  pub item_pays : (hit : List ℕ) → IsVisit graph mol from hit → Pays (IsMapNode graph mol) place debt (hit ++ 0 ∷ []) 0
  item_pays hit visit = pays_visit (IsMapNode graph mol) place from hit (hit ++ 0 ∷ []) debt visit.is visit.not_below up owed (not_below_front hit (0 ∷ []))

  -- ---- a node that is no hit

  module _ (images : List ℕ) (depth above : ℕ) (same : SameFrom (IsHit graph mol) from (place_of images depth above)) (visit : IsVisit graph mol from (node_of images depth above)) where
    behind : IsBelow (place_of images depth above) (node_of images depth above) → ⊥
    behind = over_not (node_of images depth above) (place_of images depth above) (node_below images depth above)

    pub moved_same : SameFrom (IsHit graph mol) place (node_of images depth above)
    moved_same =
        same_through (IsHit graph mol) place from (node_of images depth above) left
        (same_to_between (IsHit graph mol) from (place_of images depth above) same (node_of images depth above) visit.not_below behind)

    pub moved_left : SameFrom (IsHit graph mol) (node_of images depth above) (place_of images depth above)
    moved_left = same_from_between (IsHit graph mol) from (place_of images depth above) same (node_of images depth above) visit.not_below behind

    pub moved_owed : (IsBelow (place_of images depth above) (node_of images depth above) → ⊥) × (◌≡◌ {A = ℕ} 0 0 → IsBelow (node_of images depth above) (place_of images depth above))
    moved_owed = (behind, λ _. node_below images depth above)

    pub moved_pays : Pays (IsMapNode graph mol) place debt (node_of images depth above) 0
    moved_pays =
        pays_visit (IsMapNode graph mol) place from (node_of images depth above) (node_of images depth above) debt visit.is visit.not_below up owed (not_below_itself (node_of images depth above))

pub moved_short : (graph : GraphView) (mol : Molecule) (images levels : List ℕ) (depth above : ℕ) → IsWalk graph mol images levels depth → length (node_of images depth above) ≤ length graph.atoms
moved_short graph mol images levels depth above walk = node_short images depth above (length graph.atoms) walk.short (omega (arith, walk.room))

-- where a hit is below what is left
pub item_owed : (hit there : List ℕ) → IsBelow (hit ++ 0 ∷ []) there → (IsBelow there (hit ++ 0 ∷ []) → ⊥) × (◌≡◌ {A = ℕ} 0 0 → IsBelow (hit ++ 0 ∷ []) there)
item_owed hit there over = (over_not (hit ++ 0 ∷ []) there over, λ _. over)

-- ---- what is owed at a place

-- nothing is below what has a number
below_some : (p : List ℕ) (x : ℕ) → IsBelow [] (p ++ x ∷ [])
below_some [] x = tt
below_some (y ∷ p) x = tt

owed_by : (graph : GraphView) (mol : Molecule) (place : List ℕ) (debt : ℕ) (stage : Stage) (fits : List Bool) (hydrogens : List PlainHydrogen)
    (images levels : List ℕ) (depth above : ℕ) → IsStage graph mol stage fits hydrogens images levels depth above
    → IsOwedAt place 1 stage images depth above → IsDebt graph place debt → IsOwedAt place debt stage images depth above
owed_by graph mol place debt stage fits hydrogens images levels depth above is owed (inl one) = subst (λ (n : ℕ). IsOwedAt place n stage images depth above) (sym one.0) owed
owed_by graph mol place debt Walking fits hydrogens images levels depth above is owed (inr none) =
    (owed.0, λ _. subst (λ (zs : List ℕ). IsBelow zs (place_of images depth above)) (sym none.1) (below_some (take depth images) (above + 1)))
owed_by graph mol place debt Once fits hydrogens images levels depth above is owed (inr none) = absurd (omega (arith, is.1, none.2))
owed_by graph mol place debt Ended fits hydrogens images levels depth above is owed (inr none) = tt

pub owed_at : (graph : GraphView) (mol : Molecule) (place : List ℕ) (debt : ℕ) (search : Search)
    → IsSearch graph mol search → IsOwed place 1 search → IsDebt graph place debt → IsOwed place debt search
owed_at graph mol place debt search is owed debt_is =
    owed_by graph mol place debt search.stage search.fits.items search.hydrogens.items search.walk.images.items search.walk.levels.items search.walk.depth search.walk.above is owed debt_is
