-- Turns of a walk: which node is reached, and what it pays.
--     visit_is                           a new atom behind the first images is a node
--     node_some                          the node where a number is passed
use Rattle.std.proofs.Common.{◌≡◌, ◌≢◌, ℕ, zero, suc, ◌+◌, ◌<◌, ◌≤◌, ◌-◌, List, [], ◌∷◌, ◌++◌, length, get_or, take, set, refl, sym, subst, ◌∙◌, arith, Contains, append_assoc, length-append}
use Rattle.std.proofs.lemmas.List.{length-take-le, length-set, take-set, take_all, take_more_set}
use Rattle.std.proofs.lemmas.List.Elements.{All-push}
use Rattle.std.proofs.lemmas.List.Quantifiers.{all_pairs_push}
use Rattle.mk_text.specs.Rising.{IsBelow}
use Rattle.mk_model.specs.Molecules.{Molecule}
use Rattle.mk_model.specs.Graphs.{GraphView}
use Rattle.mk_walk.specs.Turns.{IsVisit, node_of}
use Rattle.mk_walk.specs.Walk.{IsWalk, place_of}
use Rattle.mk_model.proofs.ForCallers.{below_more, below_next, not_below_at}
use Rattle.mk_walk.proofs.ListsFromLemmas.{take_last}
use Rattle.mk_walk.proofs.WalkLemmas.{new_where}

-- ---- nodes

-- the node where a number is passed
pub node_some : (images : List ℕ) (depth above : ℕ) → 1 ≤ above → node_of images depth above ≡ take depth images ++ above ∷ []
node_some images depth zero some = absurd (omega arith)
node_some images depth (suc above) some = refl

-- it isn't below the place, and the place behind it is above it
pub node_below : (images : List ℕ) (depth above : ℕ) → IsBelow (node_of images depth above) (place_of images depth above)
node_below images depth zero = below_more (take depth images) 1 []
node_below images depth (suc above) = below_next (take depth images) (suc above) (suc above + 1) [] [] (omega arith)

-- how long it is
pub node_short : (images : List ℕ) (depth above n : ℕ) → depth < n → n ≤ length images → length (node_of images depth above) ≤ n
node_short images depth zero n short room = (let long = length-take-le depth images (omega arith) in omega (arith, long))
node_short images depth (suc above) n short room =
    let long = length-take-le depth images (omega arith) in
    omega (arith, long, length-append (take depth images) (suc above ∷ []))

module _ (graph : GraphView) (mol : Molecule) (images levels : List ℕ) (depth above : ℕ)
    (walk : IsWalk graph mol images levels depth) (a : ℕ) (over : above < a) (most : a ≤ length mol.atoms)
    (new : Contains (take depth images) a → ⊥) where
  long : length (take depth images) ≡ depth
  long = length-take-le depth images (omega (arith, walk.room, walk.short))

  -- a new atom behind the first images is a node
  pub visit_is : IsVisit graph mol (place_of images depth above) (take depth images ++ a ∷ [])
  visit_is = record {
    is = record {
      few = omega (arith, long, length-append (take depth images) (a ∷ []), walk.short);
      within = All-push (λ n. (1 ≤ n) × (n ≤ length mol.atoms)) (take depth images) a walk.begun.within (omega (arith, over), most);
      distinct = all_pairs_push (λ m n. m ≢ n) (take depth images) a walk.begun.distinct (λ k d within. new_where (take depth images) a new k d within);
    };
    not_below = not_below_at (take depth images) a (above + 1) (omega (arith, over));
  }

  -- where it is passed
  pub visit_past : IsVisit graph mol (place_of images depth above) (node_of images depth a)
  visit_past = rw (node_some images depth a (omega (arith, over))) visit_is

  -- where it is put and passed
  pub visit_dead : IsVisit graph mol (place_of images depth above) (node_of (set images depth a) depth a)
  visit_dead = rw (node_some (set images depth a) depth a (omega (arith, over)), take-set images depth a) visit_is

  -- where it is put
  pub visit_in : IsVisit graph mol (place_of images depth above) (node_of (set images depth a) (depth + 1) 0)
  visit_in = rw (take_more_set images depth a (omega (arith, walk.room, walk.short))) visit_is

  -- where it is the last
  found_is : depth + 1 ≡ length graph.atoms → set images depth a ≡ take depth images ++ a ∷ []
  found_is whole = sym (take_all (depth + 1) (set images depth a) (omega (arith, length-set images depth a, walk.room))) ∙ take_more_set images depth a (omega (arith, walk.room, walk.short))

  pub visit_found : depth + 1 ≡ length graph.atoms → IsVisit graph mol (place_of images depth above) (set images depth a)
  visit_found whole = rw (found_is whole) visit_is

  pub over_found : depth + 1 ≡ length graph.atoms → IsBelow (set images depth a ++ 0 ∷ []) (place_of (set images depth a) depth a)
  over_found whole =
      rw (take-set images depth a, found_is whole, append_assoc (take depth images) (a ∷ []) (0 ∷ []))
      (below_next (take depth images) a (a + 1) (0 ∷ []) [] (omega arith))

-- ---- the order of places

-- where the last image is taken back the place is further on
pub back_up : (images : List ℕ) (depth above last : ℕ) → (depth ≡ 0 → ⊥) → depth ≤ length images
    → last ≡ get_or images (depth - 1) last → IsBelow (place_of images depth above) (place_of images (depth - 1) last)
back_up images depth above last some room is =
    subst (λ (p : List ℕ). IsBelow (p ++ (above + 1) ∷ []) (place_of images (depth - 1) last)) (sym (take_last images depth last some room is))
    (rw (append_assoc (take (depth - 1) images) (last ∷ []) ((above + 1) ∷ [])) (below_next (take (depth - 1) images) last (last + 1) ((above + 1) ∷ []) [] (omega arith)))

-- and so it is where more is passed
pub past_up : (images : List ℕ) (depth above a : ℕ) → above < a → IsBelow (place_of images depth above) (place_of images depth a)
past_up images depth above a over = below_next (take depth images) (above + 1) (a + 1) [] [] (omega arith)
