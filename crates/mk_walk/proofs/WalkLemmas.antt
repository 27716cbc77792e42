-- The walk through the lists of atoms: its steps.
--     walk_skips, walk_puts, walk_goes_in, walk_goes_back, walk_ends      a step
--     walk_found, walk_behind                                             a hit that is reached
--     seek_last, seek_passed, seek_whole                                  where a front is sought
use Rattle.std.proofs.Common.{◌≡◌, ◌≢◌, ℕ, ◌+◌, ◌<◌, ◌≤◌, ◌-◌, inl, inr, List, [], ◌∷◌, ◌++◌, length, get_or, take, drop, set, Option, Some, None, sym, ap, subst, ◌∙◌, arith, All, Contains, append_assoc, length-append}
use Rattle.std.specs.Prelude.{IfSome}
use Rattle.std.specs.Option.{ForSome}
use Rattle.std.proofs.lemmas.Bool.{cases_eq}
use Rattle.std.proofs.lemmas.List.{get_or-set_other, get_or-set_same, get_or-take, get_or_default, drop_all, drop_more, length-drop, length-set, length-take-le, take-append-drop, take-set, take_all, take_more, take_more_set}
use Rattle.mk_text.specs.Rising.{IsBelow, IsLeastFrom}
use Rattle.mk_model.specs.declared.graph.GraphBond.{GraphBond}
use Rattle.mk_model.specs.Molecules.{IsMolecule, Molecule}
use Rattle.mk_model.specs.Graphs.{GraphView, IsGraph}
use Rattle.mk_model.specs.Hits.{image, IsHit}
use Rattle.mk_model.proofs.ForCallers.{below_next, drawn_first, drawn_second, not_below_at, not_below_front}
use Rattle.mk_walk.specs.Begun.{IsBegun, MayStand}
use Rattle.mk_walk.specs.Candidates.{AreBonded, IsCandidate}
use Rattle.mk_walk.specs.EarlierBonds.{IsAnchor}
use Rattle.mk_walk.specs.Walk.{IsWalk, SameFrom, place_of}
use Rattle.mk_walk.specs.Outlook.{IsNoHitBehind}
use Rattle.mk_walk.proofs.BegunLemmas.{begun_less, begun_more, begun_whole, hit_begins}
use Rattle.mk_walk.proofs.HydrogensLemmas.{plain_most}
use Rattle.mk_walk.proofs.ListsFromLemmas.{take_last}
use Rattle.mk_text.proofs.ForCallers.{below_through, not_below_itself}
use Rattle.mk_walk.proofs.PassedLemmas.{none_left, same_back, same_in, same_past, same_skip, same_through}

-- ---- the anchor

-- an atom that may stand behind the first ones is bonded to the anchor
candidate_of : (graph : GraphView) (mol : Molecule) (first : List ℕ) (a : ℕ) (anchor : Option ℕ) → IfSome anchor (IsAnchor graph first) → MayStand graph mol first a → IsCandidate mol anchor a
candidate_of graph mol first a None is stands = tt
candidate_of graph mol first a (Some anchor) is stands =
    let k = is.drawn.0 in
    let here : get_or graph.bonds k is.bond ≡ is.bond = is.drawn.2 in
    let next : (get_or graph.bonds k is.bond).second ≡ length first + 1 = ap (λ (b : GraphBond). b.second) here ∙ is.next in
    let lies = stands.bonds k is.bond is.drawn.1 next in
    let same : image first (get_or graph.bonds k is.bond).first ≡ anchor = ap (λ (b : GraphBond). image first b.first) here ∙ sym is.is in
    let P : ℕ → Type 0 = λ n. AreBonded mol n a in
    subst P same (lies.bond, lies.joins)

-- the anchor is an atom of the molecule
pub anchor_within : (graph : GraphView) (mol : Molecule) (first : List ℕ) (anchor : Option ℕ) → IsGraph graph
    → All (λ a. (1 ≤ a) × (a ≤ length mol.atoms)) first → IfSome anchor (IsAnchor graph first)
    → ForSome anchor (λ a. (1 ≤ a) × (a ≤ length mol.atoms))
anchor_within graph mol first None drawing within is = λ x e. absurd cc
anchor_within graph mol first (Some anchor) drawing within is =
    let k = is.drawn.0 in
    let here : get_or graph.bonds k is.bond ≡ is.bond = is.drawn.2 in
    let from : 1 ≤ is.bond.first = subst (λ (b : GraphBond). 1 ≤ b.first) here (drawn_first graph drawing k is.bond is.drawn.1) in
    let less : is.bond.first < is.bond.second = subst (λ (b : GraphBond). b.first < b.second) here (drawing.sketch.lower_first k is.bond is.drawn.1) in
    let below : is.bond.first - 1 < length first = omega (arith, is.next) in
    let P : ℕ → Type 0 = λ n. (1 ≤ n) × (n ≤ length mol.atoms) in
    λ x e. (let found : image first is.bond.first ≡ x = sym is.is ∙ (cc) in subst P found (within (is.bond.first - 1) 0 below))

-- ---- an atom that is new

-- an atom that isn't one of the first differs from each of them
pub new_where : (first : List ℕ) (a : ℕ) → (Contains first a → ⊥) → All (λ b. b ≢ a) first
new_where first a not k d within same = not (k, within, get_or_default first k a d within ∙ same)

pub not_new : (first : List ℕ) (a : ℕ) → Contains first a → All (λ b. b ≢ a) first → ⊥
not_new first a held new = new held.0 a held.1 held.2

-- ---- the steps

module _ (graph : GraphView) (mol : Molecule) (drawing : IsGraph graph) (molecule : IsMolecule mol) where
  -- what goes on behind the first atoms may stand there, and is an atom of the molecule
  begins : (first more : List ℕ) (b : ℕ) → IsHit graph mol (first ++ b ∷ more) → MayStand graph mol first b × (1 ≤ b) × (b ≤ length mol.atoms)
  begins first more b hit = hit_begins graph mol first b drawing molecule more hit

  -- a number is put behind the first ones
  pub walk_goes_in : (first : List ℕ) → length first < length graph.atoms → SameFrom (IsHit graph mol) first (first ++ 1 ∷ [])
  walk_goes_in first short = same_in (IsHit graph mol) (length graph.atoms) (λ xs is. is.one_each) (λ q more b short' is. (begins q more b is).1) first short

  module _ (first : List ℕ) (anchor : Option ℕ) (anchors : IfSome anchor (IsAnchor graph first)) where
    none_beside : (b : ℕ) (more : List ℕ) → (IsCandidate mol anchor b → b ≤ length mol.atoms → ⊥) → IsHit graph mol (first ++ b ∷ more) → ⊥
    none_beside b more not hit = (let is = begins first more b hit in not (candidate_of graph mol first b anchor anchors is.0) is.2)

    -- up to a candidate that no hit goes on with all are passed
    pub walk_skips : (above a : ℕ) → above < a → ((b : ℕ) → above < b → b < a → IsCandidate mol anchor b → b ≤ length mol.atoms → ⊥)
        → ((more : List ℕ) → IsHit graph mol (first ++ a ∷ more) → ⊥) → SameFrom (IsHit graph mol) (first ++ (above + 1) ∷ []) (first ++ (a + 1) ∷ [])
    walk_skips above a over between never = same_skip (IsHit graph mol) first (above + 1) (a + 1) (omega arith) none
      where
        none : (b : ℕ) (more : List ℕ) → above + 1 ≤ b → b < a + 1 → IsHit graph mol (first ++ b ∷ more) → ⊥
        none b more up under hit =
            elim (cases_eq b a) [
              | inl same ↦ never more (subst (λ (n : ℕ). IsHit graph mol (first ++ n ∷ more)) same hit)
              | inr other ↦ none_beside b more (between b (omega arith) (omega arith)) hit
            ]

    -- up to a candidate that is put all are passed
    pub walk_puts : (above a : ℕ) → above < a → ((b : ℕ) → above < b → b < a → IsCandidate mol anchor b → b ≤ length mol.atoms → ⊥)
        → SameFrom (IsHit graph mol) (first ++ (above + 1) ∷ []) (first ++ a ∷ [])
    walk_puts above a over between =
        same_skip (IsHit graph mol) first (above + 1) a (omega arith) (λ b more up under hit. none_beside b more (between b (omega arith) under) hit)

    -- where no candidate is left, no hit goes on behind the first atoms
    pub walk_misses : (above : ℕ) → ((b : ℕ) → above < b → IsCandidate mol anchor b → b ≤ length mol.atoms → ⊥)
        → (b : ℕ) (more : List ℕ) → above + 1 ≤ b → IsHit graph mol (first ++ b ∷ more) → ⊥
    walk_misses above none b more up hit = none_beside b more (none b (omega arith)) hit

  -- nothing is left
  pub walk_ends : (above : ℕ) → 0 < length graph.atoms → ((b : ℕ) (more : List ℕ) → above + 1 ≤ b → IsHit graph mol (b ∷ more) → ⊥) → IsLeastFrom ((above + 1) ∷ []) (IsHit graph mol) None
  walk_ends above some none = none_left (IsHit graph mol) (above + 1) (λ hit. omega (arith, hit.one_each)) none

  -- where atom a can't stand behind the first ones, no hit goes on with it
  pub never_stands : (first : List ℕ) (a : ℕ) → (MayStand graph mol first a → ⊥) → (more : List ℕ) → IsHit graph mol (first ++ a ∷ more) → ⊥
  never_stands first a not more hit = not (begins first more a hit).0

  -- behind a hit, the last atom is passed
  pub walk_behind : (first : List ℕ) (a : ℕ) → length first + 1 ≡ length graph.atoms → SameFrom (IsHit graph mol) ((first ++ a ∷ []) ++ 0 ∷ []) (first ++ (a + 1) ∷ [])
  walk_behind first a whole = same_back (IsHit graph mol) first a 0 (λ b more up hit. omega (arith, hit.one_each, length-append (first ++ a ∷ []) (b ∷ more), length-append first (a ∷ [])))

  -- ---- where the walk stands

  module _ (images levels : List ℕ) (depth above : ℕ) (walk : IsWalk graph mol images levels depth) where
    room : depth < length images
    room = omega (arith, walk.room, walk.short)

    long : length (take depth images) ≡ depth
    long = length-take-le depth images (omega (arith, room))

    module _ (a : ℕ) (least : 1 ≤ a) (most : a ≤ length mol.atoms) (stands : MayStand graph mol (take depth images) a) where
      -- the levels of the first atoms stay where one more is put
      stays : (j : ℕ) → j < depth → get_or (set levels (a - 1) depth) (get_or (set images depth a) j 0 - 1) 0 ≡ j
      stays j below =
          let same : get_or (set images depth a) j 0 ≡ get_or images j 0 = get_or-set_other images depth j a 0 (omega arith) in
          let within : j < length (take depth images) = omega (arith, long) in
          let here : get_or (take depth images) j 0 ≡ get_or images j 0 = get_or-take depth images j 0 below in
          let range = walk.begun.within j 0 within in
          let other : get_or images j 0 ≢ a = (λ is. stands.new j 0 within (here ∙ is)) in
          let apart : get_or images j 0 - 1 ≢ a - 1 = omega (arith, here, range.0) in
          ap (λ (n : ℕ). get_or (set levels (a - 1) depth) (n - 1) 0) same ∙ get_or-set_other levels (a - 1) (get_or images j 0 - 1) depth 0 apart ∙ walk.stand j below

      -- one more is put, and passed
      pub walk_tried : IsWalk graph mol (set images depth a) (set levels (a - 1) depth) depth
      walk_tried = record {
        drawing = drawing;
        molecule = molecule;
        room = length-set images depth a ∙ walk.room;
        sized = length-set levels (a - 1) depth ∙ walk.sized;
        short = walk.short;
        begun = rw (take-set images depth a) walk.begun;
        stand = stays;
      }

      one_more : take (depth + 1) (set images depth a) ≡ take depth images ++ a ∷ []
      one_more = take_more_set images depth a room

      begun_with : IsBegun graph mol (take (depth + 1) (set images depth a))
      begun_with = rw one_more (begun_more graph mol (take depth images) a drawing.sketch.lower_first (drawn_first graph drawing) walk.begun stands (omega (arith, long, walk.short)) least most)

      -- one more is put
      pub walk_put : (depth + 1 ≡ length graph.atoms → ⊥) → IsWalk graph mol (set images depth a) (set levels (a - 1) depth) (depth + 1)
      walk_put more = record {
        drawing = drawing;
        molecule = molecule;
        room = length-set images depth a ∙ walk.room;
        sized = length-set levels (a - 1) depth ∙ walk.sized;
        short = omega (arith, walk.short);
        begun = begun_with;
        stand = λ j below.
            elim (cases_eq j depth) [
              | inl same ↦
                  let put : get_or (set images depth a) j 0 ≡ a = rw same (get_or-set_same images depth a 0 room) in
                  let kept : get_or (set levels (a - 1) depth) (a - 1) 0 ≡ depth = get_or-set_same levels (a - 1) depth 0 (omega (arith, walk.sized)) in
                  ap (λ (n : ℕ). get_or (set levels (a - 1) depth) (n - 1) 0) put ∙ kept ∙ sym same
              | inr other ↦ stays j (omega arith)
            ];
      }

      -- the last one is put
      pub walk_found : depth + 1 ≡ length graph.atoms → IsHit graph mol (set images depth a)
      walk_found whole =
          let all : take (depth + 1) (set images depth a) ≡ set images depth a = take_all (depth + 1) (set images depth a) (omega (arith, length-set images depth a, walk.room)) in
          begun_whole graph mol (set images depth a) (drawn_second graph drawing) (subst (IsBegun graph mol) all begun_with) (length-set images depth a ∙ walk.room)

      found_is : depth + 1 ≡ length graph.atoms → set images depth a ≡ take depth images ++ a ∷ []
      found_is whole = sym (take_all (depth + 1) (set images depth a) (omega (arith, length-set images depth a, walk.room))) ∙ one_more

      module _ (anchor : Option ℕ) (anchors : IfSome anchor (IsAnchor graph (take depth images))) (over : above < a)
          (between : (b : ℕ) → above < b → b < a → IsCandidate mol anchor b → b ≤ length mol.atoms → ⊥) where
        pub least_found : depth + 1 ≡ length graph.atoms → SameFrom (IsHit graph mol) (place_of images depth above) (set images depth a)
        least_found whole = rw (found_is whole) (walk_puts (take depth images) anchor anchors above a over between)

        pub moved_in : (depth + 1 ≡ length graph.atoms → ⊥) → SameFrom (IsHit graph mol) (place_of images depth above) (place_of (set images depth a) (depth + 1) 0)
        moved_in more =
            rw one_more
            (same_through (IsHit graph mol) (place_of images depth above) (take depth images ++ a ∷ []) ((take depth images ++ a ∷ []) ++ 1 ∷ [])
            (walk_puts (take depth images) anchor anchors above a over between)
            (walk_goes_in (take depth images ++ a ∷ []) (omega (arith, length-append (take depth images) (a ∷ []), long, walk.short))))

        -- what is dead is passed
        pub moved_dead : IsNoHitBehind graph mol (take (depth + 1) (set images depth a)) → SameFrom (IsHit graph mol) (place_of images depth above) (place_of (set images depth a) depth a)
        moved_dead dead =
            rw (take-set images depth a)
            (walk_skips (take depth images) anchor anchors above a over between
            (λ more hit. dead more (rw one_more (subst (IsHit graph mol) (sym (append_assoc (take depth images) (a ∷ []) more)) hit))))

      pub behind_found : depth + 1 ≡ length graph.atoms → SameFrom (IsHit graph mol) (set images depth a ++ 0 ∷ []) (place_of (set images depth a) depth a)
      behind_found whole = rw (take-set images depth a, found_is whole) (walk_behind (take depth images) a (omega (arith, long)))

    -- an atom that may not stand is passed
    pub moved_past : (anchor : Option ℕ) → IfSome anchor (IsAnchor graph (take depth images)) → (a : ℕ) → above < a
        → ((b : ℕ) → above < b → b < a → IsCandidate mol anchor b → b ≤ length mol.atoms → ⊥)
        → (MayStand graph mol (take depth images) a → ⊥) → SameFrom (IsHit graph mol) (place_of images depth above) (place_of images depth a)
    moved_past anchor anchors a over between not = walk_skips (take depth images) anchor anchors above a over between (never_stands (take depth images) a not)

    module _ (last : ℕ) (some : depth ≡ 0 → ⊥) (is : last ≡ get_or images (depth - 1) last) where
      back_front : take depth images ≡ take (depth - 1) images ++ last ∷ []
      back_front = take_last images depth last some (omega (arith, room)) is

      -- the last of the first atoms is one of the molecule
      pub last_most : last ≤ length mol.atoms
      last_most =
          let below : depth - 1 < length (take depth images) = omega (arith, long) in
          let here : get_or (take depth images) (depth - 1) last ≡ last = get_or-take depth images (depth - 1) last (omega arith) ∙ sym is in
          let range = walk.begun.within (depth - 1) last below in
          omega (arith, range.1, here)

      -- the last one is taken back
      pub walk_back : IsWalk graph mol images levels (depth - 1)
      walk_back = record {
        drawing = drawing;
        molecule = molecule;
        room = walk.room;
        sized = walk.sized;
        short = omega (arith, walk.short);
        begun = begun_less graph mol (take (depth - 1) images) (last ∷ []) drawing.sketch.lower_first (drawn_first graph drawing) (subst (IsBegun graph mol) back_front walk.begun);
        stand = λ j below. walk.stand j (omega arith);
      }

      pub moved_back : (anchor : Option ℕ) → IfSome anchor (IsAnchor graph (take depth images))
          → ((b : ℕ) → above < b → IsCandidate mol anchor b → b ≤ length mol.atoms → ⊥)
          → SameFrom (IsHit graph mol) (place_of images depth above) (place_of images (depth - 1) last)
      moved_back anchor anchors none =
          let misses = walk_misses (take depth images) anchor anchors above none in
          subst (λ (q : List ℕ). SameFrom (IsHit graph mol) (q ++ (above + 1) ∷ []) (place_of images (depth - 1) last)) (sym back_front)
          (same_back (IsHit graph mol) (take (depth - 1) images) last (above + 1)
          (λ b more up hit. misses b more up (subst (λ (q : List ℕ). IsHit graph mol (q ++ b ∷ more)) (sym back_front) hit)))

    -- nothing is left
    pub ended : (anchor : Option ℕ) → IfSome anchor (IsAnchor graph (take depth images))
        → ((b : ℕ) → above < b → IsCandidate mol anchor b → b ≤ length mol.atoms → ⊥) → depth ≡ 0
        → IsLeastFrom (place_of images depth above) (IsHit graph mol) None
    ended anchor anchors none none_put =
        let nothing : take depth images ≡ [] = ap (λ (n : ℕ). take n images) none_put in
        let misses = walk_misses (take depth images) anchor anchors above none in
        subst (λ (q : List ℕ). IsLeastFrom (q ++ (above + 1) ∷ []) (IsHit graph mol) None) (sym nothing)
        (walk_ends above (omega (arith, walk.short)) (λ b more up hit. misses b more up (subst (λ (q : List ℕ). IsHit graph mol (q ++ b ∷ more)) (sym nothing) hit)))

-- ---- a front

-- the first numbers of the front stand as the first images
pub record IsSeeking (graph : GraphView) (mol : Molecule) (front : List ℕ) (i : ℕ) (images levels : List ℕ) (depth above : ℕ) : Type 0 where
  pub walk : IsWalk graph mol images levels depth
  pub at : depth ≡ i
  pub first : above ≡ 0
  pub begins : take depth images ≡ take i front

module _ (graph : GraphView) (mol : Molecule) (drawing : IsGraph graph) (molecule : IsMolecule mol) where
  -- a number at the end of a place, and the one that is passed before it: no atom has the number 0
  last_tried : (p : List ℕ) (number above : ℕ) → above ≡ number - 1 → SameFrom (IsHit graph mol) (p ++ number ∷ []) (p ++ (above + 1) ∷ [])
  last_tried p number above is =
      same_skip (IsHit graph mol) p number (above + 1) (omega (arith, is))
      (λ b more up under hit. (let range = begins graph mol drawing molecule p more b hit in omega (arith, is, range.1)))

  -- what begins with a number of a front is passed, where nothing of it is left
  tail_passed : (p : List ℕ) (number : ℕ) (tail : List ℕ) → ((rest : List ℕ) → IsHit graph mol (p ++ number ∷ rest) → (IsBelow rest tail → ⊥) → ⊥)
      → SameFrom (IsHit graph mol) (p ++ number ∷ tail) (p ++ (number + 1) ∷ [])
  tail_passed p number tail none = same_past (IsHit graph mol) p number tail none

  -- no hit goes on behind the last atom
  none_behind : (p : List ℕ) (number : ℕ) (tail : List ℕ) → length p + 1 ≡ length graph.atoms → 0 < length tail → (rest : List ℕ) → IsHit graph mol (p ++ number ∷ rest) → (IsBelow rest tail → ⊥) → ⊥
  none_behind p number [] whole some rest hit not = omega (arith, some)
  none_behind p number (t ∷ tail) whole some [] hit not = not tt
  none_behind p number (t ∷ tail) whole some (b ∷ more) hit not = omega (arith, hit.one_each, length-append p (number ∷ b ∷ more))

  module _ (front : List ℕ) (i : ℕ) (images levels : List ℕ) (depth above : ℕ) (seeking : IsSeeking graph mol front i images levels depth above) where
    -- the front goes on with its next number
    pub front_is : i < length front → front ≡ take depth images ++ get_or front i 0 ∷ drop (i + 1) front
    front_is below = sym (take-append-drop i front) ∙ ap (λ (xs : List ℕ). take i front ++ xs)
        (drop_more front i 0 below) ∙ ap (λ (xs : List ℕ). xs ++ get_or front i 0 ∷ drop (i + 1) front)
        (sym seeking.begins)

    first_long : length (take depth images) ≡ i
    first_long = length-take-le depth images (omega (arith, seeking.walk.room, seeking.walk.short)) ∙ seeking.at

    -- the front ends with its next number
    pub seek_ends : i < length front → i + 1 ≡ length front → (above' : ℕ) → above' ≡ get_or front i 0 - 1 → SameFrom (IsHit graph mol) front (place_of images depth above')
    seek_ends below last above' is =
        let nothing : drop (i + 1) front ≡ [] = drop_all (i + 1) front (omega (arith, last)) in
        let whole : front ≡ take depth images ++ get_or front i 0 ∷ [] = front_is below ∙ ap (λ (xs : List ℕ). take depth images ++ get_or front i 0 ∷ xs) nothing in
        subst (λ (xs : List ℕ). SameFrom (IsHit graph mol) xs (place_of images depth above')) (sym whole) (last_tried (take depth images) (get_or front i 0) above' is)

    pub seek_ends_up : i < length front → i + 1 ≡ length front → (above' : ℕ) → above' ≡ get_or front i 0 - 1 → IsBelow (place_of images depth above') front → ⊥
    seek_ends_up below last above' is =
        let nothing : drop (i + 1) front ≡ [] = drop_all (i + 1) front (omega (arith, last)) in
        let whole : front ≡ take depth images ++ get_or front i 0 ∷ [] = front_is below ∙ ap (λ (xs : List ℕ). take depth images ++ get_or front i 0 ∷ xs) nothing in
        subst (λ (xs : List ℕ). IsBelow (place_of images depth above') xs → ⊥) (sym whole) (not_below_at (take depth images) (above' + 1) (get_or front i 0) (omega (arith, is)))

    -- the front goes through the last place
    pub seek_last : i < length front → (i + 1 ≡ length front → ⊥) → i + 1 ≡ length graph.atoms → (number : ℕ)
        → number ≡ get_or front i 0 → SameFrom (IsHit graph mol) front (place_of images depth number)
    seek_last below more last number is =
        let whole' : length (take depth images) + 1 ≡ length graph.atoms = omega (arith, first_long, last) in
        let some : 0 < length (drop (i + 1) front) = omega (arith, length-drop (i + 1) front, below, more) in
        subst (λ (xs : List ℕ). SameFrom (IsHit graph mol) xs (place_of images depth number)) (sym (front_is below))
        (subst (λ (n : ℕ). SameFrom (IsHit graph mol) (take depth images ++ get_or front i 0 ∷ drop (i + 1) front) (take depth images ++ (n + 1) ∷ [])) (sym is)
        (tail_passed (take depth images) (get_or front i 0) (drop (i + 1) front) (none_behind (take depth images) (get_or front i 0) (drop (i + 1) front) whole' some)))

    -- the front goes on with a number that can't stand
    pub seek_past : i < length front → (number : ℕ) → number ≡ get_or front i 0 → ((1 ≤ number) × (number ≤ length mol.atoms) × MayStand graph mol (take depth images) number → ⊥)
        → SameFrom (IsHit graph mol) front (place_of images depth number)
    seek_past below number is not =
        let whole : front ≡ take depth images ++ number ∷ drop (i + 1) front = front_is below ∙ ap (λ (n : ℕ). take depth images ++ n ∷ drop (i + 1) front) (sym is) in
        subst (λ (xs : List ℕ). SameFrom (IsHit graph mol) xs (place_of images depth number)) (sym whole)
        (tail_passed (take depth images) number (drop (i + 1) front)
        (λ rest hit from. (let range = begins graph mol drawing molecule (take depth images) rest number hit in not (range.1, range.2, range.0))))

    -- where a number of the front is passed, the place is above the front
    pub seek_past_up : i < length front → (number : ℕ) → number ≡ get_or front i 0 → IsBelow (place_of images depth number) front → ⊥
    seek_past_up below number is =
        let whole : front ≡ take depth images ++ number ∷ drop (i + 1) front = front_is below ∙ ap (λ (n : ℕ). take depth images ++ n ∷ drop (i + 1) front) (sym is) in
        subst (λ (xs : List ℕ). IsBelow (place_of images depth number) xs → ⊥) (sym whole)
        (λ under. not_below_itself (place_of images depth number)
        (below_through (place_of images depth number) (take depth images ++ number ∷ drop (i + 1) front)
        (place_of images depth number) under (below_next (take depth images) number (number + 1)
        (drop (i + 1) front) [] (omega arith))))

    -- the front goes on with a number that stands
    pub seek_more : i < length front → (number : ℕ) → number ≡ get_or front i 0 → 1 ≤ number → number ≤ length mol.atoms
        → MayStand graph mol (take depth images) number → (i + 1 ≡ length graph.atoms → ⊥)
        → IsSeeking graph mol front (i + 1) (set images depth number) (set levels (number - 1) depth) (depth + 1) above
    seek_more below number is least most stands more = record {
      walk = walk_put graph mol drawing molecule images levels depth above seeking.walk number least most stands (λ whole. more (omega (arith, seeking.at)));
      at = omega (arith, seeking.at);
      first = seeking.first;
      begins = take_more_set images depth number (omega (arith, seeking.walk.room, seeking.walk.short)) ∙ ap (λ (xs : List ℕ). xs ++ number ∷ []) seeking.begins
          ∙ ap (λ (n : ℕ). take i front ++ n ∷ []) is ∙ sym (take_more front i 0 below);
    }

    -- the whole front stands
    pub seek_whole : length front ≤ i → SameFrom (IsHit graph mol) front (place_of images depth above)
    seek_whole all =
        let same : take depth images ≡ front = seeking.begins ∙ take_all i front all in
        let short : length front < length graph.atoms = omega (arith, ap length same, first_long, seeking.at, seeking.walk.short) in
        rw (seeking.first, same) (walk_goes_in graph mol drawing molecule front short)

    pub seek_whole_up : length front ≤ i → IsBelow (place_of images depth above) front → ⊥
    seek_whole_up all =
        let same : take depth images ≡ front = seeking.begins ∙ take_all i front all in
        rw same (not_below_front front ((above + 1) ∷ []))

-- ---- a graph without atoms

-- no atom is a hit of a graph that has none
pub none_hits : (graph : GraphView) (mol : Molecule) → IsGraph graph → length graph.atoms ≡ 0 → IsHit graph mol []
none_hits graph mol drawing none = record {
  one_each = sym none;
  within = λ k d within. absurd (omega arith);
  distinct = λ i j d order within. absurd (omega arith);
  atoms = λ x least most. absurd (omega arith);
  bonds = λ k d within.
      (let bond : GraphBond = get_or graph.bonds k d in
      let less : bond.first < bond.second = drawing.sketch.lower_first k d within in
      let most : bond.second ≤ length graph.atoms = drawn_second graph drawing k d within in
      absurd (omega arith));
  rise = λ x h later plain other order. absurd (let most = plain_most graph x later other in omega arith);
  first_free = λ x h y plain at_h at_y under. absurd (omega arith);
}

-- and it is the only one
pub none_least : (graph : GraphView) (mol : Molecule) → IsGraph graph → length graph.atoms ≡ 0 → IsLeastFrom [] (IsHit graph mol) (Some [])
none_least graph mol drawing none = record { has = none_hits graph mol drawing none; from = λ below. below; least = λ other has not below. below }

pub none_more : (graph : GraphView) (mol : Molecule) (front : List ℕ) → length graph.atoms ≡ 0 → 0 < length front → IsLeastFrom front (IsHit graph mol) None
none_more graph mol [] none some other hit not = absurd (omega arith)
none_more graph mol (f ∷ front) none some [] hit not = not tt
none_more graph mol (f ∷ front) none some (a ∷ others) hit not = omega (arith, hit.one_each)
