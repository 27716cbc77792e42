-- The look ahead: what the atoms that have their places say of the hits that agree with them.
--     beside_put       a neighbour that has its place is an anchor
--     never_unfit, never_first, never_taken, never_unmet      why an atom can't lie on another
--     look_starts, look_skips, look_goes_in, look_goes_back, look_ends      the steps of the loop
use Rattle.std.proofs.Common.{◌≡◌, ◌≢◌, ℕ, ◌+◌, ◌<◌, ◌≤◌, ◌-◌, inl, inr, Bool, true, false, not, cond, eqb, ◌||◌, List, [], ◌∷◌, ◌++◌, length, get_or, take, set, map, Option, Some, None, refl, sym, ap, subst, ◌∙◌, arith, length-append}
use Rattle.std.specs.Prelude.{IfSome, slice_get}
use Rattle.std.proofs.Math.ListN.{get_or-append}
use Rattle.std.proofs.Math.Seq.{get_or-append_seam}
use Rattle.std.proofs.lemmas.Bool.{cases_lt, cases_eq, ne_eqb}
use Rattle.std.proofs.lemmas.Bool.Decides.{nat_tests}
use Rattle.std.proofs.lemmas.List.{get_or-map, length-map, length-take-le, take_more_set, get_or_default, get_or-set_other, get_or-set_same, length-set}
use Rattle.mk_model.specs.declared.edge.Edge.{Edge}
use Rattle.mk_model.specs.declared.graph.GraphBond.{GraphBond}
use Rattle.mk_model.specs.Edges.{HasEnds, numbers_at, touches}
use Rattle.mk_model.specs.Molecules.{IsMolecule, Molecule, edge_of}
use Rattle.mk_model.specs.Graphs.{GraphView, IsGraph, graph_edge, graph_edges}
use Rattle.mk_model.specs.Fitting.{LiesOn}
use Rattle.mk_model.specs.Hits.{image, IsHit}
use Rattle.mk_model.proofs.ForCallers.{all_at, numbers_at-each, place_is, place_within}
use Rattle.mk_walk.specs.Candidates.{AreBonded, IsCandidate}
use Rattle.mk_walk.specs.Table.{MayLie}
use Rattle.mk_walk.specs.Walk.{SameFrom, place_of}
use Rattle.mk_walk.specs.Outlook.{Agrees, AreLater, EndsAt, IsBeside, IsNoHitBehind, IsPut, IsTakenBy, LiesNever, StandsIn}
use Rattle.mk_walk.proofs.BondCountLemmas.{may_lie}
use Rattle.mk_walk.proofs.ListsFromLemmas.{take_last}
use Rattle.mk_walk.proofs.PassedLemmas.{none_left, same_back, same_in, same_skip, same_through}

-- ---- bonds by their numbers

-- each number in the list of an atom numbers a bond that ends there
pub ends_at : (graph : GraphView) (x i : ℕ) → i < length (numbers_at (graph_edges graph.bonds) x) → EndsAt graph (get_or (numbers_at (graph_edges graph.bonds) x) i 0) x
ends_at graph x i below bond at =
    let number = get_or (numbers_at (graph_edges graph.bonds) x) i 0 in
    let is = numbers_at-each (graph_edges graph.bonds) x i below in
    let within : number - 1 < length graph.bonds = place_within graph.bonds (number - 1) bond at in
    let edge_is : get_or (graph_edges graph.bonds) (number - 1) (graph_edge bond) ≡ graph_edge bond =
    get_or-map graph_edge graph.bonds (number - 1) bond (graph_edge bond) within ∙ ap graph_edge (place_is graph.bonds (number - 1) bond bond at) in
    rw edge_is at (is.ends (graph_edge bond))

-- the other end of a bond of atom x, where x is its first end and where it isn't
cond_same : (first x a b : ℕ) → first ≡ x → cond (eqb first x) a b ≡ a
cond_same first x a b same = grind (arith, nat_tests)

cond_other : (first x a b : ℕ) → (first ≡ x → ⊥) → cond (eqb first x) a b ≡ b
cond_other first x a b other = grind (arith, nat_tests)

-- a test isn't passed and failed
fails : (b : Bool) → not b ≡ true → b ≡ true → ⊥
fails true is passes = absurd cc
fails false is passes = absurd cc

module _ (graph : GraphView) (mol : Molecule) (first order chosen : List ℕ) where
  -- ---- what has its place

  -- an atom that has its place lies there in each hit that agrees
  lies_put : (y a : ℕ) → IsPut first order chosen y a → (hit : List ℕ) → Agrees graph mol first order chosen hit → image hit y ≡ a
  lies_put y a (inl h) hit agrees = (let below : y - 1 < length first = omega (arith, h.0, h.1) in agrees.begins (y - 1) below ∙ h.2)
  lies_put y a (inr h) hit agrees = ap (image hit) (sym h.atom) ∙ agrees.sees h.place h.within ∙ h.is

  -- the bond of a number is met by each hit
  bond_met : (number : ℕ) (bond : GraphBond) → slice_get graph.bonds (number - 1) ≡ Some bond → (hit : List ℕ)
      → Agrees graph mol first order chosen hit → LiesOn mol bond (image hit bond.first) (image hit bond.second)
  bond_met number bond at hit agrees = all_at (λ (b : GraphBond). LiesOn mol b (image hit b.first) (image hit b.second)) graph.bonds (number - 1) bond agrees.is.bonds at

  -- ---- an anchor

  flip : (edge : Edge) (a b : ℕ) → HasEnds edge a b → HasEnds edge b a
  flip edge a b (inl h) = inr h
  flip edge a b (inr h) = inl h

  second_is : (bond : GraphBond) (x : ℕ) → eqb bond.first x ≡ false → touches x (graph_edge bond) ≡ true → bond.second ≡ x
  second_is bond x other ends = second_by (eqb bond.first x) other ends
    where
      second_by : (b : Bool) → b ≡ false → (b || eqb bond.second x) ≡ true → bond.second ≡ x
      second_by b other ends = grind (arith, nat_tests)

  beside_by : (number x a : ℕ) (bond : GraphBond) (t : Bool) → eqb bond.first x ≡ t → slice_get graph.bonds (number - 1) ≡ Some bond → touches x (graph_edge bond) ≡ true
      → IsPut first order chosen (cond t bond.second bond.first) a → IsBeside graph mol first order chosen x a
  beside_by number x a bond true e at ends put hit agrees =
      let lies = bond_met number bond at hit agrees in
      let here : image hit bond.second ≡ a = lies_put bond.second a put hit agrees in
      let same : bond.first ≡ x = grind (arith, nat_tests) in
      let there : image hit bond.first ≡ image hit x = ap (image hit) same in
      let P : ℕ → Type 0 = λ n. HasEnds (edge_of lies.bond) n (image hit x) in
      let Q : ℕ → Type 0 = λ n. HasEnds (edge_of lies.bond) (image hit bond.second) n in
      (lies.bond, (lies.joins.0, subst P here (subst Q there (flip (edge_of lies.bond) (image hit bond.first) (image hit bond.second) lies.joins.1))))
  beside_by number x a bond false e at ends put hit agrees =
      let lies = bond_met number bond at hit agrees in
      let here : image hit bond.first ≡ a = lies_put bond.first a put hit agrees in
      let there : image hit bond.second ≡ image hit x = ap (image hit) (second_is bond x e ends) in
      let P : ℕ → Type 0 = λ n. HasEnds (edge_of lies.bond) n (image hit x) in
      let Q : ℕ → Type 0 = λ n. HasEnds (edge_of lies.bond) (image hit bond.first) n in
      (lies.bond, (lies.joins.0, subst P here (subst Q there lies.joins.1)))

  -- a neighbour that has its place is an anchor
  pub beside_put : (number x y a : ℕ) (bond : GraphBond) → slice_get graph.bonds (number - 1) ≡ Some bond → EndsAt graph number x → y ≡ cond (eqb bond.first x) bond.second bond.first
      → IsPut first order chosen y a → IsBeside graph mol first order chosen x a
  beside_put number x y a bond at ends other put =
      beside_by number x a bond (eqb bond.first x) refl at (ends bond at) (subst (λ (n : ℕ). IsPut first order chosen n a) other put)

  -- ---- why an atom can't lie on another

  -- the bond can't be met
  pub never_straight : (number x y a b : ℕ) (bond : GraphBond) (fits : Bool) → slice_get graph.bonds (number - 1) ≡ Some bond → bond.first ≡ x → y ≡ cond (eqb bond.first x) bond.second bond.first
      → IsPut first order chosen y b → (LiesOn mol bond a b → fits ≡ true) → not fits ≡ true → LiesNever graph mol first order chosen x a
  never_straight number x y a b bond fits at same other put tells not_fits hit agrees lies =
      let met = bond_met number bond at hit agrees in
      let here : image hit bond.first ≡ a = ap (image hit) same ∙ lies in
      let end : bond.second ≡ y = sym (other ∙ cond_same bond.first x bond.second bond.first same) in
      let there : image hit bond.second ≡ b = ap (image hit) end ∙ lies_put y b put hit agrees in
      let P : ℕ → Type 0 = λ n. LiesOn mol bond n b in
      let Q : ℕ → Type 0 = λ n. LiesOn mol bond (image hit bond.first) n in
      fails fits not_fits (tells (subst P here (subst Q there met)))

  pub never_back : (number x y a b : ℕ) (bond : GraphBond) (fits : Bool)
      → slice_get graph.bonds (number - 1) ≡ Some bond → EndsAt graph number x → (bond.first ≡ x → ⊥)
      → y ≡ cond (eqb bond.first x) bond.second bond.first
      → IsPut first order chosen y b → (LiesOn mol bond b a → fits ≡ true) → not fits ≡ true → LiesNever graph mol first order chosen x a
  never_back number x y a b bond fits at ends apart_from other put tells not_fits hit agrees lies =
      let met = bond_met number bond at hit agrees in
      let same : bond.second ≡ x = second_is bond x (ne_eqb bond.first x apart_from) (ends bond at) in
      let here : image hit bond.second ≡ a = ap (image hit) same ∙ lies in
      let end : bond.first ≡ y = sym (other ∙ cond_other bond.first x bond.second bond.first apart_from) in
      let there : image hit bond.first ≡ b = ap (image hit) end ∙ lies_put y b put hit agrees in
      let P : ℕ → Type 0 = λ n. LiesOn mol bond b n in
      let Q : ℕ → Type 0 = λ n. LiesOn mol bond n (image hit bond.second) in
      fails fits not_fits (tells (subst P here (subst Q there met)))

  -- two places of a hit have two atoms
  apart : (hit : List ℕ) (i j a : ℕ) → IsHit graph mol hit → i ≢ j → i < length hit → j < length hit → get_or hit i 0 ≡ a → get_or hit j 0 ≡ a → ⊥
  apart hit i j a is other below below' here there =
      elim (cases_lt i j) [
        | inl less ↦ is.distinct i j 0 less below' (here ∙ sym there)
        | inr more ↦ is.distinct j i 0 (omega arith) below (there ∙ sym here)
      ]

  -- one of the first lies there
  pub never_first : (x a : ℕ) → length first < x → x ≤ length graph.atoms → StandsIn first a → LiesNever graph mol first order chosen x a
  never_first x a later most stands hit agrees lies =
      let whole = agrees.is.one_each in
      let within = stands.within in
      apart hit stands.place (x - 1) a agrees.is (omega arith) (omega arith) (omega arith) (agrees.begins stands.place within ∙ stands.is) lies

  -- another one is chosen to lie there
  pub never_taken : (x a : ℕ) → AreLater graph (length first) order → length chosen ≤ length order → length first < x
      → x ≤ length graph.atoms → IsTakenBy order chosen x a → LiesNever graph mol first order chosen x a
  never_taken x a all room later most taken hit agrees lies =
      let whole = agrees.is.one_each in
      let c = taken.chosen_for in
      let within = c.within in
      let range = all c.place 0 (omega arith) in
      let same = c.atom in
      let other = taken.other in
      apart hit (taken.y - 1) (x - 1) a agrees.is (omega (arith, range.0, range.1)) (omega (arith, range.0, range.1)) (omega arith) (ap (image hit) (sym same) ∙ agrees.sees c.place within ∙ c.is) lies

  -- its tests aren't met
  pub never_unfit : IsGraph graph → IsMolecule mol → (x a : ℕ) → 1 ≤ x → x ≤ length graph.atoms → (MayLie graph mol x a → ⊥) → LiesNever graph mol first order chosen x a
  never_unfit drawing molecule x a least most not hit agrees lies =
      not (subst (MayLie graph mol x) lies (may_lie graph mol hit x drawing molecule agrees.is least most))

-- ---- the loop

-- what is seen of a hit that begins with the first atoms: the atoms on which those of the order lie
pub record IsSeen (graph : GraphView) (mol : Molecule) (first order seen : List ℕ) : Type 0 where
  pub hit : List ℕ
  pub others : List ℕ
  pub is : IsHit graph mol hit
  pub behind : hit ≡ first ++ others
  pub sees : seen ≡ map (image hit) order

-- ---- the loop over the code's lists

-- where a look ahead stands: what it has chosen, and up to which number the next atom is passed
pub record IsLooking (graph : GraphView) (mol : Molecule) (first order chosen : List ℕ) (d above : ℕ) : Type 0 where
  pub short : d < length order
  pub room : length order ≤ length chosen
  pub high : above ≤ length mol.atoms
  pub within : (j : ℕ) → j < d → get_or chosen j 0 ≤ length mol.atoms
  pub same : SameFrom (IsSeen graph mol first order) [] (place_of chosen d above)

-- a hit that agrees with what is chosen and has the next atom of the order on this one
record GoesOn (graph : GraphView) (mol : Molecule) (first order chosen : List ℕ) (b : ℕ) : Type 0 where
  hit : List ℕ
  agrees : Agrees graph mol first order chosen hit
  lies : image hit (get_or order (length chosen) 0) ≡ b

module _ (graph : GraphView) (mol : Molecule) (first order : List ℕ) where
  goes_on : (chosen more : List ℕ) (b : ℕ) → length chosen < length order → IsSeen graph mol first order (chosen ++ b ∷ more) → GoesOn graph mol first order chosen b
  goes_on chosen more b short seen =
      let at : (j : ℕ) → j < length order → get_or (chosen ++ b ∷ more) j 0 ≡ image seen.hit (get_or order j 0) =
      λ j below. ap (λ (xs : List ℕ). get_or xs j 0) seen.sees ∙ get_or-map (image seen.hit) order j 0 0 below in
      record {
        hit = seen.hit;
        agrees = record {
          is = seen.is;
          begins = λ j below. ap (λ (xs : List ℕ). get_or xs j 0) seen.behind ∙ get_or-append first seen.others 0 j below;
          sees = λ j below. (let in_order : j < length order = omega arith in sym (at j in_order) ∙ get_or-append chosen (b ∷ more) 0 j below);
        };
        lies = sym (at (length chosen) short) ∙ get_or-append_seam chosen b more 0;
      }

  -- as many atoms are seen as the order has
  seen_long : (seen : List ℕ) → IsSeen graph mol first order seen → length seen ≡ length order
  seen_long seen is = ap length is.sees ∙ length-map order (image is.hit)

  module _ (later : AreLater graph (length first) order) where
    -- the next atom lies on one of the molecule
    in_range : (chosen more : List ℕ) (b : ℕ) → length chosen < length order → IsSeen graph mol first order (chosen ++ b ∷ more) → (1 ≤ b) × (b ≤ length mol.atoms)
    in_range chosen more b short seen =
        let next = goes_on chosen more b short seen in
        let range = later (length chosen) 0 short in
        let whole = next.agrees.is.one_each in
        let below : get_or order (length chosen) 0 - 1 < length next.hit = omega (arith, range.0, range.1) in
        let P : ℕ → Type 0 = λ n. (1 ≤ n) × (n ≤ length mol.atoms) in
        subst P next.lies (next.agrees.is.within (get_or order (length chosen) 0 - 1) 0 below)

    -- a number is put behind those that are chosen
    pub look_goes_in : (chosen : List ℕ) → length chosen < length order → SameFrom (IsSeen graph mol first order) chosen (chosen ++ 1 ∷ [])
    look_goes_in chosen short = same_in (IsSeen graph mol first order) (length order) seen_long (λ q more b short' seen. (in_range q more b short' seen).0) chosen short

    module _ (chosen : List ℕ) (short : length chosen < length order) (anchor : Option ℕ) (beside : IfSome anchor (IsBeside graph mol first order chosen (get_or order (length chosen) 0))) where
      -- the next atom lies beside the anchor
      candidate : (b : ℕ) (hit : List ℕ) → Agrees graph mol first order chosen hit → image hit (get_or order (length chosen) 0) ≡ b → IsCandidate mol anchor b
      candidate b hit agrees lies = by_anchor anchor beside
        where
          by_anchor : (anchor : Option ℕ) → IfSome anchor (IsBeside graph mol first order chosen (get_or order (length chosen) 0)) → IsCandidate mol anchor b
          by_anchor None is = tt
          by_anchor (Some a) is = subst (λ (n : ℕ). AreBonded mol a n) lies (is hit agrees)

      -- no atom that is no candidate is seen next
      none_beside : (b : ℕ) (more : List ℕ) → (IsCandidate mol anchor b → b ≤ length mol.atoms → ⊥) → IsSeen graph mol first order (chosen ++ b ∷ more) → ⊥
      none_beside b more not seen =
          let next = goes_on chosen more b short seen in
          not (candidate b next.hit next.agrees next.lies) (in_range chosen more b short seen).1

      -- up to a candidate that can't be put all are passed
      pub look_skips : (above a : ℕ) → above < a → ((b : ℕ) → above < b → b < a → IsCandidate mol anchor b → b ≤ length mol.atoms → ⊥)
          → LiesNever graph mol first order chosen (get_or order (length chosen) 0) a → SameFrom (IsSeen graph mol first order) (chosen ++ (above + 1) ∷ []) (chosen ++ (a + 1) ∷ [])
      look_skips above a over between never = same_skip (IsSeen graph mol first order) chosen (above + 1) (a + 1) (omega arith) none
        where
          none : (b : ℕ) (more : List ℕ) → above + 1 ≤ b → b < a + 1 → IsSeen graph mol first order (chosen ++ b ∷ more) → ⊥
          none b more up under seen =
              elim (cases_eq b a) [
                | inl same ↦ (let next = goes_on chosen more b short seen in never next.hit next.agrees (next.lies ∙ same))
                | inr other ↦ none_beside b more (between b (omega arith) (omega arith)) seen
              ]

      -- up to a candidate that is put all are passed
      pub look_puts : (above a : ℕ) → above < a → ((b : ℕ) → above < b → b < a → IsCandidate mol anchor b → b ≤ length mol.atoms → ⊥)
          → SameFrom (IsSeen graph mol first order) (chosen ++ (above + 1) ∷ []) (chosen ++ a ∷ [])
      look_puts above a over between =
          same_skip (IsSeen graph mol first order) chosen (above + 1) a (omega arith) (λ b more up under seen. none_beside b more (between b (omega arith) under) seen)

      -- where no candidate is left, nothing goes on behind what is chosen
      pub look_misses : (above : ℕ) → ((b : ℕ) → above < b → IsCandidate mol anchor b → b ≤ length mol.atoms → ⊥)
          → (b : ℕ) (more : List ℕ) → above + 1 ≤ b → IsSeen graph mol first order (chosen ++ b ∷ more) → ⊥
      look_misses above none b more up seen = none_beside b more (none b (omega arith)) seen

    -- where nothing is left, no hit begins with the first atoms
    pub look_ends : (above : ℕ) → 0 < length order → SameFrom (IsSeen graph mol first order) [] ((above + 1) ∷ [])
        → ((b : ℕ) (more : List ℕ) → above + 1 ≤ b → IsSeen graph mol first order (b ∷ more) → ⊥)
        → IsNoHitBehind graph mol first
    look_ends above some same none others hit =
        let seen : IsSeen graph mol first order (map (image (first ++ others)) order) = record { hit = first ++ others; others = others; is = hit; behind = refl; sees = refl } in
        none_left (IsSeen graph mol first order) (above + 1) (λ s. omega (arith, seen_long [] s)) none
        (map (image (first ++ others)) order) seen (same.on (map (image (first ++ others)) order) seen
        (λ below. below))

  pub looking_starts : AreLater graph (length first) order → (chosen : List ℕ) → 0 < length order → length order ≤ length chosen → IsLooking graph mol first order chosen 0 0
  looking_starts later chosen some room = record {
    short = some;
    room = room;
    high = omega arith;
    within = λ j below. absurd (omega arith);
    same = look_goes_in later [] some;
  }

  module _ (later : AreLater graph (length first) order) (chosen : List ℕ) (d above : ℕ) (looking : IsLooking graph mol first order chosen d above) (anchor : Option ℕ)
      (beside : IfSome anchor (IsBeside graph mol first order (take d chosen) (get_or order d 0))) where
    long : length (take d chosen) ≡ d
    long = length-take-le d chosen (omega (arith, looking.short, looking.room))

    short : length (take d chosen) < length order
    short = omega (arith, looking.short, long)

    beside_next : IfSome anchor (IsBeside graph mol first order (take d chosen) (get_or order (length (take d chosen)) 0))
    beside_next = subst (λ (n : ℕ). IfSome anchor (IsBeside graph mol first order (take d chosen) (get_or order n 0))) (sym long) beside

    module _ (a : ℕ) (over : above < a) (most : a ≤ length mol.atoms) (between : (b : ℕ) → above < b → b < a → IsCandidate mol anchor b → b ≤ length mol.atoms → ⊥) where
      -- a candidate is passed
      pub looking_skips : LiesNever graph mol first order (take d chosen) (get_or order (length (take d chosen)) 0) a → IsLooking graph mol first order chosen d a
      looking_skips never = record {
        short = looking.short;
        room = looking.room;
        high = most;
        within = looking.within;
        same = same_through (IsSeen graph mol first order) [] (place_of chosen d above) (place_of chosen d a)
            looking.same (look_skips later (take d chosen) short anchor beside_next above a over between never);
      }

      -- a candidate is put
      pub looking_puts : (d + 1 ≡ length order → ⊥) → IsLooking graph mol first order (set chosen d a) (d + 1) 0
      looking_puts more =
          let below : d < length chosen = omega (arith, looking.short, looking.room) in
          let front : take (d + 1) (set chosen d a) ≡ take d chosen ++ a ∷ [] = take_more_set chosen d a below in
          let shorter : length (take d chosen ++ a ∷ []) < length order = omega (arith, length-append (take d chosen) (a ∷ []), long, looking.short) in
          record {
            short = omega (arith, looking.short);
            room = rw (length-set chosen d a) looking.room;
            high = omega arith;
            within = λ j under.
                elim (cases_eq j d) [
                  | inl same ↦ (let put : get_or (set chosen d a) j 0 ≡ a = rw same (get_or-set_same chosen d a 0 below) in omega arith)
                  | inr other ↦ (let stays : get_or (set chosen d a) j 0 ≡ get_or chosen j 0 = get_or-set_other chosen d j a 0 other in omega (arith, looking.within j (omega arith)))
                ];
            same = rw front
                (same_through (IsSeen graph mol first order) [] (take d chosen ++ a ∷ []) ((take d chosen ++ a ∷ []) ++ 1 ∷ [])
                (same_through (IsSeen graph mol first order) [] (place_of chosen d above) (take d chosen ++ a ∷ [])
                looking.same (look_puts later (take d chosen) short anchor beside_next above a over between))
                (look_goes_in later (take d chosen ++ a ∷ []) shorter));
          }

    module _ (none : (b : ℕ) → above < b → IsCandidate mol anchor b → b ≤ length mol.atoms → ⊥) where
      -- the last one that is chosen is taken back
      pub looking_goes_back : (last : ℕ) → (d ≡ 0 → ⊥) → last ≡ get_or chosen (d - 1) last → IsLooking graph mol first order chosen (d - 1) last
      looking_goes_back last some is =
          let below : d - 1 < length chosen = omega (arith, looking.short, looking.room) in
          let front : take d chosen ≡ take (d - 1) chosen ++ last ∷ [] = take_last chosen d last some (omega (arith, looking.short, looking.room)) is in
          let misses = look_misses later (take d chosen) short anchor beside_next above none in
          record {
            short = omega (arith, looking.short);
            room = looking.room;
            high = (let here : last ≡ get_or chosen (d - 1) 0 = is ∙ get_or_default chosen (d - 1) last 0 below in omega (arith, looking.within (d - 1) (omega arith)));
            within = λ j under. looking.within j (omega arith);
            same = same_through (IsSeen graph mol first order) [] (place_of chosen d above) (place_of chosen (d - 1) last) looking.same
                (subst (λ (q : List ℕ). SameFrom (IsSeen graph mol first order) (q ++ (above + 1) ∷ []) (place_of chosen (d - 1) last)) (sym front)
                (same_back (IsSeen graph mol first order) (take (d - 1) chosen) last (above + 1)
                (λ b more up seen. misses b more up (subst (λ (q : List ℕ). IsSeen graph mol first order (q ++ b ∷ more)) (sym front) seen))));
          }

      -- nothing is chosen, and nothing is left
      pub looking_ends : d ≡ 0 → IsNoHitBehind graph mol first
      looking_ends none_chosen =
          let front : take d chosen ≡ [] = ap (λ (n : ℕ). take n chosen) none_chosen in
          let misses = look_misses later (take d chosen) short anchor beside_next above none in
          look_ends later above (omega (arith, looking.short)) (subst (λ (q : List ℕ). SameFrom (IsSeen graph mol first order) [] (q ++ (above + 1) ∷ [])) front looking.same)
          (λ b more up seen. misses b more up (subst (λ (q : List ℕ). IsSeen graph mol first order (q ++ b ∷ more)) (sym front) seen))
