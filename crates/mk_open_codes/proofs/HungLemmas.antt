-- One template: what it becomes in the whole hangs on what it becomes in a part, where each slot that the
-- part leaves open has one neighbour.
--     IsHung            all else of a whole hangs on a part by bridges
--     AllHung           the same of pieces, slot by slot
--     level_homes, level_roots      the homes and roots of all atoms
--     level_hung        the theorem
use Rattle.std.proofs.Common.{◌≡◌, ◌≢◌, ◌∙◌, ◌⊎◌, ℕ, zero, suc, ◌+◌, ◌-◌, ◌<◌, ◌≤◌, inl, inr, Bool, true, false, cond, ◌&&◌, ◌||◌, eqb, ltb, List, [], ◌∷◌, length, get_or, map, refl, sym, ap, subst, arith}
use Rattle.std.specs.Prelude.{Contains}
use Rattle.std.specs.List.{flat_map}
use Rattle.std.proofs.lemmas.Bool.Decides.{nat_tests}
use Rattle.std.proofs.lemmas.List.Elements.{All-contains, Contains-append_cases, Contains-append_left, Contains-append_right, Contains-get_or}
use Rattle.mk_model.specs.declared.template.QueryBond.{QueryBond}
use Rattle.mk_model.specs.declared.template.Slot.{Slot}
use Rattle.mk_model.specs.declared.template.Slot.TheVariants.{Link, Site}
use Rattle.mk_model.specs.Expansions.{all_within, bond_between, bond_joining, bonds_within, copied, drawn, is_hydrogens, is_inside, is_nothing, joined, shifted}
use Rattle.mk_model.specs.Hits.{image}
use Rattle.mk_model.specs.Pieces.{Fragment, Piece, before, end_of, ending, is_far_of, numbers_to, piece, piece_numbered, room, taker, width}
use Rattle.mk_model.specs.Pieces.Piece.{Copies, Member, Hydrogens, Nothing}
use Rattle.mk_model.specs.QueryFits.{AreNeighbours, IsAtomOf}
use Rattle.mk_model.specs.Sizes.{takes_atom}
use Rattle.mk_model.specs.Templates.{TemplateView, neighbour_count, slot_atom}
use Rattle.mk_pieces.specs.Fragments.{IsLowerFirst}
use Rattle.mk_pieces.specs.Kept.{IsSlotOf}
use Rattle.mk_pieces.specs.Rooms.{IsWithin, StandsAt}
use Rattle.mk_pieces.proofs.DrawnLemmas.{copied_is, drawn_inside, drawn_outside, piece_ends}
use Rattle.mk_pieces.proofs.JoiningLemmas.{in_flat, in_mapped, in_slots, is_spanned, spanned_is}
use Rattle.mk_pieces.proofs.NumberLemmas.{mapped_at, mapped_length}
use Rattle.mk_pieces.proofs.PairLemmas.{one_of}
use Rattle.mk_pieces.proofs.PieceLemmas.{FitsSlot, all_stand, fit_at, fit_length}
use Rattle.mk_pieces.proofs.TakerLemmas.{taker_is_slot, taker_of_slot}
use Rattle.mk_pieces.proofs.TemplateLemmas.{bonds_within as template_bonds, slots_stand}
use Rattle.mk_pieces.proofs.WithinLemmas.{all_within_one, chained_is, image_of as shifted_of}
use Rattle.mk_expand.specs.Bridges.{IsBeyond, IsBridge}
use Rattle.mk_expand.specs.OpenGraphs.{opened}
use Rattle.mk_expand.proofs.StandLemmas.{opened_size}
use Rattle.mk_open_codes.proofs.BondLemmas.{IsInLink, in_link, nothing_wide}
use Rattle.mk_open_codes.proofs.MovedLemmas.{bond_is, copy_at, moved_between, row_held, step_held}
use Rattle.mk_open_codes.proofs.PlaceLemmas.{IsLevel, IsOwned, IsPlaceOf, ending_moved, grows, image_at, image_place, laid_at, level_places, own_places, owner, place_within}
use Rattle.mk_open_codes.proofs.SharedLemmas.{GrowsBy, IsShared, moved, numbers_image, places_numbered, same_size, still_stands}

-- ---- what hangs on a part

-- a bond of the whole is one of the part, or lies beyond it, or leads away from it
abbrev pub LiesSo : Fragment → List ℕ → (ℕ → ℕ) → (ℕ → ℕ) → QueryBond → Type 0
LiesSo part places home root bond =
    ((b : QueryBond) × Contains part.bonds b × (moved places b ≡ bond))
    ⊎ (IsBeyond home root bond.first bond.second
    ⊎ (IsBridge (length part.atoms) places home root bond.first bond.second ⊎ IsBridge (length part.atoms) places home root bond.second bond.first))

-- all else of the whole hangs on the part by bridges
pub record IsHung (part whole : Fragment) (places : List ℕ) (home root : ℕ → ℕ) : Type 0 where
  pub own : (p : ℕ) → 1 ≤ p → p ≤ length part.atoms → (home (image places p) ≡ p) × (root (image places p) ≡ 0)
  pub bonds : (bond : QueryBond) → Contains whole.bonds bond → LiesSo part places home root bond

-- ---- pieces

-- homes and roots within a piece
pub record Inner : Type 0 where
  pub home : ℕ → ℕ
  pub root : ℕ → ℕ

-- those of a piece that is the same in the part and in the whole
abbrev pub own_inner : Inner
own_inner = record { home = λ j. j; root = λ j. 0 }

abbrev pub HungBy : Piece → Piece → List ℕ → Inner → Type 0
HungBy (Member part) (Member whole) places inner = IsHung part whole places inner.home inner.root
HungBy p q places inner = inner ≡ own_inner

-- a slot at which nothing stands in the part and something in the whole has one neighbour
pub record HungAt (slot : Slot) (p q : Piece) (places : List ℕ) (inner : Inner) : Type 0 where
  pub one : is_nothing p ≡ true → is_nothing q ≡ false → neighbour_count slot ≡ 1
  pub by : HungBy p q places inner

abbrev pub AllHung : List Slot → List Piece → List Piece → List (List ℕ) → List Inner → Type 0
AllHung slots ps qs others inners =
    (k : ℕ) → k < length slots
    → HungAt (get_or slots k (Link 0 0 0 0)) (get_or ps k (Copies 1)) (get_or qs k (Copies 1)) (get_or others k (numbers_to 1)) (get_or inners k own_inner)

pub none_hung : AllHung [] [] [] [] []
none_hung k below = absurd (omega arith)

pub more_hung : (slot : Slot) (p q : Piece) (places : List ℕ) (inner : Inner) (slots : List Slot) (ps qs : List Piece) (others : List (List ℕ)) (inners : List Inner)
    → HungAt slot p q places inner → AllHung slots ps qs others inners → AllHung (slot ∷ slots) (p ∷ ps) (q ∷ qs) (places ∷ others) (inner ∷ inners)
more_hung slot p q places inner slots ps qs others inners here all zero below = here
more_hung slot p q places inner slots ps qs others inners here all (suc k) below = all k (omega arith)

-- an atom of a piece of the part is its own home
inner_own : (p q : Piece) (places : List ℕ) (inner : Inner) → GrowsBy p q places → HungBy p q places inner → (j : ℕ) → 1 ≤ j → j ≤ width p
    → (inner.home (image places j) ≡ j) × (inner.root (image places j) ≡ 0)
inner_own (Copies n) (Copies m) places inner grow hung j least most =
    (ap (λ (i : Inner). i.home (image places j)) hung ∙ ap (λ (ns : List ℕ). image ns j) grow.1 ∙ numbers_image n j least most, ap (λ (i : Inner). i.root (image places j)) hung)
inner_own (Copies n) (Member whole) places inner grow hung j least most = absurd grow
inner_own (Copies n) (Hydrogens m) places inner grow hung j least most = absurd grow
inner_own (Copies n) Nothing places inner grow hung j least most = absurd grow
inner_own (Member part) (Copies m) places inner grow hung j least most = absurd grow
inner_own (Member part) (Member whole) places inner grow hung j least most = hung.own j least most
inner_own (Member part) (Hydrogens m) places inner grow hung j least most = absurd grow
inner_own (Member part) Nothing places inner grow hung j least most = absurd grow
inner_own (Hydrogens n) (Copies m) places inner grow hung j least most = absurd grow
inner_own (Hydrogens n) (Member whole) places inner grow hung j least most = absurd grow
inner_own (Hydrogens n) (Hydrogens m) places inner grow hung j least most =
    (ap (λ (i : Inner). i.home (image places j)) hung ∙ ap (λ (ns : List ℕ). image ns j) grow.1 ∙ numbers_image n j least most, ap (λ (i : Inner). i.root (image places j)) hung)
inner_own (Hydrogens n) Nothing places inner grow hung j least most = absurd grow
inner_own Nothing q places inner grow hung j least most = absurd (omega (arith, least, most))

-- ---- one template

abbrev pub inner_numbered : List Inner → ℕ → Inner
inner_numbered inners zero = own_inner
inner_numbered inners (suc k) = get_or inners k own_inner

abbrev pub slot_numbered : List Slot → ℕ → Slot
slot_numbered slots zero = Link 0 0 0 0
slot_numbered slots (suc k) = get_or slots k (Link 0 0 0 0)

-- the first neighbour that a slot names
abbrev pub first_neighbour : Slot → ℕ
first_neighbour (Link atom most from to) = from
first_neighbour (Site atom groups first second) = first

-- a number within a piece, as one of all; 0 stays
abbrev pub raised : ℕ → ℕ → ℕ
raised by n = cond (eqb n 0) 0 (by + n)

raised_none : (by n : ℕ) → n ≡ 0 → raised by n ≡ 0
raised_none by n is = (let e : eqb n 0 ≡ true = grind (arith, nat_tests) in rw e refl)

raised_some : (by n : ℕ) → n ≢ 0 → raised by n ≡ by + n
raised_some by n is = (let e : eqb n 0 ≡ false = grind (arith, nat_tests) in rw e refl)

module _ (template : TemplateView) (ps qs : List Piece) (inners : List Inner) where
  abbrev pub inner_at : ℕ → Inner
  inner_at x = inner_numbered inners (taker template x)

  -- the neighbour of the slot that takes atom x
  abbrev pub beside : ℕ → ℕ
  beside x = first_neighbour (slot_numbered template.slots (taker template x))

  -- home and root of the j-th of what atom x becomes in the whole
  abbrev pub home_of : ℕ → ℕ → ℕ
  home_of x j = cond (is_nothing (piece template ps x)) (ending template ps (beside x) x) (before template ps x + (inner_at x).home j)

  abbrev pub root_of : ℕ → ℕ → ℕ
  root_of x j = cond (is_nothing (piece template ps x)) (ending template qs x (beside x)) (raised (before template qs x) ((inner_at x).root j))

-- a number for each atom of the whole
unfoldable pub laid_out : TemplateView → List Piece → (ℕ → ℕ → ℕ) → List ℕ
laid_out template qs f = flat_map (λ x. map (f x) (numbers_to (width (piece template qs x)))) (numbers_to (length template.atoms))

laid_out_at : (template : TemplateView) (qs : List Piece) (f : ℕ → ℕ → ℕ) (x j p : ℕ) → IsPlaceOf template qs x j p → image (laid_out template qs f) p ≡ f x j
unfolding laid_out
laid_out_at template qs f x j p place =
    let start : p - 1 ≡ before template qs x + (j - 1) = omega (arith, place.is, place.least) in
    let last : 1 + (j - 1) ≡ j = omega (arith, place.least) in
    ap (λ (i : ℕ). get_or (flat_map (λ y. map (f y) (numbers_to (width (piece template qs y)))) (numbers_to (length template.atoms))) i 0) start
    ∙ laid_at template qs (λ y. map (f y) (numbers_to (width (piece template qs y)))) (λ y. mapped_length (f y) (width (piece template qs y))) (length template.atoms) x (j - 1) 0
    place.at.0 place.at.1 (omega (arith, place.least, place.most))
    ∙ mapped_at (f x) (width (piece template qs x)) (j - 1) 0 (omega (arith, place.least, place.most)) ∙ ap (f x) last

module _ (template : TemplateView) (ps qs : List Piece) (others : List (List ℕ)) (level : IsLevel template ps qs others) (inners : List Inner) (hung : AllHung template.slots ps qs others inners) where
  abbrev e : ℕ → ℕ
  e = image (level_places template qs others)

  abbrev pub level_home : ℕ → ℕ
  level_home = image (laid_out template qs (home_of template ps qs inners))

  abbrev pub level_root : ℕ → ℕ
  level_root = image (laid_out template qs (root_of template ps qs inners))

  -- what a piece has within it
  inner_hung : (x : ℕ) → HungBy (piece template ps x) (piece template qs x) (own_places template others x) (inner_at template ps qs inners x)
  inner_hung x = by (taker template x) refl
    where
      by : (n : ℕ) → taker template x ≡ n → HungBy (piece_numbered ps n) (piece_numbered qs n) (places_numbered others n) (inner_numbered inners n)
      by zero is = refl
      by (suc k) is = (hung k (taker_is_slot template x k is).within).by

  -- home and root where something stands in the part
  home_there : (x j p : ℕ) → IsPlaceOf template qs x j p → is_nothing (piece template ps x) ≡ false → level_home p ≡ before template ps x + (inner_at template ps qs inners x).home j
  home_there x j p place some =
      laid_out_at template qs (home_of template ps qs inners) x j p place
      ∙ ap (λ (t : Bool). cond t (ending template ps (beside template ps qs inners x) x) (before template ps x + (inner_at template ps qs inners x).home j)) some

  root_there : (x j p : ℕ) → IsPlaceOf template qs x j p → is_nothing (piece template ps x) ≡ false → level_root p ≡ raised (before template qs x) ((inner_at template ps qs inners x).root j)
  root_there x j p place some =
      laid_out_at template qs (root_of template ps qs inners) x j p place
      ∙ ap (λ (t : Bool). cond t (ending template qs x (beside template ps qs inners x)) (raised (before template qs x) ((inner_at template ps qs inners x).root j))) some

  -- and where nothing stands
  home_open : (x j p : ℕ) → IsPlaceOf template qs x j p → is_nothing (piece template ps x) ≡ true → level_home p ≡ ending template ps (beside template ps qs inners x) x
  home_open x j p place none =
      laid_out_at template qs (home_of template ps qs inners) x j p place
      ∙ ap (λ (t : Bool). cond t (ending template ps (beside template ps qs inners x) x) (before template ps x + (inner_at template ps qs inners x).home j)) none

  root_open : (x j p : ℕ) → IsPlaceOf template qs x j p → is_nothing (piece template ps x) ≡ true → level_root p ≡ ending template qs x (beside template ps qs inners x)
  root_open x j p place none =
      laid_out_at template qs (root_of template ps qs inners) x j p place
      ∙ ap (λ (t : Bool). cond t (ending template qs x (beside template ps qs inners x)) (raised (before template qs x) ((inner_at template ps qs inners x).root j))) none

  -- ---- atoms of the part

  stands : (x j p : ℕ) → IsPlaceOf template ps x j p → is_nothing (piece template ps x) ≡ false
  stands x j p place = by (is_nothing (piece template ps x)) refl
    where
      by : (t : Bool) → is_nothing (piece template ps x) ≡ t → is_nothing (piece template ps x) ≡ false
      by true is = absurd (omega (arith, nothing_wide (piece template ps x) is, place.least, place.most))
      by false is = is

  level_own : (p : ℕ) → 1 ≤ p → p ≤ length (opened template ps).atoms → (level_home (image (level_places template qs others) p) ≡ p) × (level_root (image (level_places template qs others) p) ≡ 0)
  level_own p least most =
      let own : IsOwned template ps p = owner template ps p least (omega (arith, most, opened_size template ps)) in
      let there = image_place template ps qs others level own.x own.j p own.place in
      let some = stands own.x own.j p own.place in
      let inner = inner_own (piece template ps own.x) (piece template qs own.x) (own_places template others own.x) (inner_at template ps qs inners own.x)
      (grows template ps qs others level own.x) (inner_hung own.x) own.j own.place.least own.place.most in (
        home_there own.x _ _ there some ∙ ap (λ (n : ℕ). before template ps own.x + n) inner.0 ∙ own.place.is,
        root_there own.x _ _ there some ∙ raised_none (before template qs own.x) _ inner.1,
      )

  -- ---- open slots

  -- atom x is a site that is left open, with one neighbour
  record IsOpenAt (x : ℕ) : Type 0 where
    groups : List ℕ
    only : ℕ
    held : Contains template.slots (Site x groups only 0)
    beside_is : beside template ps qs inners x ≡ only
    fits : FitsSlot (Site x groups only 0) (piece template qs x)

  open_at : (x : ℕ) → is_nothing (piece template ps x) ≡ true → is_nothing (piece template qs x) ≡ false → IsOpenAt x
  open_at x none some = by (taker template x) refl none some
    where
      own : (a : ℕ) → (eqb a x || false) ≡ true → a ≡ x
      own a is = test (eqb a x) refl is
        where
          test : (t : Bool) → eqb a x ≡ t → (t || false) ≡ true → a ≡ x
          test true is' h = grind (arith, nat_tests)
          test false is' h = absurd cc

      no_second : (s : ℕ) → ◌≡◌ {A = ℕ} (cond (eqb s 0) 1 2) 1 → s ≡ 0
      no_second s is = test (eqb s 0) refl is
        where
          test : (t : Bool) → eqb s 0 ≡ t → ◌≡◌ {A = ℕ} (cond t 1 2) 1 → s ≡ 0
          test true is' h = grind (arith, nat_tests)
          test false is' h = absurd (omega (arith, h))

      of_slot : (k : ℕ) (slot : Slot) → taker template x ≡ suc k → get_or template.slots k (Link 0 0 0 0) ≡ slot → k < length template.slots → takes_atom template x slot ≡ true
          → neighbour_count slot ≡ 1 → FitsSlot slot (piece template qs x) → IsOpenAt x
      of_slot k (Link a m f o) is at below takes count fits = absurd (omega (arith, count))
      of_slot k (Site a g f s) is at below takes count fits =
          let one : a ≡ x = own a takes in
          let last : s ≡ 0 = no_second s count in
          let whole : Site a g f s ≡ Site x g f 0 = ap (λ (n : ℕ). Site n g f s) one ∙ ap (Site x g f) last in
          let found : get_or template.slots k (Link 0 0 0 0) ≡ Site x g f 0 = at ∙ whole in
          record {
            groups = g;
            only = f;
            held = subst (Contains template.slots) found (Contains-get_or template.slots k (Link 0 0 0 0) below);
            beside_is = ap (λ (n : ℕ). first_neighbour (slot_numbered template.slots n)) is ∙ ap first_neighbour found;
            fits = subst (λ (slot : Slot). FitsSlot slot (piece template qs x)) whole fits;
          }

      by : (n : ℕ) → taker template x ≡ n → is_nothing (piece_numbered ps n) ≡ true → is_nothing (piece_numbered qs n) ≡ false → IsOpenAt x
      by zero is none' some' = absurd cc
      by (suc k) is none' some' =
          let found = taker_is_slot template x k is in
          let fits : FitsSlot (get_or template.slots k (Link 0 0 0 0)) (piece template qs x) =
          subst (λ (n : ℕ). FitsSlot (get_or template.slots k (Link 0 0 0 0)) (piece_numbered qs n)) (sym is) (fit_at template.slots qs k (Link 0 0 0 0) (Copies 1) found.within level.fit) in
          of_slot k (get_or template.slots k (Link 0 0 0 0)) is refl found.within (found.takes (Link 0 0 0 0)) ((hung k found.within).one none' some') fits

  -- its neighbour is the one that it names
  only_neighbour : (x y : ℕ) (vacant : IsOpenAt x) → AreNeighbours template x y → y ≡ vacant.only
  only_neighbour x y vacant near = by ((named.1.neighbours y).0 near)
    where
      named : IsSlotOf template (Site x vacant.groups vacant.only 0)
      named = All-contains (IsSlotOf template) template.slots (Site x vacant.groups vacant.only 0) level.kept.slots vacant.held

      by : (y ≡ vacant.only) ⊎ ((y ≡ 0) × (◌≢◌ {A = ℕ} 0 0)) → y ≡ vacant.only
      by (inl is) = is
      by (inr is) = absurd (is.1 refl)

  neighbours_of : (bond : QueryBond) → Contains template.bonds bond → AreNeighbours template bond.first bond.second × AreNeighbours template bond.second bond.first
  neighbours_of bond held =
      let a : eqb bond.first bond.first ≡ true = grind (arith, nat_tests) in
      let b : eqb bond.second bond.second ≡ true = grind (arith, nat_tests) in
      ((bond, held, rw (a, b) refl), (bond, held, rw (a, b) (last (eqb bond.first bond.second && eqb bond.second bond.first))))
    where
      last : (c : Bool) → (c || true) ≡ true
      last true = refl
      last false = refl

  -- the end of an open slot's piece
  end_place : (x y : ℕ) → IsAtomOf template x → 1 ≤ y → is_nothing (piece template qs x) ≡ false
      → IsPlaceOf template qs x (end_of (piece template qs x) (is_far_of template.slots (taker template x) x y)) (ending template qs x y)
  unfolding ending
  end_place x y at least some =
      let ends = piece_ends template qs (all_stand template.slots qs level.fit) x y least some in
      record { at = at; least = ends.0; most = ends.1; is = refl }

  -- the bond from an open slot to its neighbour is a bridge
  open_bridge : (u v : ℕ) → IsAtomOf template u → IsAtomOf template v → AreNeighbours template u v → AreNeighbours template v u
      → is_nothing (piece template ps u) ≡ true → is_nothing (piece template qs u) ≡ false → is_nothing (piece template qs v) ≡ false
      → IsBridge (length (opened template ps).atoms) (level_places template qs others) level_home level_root (ending template qs v u) (ending template qs u v)
  open_bridge u v is_u is_v near near' none some some' =
      let vacant = open_at u none some in
      let only : v ≡ vacant.only = only_neighbour u v vacant near in
      let next : beside template ps qs inners u ≡ v = vacant.beside_is ∙ sym only in
      let there = by (is_nothing (piece template ps v)) refl in
      let end = ending_moved template ps qs others level v u is_v is_u.0 there in
      let inside = place_within template ps v _ (ending template ps v u) end.place in
      let place = end_place u v is_u is_v.0 some in
      let home : level_home (ending template qs u v) ≡ ending template ps v u =
      home_open u _ (ending template qs u v) place none ∙ ap (λ (n : ℕ). ending template ps n u) next in
      let root : level_root (ending template qs u v) ≡ ending template qs u v =
      root_open u _ (ending template qs u v) place none ∙ ap (ending template qs u) next in
      let first = place_within template qs u _ (ending template qs u v) place in
      record {
        within = (omega (arith, home, inside.0), omega (arith, home, inside.1, opened_size template ps));
        at = ap (image (level_places template qs others)) home ∙ end.is;
        own = root;
        beyond = λ zero_there. omega (arith, zero_there, root, first.0);
      }
    where
      by : (t : Bool) → is_nothing (piece template ps v) ≡ t → is_nothing (piece template ps v) ≡ false
      by true is =
          absurd (let vacant = open_at u none some in
          let vacant' = open_at v is some' in
          level.apart (Site u vacant.groups vacant.only 0) (Site v vacant'.groups vacant'.only 0) vacant.held vacant'.held near)
      by false is = is

  -- ---- bonds of the whole

  abbrev Lies : QueryBond → Type 0
  Lies = LiesSo (opened template ps) (level_places template qs others) level_home level_root

  part_bonds : (opened template ps).bonds ≡ (joined template ps).bonds
  unfolding opened
  part_bonds = refl

  part_outer : (bond b : QueryBond) → Contains template.bonds bond → Contains (drawn template ps bond) b → Contains (opened template ps).bonds b
  unfolding joined
  part_outer bond b at held = subst (λ (bs : List QueryBond). Contains bs b) (sym part_bonds)
      (Contains-append_left (flat_map (drawn template ps) template.bonds) (all_within template ps template.slots ps) b (in_flat (drawn template ps) template.bonds bond b at held))

  part_inner : (k : ℕ) (b : QueryBond) → k < length template.slots
      → Contains (bonds_within template.bonds (before template ps (slot_atom (get_or template.slots k (Link 0 0 0 0)))) (get_or template.slots k (Link 0 0 0 0)) (get_or ps k (Copies 1))) b
      → Contains (opened template ps).bonds b
  unfolding joined
  part_inner k b below held = subst (λ (bs : List QueryBond). Contains bs b) (sym part_bonds)
      (Contains-append_right (flat_map (drawn template ps) template.bonds) (all_within template ps template.slots ps) b
      (in_slots template ps template.slots ps k b below (same_size ps qs others level.grow ∙ fit_length template.slots qs level.fit) held))

  -- a bond between two places, either of which may be the lower
  bridge_between : (a c kind topology : ℕ) → IsBridge (length (opened template ps).atoms) (level_places template qs others) level_home level_root c a → Lies (bond_between a c kind topology)
  bridge_between a c kind topology bridge = by (ltb a c)
    where
      by : (t : Bool) → LiesSo (opened template ps) (level_places template qs others) level_home level_root
          (cond t (record { first = a; second = c; kind = kind; topology = topology }) (record { first = c; second = a; kind = kind; topology = topology }))
      by true = inr (inr (inr bridge))
      by false = inr (inr (inl bridge))

  bridge_back : (a c kind topology : ℕ) → IsBridge (length (opened template ps).atoms) (level_places template qs others) level_home level_root c a → Lies (bond_between c a kind topology)
  bridge_back a c kind topology bridge = by (ltb c a)
    where
      by : (t : Bool) → LiesSo (opened template ps) (level_places template qs others) level_home level_root
          (cond t (record { first = c; second = a; kind = kind; topology = topology }) (record { first = a; second = c; kind = kind; topology = topology }))
      by true = inr (inr (inl bridge))
      by false = inr (inr (inr bridge))

  -- a bond between two places of the part
  part_between : (a c kind topology x y : ℕ) → (1 ≤ a) × (a ≤ room template ps (length template.atoms)) → (1 ≤ c) × (c ≤ room template ps (length template.atoms))
      → image (level_places template qs others) a ≡ x → image (level_places template qs others) c ≡ y
      → Contains (opened template ps).bonds (bond_between a c kind topology) → Lies (bond_between x y kind topology)
  part_between a c kind topology x y is_a is_c at_a at_c held = inl (
    bond_between a c kind topology,
    held,
    moved_between template ps qs others level a c kind topology is_a is_c
        ∙ ap (λ (n : ℕ). bond_between n (e c) kind topology) at_a ∙ ap (λ (n : ℕ). bond_between x n kind topology) at_c,
  )

  -- ---- a bond of the template

  inside_lies : (bond b : QueryBond) → Contains template.bonds bond → IsWithin template bond → is_inside template bond ≡ true → Contains (drawn template qs bond) b → Lies b
  inside_lies bond b held within inside at = by (in_link template ps qs others level bond within inside)
    where
      copy : Contains (copied bond (before template qs bond.first) (before template qs bond.second) (width (piece template qs bond.first))) b
      copy = subst (λ (bs : List QueryBond). Contains bs b) (drawn_inside template qs bond inside) at

      by : IsInLink template ps qs others level bond.first bond.second → Lies b
      by link =
          let found = copied_is bond (before template qs bond.first) (before template qs bond.second) (width (piece template qs bond.first)) b copy in
          elim link.part [
            | inl there ↦
                (let most : found.j ≤ link.times = omega (arith, found.most, ap width link.whole) in
                let second : piece template ps bond.second ≡ Copies link.times = ap (piece_numbered ps) (sym link.same) ∙ there.0 in
                let second' : own_places template others bond.second ≡ numbers_to link.times = ap (places_numbered others) (sym link.same) ∙ there.1 in
                let u = copy_at template ps qs others level link.times bond.first found.j within.first there.1 (ap width there.0) found.least most in
                let v = copy_at template ps qs others level link.times bond.second found.j within.second second' (ap width second) found.least most in
                let part : drawn template ps bond ≡ copied bond (before template ps bond.first) (before template ps bond.second) link.times =
                drawn_inside template ps bond inside ∙ ap (copied bond (before template ps bond.first) (before template ps bond.second)) (ap width there.0) in
                let row = row_held template ps qs others level bond (before template ps bond.first) (before template ps bond.second) link.times found.j found.least most in
                let row' : Contains (drawn template ps bond) (bond_between (before template ps bond.first + found.j) (before template ps bond.second + found.j) bond.kind bond.topology) =
                subst (λ (bs : List QueryBond). Contains bs (bond_between (before template ps bond.first + found.j) (before template ps bond.second + found.j) bond.kind bond.topology))
                (sym part) row in
                subst Lies (sym found.is) (part_between (before template ps bond.first + found.j) (before template ps bond.second + found.j) bond.kind bond.topology
                (before template qs bond.first + found.j) (before template qs bond.second + found.j)
                (place_within template ps bond.first found.j (before template ps bond.first + found.j) u.0)
                (place_within template ps bond.second found.j (before template ps bond.second + found.j) v.0) u.1 v.1
                (part_outer bond (bond_between (before template ps bond.first + found.j) (before template ps bond.second + found.j) bond.kind bond.topology) held row')))
            | inr none ↦
                (let vacant = open_at bond.first (ap is_nothing none) (ap is_nothing link.whole) in
                absurd (subst (FitsSlot (Site bond.first vacant.groups vacant.only 0)) link.whole vacant.fits))
          ]

  outside_lies : (bond b : QueryBond) → Contains template.bonds bond → IsWithin template bond → is_inside template bond ≡ false → Contains (drawn template qs bond) b → Lies b
  outside_lies bond b held within outside at =
      let found = is_spanned (piece template qs bond.first) (piece template qs bond.second) bond (ending template qs bond.first bond.second) (ending template qs bond.second bond.first) b
      (subst (λ (bs : List QueryBond). Contains bs b) (drawn_outside template qs bond outside) at) in
      subst Lies (sym found.is) (by (is_nothing (piece template ps bond.first)) (is_nothing (piece template ps bond.second)) refl refl found.one_there found.other_there)
    where
      u : ℕ
      u = bond.first

      v : ℕ
      v = bond.second

      of_both : is_nothing (piece template ps bond.first) ≡ false → is_nothing (piece template ps bond.second) ≡ false
          → Lies (bond_between (ending template qs bond.first bond.second) (ending template qs bond.second bond.first)
          (cond (is_hydrogens (piece template qs bond.first) || is_hydrogens (piece template qs bond.second)) 1 bond.kind)
          (cond (is_hydrogens (piece template qs bond.first) || is_hydrogens (piece template qs bond.second)) 0 bond.topology))
      of_both some some' =
          let one = still_stands (piece template ps bond.first) (piece template qs bond.first) (own_places template others bond.first) (grows template ps qs others level bond.first) some in
          let other = still_stands (piece template ps bond.second) (piece template qs bond.second) (own_places template others bond.second) (grows template ps qs others level bond.second) some' in
          let end = ending_moved template ps qs others level bond.first bond.second within.first within.second.0 some in
          let end' = ending_moved template ps qs others level bond.second bond.first within.second within.first.0 some' in
          let same : (is_hydrogens (piece template ps bond.first) || is_hydrogens (piece template ps bond.second))
          ≡ (is_hydrogens (piece template qs bond.first) || is_hydrogens (piece template qs bond.second)) =
          ap (λ (c : Bool). c || is_hydrogens (piece template ps bond.second)) (sym one.1) ∙ ap (λ (c : Bool). is_hydrogens (piece template qs bond.first) || c) (sym other.1) in
          let h = is_hydrogens (piece template qs bond.first) || is_hydrogens (piece template qs bond.second) in
          let part : drawn template ps bond ≡ bond_between (ending template ps bond.first bond.second) (ending template ps bond.second bond.first) (cond h 1 bond.kind) (cond h 0 bond.topology) ∷ [] =
          drawn_outside template ps bond outside
          ∙ spanned_is (piece template ps bond.first) (piece template ps bond.second) bond (ending template ps bond.first bond.second) (ending template ps bond.second bond.first) some some'
          ∙ ap (λ (c : Bool). bond_between (ending template ps bond.first bond.second) (ending template ps bond.second bond.first) (cond c 1 bond.kind) (cond c 0 bond.topology) ∷ []) same in
          part_between (ending template ps bond.first bond.second) (ending template ps bond.second bond.first) (cond h 1 bond.kind) (cond h 0 bond.topology)
          (ending template qs bond.first bond.second) (ending template qs bond.second bond.first)
          (place_within template ps bond.first _ (ending template ps bond.first bond.second) end.place)
          (place_within template ps bond.second _ (ending template ps bond.second bond.first) end'.place) end.is end'.is
          (part_outer bond _ held (subst (λ (bs : List QueryBond).
          Contains bs (bond_between (ending template ps bond.first bond.second) (ending template ps bond.second bond.first) (cond h 1 bond.kind) (cond h 0 bond.topology)))
          (sym part) (0, omega arith, refl)))

      near : AreNeighbours template bond.first bond.second × AreNeighbours template bond.second bond.first
      near = neighbours_of bond held

      by : (s t : Bool) → is_nothing (piece template ps bond.first) ≡ s → is_nothing (piece template ps bond.second) ≡ t
          → is_nothing (piece template qs bond.first) ≡ false → is_nothing (piece template qs bond.second) ≡ false
          → Lies (bond_between (ending template qs bond.first bond.second) (ending template qs bond.second bond.first)
          (cond (is_hydrogens (piece template qs bond.first) || is_hydrogens (piece template qs bond.second)) 1 bond.kind)
          (cond (is_hydrogens (piece template qs bond.first) || is_hydrogens (piece template qs bond.second)) 0 bond.topology))
      by false false e f g h = of_both e f
      by true t e f g h =
          bridge_between (ending template qs bond.first bond.second) (ending template qs bond.second bond.first) _ _
          (open_bridge bond.first bond.second within.first within.second near.0 near.1 e g h)
      by false true e f g h =
          bridge_back (ending template qs bond.second bond.first) (ending template qs bond.first bond.second) _ _
          (open_bridge bond.second bond.first within.second within.first near.1 near.0 f h g)

  drawn_lies : (bond b : QueryBond) → Contains template.bonds bond → Contains (drawn template qs bond) b → Lies b
  drawn_lies bond b held at = by (is_inside template bond) refl
    where
      within : IsWithin template bond
      within = All-contains (IsWithin template) template.bonds bond (template_bonds template level.kept) held

      by : (t : Bool) → is_inside template bond ≡ t → Lies b
      by true inside = inside_lies bond b held within inside at
      by false outside = outside_lies bond b held within outside at

  -- ---- within slots

  module _ (a : ℕ) (is_a : IsAtomOf template a) where
    -- within a member that stands in both
    module _ (part whole : Fragment) (is : piece template ps a ≡ Member part) (is' : piece template qs a ≡ Member whole) (grow : IsShared part whole (own_places template others a))
        (within : IsHung part whole (own_places template others a) (inner_at template ps qs inners a).home (inner_at template ps qs inners a).root) where
      some : is_nothing (piece template ps a) ≡ false
      some = ap is_nothing is

      whole_at : (j : ℕ) → (1 ≤ j) × (j ≤ length whole.atoms) → IsPlaceOf template qs a j (before template qs a + j)
      whole_at j range = record { at = is_a; least = range.0; most = omega (arith, range.1, ap width is'); is = refl }

      part_at : (j : ℕ) → (1 ≤ j) × (j ≤ length part.atoms) → IsPlaceOf template ps a j (before template ps a + j)
      part_at j range = record { at = is_a; least = range.0; most = omega (arith, range.1, ap width is); is = refl }

      home_is : (j : ℕ) → (1 ≤ j) × (j ≤ length whole.atoms) → level_home (before template qs a + j) ≡ before template ps a + (inner_at template ps qs inners a).home j
      home_is j range = home_there a j (before template qs a + j) (whole_at j range) some

      root_is : (j : ℕ) → (1 ≤ j) × (j ≤ length whole.atoms) → level_root (before template qs a + j) ≡ raised (before template qs a) ((inner_at template ps qs inners a).root j)
      root_is j range = root_there a j (before template qs a + j) (whole_at j range) some

      place_is : (j : ℕ) → (1 ≤ j) × (j ≤ length part.atoms) → image (level_places template qs others) (before template ps a + j) ≡ before template qs a + image (own_places template others a) j
      place_is j range = image_at template ps qs others level a j (before template ps a + j) (part_at j range)

      bridge_up : (u v : ℕ) → (1 ≤ v) × (v ≤ length whole.atoms)
          → IsBridge (length part.atoms) (own_places template others a) (inner_at template ps qs inners a).home (inner_at template ps qs inners a).root u v
          → IsBridge (length (opened template ps).atoms) (level_places template qs others) level_home level_root (before template qs a + u) (before template qs a + v)
      bridge_up u v range bridge =
          let home = home_is v range in
          let root : level_root (before template qs a + v) ≡ before template qs a + v =
          root_is v range ∙ raised_some (before template qs a) ((inner_at template ps qs inners a).root v) bridge.beyond ∙ ap (λ (n : ℕ). before template qs a + n) bridge.own in
          let inside = place_within template ps a _ _ (part_at ((inner_at template ps qs inners a).home v) bridge.within) in
          record {
            within = (omega (arith, home, inside.0), omega (arith, home, inside.1, opened_size template ps));
            at = ap (image (level_places template qs others)) home ∙ place_is ((inner_at template ps qs inners a).home v) bridge.within ∙ ap (λ (n : ℕ). before template qs a + n) bridge.at;
            own = root;
            beyond = λ none. omega (arith, none, root, range.0);
          }

      beyond_up : (u v : ℕ) → (1 ≤ u) × (u ≤ length whole.atoms) → (1 ≤ v) × (v ≤ length whole.atoms)
          → IsBeyond (inner_at template ps qs inners a).home (inner_at template ps qs inners a).root u v → IsBeyond level_home level_root (before template qs a + u) (before template qs a + v)
      beyond_up u v range range' beyond = record {
        beyond = λ none. (let root = root_is u range ∙ raised_some (before template qs a) ((inner_at template ps qs inners a).root u) beyond.beyond in
            beyond.beyond (omega (arith, none, root)));
        one_root = root_is u range ∙ ap (raised (before template qs a)) beyond.one_root ∙ sym (root_is v range');
        one_home = home_is u range ∙ ap (λ (n : ℕ). before template ps a + n) beyond.one_home ∙ sym (home_is v range');
      }

      member_lies : (from : QueryBond) → Contains whole.bonds from → (1 ≤ from.first) × (from.first ≤ length whole.atoms) → (1 ≤ from.second) × (from.second ≤ length whole.atoms)
          → ((b : QueryBond) → Contains (map (shifted (before template ps a)) part.bonds) b → Contains (opened template ps).bonds b)
          → LiesSo part (own_places template others a) (inner_at template ps qs inners a).home (inner_at template ps qs inners a).root from → Lies (shifted (before template qs a) from)
      member_lies from at range range' put (inl found) =
          let ends = grow.ends found.0 found.1 in
          let first = place_is found.0.first ends.first ∙ ap (λ (b : QueryBond). before template qs a + b.first) found.2 in
          let second = place_is found.0.second ends.second ∙ ap (λ (b : QueryBond). before template qs a + b.second) found.2 in
          inl (
            shifted (before template ps a) found.0,
            put (shifted (before template ps a) found.0) (in_mapped (shifted (before template ps a)) part.bonds found.0 found.1),
            bond_is template ps qs others level (shifted (before template qs a) from) _ _ found.0.kind found.0.topology (sym first) (sym second)
                (sym (ap (λ (b : QueryBond). b.kind) found.2)) (sym (ap (λ (b : QueryBond). b.topology) found.2)),
          )
      member_lies from at range range' put (inr (inl beyond)) = inr (inl (beyond_up from.first from.second range range' beyond))
      member_lies from at range range' put (inr (inr (inl bridge))) = inr (inr (inl (bridge_up from.first from.second range' bridge)))
      member_lies from at range range' put (inr (inr (inr bridge))) = inr (inr (inr (bridge_up from.second from.first range bridge)))

    -- beyond a slot that is left open
    open_lies : (whole : Fragment) → piece template qs a ≡ Member whole → is_nothing (piece template ps a) ≡ true → (u v kind topology : ℕ)
        → (1 ≤ u) × (u ≤ length whole.atoms) → (1 ≤ v) × (v ≤ length whole.atoms)
        → IsBeyond level_home level_root (before template qs a + u) (before template qs a + v)
    open_lies whole is none u v kind topology range range' =
        let vacant = open_at a none (ap is_nothing is) in
        let named : IsSlotOf template (Site a vacant.groups vacant.only 0) =
        All-contains (IsSlotOf template) template.slots (Site a vacant.groups vacant.only 0) level.kept.slots vacant.held in
        let least : 1 ≤ beside template ps qs inners a = (let some = named.1.some in let same = vacant.beside_is in omega (arith, some, same)) in
        let place = end_place a (beside template ps qs inners a) is_a least (ap is_nothing is) in
        let first = place_within template qs a _ _ place in
        let one : IsPlaceOf template qs a u (before template qs a + u) = record { at = is_a; least = range.0; most = omega (arith, range.1, ap width is); is = refl } in
        let other : IsPlaceOf template qs a v (before template qs a + v) = record { at = is_a; least = range'.0; most = omega (arith, range'.1, ap width is); is = refl } in
        let root = root_open a u (before template qs a + u) one none in
        record {
          beyond = λ zero_there. omega (arith, zero_there, root, first.0);
          one_root = root ∙ sym (root_open a v (before template qs a + v) other none);
          one_home = home_open a u (before template qs a + u) one none ∙ sym (home_open a v (before template qs a + v) other none);
        }

  -- the ends of a member's bond
  member_ends : (g : List ℕ) (a f o : ℕ) (whole : Fragment) → FitsSlot (Site a g f o) (Member whole) → (bond : QueryBond) → Contains whole.bonds bond
      → ((1 ≤ bond.first) × (bond.first ≤ length whole.atoms)) × ((1 ≤ bond.second) × (bond.second ≤ length whole.atoms))
  member_ends g a f o whole fits bond held =
      let ends : IsLowerFirst (length whole.atoms) bond = All-contains (IsLowerFirst (length whole.atoms)) whole.bonds bond fits.0.ends held in
      ((ends.least, omega (arith, ends.less, ends.most)), (omega (arith, ends.least, ends.less), ends.most))

  slot_lies : (slot : Slot) (r q : Piece) (b : QueryBond) → IsAtomOf template (slot_atom slot) → FitsSlot slot q → piece template ps (slot_atom slot) ≡ r → piece template qs (slot_atom slot) ≡ q
      → GrowsBy r q (own_places template others (slot_atom slot)) → HungBy r q (own_places template others (slot_atom slot)) (inner_at template ps qs inners (slot_atom slot))
      → (is_nothing r ≡ true → is_nothing q ≡ false → neighbour_count slot ≡ 1)
      → ((c : QueryBond) → Contains (bonds_within template.bonds (before template ps (slot_atom slot)) slot r) c → Contains (opened template ps).bonds c)
      → Contains (bonds_within template.bonds (before template qs (slot_atom slot)) slot q) b → Lies b
  slot_lies (Link a m f o) (Copies n) (Copies n') b at fits is is' grow hung_by one put held =
      let bond = bond_joining template.bonds a f in
      let step = chained_is bond (before template qs a) (n' - 1) b held in
      let below : step.j ≤ n - 1 = omega (arith, step.most, grow.0) in
      let u = copy_at template ps qs others level n a step.j at grow.1 (ap width is) step.least (omega (arith, step.least, below)) in
      let v = copy_at template ps qs others level n a (step.j + 1) at grow.1 (ap width is) (omega arith) (omega (arith, step.least, below)) in
      let next : image (level_places template qs others) (before template ps a + step.j + 1) ≡ before template qs a + step.j + 1 =
      (let same : before template ps a + step.j + 1 ≡ before template ps a + (step.j + 1) = omega arith in
      let same' : before template qs a + (step.j + 1) ≡ before template qs a + step.j + 1 = omega arith in
      ap (image (level_places template qs others)) same ∙ v.1 ∙ same') in
      inl (
        record { first = before template ps a + step.j; second = before template ps a + step.j + 1; kind = bond.kind; topology = bond.topology },
        put _ (step_held template ps qs others level bond (before template ps a) (n - 1) step.j step.least below),
        bond_is template ps qs others level b _ _ bond.kind bond.topology (step.first ∙ sym u.1) (step.second ∙ sym next) step.kind step.topology,
      )
  slot_lies (Link a m f o) (Member part) (Copies n') b at fits is is' grow hung_by one put held = absurd grow
  slot_lies (Link a m f o) (Hydrogens n) (Copies n') b at fits is is' grow hung_by one put held = absurd grow
  slot_lies (Link a m f o) Nothing (Copies n') b at fits is is' grow hung_by one put held = absurd (let two = one refl refl in omega (arith, two))
  slot_lies (Link a m f o) r (Member whole) b at fits is is' grow hung_by one put held = absurd fits
  slot_lies (Link a m f o) r (Hydrogens n') b at fits is is' grow hung_by one put held = absurd fits
  slot_lies (Link a m f o) r Nothing b at fits is is' grow hung_by one put held = absurd fits
  slot_lies (Site a g f o) r (Copies n') b at fits is is' grow hung_by one put held = absurd fits
  slot_lies (Site a g f o) r (Hydrogens n') b at fits is is' grow hung_by one put held = absurd (omega (arith, held.1))
  slot_lies (Site a g f o) r Nothing b at fits is is' grow hung_by one put held = absurd (omega (arith, held.1))
  slot_lies (Site a g f o) (Copies n) (Member whole) b at fits is is' grow hung_by one put held = absurd grow
  slot_lies (Site a g f o) (Hydrogens n) (Member whole) b at fits is is' grow hung_by one put held = absurd grow
  slot_lies (Site a g f o) (Member part) (Member whole) b at fits is is' grow hung_by one put held =
      let found = shifted_of (before template qs a) whole.bonds b held in
      let ends = member_ends g a f o whole fits found.from found.at in
      subst Lies found.is (member_lies a at part whole is is' grow hung_by found.from found.at ends.0 ends.1 put (hung_by.bonds found.from found.at))
  slot_lies (Site a g f o) Nothing (Member whole) b at fits is is' grow hung_by one put held =
      let found = shifted_of (before template qs a) whole.bonds b held in
      let ends = member_ends g a f o whole fits found.from found.at in
      subst Lies found.is (inr (inl (open_lies a at whole is' (ap is_nothing is) found.from.first found.from.second found.from.kind found.from.topology ends.0 ends.1)))

  -- ---- all bonds

  level_bonds : (b : QueryBond) → Contains (joined template qs).bonds b → Lies b
  unfolding joined
  level_bonds b held = elim (Contains-append_cases (flat_map (drawn template qs) template.bonds) (all_within template qs template.slots qs) b held) [
    | inl outer ↦ (let found = one_of (drawn template qs) template.bonds b outer in drawn_lies found.0 b found.1 found.2)
    | inr inner ↦
        (let found = all_within_one template qs template.slots qs b inner in
        let k = found.0 in
        let slot = get_or template.slots found.0 (Link 0 0 0 0) in
        let stands_at : StandsAt template slot = slots_stand template level.kept found.0 (Link 0 0 0 0) found.1 in
        let number = taker_of_slot template level.kept found.0 (Link 0 0 0 0) found.1 in
        let part_is : piece template ps (slot_atom slot) ≡ get_or ps found.0 (Copies 1) = ap (piece_numbered ps) number in
        let whole_is : piece template qs (slot_atom slot) ≡ get_or qs found.0 (Copies 1) = ap (piece_numbered qs) number in
        let places_are : get_or others found.0 (numbers_to 1) ≡ own_places template others (slot_atom slot) = sym (ap (places_numbered others) number) in
        let inner_is : get_or inners found.0 own_inner ≡ inner_at template ps qs inners (slot_atom slot) = sym (ap (inner_numbered inners) number) in
        let grow : GrowsBy (get_or ps found.0 (Copies 1)) (get_or qs found.0 (Copies 1)) (own_places template others (slot_atom slot)) =
        subst (λ (q : Piece). GrowsBy (get_or ps found.0 (Copies 1)) q (own_places template others (slot_atom slot))) whole_is
        (subst (λ (r : Piece). GrowsBy r (piece template qs (slot_atom slot)) (own_places template others (slot_atom slot))) part_is (grows template ps qs others level (slot_atom slot))) in
        let there = hung found.0 found.1 in
        let hung_there : HungBy (get_or ps found.0 (Copies 1)) (get_or qs found.0 (Copies 1)) (own_places template others (slot_atom slot)) (inner_at template ps qs inners (slot_atom slot)) =
        subst (λ (i : Inner). HungBy (get_or ps found.0 (Copies 1)) (get_or qs found.0 (Copies 1)) (own_places template others (slot_atom slot)) i) inner_is
        (subst (λ (ns : List ℕ). HungBy (get_or ps found.0 (Copies 1)) (get_or qs found.0 (Copies 1)) ns (get_or inners found.0 own_inner)) places_are there.by) in
        slot_lies slot (get_or ps found.0 (Copies 1)) (get_or qs found.0 (Copies 1)) b stands_at
        (fit_at template.slots qs found.0 (Link 0 0 0 0) (Copies 1) found.1 level.fit) part_is whole_is grow hung_there there.one (λ c at. part_inner found.0 c found.1 at) found.2)
  ]

  -- all else of what the template becomes in the whole hangs on what it becomes in the part
  pub level_hung : IsHung (opened template ps) (joined template qs) (level_places template qs others) level_home level_root
  level_hung = record { own = level_own; bonds = level_bonds }
