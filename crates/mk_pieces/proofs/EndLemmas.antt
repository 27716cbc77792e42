-- Where bonds end, by the names of atoms.
--     known_stand       what stands for an atom is one copy of it, or fits the slot that takes it
--     point_named       an attachment point is at a fixed atom
--     end_named         a bond ends at a named atom on each side, where something stands there
--     one_end           and at one alone
--     beside_site       a neighbour of a site stands as copies
use Rattle.std.proofs.Common.{◌≡◌, ◌∙◌, ◌⊎◌, ℕ, zero, suc, ◌+◌, ◌<◌, ◌≤◌, inl, inr, Bool, true, false, cond, ◌||◌, eqb, List, [], length, get_or, map, refl, sym, ap, subst, arith}
use Rattle.std.specs.Prelude.{Contains}
use Rattle.std.proofs.lemmas.Bool.{cases_lt}
use Rattle.std.proofs.lemmas.Bool.Decides.{nat_tests}
use Rattle.std.proofs.lemmas.List.{get_or-map, get_or_past, length-map}
use Rattle.std.proofs.lemmas.List.Elements.{Contains-get_or}
use Rattle.mk_model.specs.declared.template.Slot.{Slot}
use Rattle.mk_model.specs.declared.template.Slot.TheVariants.{Link, Site}
use Rattle.mk_model.specs.Codes.{Choice, IsChoice}
use Rattle.mk_model.specs.Expansions.{expansion, is_nothing, joined, pieces_of, template_of}
use Rattle.mk_model.specs.Pieces.{Piece, before, end_of, ending, is_far_of, piece, piece_numbered, taker, width}
use Rattle.mk_model.specs.Pieces.Piece.{Copies}
use Rattle.mk_model.specs.Queries.{QueryView, slots_of}
use Rattle.mk_model.specs.QueryFits.{AreNeighbours, HasSitesApart, IsAtomOf, QueryFits}
use Rattle.mk_model.specs.Sizes.{takes_atom}
use Rattle.mk_model.specs.Templates.{TemplateView}
use Rattle.mk_pieces.specs.Names.{IsCopyThere, IsEnd, IsEndAt, IsNameThere, Name, Stand, faces_far, is_vacant, stand, stands_of}
use Rattle.mk_pieces.specs.Names.Name.{CopyOf, HydrogenAt, InMember}
use Rattle.mk_pieces.specs.Names.Stand.{ByHydrogens, ByMember, Times, Vacant}
use Rattle.mk_pieces.proofs.ChoiceFits.{kept_template, template_fit}
use Rattle.mk_pieces.proofs.DrawnLemmas.{piece_ends}
use Rattle.mk_pieces.proofs.NameLemmas.{Placed, becomes, piece_is, place_in, place_of}
use Rattle.mk_pieces.proofs.PieceLemmas.{FitsSlot, all_stand, fit_at}
use Rattle.mk_pieces.proofs.KeptLemmas.{template_is}
use Rattle.mk_pieces.proofs.StandLemmas.{far_is, stand_is, stand_numbered}
use Rattle.mk_pieces.proofs.TakerLemmas.{no_slot_at, taker_is_slot}

-- ---- attachment points

pub stand_at : (query : QueryView) (t : ℕ) (choice : Choice) (x n : ℕ) → taker (template_of query t) x ≡ n → stand query t choice x ≡ stand_numbered (stands_of query (slots_of query t) choice) n
stand_at query t choice x n is = stand_is query t choice x ∙ ap (stand_numbered (stands_of query (slots_of query t) choice)) is

-- an attachment point is at a fixed atom, which stands once
pub point_named : (query : QueryView) → QueryFits query → (t : ℕ) (choice : Choice) → t < length query.templates → (p : ℕ) → Contains (template_of query t).points p
    → IsNameThere query t choice (CopyOf p 1)
point_named query fits t choice in_query p at =
    let kept = kept_template query fits t in_query in
    let k = at.0 in
    let place : IsAtomOf (template_of query t) p = subst (IsAtomOf (template_of query t)) at.2 (kept.points k p at.1) in
    (place, by (taker (template_of query t) p) refl)
  where
    by : (n : ℕ) → taker (template_of query t) p ≡ n → IsCopyThere (stand query t choice p) 1
    by zero is = rw (stand_at query t choice p 0 is) (omega arith, omega arith)
    by (suc k) is =
        let kept = kept_template query fits t in_query in
        let found = taker_is_slot (template_of query t) p k is in
        absurd (no_slot_at (template_of query t) kept p at (get_or (template_of query t).slots k (Link 0 0 0 0)) (Contains-get_or (template_of query t).slots k (Link 0 0 0 0) found.within)
        (kept.blocks_closed k (Link 0 0 0 0) found.within) (found.takes (Link 0 0 0 0)))

-- the points of what a template becomes
points_of : (query : QueryView) (u : ℕ) (within : Choice)
    → (expansion query u within).points ≡ map (λ x. before (template_of query u) (pieces_of query (slots_of query u) within) x + 1) (template_of query u).points
unfolding expansion joined
points_of query u within = refl

-- a point of a member is the place of the atom that bears it
point_place : (query : QueryView) (u : ℕ) (within : Choice) (i : ℕ) → 1 ≤ get_or (expansion query u within).points i 0
    → (i < length (template_of query u).points) × (get_or (expansion query u within).points i 0 ≡ place_of query u within (CopyOf (get_or (template_of query u).points i 0) 1))
point_place query u within i some =
    let are = points_of query u within in
    let f : ℕ → ℕ = λ x. before (template_of query u) (pieces_of query (slots_of query u) within) x + 1 in
    elim (cases_lt i (length (template_of query u).points)) [
      | inl inside ↦ (inside, ap (λ (ps : List ℕ). get_or ps i 0) are ∙ get_or-map f (template_of query u).points i 0 0 inside)
      | inr past ↦ absurd (let none : get_or (expansion query u within).points i 0 ≡ 0 =
          get_or_past (expansion query u within).points i 0 (omega (arith, ap length are, length-map (template_of query u).points f, past)) in omega (arith, none, some))
    ]

-- ---- one template

-- what stands for atom x is one copy of it, or fits the slot that takes it
abbrev pub IsKnownStand : QueryView → ℕ → Choice → ℕ → Type 0
IsKnownStand query t choice x =
    (stand query t choice x ≡ Times 1)
    ⊎ ((k : ℕ) × (k < length (template_of query t).slots) × (taker (template_of query t) x ≡ suc k)
    × FitsSlot (get_or (template_of query t).slots k (Link 0 0 0 0)) (becomes query (stand query t choice x)))

module _ (query : QueryView) (fits : QueryFits query) (t : ℕ) (in_query : t < length query.templates) (choice : Choice) (made : IsChoice query (slots_of query t) choice) where
  abbrev template : TemplateView
  template = template_of query t

  abbrev pieces : List Piece
  pieces = pieces_of query (slots_of query t) choice

  pub known_stand : (x : ℕ) → IsKnownStand query t choice x
  known_stand x = by (taker template x) refl
    where
      by : (n : ℕ) → taker template x ≡ n → IsKnownStand query t choice x
      by zero is = inl (stand_at query t choice x 0 is)
      by (suc k) is =
          let found = taker_is_slot template x k is in
          let here : get_or pieces k (Copies 1) ≡ becomes query (stand query t choice x) = ap (piece_numbered pieces) (sym is) ∙ piece_is query t choice made x in
          inr (
            k,
            found.within,
            is,
            subst (FitsSlot (get_or template.slots k (Link 0 0 0 0))) here
                (fit_at template.slots pieces k (Link 0 0 0 0) (Copies 1) found.within (template_fit query fits t in_query choice made)),
          )

  -- ---- ends

  -- A bond ends at this named atom on the side of x.
  pub record EndsAt (x y : ℕ) : Type 0 where
    pub name : Name
    pub is : IsNameThere query t choice name
    pub at : IsEndAt query t choice x y name
    pub place : ending template pieces x y ≡ place_of query t choice name

  module _ (inner : (x u : ℕ) (within : Choice) → stand query t choice x ≡ ByMember u within → Placed query u within) where
    pub end_named : (x y : ℕ) → IsAtomOf template x → 1 ≤ y → is_vacant (stand query t choice x) ≡ false → EndsAt x y
    unfolding ending
    end_named x y at least some = by (stand query t choice x) refl some
      where
        far : Bool
        far = faces_far query t x y

        ends : (s : Stand) → stand query t choice x ≡ s → is_nothing (becomes query s) ≡ false
            → (1 ≤ end_of (becomes query s) far) × (end_of (becomes query s) far ≤ width (becomes query s)) × (ending template pieces x y ≡ before template pieces x + end_of (becomes query s) far)
        ends s is there =
            let here : piece template pieces x ≡ becomes query s = piece_is query t choice made x ∙ ap (becomes query) is in
            let side : is_far_of template.slots (taker template x) x y ≡ far = sym (far_is template (kept_template query fits t in_query) x y) in
            let found = piece_ends template pieces (all_stand template.slots pieces (template_fit query fits t in_query choice made)) x y least (ap is_nothing here ∙ there) in (
              subst (λ (p : Piece). 1 ≤ end_of p far) here (subst (λ (b : Bool). 1 ≤ end_of (piece template pieces x) b) side found.0),
              subst (λ (p : Piece). end_of p far ≤ width p) here (subst (λ (b : Bool). end_of (piece template pieces x) b ≤ width (piece template pieces x)) side found.1),
              ap (λ (b : Bool). before template pieces x + end_of (piece template pieces x) b) side ∙ ap (λ (p : Piece). before template pieces x + end_of p far) here,
            )

        by : (s : Stand) → stand query t choice x ≡ s → is_vacant s ≡ false → EndsAt x y
        by (Times n) is there =
            let found = ends (Times n) is refl in
            record { name = CopyOf x (cond far n 1); is = (at, rw is (found.0, found.1)); at = rw is refl; place = found.2 }
        by (ByMember u within) is there =
            let found = ends (ByMember u within) is refl in
            let placed = inner x u within is in
            let point = point_place query u within (cond far 1 0) found.0 in
            let p : ℕ = get_or (template_of query u).points (cond far 1 0) 0 in
            let named = point_named query fits u within placed.in_query (get_or (template_of query u).points (cond far 1 0) 0)
            (Contains-get_or (template_of query u).points (cond far 1 0) 0 point.0) in
            record {
              name = InMember x (CopyOf (get_or (template_of query u).points (cond far 1 0) 0) 1);
              is = (at, u, within, is, named);
              at = rw is refl;
              place = found.2 ∙ ap (λ (q : ℕ). before template pieces x + q) point.1 ∙ sym (place_in query t choice x u within (CopyOf (get_or (template_of query u).points (cond far 1 0) 0) 1) is);
            }
        by (ByHydrogens n) is there =
            let found = ends (ByHydrogens n) is refl in
            record { name = HydrogenAt x (cond far 2 1); is = (at, rw is (found.0, found.1)); at = rw is refl; place = found.2 }
        by Vacant is there = absurd cc

-- a bond ends at one named atom alone on a side, and something stands there
pub one_end : (query : QueryView) (x : ℕ) (s : Stand) (far : Bool) (name other : Name) → IsEnd query x s far name → IsEnd query x s far other → name ≡ other
one_end query x (Times n) far name other is is' = is ∙ sym is'
one_end query x (ByMember u within) far name other is is' = is ∙ sym is'
one_end query x (ByHydrogens n) far name other is is' = is ∙ sym is'
one_end query x Vacant far name other is is' = absurd is

pub some_end : (query : QueryView) (x : ℕ) (s : Stand) (far : Bool) (name : Name) → IsEnd query x s far name → is_vacant s ≡ false
some_end query x (Times n) far name is = refl
some_end query x (ByMember u within) far name is = refl
some_end query x (ByHydrogens n) far name is = refl
some_end query x Vacant far name is = absurd is

-- ---- the neighbours of sites

pub sites_apart : (query : QueryView) → QueryFits query → (t : ℕ) → t < length query.templates → HasSitesApart (template_of query t)
sites_apart query fits t in_query =
    let d : TemplateView = record { atoms = []; bonds = []; slots = []; points = [] } in
    subst HasSitesApart (sym (template_is query t d in_query)) (fits.sites_apart t d in_query)

-- a neighbour of a site stands as copies of itself
pub beside_site : (query : QueryView) (fits : QueryFits query) (t : ℕ) (in_query : t < length query.templates) (choice : Choice) (made : IsChoice query (slots_of query t) choice)
    → (atom : ℕ) (groups : List ℕ) (first second y : ℕ) → Contains (template_of query t).slots (Site atom groups first second)
    → AreNeighbours (template_of query t) atom y → (n : ℕ) × (stand query t choice y ≡ Times n)
beside_site query fits t in_query choice made atom groups first second y held neighbours = by (known_stand query fits t in_query choice made y)
  where
    copies : (s : Stand) (a m f o : ℕ) → FitsSlot (Link a m f o) (becomes query s) → (n : ℕ) × (s ≡ Times n)
    copies (Times n) a m f o is = (n, refl)
    copies (ByMember u within) a m f o is = absurd is
    copies (ByHydrogens n) a m f o is = absurd is
    copies Vacant a m f o is = absurd is

    by_slot : (slot : Slot) → Contains (template_of query t).slots slot → takes_atom (template_of query t) y slot ≡ true → FitsSlot slot (becomes query (stand query t choice y))
        → (n : ℕ) × (stand query t choice y ≡ Times n)
    by_slot (Link a m f o) at takes is = copies (stand query t choice y) a m f o is
    by_slot (Site a g f o) at takes is = by_test (eqb a y) refl takes
      where
        by_test : (b : Bool) → eqb a y ≡ b → (b || false) ≡ true → (n : ℕ) × (stand query t choice y ≡ Times n)
        by_test true e is' =
            let same : a ≡ y = grind (arith, nat_tests) in
            absurd (sites_apart query fits t in_query (Site atom groups first second) (Site a g f o) held at (subst (AreNeighbours (template_of query t) atom) (sym same) neighbours))
        by_test false e is' = absurd cc

    by : IsKnownStand query t choice y → (n : ℕ) × (stand query t choice y ≡ Times n)
    by (inl once) = (1, once)
    by (inr (k, below, taken, fit)) =
        by_slot (get_or (template_of query t).slots k (Link 0 0 0 0)) (Contains-get_or (template_of query t).slots k (Link 0 0 0 0) below)
        ((taker_is_slot (template_of query t) y k taken).takes (Link 0 0 0 0)) fit
