-- Each bond of an expansion is one that the names say.
--     there_of, hydrogen_of, either_way     what stands at an end, and whether it is a hydrogen
--     from_bonds        where a bond is between the places of two names, these are joined
use Rattle.std.proofs.Common.{◌≡◌, ◌∙◌, ℕ, ◌+◌, ◌-◌, ◌<◌, ◌≤◌, inl, inr, Bool, true, false, cond, ◌&&◌, ◌||◌, not, eqb, List, length, get_or, map, refl, sym, ap, subst, arith}
use Rattle.std.specs.Prelude.{Contains}
use Rattle.std.specs.List.{flat_map}
use Rattle.std.proofs.lemmas.Bool.Decides.{nat_tests}
use Rattle.std.proofs.lemmas.List.Elements.{All-contains, Contains-append_cases, Contains-get_or}
use Rattle.mk_model.specs.declared.template.QueryBond.{QueryBond}
use Rattle.mk_model.specs.declared.template.Slot.{Slot}
use Rattle.mk_model.specs.declared.template.Slot.TheVariants.{Link, Site}
use Rattle.mk_model.specs.Codes.{Choice, IsChoice}
use Rattle.mk_model.specs.Expansions.{all_within, bond_joining, bonds_within, chained, copied, drawn, expansion, is_hydrogens, is_inside, is_nothing, joined, pieces_of, shifted, spanned, template_of}
use Rattle.mk_model.specs.Pieces.{Piece, before, ending, piece, taker, width}
use Rattle.mk_model.specs.Pieces.Piece.{Copies}
use Rattle.mk_model.specs.Queries.{QueryView, slots_of}
use Rattle.mk_model.specs.QueryFits.{IsAtomOf, QueryFits}
use Rattle.mk_model.specs.Sizes.{takes_atom}
use Rattle.mk_model.specs.Templates.{TemplateView, slot_atom}
use Rattle.mk_pieces.specs.Fragments.{IsLowerFirst}
use Rattle.mk_pieces.specs.Kept.{IsSlotOf, IsTemplate}
use Rattle.mk_pieces.specs.Rooms.{IsWithin, StandsAt}
use Rattle.mk_pieces.specs.Names.{AreJoinedHere, AreJoinedNames, IsAsDrawn, IsEnd, IsEndAt, IsNameThere, Name, Stand, faces_far, is_vacant, names_hydrogen, stand}
use Rattle.mk_pieces.specs.Names.AreJoinedHere.{AlongBlock, AlongChain, EndToEnd}
use Rattle.mk_pieces.specs.Names.Name.{CopyOf, HydrogenAt, InMember}
use Rattle.mk_pieces.specs.Names.Stand.{ByHydrogens, ByMember, Times, Vacant}
use Rattle.mk_pieces.proofs.DrawnLemmas.{copied_is, drawn_inside, drawn_outside}
use Rattle.mk_pieces.proofs.ChoiceFits.{expansion_fragment, kept_template}
use Rattle.mk_pieces.proofs.EndLemmas.{EndsAt, IsKnownStand, end_named, known_stand, stand_at}
use Rattle.mk_pieces.proofs.JoinedLemmas.{slot_piece}
use Rattle.mk_pieces.proofs.JoiningLemmas.{between_is, is_spanned, joining_found, joins_back, joins_own}
use Rattle.mk_pieces.proofs.NameLemmas.{Placed, becomes, name_one, piece_is, place_in, place_of, wide}
use Rattle.mk_pieces.proofs.PairLemmas.{one_of}
use Rattle.mk_pieces.proofs.PieceLemmas.{FitsSlot}
use Rattle.mk_pieces.proofs.StandLemmas.{in_block_is, own_only}
use Rattle.mk_pieces.proofs.TakerLemmas.{taker_is_slot}
use Rattle.mk_pieces.proofs.TemplateLemmas.{bonds_within as template_bonds_within, slots_stand}
use Rattle.mk_pieces.proofs.WithinLemmas.{all_within_one, chained_is, image_of, within_at}

-- ---- pieces and ends

pub there_of : (query : QueryView) (s : Stand) → is_nothing (becomes query s) ≡ is_vacant s
there_of query (Times n) = refl
there_of query (ByMember u within) = refl
there_of query (ByHydrogens n) = refl
there_of query Vacant = refl

-- an end is a hydrogen where hydrogens stand
pub hydrogen_of : (query : QueryView) (x : ℕ) (s : Stand) (far : Bool) (name : Name) → IsEnd query x s far name → is_hydrogens (becomes query s) ≡ names_hydrogen name
hydrogen_of query x (Times n) far name is = rw is refl
hydrogen_of query x (ByMember u within) far name is = rw is refl
hydrogen_of query x (ByHydrogens n) far name is = rw is refl
hydrogen_of query x Vacant far name is = absurd is

pub either_way : (a b : Bool) → (a || b) ≡ (b || a)
either_way true true = refl
either_way true false = refl
either_way false true = refl
either_way false false = refl

-- ---- one template

module _ (query : QueryView) (fits : QueryFits query) (t : ℕ) (in_query : t < length query.templates) (choice : Choice) (made : IsChoice query (slots_of query t) choice)
    (inner : (x u : ℕ) (within : Choice) → stand query t choice x ≡ ByMember u within → Placed query u within) where
  abbrev template : TemplateView
  template = template_of query t

  abbrev pieces : List Piece
  pieces = pieces_of query (slots_of query t) choice

  abbrev place : Name → ℕ
  place = place_of query t choice

  -- the bond between the places of two names
  abbrev bond_at : Name → Name → ℕ → ℕ → QueryBond
  bond_at name other kind topology = record { first = place_of query t choice name; second = place_of query t choice other; kind = kind; topology = topology }

  kept : IsTemplate template
  kept = kept_template query fits t in_query

  bond_within : (bond : QueryBond) → Contains template.bonds bond → IsWithin template bond
  bond_within bond held = All-contains (IsWithin template) template.bonds bond (template_bonds_within template kept) held

  one_name : (name other : Name) → IsNameThere query t choice name → IsNameThere query t choice other → place name ≡ place other → name ≡ other
  one_name = name_one query t choice made inner

  -- a name for each end, as it is drawn
  drawn_as : (bond : QueryBond) (name other end end' : Name) (kind topology : ℕ) → name ≡ end → other ≡ end' → kind ≡ cond (names_hydrogen end || names_hydrogen end') 1 bond.kind
      → topology ≡ cond (names_hydrogen end || names_hydrogen end') 0 bond.topology → IsAsDrawn bond name other kind topology
  drawn_as bond name other end end' kind topology e e' k o = rw (e, e') (record { kind_is = k; topology_is = o })

  -- ---- blocks

  -- both ends of a bond inside a block stand as so many copies
  record IsBlockBond (bond : QueryBond) : Type 0 where
    count : ℕ
    first : stand query t choice bond.first ≡ Times count
    second : stand query t choice bond.second ≡ Times count

  block_bond : (bond : QueryBond) → Contains template.bonds bond → is_inside template bond ≡ true → IsBlockBond bond
  block_bond bond held inside = by (known_stand query fits t in_query choice made bond.first)
    where
      takers : taker template bond.first ≡ taker template bond.second
      takers = same (taker template bond.first) (taker template bond.second) inside
        where
          same : (s u : ℕ) → (not (eqb s 0) && eqb s u) ≡ true → s ≡ u
          same s u is = by_tests (eqb s 0) (eqb s u) refl is
            where
              by_tests : (a c : Bool) → eqb s u ≡ c → (not a && c) ≡ true → s ≡ u
              by_tests a true e is' = grind (arith, nat_tests)
              by_tests true false e is' = absurd cc
              by_tests false false e is' = absurd cc

      same_stand : stand query t choice bond.second ≡ stand query t choice bond.first
      same_stand = stand_at query t choice bond.second (taker template bond.first) (sym takers) ∙ sym (stand_at query t choice bond.first (taker template bond.first) refl)

      with_count : (n : ℕ) → stand query t choice bond.first ≡ Times n → IsBlockBond bond
      with_count n is = record { count = n; first = is; second = same_stand ∙ is }

      copies : (s : Stand) (a m f o : ℕ) → FitsSlot (Link a m f o) (becomes query s) → (n : ℕ) × (s ≡ Times n)
      copies (Times n) a m f o is = (n, refl)
      copies (ByMember u within) a m f o is = absurd is
      copies (ByHydrogens n) a m f o is = absurd is
      copies Vacant a m f o is = absurd is

      by_slot : (slot : Slot) → takes_atom template bond.first slot ≡ true → takes_atom template bond.second slot ≡ true → FitsSlot slot (becomes query (stand query t choice bond.first))
          → IsBlockBond bond
      by_slot (Link a m f o) one other is = (let found = copies (stand query t choice bond.first) a m f o is in with_count found.0 found.1)
      by_slot (Site a g f o) one other is = absurd ((bond_within bond held).differ (sym (own_only a bond.first one) ∙ own_only a bond.second other))

      by : IsKnownStand query t choice bond.first → IsBlockBond bond
      by (inl once) = with_count 1 once
      by (inr (k, below, taken, fit)) =
          by_slot (get_or template.slots k (Link 0 0 0 0)) ((taker_is_slot template bond.first k taken).takes (Link 0 0 0 0))
          ((taker_is_slot template bond.second k (sym takers ∙ taken)).takes (Link 0 0 0 0)) fit

  copy_named : (x j n : ℕ) → IsAtomOf template x → stand query t choice x ≡ Times n → 1 ≤ j → j ≤ n → IsNameThere query t choice (CopyOf x j)
  copy_named x j n at is least most = (at, rw is (least, most))

  -- ---- each bond between two places is one that the names say

  module _ (name other : Name) (kind topology : ℕ) (is : IsNameThere query t choice name) (is' : IsNameThere query t choice other)
      (less : place_of query t choice name < place_of query t choice other) where
    -- what is drawn in the template joins the two
    joined_here : (n o : Name) → AreJoinedHere query t choice n o kind topology → AreJoinedNames query t choice n o kind topology
    joined_here (CopyOf x j) o bonded = bonded
    joined_here (InMember x n) (CopyOf y k) bonded = bonded
    joined_here (InMember x n) (InMember y o) bonded = inl bonded
    joined_here (InMember x n) (HydrogenAt y k) bonded = bonded
    joined_here (HydrogenAt x j) o bonded = bonded

    from_block : (bond : QueryBond) → Contains template.bonds bond → is_inside template bond ≡ true
        → Contains (copied bond (before template pieces bond.first) (before template pieces bond.second) (width (piece template pieces bond.first))) (bond_at name other kind topology)
        → AreJoinedHere query t choice name other kind topology
    from_block bond held inside at =
        let block = block_bond bond held inside in
        let found = copied_is bond (before template pieces bond.first) (before template pieces bond.second) (width (piece template pieces bond.first)) (bond_at name other kind topology) at in
        let within = bond_within bond held in
        let in_block = in_block_is template kept bond within ∙ inside in
        let most : found.j ≤ block.count = omega (arith, found.most, wide query t choice made inner bond.first (Times block.count) block.first) in
        let one = copy_named bond.first found.j block.count within.first block.first found.least most in
        let two = copy_named bond.second found.j block.count within.second block.second found.least most in
        let ends = between_is (before template pieces bond.first + found.j) (before template pieces bond.second + found.j) bond.kind bond.topology (bond_at name other kind topology) found.is in
        elim ends.0 [
          | inl p ↦
              (let e = one_name name (CopyOf bond.first found.j) is one p.0 in
              let e' = one_name other (CopyOf bond.second found.j) is' two p.1 in
              AlongBlock bond bond.first bond.second found.j held (joins_own bond) in_block e e'
              (drawn_as bond name other (CopyOf bond.first found.j) (CopyOf bond.second found.j) kind topology e e' ends.1 ends.2))
          | inr p ↦
              (let e = one_name name (CopyOf bond.second found.j) is two p.0 in
              let e' = one_name other (CopyOf bond.first found.j) is' one p.1 in
              AlongBlock bond bond.second bond.first found.j held (joins_back bond) in_block e e'
              (drawn_as bond name other (CopyOf bond.second found.j) (CopyOf bond.first found.j) kind topology e e' ends.1 ends.2))
        ]

    from_ends : (bond : QueryBond) → Contains template.bonds bond → is_inside template bond ≡ false
        → Contains (spanned (piece template pieces bond.first) (piece template pieces bond.second) bond (ending template pieces bond.first bond.second)
        (ending template pieces bond.second bond.first)) (bond_at name other kind topology)
        → AreJoinedHere query t choice name other kind topology
    from_ends bond held outside at =
        let within = bond_within bond held in
        let apart = in_block_is template kept bond within ∙ outside in
        let found = is_spanned (piece template pieces bond.first) (piece template pieces bond.second) bond (ending template pieces bond.first bond.second)
        (ending template pieces bond.second bond.first) (bond_at name other kind topology) at in
        let one_there : is_vacant (stand query t choice bond.first) ≡ false =
        sym (there_of query (stand query t choice bond.first)) ∙ ap is_nothing (sym (piece_is query t choice made bond.first)) ∙ found.one_there in
        let other_there : is_vacant (stand query t choice bond.second) ≡ false =
        sym (there_of query (stand query t choice bond.second)) ∙ ap is_nothing (sym (piece_is query t choice made bond.second)) ∙ found.other_there in
        let one : EndsAt query fits t in_query choice made bond.first bond.second = end_named query fits t in_query choice made inner bond.first bond.second within.first within.second.0 one_there in
        let two : EndsAt query fits t in_query choice made bond.second bond.first = end_named query fits t in_query choice made inner bond.second bond.first within.second within.first.0 other_there in
        let first_hydrogen : is_hydrogens (piece template pieces bond.first) ≡ names_hydrogen one.name =
        ap is_hydrogens (piece_is query t choice made bond.first) ∙ hydrogen_of query bond.first (stand query t choice bond.first) (faces_far query t bond.first bond.second) one.name one.at in
        let second_hydrogen : is_hydrogens (piece template pieces bond.second) ≡ names_hydrogen two.name =
        ap is_hydrogens (piece_is query t choice made bond.second) ∙ hydrogen_of query bond.second (stand query t choice bond.second) (faces_far query t bond.second bond.first) two.name two.at in
        let tests : (is_hydrogens (piece template pieces bond.first) || is_hydrogens (piece template pieces bond.second)) ≡ (names_hydrogen one.name || names_hydrogen two.name) =
        rw (first_hydrogen, second_hydrogen) refl in
        let back : (names_hydrogen one.name || names_hydrogen two.name) ≡ (names_hydrogen two.name || names_hydrogen one.name) = either_way (names_hydrogen one.name) (names_hydrogen two.name) in
        let ends = between_is (ending template pieces bond.first bond.second) (ending template pieces bond.second bond.first) _ _ (bond_at name other kind topology) found.is in
        elim ends.0 [
          | inl p ↦
              (let e = one_name name one.name is one.is (p.0 ∙ one.place) in
              let e' = one_name other two.name is' two.is (p.1 ∙ two.place) in
              EndToEnd bond bond.first bond.second held (joins_own bond) apart
              (subst (IsEndAt query t choice bond.first bond.second) (sym e) one.at) (subst (IsEndAt query t choice bond.second bond.first) (sym e') two.at)
              (drawn_as bond name other one.name two.name kind topology e e' (ends.1 ∙ ap (λ (b : Bool). cond b 1 bond.kind) tests) (ends.2 ∙ ap (λ (b : Bool). cond b 0 bond.topology) tests)))
          | inr p ↦
              (let e = one_name name two.name is two.is (p.0 ∙ two.place) in
              let e' = one_name other one.name is' one.is (p.1 ∙ one.place) in
              EndToEnd bond bond.second bond.first held (joins_back bond) apart
              (subst (IsEndAt query t choice bond.second bond.first) (sym e) two.at) (subst (IsEndAt query t choice bond.first bond.second) (sym e') one.at)
              (drawn_as bond name other two.name one.name kind topology e e' (ends.1 ∙ ap (λ (b : Bool). cond b 1 bond.kind) (tests ∙ back))
              (ends.2 ∙ ap (λ (b : Bool). cond b 0 bond.topology) (tests ∙ back))))
        ]

    from_chain : (atom most from to n : ℕ) → Contains template.slots (Link atom most from to) → stand query t choice atom ≡ Times n
        → Contains (chained (bond_joining template.bonds atom from) (before template pieces atom) (n - 1)) (bond_at name other kind topology) → AreJoinedHere query t choice name other kind topology
    from_chain atom most from to n held stands at =
        let bond = bond_joining template.bonds atom from in
        let found = chained_is (bond_joining template.bonds atom from) (before template pieces atom) (n - 1) (bond_at name other kind topology) at in
        let slot : IsSlotOf template (Link atom most from to) = All-contains (IsSlotOf template) template.slots (Link atom most from to) kept.slots held in
        let like = joining_found template.bonds atom from slot.1.alike.one slot.1.alike.one_at slot.1.alike.one_joins in
        let one = copy_named atom found.j n slot.0 stands found.least (omega (arith, found.least, found.most)) in
        let two = copy_named atom (found.j + 1) n slot.0 stands (omega arith) (omega (arith, found.least, found.most)) in
        let next : place other ≡ before template pieces atom + (found.j + 1) = omega (arith, found.second) in
        let e = one_name name (CopyOf atom found.j) is one found.first in
        let e' = one_name other (CopyOf atom (found.j + 1)) is' two next in
        AlongChain (bond_joining template.bonds atom from) atom most from to found.j held like.0 like.1 e e'
        (drawn_as (bond_joining template.bonds atom from) name other (CopyOf atom found.j) (CopyOf atom (found.j + 1)) kind topology e e' found.kind found.topology)

    from_member : (atom u : ℕ) (within : Choice) → IsAtomOf template atom → stand query t choice atom ≡ ByMember u within
        → Contains (map (shifted (before template pieces atom)) (expansion query u within).bonds) (bond_at name other kind topology) → AreJoinedNames query t choice name other kind topology
    from_member atom u within here stands at =
        let placed = inner atom u within stands in
        let found = image_of (before template pieces atom) (expansion query u within).bonds (bond_at name other kind topology) at in
        let c = found.from in
        let fragment = expansion_fragment query fits u placed.in_query within placed.made in
        let ends : IsLowerFirst (length (expansion query u within).atoms) found.from =
        All-contains (IsLowerFirst (length (expansion query u within).atoms)) (expansion query u within).bonds found.from fragment.ends found.at in
        let one = placed.every found.from.first ends.least (omega (arith, ends.less, ends.most)) in
        let two = placed.every found.from.second (omega (arith, ends.least, ends.less)) ends.most in
        let first : place name ≡ place_of query t choice (InMember atom one.0) =
        sym (ap (λ (b : QueryBond). b.first) found.is) ∙ ap (λ (q : ℕ). before template pieces atom + q) (sym one.2) ∙ sym (place_in query t choice atom u within one.0 stands) in
        let second : place other ≡ place_of query t choice (InMember atom two.0) =
        sym (ap (λ (b : QueryBond). b.second) found.is) ∙ ap (λ (q : ℕ). before template pieces atom + q) (sym two.2) ∙ sym (place_in query t choice atom u within two.0 stands) in
        let e = one_name name (InMember atom one.0) is (here, u, within, stands, one.1) first in
        let e' = one_name other (InMember atom two.0) is' (here, u, within, stands, two.1) second in
        let same : found.from ≡ record { first = place_of query u within one.0; second = place_of query u within two.0; kind = kind; topology = topology } =
        same_bond found.from (place_of query u within one.0) (place_of query u within two.0) kind topology (sym one.2) (sym two.2) (ap (λ (b : QueryBond). b.kind) found.is)
        (ap (λ (b : QueryBond). b.topology) found.is) in
        let held = subst (Contains (expansion query u within).bonds) same found.at in
        let drawn_there = (placed.are_joined one.0 two.0 kind topology one.1 two.1 (omega (arith, one.2, two.2, ends.less))).0 held in
        subst (λ (n : Name). AreJoinedNames query t choice n other kind topology) (sym e)
        (subst (λ (n : Name). AreJoinedNames query t choice (InMember atom one.0) n kind topology) (sym e') (inr (refl, u, within, stands, drawn_there)))
      where
        same_bond : (b : QueryBond) (x y k o : ℕ) → b.first ≡ x → b.second ≡ y → b.kind ≡ k → b.topology ≡ o → b ≡ record { first = x; second = y; kind = k; topology = o }
        same_bond b x y k o p q r s =
            ap (λ (z : ℕ). record { first = z; second = b.second; kind = b.kind; topology = b.topology }) p
            ∙ ap (λ (z : ℕ). record { first = x; second = z; kind = b.kind; topology = b.topology }) q
            ∙ ap (λ (z : ℕ). record { first = x; second = y; kind = z; topology = b.topology }) r
            ∙ ap (λ (z : ℕ). record { first = x; second = y; kind = k; topology = z }) s

    from_slot : (slot : Slot) (s : Stand) → Contains template.slots slot → StandsAt template slot → stand query t choice (slot_atom slot) ≡ s
        → Contains (bonds_within template.bonds (before template pieces (slot_atom slot)) slot (becomes query s)) (bond_at name other kind topology)
        → AreJoinedNames query t choice name other kind topology
    from_slot (Link atom most from to) (Times n) held at stands inside = joined_here name other (from_chain atom most from to n held stands inside)
    from_slot (Link atom most from to) (ByMember u within) held at stands (k, below, here) = absurd (omega (arith, below))
    from_slot (Link atom most from to) (ByHydrogens n) held at stands (k, below, here) = absurd (omega (arith, below))
    from_slot (Link atom most from to) Vacant held at stands (k, below, here) = absurd (omega (arith, below))
    from_slot (Site atom groups first second) (Times n) held at stands (k, below, here) = absurd (omega (arith, below))
    from_slot (Site atom groups first second) (ByMember u within) held at stands inside = from_member atom u within at stands inside
    from_slot (Site atom groups first second) (ByHydrogens n) held at stands (k, below, here) = absurd (omega (arith, below))
    from_slot (Site atom groups first second) Vacant held at stands (k, below, here) = absurd (omega (arith, below))

    pub from_bonds : Contains (expansion query t choice).bonds (bond_at name other kind topology) → AreJoinedNames query t choice name other kind topology
    unfolding expansion joined
    from_bonds at = elim (Contains-append_cases (flat_map (drawn template pieces) template.bonds) (all_within template pieces template.slots pieces) (bond_at name other kind topology) at) [
      | inl outer ↦ (let found = one_of (drawn template pieces) template.bonds (bond_at name other kind topology) outer in by_bond found.0 found.1 (is_inside template found.0) refl found.2)
      | inr inside ↦ by_slot (all_within_one template pieces template.slots pieces (bond_at name other kind topology) inside)
    ]
      where
        by_bond : (bond : QueryBond) → Contains template.bonds bond → (b : Bool) → is_inside template bond ≡ b → Contains (drawn template pieces bond) (bond_at name other kind topology)
            → AreJoinedNames query t choice name other kind topology
        by_bond bond held true e here = joined_here name other
            (from_block bond held e (subst (λ (bs : List QueryBond). Contains bs (bond_at name other kind topology)) (drawn_inside template pieces bond e) here))
        by_bond bond held false e here = joined_here name other
            (from_ends bond held e (subst (λ (bs : List QueryBond). Contains bs (bond_at name other kind topology)) (drawn_outside template pieces bond e) here))

        by_slot : (k : ℕ) × (k < length template.slots) × Contains (within_at template pieces template.slots pieces k) (bond_at name other kind topology)
            → AreJoinedNames query t choice name other kind topology
        by_slot (k, below, here) =
            let slot = get_or template.slots k (Link 0 0 0 0) in
            let became : get_or pieces k (Copies 1) ≡ becomes query (stand query t choice (slot_atom (get_or template.slots k (Link 0 0 0 0)))) =
            sym (slot_piece template kept pieces k below) ∙ piece_is query t choice made (slot_atom (get_or template.slots k (Link 0 0 0 0))) in
            from_slot (get_or template.slots k (Link 0 0 0 0)) (stand query t choice (slot_atom (get_or template.slots k (Link 0 0 0 0))))
            (Contains-get_or template.slots k (Link 0 0 0 0) below) (slots_stand template kept k (Link 0 0 0 0) below) refl
            (subst (λ (p : Piece). Contains (bonds_within template.bonds (before template pieces (slot_atom (get_or template.slots k (Link 0 0 0 0)))) (get_or template.slots k (Link 0 0 0 0)) p)
            (bond_at name other kind topology)) became here)
