-- The bonds of an expansion are those that the names say.
--     to_bonds          where two names are joined a bond is between their places
--     name_joined       a bond is between two places exactly where the names there are joined
use Rattle.std.proofs.Common.{◌≡◌, ◌∙◌, ℕ, ◌+◌, ◌-◌, ◌<◌, ◌≤◌, inl, inr, Bool, true, false, cond, ◌||◌, eqb, List, length, get_or, map, refl, sym, ap, subst, arith}
use Rattle.std.specs.Prelude.{Contains, ◌↔◌}
use Rattle.std.specs.List.{flat_map}
use Rattle.std.proofs.lemmas.Bool.Decides.{nat_tests}
use Rattle.std.proofs.lemmas.List.{get_or_default}
use Rattle.std.proofs.lemmas.List.Elements.{All-contains, Contains-append_left, Contains-append_right, Contains-get_or}
use Rattle.mk_model.specs.declared.template.QueryBond.{QueryBond}
use Rattle.mk_model.specs.declared.template.Slot.{Slot}
use Rattle.mk_model.specs.declared.template.Slot.TheVariants.{Link, Site}
use Rattle.mk_model.specs.Codes.{Choice, IsChoice}
use Rattle.mk_model.specs.Expansions.{all_within, bond_between, bond_joining, bonds_within, chained, copied, drawn, expansion, is_hydrogens, is_nothing, joined, pieces_of, shifted, spanned, template_of}
use Rattle.mk_model.specs.Pieces.{Piece, before, ending, piece, width}
use Rattle.mk_model.specs.Pieces.Piece.{Copies, Member}
use Rattle.mk_model.specs.Queries.{QueryView, slots_of}
use Rattle.mk_model.specs.QueryFits.{IsAtomOf, QueryFits}
use Rattle.mk_model.specs.Sizes.{takes_atom}
use Rattle.mk_model.specs.Templates.{TemplateView, joins, slot_atom}
use Rattle.mk_pieces.specs.Kept.{IsTemplate}
use Rattle.mk_pieces.specs.Rooms.{IsWithin}
use Rattle.mk_pieces.specs.Names.{AreJoinedNames, AreJoinedHere, IsAsDrawn, IsEnd, IsEndAt, IsNameThere, Name, Stand, faces_far, is_in_one_block, names_hydrogen, stand}
use Rattle.mk_pieces.specs.Names.AreJoinedHere.{AlongBlock, AlongChain, EndToEnd}
use Rattle.mk_pieces.specs.Names.Name.{CopyOf, HydrogenAt, InMember}
use Rattle.mk_pieces.specs.Names.Stand.{ByMember, Times}
use Rattle.mk_pieces.proofs.DrawnLemmas.{drawn_inside, drawn_outside}
use Rattle.mk_pieces.proofs.ChoiceFits.{kept_template, template_fit}
use Rattle.mk_pieces.proofs.EndLemmas.{IsKnownStand, end_named, known_stand, one_end, some_end}
use Rattle.mk_pieces.proofs.JoinedLemmas.{slot_piece}
use Rattle.mk_pieces.proofs.JoiningLemmas.{between_less, between_more, in_flat, in_mapped, in_row, in_slots, joining_found, joins_ends, one_joining, spanned_is}
use Rattle.mk_pieces.proofs.NameLemmas.{Placed, becomes, copy_there, moved_in, piece_is, place_in, place_of, wide}
use Rattle.mk_pieces.proofs.PieceLemmas.{FitsSlot, fit_length}
use Rattle.mk_pieces.proofs.StandLemmas.{in_block_is}
use Rattle.mk_pieces.proofs.TakerLemmas.{taker_is_slot}
use Rattle.mk_pieces.proofs.TemplateLemmas.{bonds_within as template_bonds_within}
use Rattle.mk_pieces.proofs.WithinLemmas.{within_at}
use Rattle.mk_pieces.proofs.FoundBondLemmas.{either_way, from_bonds, hydrogen_of, there_of}

-- ---- one template

module _ (query : QueryView) (fits : QueryFits query) (t : ℕ) (in_query : t < length query.templates) (choice : Choice) (made : IsChoice query (slots_of query t) choice)
    (inner : (x u : ℕ) (within : Choice) → stand query t choice x ≡ ByMember u within → Placed query u within) where
  abbrev template : TemplateView
  template = template_of query t

  abbrev pieces : List Piece
  pieces = pieces_of query (slots_of query t) choice

  abbrev place : Name → ℕ
  place = place_of query t choice

  -- the bond between the places of two names
  abbrev bond_at : Name → Name → ℕ → ℕ → QueryBond
  bond_at name other kind topology = record { first = place_of query t choice name; second = place_of query t choice other; kind = kind; topology = topology }

  kept : IsTemplate template
  kept = kept_template query fits t in_query

  bond_within : (bond : QueryBond) → Contains template.bonds bond → IsWithin template bond
  bond_within bond held = All-contains (IsWithin template) template.bonds bond (template_bonds_within template kept) held

  -- ---- lists

  -- a bond that a bond of the template becomes
  among_drawn : (bond b : QueryBond) → Contains template.bonds bond → Contains (drawn template pieces bond) b → Contains (expansion query t choice).bonds b
  unfolding expansion joined
  among_drawn bond b held at =
      Contains-append_left (flat_map (drawn template pieces) template.bonds) (all_within template pieces template.slots pieces) b (in_flat (drawn template pieces) template.bonds bond b held at)

  -- and one within what a slot has become
  among_within : (slot : Slot) (b : QueryBond) → Contains template.slots slot
      → Contains (bonds_within template.bonds (before template pieces (slot_atom slot)) slot (becomes query (stand query t choice (slot_atom slot)))) b
      → Contains (expansion query t choice).bonds b
  unfolding expansion joined
  among_within slot b held at =
      let k = held.0 in
      let fit = template_fit query fits t in_query choice made in
      let same : get_or template.slots held.0 (Link 0 0 0 0) ≡ slot = found_slot held in
      let became : get_or pieces held.0 (Copies 1) ≡ becomes query (stand query t choice (slot_atom slot)) =
      sym (slot_piece template kept pieces held.0 held.1) ∙ ap (λ (s : Slot). piece template pieces (slot_atom s)) same ∙ piece_is query t choice made (slot_atom slot) in
      let here : Contains (within_at template pieces template.slots pieces held.0) b =
      rw (same, became) at in
      Contains-append_right (flat_map (drawn template pieces) template.bonds) (all_within template pieces template.slots pieces) b
      (in_slots template pieces template.slots pieces held.0 b held.1 (fit_length template.slots pieces fit) here)
    where
      found_slot : (at' : Contains template.slots slot) → get_or template.slots at'.0 (Link 0 0 0 0) ≡ slot
      found_slot at' = get_or_default template.slots at'.0 (Link 0 0 0 0) slot at'.1 ∙ at'.2

  in_copied : (bond : QueryBond) (x y n j : ℕ) → 1 ≤ j → j ≤ n → Contains (copied bond x y n) (bond_between (x + j) (y + j) bond.kind bond.topology)
  unfolding copied
  in_copied bond x y n j least most = in_row (λ i. bond_between (x + i) (y + i) bond.kind bond.topology) n j least most

  in_chain : (bond : QueryBond) (x n j : ℕ) → 1 ≤ j → j ≤ n → Contains (chained bond x n) (record { first = x + j; second = x + j + 1; kind = bond.kind; topology = bond.topology })
  unfolding chained
  in_chain bond x n j least most = in_row (λ i. record { first = x + i; second = x + i + 1; kind = bond.kind; topology = bond.topology }) n j least most

  to_block : (bond : QueryBond) (x y j kind topology : ℕ) → Contains template.bonds bond → joins x y bond ≡ true → is_in_one_block template bond ≡ true
      → IsNameThere query t choice (CopyOf x j) → IsNameThere query t choice (CopyOf y j) → place (CopyOf x j) < place (CopyOf y j) → IsAsDrawn bond (CopyOf x j) (CopyOf y j) kind topology
      → Contains (expansion query t choice).bonds (bond_at (CopyOf x j) (CopyOf y j) kind topology)
  to_block bond x y j kind topology held joined' inside is is' less asked =
      let row = drawn_inside template pieces bond (sym (in_block_is template kept bond (bond_within bond held)) ∙ inside) in
      let one = copy_there (stand query t choice x) j is.1 in
      let two = copy_there (stand query t choice y) j is'.1 in
      among_drawn bond (bond_at (CopyOf x j) (CopyOf y j) kind topology) held
      (rw (row, asked.kind_is, asked.topology_is) (elim (joins_ends x y bond joined') [
        | inl e ↦
            (let count : j ≤ width (piece template pieces bond.first) = rw e.0 (omega (arith, one.most, wide query t choice made inner x (Times one.count) one.is)) in
            subst (Contains (copied bond (before template pieces bond.first) (before template pieces bond.second) (width (piece template pieces bond.first))))
            (rw (e.0, e.1) (between_less (before template pieces x + j) (before template pieces y + j) bond.kind bond.topology less))
            (in_copied bond (before template pieces bond.first) (before template pieces bond.second) (width (piece template pieces bond.first)) j one.least count))
        | inr e ↦
            (let count : j ≤ width (piece template pieces bond.first) = rw e.0 (omega (arith, two.most, wide query t choice made inner y (Times two.count) two.is)) in
            subst (Contains (copied bond (before template pieces bond.first) (before template pieces bond.second) (width (piece template pieces bond.first))))
            (rw (e.0, e.1) (between_more (before template pieces y + j) (before template pieces x + j) bond.kind bond.topology less))
            (in_copied bond (before template pieces bond.first) (before template pieces bond.second) (width (piece template pieces bond.first)) j one.least count))
      ]))

  to_chain : (bond : QueryBond) (atom most from to j kind topology : ℕ) → Contains template.slots (Link atom most from to) → Contains template.bonds bond → joins atom from bond ≡ true
      → IsNameThere query t choice (CopyOf atom j) → IsNameThere query t choice (CopyOf atom (j + 1)) → IsAsDrawn bond (CopyOf atom j) (CopyOf atom (j + 1)) kind topology
      → Contains (expansion query t choice).bonds (bond_at (CopyOf atom j) (CopyOf atom (j + 1)) kind topology)
  to_chain bond atom most from to j kind topology held held' joined' is is' asked =
      let one = copy_there (stand query t choice atom) j is.1 in
      let next = copy_there (stand query t choice atom) (j + 1) is'.1 in
      let found = joining_found template.bonds atom from bond held' joined' in
      let like : bond_joining template.bonds atom from ≡ bond = one_joining template kept atom from (bond_joining template.bonds atom from) bond found.0 held' found.1 joined' in
      let place_next : before template pieces atom + (j + 1) ≡ before template pieces atom + j + 1 = omega arith in
      among_within (Link atom most from to) (bond_at (CopyOf atom j) (CopyOf atom (j + 1)) kind topology) held
      (rw (next.is, like, asked.kind_is, asked.topology_is, place_next) (in_chain bond (before template pieces atom) (next.count - 1) j one.least (omega (arith, next.most))))

  to_ends : (bond : QueryBond) (x y : ℕ) (name other : Name) (kind topology : ℕ) → Contains template.bonds bond → joins x y bond ≡ true → is_in_one_block template bond ≡ false
      → IsEndAt query t choice x y name → IsEndAt query t choice y x other → place name < place other → IsAsDrawn bond name other kind topology
      → Contains (expansion query t choice).bonds (bond_at name other kind topology)
  to_ends bond x y name other kind topology held joined' outside at at' less asked =
      among_drawn bond (bond_at name other kind topology) held
      (rw (drawn_outside template pieces bond (sym (in_block_is template kept bond (bond_within bond held)) ∙ outside)) (elim (joins_ends x y bond joined') [
        | inl e ↦ straight e.0 e.1
        | inr e ↦ crossed e.0 e.1
      ]))
    where
      within : IsWithin template bond
      within = bond_within bond held

      -- the piece at an end, and the place of the end
      there : (z : ℕ) (far : Bool) (n : Name) → IsEnd query z (stand query t choice z) far n → is_nothing (piece template pieces z) ≡ false
      there z far n is = ap is_nothing (piece_is query t choice made z) ∙ there_of query (stand query t choice z) ∙ some_end query z (stand query t choice z) far n is

      hydrogens : (z : ℕ) (far : Bool) (n : Name) → IsEnd query z (stand query t choice z) far n → is_hydrogens (piece template pieces z) ≡ names_hydrogen n
      hydrogens z far n is = ap is_hydrogens (piece_is query t choice made z) ∙ hydrogen_of query z (stand query t choice z) far n is

      placed : (z w : ℕ) (n : Name) → IsAtomOf template z → 1 ≤ w → IsEndAt query t choice z w n → ending template pieces z w ≡ place_of query t choice n
      placed z w n here least is =
          let end = end_named query fits t in_query choice made inner z w here least (some_end query z (stand query t choice z) (faces_far query t z w) n is) in
          end.place ∙ ap (place_of query t choice) (one_end query z (stand query t choice z) (faces_far query t z w) end.name n end.at is)

      straight : bond.first ≡ x → bond.second ≡ y
          → Contains (spanned (piece template pieces bond.first) (piece template pieces bond.second) bond (ending template pieces bond.first bond.second)
          (ending template pieces bond.second bond.first)) (bond_at name other kind topology)
      straight e e' =
          let one = placed x y name (subst (IsAtomOf template) e within.first) (subst (λ (z : ℕ). 1 ≤ z) e' within.second.0) at in
          let two = placed y x other (subst (IsAtomOf template) e' within.second) (subst (λ (z : ℕ). 1 ≤ z) e within.first.0) at' in
          rw (
            e,
            e',
            spanned_is (piece template pieces x) (piece template pieces y) bond (ending template pieces x y) (ending template pieces y x) (there x (faces_far query t x y) name at)
                (there y (faces_far query t y x) other at'),
            one,
            two,
            hydrogens x (faces_far query t x y) name at,
            hydrogens y (faces_far query t y x) other at',
            asked.kind_is,
            asked.topology_is,
          ) (
            0,
            omega arith,
            between_less (place_of query t choice name) (place_of query t choice other) (cond (names_hydrogen name || names_hydrogen other) 1 bond.kind)
                (cond (names_hydrogen name || names_hydrogen other) 0 bond.topology) less,
          )

      crossed : bond.first ≡ y → bond.second ≡ x
          → Contains (spanned (piece template pieces bond.first) (piece template pieces bond.second) bond (ending template pieces bond.first bond.second)
          (ending template pieces bond.second bond.first)) (bond_at name other kind topology)
      crossed e e' =
          let one = placed x y name (subst (IsAtomOf template) e' within.second) (subst (λ (z : ℕ). 1 ≤ z) e within.first.0) at in
          let two = placed y x other (subst (IsAtomOf template) e within.first) (subst (λ (z : ℕ). 1 ≤ z) e' within.second.0) at' in
          rw (
            e,
            e',
            spanned_is (piece template pieces y) (piece template pieces x) bond (ending template pieces y x) (ending template pieces x y) (there y (faces_far query t y x) other at')
                (there x (faces_far query t x y) name at),
            one,
            two,
            hydrogens x (faces_far query t x y) name at,
            hydrogens y (faces_far query t y x) other at',
            asked.kind_is,
            asked.topology_is,
            either_way (names_hydrogen name) (names_hydrogen other),
          ) (
            0,
            omega arith,
            between_more (place_of query t choice other) (place_of query t choice name) (cond (names_hydrogen other || names_hydrogen name) 1 bond.kind)
                (cond (names_hydrogen other || names_hydrogen name) 0 bond.topology) less,
          )

  to_here : (name other : Name) (kind topology : ℕ) → IsNameThere query t choice name → IsNameThere query t choice other → place name < place other
      → AreJoinedHere query t choice name other kind topology
      → Contains (expansion query t choice).bonds (bond_at name other kind topology)
  to_here name other kind topology is is' less (AlongBlock bond x y j held joined' inside e e' asked) = by name other e e' is is' less asked
    where
      by : (n o : Name) → n ≡ CopyOf x j → o ≡ CopyOf y j → IsNameThere query t choice n → IsNameThere query t choice o → place n < place o → IsAsDrawn bond n o kind topology
          → Contains (expansion query t choice).bonds (bond_at n o kind topology)
      by n o p q is is' less asked = subst (λ (m : Name). Contains (expansion query t choice).bonds (bond_at m o kind topology)) (sym p)
          (subst (λ (m : Name). Contains (expansion query t choice).bonds (bond_at (CopyOf x j) m kind topology)) (sym q)
          (to_block bond x y j kind topology held joined' inside (subst (IsNameThere query t choice) p is) (subst (IsNameThere query t choice) q is')
          (subst (λ (m : Name). place m < place (CopyOf y j)) p (subst (λ (m : Name). place n < place m) q less))
          (subst (λ (m : Name). IsAsDrawn bond m (CopyOf y j) kind topology) p (subst (λ (m : Name). IsAsDrawn bond n m kind topology) q asked))))
  to_here name other kind topology is is' less (AlongChain bond atom most from to j held held' joined' e e' asked) = by name other e e' is is' asked
    where
      by : (n o : Name) → n ≡ CopyOf atom j → o ≡ CopyOf atom (j + 1) → IsNameThere query t choice n → IsNameThere query t choice o → IsAsDrawn bond n o kind topology
          → Contains (expansion query t choice).bonds (bond_at n o kind topology)
      by n o p q is is' asked = subst (λ (m : Name). Contains (expansion query t choice).bonds (bond_at m o kind topology)) (sym p)
          (subst (λ (m : Name). Contains (expansion query t choice).bonds (bond_at (CopyOf atom j) m kind topology)) (sym q)
          (to_chain bond atom most from to j kind topology held held' joined' (subst (IsNameThere query t choice) p is) (subst (IsNameThere query t choice) q is')
          (subst (λ (m : Name). IsAsDrawn bond m (CopyOf atom (j + 1)) kind topology) p (subst (λ (m : Name). IsAsDrawn bond n m kind topology) q asked))))
  to_here name other kind topology is is' less (EndToEnd bond x y held joined' outside at at' asked) = to_ends bond x y name other kind topology held joined' outside at at' less asked

  to_member : (x u : ℕ) (within : Choice) (name other : Name) (kind topology : ℕ) → stand query t choice x ≡ ByMember u within → IsAtomOf template x → IsNameThere query u within name
      → IsNameThere query u within other
      → place (InMember x name) < place (InMember x other) → AreJoinedNames query u within name other kind topology
      → Contains (expansion query t choice).bonds (bond_at (InMember x name) (InMember x other) kind topology)
  to_member x u within name other kind topology stands here is is' less joined' = by_slot (known_stand query fits t in_query choice made x)
    where
      one : place (InMember x name) ≡ before template pieces x + place_of query u within name
      one = place_in query t choice x u within name stands

      two : place (InMember x other) ≡ before template pieces x + place_of query u within other
      two = place_in query t choice x u within other stands

      inside : Contains (map (shifted (before template pieces x)) (expansion query u within).bonds) (bond_at (InMember x name) (InMember x other) kind topology)
      inside =
          rw (one, two) (in_mapped (shifted (before template pieces x)) (expansion query u within).bonds
          (record { first = place_of query u within name; second = place_of query u within other; kind = kind; topology = topology })
          (((inner x u within stands).are_joined name other kind topology is is' (omega (arith, one, two, less))).1 joined'))

      by_site : (slot : Slot) → Contains template.slots slot → takes_atom template x slot ≡ true → FitsSlot slot (becomes query (stand query t choice x))
          → Contains (expansion query t choice).bonds (bond_at (InMember x name) (InMember x other) kind topology)
      by_site (Link a m f o) held takes fit = absurd
          (let never : FitsSlot (Link a m f o) (Member (expansion query u within)) = subst (λ (s : Stand). FitsSlot (Link a m f o) (becomes query s)) stands fit in never)
      by_site (Site a g f o) held takes fit = by_test (eqb a x) refl takes
        where
          by_test : (b : Bool) → eqb a x ≡ b → (b || false) ≡ true → Contains (expansion query t choice).bonds (bond_at (InMember x name) (InMember x other) kind topology)
          by_test true e is'' =
              let same : x ≡ a = grind (arith, nat_tests) in
              among_within (Site a g f o) (bond_at (InMember x name) (InMember x other) kind topology) held
              (subst (λ (z : ℕ). Contains (bonds_within template.bonds (before template pieces z) (Site a g f o) (becomes query (stand query t choice z)))
              (bond_at (InMember x name) (InMember x other) kind topology)) same
              (subst (λ (s : Stand). Contains (bonds_within template.bonds (before template pieces x) (Site a g f o) (becomes query s))
              (bond_at (InMember x name) (InMember x other) kind topology)) (sym stands) inside))
          by_test false e is'' = absurd cc

      by_slot : IsKnownStand query t choice x → Contains (expansion query t choice).bonds (bond_at (InMember x name) (InMember x other) kind topology)
      by_slot (inl once) = absurd (let never : Times 1 ≡ ByMember u within = sym once ∙ stands in cc)
      by_slot (inr (k, below, taken, fit)) =
          by_site (get_or template.slots k (Link 0 0 0 0)) (Contains-get_or template.slots k (Link 0 0 0 0) below) ((taker_is_slot template x k taken).takes (Link 0 0 0 0)) fit

  to_bonds : (name other : Name) (kind topology : ℕ) → IsNameThere query t choice name → IsNameThere query t choice other → place name < place other
      → AreJoinedNames query t choice name other kind topology
      → Contains (expansion query t choice).bonds (bond_at name other kind topology)
  to_bonds (CopyOf x j) other kind topology is is' less bonded = to_here (CopyOf x j) other kind topology is is' less bonded
  to_bonds (InMember x name) (CopyOf y k) kind topology is is' less bonded = to_here (InMember x name) (CopyOf y k) kind topology is is' less bonded
  to_bonds (InMember x name) (InMember y other) kind topology is is' less (inl bonded) = to_here (InMember x name) (InMember y other) kind topology is is' less bonded
  to_bonds (InMember x name) (InMember y other) kind topology (at, v, beside, stands', named) (at', w, beside', stands'', named') less (inr (same, u, within, stands, joined')) =
      let one : IsNameThere query u within name = moved_in query t choice (λ i c. IsNameThere query i c name) x x u v within beside refl stands stands' named in
      let two : IsNameThere query u within other = moved_in query t choice (λ i c. IsNameThere query i c other) x y u w within beside' same stands stands'' named' in
      subst (λ (z : ℕ). Contains (expansion query t choice).bonds (bond_at (InMember x name) (InMember z other) kind topology)) same
      (to_member x u within name other kind topology stands at one two (subst (λ (z : ℕ). place (InMember x name) < place (InMember z other)) (sym same) less) joined')
  to_bonds (InMember x name) (HydrogenAt y k) kind topology is is' less bonded = to_here (InMember x name) (HydrogenAt y k) kind topology is is' less bonded
  to_bonds (HydrogenAt x j) other kind topology is is' less bonded = to_here (HydrogenAt x j) other kind topology is is' less bonded

  -- a bond is between two places exactly where the names there are joined
  pub name_joined : (name other : Name) (kind topology : ℕ) → IsNameThere query t choice name → IsNameThere query t choice other → place_of query t choice name < place_of query t choice other
      → Contains (expansion query t choice).bonds (record { first = place_of query t choice name; second = place_of query t choice other; kind = kind; topology = topology })
      ↔ AreJoinedNames query t choice name other kind topology
  name_joined name other kind topology is is' less = (from_bonds query fits t in_query choice made inner name other kind topology is is' less, to_bonds name other kind topology is is' less)
