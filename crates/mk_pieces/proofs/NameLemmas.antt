-- The places of named atoms.
--     becomes query s               the piece that stands there
--     piece_is                      what an atom becomes is what stands for it
--     place_of query t choice name  the place of a named atom
--     Placed query t choice         the atoms and bonds of an expansion stand where their names say
--     of_name, name_there, name_one, name_every, name_order      the places of names, one template at a time
use Rattle.std.proofs.Common.{◌≡◌, ◌∙◌, ℕ, zero, suc, ◌+◌, ◌-◌, ◌<◌, ◌≤◌, inl, inr, Bool, true, false, cond, List, [], ◌∷◌, Some, length, get_or, map, refl, sym, ap, subst, arith}
use Rattle.std.specs.Prelude.{Contains, slice_get, ◌↔◌}
use Rattle.std.proofs.lemmas.Bool.{cases_lt}
use Rattle.mk_model.specs.declared.graph.GraphAtom.{GraphAtom}
use Rattle.mk_model.specs.declared.template.Slot.{Slot}
use Rattle.mk_model.specs.declared.template.Slot.TheVariants.{Link, Site}
use Rattle.mk_model.specs.Codes.{Choice, IsChoice}
use Rattle.mk_model.specs.Codes.Choice.{done, repeated, unfilled, filled}
use Rattle.mk_model.specs.Expansions.{expansion, joined, left_open, pieces_of, template_of}
use Rattle.mk_model.specs.Labels.{draws_rest_hydrogens, member}
use Rattle.mk_model.specs.Pieces.{Piece, before, piece, piece_numbered, room, taker, width}
use Rattle.mk_model.specs.Pieces.Piece.{Copies, Member, Hydrogens, Nothing}
use Rattle.mk_model.specs.Queries.{QueryView, slots_of}
use Rattle.mk_model.specs.QueryFits.{IsAtomOf}
use Rattle.mk_model.specs.Templates.{TemplateView, neighbour_count}
use Rattle.mk_pieces.specs.Names.{AreJoinedNames, IsAtomNamed, IsCopyThere, IsHydrogenThere, IsNameThere, IsNameBefore, Name, Stand, own_atom, stand, stands_of}
use Rattle.mk_pieces.specs.Names.Name.{CopyOf, HydrogenAt, InMember}
use Rattle.mk_pieces.specs.Names.Stand.{ByHydrogens, ByMember, Times, Vacant}
use Rattle.mk_pieces.proofs.JoinedLemmas.{length_atoms}
use Rattle.mk_pieces.proofs.SpanLemmas.{IsOf, is_of, one_atom, room_none, room_of, room_within}
use Rattle.mk_pieces.proofs.StandLemmas.{stand_is, stand_numbered}

-- ---- what stands, as pieces

-- the piece that stands there
abbrev pub becomes : QueryView → Stand → Piece
becomes query (Times n) = Copies n
becomes query (ByMember u within) = Member (expansion query u within)
becomes query (ByHydrogens n) = Hydrogens n
becomes query Vacant = Nothing

-- what the slots become is what stands for their atoms
pieces_are : (query : QueryView) (slots : List Slot) (choice : Choice) → IsChoice query slots choice → pieces_of query slots choice ≡ map (becomes query) (stands_of query slots choice)
unfolding pieces_of stands_of expansion
pieces_are query [] done is = refl
pieces_are query [] (repeated n others) is = absurd is
pieces_are query [] (unfilled n others) is = absurd is
pieces_are query [] (filled k within others) is = absurd is
pieces_are query (Link atom most from to ∷ slots) done is = absurd is
pieces_are query (Link atom most from to ∷ slots) (repeated n others) is = ap (λ (ps : List Piece). Copies n ∷ ps) (pieces_are query slots others is.2)
pieces_are query (Link atom most from to ∷ slots) (unfilled n others) is = absurd is
pieces_are query (Link atom most from to ∷ slots) (filled k within others) is = absurd is
pieces_are query (Site atom groups first second ∷ slots) done is = absurd is
pieces_are query (Site atom groups first second ∷ slots) (repeated n others) is = absurd is
pieces_are query (Site atom groups first second ∷ slots) (unfilled n others) is =
    ap (λ (ps : List Piece). left_open query (Site atom groups first second) ∷ ps) (pieces_are query slots others is.1)
    ∙ ap (λ (p : Piece). p ∷ map (becomes query) (stands_of query slots others)) (by (draws_rest_hydrogens query (Site atom groups first second)))
  where
    by : (b : Bool) → cond b (Hydrogens (neighbour_count (Site atom groups first second))) Nothing ≡ becomes query (cond b (ByHydrogens (neighbour_count (Site atom groups first second))) Vacant)
    by true = refl
    by false = refl
pieces_are query (Site atom groups first second ∷ slots) (filled k within others) is =
    ap (λ (ps : List Piece). Member (expansion query (member query (Site atom groups first second) k) within) ∷ ps) (pieces_are query slots others is.3)

piece_at : (query : QueryView) (stands : List Stand) (k : ℕ) → get_or (map (becomes query) stands) k (Copies 1) ≡ becomes query (get_or stands k (Times 1))
piece_at query [] k = refl
piece_at query (s ∷ stands) zero = refl
piece_at query (s ∷ stands) (suc k) = piece_at query stands k

numbered_is : (query : QueryView) (stands : List Stand) (n : ℕ) → piece_numbered (map (becomes query) stands) n ≡ becomes query (stand_numbered stands n)
numbered_is query stands zero = refl
numbered_is query stands (suc k) = piece_at query stands k

-- what an atom becomes is what stands for it
pub piece_is : (query : QueryView) (t : ℕ) (choice : Choice) → IsChoice query (slots_of query t) choice → (x : ℕ)
    → piece (template_of query t) (pieces_of query (slots_of query t) choice) x ≡ becomes query (stand query t choice x)
piece_is query t choice is x =
    ap (λ (ps : List Piece). piece_numbered ps (taker (template_of query t) x)) (pieces_are query (slots_of query t) choice is)
    ∙ numbered_is query (stands_of query (slots_of query t) choice) (taker (template_of query t) x)
    ∙ ap (becomes query) (sym (stand_is query t choice x))

-- ---- places

-- the member that stands there, and the choice at its slots
abbrev pub filler : Stand → ℕ
filler (Times n) = 0
filler (ByMember u within) = u
filler (ByHydrogens n) = 0
filler Vacant = 0

abbrev pub choice_within : Stand → Choice
choice_within (Times n) = done
choice_within (ByMember u within) = within
choice_within (ByHydrogens n) = done
choice_within Vacant = done

-- the place of a named atom: behind the atoms that stand before its own
abbrev pub place_of : QueryView → ℕ → Choice → Name → ℕ
place_of query t choice (CopyOf x j) = before (template_of query t) (pieces_of query (slots_of query t) choice) x + j
place_of query t choice (InMember x name) =
    before (template_of query t) (pieces_of query (slots_of query t) choice) x + place_of query (filler (stand query t choice x)) (choice_within (stand query t choice x)) name
place_of query t choice (HydrogenAt x k) = before (template_of query t) (pieces_of query (slots_of query t) choice) x + k

pub place_in : (query : QueryView) (t : ℕ) (choice : Choice) (x u : ℕ) (within : Choice) (name : Name) → stand query t choice x ≡ ByMember u within
    → place_of query t choice (InMember x name) ≡ before (template_of query t) (pieces_of query (slots_of query t) choice) x + place_of query u within name
place_in query t choice x u within name is =
    ap (λ (s : Stand). before (template_of query t) (pieces_of query (slots_of query t) choice) x + place_of query (filler s) (choice_within s) name) is

-- what is so of one member at a place is so of the same
pub moved_in : (query : QueryView) (t : ℕ) (choice : Choice) (P : ℕ → Choice → Type 0) (x y u v : ℕ) (within other : Choice) → x ≡ y
    → stand query t choice x ≡ ByMember u within → stand query t choice y ≡ ByMember v other → P v other → P u within
moved_in query t choice P x y u v within other same is is' p =
    let both : ByMember v other ≡ ByMember u within = sym is' ∙ ap (stand query t choice) (sym same) ∙ is in
    subst (λ (s : Stand). P (filler s) (choice_within s)) both p

-- The atoms and bonds of an expansion stand where their names say.
pub record Placed (query : QueryView) (t : ℕ) (choice : Choice) : Type 0 where
  pub in_query : t < length query.templates
  pub made : IsChoice query (slots_of query t) choice
  pub there : (name : Name) → IsNameThere query t choice name → (1 ≤ place_of query t choice name) × (place_of query t choice name ≤ length (expansion query t choice).atoms)
  pub every : (p : ℕ) → 1 ≤ p → p ≤ length (expansion query t choice).atoms → (name : Name) × IsNameThere query t choice name × (place_of query t choice name ≡ p)
  pub one : (name other : Name) → IsNameThere query t choice name → IsNameThere query t choice other → place_of query t choice name ≡ place_of query t choice other → name ≡ other
  pub in_order : (name other : Name) → IsNameThere query t choice name → IsNameThere query t choice other → IsNameBefore name other → place_of query t choice name < place_of query t choice other
  pub named : (name : Name) → IsNameThere query t choice name
      → (atom : GraphAtom) × (slice_get (expansion query t choice).atoms (place_of query t choice name - 1) ≡ Some atom) × IsAtomNamed query t choice name atom
  pub are_joined : (name other : Name) (kind topology : ℕ) → IsNameThere query t choice name → IsNameThere query t choice other → place_of query t choice name < place_of query t choice other
      → Contains (expansion query t choice).bonds (record { first = place_of query t choice name; second = place_of query t choice other; kind = kind; topology = topology })
      ↔ AreJoinedNames query t choice name other kind topology

-- ---- names, taken apart

-- there are so many copies, of which this is one
pub record IsOneOf (s : Stand) (j : ℕ) : Type 0 where
  pub count : ℕ
  pub is : s ≡ Times count
  pub least : 1 ≤ j
  pub most : j ≤ count

pub copy_there : (s : Stand) (j : ℕ) → IsCopyThere s j → IsOneOf s j
copy_there (Times n) j is = record { count = n; is = refl; least = is.0; most = is.1 }
copy_there (ByMember u within) j is = absurd is
copy_there (ByHydrogens n) j is = absurd is
copy_there Vacant j is = absurd is

-- there are so many hydrogens, of which this is one
pub record IsOneHydrogen (s : Stand) (k : ℕ) : Type 0 where
  pub count : ℕ
  pub is : s ≡ ByHydrogens count
  pub least : 1 ≤ k
  pub most : k ≤ count

pub hydrogen_there : (s : Stand) (k : ℕ) → IsHydrogenThere s k → IsOneHydrogen s k
hydrogen_there (Times n) k is = absurd is
hydrogen_there (ByMember u within) k is = absurd is
hydrogen_there (ByHydrogens n) k is = record { count = n; is = refl; least = is.0; most = is.1 }
hydrogen_there Vacant k is = absurd is

-- ---- one template at a time

module _ (query : QueryView) (t : ℕ) (choice : Choice) (made : IsChoice query (slots_of query t) choice)
    (inner : (x u : ℕ) (within : Choice) → stand query t choice x ≡ ByMember u within → Placed query u within) where
  abbrev template : TemplateView
  template = template_of query t

  abbrev pieces : List Piece
  pieces = pieces_of query (slots_of query t) choice

  -- how many atoms stand there
  pub wide : (x : ℕ) (s : Stand) → stand query t choice x ≡ s → width (piece template pieces x) ≡ width (becomes query s)
  wide x s is = ap width (piece_is query t choice made x) ∙ ap (λ (s' : Stand). width (becomes query s')) is

  -- the place of a named atom is one of those of its own atom
  pub of_name : (name : Name) → IsNameThere query t choice name → IsOf template pieces (own_atom name) (place_of query t choice name)
  of_name (CopyOf x j) is = (let copy = copy_there (stand query t choice x) j is.1 in is_of template pieces x j is.0.0 copy.least (omega (arith, wide x (Times copy.count) copy.is, copy.most)))
  of_name (InMember x name) (at, u, within, is, named) =
      let in_member = (inner x u within is).there name named in
      subst (IsOf template pieces x) (sym (place_in query t choice x u within name is))
      (is_of template pieces x (place_of query u within name) at.0 in_member.0 (omega (arith, wide x (ByMember u within) is, in_member.1)))
  of_name (HydrogenAt x k) is = (let one = hydrogen_there (stand query t choice x) k is.1 in
      is_of template pieces x k is.0.0 one.least (omega (arith, wide x (ByHydrogens one.count) one.is, one.most)))

  pub own_atom_of : (name : Name) → IsNameThere query t choice name → IsAtomOf template (own_atom name)
  own_atom_of (CopyOf x j) is = is.0
  own_atom_of (InMember x name) is = is.0
  own_atom_of (HydrogenAt x k) is = is.0

  pub size : length (expansion query t choice).atoms ≡ room template pieces (length template.atoms)
  unfolding expansion joined
  size = length_atoms template pieces (length template.atoms)

  pub name_there : (name : Name) → IsNameThere query t choice name → (1 ≤ place_of query t choice name) × (place_of query t choice name ≤ length (expansion query t choice).atoms)
  name_there name is =
      let of = of_name name is in
      let up = room_within template pieces (own_atom name) (length template.atoms) (own_atom_of name is).1 in
      (omega (arith, of.above), omega (arith, of.upto, up, size))

  -- names of one place are one
  same_name : (name other : Name) → IsNameThere query t choice name → IsNameThere query t choice other → own_atom name ≡ own_atom other → place_of query t choice name ≡ place_of query t choice other
      → name ≡ other
  same_name (CopyOf x j) (CopyOf y k) is is' same place =
      let equal : j ≡ k = omega (arith, place, ap (before template pieces) same) in
      ap (CopyOf x) equal ∙ ap (λ (z : ℕ). CopyOf z k) same
  same_name (CopyOf x j) (InMember y other) is (at, v, beside, is', named) same place =
      absurd (let copy = copy_there (stand query t choice x) j is.1 in let both : Times copy.count ≡ ByMember v beside = sym copy.is ∙ ap (stand query t choice) same ∙ is' in cc)
  same_name (CopyOf x j) (HydrogenAt y k) is is' same place =
      absurd (let copy = copy_there (stand query t choice x) j is.1 in let one = hydrogen_there (stand query t choice y) k is'.1 in
      let both : Times copy.count ≡ ByHydrogens one.count = sym copy.is ∙ ap (stand query t choice) same ∙ one.is in cc)
  same_name (InMember x name) (CopyOf y k) (at, u, within, is, named) is' same place =
      absurd (let copy = copy_there (stand query t choice y) k is'.1 in let both : Times copy.count ≡ ByMember u within = sym copy.is ∙ ap (stand query t choice) (sym same) ∙ is in cc)
  same_name (InMember x name) (InMember y other) (at, u, within, is, named) (at', v, beside, is', named') same place =
      let there : IsNameThere query u within other = moved_in query t choice (λ w c. IsNameThere query w c other) x y u v within beside same is is' named' in
      let here : stand query t choice y ≡ ByMember u within = ap (stand query t choice) (sym same) ∙ is in
      let equal : place_of query u within name ≡ place_of query u within other =
      omega (arith, place, place_in query t choice x u within name is, place_in query t choice y u within other here, ap (before template pieces) same) in
      ap (InMember x) ((inner x u within is).one name other named there equal) ∙ ap (λ (z : ℕ). InMember z other) same
  same_name (InMember x name) (HydrogenAt y k) (at, u, within, is, named) is' same place =
      absurd (let one = hydrogen_there (stand query t choice y) k is'.1 in let both : ByHydrogens one.count ≡ ByMember u within = sym one.is ∙ ap (stand query t choice) (sym same) ∙ is in cc)
  same_name (HydrogenAt x j) (CopyOf y k) is is' same place =
      absurd (let one = hydrogen_there (stand query t choice x) j is.1 in let copy = copy_there (stand query t choice y) k is'.1 in
      let both : ByHydrogens one.count ≡ Times copy.count = sym one.is ∙ ap (stand query t choice) same ∙ copy.is in cc)
  same_name (HydrogenAt x j) (InMember y other) is (at, v, beside, is', named) same place =
      absurd (let one = hydrogen_there (stand query t choice x) j is.1 in let both : ByHydrogens one.count ≡ ByMember v beside = sym one.is ∙ ap (stand query t choice) same ∙ is' in cc)
  same_name (HydrogenAt x j) (HydrogenAt y k) is is' same place =
      let equal : j ≡ k = omega (arith, place, ap (before template pieces) same) in
      ap (HydrogenAt x) equal ∙ ap (λ (z : ℕ). HydrogenAt z k) same

  pub name_one : (name other : Name) → IsNameThere query t choice name → IsNameThere query t choice other → place_of query t choice name ≡ place_of query t choice other → name ≡ other
  name_one name other is is' place =
      same_name name other is is' (one_atom template pieces (own_atom name) (own_atom other) (place_of query t choice name) (of_name name is)
      (subst (IsOf template pieces (own_atom other)) (sym place) (of_name other is'))) place

  -- the atom of the template in whose place an atom stands
  at_atom : (n p : ℕ) → 1 ≤ p → p ≤ room template pieces n → (x : ℕ) × (1 ≤ x) × (x ≤ n) × IsOf template pieces x p
  at_atom zero p least most = absurd (omega (arith, room_none template pieces, least, most))
  at_atom (suc n) p least most = elim (cases_lt (room template pieces n) p) [
    | inl behind ↦ (suc n, omega arith, omega arith, record { some = omega arith; above = (let same : suc n - 1 ≡ n = omega arith in rw same behind); upto = most })
    | inr before_it ↦ (let found = at_atom n p least before_it in (found.0, found.1, (let below = found.2 in omega arith), found.3))
  ]

  pub name_every : (p : ℕ) → 1 ≤ p → p ≤ length (expansion query t choice).atoms → (name : Name) × IsNameThere query t choice name × (place_of query t choice name ≡ p)
  name_every p least most = by (stand query t choice x) refl
    where
      found : (y : ℕ) × (1 ≤ y) × (y ≤ length template.atoms) × IsOf template pieces y p
      found = at_atom (length template.atoms) p least (omega (arith, most, size))

      x : ℕ
      x = found.0

      at : IsAtomOf template x
      at = (found.1, found.2)

      j : ℕ
      j = p - before template pieces x

      place : before template pieces x + j ≡ p
      place = omega (arith, found.3.above)

      some : 1 ≤ j
      some = omega (arith, found.3.above)

      within_width : (s : Stand) → stand query t choice x ≡ s → j ≤ width (becomes query s)
      within_width s is = omega (arith, wide x s is, room_of template pieces x found.1, found.3.upto)

      by : (s : Stand) → stand query t choice x ≡ s → (name : Name) × IsNameThere query t choice name × (place_of query t choice name ≡ p)
      by (Times n) is = (CopyOf x j, (at, rw is (some, within_width (Times n) is)), place)
      by (ByMember u within) is =
          let in_member = (inner x u within is).every j some (within_width (ByMember u within) is) in
          (InMember x in_member.0, (at, u, within, is, in_member.1), place_in query t choice x u within in_member.0 is ∙ ap (λ (q : ℕ). before template pieces x + q) in_member.2 ∙ place)
      by (ByHydrogens n) is = (HydrogenAt x j, (at, rw is (some, within_width (ByHydrogens n) is)), place)
      by Vacant is = absurd (omega (arith, within_width Vacant is, some))

  -- ---- their order

  -- those of an earlier atom stand before
  earlier : (name other : Name) → IsNameThere query t choice name → IsNameThere query t choice other → own_atom name < own_atom other → place_of query t choice name < place_of query t choice other
  earlier name other is is' less =
      let of = of_name name is in
      let of' = of_name other is' in
      let up = room_within template pieces (own_atom name) (own_atom other - 1) (omega arith) in
      omega (arith, of.upto, up, of'.above)

  pub name_order : (name other : Name) → IsNameThere query t choice name → IsNameThere query t choice other → IsNameBefore name other → place_of query t choice name < place_of query t choice other
  name_order (CopyOf x j) (CopyOf y k) is is' (inl less) = earlier (CopyOf x j) (CopyOf y k) is is' less
  name_order (CopyOf x j) (CopyOf y k) is is' (inr (same, less)) = omega (arith, less, ap (before template pieces) same)
  name_order (CopyOf x j) (InMember y other) is is' less = earlier (CopyOf x j) (InMember y other) is is' less
  name_order (CopyOf x j) (HydrogenAt y k) is is' less = earlier (CopyOf x j) (HydrogenAt y k) is is' less
  name_order (InMember x name) (CopyOf y k) is is' less = earlier (InMember x name) (CopyOf y k) is is' less
  name_order (InMember x name) (InMember y other) is is' (inl less) = earlier (InMember x name) (InMember y other) is is' less
  name_order (InMember x name) (InMember y other) (at, u, within, is, named) (at', v, beside, is', named') (inr (same, less)) =
      let there : IsNameThere query u within other = moved_in query t choice (λ w c. IsNameThere query w c other) x y u v within beside same is is' named' in
      let here : stand query t choice y ≡ ByMember u within = ap (stand query t choice) (sym same) ∙ is in
      let inside = (inner x u within is).in_order name other named there less in
      omega (arith, inside, place_in query t choice x u within name is, place_in query t choice y u within other here, ap (before template pieces) same)
  name_order (InMember x name) (HydrogenAt y k) is is' less = earlier (InMember x name) (HydrogenAt y k) is is' less
  name_order (HydrogenAt x j) (CopyOf y k) is is' less = earlier (HydrogenAt x j) (CopyOf y k) is is' less
  name_order (HydrogenAt x j) (InMember y other) is is' less = earlier (HydrogenAt x j) (InMember y other) is is' less
  name_order (HydrogenAt x j) (HydrogenAt y k) is is' (inl less) = earlier (HydrogenAt x j) (HydrogenAt y k) is is' less
  name_order (HydrogenAt x j) (HydrogenAt y k) is is' (inr (same, less)) = omega (arith, less, ap (before template pieces) same)
