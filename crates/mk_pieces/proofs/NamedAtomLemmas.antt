-- The atoms of an expansion are those that their names say.
--     frees_are         a copy has the free ends of the vacant sites that face it
--     name_named        so each named atom stands at its place
use Rattle.std.proofs.Common.{◌≡◌, ◌≢◌, ◌∙◌, ℕ, zero, suc, ◌+◌, ◌-◌, ◌<◌, ◌≤◌, inl, inr, Bool, true, false, cond, ◌&&◌, ◌||◌, eqb, List, [], ◌∷◌, Some, length, get_or, refl, sym, ap, subst, arith}
use Rattle.std.specs.Prelude.{Contains, count_by, slice_get, sum_by}
use Rattle.std.specs.List.{zip}
use Rattle.std.proofs.lemmas.Bool.{cases_eq, cases_lt}
use Rattle.std.proofs.lemmas.Bool.Decides.{nat_tests}
use Rattle.std.proofs.lemmas.List.{get_or-append-add, get_or_append_left, get_or-replicate}
use Rattle.std.proofs.lemmas.List.Elements.{All-contains, Contains-get_or}
use Rattle.std.proofs.lemmas.List.Sums.{sum_by-cons}
use Rattle.mk_model.specs.declared.graph.GraphAtom.{GraphAtom}
use Rattle.mk_model.specs.declared.template.Slot.{Slot}
use Rattle.mk_model.specs.declared.template.Slot.TheVariants.{Link, Site}
use Rattle.mk_model.specs.Codes.{Choice, IsChoice}
use Rattle.mk_model.specs.Expansions.{anything, atoms_of, atoms_of_piece, copies, ends_there, expansion, free_ends, frees_of, hydrogen, joined, pieces_of, template_of}
use Rattle.mk_model.specs.Pieces.{Piece, before, ending, piece, room, width}
use Rattle.mk_model.specs.Pieces.Piece.{Copies, Member, Hydrogens}
use Rattle.mk_model.specs.Queries.{QueryView, slots_of}
use Rattle.mk_model.specs.QueryFits.{AreNeighbours, IsAtomOf, QueryFits}
use Rattle.mk_model.specs.Templates.{TemplateView, slot_atom}
use Rattle.mk_model.proofs.ForCallers.{at_place, place_is}
use Rattle.mk_pieces.specs.Kept.{IsSlotOf, IsTemplate}
use Rattle.mk_pieces.specs.Names.{IsAtomNamed, IsNameThere, Name, Stand, faces_far, frees, is_end_copy, is_vacant, stand}
use Rattle.mk_pieces.specs.Names.Name.{CopyOf, HydrogenAt, InMember}
use Rattle.mk_pieces.specs.Names.Stand.{ByHydrogens, ByMember, Times, Vacant}
use Rattle.mk_pieces.proofs.JoinedLemmas.{atoms_more, length_atoms, slot_piece}
use Rattle.mk_pieces.proofs.ChoiceFits.{kept_template, template_fit}
use Rattle.mk_pieces.proofs.EndLemmas.{EndsAt, beside_site, end_named, one_end}
use Rattle.mk_pieces.proofs.SpanLemmas.{IsOf, one_atom, room_of, room_within}
use Rattle.mk_pieces.proofs.NameLemmas.{Placed, becomes, copy_there, hydrogen_there, of_name, piece_is, place_in, place_of}
use Rattle.mk_pieces.proofs.NumberLemmas.{mapped_at}
use Rattle.mk_pieces.proofs.PieceLemmas.{fit_length}
use Rattle.mk_pieces.proofs.TemplateLemmas.{joined_within}

-- ---- sums over slots with their pieces

sums_are : (f : Slot × Piece → ℕ) (g : Slot → ℕ) (slots : List Slot) (ps : List Piece) → length ps ≡ length slots
    → ((k : ℕ) → k < length slots → f (get_or slots k (Link 0 0 0 0), get_or ps k (Copies 1)) ≡ g (get_or slots k (Link 0 0 0 0))) → sum_by f (zip slots ps) ≡ sum_by g slots
sums_are f g [] ps size each = refl
sums_are f g (slot ∷ slots) [] size each = absurd (omega arith)
sums_are f g (slot ∷ slots) (p ∷ ps) size each =
    let rest = sums_are f g slots ps (omega arith) (λ k below. each (suc k) (omega arith)) in
    let here : f (slot, p) ≡ g slot = each 0 (omega arith) in
    omega (arith, here, rest, sum_by-cons f (slot, p) (zip slots ps), sum_by-cons g slot slots)

-- 1 where it is so
abbrev one_if : Bool → ℕ
one_if b = cond b 1 0

-- one of two neighbours that differ, or neither
one_of_two : (a b e : Bool) → (a ≡ true → b ≡ true → ⊥) → one_if (a && e) + one_if (b && e) ≡ one_if ((a || b) && e)
one_of_two true true e never = absurd (never refl refl)
one_of_two true false true never = refl
one_of_two true false false never = refl
one_of_two false true true never = refl
one_of_two false true false never = refl
one_of_two false false e never = refl

-- ---- one template

module _ (query : QueryView) (fits : QueryFits query) (t : ℕ) (in_query : t < length query.templates) (choice : Choice) (made : IsChoice query (slots_of query t) choice)
    (inner : (x u : ℕ) (within : Choice) → stand query t choice x ≡ ByMember u within → Placed query u within) where
  abbrev template : TemplateView
  template = template_of query t

  abbrev pieces : List Piece
  pieces = pieces_of query (slots_of query t) choice

  kept : IsTemplate template
  kept = kept_template query fits t in_query

  -- ---- free ends

  -- a vacant site leaves a free end at a neighbour where its bond would end
  neighbour_frees : (x j : ℕ) → IsNameThere query t choice (CopyOf x j) → (atom : ℕ) (groups : List ℕ) (first second y : ℕ) → Contains template.slots (Site atom groups first second)
      → AreNeighbours template atom y → y ≢ 0 → 1 ≤ atom
      → ends_there template pieces (before template pieces x + j) atom y ≡ one_if (eqb y x && is_end_copy (stand query t choice x) (faces_far query t x atom) j)
  neighbour_frees x j named atom groups first second y held beside some least =
      rw (guard, tests_are) refl
    where
      n : ℕ
      n = (beside_site query fits t in_query choice made atom groups first second y held beside).0

      stands : stand query t choice y ≡ Times n
      stands = (beside_site query fits t in_query choice made atom groups first second y held beside).1

      at : IsAtomOf template y
      at = (omega (arith, some), joined_within template kept atom y beside)

      end : EndsAt query fits t in_query choice made y atom
      end = end_named query fits t in_query choice made inner y atom at least (ap is_vacant stands)

      far : Bool
      far = faces_far query t y atom

      name_is : end.name ≡ CopyOf y (cond far n 1)
      name_is = one_end query y (stand query t choice y) far end.name (CopyOf y (cond far n 1)) end.at (rw stands refl)

      place : ending template pieces y atom ≡ before template pieces y + cond far n 1
      place = end.place ∙ ap (place_of query t choice) name_is

      of_end : IsOf template pieces y (ending template pieces y atom)
      of_end = subst (IsOf template pieces y) (sym place) (of_name query t choice made inner (CopyOf y (cond far n 1)) (subst (IsNameThere query t choice) name_is end.is))

      guard : eqb y 0 ≡ false
      guard = grind (arith, nat_tests)

      tests_are : eqb (ending template pieces y atom) (before template pieces x + j) ≡ eqb y x && is_end_copy (stand query t choice x) (faces_far query t x atom) j
      tests_are = elim (cases_eq y x) [
        | inl same ↦ (let yes : eqb y x ≡ true = grind (arith, nat_tests) in
            rw yes (rw place (subst (λ (z : ℕ). eqb (before template pieces y + cond far n 1) (before template pieces z + j)
            ≡ is_end_copy (stand query t choice z) (faces_far query t z atom) j) same own)))
        | inr other ↦ (let no : eqb y x ≡ false = grind (arith, nat_tests) in rw no (never other))
      ]
        where
          own : eqb (before template pieces y + cond far n 1) (before template pieces y + j) ≡ is_end_copy (stand query t choice y) (faces_far query t y atom) j
          own = rw stands (elim (cases_eq (cond far n 1) j) [
            | inl same ↦ (let yes : eqb (cond far n 1) j ≡ true = grind (arith, nat_tests) in let yes' : eqb (before template pieces y + cond far n 1) (before template pieces y + j) ≡ true =
                grind (arith, nat_tests) in yes' ∙ sym yes)
            | inr other ↦ (let no : eqb (cond far n 1) j ≡ false = grind (arith, nat_tests) in let no' : eqb (before template pieces y + cond far n 1) (before template pieces y + j) ≡ false =
                grind (arith, nat_tests) in no' ∙ sym no)
          ])

          never : y ≢ x → eqb (ending template pieces y atom) (before template pieces x + j) ≡ false
          never other = elim (cases_eq (ending template pieces y atom) (before template pieces x + j)) [
            | inl same ↦ absurd (other (one_atom template pieces y x (ending template pieces y atom) of_end
                (subst (IsOf template pieces x) (sym same) (of_name query t choice made inner (CopyOf x j) named))))
            | inr differ ↦ grind (arith, nat_tests)
          ]

  slot_frees : (x j : ℕ) → IsNameThere query t choice (CopyOf x j) → (slot : Slot) → Contains template.slots slot
      → frees_of template pieces (before template pieces x + j) slot (becomes query (stand query t choice (slot_atom slot))) ≡ one_if (frees query t choice x j slot)
  slot_frees x j named (Link atom most from to) held = refl
  slot_frees x j named (Site atom groups first second) held = by (stand query t choice atom)
    where
      slot : IsSlotOf template (Site atom groups first second)
      slot = All-contains (IsSlotOf template) template.slots (Site atom groups first second) kept.slots held

      end : Bool
      end = is_end_copy (stand query t choice x) (faces_far query t x atom) j

      one : ends_there template pieces (before template pieces x + j) atom first ≡ one_if (eqb first x && end)
      one = neighbour_frees x j named atom groups first second first held ((slot.1.neighbours first).1 (inl refl)) slot.1.some slot.0.0

      two : ends_there template pieces (before template pieces x + j) atom second ≡ one_if (eqb second x && end)
      two = elim (cases_eq second 0) [
        | inl none ↦ (let no : eqb second x ≡ false = (let least = named.0.0 in grind (arith, nat_tests)) in let zero_is : eqb second 0 ≡ true = grind (arith, nat_tests) in rw (no, zero_is) refl)
        | inr some ↦ neighbour_frees x j named atom groups first second second held ((slot.1.neighbours second).1 (inr (refl, some))) some slot.0.0
      ]

      both : ends_there template pieces (before template pieces x + j) atom first + ends_there template pieces (before template pieces x + j) atom second
          ≡ one_if ((eqb first x || eqb second x) && end)
      both =
          let together = one_of_two (eqb first x) (eqb second x) end
          (λ a b. slot.1.differ (let p : first ≡ x = grind (arith, nat_tests) in let q : second ≡ x = grind (arith, nat_tests) in p ∙ sym q)) in
          omega (arith, one, two, together)

      by : (s : Stand) → frees_of template pieces (before template pieces x + j) (Site atom groups first second) (becomes query s) ≡ one_if (is_vacant s && ((eqb first x || eqb second x) && end))
      by (Times n) = refl
      by (ByMember u within) = refl
      by (ByHydrogens n) = refl
      by Vacant = both

  -- a copy has the free ends of the vacant sites that face it
  frees_are : (x j : ℕ) → IsNameThere query t choice (CopyOf x j) → free_ends template pieces template.slots pieces (before template pieces x + j) ≡ count_by (frees query t choice x j) template.slots
  unfolding free_ends
  frees_are x j named =
      sums_are (λ s. frees_of template pieces (before template pieces x + j) s.0 s.1) (λ slot. one_if (frees query t choice x j slot)) template.slots pieces
      (fit_length template.slots pieces (template_fit query fits t in_query choice made))
      (λ k below.
      let slot = get_or template.slots k (Link 0 0 0 0) in
      let here : get_or pieces k (Copies 1) ≡ becomes query (stand query t choice (slot_atom (get_or template.slots k (Link 0 0 0 0)))) =
      sym (slot_piece template kept pieces k below) ∙ piece_is query t choice made (slot_atom (get_or template.slots k (Link 0 0 0 0))) in
      ap (frees_of template pieces (before template pieces x + j) (get_or template.slots k (Link 0 0 0 0))) here
      ∙ slot_frees x j named (get_or template.slots k (Link 0 0 0 0)) (Contains-get_or template.slots k (Link 0 0 0 0) below))

  -- ---- atoms at their places

  atoms_at : (n x j : ℕ) (d : GraphAtom) → 1 ≤ x → x ≤ n → j < width (piece template pieces x)
      → get_or (atoms_of template pieces n) (room template pieces (x - 1) + j) d ≡ get_or (atoms_of_piece template pieces x (piece template pieces x)) j d
  atoms_at zero x j d least most below = absurd (omega arith)
  atoms_at (suc n) x j d least most below =
      let next : suc n ≡ n + 1 = omega arith in
      let long = length_atoms template pieces n in
      rw (next, atoms_more template pieces n) (elim (cases_lt n x) [
        | inl last ↦
            (let same : x ≡ n + 1 = omega arith in
            let place : room template pieces (x - 1) + j ≡ length (atoms_of template pieces n) + j = (let end : x - 1 ≡ n = omega arith in rw (end, long) refl) in
            rw place (get_or-append-add (atoms_of template pieces n) (atoms_of_piece template pieces (n + 1) (piece template pieces (n + 1))) j d
            ∙ ap (λ (z : ℕ). get_or (atoms_of_piece template pieces z (piece template pieces z)) j d) (sym same)))
        | inr early ↦
            (let up = room_within template pieces x n early in
            get_or_append_left (atoms_of template pieces n) (atoms_of_piece template pieces (n + 1) (piece template pieces (n + 1))) d (room template pieces (x - 1) + j)
            (omega (arith, long, up, room_of template pieces x least, below))
            ∙ atoms_at n x j d least early below)
      ])

  expansion_atoms : (expansion query t choice).atoms ≡ atoms_of template pieces (length template.atoms)
  unfolding expansion joined
  expansion_atoms = refl

  -- the atom that stands at a place behind those before an atom of the template
  found_at : (x j : ℕ) (atom : GraphAtom) → IsAtomOf template x → 1 ≤ j → j ≤ width (piece template pieces x)
      → get_or (atoms_of_piece template pieces x (piece template pieces x)) (j - 1) atom ≡ atom
      → slice_get (expansion query t choice).atoms (before template pieces x + j - 1) ≡ Some atom
  found_at x j atom at least most is =
      let long = length_atoms template pieces (length template.atoms) in
      let up = room_within template pieces x (length template.atoms) at.1 in
      let place : before template pieces x + j - 1 ≡ before template pieces x + (j - 1) = omega arith in
      rw (expansion_atoms, place) (at_place (atoms_of template pieces (length template.atoms)) (before template pieces x + (j - 1)) atom (omega (arith, long, up, room_of template pieces x at.0))
      ∙ ap Some (atoms_at (length template.atoms) x (j - 1) atom at.0 at.1 (omega arith) ∙ is))

  -- a copy among copies
  copy_at : (x j n : ℕ) (atom : GraphAtom) → 1 ≤ j → j ≤ n
      → atom ≡ record { test = get_or template.atoms (x - 1) anything; free = free_ends template pieces template.slots pieces (before template pieces x + j) }
      → get_or (atoms_of_piece template pieces x (Copies n)) (j - 1) atom ≡ atom
  unfolding copies
  copy_at x j n atom least most is =
      let f : ℕ → GraphAtom = λ i. record { test = get_or template.atoms (x - 1) anything; free = free_ends template pieces template.slots pieces (before template pieces x + i) } in
      let place : 1 + (j - 1) ≡ j = omega arith in
      mapped_at f n (j - 1) atom (omega arith) ∙ ap f place ∙ sym is

  pub name_named : (name : Name) → IsNameThere query t choice name
      → (atom : GraphAtom) × (slice_get (expansion query t choice).atoms (place_of query t choice name - 1) ≡ Some atom) × IsAtomNamed query t choice name atom
  name_named (CopyOf x j) is =
      let copy = copy_there (stand query t choice x) j is.1 in
      let atom : GraphAtom = record { test = get_or template.atoms (x - 1) anything; free = free_ends template pieces template.slots pieces (before template pieces x + j) } in
      let here : piece template pieces x ≡ Copies copy.count = piece_is query t choice made x ∙ ap (becomes query) copy.is in (
        record { test = get_or template.atoms (x - 1) anything; free = free_ends template pieces template.slots pieces (before template pieces x + j) },
        found_at x j atom is.0 copy.least (omega (arith, ap width here, copy.most)) (rw here (copy_at x j copy.count atom copy.least copy.most refl)),
        (at_place template.atoms (x - 1) anything (omega (arith, is.0.0, is.0.1)), frees_are x j is),
      )
  name_named (InMember x name) (at, u, within, is, named) =
      let placed = inner x u within is in
      let found = placed.named name named in
      let there = placed.there name named in
      let here : piece template pieces x ≡ Member (expansion query u within) = piece_is query t choice made x ∙ ap (becomes query) is in (
        found.0,
        rw (place_in query t choice x u within name is) (found_at x (place_of query u within name) found.0 at there.0 (omega (arith, ap width here, there.1))
            (rw here (place_is (expansion query u within).atoms (place_of query u within name - 1) found.0 found.0 found.1))),
        (u, within, is, found.2),
      )
  name_named (HydrogenAt x k) is =
      let one = hydrogen_there (stand query t choice x) k is.1 in
      let here : piece template pieces x ≡ Hydrogens one.count = piece_is query t choice made x ∙ ap (becomes query) one.is in (
        hydrogen,
        found_at x k hydrogen is.0 one.least (omega (arith, ap width here, one.most)) (rw here (get_or-replicate one.count (k - 1) hydrogen hydrogen (omega (arith, one.least, one.most)))),
        refl,
      )
