-- Templates of which each atom becomes one atom, and the laws on what is drawn.
--     without_slots, links_once      the laws
use Rattle.std.proofs.Common.{◌≡◌, ◌∙◌, ℕ, zero, suc, ◌+◌, ◌-◌, ◌≤◌, Bool, true, false, cond, ◌||◌, List, [], ◌∷◌, ◌++◌, Some, length, get_or, map, replicate, take, refl, sym, ap, subst, arith, All}
use Rattle.std.specs.Prelude.{slice_get}
use Rattle.std.specs.List.{flat_map, zip}
use Rattle.std.proofs.lemmas.List.{append-nil, map_more, take_all}
use Rattle.std.proofs.lemmas.List.Sums.{sum_by-cons}
use Rattle.mk_model.specs.declared.atom_test.AtomTest.{AtomTest}
use Rattle.mk_model.specs.declared.graph.GraphAtom.{GraphAtom}
use Rattle.mk_model.specs.declared.template.QueryBond.{QueryBond}
use Rattle.mk_model.specs.declared.template.Slot.{Slot}
use Rattle.mk_model.specs.declared.template.Slot.TheVariants.{Link, Site}
use Rattle.mk_model.specs.Codes.{IsChoice}
use Rattle.mk_model.specs.Expansions.{all_within, anything, atoms_of, atoms_of_piece, bond_between, bonds_within, chained, copied, copies, drawn, expansion, free_ends, frees_of, is_hydrogens, is_inside, is_nothing, joined, pieces_of, spanned, template_of}
use Rattle.mk_model.specs.Pieces.{Piece, before, end_of, ending, is_far_of, piece, piece_numbered, room, taker, width}
use Rattle.mk_model.specs.Pieces.Piece.{Copies}
use Rattle.mk_model.specs.Queries.{QueryView, slots_of}
use Rattle.mk_model.specs.QueryFits.{QueryFits}
use Rattle.mk_model.specs.Templates.{TemplateView, slot_atom}
use Rattle.mk_model.proofs.ForCallers.{place_within}
use Rattle.mk_pieces.specs.Drawn.{LinksThatStandOnce, WithoutSlots, as_drawn, once_each}
use Rattle.mk_pieces.specs.Kept.{IsTemplate}
use Rattle.mk_pieces.specs.Rooms.{IsWithin}
use Rattle.mk_pieces.proofs.JoinedLemmas.{atoms_more, atoms_none}
use Rattle.mk_pieces.proofs.DrawnLemmas.{drawn_inside, drawn_outside}
use Rattle.mk_pieces.proofs.ChoiceFits.{kept_template}
use Rattle.mk_pieces.proofs.SpanLemmas.{room_more, room_none}
use Rattle.mk_pieces.proofs.TemplateLemmas.{bonds_within as template_bonds_within}

-- an atom without free ends
abbrev pub plain : AtomTest → GraphAtom
plain test = record { test = test; free = 0 }

-- ---- each atom becomes one atom

module _ (template : TemplateView) (kept : IsTemplate template) (pieces : List Piece) (one : (x : ℕ) → width (piece template pieces x) ≡ 1)
    (near : (x y : ℕ) → 1 ≤ y → end_of (piece template pieces x) (is_far_of template.slots (taker template x) x y) ≡ 1) where
  room_is : (n : ℕ) → room template pieces n ≡ n
  room_is zero = room_none template pieces
  room_is (suc n) = (let next : suc n ≡ n + 1 = omega arith in rw next (omega (arith, room_more template pieces n, room_is n, one (n + 1))))

  ending_is : (x y : ℕ) → 1 ≤ x → 1 ≤ y → ending template pieces x y ≡ x
  unfolding ending
  ending_is x y least least' = omega (arith, room_is (x - 1), near x y least')

  before_is : (x : ℕ) → 1 ≤ x → room template pieces (x - 1) + 1 ≡ x
  before_is x least = omega (arith, room_is (x - 1))

  points_are : (points : List ℕ) → All (λ x. 1 ≤ x) points → map (λ x. before template pieces x + 1) points ≡ points
  points_are [] all = refl
  points_are (x ∷ points) all =
      ap (λ (y : ℕ). y ∷ map (λ z. before template pieces z + 1) points) (before_is x (all 0 x (omega arith)))
      ∙ ap (λ (ys : List ℕ). x ∷ ys) (points_are points (λ k d below. all (suc k) d (omega arith)))

  -- what a bond becomes
  abbrev asked : QueryBond → QueryBond
  asked bond =
      cond (is_hydrogens (piece template pieces bond.first) || is_hydrogens (piece template pieces bond.second)) (bond_between bond.first bond.second 1 0)
      (bond_between bond.first bond.second bond.kind bond.topology)

  module _ (some : (x : ℕ) → is_nothing (piece template pieces x) ≡ false)
      (inside : (bond : QueryBond) → IsWithin template bond → is_inside template bond ≡ true
      → (is_hydrogens (piece template pieces bond.first) || is_hydrogens (piece template pieces bond.second)) ≡ false) where
    one_copy : (bond : QueryBond) → IsWithin template bond
        → copied bond (before template pieces bond.first) (before template pieces bond.second) 1 ≡ bond_between bond.first bond.second bond.kind bond.topology ∷ []
    unfolding copied
    one_copy bond within =
        ap (λ (x : ℕ). bond_between x (room template pieces (bond.second - 1) + 1) bond.kind bond.topology ∷ []) (before_is bond.first within.first.0)
        ∙ ap (λ (y : ℕ). bond_between bond.first y bond.kind bond.topology ∷ []) (before_is bond.second within.second.0)

    one_spanned : (p q : Piece) (bond : QueryBond) → is_nothing p ≡ false → is_nothing q ≡ false
        → spanned p q bond bond.first bond.second ≡ cond (is_hydrogens p || is_hydrogens q) (bond_between bond.first bond.second 1 0) (bond_between bond.first bond.second bond.kind bond.topology) ∷ []
    one_spanned p q bond e f = rw (e, f) (by (is_hydrogens p || is_hydrogens q))
      where
        by : (b : Bool) → cond b (bond_between bond.first bond.second 1 0 ∷ []) (bond_between bond.first bond.second bond.kind bond.topology ∷ [])
            ≡ cond b (bond_between bond.first bond.second 1 0) (bond_between bond.first bond.second bond.kind bond.topology) ∷ []
        by true = refl
        by false = refl

    drawn_is : (bond : QueryBond) → IsWithin template bond → drawn template pieces bond ≡ asked bond ∷ []
    drawn_is bond within = by (is_inside template bond) refl
      where
        by : (b : Bool) → is_inside template bond ≡ b → drawn template pieces bond ≡ asked bond ∷ []
        by true e = drawn_inside template pieces bond e ∙ rw (one bond.first, inside bond within e) (one_copy bond within)
        by false e =
            drawn_outside template pieces bond e
            ∙ rw (ending_is bond.first bond.second within.first.0 within.second.0, ending_is bond.second bond.first within.second.0 within.first.0)
            (one_spanned (piece template pieces bond.first) (piece template pieces bond.second) bond (some bond.first) (some bond.second))

    bonds_are : (bonds : List QueryBond) → All (IsWithin template) bonds → flat_map (drawn template pieces) bonds ≡ map asked bonds
    bonds_are [] all = refl
    bonds_are (bond ∷ bonds) all = rw (drawn_is bond (all 0 bond (omega arith))) (ap (λ (bs : List QueryBond). asked bond ∷ bs) (bonds_are bonds (λ k d below. all (suc k) d (omega arith))))

    module _ (tests : List AtomTest) (size : length tests ≡ length template.atoms)
        (each : (x : ℕ) → 1 ≤ x → x ≤ length template.atoms → atoms_of_piece template pieces x (piece template pieces x) ≡ plain (get_or tests (x - 1) anything) ∷ []) where
      atoms_are : (n : ℕ) → n ≤ length template.atoms → atoms_of template pieces n ≡ map plain (take n tests)
      atoms_are zero within = atoms_none template pieces
      atoms_are (suc n) within =
          let next : suc n ≡ n + 1 = omega arith in
          let place : n + 1 - 1 ≡ n = omega arith in
          let here : atoms_of_piece template pieces (n + 1) (piece template pieces (n + 1)) ≡ plain (get_or tests n anything) ∷ [] =
          each (n + 1) (omega arith) (omega arith) ∙ ap (λ (k : ℕ). plain (get_or tests k anything) ∷ []) place in
          rw next (atoms_more template pieces n ∙ ap (λ (s : List GraphAtom). s ++ atoms_of_piece template pieces (n + 1) (piece template pieces (n + 1))) (atoms_are n (omega arith))
          ∙ ap (λ (s : List GraphAtom). map plain (take n tests) ++ s) here ∙ sym (map_more plain tests n anything (omega (arith, size))))

      pub joined_is : all_within template pieces template.slots pieces ≡ [] → joined template pieces ≡ record { atoms = map plain tests; bonds = map asked template.bonds; points = template.points }
      unfolding joined
      joined_is none =
          let atoms : atoms_of template pieces (length template.atoms) ≡ map plain tests = atoms_are (length template.atoms) (omega arith)
          ∙ ap (map plain) (take_all (length template.atoms) tests (omega (arith, size))) in
          let bonds : flat_map (drawn template pieces) template.bonds ++ all_within template pieces template.slots pieces ≡ map asked template.bonds =
          ap (λ (s : List QueryBond). flat_map (drawn template pieces) template.bonds ++ s) none ∙ append-nil (flat_map (drawn template pieces) template.bonds)
          ∙ bonds_are template.bonds (template_bonds_within template kept) in
          let points : map (λ x. before template pieces x + 1) template.points ≡ template.points = points_are template.points (λ k d below. (kept.points k d below).0) in
          ap (λ (s : List GraphAtom). record {
            atoms = s;
            bonds = flat_map (drawn template pieces) template.bonds ++ all_within template pieces template.slots pieces;
            points =
                map (λ x. before template pieces x + 1) template.points;
          }) atoms
          ∙ ap (λ (s : List QueryBond). record { atoms = map plain tests; bonds = s; points = map (λ x. before template pieces x + 1) template.points }) bonds
          ∙ ap (λ (s : List ℕ). record { atoms = map plain tests; bonds = map asked template.bonds; points = s }) points

-- one copy of an atom at which no end is free
pub one_copy_of : (template : TemplateView) (pieces : List Piece) (x : ℕ) → free_ends template pieces template.slots pieces (before template pieces x + 1) ≡ 0
    → atoms_of_piece template pieces x (Copies 1) ≡ plain (get_or template.atoms (x - 1) anything) ∷ []
unfolding copies
one_copy_of template pieces x free = ap (λ (n : ℕ). record { test = get_or template.atoms (x - 1) anything; free = n } ∷ []) free

pub same_bonds : (f g : QueryBond → QueryBond) (bonds : List QueryBond) → ((bond : QueryBond) → f bond ≡ g bond) → map f bonds ≡ map g bonds
same_bonds f g [] same = refl
same_bonds f g (bond ∷ bonds) same = ap (λ (b : QueryBond). b ∷ map f bonds) (same bond) ∙ ap (λ (bs : List QueryBond). g bond ∷ bs) (same_bonds f g bonds same)

-- ---- links that stand once

pub pieces_once : (query : QueryView) (slots : List Slot) → pieces_of query slots (once_each slots) ≡ replicate (length slots) (Copies 1)
unfolding pieces_of
pieces_once query [] = refl
pieces_once query (slot ∷ slots) = ap (λ (ps : List Piece). Copies 1 ∷ ps) (pieces_once query slots)

copy_at : (m k : ℕ) → get_or (replicate m (Copies 1)) k (Copies 1) ≡ Copies 1
copy_at zero k = refl
copy_at (suc m) zero = refl
copy_at (suc m) (suc k) = copy_at m k

copy_numbered : (m n : ℕ) → piece_numbered (replicate m (Copies 1)) n ≡ Copies 1
copy_numbered m zero = refl
copy_numbered m (suc k) = copy_at m k

slot_within : (bonds : List QueryBond) (x : ℕ) (slot : Slot) → bonds_within bonds x slot (Copies 1) ≡ []
unfolding chained
slot_within bonds x (Link atom most from to) = refl
slot_within bonds x (Site atom groups first second) = refl

slot_frees : (template : TemplateView) (pieces : List Piece) (p : ℕ) (slot : Slot) → frees_of template pieces p slot (Copies 1) ≡ 0
slot_frees template pieces p (Link atom most from to) = refl
slot_frees template pieces p (Site atom groups first second) = refl

none_within : (template : TemplateView) (pieces : List Piece) (slots : List Slot) → all_within template pieces slots (replicate (length slots) (Copies 1)) ≡ []
unfolding all_within
none_within template pieces [] = refl
none_within template pieces (slot ∷ slots) = rw (slot_within template.bonds (before template pieces (slot_atom slot)) slot) (none_within template pieces slots)

none_free : (template : TemplateView) (pieces : List Piece) (slots : List Slot) (p : ℕ) → free_ends template pieces slots (replicate (length slots) (Copies 1)) p ≡ 0
unfolding free_ends
none_free template pieces [] p = refl
none_free template pieces (slot ∷ slots) p =
    let rest = none_free template pieces slots p in
    let here = slot_frees template pieces p slot in
    let step = sum_by-cons (λ (s : Slot × Piece). frees_of template pieces p s.0 s.1) (slot, Copies 1) (zip slots (replicate (length slots) (Copies 1))) in
    omega (arith, rest, here, step)

module _ (template : TemplateView) (kept : IsTemplate template) where
  copies_of : List Piece
  copies_of = replicate (length template.slots) (Copies 1)

  pub all_once : joined template (replicate (length template.slots) (Copies 1)) ≡ as_drawn template
  all_once =
      let ps : List Piece = replicate (length template.slots) (Copies 1) in
      let is : (x : ℕ) → piece template (replicate (length template.slots) (Copies 1)) x ≡ Copies 1 = λ x. copy_numbered (length template.slots) (taker template x) in
      let whole = joined_is template kept (replicate (length template.slots) (Copies 1)) (λ x. ap width (is x)) (λ x y least. rw (is x) (ends (is_far_of template.slots (taker template x) x y)))
      (λ x. ap is_nothing (is x)) (λ bond within e. rw (is bond.first, is bond.second) refl) template.atoms refl
      (λ x least most. rw (is x) (one_copy_of template (replicate (length template.slots) (Copies 1)) x (none_free template (replicate (length template.slots) (Copies 1)) template.slots _)))
      (none_within template (replicate (length template.slots) (Copies 1)) template.slots) in
      whole ∙ ap (λ (bs : List QueryBond). record { atoms = map plain template.atoms; bonds = bs; points = template.points })
      (same_bonds _ (λ bond. bond_between bond.first bond.second bond.kind bond.topology) template.bonds (λ bond. rw (is bond.first, is bond.second) refl))
    where
      ends : (far : Bool) → end_of (Copies 1) far ≡ 1
      ends true = refl
      ends false = refl

-- the template that stands there is kept
pub found_is : (query : QueryView) (t : ℕ) (template : TemplateView) → slice_get query.templates t ≡ Some template → template_of query t ≡ template
found_is query t template at = rw at refl

pub slots_found : (query : QueryView) (t : ℕ) (template : TemplateView) → slice_get query.templates t ≡ Some template → slots_of query t ≡ template.slots
slots_found query t template at = rw at refl

pub found_kept : (query : QueryView) → QueryFits query → (t : ℕ) (template : TemplateView) → slice_get query.templates t ≡ Some template → IsTemplate template
found_kept query fits t template at = subst IsTemplate (found_is query t template at) (kept_template query fits t (place_within query.templates t template at))

pub links_once : LinksThatStandOnce
unfolding expansion
links_once query t template fits at made =
    rw (found_is query t template at, slots_found query t template at, pieces_once query template.slots) (all_once template (found_kept query fits t template at))

pub without_slots : WithoutSlots
without_slots query t template fits at none =
    let made : IsChoice query template.slots (once_each template.slots) = rw none tt in
    subst (λ (slots : List Slot). expansion query t (once_each slots) ≡ as_drawn template) none (links_once query t template fits at made)
