-- What a template becomes is a fragment.
--     atoms_none, atoms_more     the atoms of one atom of the template more
--     length_atoms          as many atoms as there is room
--     of_piece              what is so of each piece is so of what an atom becomes
--     joined_fragment       tests, ends and points are in range, and no two bonds join one pair
use Rattle.std.proofs.Common.{◌≡◌, ◌∙◌, ℕ, zero, suc, ◌+◌, ◌-◌, ◌<◌, ◌≤◌, ◌⊎◌, inl, inr, List, [], ◌++◌, Some, pos, length, get_or, refl, sym, ap, subst, arith, All}
use Rattle.std.specs.Prelude.{AllPairs, Contains}
use Rattle.std.specs.List.{flat_map}
use Rattle.std.proofs.lemmas.Int.{ints}
use Rattle.std.proofs.lemmas.List.{get_or-map, length-map, length-append, length-replicate}
use Rattle.std.proofs.lemmas.List.Elements.{All-append, All-map, All-nil, All-replicate, All-contains, Contains-get_or, Contains-append_cases}
use Rattle.mk_model.specs.declared.atom_test.AtomTest.{AtomTest}
use Rattle.mk_model.specs.declared.graph.GraphAtom.{GraphAtom}
use Rattle.mk_model.specs.Pieces.{Piece}
use Rattle.mk_model.specs.Pieces.Piece.{Copies, Member, Hydrogens, Nothing}
use Rattle.mk_model.specs.declared.template.QueryBond.{QueryBond}
use Rattle.mk_model.specs.declared.template.Slot.{Slot}
use Rattle.mk_model.specs.declared.template.Slot.TheVariants.{Link, Site}
use Rattle.mk_model.specs.Edges.{HasEnds, Joins}
use Rattle.mk_model.specs.Templates.{TemplateView, query_edge, query_edges, slot_atom}
use Rattle.mk_model.specs.Expansions.{all_within, anything, atoms_of, atoms_of_piece, copies, drawn, free_ends, hydrogen, joined}
use Rattle.mk_model.specs.Pieces.{Fragment, before, numbers_to, piece, piece_numbered, room, taker, width}
use Rattle.mk_pieces.specs.Fragments.{AreApart, HasRange, IsFragment, IsLowerFirst}
use Rattle.mk_pieces.specs.Kept.{IsTemplate}
use Rattle.mk_model.specs.Tests.{IsTestInRange}
use Rattle.mk_model.proofs.ForCallers.{at_place}
use Rattle.mk_pieces.specs.Rooms.{IsWithin, StandsAt}
use Rattle.mk_pieces.proofs.DrawnLemmas.{drawn_apart, drawn_spans}
use Rattle.mk_pieces.proofs.SpanLemmas.{IsOf, Spans, room_more, room_none, room_of, room_within, same_span}
use Rattle.mk_pieces.proofs.NumberLemmas.{flat_more, mapped_length}
use Rattle.mk_pieces.proofs.PairLemmas.{one_of, pairs_append, pairs_flat_map}
use Rattle.mk_pieces.proofs.PieceLemmas.{FitsSlot, MayAllStand, MayStand, stand_at}
use Rattle.mk_pieces.proofs.TakerLemmas.{no_slot_at, taker_is_slot, taker_of_slot}
use Rattle.mk_pieces.proofs.TemplateLemmas.{bonds_within as template_bonds_within, slots_stand}
use Rattle.mk_pieces.proofs.WithinLemmas.{all_within_apart, all_within_one, within_at, within_both}

-- ---- atoms

length_copies : (template : TemplateView) (pieces : List Piece) (test : AtomTest) (x n : ℕ) → length (copies template pieces test x n) ≡ n
unfolding copies
length_copies template pieces test x n = mapped_length (λ j. record { test = test; free = free_ends template pieces template.slots pieces (x + j) }) n

pub length_piece : (template : TemplateView) (pieces : List Piece) (x : ℕ) (p : Piece) → length (atoms_of_piece template pieces x p) ≡ width p
length_piece template pieces x (Copies n) = length_copies template pieces _ _ n
length_piece template pieces x (Member part) = refl
length_piece template pieces x (Hydrogens n) = length-replicate {A = GraphAtom} n hydrogen
length_piece template pieces x Nothing = refl

-- one atom more
pub atoms_none : (template : TemplateView) (pieces : List Piece) → atoms_of template pieces 0 ≡ []
unfolding atoms_of
atoms_none template pieces = refl

pub atoms_more : (template : TemplateView) (pieces : List Piece) (i : ℕ)
    → atoms_of template pieces (i + 1) ≡ atoms_of template pieces i ++ atoms_of_piece template pieces (i + 1) (piece template pieces (i + 1))
unfolding atoms_of
atoms_more template pieces i = flat_more (λ x. atoms_of_piece template pieces x (piece template pieces x)) i

pub length_atoms : (template : TemplateView) (pieces : List Piece) (n : ℕ) → length (atoms_of template pieces n) ≡ room template pieces n
length_atoms template pieces zero = rw (atoms_none, room_none) refl
length_atoms template pieces (suc n) =
    let next : suc n ≡ n + 1 = omega arith in
    rw (next, atoms_more)
    (omega (
      arith,
      length-append (atoms_of template pieces n) (atoms_of_piece template pieces (n + 1) (piece template pieces (n + 1))),
      length_atoms template pieces n,
      length_piece template pieces
          (n + 1) (piece template pieces (n + 1)),
      room_more template pieces n,
    ))

-- ---- tests

never_one : pos 0 ≡ pos 1 → ⊥
never_one same = omega (arith, ints)

pub hydrogen_in_range : IsTestInRange hydrogen.test
hydrogen_in_range = record {
  kind = (omega arith, omega arith);
  charge = (omega (arith, ints), omega (arith, ints));
  radical = omega arith;
  hydrogens = omega arith;
  ring_bonds = (omega (arith, ints), omega (arith, ints));
  no_single_ring_bond = λ same. never_one same;
  substitution = (omega (arith, ints), omega (arith, ints));
}

test_copies : (template : TemplateView) (pieces : List Piece) (test : AtomTest) (x n : ℕ) → IsTestInRange test → All (λ (atom : GraphAtom). IsTestInRange atom.test) (copies template pieces test x n)
unfolding copies
test_copies template pieces test x n is =
    All-map (λ (atom : GraphAtom). IsTestInRange atom.test) (λ j. record { test = test; free = free_ends template pieces template.slots pieces (x + j) }) (numbers_to n) (λ k d below. is)

-- ---- the whole

no_slot : Slot
no_slot = Link 0 0 0 0

-- what stands at the own atom of a slot
pub slot_piece : (template : TemplateView) → IsTemplate template → (pieces : List Piece) (k : ℕ) → k < length template.slots
    → piece template pieces (slot_atom (get_or template.slots k (Link 0 0 0 0))) ≡ get_or pieces k (Copies 1)
slot_piece template kept pieces k below = (let is = taker_of_slot template kept k (Link 0 0 0 0) below in rw is refl)

-- the bond at a place joins its ends
pub edge_at : (template : TemplateView) (k : ℕ) (d : QueryBond) {x y : ℕ} → k < length template.bonds → HasEnds (query_edge (get_or template.bonds k d)) x y → Joins (query_edges template.bonds) k x y
edge_at template k d below ends =
    let there : k < length (query_edges template.bonds) = omega (arith, length-map template.bonds query_edge) in
    record {
      edge = query_edge (get_or template.bonds k d);
      at = at_place (query_edges template.bonds) k (query_edge d) there ∙ ap Some (get_or-map query_edge template.bonds k d (query_edge d) below);
      ends = ends;
    }

module _ (template : TemplateView) (kept : IsTemplate template) (pieces : List Piece) (stand : MayAllStand template.slots pieces) where
  -- what an atom becomes is one copy, or what may stand for the slot that takes it
  abbrev IsKnown : ℕ → Piece → Type 0
  IsKnown x p = (p ≡ Copies 1) ⊎ ((k : ℕ) × (k < length template.slots) × (taker template x ≡ suc k) × MayStand (get_or template.slots k no_slot) p)

  known : (x : ℕ) → IsKnown x (piece template pieces x)
  known x = by (taker template x) refl
    where
      by : (n : ℕ) → taker template x ≡ n → IsKnown x (piece_numbered pieces n)
      by zero is = inl refl
      by (suc k) is = (let found = taker_is_slot template x k is in inr (k, found.within, is, stand_at template.slots pieces k no_slot (Copies 1) found.within stand))

  -- what is so of each piece that may stand for a slot is so of what an atom becomes
  pub of_piece : (P : Piece → Type 0) → ((n : ℕ) → P (Copies n)) → ((part : Fragment) → IsFragment part → P (Member part)) → ((n : ℕ) → P (Hydrogens n)) → P Nothing → (x : ℕ)
      → P (piece template pieces x)
  of_piece P copied member hydrogens none x = by (taker template x) refl
    where
      fitting : (slot : Slot) (p : Piece) → FitsSlot slot p → P p
      fitting (Link atom most from to) (Copies n) is = copied n
      fitting (Link atom most from to) (Member part) is = absurd is
      fitting (Link atom most from to) (Hydrogens n) is = absurd is
      fitting (Link atom most from to) Nothing is = absurd is
      fitting (Site atom groups first second) (Copies n) is = absurd is
      fitting (Site atom groups first second) (Member part) is = member part is.0
      fitting (Site atom groups first second) (Hydrogens n) is = hydrogens n
      fitting (Site atom groups first second) Nothing is = none

      standing : (slot : Slot) (p : Piece) → MayStand slot p → P p
      standing slot p (inl is) = subst P (sym is) none
      standing slot p (inr is) = fitting slot p is

      by : (n : ℕ) → taker template x ≡ n → P (piece_numbered pieces n)
      by zero is = copied 1
      by (suc k) is =
          let found = taker_is_slot template x k is in
          standing (get_or template.slots k no_slot) (get_or pieces k (Copies 1)) (stand_at template.slots pieces k no_slot (Copies 1) found.within stand)

  tests_piece : (x : ℕ) → 1 ≤ x → x ≤ length template.atoms → All (λ (atom : GraphAtom). IsTestInRange atom.test) (atoms_of_piece template pieces x (piece template pieces x))
  tests_piece x least most = of_piece (λ p. All (λ (atom : GraphAtom). IsTestInRange atom.test) (atoms_of_piece template pieces x p))
      (λ n. test_copies template pieces _ _ n (kept.tests (x - 1) anything (omega arith))) (λ part is. is.tests)
      (λ n. All-replicate (λ (atom : GraphAtom). IsTestInRange atom.test) n hydrogen hydrogen_in_range) (All-nil (λ (atom : GraphAtom). IsTestInRange atom.test)) x

  tests_atoms : (n : ℕ) → n ≤ length template.atoms → All (λ (atom : GraphAtom). IsTestInRange atom.test) (atoms_of template pieces n)
  tests_atoms zero up_to = rw atoms_none (All-nil (λ (atom : GraphAtom). IsTestInRange atom.test))
  tests_atoms (suc n) up_to =
      let next : suc n ≡ n + 1 = omega arith in
      rw (next, atoms_more) (All-append (λ (atom : GraphAtom). IsTestInRange atom.test) (atoms_of template pieces n) _ (tests_atoms n (omega arith)) (tests_piece (n + 1) (omega arith) (omega arith)))

  -- ---- bonds

  -- the bonds of the template, and those within slots
  abbrev outer : List QueryBond
  outer = flat_map (drawn template pieces) template.bonds

  abbrev inner : List QueryBond
  inner = all_within template pieces template.slots pieces

  bond_known : (bond : QueryBond) → Contains template.bonds bond → IsWithin template bond × HasRange bond
  bond_known bond at = (All-contains (IsWithin template) template.bonds bond (template_bonds_within template kept) at, All-contains HasRange template.bonds bond kept.bond_tests at)

  slot_both : (k : ℕ) → k < length template.slots
      → ((b : QueryBond) → Contains (within_at template pieces template.slots pieces k) b
      → Spans template pieces (slot_atom (get_or template.slots k no_slot)) (slot_atom (get_or template.slots k no_slot)) b)
      × AllPairs AreApart (within_at template pieces template.slots pieces k)
  unfolding no_slot
  slot_both k below =
      within_both template pieces kept.bond_tests (get_or template.slots k no_slot) (get_or pieces k (Copies 1)) (slots_stand template kept k no_slot below).0
      (slot_piece template kept pieces k below) (stand_at template.slots pieces k no_slot (Copies 1) below stand)

  -- two bonds of the template are of different pairs
  two_pairs : AllPairs (λ (b c : QueryBond). ((b.first ≡ c.first) × (b.second ≡ c.second)) ⊎ ((b.first ≡ c.second) × (b.second ≡ c.first)) → ⊥) template.bonds
  two_pairs = λ i j d less below same.
      let b = get_or template.bonds i d in
      let c = get_or template.bonds j d in
      let one : Joins (query_edges template.bonds) i b.first b.second = edge_at template i d (omega arith) (inl (refl, refl)) in
      let other : Joins (query_edges template.bonds) j b.first b.second = edge_at template j d below (elim same [ inl s ↦ inl (sym s.0, sym s.1) | inr s ↦ inr (sym s.1, sym s.0) ]) in
      omega (arith, kept.graph.once i j b.first b.second one other)

  outer_apart : AllPairs AreApart outer
  outer_apart = pairs_flat_map AreApart (drawn template pieces) template.bonds
      (λ bond at. (let is = bond_known bond at in drawn_apart template pieces stand bond is.0 is.1))
      (λ i j d less below b c in_b in_c first second.
      let bond = get_or template.bonds i d in
      let other = get_or template.bonds j d in
      let is = bond_known bond (Contains-get_or template.bonds i d (omega arith)) in
      let is' = bond_known other (Contains-get_or template.bonds j d below) in
      two_pairs i j d less below (same_span template pieces bond.first bond.second other.first other.second b c
      (drawn_spans template pieces stand bond is.0 is.1 b in_b) (drawn_spans template pieces stand other is'.0 is'.1 c in_c) first second))

  inner_apart : AllPairs AreApart inner
  unfolding no_slot
  inner_apart = all_within_apart template pieces template.slots pieces (λ k below. (slot_both k below).1)
      (λ j k less below b c in_b in_c first second.
      let a = slot_atom (get_or template.slots j no_slot) in
      let a' = slot_atom (get_or template.slots k no_slot) in
      let rise : a < a' = kept.slots_rise j k no_slot less below in
      let same = same_span template pieces a a a' a' b c ((slot_both j (omega arith)).0 b in_b) ((slot_both k below).0 c in_c) first second in
      elim same [ inl s ↦ omega (arith, s.0) | inr s ↦ omega (arith, s.0) ])

  outer_one : (b : QueryBond) → Contains outer b → (bond : QueryBond) × Contains template.bonds bond × Spans template pieces bond.first bond.second b
  outer_one b at =
      let found = one_of (drawn template pieces) template.bonds b at in
      let is = bond_known found.0 found.1 in
      (found.0, found.1, drawn_spans template pieces stand found.0 is.0 is.1 b found.2)

  inner_one : (b : QueryBond) → Contains inner b
      → (k : ℕ) × (k < length template.slots) × Spans template pieces (slot_atom (get_or template.slots k no_slot)) (slot_atom (get_or template.slots k no_slot)) b
  unfolding no_slot
  inner_one b at = (let found = all_within_one template pieces template.slots pieces b at in (found.0, found.1, (slot_both found.0 found.1).0 b found.2))

  bonds_apart : AllPairs AreApart (outer ++ inner)
  bonds_apart = pairs_append AreApart outer inner outer_apart inner_apart
      (λ b c in_b in_c first second.
      let one = outer_one b in_b in
      let two = inner_one c in_c in
      let within = (bond_known one.0 one.1).0 in
      let a = slot_atom (get_or template.slots two.0 no_slot) in
      let same = same_span template pieces one.0.first one.0.second a a b c one.2 two.2 first second in
      elim same [ inl s ↦ within.differ (s.0 ∙ sym s.1) | inr s ↦ within.differ (s.0 ∙ sym s.1) ])

  -- the ends of a bond are among all atoms
  spans_within : (u v : ℕ) (b : QueryBond) → u ≤ length template.atoms → v ≤ length template.atoms → Spans template pieces u v b → IsLowerFirst (room template pieces (length template.atoms)) b
  spans_within u v b up_to up_to' spans = by spans.ends
    where
      by : (IsOf template pieces u b.first × IsOf template pieces v b.second) ⊎ (IsOf template pieces u b.second × IsOf template pieces v b.first)
          → IsLowerFirst (room template pieces (length template.atoms)) b
      by (inl s) = (let up = room_within template pieces v (length template.atoms) up_to' in record { least = omega (arith, s.0.above); less = spans.less; most = omega (arith, s.1.upto) })
      by (inr s) = (let up = room_within template pieces u (length template.atoms) up_to in record { least = omega (arith, s.1.above); less = spans.less; most = omega (arith, s.0.upto) })

  each_bond : (b : QueryBond) → Contains (outer ++ inner) b → IsLowerFirst (room template pieces (length template.atoms)) b × HasRange b
  each_bond b at = elim (Contains-append_cases outer inner b at) [
    | inl here ↦ (let one = outer_one b here in let within = (bond_known one.0 one.1).0 in (spans_within one.0.first one.0.second b within.first.1 within.second.1 one.2, one.2.test))
    | inr here ↦
        (let two = inner_one b here in
        let stands : StandsAt template (get_or template.slots two.0 no_slot) = slots_stand template kept two.0 no_slot two.1 in
        (spans_within _ _ b stands.1 stands.1 two.2, two.2.test))
  ]

  -- ---- points

  point_wide : (x : ℕ) → Contains template.points x → 1 ≤ width (piece template pieces x)
  point_wide x at = by (piece template pieces x) (known x)
    where
      by : (p : Piece) → IsKnown x p → 1 ≤ width p
      by p (inl one) = omega (arith, ap width one)
      by p (inr found) =
          let taken = taker_is_slot template x found.0 found.2 in
          absurd (no_slot_at template kept x at (get_or template.slots found.0 no_slot) (Contains-get_or template.slots found.0 no_slot found.1)
          (kept.blocks_closed found.0 no_slot found.1) (taken.takes no_slot))

  point_within : (x : ℕ) → Contains template.points x → (1 ≤ x) × (x ≤ length template.atoms)
      → (1 ≤ before template pieces x + 1) × (before template pieces x + 1 ≤ length (atoms_of template pieces (length template.atoms)))
  point_within x at is =
      let up = room_within template pieces x (length template.atoms) is.1 in
      (omega arith, omega (arith, length_atoms template pieces (length template.atoms), room_of template pieces x is.0, point_wide x at))

  -- ---- the fragment

  pub joined_fragment : IsFragment (joined template pieces)
  unfolding joined
  joined_fragment = record {
    tests = tests_atoms (length template.atoms) (omega arith);
    bond_tests = λ k d below. (each_bond (get_or (outer ++ inner) k d) (Contains-get_or (outer ++ inner) k d below)).1;
    ends = λ k d below. rw (length_atoms template pieces (length template.atoms)) ((each_bond (get_or (outer ++ inner) k d) (Contains-get_or (outer ++ inner) k d below)).0);
    apart = bonds_apart;
    points = All-map (λ y. (1 ≤ y) × (y ≤ length (atoms_of template pieces (length template.atoms)))) (λ x. before template pieces x + 1) template.points
        (λ k d below. point_within (get_or template.points k d) (Contains-get_or template.points k d below) (kept.points k d below));
  }
