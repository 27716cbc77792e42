-- One template: what it becomes in a part is shared with what it becomes in the whole.
--     loosened_at      atoms with their loose ends
--     level_shared     the theorem
use Rattle.std.proofs.Common.{◌≡◌, ◌∙◌, ℕ, zero, suc, ◌+◌, ◌-◌, ◌<◌, ◌≤◌, inl, Bool, true, false, ◌||◌, eqb, List, [], ◌∷◌, length, get_or, map, replicate, refl, sym, ap, subst, arith}
use Rattle.std.specs.Prelude.{Contains, count_by}
use Rattle.std.specs.List.{flat_map}
use Rattle.std.proofs.lemmas.Bool.Decides.{nat_tests}
use Rattle.std.proofs.lemmas.List.{get_or-map, get_or_default, get_or-replicate, length-map}
use Rattle.std.proofs.lemmas.List.Elements.{Contains-get_or}
use Rattle.mk_model.specs.declared.graph.GraphAtom.{GraphAtom}
use Rattle.mk_model.specs.declared.template.QueryBond.{QueryBond}
use Rattle.mk_model.specs.declared.template.Slot.{Slot}
use Rattle.mk_model.specs.declared.template.Slot.TheVariants.{Link, Site}
use Rattle.mk_model.specs.Expansions.{all_within, anything, atoms_of, atoms_of_piece, copies, drawn, free_ends, hydrogen, joined}
use Rattle.mk_model.specs.Hits.{image}
use Rattle.mk_model.specs.Pieces.{Piece, before, numbers_to, piece, piece_numbered, taker, width}
use Rattle.mk_model.specs.Pieces.Piece.{Copies, Member, Hydrogens, Nothing}
use Rattle.mk_model.specs.QueryFits.{HoldsItsBlock}
use Rattle.mk_model.specs.Sizes.{takes_atom}
use Rattle.mk_model.specs.Templates.{TemplateView, is_in_block}
use Rattle.mk_pieces.specs.Kept.{IsTemplate}
use Rattle.mk_pieces.proofs.JoinedLemmas.{length_piece}
use Rattle.mk_pieces.proofs.NumberLemmas.{mapped_at}
use Rattle.mk_pieces.proofs.TakerLemmas.{taker_is_slot}
use Rattle.mk_expand.specs.OpenGraphs.{bare_atoms, bare_atoms_of, is_loose, loose_ends, loosened, opened}
use Rattle.mk_open_codes.proofs.BondLemmas.{bond_claim, bond_lower}
use Rattle.mk_expand.proofs.CountLemmas.{count_append, count_flat, one_if, sums_below, sums_meet}
use Rattle.mk_expand.proofs.FreeLemmas.{frees_within}
use Rattle.mk_expand.proofs.OpenedLemmas.{bare_length, bare_size}
use Rattle.mk_expand.proofs.StandLemmas.{joined_size, opened_size}
use Rattle.mk_open_codes.proofs.LowerLemmas.{slots_lower}
use Rattle.mk_open_codes.proofs.MovedLemmas.{bonds_moved}
use Rattle.mk_open_codes.proofs.PlaceLemmas.{IsLevel, IsOwned, IsPlaceOf, grows, image_at, image_of, image_place, laid_at, level_places, level_rise, level_size, own_places, owner, place_within}
use Rattle.mk_open_codes.proofs.SharedLemmas.{GrowsBy, IsShared, numbers_image, places_numbered}
use Rattle.mk_open_codes.proofs.SlotLemmas.{member_free, slots_claim}
use Rattle.mk_open_codes.proofs.SpokeLemmas.{spoke}

-- ---- atoms with their loose ends

-- the test and the free ends at a place
record IsLoosened (template : TemplateView) (pieces : List Piece) (p : ℕ) (bare atom : GraphAtom) : Type 0 where
  test : atom.test ≡ bare.test
  free : atom.free ≡ bare.free + loose_ends template pieces p

loosened_at : (template : TemplateView) (pieces : List Piece) (p k : ℕ) (d : GraphAtom) (atoms : List GraphAtom) → k < length atoms
    → IsLoosened template pieces (p + k) (get_or atoms k d) (get_or (loosened template pieces p atoms) k d)
loosened_at template pieces p k d [] below = absurd (omega arith)
loosened_at template pieces p zero d (atom ∷ atoms) below = (let same : p ≡ p + 0 = omega arith in record { test = refl; free = ap (λ (q : ℕ). atom.free + loose_ends template pieces q) same })
loosened_at template pieces p (suc k) d (atom ∷ atoms) below =
    let rest = loosened_at template pieces (p + 1) k d atoms (omega arith) in
    let same : p + 1 + k ≡ p + suc k = omega arith in
    record { test = rest.test; free = rest.free ∙ ap (λ (q : ℕ). (get_or atoms k d).free + loose_ends template pieces q) same }

-- the atom at a place
part_atom : (template : TemplateView) (pieces : List Piece) (x j p : ℕ) (d : GraphAtom) → IsPlaceOf template pieces x j p
    → IsLoosened template pieces p (get_or (bare_atoms template x (piece template pieces x)) (j - 1) d) (get_or (opened template pieces).atoms (p - 1) d)
unfolding opened bare_atoms_of
part_atom template pieces x j p d at =
    let f : ℕ → List GraphAtom = λ y. bare_atoms template y (piece template pieces y) in
    let inside = place_within template pieces x j p at in
    let start : p - 1 ≡ before template pieces x + (j - 1) = omega (arith, at.is, at.least) in
    let below : p - 1 < length (bare_atoms_of template pieces (length template.atoms)) = omega (arith, bare_size template pieces (length template.atoms), inside.0, inside.1) in
    let loose = loosened_at template pieces 1 (p - 1) d (bare_atoms_of template pieces (length template.atoms)) below in
    let place : 1 + (p - 1) ≡ p = omega (arith, inside.0) in
    let found : get_or (bare_atoms_of template pieces (length template.atoms)) (p - 1) d ≡ get_or (bare_atoms template x (piece template pieces x)) (j - 1) d =
    ap (λ (i : ℕ). get_or (flat_map f (numbers_to (length template.atoms))) i d) start
    ∙ laid_at template pieces f (λ y. bare_length template y (piece template pieces y)) (length template.atoms) x (j - 1) d at.at.0 at.at.1 (omega (arith, at.least, at.most)) in
    record {
      test = loose.test ∙ ap (λ (a : GraphAtom). a.test) found;
      free = loose.free ∙ ap (λ (q : ℕ). (get_or (bare_atoms_of template pieces (length template.atoms)) (p - 1) d).free + loose_ends template pieces q) place
          ∙ ap (λ (a : GraphAtom). a.free + loose_ends template pieces p) found;
    }

whole_atom : (template : TemplateView) (pieces : List Piece) (x j p : ℕ) (d : GraphAtom) → IsPlaceOf template pieces x j p
    → get_or (joined template pieces).atoms (p - 1) d ≡ get_or (atoms_of_piece template pieces x (piece template pieces x)) (j - 1) d
unfolding joined atoms_of
whole_atom template pieces x j p d at =
    let f : ℕ → List GraphAtom = λ y. atoms_of_piece template pieces y (piece template pieces y) in
    let start : p - 1 ≡ before template pieces x + (j - 1) = omega (arith, at.is, at.least) in
    ap (λ (i : ℕ). get_or (flat_map f (numbers_to (length template.atoms))) i d) start
    ∙ laid_at template pieces f (λ y. length_piece template pieces y (piece template pieces y)) (length template.atoms) x (j - 1) d at.at.0 at.at.1 (omega (arith, at.least, at.most))

-- ---- one piece

-- an atom of a piece in the part and in the whole: the same test, and the free ends of both
record IsAtomShared (template : TemplateView) (qs : List Piece) (x j i : ℕ) (r q : Piece) (d : GraphAtom) : Type 0 where
  test : (get_or (bare_atoms template x r) (j - 1) d).test ≡ (get_or (atoms_of_piece template qs x q) (i - 1) d).test
  free : (get_or (bare_atoms template x r) (j - 1) d).free ≡ member_free r j
  whole_free : (get_or (atoms_of_piece template qs x q) (i - 1) d).free ≤ member_free q i + free_ends template qs template.slots qs (before template qs x + i)

atom_shared : (template : TemplateView) (qs : List Piece) (x j : ℕ) (r q : Piece) (places : List ℕ) (d : GraphAtom) → GrowsBy r q places → 1 ≤ j → j ≤ width r
    → IsAtomShared template qs x j (image places j) r q d
unfolding copies
atom_shared template qs x j (Copies n) (Copies m) places d grow least most = record {
  test = ap (λ (a : GraphAtom). a.test) bare ∙ ap (λ (a : GraphAtom). a.test) (sym whole);
  free = ap (λ (a : GraphAtom). a.free) bare;
  whole_free = omega (arith, ap (λ (a : GraphAtom). a.free) whole);
}
  where
    number : image places j ≡ j
    number = ap (λ (ns : List ℕ). image ns j) grow.1 ∙ numbers_image n j least most

    bare : get_or (replicate n (record { test = get_or template.atoms (x - 1) anything; free = 0 })) (j - 1) d ≡ record { test = get_or template.atoms (x - 1) anything; free = 0 }
    bare = get_or-replicate n (j - 1) (record { test = get_or template.atoms (x - 1) anything; free = 0 }) d (omega arith)

    whole : get_or (copies template qs (get_or template.atoms (x - 1) anything) (before template qs x) m) (image places j - 1) d
        ≡ record { test = get_or template.atoms (x - 1) anything; free = free_ends template qs template.slots qs (before template qs x + image places j) }
    whole =
        let f : ℕ → GraphAtom = λ c. record { test = get_or template.atoms (x - 1) anything; free = free_ends template qs template.slots qs (before template qs x + c) } in
        let place : 1 + (image places j - 1) ≡ image places j = omega (arith, number, least) in
        mapped_at f m (image places j - 1) d (omega (arith, number, least, most, grow.0)) ∙ ap f place
atom_shared template qs x j (Copies n) (Member whole) places d grow least most = absurd grow
atom_shared template qs x j (Copies n) (Hydrogens m) places d grow least most = absurd grow
atom_shared template qs x j (Copies n) Nothing places d grow least most = absurd grow
atom_shared template qs x j (Member part) (Copies m) places d grow least most = absurd grow
atom_shared template qs x j (Member part) (Member whole) places d grow least most =
    let there = grow.within j least most in
    record {
      test = grow.tests j d least most;
      free = ap (λ (a : GraphAtom). a.free) (get_or_default part.atoms (j - 1) d hydrogen (omega arith));
      whole_free = (let same = ap (λ (a : GraphAtom). a.free) (get_or_default whole.atoms (image places j - 1) d hydrogen (omega (arith, there.0, there.1))) in omega (arith, same));
    }
atom_shared template qs x j (Member part) (Hydrogens m) places d grow least most = absurd grow
atom_shared template qs x j (Member part) Nothing places d grow least most = absurd grow
atom_shared template qs x j (Hydrogens n) (Copies m) places d grow least most = absurd grow
atom_shared template qs x j (Hydrogens n) (Member whole) places d grow least most = absurd grow
atom_shared template qs x j (Hydrogens n) (Hydrogens m) places d grow least most =
    let number : image places j ≡ j = ap (λ (ns : List ℕ). image ns j) grow.1 ∙ numbers_image n j least most in
    let here = get_or-replicate n (j - 1) hydrogen d (omega arith) in
    let there = get_or-replicate m (image places j - 1) hydrogen d (omega (arith, number, least, most, grow.0)) in
    record {
      test = ap (λ (a : GraphAtom). a.test) here ∙ ap (λ (a : GraphAtom). a.test) (sym there);
      free = ap (λ (a : GraphAtom). a.free) here;
      whole_free = (let same = ap (λ (a : GraphAtom). a.free) there in omega (arith, same));
    }
atom_shared template qs x j (Hydrogens n) Nothing places d grow least most = absurd grow
atom_shared template qs x j Nothing q places d grow least most = absurd (omega arith)

-- ---- points

-- no slot takes an atom with an attachment point
pub point_fixed : (template : TemplateView) → IsTemplate template → (x : ℕ) → Contains template.points x → taker template x ≡ 0
point_fixed template kept x held = by (taker template x) refl
  where
    by_slot : (slot : Slot) → Contains template.slots slot → HoldsItsBlock template slot → takes_atom template x slot ≡ true → ⊥
    by_slot (Site a g f o) there closed takes = own (eqb a x) refl takes
      where
        own : (b : Bool) → eqb a x ≡ b → (b || false) ≡ true → ⊥
        own true t is = (let same : a ≡ x = grind (arith, nat_tests) in kept.points_free (Site a g f o) there (subst (Contains template.points) (sym same) held))
        own false t is = absurd cc
    by_slot (Link a m f o) there closed takes = own (eqb a x) (is_in_block template (Link a m f o) x) refl refl takes
      where
        marked : a ≡ x → ⊥
        marked same = kept.points_free (Link a m f o) there (subst (Contains template.points) (sym same) held)

        own : (b c : Bool) → eqb a x ≡ b → is_in_block template (Link a m f o) x ≡ c → (b || c) ≡ true → ⊥
        own true c t u is = (let same : a ≡ x = grind (arith, nat_tests) in marked same)
        own false true t u is = marked (sym ((closed x u).2 (inl held)))
        own false false t u is = absurd cc

    by : (n : ℕ) → taker template x ≡ n → taker template x ≡ 0
    by zero is = is
    by (suc k) is =
        let found = taker_is_slot template x k is in
        let slot = get_or template.slots k (Link 0 0 0 0) in
        absurd (by_slot slot (Contains-get_or template.slots k (Link 0 0 0 0) found.within) (kept.blocks_closed k (Link 0 0 0 0) found.within) (found.takes (Link 0 0 0 0)))

-- ---- the theorem

module _ (template : TemplateView) (ps qs : List Piece) (others : List (List ℕ)) (level : IsLevel template ps qs others) where
  abbrev e : ℕ → ℕ
  e = image (level_places template qs others)

  owned : (i : ℕ) → 1 ≤ i → i ≤ length (opened template ps).atoms → IsOwned template ps i
  owned i least most = owner template ps i least (omega (arith, most, opened_size template ps))

  shared_at : (x j p : ℕ) (d : GraphAtom) → IsPlaceOf template ps x j p
      → IsAtomShared template qs x j (image (own_places template others x) j) (piece template ps x) (piece template qs x) d
  shared_at x j p d at = atom_shared template qs x j (piece template ps x) (piece template qs x) (own_places template others x) d (grows template ps qs others level x) at.least at.most

  tests_shared : (i : ℕ) (d : GraphAtom) → 1 ≤ i → i ≤ length (opened template ps).atoms
      → (get_or (opened template ps).atoms (i - 1) d).test ≡ (get_or (joined template qs).atoms (image (level_places template qs others) i - 1) d).test
  tests_shared i d least most =
      let own = owned i least most in
      let here = part_atom template ps own.x own.j i d own.place in
      let there = whole_atom template qs own.x (image (own_places template others own.x) own.j) (e i) d (image_place template ps qs others level own.x own.j i own.place) in
      here.test ∙ (shared_at own.x own.j i d own.place).test ∙ ap (λ (a : GraphAtom). a.test) (sym there)

  -- the bonds of all, counted
  outer_counts : (p : QueryBond → Bool) (pieces : List Piece)
      → count_by p (joined template pieces).bonds ≡ count_by p (flat_map (drawn template pieces) template.bonds) + count_by p (all_within template pieces template.slots pieces)
  unfolding joined
  outer_counts p pieces = count_append p (flat_map (drawn template pieces) template.bonds) (all_within template pieces template.slots pieces)

  outer_claim : (P : ℕ → Bool) (x j p : ℕ) → IsPlaceOf template ps x j p
      → count_by (spoke P (image (level_places template qs others) p)) (flat_map (drawn template qs) template.bonds) + loose_ends template qs (image (level_places template qs others) p)
      ≤ count_by (spoke (λ q. P (image (level_places template qs others) q)) p) (flat_map (drawn template ps) template.bonds) + loose_ends template ps p
  unfolding loose_ends
  outer_claim P x j p at =
      let sums = sums_meet (λ bond. count_by (spoke P (e p)) (drawn template qs bond)) (λ bond. one_if (is_loose template qs (e p) bond))
      (λ bond. count_by (spoke (λ q. P (e q)) p) (drawn template ps bond)) (λ bond. one_if (is_loose template ps p bond)) template.bonds
      (λ bond held. bond_claim template ps qs others level P x j p at bond held) in
      omega (arith, sums, count_flat (spoke P (e p)) (drawn template qs) template.bonds, count_flat (spoke (λ q. P (e q)) p) (drawn template ps) template.bonds)

  opened_bonds : (opened template ps).bonds ≡ (joined template ps).bonds
  unfolding opened
  opened_bonds = refl

  opened_points : (opened template ps).points ≡ map (λ x. before template ps x + 1) template.points
  unfolding opened joined
  opened_points = refl

  joined_points : (joined template qs).points ≡ map (λ x. before template qs x + 1) template.points
  unfolding joined
  joined_points = refl

  spokes_shared : (P : ℕ → Bool) (i : ℕ) (d : GraphAtom) → 1 ≤ i → i ≤ length (opened template ps).atoms
      → count_by (spoke P (image (level_places template qs others) i)) (joined template qs).bonds + (get_or (joined template qs).atoms (image (level_places template qs others) i - 1) d).free
      ≤ count_by (spoke (λ q. P (image (level_places template qs others) q)) i) (opened template ps).bonds + (get_or (opened template ps).atoms (i - 1) d).free
  spokes_shared P i d least most =
      let own = owned i least most in
      let x = own.x in
      let j = own.j in
      let there_at = image_place template ps qs others level x j i own.place in
      let here = part_atom template ps x j i d own.place in
      let there = ap (λ (a : GraphAtom). a.free) (whole_atom template qs x (image (own_places template others x) j) (e i) d there_at) in
      let shared = shared_at x j i d own.place in
      let frees = frees_within template level.kept level.apart qs level.fit x (e i) (image_of template ps qs others level x j i own.place) in
      let frees' : free_ends template qs template.slots qs (before template qs x + image (own_places template others x) j) ≡ free_ends template qs template.slots qs (e i) =
      ap (free_ends template qs template.slots qs) there_at.is in
      let outer = outer_claim P x j i own.place in
      let inner = slots_claim template ps qs others level P x j i own.place in
      omega (
        arith,
        here.free,
        there,
        shared.free,
        shared.whole_free,
        frees,
        frees',
        outer,
        inner,
        outer_counts (spoke P (e i)) qs,
        outer_counts (spoke (λ q. P (e q)) i) ps,
        ap (count_by (spoke (λ q. P (e q)) i)) opened_bonds,
      )

  lower_shared : (P : ℕ → Bool) (i : ℕ) → 1 ≤ i → i ≤ length (opened template ps).atoms
      → count_by (spoke (λ q. P (image (level_places template qs others) q)) i) (opened template ps).bonds ≤ count_by (spoke P (image (level_places template qs others) i)) (joined template qs).bonds
  lower_shared P i least most =
      let own = owned i least most in
      let outer = sums_below (λ bond. count_by (spoke (λ q. P (e q)) i) (drawn template ps bond)) (λ bond. count_by (spoke P (e i)) (drawn template qs bond)) template.bonds
      (λ bond held. bond_lower template ps qs others level P own.x own.j i own.place bond held) in
      let inner = slots_lower template ps qs others level P own.x own.j i own.place in
      omega (
        arith,
        outer,
        inner,
        count_flat (spoke P (e i)) (drawn template qs) template.bonds,
        count_flat (spoke (λ q. P (e q)) i) (drawn template ps) template.bonds,
        outer_counts (spoke P (e i)) qs,
        outer_counts (spoke (λ q. P (e q)) i) ps,
        ap (count_by (spoke (λ q. P (e q)) i)) opened_bonds,
      )

  points_shared : (k : ℕ) → k < length (joined template qs).points
      → (1 ≤ get_or (opened template ps).points k 0) × (get_or (opened template ps).points k 0 ≤ length (opened template ps).atoms)
      × (image (level_places template qs others) (get_or (opened template ps).points k 0) ≡ get_or (joined template qs).points k 0)
  points_shared k below =
      let inside : k < length template.points = omega (arith, below, ap length joined_points, length-map template.points (λ x. before template qs x + 1)) in
      let x = get_or template.points k 0 in
      let fixed = point_fixed template level.kept x (Contains-get_or template.points k 0 inside) in
      let one : piece template ps x ≡ Copies 1 = ap (piece_numbered ps) fixed in
      let place : IsPlaceOf template ps x 1 (before template ps x + 1) = record { at = level.kept.points k 0 inside; least = omega arith; most = omega (arith, ap width one); is = refl } in
      let here : get_or (opened template ps).points k 0 ≡ before template ps x + 1 =
      ap (λ (xs : List ℕ). get_or xs k 0) opened_points ∙ get_or-map (λ y. before template ps y + 1) template.points k 0 0 inside in
      let there : get_or (joined template qs).points k 0 ≡ before template qs x + 1 =
      ap (λ (xs : List ℕ). get_or xs k 0) joined_points ∙ get_or-map (λ y. before template qs y + 1) template.points k 0 0 inside in
      let moved_there = image_at template ps qs others level x 1 (before template ps x + 1) place in
      let number : image (own_places template others x) 1 ≡ 1 = ap (λ (n : ℕ). image (places_numbered others n) 1) fixed ∙ numbers_image 1 1 (omega arith) (omega arith) in
      let within = place_within template ps x 1 (before template ps x + 1) place in
      (omega (arith, here, within.0), omega (arith, here, within.1, opened_size template ps), ap e here ∙ omega (arith, moved_there, number, there))

  -- what a template becomes in a part is shared with what it becomes in the whole
  pub level_shared : IsShared (opened template ps) (joined template qs) (level_places template qs others)
  level_shared = record {
    size = level_size template ps qs others level ∙ sym (opened_size template ps);
    rise = λ i j least less most. level_rise template ps qs others level i j least less (omega (arith, most, opened_size template ps));
    within = λ i least most.
        let own = owned i least most in
        let inside = place_within template qs own.x _ (e i) (image_place template ps qs others level own.x own.j i own.place) in
        (inside.0, omega (arith, inside.1, joined_size template qs));
    tests = tests_shared;
    ends = λ bond held.
        let there = (bonds_moved template ps qs others level bond (subst (λ (bs : List QueryBond). Contains bs bond) opened_bonds held)).ends in
        record { first = (there.first.0, omega (arith, there.first.1, opened_size template ps)); second = (there.second.0, omega (arith, there.second.1, opened_size template ps)) };
    bonds = λ bond held. (bonds_moved template ps qs others level bond (subst (λ (bs : List QueryBond). Contains bs bond) opened_bonds held)).held;
    spokes = spokes_shared;
    lower = lower_shared;
    as_many = ap length opened_points ∙ length-map template.points (λ x. before template ps x + 1) ∙ sym (ap length joined_points ∙ length-map template.points (λ x. before template qs x + 1));
    points = points_shared;
  }
