-- A part on which all else of a whole hangs by bridges.
--     rings_stay, none_leads_away, aromatic_stays      the laws
use Rattle.std.proofs.Common.{◌≡◌, ◌≢◌, ◌∙◌, ◌⊎◌, ℕ, zero, suc, ◌+◌, ◌-◌, ◌%◌, ◌<◌, ◌≤◌, inl, inr, Bool, true, false, cond, ◌&&◌, ◌||◌, eqb, List, [], ◌∷◌, Some, get_or, refl, sym, ap, subst, arith}
use Rattle.std.specs.Prelude.{slice_get}
use Rattle.std.proofs.lemmas.Bool.Decides.{nat_tests}
use Rattle.mk_model.specs.declared.edge.Edge.{Edge}
use Rattle.mk_model.specs.Aromatic.{IsAromatic, IsClosed, IsSixCycle, Takes, TakesLabels}
use Rattle.mk_model.specs.Edges.{HasEnds, HasKind, IsSimple, Joins}
use Rattle.mk_model.specs.Hits.{image}
use Rattle.mk_model.specs.Rings.{IsRingBond, IsWay, Step}
use Rattle.mk_marks.proofs.JoinLemmas.{get_or-from_get, joins_within}
use Rattle.mk_marks.proofs.WayLemmas.{IsRingBond-linked, Linked, joins_back, linked_back, linked_by, linked_here, linked_on, same_ends}
use Rattle.mk_rings.proofs.BridgeLemmas.{IsRingBond-round}
use Rattle.mk_expand.specs.Bridges.{AromaticSetStays, HangsOn, IsBridge, IsPartBond, LiesThere, NoRingBondLeadsAway, RingBondsStay, SameKind}

-- ---- the place of a bond between two atoms

abbrev has_ends : ℕ → ℕ → Edge → Bool
has_ends x y edge = (eqb edge.first x && eqb edge.second y) || (eqb edge.first y && eqb edge.second x)

-- the place of the first bond between x and y
abbrev index : List Edge → ℕ → ℕ → ℕ
index [] x y = 0
index (edge ∷ bonds) x y = let later = index bonds x y in cond (has_ends x y edge) 0 (suc later)

ends_found : (x y : ℕ) (edge : Edge) → HasEnds edge x y → has_ends x y edge ≡ true
ends_found x y edge (inl is) =
    let a : eqb edge.first x ≡ true = (let h = is.0 in grind (arith, nat_tests)) in
    let b : eqb edge.second y ≡ true = (let h = is.1 in grind (arith, nat_tests)) in
    rw (a, b) refl
ends_found x y edge (inr is) =
    let a : eqb edge.first y ≡ true = (let h = is.0 in grind (arith, nat_tests)) in
    let b : eqb edge.second x ≡ true = (let h = is.1 in grind (arith, nat_tests)) in
    rw (a, b) (last (eqb edge.first x && eqb edge.second y))
  where
    last : (c : Bool) → (c || true) ≡ true
    last true = refl
    last false = refl

found_ends : (x y : ℕ) (edge : Edge) → has_ends x y edge ≡ true → HasEnds edge x y
found_ends x y edge is = by (eqb edge.first x) (eqb edge.second y) (eqb edge.first y) (eqb edge.second x) refl refl refl refl is
  where
    by : (a b c d : Bool) → eqb edge.first x ≡ a → eqb edge.second y ≡ b → eqb edge.first y ≡ c → eqb edge.second x ≡ d → ((a && b) || (c && d)) ≡ true → HasEnds edge x y
    by true true c d e f g h t = inl (grind (arith, nat_tests), grind (arith, nat_tests))
    by true false true true e f g h t = inr (grind (arith, nat_tests), grind (arith, nat_tests))
    by true false true false e f g h t = absurd cc
    by true false false d e f g h t = absurd cc
    by false b true true e f g h t = inr (grind (arith, nat_tests), grind (arith, nat_tests))
    by false b true false e f g h t = absurd cc
    by false b false d e f g h t = absurd cc

-- a bond between them is found
index_joins : (bonds : List Edge) (b x y : ℕ) (edge : Edge) → slice_get bonds b ≡ Some edge → HasEnds edge x y → Joins bonds (index bonds x y) x y
index_joins [] b x y edge at ends = absurd cc
index_joins (e ∷ bonds) b x y edge at ends = by (has_ends x y e) refl (λ n is. index_joins bonds n x y edge is ends)
  where
    behind : (n : ℕ) → slice_get (e ∷ bonds) n ≡ Some edge → has_ends x y e ≡ false → ((m : ℕ) → slice_get bonds m ≡ Some edge → Joins bonds (index bonds x y) x y) → Joins bonds (index bonds x y) x y
    behind zero is none later = absurd (let same : e ≡ edge = cc in let found : has_ends x y e ≡ true = ap (has_ends x y) same ∙ ends_found x y edge ends in cc)
    behind (suc n) is none later = later n is

    by : (t : Bool) → has_ends x y e ≡ t → ((m : ℕ) → slice_get bonds m ≡ Some edge → Joins bonds (index bonds x y) x y) → Joins (e ∷ bonds) (cond t 0 (suc (index bonds x y))) x y
    by true is others = record { edge = e; at = refl; ends = found_ends x y e is }
    by false is others = (let later = behind b at is others in record { edge = later.edge; at = later.at; ends = later.ends })

index_is : (atoms : ℕ) (bonds : List Edge) (b x y : ℕ) → IsSimple atoms bonds → Joins bonds b x y → index bonds x y ≡ b
index_is atoms bonds b x y simple j = simple.once (index bonds x y) b x y (index_joins bonds b x y j.edge j.at j.ends) j

module _ (part whole : List Edge) (count atoms : ℕ) (places : List ℕ) (simple : IsSimple count part) (simple' : IsSimple atoms whole) (hangs : HangsOn part whole count places) where
  abbrev e : ℕ → ℕ
  e = image places

  abbrev home : ℕ → ℕ
  home = hangs.home

  abbrev root : ℕ → ℕ
  root = hangs.root

  -- ends of bonds of the part are its atoms
  ends_within : (b p q : ℕ) → Joins part b p q → ((1 ≤ p) × (p ≤ count)) × ((1 ≤ q) × (q ≤ count))
  ends_within b p q j = by j.ends
    where
      between : (1 ≤ j.edge.first) × (j.edge.first ≤ count) × ((1 ≤ j.edge.second) × (j.edge.second ≤ count))
      between =
          let there = simple.ends b j.edge (joins_within part b p q j) in
          let same = get_or-from_get part b j.edge j.edge j.at in
          let first = subst (λ (m : Edge). (1 ≤ m.first) × (m.first ≤ count)) same there.first in
          (first.0, first.1, subst (λ (m : Edge). (1 ≤ m.second) × (m.second ≤ count)) same there.second)

      by : HasEnds j.edge p q → ((1 ≤ p) × (p ≤ count)) × ((1 ≤ q) × (q ≤ count))
      by (inl is) = ((omega (arith, between.0, is.0), omega (arith, between.1, is.0)), (omega (arith, between.2.0, is.1), omega (arith, between.2.1, is.1)))
      by (inr is) = ((omega (arith, between.2.0, is.1), omega (arith, between.2.1, is.1)), (omega (arith, between.0, is.0), omega (arith, between.1, is.0)))

  home_at : (p : ℕ) → (1 ≤ p) × (p ≤ count) → hangs.home (image places p) ≡ p
  home_at p is = (hangs.own p is.0 is.1).0

  root_at : (p : ℕ) → (1 ≤ p) × (p ≤ count) → hangs.root (image places p) ≡ 0
  root_at p is = (hangs.own p is.0 is.1).1

  -- atoms of the part at one place are one
  one_place : (p q : ℕ) → (1 ≤ p) × (p ≤ count) → (1 ≤ q) × (q ≤ count) → image places p ≡ image places q → p ≡ q
  one_place p q is is' same = sym (home_at p is) ∙ ap hangs.home same ∙ home_at q is'

  -- a pair of places and of atoms
  SamePair : ℕ → ℕ → ℕ → ℕ → Type 0
  SamePair p q u v = ((p ≡ u) × (q ≡ v)) ⊎ ((p ≡ v) × (q ≡ u))

  -- ---- rings

  -- homes along a way are linked in the part
  step_linked : (b c p q : ℕ) → Joins part b p q → Joins whole c (image places p) (image places q) → (d u w : ℕ) → Joins whole d u w → d ≢ c → Linked part b (hangs.home u) (hangs.home w)
  step_linked b c p q j k d u w there other = by (hangs.bonds d u w there)
    where
      same_home : hangs.home u ≡ hangs.home w → Linked part b (hangs.home u) (hangs.home w)
      same_home same = subst (Linked part b (hangs.home u)) same (linked_here part b (hangs.home u))

      of_part : IsPartBond part whole places d u w → Linked part b (hangs.home u) (hangs.home w)
      of_part is =
          let ends = ends_within is.b is.p is.q is.joined in
          let first : hangs.home u ≡ is.p = ap hangs.home (sym is.first) ∙ home_at is.p ends.0 in
          let second : hangs.home w ≡ is.q = ap hangs.home (sym is.second) ∙ home_at is.q ends.1 in
          let differs : is.b ≢ b = λ same. other (of_same (subst (λ (m : ℕ). Joins part m is.p is.q) same is.joined)) in
          subst (λ (m : ℕ). Linked part b m (hangs.home w)) (sym first) (subst (Linked part b is.p) (sym second) (linked_by b is.joined differs))
        where
          of_same : Joins part b is.p is.q → d ≡ c
          of_same m = ends_same (same_ends j m)
            where
              ends_same : ((p ≡ is.p) × (q ≡ is.q)) ⊎ ((p ≡ is.q) × (q ≡ is.p)) → d ≡ c
              ends_same (inl s) =
                  let a : image places p ≡ u = ap (image places) s.0 ∙ is.first in
                  let z : image places q ≡ w = ap (image places) s.1 ∙ is.second in
                  simple'.once d c u w there (subst (λ (n : ℕ). Joins whole c n w) a (subst (Joins whole c (image places p)) z k))
              ends_same (inr s) =
                  let a : image places p ≡ w = ap (image places) s.0 ∙ is.second in
                  let z : image places q ≡ u = ap (image places) s.1 ∙ is.first in
                  simple'.once d c w u (joins_back there) (subst (λ (n : ℕ). Joins whole c n u) a (subst (Joins whole c (image places p)) z k))

      by : LiesThere part whole count places hangs.home hangs.root d u w → Linked part b (hangs.home u) (hangs.home w)
      by (inl is) = of_part is
      by (inr (inl is)) = same_home is.one_home
      by (inr (inr (inl is))) = same_home (ap hangs.home (sym is.at) ∙ home_at (hangs.home w) is.within)
      by (inr (inr (inr is))) = same_home (sym (ap hangs.home (sym is.at) ∙ home_at (hangs.home u) is.within))

  way_linked : (b c p q : ℕ) → Joins part b p q → Joins whole c (image places p) (image places q) → (u v : ℕ) (way : List Step) → IsWay whole c u way v → Linked part b (hangs.home u) (hangs.home v)
  way_linked b c p q j k u v [] is = subst (λ (n : ℕ). Linked part b (hangs.home u) (hangs.home n)) is (linked_here part b (hangs.home u))
  way_linked b c p q j k u v (step ∷ way) is =
      linked_on (step_linked b c p q j k step.bond u step.to is.0 is.1) (way_linked b c p q j k step.to v way is.2)

  ring_in_part : (b c p q : ℕ) → Joins part b p q → Joins whole c (image places p) (image places q) → IsRingBond whole c → IsRingBond part b
  ring_in_part b c p q j k ring = by (same_ends (record { edge = ring.edge; at = ring.at; ends = inl (refl, refl) }) k)
    where
      ends : ((1 ≤ p) × (p ≤ count)) × ((1 ≤ q) × (q ≤ count))
      ends = ends_within b p q j

      linked : Linked part b (hangs.home ring.edge.first) (hangs.home ring.edge.second)
      linked = way_linked b c p q j k ring.edge.first ring.edge.second ring.way ring.around

      by : ((ring.edge.first ≡ image places p) × (ring.edge.second ≡ image places q)) ⊎ ((ring.edge.first ≡ image places q) × (ring.edge.second ≡ image places p)) → IsRingBond part b
      by (inl s) =
          let a : hangs.home ring.edge.first ≡ p = ap hangs.home s.0 ∙ home_at p ends.0 in
          let z : hangs.home ring.edge.second ≡ q = ap hangs.home s.1 ∙ home_at q ends.1 in
          IsRingBond-linked j (subst (λ (n : ℕ). Linked part b n q) a (subst (Linked part b (hangs.home ring.edge.first)) z linked))
      by (inr s) =
          let a : hangs.home ring.edge.first ≡ q = ap hangs.home s.0 ∙ home_at q ends.1 in
          let z : hangs.home ring.edge.second ≡ p = ap hangs.home s.1 ∙ home_at p ends.0 in
          IsRingBond-linked j (linked_back (subst (λ (n : ℕ). Linked part b n p) a (subst (Linked part b (hangs.home ring.edge.first)) z linked)))

  -- a way of the part is one of the whole
  way_up : (b c p q : ℕ) → Joins part b p q → Joins whole c (image places p) (image places q) → (x y : ℕ) (way : List Step) → IsWay part b x way y → Linked whole c (image places x) (image places y)
  way_up b c p q j k x y [] is = subst (λ (n : ℕ). Linked whole c (image places x) (image places n)) is (linked_here whole c (image places x))
  way_up b c p q j k x y (step ∷ way) is =
      let there = hangs.shared step.bond x step.to is.0 in
      let ends = ends_within b p q j in
      let ends' = ends_within step.bond x step.to is.0 in
      let differs : there.0 ≢ c = λ same. is.1 (of_pair ends ends' (same_ends k (subst (λ (m : ℕ). Joins whole m (image places x) (image places step.to)) same there.1))) in
      linked_on (linked_by c there.1 differs) (way_up b c p q j k step.to y way is.2)
    where
      of_pair : ((1 ≤ p) × (p ≤ count)) × ((1 ≤ q) × (q ≤ count)) → ((1 ≤ x) × (x ≤ count)) × ((1 ≤ step.to) × (step.to ≤ count))
          → ((image places p ≡ image places x) × (image places q ≡ image places step.to)) ⊎ ((image places p ≡ image places step.to) × (image places q ≡ image places x)) → step.bond ≡ b
      of_pair ends ends' (inl s) =
          let a = one_place p x ends.0 ends'.0 s.0 in
          let z = one_place q step.to ends.1 ends'.1 s.1 in
          simple.once step.bond b x step.to is.0 (subst (λ (n : ℕ). Joins part b n step.to) a (subst (Joins part b p) z j))
      of_pair ends ends' (inr s) =
          let a = one_place p step.to ends.0 ends'.1 s.0 in
          let z = one_place q x ends.1 ends'.0 s.1 in
          simple.once step.bond b x step.to is.0 (joins_back (subst (λ (n : ℕ). Joins part b n x) a (subst (Joins part b p) z j)))

  ring_in_whole : (b c p q : ℕ) → Joins part b p q → Joins whole c (image places p) (image places q) → IsRingBond part b → IsRingBond whole c
  ring_in_whole b c p q j k ring = by (same_ends (record { edge = ring.edge; at = ring.at; ends = inl (refl, refl) }) j)
    where
      linked : Linked whole c (image places ring.edge.first) (image places ring.edge.second)
      linked = way_up b c p q j k ring.edge.first ring.edge.second ring.way ring.around

      by : ((ring.edge.first ≡ p) × (ring.edge.second ≡ q)) ⊎ ((ring.edge.first ≡ q) × (ring.edge.second ≡ p)) → IsRingBond whole c
      by (inl s) = IsRingBond-linked k (subst (λ (n : ℕ). Linked whole c (image places n) (image places q)) s.0
          (subst (λ (n : ℕ). Linked whole c (image places ring.edge.first) (image places n)) s.1 linked))
      by (inr s) = IsRingBond-linked k (linked_back (subst (λ (n : ℕ). Linked whole c (image places n) (image places p)) s.0
          (subst (λ (n : ℕ). Linked whole c (image places ring.edge.first) (image places n)) s.1 linked)))

  -- ---- bridges

  -- along a way without the bridge the root stays
  root_along : (c u v : ℕ) → Joins whole c u v → IsBridge count places hangs.home hangs.root u v → (x y : ℕ) (way : List Step) → IsWay whole c x way y → hangs.root x ≡ v → hangs.root y ≡ v
  root_along c u v k bridge x y [] is at = ap hangs.root (sym is) ∙ at
  root_along c u v k bridge x y (step ∷ way) is at = root_along c u v k bridge step.to y way is.2 (by (hangs.bonds step.bond x step.to is.0))
    where
      not_none : v ≢ 0
      not_none none = bridge.beyond (bridge.own ∙ none)

      by : LiesThere part whole count places hangs.home hangs.root step.bond x step.to → hangs.root step.to ≡ v
      by (inl m) = absurd (let ends = ends_within m.b m.p m.q m.joined in not_none (sym at ∙ ap hangs.root (sym m.first) ∙ root_at m.p ends.0))
      by (inr (inl m)) = sym m.one_root ∙ at
      by (inr (inr (inl m))) = absurd (not_none (sym at ∙ ap hangs.root (sym m.at) ∙ root_at (hangs.home step.to) m.within))
      by (inr (inr (inr m))) =
          let here : x ≡ v = sym m.own ∙ at in
          let there : step.to ≡ u = sym m.at ∙ ap (λ (n : ℕ). image places (hangs.home n)) here ∙ bridge.at in
          let joined : Joins whole step.bond v u = subst (λ (n : ℕ). Joins whole step.bond n u) here (subst (Joins whole step.bond x) there is.0) in
          absurd (is.1 (simple'.once step.bond c u v (joins_back joined) k))

  no_ring : (c u v : ℕ) → Joins whole c u v → IsBridge count places hangs.home hangs.root u v → IsRingBond whole c → ⊥
  no_ring c u v k bridge ring = by (same_ends (record { edge = ring.edge; at = ring.at; ends = inl (refl, refl) }) k)
    where
      linked : Linked whole c ring.edge.first ring.edge.second
      linked = record { way = ring.way; leads = ring.around }

      from_root : Linked whole c v u → ⊥
      from_root l =
          let at_end = root_along c u v k bridge v u l.way l.leads bridge.own in
          let none : hangs.root u ≡ 0 = ap hangs.root (sym bridge.at) ∙ root_at (hangs.home v) bridge.within in
          bridge.beyond (bridge.own ∙ sym at_end ∙ none)

      by : ((ring.edge.first ≡ u) × (ring.edge.second ≡ v)) ⊎ ((ring.edge.first ≡ v) × (ring.edge.second ≡ u)) → ⊥
      by (inl s) = from_root (linked_back (subst (λ (n : ℕ). Linked whole c n v) s.0 (subst (Linked whole c ring.edge.first) s.1 linked)))
      by (inr s) = from_root (subst (λ (n : ℕ). Linked whole c n u) s.0 (subst (Linked whole c ring.edge.first) s.1 linked))

  away : (c p v : ℕ) → 1 ≤ p → p ≤ count → Joins whole c (image places p) v → IsRingBond whole c → (b : ℕ) × (q : ℕ) × Joins part b p q × (image places q ≡ v)
  away c p v least most k ring = by (hangs.bonds c (image places p) v k)
    where
      by : LiesThere part whole count places hangs.home hangs.root c (image places p) v → (b : ℕ) × (q : ℕ) × Joins part b p q × (image places q ≡ v)
      by (inl m) = (let ends = ends_within m.b m.p m.q m.joined in let same = one_place m.p p ends.0 (least, most) m.first in
          (m.b, m.q, subst (λ (n : ℕ). Joins part m.b n m.q) same m.joined, m.second))
      by (inr (inl m)) = absurd (m.beyond (root_at p (least, most)))
      by (inr (inr (inl m))) = absurd (no_ring c (image places p) v k m ring)
      by (inr (inr (inr m))) = absurd (m.beyond (root_at p (least, most)))

  -- ---- the aromatic set: a closed set of the whole, cut to the part

  abbrev no_edge : Edge
  no_edge = record { first = 0; second = 0; kind = 0 }

  module _ (set : ℕ → Bool) (closed : IsClosed whole set) where
    abbrev cut : ℕ → Bool
    cut b = set (index whole (image places (get_or part b no_edge).first) (image places (get_or part b no_edge).second))

    cut_is : (b p q c : ℕ) → Joins part b p q → Joins whole c (image places p) (image places q) → cut b ≡ set c
    cut_is b p q c j k = by j.ends
      where
        at : get_or part b no_edge ≡ j.edge
        at = get_or-from_get part b no_edge j.edge j.at

        set_at : (x y : ℕ) → j.edge.first ≡ x → j.edge.second ≡ y → Joins whole c (image places x) (image places y) → cut b ≡ set c
        set_at x y first second joined =
            ap (λ (m : Edge). set (index whole (image places m.first) (image places m.second))) at
            ∙ ap (λ (n : ℕ). set (index whole (image places n) (image places j.edge.second))) first
            ∙ ap (λ (n : ℕ). set (index whole (image places x) (image places n))) second
            ∙ ap set (index_is atoms whole c (image places x) (image places y) simple' joined)

        by : HasEnds j.edge p q → cut b ≡ set c
        by (inl s) = set_at p q s.0 s.1 k
        by (inr s) = set_at q p s.0 s.1 (joins_back k)

    closed_cut : IsClosed part cut
    closed_cut = record {
      type_four = λ b kind.
          let j : Joins part b kind.edge.first kind.edge.second = record { edge = kind.edge; at = kind.at; ends = inl (refl, refl) } in
          let there = hangs.shared b kind.edge.first kind.edge.second j in
          cut_is b kind.edge.first kind.edge.second there.0 j there.1 ∙ closed.type_four there.0 ((there.2 4).0 kind);
      six_rings = λ x k cycle labels i below.
          let up : ℕ → ℕ = λ n. index whole (image places (x n)) (image places (x ((n + 1) % 6))) in
          let joined : (n : ℕ) → n < 6 → Joins whole (up n) (image places (x n)) (image places (x ((n + 1) % 6))) = λ n less.
          (let there = hangs.shared (k n) (x n) (x ((n + 1) % 6)) (cycle.joined n less) in
          index_joins whole there.0 (image places (x n)) (image places (x ((n + 1) % 6))) there.1.edge there.1.at there.1.ends) in
          let same : (n : ℕ) → n < 6 → cut (k n) ≡ set (up n) = λ n less. cut_is (k n) (x n) (x ((n + 1) % 6)) (up n) (cycle.joined n less) (joined n less) in
          let within : (n : ℕ) → n < 6 → (1 ≤ x n) × (x n ≤ count) = λ n less. (ends_within (k n) (x n) (x ((n + 1) % 6)) (cycle.joined n less)).0 in
          let around : IsSixCycle whole (λ n. image places (x n)) up = record {
            distinct = λ n m less less' at. cycle.distinct n m less less' (one_place (x n) (x m) (within n less) (within m less') at);
            joined = joined;
          } in
          let takes : TakesLabels whole set up = λ n less. takes_up (k n) (up n) (x n) (x ((n + 1) % 6)) (1 + n % 2) (cycle.joined n less) (joined n less) (same n less) (labels n less) in
          same i below ∙ closed.six_rings (λ n. image places (x n)) up around takes i below;
    }
      where
        takes_up : (b c p q label : ℕ) → Joins part b p q → Joins whole c (image places p) (image places q) → cut b ≡ set c → Takes part cut b label → Takes whole set c label
        takes_up b c p q label j k same (inl held) = inl (sym same ∙ held)
        takes_up b c p q label j k same (inr kind) =
            (let there = hangs.shared b p q j in
            let one : there.0 ≡ c = simple'.once there.0 c (image places p) (image places q) there.1 k in
            inr (subst (λ (n : ℕ). HasKind whole n label) one ((there.2 label).0 kind)))

  aromatic_in_whole : (b c p q : ℕ) → Joins part b p q → Joins whole c (image places p) (image places q) → IsAromatic part b → IsAromatic whole c
  aromatic_in_whole b c p q j k aromatic set closed = sym (cut_is set closed b p q c j k) ∙ aromatic (cut set closed) (closed_cut set closed)

  -- ---- and a closed set of the part, with all else of the whole

  -- the bond joins two atoms of the part
  abbrev of_part_ends : Edge → Bool
  of_part_ends edge = eqb (hangs.root edge.first) 0 && eqb (hangs.root edge.second) 0

  module _ (set : ℕ → Bool) (closed : IsClosed part set) where
    abbrev spread_edge : Edge → Bool
    spread_edge edge = cond (of_part_ends edge) (set (index part (hangs.home edge.first) (hangs.home edge.second))) true

    abbrev spread : ℕ → Bool
    spread c = spread_edge (get_or whole c no_edge)

    spread_at : (c : ℕ) (edge : Edge) → slice_get whole c ≡ Some edge → spread c ≡ spread_edge edge
    spread_at c edge at = ap spread_edge (get_or-from_get whole c no_edge edge at)

    both_none : (x y : ℕ) → x ≡ 0 → y ≡ 0 → (eqb x 0 && eqb y 0) ≡ true
    both_none x y is is' = (let a : eqb x 0 ≡ true = grind (arith, nat_tests) in let b : eqb y 0 ≡ true = grind (arith, nat_tests) in rw (a, b) refl)

    not_both : (x y : ℕ) → (x ≢ 0) ⊎ (y ≢ 0) → (eqb x 0 && eqb y 0) ≡ false
    not_both x y (inl some) = (let a : eqb x 0 ≡ false = grind (arith, nat_tests) in rw a refl)
    not_both x y (inr some) = (let b : eqb y 0 ≡ false = grind (arith, nat_tests) in rw b (by (eqb x 0)))
      where
        by : (t : Bool) → (t && false) ≡ false
        by true = refl
        by false = refl

    -- at a bond of the part
    spread_is : (c b p q : ℕ) → Joins part b p q → Joins whole c (image places p) (image places q) → spread c ≡ set b
    spread_is c b p q j k = spread_at c k.edge k.at ∙ by k.ends
      where
        ends : ((1 ≤ p) × (p ≤ count)) × ((1 ≤ q) × (q ≤ count))
        ends = ends_within b p q j

        at_ends : (x y : ℕ) → (1 ≤ x) × (x ≤ count) → (1 ≤ y) × (y ≤ count) → k.edge.first ≡ image places x → k.edge.second ≡ image places y → Joins part b x y → spread_edge k.edge ≡ set b
        at_ends x y is_x is_y first second joined =
            let test = both_none (hangs.root k.edge.first) (hangs.root k.edge.second) (ap hangs.root first ∙ root_at x is_x) (ap hangs.root second ∙ root_at y is_y) in
            ap (λ (t : Bool). cond t (set (index part (hangs.home k.edge.first) (hangs.home k.edge.second))) true) test
            ∙ ap (λ (n : ℕ). set (index part n (hangs.home k.edge.second))) (ap hangs.home first ∙ home_at x is_x)
            ∙ ap (λ (n : ℕ). set (index part x n)) (ap hangs.home second ∙ home_at y is_y)
            ∙ ap set (index_is count part b x y simple joined)

        by : HasEnds k.edge (image places p) (image places q) → spread_edge k.edge ≡ set b
        by (inl s) = at_ends p q ends.0 ends.1 s.0 s.1 j
        by (inr s) = at_ends q p ends.1 ends.0 s.0 s.1 (joins_back j)

    -- and elsewhere
    spread_beyond : (c u v : ℕ) → Joins whole c u v → (hangs.root u ≢ 0) ⊎ (hangs.root v ≢ 0) → spread c ≡ true
    spread_beyond c u v k some = spread_at c k.edge k.at ∙ ap (λ (t : Bool). cond t (set (index part (hangs.home k.edge.first) (hangs.home k.edge.second))) true)
        (not_both (hangs.root k.edge.first) (hangs.root k.edge.second) (by k.ends some))
      where
        by : HasEnds k.edge u v → (hangs.root u ≢ 0) ⊎ (hangs.root v ≢ 0) → (hangs.root k.edge.first ≢ 0) ⊎ (hangs.root k.edge.second ≢ 0)
        by (inl s) (inl t) = inl (λ none. t (ap hangs.root (sym s.0) ∙ none))
        by (inl s) (inr t) = inr (λ none. t (ap hangs.root (sym s.1) ∙ none))
        by (inr s) (inl t) = inr (λ none. t (ap hangs.root (sym s.1) ∙ none))
        by (inr s) (inr t) = inl (λ none. t (ap hangs.root (sym s.0) ∙ none))

    -- what isn't a bond of the part is in the set
    spread_if : (c u v : ℕ) → Joins whole c u v → (IsPartBond part whole places c u v → spread c ≡ true) → spread c ≡ true
    spread_if c u v k here = by (hangs.bonds c u v k)
      where
        by : LiesThere part whole count places hangs.home hangs.root c u v → spread c ≡ true
        by (inl m) = here m
        by (inr (inl m)) = spread_beyond c u v k (inl m.beyond)
        by (inr (inr (inl m))) = spread_beyond c u v k (inr m.beyond)
        by (inr (inr (inr m))) = spread_beyond c u v k (inl m.beyond)

    part_joins : (c u v : ℕ) → Joins whole c u v → (m : IsPartBond part whole places c u v) → Joins whole c (image places m.p) (image places m.q)
    part_joins c u v k m = subst (λ (n : ℕ). Joins whole c n (image places m.q)) (sym m.first) (subst (Joins whole c u) (sym m.second) k)

    -- ---- a six-ring that has a bond of the part lies in the part

    module _ (x k : ℕ → ℕ) (cycle : IsSixCycle whole x k) where
      -- a ring bond that ends at an atom of the part is one of the part
      next_in : (n : ℕ) → n < 6 → hangs.root (x n) ≡ 0 → IsPartBond part whole places (k n) (x n) (x ((n + 1) % 6))
      next_in n less none = by (hangs.bonds (k n) (x n) (x ((n + 1) % 6)) (cycle.joined n less))
        where
          by : LiesThere part whole count places hangs.home hangs.root (k n) (x n) (x ((n + 1) % 6)) → IsPartBond part whole places (k n) (x n) (x ((n + 1) % 6))
          by (inl m) = m
          by (inr (inl m)) = absurd (m.beyond none)
          by (inr (inr (inl m))) = absurd (no_ring (k n) (x n) (x ((n + 1) % 6)) (cycle.joined n less) m (IsRingBond-round whole x k cycle n less))
          by (inr (inr (inr m))) = absurd (m.beyond none)

      next_root : (n : ℕ) → n < 6 → hangs.root (x n) ≡ 0 → hangs.root (x ((n + 1) % 6)) ≡ 0
      next_root n less none = (let m = next_in n less none in let ends = ends_within m.b m.p m.q m.joined in ap hangs.root (sym m.second) ∙ root_at m.q ends.1)

      -- so many steps further
      further : (i n : ℕ) → i < 6 → hangs.root (x i) ≡ 0 → hangs.root (x ((i + n) % 6)) ≡ 0
      further i zero less none = (let same : i ≡ (i + 0) % 6 = omega arith in subst (λ (m : ℕ). hangs.root (x m) ≡ 0) same none)
      further i (suc n) less none =
          let there = further i n less none in
          let next = next_root ((i + n) % 6) (omega arith) there in
          let same : ((i + n) % 6 + 1) % 6 ≡ (i + suc n) % 6 = omega arith in
          subst (λ (m : ℕ). hangs.root (x m) ≡ 0) same next

      all_in : (i n : ℕ) → i < 6 → n < 6 → hangs.root (x i) ≡ 0 → hangs.root (x n) ≡ 0
      all_in i n less less' none = (let same : (i + (n + 6 - i)) % 6 ≡ n = omega (arith, less, less') in subst (λ (m : ℕ). hangs.root (x m) ≡ 0) same (further i (n + 6 - i) less none))

    closed_spread : IsClosed whole spread
    closed_spread = record {
      type_four = λ c kind.
          let k : Joins whole c kind.edge.first kind.edge.second = record { edge = kind.edge; at = kind.at; ends = inl (refl, refl) } in
          spread_if c kind.edge.first kind.edge.second k (λ m.
          spread_is c m.b m.p m.q m.joined (part_joins c kind.edge.first kind.edge.second k m) ∙ closed.type_four m.b ((m.kind 4).1 kind));
      six_rings = λ x k cycle labels i below.
          spread_if (k i) (x i) (x ((i + 1) % 6)) (cycle.joined i below) (λ m.
          (let ends = ends_within m.b m.p m.q m.joined in
          held x k cycle labels i below (ap hangs.root (sym m.first) ∙ root_at m.p ends.0)));
    }
      where
        takes_down : (b c label : ℕ) → spread c ≡ set b → SameKind part b whole c → Takes whole spread c label → Takes part set b label
        takes_down b c label same kinds (inl is) = inl (sym same ∙ is)
        takes_down b c label same kinds (inr kind) = inr ((kinds label).1 kind)

        held : (x k : ℕ → ℕ) (cycle : IsSixCycle whole x k) → TakesLabels whole spread k → (i : ℕ) → i < 6 → hangs.root (x i) ≡ 0 → spread (k i) ≡ true
        held x k cycle labels i below none = at_bond i below ∙ closed.six_rings (λ n. hangs.home (x n)) down around takes i below
          where
            down : ℕ → ℕ
            down n = index part (hangs.home (x n)) (hangs.home (x ((n + 1) % 6)))

            inside : (n : ℕ) → n < 6 → IsPartBond part whole places (k n) (x n) (x ((n + 1) % 6))
            inside n less = next_in x k cycle n less (all_in x k cycle i n below less none)

            homes : (n : ℕ) (less : n < 6) → (hangs.home (x n) ≡ (inside n less).p) × (hangs.home (x ((n + 1) % 6)) ≡ (inside n less).q)
            homes n less =
                let m = inside n less in
                let ends = ends_within m.b m.p m.q m.joined in
                (ap hangs.home (sym m.first) ∙ home_at m.p ends.0, ap hangs.home (sym m.second) ∙ home_at m.q ends.1)

            joined : (n : ℕ) (less : n < 6) → Joins part (inside n less).b (hangs.home (x n)) (hangs.home (x ((n + 1) % 6)))
            joined n less =
                let m = inside n less in
                let is = homes n less in
                subst (λ (a : ℕ). Joins part m.b a (hangs.home (x ((n + 1) % 6)))) (sym is.0) (subst (Joins part m.b m.p) (sym is.1) m.joined)

            found : (n : ℕ) (less : n < 6) → down n ≡ (inside n less).b
            found n less = index_is count part (inside n less).b (hangs.home (x n)) (hangs.home (x ((n + 1) % 6))) simple (joined n less)

            back : (n : ℕ) → n < 6 → image places (hangs.home (x n)) ≡ x n
            back n less = ap (image places) (homes n less).0 ∙ (inside n less).first

            around : IsSixCycle part (λ n. hangs.home (x n)) down
            around = record {
              distinct = λ n m less less' same. cycle.distinct n m less less' (sym (back n less) ∙ ap (image places) same ∙ back m less');
              joined = λ n less. subst (λ (b : ℕ). Joins part b (hangs.home (x n)) (hangs.home (x ((n + 1) % 6)))) (sym (found n less)) (joined n less);
            }

            at_bond : (n : ℕ) → n < 6 → spread (k n) ≡ set (down n)
            at_bond n less =
                let m = inside n less in
                spread_is (k n) m.b m.p m.q m.joined (part_joins (k n) (x n) (x ((n + 1) % 6)) (cycle.joined n less) m) ∙ ap set (sym (found n less))

            takes : TakesLabels part set down
            takes n less =
                let m = inside n less in
                takes_down (down n) (k n) (1 + n % 2) (at_bond n less) (subst (λ (b : ℕ). SameKind part b whole (k n)) (sym (found n less)) m.kind) (labels n less)

  aromatic_in_part : (b c p q : ℕ) → Joins part b p q → Joins whole c (image places p) (image places q) → IsAromatic whole c → IsAromatic part b
  aromatic_in_part b c p q j k aromatic set closed = sym (spread_is set closed c b p q j k) ∙ aromatic (spread set closed) (closed_spread set closed)

-- ---- the laws

pub rings_stay : RingBondsStay
rings_stay part whole count atoms places simple simple' hangs b c p q j k =
    (ring_in_whole part whole count atoms places simple simple' hangs b c p q j k, ring_in_part part whole count atoms places simple simple' hangs b c p q j k)

pub none_leads_away : NoRingBondLeadsAway
none_leads_away part whole count atoms places simple simple' hangs c p v least most k ring = away part whole count atoms places simple simple' hangs c p v least most k ring

pub aromatic_stays : AromaticSetStays
aromatic_stays part whole count atoms places simple simple' hangs b c p q j k =
    (aromatic_in_whole part whole count atoms places simple simple' hangs b c p q j k, aromatic_in_part part whole count atoms places simple simple' hangs b c p q j k)
