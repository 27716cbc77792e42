-- Marks that were found before hydrogens are added. A bond to an atom that has no other lies in no
-- ring, and changes no marks.
--     IsPendant atoms edge     the edge joins one of so many atoms and the next one
--     marked-more              such a bond has neither mark, and all others keep theirs
--     marked-filled            so it is with the bonds of added hydrogens
--     filled_marks             what is made of marked bonds and of hydrogens has the marks of the whole
use Rattle.std.proofs.Common.{◌≡◌, ◌≢◌, ◌≤◌, ◌<◌, ◌+◌, ◌-◌, ◌%◌, ◌++◌, ◌&&◌, ◌⊎◌, ℕ, zero, suc, Bool, true, false, cond, eqb, ltb, List, [], ◌∷◌, Some, refl, ap, sym, ◌∙◌, subst, inl, inr, ⊎_elim, arith, drop, length, take}
use Rattle.std.specs.Prelude.{All, map, slice_get}
use Rattle.std.proofs.lemmas.Bool.{eq-eqb, ne_eqb, le-ltb, lt-ltb, true≢false}
use Rattle.std.proofs.Math.Seq.{drop-append_seam}
use Rattle.std.proofs.lemmas.List.{append-nil, append_assoc, length-append, length-map, map-append, take_all}
use Rattle.std.proofs.lemmas.List.Elements.{All-head, All-tail, All-weaker}
use Rattle.mk_model.specs.declared.edge.Edge.{Edge}
use Rattle.mk_model.specs.declared.molecule.MolBond.{MolBond}
use Rattle.mk_model.specs.Edges.{AreBetween, HasEnds, HasKind, IsSimple, Joins}
use Rattle.mk_model.specs.Aromatic.{IsAromatic, IsClosed, IsSixCycle, Takes, TakesLabels}
use Rattle.mk_model.specs.Molecules.{HasMarks, edge_of, edges}
use Rattle.mk_model.specs.Rings.{IsRingBond, IsWay, Step}
use Rattle.mk_marks.specs.Laws.{AreMarked}
use Rattle.mk_marks.proofs.JoinLemmas.{get_or-from_get, joins_within}
use Rattle.mk_marks.proofs.WayLemmas.{IsRingBond-linked, Linked, linked_by, linked_here, linked_on, same_along}
use Rattle.mk_mol.specs.Filled.{hydrogen_bonds, owners}
use Rattle.mk_mol.specs.Putting.{unmarked}
use Rattle.mk_rings.proofs.BridgeLemmas.{IsRingBond-round}
use Rattle.mk_mol.proofs.FilledLemmas.{graph-more, owners-within}

-- the edge joins one of so many atoms and the next one, and isn't of type 4
pub record IsPendant (atoms : ℕ) (edge : Edge) : Type 0 where
  pub first : (1 ≤ edge.first) × (edge.first ≤ atoms)
  pub second : edge.second ≡ atoms + 1
  pub kind : edge.kind ≢ 4

-- ---- a list with one item more

-- what stands in the front stands in the whole
get_front : {A : Type 0} → (xs ys : List A) (k : ℕ) (e : A) → slice_get xs k ≡ Some e → slice_get (xs ++ ys) k ≡ Some e
get_front [] ys k e is = absurd cc
get_front (x ∷ xs) ys zero e is = is
get_front (x ∷ xs) ys (suc k) e is = get_front xs ys k e is

-- an item of the whole is one of the front, or the last
get_either : {A : Type 0} → (xs : List A) (y : A) (k : ℕ) (e : A) → slice_get (xs ++ y ∷ []) k ≡ Some e → (slice_get xs k ≡ Some e) ⊎ ((k ≡ length xs) × (e ≡ y))
get_either [] y zero e is = inr (refl, cc)
get_either [] y (suc k) e is = absurd cc
get_either (x ∷ xs) y zero e is = inl is
get_either (x ∷ xs) y (suc k) e is = ⊎_elim (λ front. inl front) (λ last. inr (omega (arith, last.0), last.1)) (get_either xs y k e is)

-- what stands at a place of a mapped list
get_mapped : (bonds : List MolBond) (k : ℕ) (bond : MolBond) → slice_get bonds k ≡ Some bond → slice_get (edges bonds) k ≡ Some (edge_of bond)
get_mapped [] k bond is = absurd cc
get_mapped (x ∷ xs) zero bond is = (let same : x ≡ bond = cc in ap (λ (b : MolBond). Some (edge_of b)) same)
get_mapped (x ∷ xs) (suc k) bond is = get_mapped xs k bond is

both_true : (p q : Bool) → p ≡ true → q ≡ true → (p && q) ≡ true
both_true true true a b = refl
both_true true false a b = absurd cc
both_true false q a b = absurd cc

first_true : (p q : Bool) → (p && q) ≡ true → p ≡ true
first_true true q is = refl
first_true false q is = absurd cc

second_true : (p q : Bool) → (p && q) ≡ true → q ≡ true
second_true true q is = is
second_true false q is = absurd cc

module _ (atoms : ℕ) (bonds : List Edge) (edge : Edge) (ends : AreBetween atoms bonds) (pendant : IsPendant atoms edge) where
  abbrev whole : List Edge
  whole = bonds ++ edge ∷ []

  joins_more : (b x y : ℕ) → Joins bonds b x y → Joins whole b x y
  joins_more b x y j = record { edge = j.edge; at = get_front bonds (edge ∷ []) b j.edge j.at; ends = j.ends }

  -- a bond of the whole is one of the others, or the new one
  joins_either : (b x y : ℕ) → Joins whole b x y → Joins bonds b x y ⊎ ((b ≡ length bonds) × HasEnds edge x y)
  joins_either b x y j =
      ⊎_elim (λ front. inl (record { edge = j.edge; at = front; ends = j.ends }))
      (λ last. inr (last.0, subst (λ (e : Edge). HasEnds e x y) last.1 j.ends))
      (get_either bonds edge b j.edge j.at)

  -- ends of the other bonds are among the atoms
  ends_within : (b x y : ℕ) → Joins bonds b x y → (x ≤ atoms) × (y ≤ atoms)
  ends_within b x y j =
      let there = ends b j.edge (joins_within bonds b x y j) in
      let same = get_or-from_get bonds b j.edge j.edge j.at in
      let first : j.edge.first ≤ atoms = subst (λ (m : Edge). m.first ≤ atoms) same there.first.1 in
      let second : j.edge.second ≤ atoms = subst (λ (m : Edge). m.second ≤ atoms) same there.second.1 in
      ⊎_elim (λ is. (omega (arith, is.0, first), omega (arith, is.1, second))) (λ is. (omega (arith, is.1, second), omega (arith, is.0, first))) j.ends

  -- ---- rings

  -- the new atom at the atom to which it is bonded
  abbrev home : ℕ → ℕ
  home v = cond (eqb v (atoms + 1)) edge.first v

  home_old : (v : ℕ) → v ≤ atoms → home v ≡ v
  home_old v most = (let other : eqb v (atoms + 1) ≡ false = ne_eqb v (atoms + 1) (λ same. absurd (omega (arith, same, most))) in ap (λ (t : Bool). cond t edge.first v) other)

  home_new : home (atoms + 1) ≡ edge.first
  home_new = ap (λ (t : Bool). cond t edge.first (atoms + 1)) (eq-eqb (atoms + 1) (atoms + 1) refl)

  home_first : home edge.first ≡ edge.first
  home_first = home_old edge.first pendant.first.1

  home_second : home edge.second ≡ edge.first
  home_second = ap home pendant.second ∙ home_new

  step_linked : (b d u w : ℕ) → Joins whole d u w → d ≢ b → Linked bonds b (home u) (home w)
  step_linked b d u w j other = by (joins_either d u w j)
    where
      one_home : home u ≡ home w → Linked bonds b (home u) (home w)
      one_home same = subst (λ (n : ℕ). Linked bonds b (home u) n) same (linked_here bonds b (home u))

      by : Joins bonds d u w ⊎ ((d ≡ length bonds) × HasEnds edge u w) → Linked bonds b (home u) (home w)
      by (inl old) =
          let within = ends_within d u w old in
          subst (λ (n : ℕ). Linked bonds b n (home w)) (sym (home_old u within.0)) (subst (λ (n : ℕ). Linked bonds b u n) (sym (home_old w within.1)) (linked_by b old other))
      by (inr (is, inl e)) = one_home (ap home (sym e.0) ∙ home_first ∙ sym home_second ∙ ap home e.1)
      by (inr (is, inr e)) = one_home (ap home (sym e.1) ∙ home_second ∙ sym home_first ∙ ap home e.0)

  way_linked : (b u v : ℕ) (way : List Step) → IsWay whole b u way v → Linked bonds b (home u) (home v)
  way_linked b u v [] is = subst (λ (n : ℕ). Linked bonds b (home u) (home n)) is (linked_here bonds b (home u))
  way_linked b u v (step ∷ way) is = linked_on (step_linked b step.bond u step.to is.0 is.1) (way_linked b step.to v way is.2)

  ring_down : (b : ℕ) (e : Edge) → slice_get bonds b ≡ Some e → IsRingBond whole b → IsRingBond bonds b
  ring_down b e at ring =
      let one : Some ring.edge ≡ Some e = sym ring.at ∙ get_front bonds (edge ∷ []) b e at in
      let same : ring.edge ≡ e = cc in
      let j : Joins bonds b e.first e.second = record { edge = e; at = at; ends = inl (refl, refl) } in
      let within = ends_within b e.first e.second j in
      let first : home ring.edge.first ≡ e.first = ap (λ (m : Edge). home m.first) same ∙ home_old e.first within.0 in
      let second : home ring.edge.second ≡ e.second = ap (λ (m : Edge). home m.second) same ∙ home_old e.second within.1 in
      let linked = way_linked b ring.edge.first ring.edge.second ring.way ring.around in
      IsRingBond-linked j (subst (λ (n : ℕ). Linked bonds b n e.second) first (subst (λ (n : ℕ). Linked bonds b (home ring.edge.first) n) second linked))

  way_up : (b x y : ℕ) (way : List Step) → IsWay bonds b x way y → IsWay whole b x way y
  way_up b x y [] is = is
  way_up b x y (step ∷ way) is = (joins_more step.bond x step.to is.0, is.1, way_up b step.to y way is.2)

  ring_up : (b : ℕ) → IsRingBond bonds b → IsRingBond whole b
  ring_up b ring = record { edge = ring.edge; at = get_front bonds (edge ∷ []) b ring.edge ring.at; way = ring.way; around = way_up b ring.edge.first ring.edge.second ring.way ring.around }

  -- the new bond is the only one at its atom
  no_ring : IsRingBond whole (length bonds) → ⊥
  no_ring ring =
      true≢false (sym (is_new edge.second pendant.second) ∙ sym (same ∙ ap new (ap (λ (m : Edge). m.second) is)) ∙ ap new (ap (λ (m : Edge). m.first) is) ∙ is_old edge.first pendant.first.1)
    where
      new : ℕ → Bool
      new v = eqb v (atoms + 1)

      is_new : (v : ℕ) → v ≡ atoms + 1 → new v ≡ true
      is_new v at = eq-eqb v (atoms + 1) at

      is_old : (v : ℕ) → v ≤ atoms → new v ≡ false
      is_old v most = ne_eqb v (atoms + 1) (λ at. absurd (omega (arith, at, most)))

      is : ring.edge ≡ edge
      is =
          ⊎_elim
          (λ front. absurd (let below = joins_within bonds (length bonds) ring.edge.first ring.edge.second (record { edge = ring.edge; at = front; ends = inl (refl, refl) }) in omega (arith, below)))
          (λ last. last.1) (get_either bonds edge (length bonds) ring.edge ring.at)

      stays : (b x y : ℕ) → Joins whole b x y → b ≢ length bonds → new x ≡ new y
      stays b x y j other =
          ⊎_elim (λ old. let within = ends_within b x y old in is_old x within.0 ∙ sym (is_old y within.1)) (λ last. absurd (other last.0)) (joins_either b x y j)

      same : new ring.edge.first ≡ new ring.edge.second
      same = same_along whole (length bonds) new stays ring.edge.first ring.edge.second ring.way ring.around

  -- ---- the aromatic set

  kind_up : (b kind : ℕ) → HasKind bonds b kind → HasKind whole b kind
  kind_up b kind k = record { edge = k.edge; at = get_front bonds (edge ∷ []) b k.edge k.at; is = k.is }

  kind_down : (b kind : ℕ) → b < length bonds → HasKind whole b kind → HasKind bonds b kind
  kind_down b kind below k =
      ⊎_elim (λ front. record { edge = k.edge; at = front; is = k.is }) (λ last. absurd (omega (arith, last.0, below))) (get_either bonds edge b k.edge k.at)

  closed_part : (set : ℕ → Bool) → IsClosed whole set → IsClosed bonds set
  closed_part set closed = record {
    type_four = λ b k. closed.type_four b (kind_up b 4 k);
    six_rings = λ x k cycle labels.
        closed.six_rings x k (record { distinct = cycle.distinct; joined = λ i h. joins_more (k i) (x i) (x ((i + 1) % 6)) (cycle.joined i h) })
        (λ i h. ⊎_elim (λ marked. inl marked) (λ kind. inr (kind_up (k i) (1 + i % 2) kind)) (labels i h));
  }

  aromatic_up : (b : ℕ) → IsAromatic bonds b → IsAromatic whole b
  aromatic_up b aromatic set closed = aromatic set (closed_part set closed)

  -- a set of the other bonds, without the new one
  abbrev others : (ℕ → Bool) → ℕ → Bool
  others set b = ltb b (length bonds) && set b

  closed_whole : (set : ℕ → Bool) → IsClosed bonds set → IsClosed whole (others set)
  closed_whole set closed = record {
    type_four = λ b k.
        ⊎_elim
        (λ front.
        let below = joins_within bonds b k.edge.first k.edge.second (record { edge = k.edge; at = front; ends = inl (refl, refl) }) in
        both_true (ltb b (length bonds)) (set b) (lt-ltb b (length bonds) below) (closed.type_four b (record { edge = k.edge; at = front; is = k.is })))
        (λ last. absurd (pendant.kind (ap (λ (m : Edge). m.kind) (sym last.1) ∙ k.is)))
        (get_either bonds edge b k.edge k.at);
    six_rings = λ x k cycle labels i h.
        (let below = joins_within bonds (k i) (x i) (x ((i + 1) % 6)) (inside x k cycle i h) in
        both_true (ltb (k i) (length bonds)) (set (k i)) (lt-ltb (k i) (length bonds) below)
        (closed.six_rings x k (record { distinct = cycle.distinct; joined = inside x k cycle }) (takes x k cycle labels) i h));
  }
    where
      -- no six-ring goes over the new bond
      inside : (x k : ℕ → ℕ) → IsSixCycle whole x k → (i : ℕ) → i < 6 → Joins bonds (k i) (x i) (x ((i + 1) % 6))
      inside x k cycle i h =
          ⊎_elim (λ old. old)
          (λ last. absurd (no_ring (subst (λ (b : ℕ). IsRingBond whole b) last.0 (IsRingBond-round whole x k cycle i h))))
          (joins_either (k i) (x i) (x ((i + 1) % 6)) (cycle.joined i h))

      takes : (x k : ℕ → ℕ) → IsSixCycle whole x k → TakesLabels whole (others set) k → TakesLabels bonds set k
      takes x k cycle labels i h =
          ⊎_elim (λ marked. inl (second_true (ltb (k i) (length bonds)) (set (k i)) marked))
          (λ kind. inr (kind_down (k i) (1 + i % 2) (joins_within bonds (k i) (x i) (x ((i + 1) % 6)) (inside x k cycle i h)) kind))
          (labels i h)

  aromatic_down : (b : ℕ) → IsAromatic whole b → IsAromatic bonds b
  aromatic_down b aromatic set closed = second_true (ltb b (length bonds)) (set b) (aromatic (others set) (closed_whole set closed))

  not_aromatic : IsAromatic whole (length bonds) → ⊥
  not_aromatic aromatic =
      let all : ℕ → Bool = λ b. true in
      let closed = closed_whole all (record { type_four = λ b k. refl; six_rings = λ x k cycle labels i h. refl }) in
      let below = first_true (ltb (length bonds) (length bonds)) (all (length bonds)) (aromatic (others all) closed) in
      true≢false (sym below ∙ le-ltb (length bonds) (length bonds) (omega arith))

-- ---- marks

-- such a bond has neither mark, and all others keep theirs
pub marked-more : (atoms : ℕ) (bonds : List MolBond) (edge : Edge) → AreBetween atoms (edges bonds) → AreMarked bonds → IsPendant atoms edge
    → AreMarked (bonds ++ unmarked edge ∷ [])
marked-more atoms bonds edge ends marked pendant b bond at =
    let all : edges (bonds ++ unmarked edge ∷ []) ≡ edges bonds ++ edge ∷ [] = map-append edge_of bonds (unmarked edge ∷ []) in
    subst (λ (es : List Edge). HasMarks es b bond) (sym all) (by (get_either bonds (unmarked edge) b bond at))
  where
    by : (slice_get bonds b ≡ Some bond) ⊎ ((b ≡ length bonds) × (bond ≡ unmarked edge)) → HasMarks (edges bonds ++ edge ∷ []) b bond
    by (inl old) =
        let marks = marked b bond old in
        record {
          ring = (
            λ is. ring_up atoms (edges bonds) edge ends pendant b (marks.ring.0 is),
            λ ring. marks.ring.1 (ring_down atoms (edges bonds) edge ends pendant b (edge_of bond) (get_mapped bonds b bond old) ring),
          );
          aromatic = (
            λ is. aromatic_up atoms (edges bonds) edge ends pendant b (marks.aromatic.0 is),
            λ aromatic. marks.aromatic.1 (aromatic_down atoms (edges bonds) edge ends pendant b aromatic),
          );
        }
    by (inr (here, is)) =
        let place : b ≡ length (edges bonds) = here ∙ sym (length-map bonds edge_of) in
        record {
          ring = (
            λ yes. absurd (true≢false (sym yes ∙ ap (λ (m : MolBond). m.ring) is)),
            λ ring. absurd (no_ring atoms (edges bonds) edge ends pendant (subst (λ (k : ℕ). IsRingBond (edges bonds ++ edge ∷ []) k) place ring)),
          );
          aromatic = (
            λ yes. absurd (true≢false (sym yes ∙ ap (λ (m : MolBond). m.aromatic) is)),
            λ aromatic. absurd (not_aromatic atoms (edges bonds) edge ends pendant (subst (λ (k : ℕ). IsAromatic (edges bonds ++ edge ∷ []) k) place aromatic)),
          );
        }

-- so it is with the bonds of added hydrogens
pub marked-filled : (atoms : ℕ) (bonds : List MolBond) (os : List ℕ) → IsSimple atoms (edges bonds) → AreMarked bonds
    → All (λ o. (1 ≤ o) × (o ≤ atoms)) os → AreMarked (bonds ++ map unmarked (hydrogen_bonds (atoms + 1) os))
marked-filled atoms bonds [] simple marked within = rw (append-nil bonds) marked
marked-filled atoms bonds (o ∷ os) simple marked within =
    let here = All-head (λ (x : ℕ). (1 ≤ x) × (x ≤ atoms)) o os within in
    let others = All-weaker (λ (x : ℕ). (1 ≤ x) × (x ≤ atoms)) (λ (x : ℕ). (1 ≤ x) × (x ≤ atoms + 1)) (λ x h. (h.0, omega (arith, h.1))) os (All-tail (λ (x : ℕ). (1 ≤ x) × (x ≤ atoms)) o os within) in
    let last : Edge = record { first = o; second = atoms + 1; kind = 1 } in
    let pendant : IsPendant atoms last = record { first = here; second = refl; kind = λ same. absurd (omega (arith, same)) } in
    let all : edges (bonds ++ unmarked last ∷ []) ≡ edges bonds ++ last ∷ [] = map-append edge_of bonds (unmarked last ∷ []) in
    let simple' : IsSimple (atoms + 1) (edges (bonds ++ unmarked last ∷ [])) = subst (λ (es : List Edge). IsSimple (atoms + 1) es) (sym all) (graph-more atoms (edges bonds) o simple here.0 here.1) in
    let more = marked-filled (atoms + 1) (bonds ++ unmarked last ∷ []) os simple' (marked-more atoms bonds last simple.ends marked pendant) others in
    subst AreMarked (append_assoc bonds (unmarked last ∷ []) (map unmarked (hydrogen_bonds (atoms + 1 + 1) os))) more

edges-unmarked : (es : List Edge) → edges (map unmarked es) ≡ es
edges-unmarked [] = refl
edges-unmarked (e ∷ es) = ap (λ (l : List Edge). e ∷ l) (edges-unmarked es)

-- what is made of marked bonds and of hydrogens has the marks of the whole
pub filled_marks : (atoms : ℕ) (old plain : List Edge) (gains : List ℕ) (drawn bonds : List MolBond) → length gains ≡ atoms → IsSimple atoms old
    → plain ≡ old ++ hydrogen_bonds (atoms + 1) (owners 1 gains) → edges drawn ≡ old
    → ((b : ℕ) (bond : MolBond) → slice_get drawn b ≡ Some bond → HasMarks old b bond)
    → bonds ≡ drawn ++ map unmarked (take (length plain - length old) (drop (length old) plain))
    → (edges bonds ≡ plain) × ((b : ℕ) (bond : MolBond) → slice_get bonds b ≡ Some bond → HasMarks plain b bond)
filled_marks atoms old plain gains drawn bonds size simple bonded same marks made = (are, λ b bond at. subst (λ (es : List Edge). HasMarks es b bond) are (marked b bond at))
  where
    dropped : drop (length old) plain ≡ hydrogen_bonds (atoms + 1) (owners 1 gains)
    dropped = ap (drop (length old)) bonded ∙ drop-append_seam old (hydrogen_bonds (atoms + 1) (owners 1 gains))

    behind : take (length plain - length old) (drop (length old) plain) ≡ hydrogen_bonds (atoms + 1) (owners 1 gains)
    behind = ap (take (length plain - length old)) dropped
        ∙ take_all (length plain - length old) (hydrogen_bonds (atoms + 1) (owners 1 gains)) (omega (arith, ap length bonded, length-append old (hydrogen_bonds (atoms + 1) (owners 1 gains))))

    whole : bonds ≡ drawn ++ map unmarked (hydrogen_bonds (atoms + 1) (owners 1 gains))
    whole = made ∙ ap (λ (es : List Edge). drawn ++ map unmarked es) behind

    are : edges bonds ≡ plain
    are = ap edges whole ∙ map-append edge_of drawn (map unmarked (hydrogen_bonds (atoms + 1) (owners 1 gains)))
        ∙ ap (λ (es : List Edge). edges drawn ++ es) (edges-unmarked (hydrogen_bonds (atoms + 1) (owners 1 gains)))
        ∙ ap (λ (es : List Edge). es ++ hydrogen_bonds (atoms + 1) (owners 1 gains)) same ∙ sym bonded

    within : All (λ o. (1 ≤ o) × (o ≤ atoms)) (owners 1 gains)
    within = All-weaker (λ (o : ℕ). (1 ≤ o) × (o < 1 + length gains)) (λ (o : ℕ). (1 ≤ o) × (o ≤ atoms)) (λ o h. (h.0, omega (arith, h.1, size))) (owners 1 gains) (owners-within 1 gains)

    marked : AreMarked bonds
    marked = subst AreMarked (sym whole)
        (marked-filled atoms drawn (owners 1 gains) (subst (IsSimple atoms) (sym same) simple) (λ b bond at. subst (λ (es : List Edge). HasMarks es b bond) (sym same) (marks b bond at)) within)
