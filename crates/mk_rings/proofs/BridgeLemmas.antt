-- Bonds that are no ring bonds lie on no six-ring, so the aromatic set is the same where they have no type that takes a label.
--     IsRingBond-round        each bond of a cycle is a ring bond
--     IsAromatic-rings        the aromatic set of the bonds is that of those without bridges
use Rattle.std.proofs.Common.{◌≡◌, ◌≢◌, ◌≤◌, ◌<◌, ◌+◌, ◌%◌, ◌++◌, ℕ, zero, suc, Bool, true, false, cond, eqb, ◌||◌, List, [], ◌∷◌, refl, ap, sym, ◌∙◌, subst, inl, inr, ⊎_elim, arith, length, get_or}
use Rattle.std.proofs.lemmas.Bool.{eq-eqb}
use Rattle.mk_model.specs.declared.edge.Edge.{Edge}
use Rattle.mk_model.specs.Edges.{AreBetween, HasKind, Joins, numbers_at, numbers_from, rows_of, touches}
use Rattle.mk_model.specs.Aromatic.{IsAromatic, IsClosed, IsSixCycle}
use Rattle.mk_model.specs.Rings.{IsRingBond}
use Rattle.mk_marks.specs.Marks.{Marks}
use Rattle.mk_rings.specs.Bridges.{AreWithoutBridges, label_if}
use Rattle.mk_marks.proofs.ClosedLemmas.{nth_round}
use Rattle.mk_marks.proofs.SixLemmas.{IsRound, round_of_rule}
use Rattle.mk_marks.proofs.JoinLemmas.{get_or-from_get, joins_within, slice_get-at}
use Rattle.mk_marks.proofs.WayLemmas.{IsRingBond-linked, Linked, joins_back, linked_by, linked_on, same_ends}

-- ---- cycles

-- the first bond of a cycle is a ring bond: the others lead round it
round_first : (bonds : List Edge) (s : ℕ → Bool) (l : ℕ) (x k : ℕ → ℕ) → IsRound bonds s l x k → IsRingBond bonds (k 0)
round_first bonds s l x k r =
    IsRingBond-linked (joins_back (r.joined 0 (omega arith)))
    (linked_on (over 1 (omega arith) (omega arith)) (linked_on (over 2 (omega arith) (omega arith))
    (linked_on (over 3 (omega arith) (omega arith))
    (linked_on (over 4 (omega arith) (omega arith)) (over 5 (omega arith) (omega arith))))))
  where
    other : (j : ℕ) → 1 ≤ j → j < 6 → k j ≡ k 0 → ⊥
    other j some below same =
        let P : ℕ → Type 0 = λ b. Joins bonds b (x j) (x ((j + 1) % 6)) in
        let here : Joins bonds (k 0) (x j) (x ((j + 1) % 6)) = subst P same (r.joined j below) in
        ⊎_elim
        (λ e. let first : 0 ≡ j = r.distinct 0 j (omega arith) below e.0 in omega (arith, first, some))
        (λ e.
        let back : 0 ≡ (j + 1) % 6 = r.distinct 0 ((j + 1) % 6) (omega arith) (omega arith) e.0 in
        let first : 1 ≡ j = r.distinct 1 j (omega arith) below e.1 in
        omega (arith, back, first))
        (same_ends (r.joined 0 (omega arith)) here)

    over : (j : ℕ) → 1 ≤ j → j < 6 → Linked bonds (k 0) (x j) (x ((j + 1) % 6))
    over j some below = linked_by (k 0) (r.joined j below) (other j some below)

-- and so is each other
pub IsRingBond-round : (bonds : List Edge) (x k : ℕ → ℕ) → IsSixCycle bonds x k → (i : ℕ) → i < 6 → IsRingBond bonds (k i)
IsRingBond-round bonds x k cycle i below =
    let all : ℕ → Bool = λ b. true in
    let r = nth_round bonds all i 1 x k (inl refl) (round_of_rule bonds all x k cycle (λ j h. inl refl)) in
    let place : i % 6 ≡ i = omega arith in
    let P : ℕ → Type 0 = λ b. IsRingBond bonds b in
    subst P (r.5 ∙ ap k place) (round_first bonds all r.0 r.1 r.2 r.4)

-- ---- a bond and its label

-- the ends are the same
label-first : (t : Bool) (e : Edge) → (cond t e (record e { kind = 0 })).first ≡ e.first
label-first true e = refl
label-first false e = refl

label-second : (t : Bool) (e : Edge) → (cond t e (record e { kind = 0 })).second ≡ e.second
label-second true e = refl
label-second false e = refl

-- a type that isn't 0 is that of the bond
label-kind : (t : Bool) (e : Edge) (l : ℕ) → l ≢ 0 → (cond t e (record e { kind = 0 })).kind ≡ l → e.kind ≡ l
label-kind true e l some is = is
label-kind false e l some is = absurd (some (sym is))

-- type 4 stays
label-four : (ring : Bool) (e : Edge) → e.kind ≡ 4 → (label_if ring e).kind ≡ 4
label-four true e is = is
label-four false e is = rw (eq-eqb e.kind 4 is) is

module _ (bonds : List Edge) (rings : List Bool) (edges : List Edge) (are : AreWithoutBridges bonds rings edges) where
  abbrev d : Edge
  d = record { first = 0; second = 0; kind = 0 }

  -- at a place of both
  first-same : (b : ℕ) (e : Edge) → b < length edges → (get_or edges b e).first ≡ (get_or bonds b e).first
  first-same b e below = ap (λ (m : Edge). m.first) (are.each b e below) ∙ label-first (get_or rings b false || eqb (get_or bonds b e).kind 4) (get_or bonds b e)

  second-same : (b : ℕ) (e : Edge) → b < length edges → (get_or edges b e).second ≡ (get_or bonds b e).second
  second-same b e below = ap (λ (m : Edge). m.second) (are.each b e below) ∙ label-second (get_or rings b false || eqb (get_or bonds b e).kind 4) (get_or bonds b e)

  -- what the bonds join the others join
  joins_to : (b x y : ℕ) → Joins bonds b x y → Joins edges b x y
  joins_to b x y j =
      let within : b < length edges = omega (arith, joins_within bonds b x y j, are.size) in
      let at : get_or bonds b d ≡ j.edge = get_or-from_get bonds b d j.edge j.at in
      let first : (get_or edges b d).first ≡ j.edge.first = first-same b d within ∙ ap (λ (m : Edge). m.first) at in
      let second : (get_or edges b d).second ≡ j.edge.second = second-same b d within ∙ ap (λ (m : Edge). m.second) at in
      record {
        edge = get_or edges b d;
        at = slice_get-at edges b d within;
        ends = ⊎_elim (λ e. inl (first ∙ e.0, second ∙ e.1)) (λ e. inr (first ∙ e.0, second ∙ e.1)) j.ends;
      }

  joins_from : (b x y : ℕ) → Joins edges b x y → Joins bonds b x y
  joins_from b x y j =
      let below : b < length edges = joins_within edges b x y j in
      let within : b < length bonds = omega (arith, below, are.size) in
      let at : get_or edges b d ≡ j.edge = get_or-from_get edges b d j.edge j.at in
      let first : (get_or bonds b d).first ≡ j.edge.first = sym (first-same b d below) ∙ ap (λ (m : Edge). m.first) at in
      let second : (get_or bonds b d).second ≡ j.edge.second = sym (second-same b d below) ∙ ap (λ (m : Edge). m.second) at in
      record {
        edge = get_or bonds b d;
        at = slice_get-at bonds b d within;
        ends = ⊎_elim (λ e. inl (first ∙ e.0, second ∙ e.1)) (λ e. inr (first ∙ e.0, second ∙ e.1)) j.ends;
      }

  -- a bond with a type is in the list
  within_kind : (list : List Edge) (b l : ℕ) → HasKind list b l → b < length list
  within_kind list b l k = joins_within list b k.edge.first k.edge.second (record { edge = k.edge; at = k.at; ends = inl (refl, refl) })

  -- a type that isn't 0 is that of the bond
  kind_from : (b l : ℕ) → l ≢ 0 → HasKind edges b l → HasKind bonds b l
  kind_from b l some k =
      let below : b < length edges = within_kind edges b l k in
      let at : get_or edges b d ≡ k.edge = get_or-from_get edges b d k.edge k.at in
      let is : (cond (get_or rings b false || eqb (get_or bonds b d).kind 4) (get_or bonds b d)
      (record (get_or bonds b d) { kind = 0 })).kind ≡ l = ap (λ (m : Edge). m.kind) (sym (are.each b d below) ∙ at)
      ∙ k.is in
      record {
        edge = get_or bonds b d;
        at = slice_get-at bonds b d (omega (arith, below, are.size));
        is = label-kind (get_or rings b false || eqb (get_or bonds b d).kind 4) (get_or bonds b d) l some is;
      }

  -- a ring bond has its type
  kind_to : (b l : ℕ) → get_or rings b false ≡ true → HasKind bonds b l → HasKind edges b l
  kind_to b l ring k =
      let within : b < length edges = omega (arith, within_kind bonds b l k, are.size) in
      let at : get_or bonds b d ≡ k.edge = get_or-from_get bonds b d k.edge k.at in
      let P : Bool → Type 0 = λ t. get_or edges b d ≡ label_if t (get_or bonds b d) in
      let same : get_or edges b d ≡ get_or bonds b d = subst P ring (are.each b d within) in
      record { edge = get_or edges b d; at = slice_get-at edges b d within; is = ap (λ (m : Edge). m.kind) (same ∙ at) ∙ k.is }

  -- and so has one of type 4
  four_to : (b : ℕ) → HasKind bonds b 4 → HasKind edges b 4
  four_to b k =
      let within : b < length edges = omega (arith, within_kind bonds b 4 k, are.size) in
      let at : get_or bonds b d ≡ k.edge = get_or-from_get bonds b d k.edge k.at in
      record {
        edge = get_or edges b d;
        at = slice_get-at edges b d within;
        is = ap (λ (m : Edge). m.kind) (are.each b d within) ∙ label-four (get_or rings b false) (get_or bonds b d) (ap (λ (m : Edge). m.kind) at ∙ k.is);
      }

  -- ---- closed sets

  cycle_to : (x k : ℕ → ℕ) → IsSixCycle bonds x k → IsSixCycle edges x k
  cycle_to x k cycle = record { distinct = cycle.distinct; joined = λ i h. joins_to (k i) (x i) (x ((i + 1) % 6)) (cycle.joined i h) }

  cycle_from : (x k : ℕ → ℕ) → IsSixCycle edges x k → IsSixCycle bonds x k
  cycle_from x k cycle = record { distinct = cycle.distinct; joined = λ i h. joins_from (k i) (x i) (x ((i + 1) % 6)) (cycle.joined i h) }

  closed_to : (s : ℕ → Bool) → IsClosed bonds s → IsClosed edges s
  closed_to s closed = record {
    type_four = λ b k. closed.type_four b (kind_from b 4 (λ e. omega arith) k);
    six_rings = λ x k cycle labels.
        closed.six_rings x k (cycle_from x k cycle) (λ i h. ⊎_elim (λ marked. inl marked) (λ kind. inr (kind_from (k i) (1 + i % 2) (λ e. omega arith) kind)) (labels i h));
  }

  closed_from : Marks (IsRingBond bonds) bonds rings → (s : ℕ → Bool) → IsClosed edges s → IsClosed bonds s
  closed_from by_ring s closed = record {
    type_four = λ b k. closed.type_four b (four_to b k);
    six_rings = λ x k cycle labels.
        closed.six_rings x k (cycle_to x k cycle)
        (λ i h.
        let within = joins_within bonds (k i) (x i) (x ((i + 1) % 6)) (cycle.joined i h) in
        let ring : get_or rings (k i) false ≡ true = (by_ring.each (k i) within).1 (IsRingBond-round bonds x k cycle i h) in
        ⊎_elim (λ marked. inl marked) (λ kind. inr (kind_to (k i) (1 + i % 2) ring kind)) (labels i h));
  }

  -- marks of the aromatic set without bridges are marks of the aromatic set
  pub IsAromatic-rings : Marks (IsRingBond bonds) bonds rings → (marks : List Bool) → Marks (IsAromatic edges) edges marks → Marks (IsAromatic bonds) bonds marks
  IsAromatic-rings by_ring marks by = record {
    size = by.size ∙ are.size;
    each = λ b below.
        let exact = by.each b (omega (arith, below, are.size)) in (
          λ marked s closed. exact.0 marked s (closed_to s closed),
          λ aromatic. exact.1 (λ s closed. aromatic s (closed_from by_ring s closed)),
        );
  }

  -- ---- the lists of the atoms

  -- the ends are between the same atoms
  pub between_rings : (atoms : ℕ) → AreBetween atoms bonds → AreBetween atoms edges
  between_rings atoms ends = λ b e below.
      let between = ends b e (omega (arith, below, are.size)) in
      let first = first-same b e below in
      let second = second-same b e below in
      record {
        first = (omega (arith, first, between.first), omega (arith, first, between.first));
        second = (omega (arith, second, between.second), omega (arith, second, between.second));
        differ = λ same.
            between.differ (sym first ∙ same ∙ second);
      }

-- bonds with the same ends have the same numbers at each atom
numbers_same : (k : ℕ) (xs ys : List Edge) (n : ℕ) → length xs ≡ length ys
    → ((i : ℕ) (e : Edge) → i < length xs → ((get_or xs i e).first ≡ (get_or ys i e).first)
    × ((get_or xs i e).second ≡ (get_or ys i e).second)) → numbers_from k xs n ≡ numbers_from k ys n
numbers_same k [] [] n size same = refl
numbers_same k [] (y ∷ ys) n size same = absurd (omega (arith, size))
numbers_same k (x ∷ xs) [] n size same = absurd (omega (arith, size))
numbers_same k (x ∷ xs) (y ∷ ys) n size same =
    let here = same 0 x (omega arith) in
    let later : numbers_from (k + 1) xs n ≡ numbers_from (k + 1) ys n = numbers_same (k + 1) xs ys n (omega (arith, size)) (λ i e below. same (suc i) e (omega arith)) in
    let touch : touches n x ≡ touches n y = ap (λ m. eqb m n || eqb x.second n) here.0 ∙ ap (λ m. eqb y.first n || eqb m n) here.1 in
    ap (λ (list : List ℕ). cond (touches n x) (k ∷ list) list) later ∙ ap (λ t. cond t (k ∷ numbers_from (k + 1) ys n) (numbers_from (k + 1) ys n)) touch

-- and so the same lists of all atoms
rows_same : (atoms : ℕ) (xs ys : List Edge) → ((n : ℕ) → numbers_at xs n ≡ numbers_at ys n) → rows_of atoms xs ≡ rows_of atoms ys
unfolding rows_of
rows_same zero xs ys same = refl
rows_same (suc n) xs ys same = ap (λ (rows : List (List ℕ)). rows ++ numbers_at xs (suc n) ∷ []) (rows_same n xs ys same) ∙ ap (λ (row : List ℕ). rows_of n ys ++ row ∷ []) (same (suc n))

pub rows_rings : (bonds : List Edge) (rings : List Bool) (edges : List Edge) (atoms : ℕ) → AreWithoutBridges bonds rings edges → rows_of atoms edges ≡ rows_of atoms bonds
rows_rings bonds rings edges atoms are = rows_same atoms edges bonds
    (λ n. numbers_same 1 edges bonds n are.size (λ i e below.
    (first-same bonds rings edges are i e below, second-same bonds rings edges are i e below)))
