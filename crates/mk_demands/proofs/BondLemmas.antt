-- What the searches for a bad bond and for a crowded atom find.
use Rattle.std.proofs.Common.{◌≡◌, ◌≤◌, ◌<◌, ◌+◌, ◌-◌, ℕ, List, [], Some, ap, sym, subst, ◌∙◌, length, get_or, take, arith, inl, inr, ⊎_elim}
use Rattle.std.specs.Prelude.{pos, All, slice_get, ◌⊎◌}
use Rattle.std.proofs.lemmas.Bool.{cases_lt, cases_order}
use Rattle.std.proofs.lemmas.List.{length-take-le, get_or_default, get_or-take, get_or-map, take_all}
use Rattle.std.proofs.lemmas.List.Elements.{All-from_get_or}
use Rattle.mk_model.specs.declared.edge.Edge.{Edge}
use Rattle.mk_model.specs.Edges.{degree, IsBetween, AreBetween, HasEnds, IsSimple, Joins, numbers_at, rows_of}
use Rattle.mk_model.proofs.ForCallers.{length-numbers_from, slice_get-rows_of, touches-ends, numbers_at-each, numbers_at-all}
use Rattle.mk_tables.specs.declared.raw.RawBond.{RawBond}
use Rattle.mk_demands.specs.Numbers.{natural}
use Rattle.mk_demands.specs.Bonds.{HasTwoEnds, JoinSame, raw_edge, edges_of, HasFewBonds, IsEdgeFront, IsNewBondAt}
use Rattle.mk_text.specs.Items.{IsLeastFailing, OfItem}
use Rattle.mk_demands.specs.BondSearch.{IsNewAt, HasEarlier, IsNewAmong}
use Rattle.std.proofs.lemmas.Option.{slice_get_within, get_or_from_slice_get, slice_get-get_or}
use Rattle.mk_demands.proofs.EdgeLemmas.{atoms_differ}

-- ---- the numbers of an atom's bonds

-- what stands for an atom in the lists of all atoms
pub numbers_are : (near : List (List ℕ)) (edges : List Edge) (n : ℕ) (numbers : List ℕ)
    → near ≡ rows_of (length near) edges → 1 ≤ n → n ≤ length near → slice_get near (n - 1) ≡ Some numbers
    → numbers ≡ numbers_at edges n
numbers_are near edges n numbers are least most got =
    let place : n - 1 + 1 ≡ n = omega arith in
    let there : slice_get (rows_of (length near) edges) (n - 1) ≡ Some (numbers_at edges (n - 1 + 1)) = slice_get-rows_of (length near) edges (n - 1) (omega arith) in
    let there' : slice_get (rows_of (length near) edges) (n - 1) ≡ Some (numbers_at edges n) = rw place at there in
    let P : List (List ℕ) → Type 0 = λ l. slice_get l (n - 1) ≡ Some numbers in
    let got' : slice_get (rows_of (length near) edges) (n - 1) ≡ Some numbers = subst P are got in
    cc

-- an edge of the list is between two of the atoms
pub edge_between : (atoms : ℕ) (edges : List Edge) (b : ℕ) (d : Edge) → b < length edges → AreBetween atoms edges → IsBetween atoms (get_or edges b d)
edge_between atoms edges b d below between = between b d below

-- they number edges
pub numbers-within : (edges : List Edge) (n : ℕ) (numbers : List ℕ) → numbers ≡ numbers_at edges n → All (λ k. (1 ≤ k) × (k ≤ length edges)) numbers
numbers-within edges n numbers is =
    let each : All (λ k. (1 ≤ k) × (k ≤ length edges)) (numbers_at edges n) =
    All-from_get_or (λ k. (1 ≤ k) × (k ≤ length edges)) (numbers_at edges n) 0
    (λ i below. let here = numbers_at-each edges n i below in (here.least, here.most)) in
    rw is each

-- ---- one bond

-- the earlier bond that was found
pub earlier : (edges : List Edge) (b j : ℕ) (d : Edge) → j < b → b < length edges → HasEnds (get_or edges j d) (get_or edges b d).first (get_or edges b d).second → HasEarlier edges b
earlier edges b j d before below ends = record {
  place = j;
  before = before;
  same = λ e.
      let at_j = get_or_default edges j d e (omega arith) in
      let at_b = get_or_default edges b d e below in
      let P : Edge → Edge → Type 0 = λ x y. HasEnds x y.first y.second in
      subst (λ (x : Edge). P x (get_or edges b e)) at_j (subst (λ (y : Edge). P (get_or edges j d) y) at_b ends);
}

-- none among the numbers of one of its atoms is none
pub new_at : (edges : List Edge) (b : ℕ) (e : Edge) (numbers : List ℕ) → numbers ≡ numbers_at edges (get_or edges b e).first → IsNewAmong edges numbers b → IsNewAt edges b
new_at edges b e numbers are among j d before below ends =
    let x = get_or edges b d in
    let touch = touches-ends (get_or edges j d) x.first x.second ends in
    let found = numbers_at-all edges x.first j d (omega arith) touch in
    let same : numbers ≡ numbers_at edges x.first = are ∙ ap (λ (y : Edge). numbers_at edges y.first) (get_or_default edges b e d below) in
    let i_in : found.0 < length numbers = omega (arith, found.1, ap length same) in
    let place : get_or numbers found.0 0 - 1 ≡ j = omega (arith, found.2, ap (λ (l : List ℕ). get_or l found.0 0) same) in
    among found.0 d i_in (omega arith) (rw place ends)

-- one that was found is one
pub not_new : (edges : List Edge) (b : ℕ) → b < length edges → HasEarlier edges b → IsNewAt edges b → ⊥
not_new edges b below has new =
    let d : Edge = record { first = 0; second = 0; kind = 0 } in
    new has.place d has.before below (has.same d)

-- ---- the search over the edges

-- one bond more is new
pub new-more : (edges : List Edge) (b k : ℕ) → IsNewAt edges b → ((j : ℕ) → j < b → IsNewAt edges j) → k < b + 1 → IsNewAt edges k
new-more edges b k new before below =
    ⊎_elim (λ lower. before k lower)
    (λ here. let same : b ≡ k = omega arith in let P : ℕ → Type 0 = IsNewAt edges in subst P same new)
    (cases_lt k b)

-- the first that isn't
pub new-fails : (edges : List Edge) (b : ℕ) → b < length edges → HasEarlier edges b → ((j : ℕ) → j < b → IsNewAt edges j) → IsLeastFailing (λ item. IsNewAt edges (item - 1)) (b + 1)
new-fails edges b below has before = record {
  lower = λ j lower i d i_before j_in. ⊎_elim (λ under. before (j - 1) under i d i_before j_in) (λ past. absurd (omega arith)) (cases_lt (j - 1) b);
  fails = λ new. let place : b + 1 - 1 ≡ b = omega arith in not_new edges b below has (rw place at new);
}

-- all are new
pub new-all : (edges : List Edge) (b : ℕ) → length edges ≤ b → ((j : ℕ) → j < b → IsNewAt edges j) → (item : ℕ) → IsNewAt edges (item - 1)
new-all edges b all before item i d i_before item_in = before (item - 1) (omega arith) i d i_before item_in

-- ---- bonds and their edges

module _ (atoms : ℕ) (bonds : List RawBond) (edges : List Edge) (front : IsEdgeFront atoms bonds edges) where
  -- the edge at a place is that of the bond there
  pub edge_at : (k : ℕ) (d : Edge) (r : RawBond) → k < length edges → get_or edges k d ≡ raw_edge (get_or bonds k r)
  edge_at k d r below =
      let size : length (take (length edges) bonds) ≡ length edges = length-take-le (length edges) bonds front.few in
      let is : get_or edges k d ≡ get_or (edges_of (take (length edges) bonds)) k d = ap (λ (l : List Edge). get_or l k d) front.edges_are in
      is ∙ get_or-map raw_edge (take (length edges) bonds) k r d (omega arith) ∙ ap raw_edge (get_or-take (length edges) bonds k r below)

  -- its ends are two atoms
  pub ends_at : (k : ℕ) (r : RawBond) → k < length edges → HasTwoEnds atoms (get_or bonds k r)
  ends_at k r below =
      let size : length (take (length edges) bonds) ≡ length edges = length-take-le (length edges) bonds front.few in
      let here : HasTwoEnds atoms (get_or (take (length edges) bonds) k r) = front.ends k r (omega arith) in
      rw (get_or-take (length edges) bonds k r below) at here

  -- bonds that join the same atoms have edges that do
  same_edges : (a b : RawBond) → JoinSame a b → HasEnds (raw_edge a) (raw_edge b).first (raw_edge b).second
  same_edges a b (inl same) = inl (ap natural same.0, ap natural same.1)
  same_edges a b (inr same) = inr (ap natural same.0, ap natural same.1)

  -- and the other way round, where the ends are atoms
  same_bonds : (a b : RawBond) → HasTwoEnds atoms a → HasTwoEnds atoms b → HasEnds (raw_edge a) (raw_edge b).first (raw_edge b).second → JoinSame a b
  same_bonds a b p q (inl same) = inl (atoms_differ atoms a.first b.first p.first q.first same.0, atoms_differ atoms a.second b.second p.second q.second same.1)
  same_bonds a b p q (inr same) = inr (atoms_differ atoms a.first b.second p.first q.second same.0, atoms_differ atoms a.second b.first p.second q.first same.1)

  -- a bond with a new edge is new
  pub new_bond : (item : ℕ) → item ≤ length edges → IsNewAt edges (item - 1) → IsNewBondAt atoms bonds item
  new_bond item within new x least at =
      let k = item - 1 in
      let here : get_or bonds k x ≡ x = get_or_from_slice_get bonds k x x at in
      let in_edges : k < length edges = omega arith in
      let in_bonds : k < length bonds = slice_get_within bonds k x at in
      let d : Edge = record { first = 0; second = 0; kind = 0 } in
      record {
        ends = let e = ends_at k x in_edges in rw here at e;
        new = λ j r j_in same.
            let before : j < k = omega (arith, length-take-le k bonds (omega arith)) in
            let same' : JoinSame (get_or bonds j r) x = rw (get_or-take k bonds j r before) at same in
            let ends = same_edges (get_or bonds j r) x same' in
            let at_j : get_or edges j d ≡ raw_edge (get_or bonds j r) = edge_at j d r (omega arith) in
            let at_k : get_or edges k d ≡ raw_edge x = edge_at k d x in_edges ∙ ap raw_edge here in
            new j d before in_edges (rw (at_j, at_k) ends);
      }

  -- a new bond has a new edge
  pub new_edge : (item : ℕ) → IsNewBondAt atoms bonds item → IsNewAt edges (item - 1)
  new_edge item new j d before below ends =
      let k = item - 1 in
      let r : RawBond = record { first = pos 0; second = pos 0; kind = pos 0; topology = pos 0 } in
      let x = get_or bonds k r in
      let in_bonds : k < length bonds = omega (arith, front.few) in
      let is = new x (omega arith) (slice_get-get_or bonds k r in_bonds) in
      let at_j = edge_at j d r (omega arith) in
      let at_k = edge_at k d r below in
      let ends' : HasEnds (raw_edge (get_or bonds j r)) (raw_edge x).first (raw_edge x).second = rw (at_j, at_k) at ends in
      let same = same_bonds (get_or bonds j r) x (ends_at j r (omega arith)) (ends_at k r below) ends' in
      is.new j r (omega (arith, length-take-le k bonds (omega arith))) (rw (get_or-take k bonds j r before) same)

  -- ---- what is found

  -- a pair twice among the edges
  pub found_pair : (item : ℕ) → IsLeastFailing (λ i. IsNewAt edges (i - 1)) item → IsLeastFailing (IsNewBondAt atoms bonds) item
  found_pair item least =
      let in_edges : item ≤ length edges =
      ⊎_elim (λ under. omega (arith, under)) (λ past. absurd (least.fails (λ j d before below ends. absurd (omega (arith, below, past))))) (cases_lt item (length edges + 1)) in
      record {
        lower = λ j below. new_bond j (omega arith) (least.lower j below);
        fails = λ new. least.fails (new_edge item new);
      }

  -- the first bond whose ends aren't two atoms
  pub found_ends : length edges < length bonds → ((item : ℕ) → IsNewAt edges (item - 1)) → IsLeastFailing (IsNewBondAt atoms bonds) (length edges + 1)
  found_ends below all = record {
    lower = λ j under. new_bond j (omega arith) (all j);
    fails = λ new. front.stops below (λ x least at. (new x least at).ends);
  }

  -- none
  pub found_none : length bonds ≤ length edges → ((item : ℕ) → IsNewAt edges (item - 1)) → (item : ℕ) → IsNewBondAt atoms bonds item
  found_none full all item x least at = new_bond item (omega (arith, slice_get_within bonds (item - 1) x at)) (all item) x least at

-- ---- the graph

-- where all are new, no two edges join one pair
pub graph : (atoms : ℕ) (edges : List Edge) → AreBetween atoms edges → ((b : ℕ) → IsNewAt edges b) → IsSimple atoms edges
graph atoms edges between new = record {
  ends = between;
  once = λ b c x y p q. by_order b c x y p q (cases_order b c);
}
  where
    -- the later of two such edges isn't new
    later : (b c x y : ℕ) → b < c → Joins edges b x y → Joins edges c x y → ⊥
    later b c x y below p q =
        let d : Edge = record { first = 0; second = 0; kind = 0 } in
        let at_b = get_or_from_slice_get edges b p.edge d p.at in
        let at_c = get_or_from_slice_get edges c q.edge d q.at in
        new c b d below (slice_get_within edges c q.edge q.at) (rw (at_b, at_c) (same_ends p.edge q.edge x y p.ends q.ends))
      where
        same_ends : (e f : Edge) (x y : ℕ) → HasEnds e x y → HasEnds f x y → HasEnds e f.first f.second
        same_ends e f x y (inl p) (inl q) = inl (p.0 ∙ sym q.0, p.1 ∙ sym q.1)
        same_ends e f x y (inl p) (inr q) = inr (p.0 ∙ sym q.1, p.1 ∙ sym q.0)
        same_ends e f x y (inr p) (inl q) = inr (p.0 ∙ sym q.1, p.1 ∙ sym q.0)
        same_ends e f x y (inr p) (inr q) = inl (p.0 ∙ sym q.0, p.1 ∙ sym q.1)

    by_order : (b c x y : ℕ) → Joins edges b x y → Joins edges c x y → (b ≡ c) ⊎ ((b < c) ⊎ (c < b)) → b ≡ c
    by_order b c x y p q (inl same) = same
    by_order b c x y p q (inr (inl below)) = absurd (later b c x y below p q)
    by_order b c x y p q (inr (inr above)) = absurd (later c b x y above q p)

-- ---- all bonds are new

-- then the edges are those of all bonds
pub whole : (atoms : ℕ) (bonds : List RawBond) (edges : List Edge) → IsEdgeFront atoms bonds edges → ((item : ℕ) → IsNewBondAt atoms bonds item) → edges ≡ edges_of bonds
whole atoms bonds edges front new =
    let full : length bonds ≤ length edges =
    ⊎_elim (λ below. absurd (front.stops below (λ x least at. (new (length edges + 1) x least at).ends))) (λ all. all) (cases_lt (length edges) (length bonds)) in
    front.edges_are ∙ ap edges_of (take_all (length edges) bonds full)

-- and a graph
pub is_graph : (atoms : ℕ) (bonds : List RawBond) (edges : List Edge) → IsEdgeFront atoms bonds edges → ((item : ℕ) → IsNewBondAt atoms bonds item) → IsSimple atoms edges
is_graph atoms bonds edges front new =
    graph atoms edges front.between
    (λ b. let place : b + 1 - 1 ≡ b = omega arith in let P : ℕ → Type 0 = IsNewAt edges in subst P place (new_edge atoms bonds edges front (b + 1) (new (b + 1))))

-- ---- how many bonds an atom has

module _ (near : List (List ℕ)) (edges : List Edge) (rows : near ≡ rows_of (length near) edges) where
  -- an atom's list is as long as it has bonds
  few_same : (item : ℕ) (numbers : List ℕ) → 1 ≤ item → slice_get near (item - 1) ≡ Some numbers → length numbers ≡ degree edges item
  few_same item numbers least at =
      let is = numbers_are near edges item numbers rows least (omega (arith, slice_get_within near (item - 1) numbers at)) at in
      ap length is ∙ length-numbers_from 1 edges item

  -- so its bonds are too many exactly where its list is too long
  few_to : (item : ℕ) → OfItem (λ (numbers : List ℕ). length numbers ≤ 20) near item → HasFewBonds (length near) edges item
  few_to item few least most =
      let there = slice_get-get_or near (item - 1) [] (omega arith) in
      let here = few (get_or near (item - 1) []) least there in
      let same = few_same item (get_or near (item - 1) []) least there in
      omega (arith, here, same)

  few_from : (item : ℕ) → HasFewBonds (length near) edges item → OfItem (λ (numbers : List ℕ). length numbers ≤ 20) near item
  few_from item few numbers least at =
      let within = slice_get_within near (item - 1) numbers at in
      omega (arith, few least (omega arith), few_same item numbers least at)

  -- the first atom that has too many
  pub crowded : (item : ℕ) → IsLeastFailing (OfItem (λ (numbers : List ℕ). length numbers ≤ 20) near) item → IsLeastFailing (HasFewBonds (length near) edges) item
  crowded item least = record {
    lower = λ j below. few_to j (least.lower j below);
    fails = λ few. least.fails (few_from item few);
  }

  -- or none
  pub none_crowded : ((item : ℕ) → OfItem (λ (numbers : List ℕ). length numbers ≤ 20) near item) → (item : ℕ) → HasFewBonds (length near) edges item
  none_crowded few item = few_to item (few item)
