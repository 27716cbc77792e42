-- The first bond that a query can't have.
--     counts_more, few_more, leaves, crowds     the bonds of each atom, counted one bond after the other
--     least_both                                the least item at which one of two demands fails
use Rattle.std.proofs.Common.{◌≡◌, ℕ, ◌+◌, ◌-◌, ◌<◌, ◌≤◌, Bool, true, false, cond, eqb, leb, ◌||◌, List, All, Option, Some, None, length, get_or, take, refl, sym, ap, subst, ◌∙◌, arith, ⊎_elim, ◌⊎◌, inl, inr}
use Rattle.std.specs.Prelude.{◌↔◌}
use Rattle.std.proofs.lemmas.Bool.{cases_lt, leb-true}
use Rattle.std.proofs.lemmas.Bool.Decides.{nat_tests}
use Rattle.std.proofs.lemmas.List.{get_or_default, take_all, take_more, map_push}
use Rattle.std.proofs.lemmas.List.Sums.{sum_by_push}
use Rattle.mk_text.specs.Items.{FindsLeast, OfItem}
use Rattle.mk_model.specs.declared.edge.Edge.{Edge}
use Rattle.mk_model.specs.Edges.{degree, touches}
use Rattle.mk_tables.specs.declared.raw.RawBond.{RawBond}
use Rattle.mk_demands.specs.Bonds.{IsNewBondAt, raw_edge, edges_of}
use Rattle.mk_demands.specs.Numbers.{natural}
use Rattle.mk_query.specs.Checks.{HasQueryType, IsQueryBond, LeavesFewBonds}
use Rattle.mk_query.specs.Searches.{AreCounts, AreCounted, HasRoom, least_of}

-- ---- the bonds of each atom

-- one bond more
degree_more : (bonds : List RawBond) (i : ℕ) (d : RawBond) (n : ℕ) → i < length bonds
    → degree (edges_of (take (i + 1) bonds)) n ≡ degree (edges_of (take i bonds)) n + cond (touches n (raw_edge (get_or bonds i d))) 1 0
degree_more bonds i d n within =
    ap (λ (l : List RawBond). degree (edges_of l) n) (take_more bonds i d within)
    ∙ ap (λ (l : List Edge). degree l n) (map_push raw_edge (take i bonds) (get_or bonds i d))
    ∙ sum_by_push (λ edge. cond (touches n edge) 1 0) (edges_of (take i bonds)) (raw_edge (get_or bonds i d))

pub counts_more : (bonds : List RawBond) (i : ℕ) (d : RawBond) (old new : List ℕ) → i < length bonds → length new ≡ length old → AreCounts (take i bonds) old
    → AreCounted (λ k. touches (k + 1) (raw_edge (get_or bonds i d))) old new → AreCounts (take (i + 1) bonds) new
counts_more bonds i d old new within size counts counted k below =
    let inside : k < length old = omega arith in
    counted k inside ∙ ap (λ c. c + cond (touches (k + 1) (raw_edge (get_or bonds i d))) 1 0) (counts k inside) ∙ sym (degree_more bonds i d (k + 1) within)

-- an end of a bond
end_is : (k : ℕ) (edge : Edge) → touches (k + 1) edge ≡ true → (n : ℕ) × ((n ≡ edge.first) ⊎ (n ≡ edge.second)) × (n ≡ k + 1)
end_is k edge touching = by_first (eqb edge.first (k + 1)) refl touching
  where
    by_first : (b : Bool) → eqb edge.first (k + 1) ≡ b → (b || eqb edge.second (k + 1)) ≡ true → (n : ℕ) × ((n ≡ edge.first) ⊎ (n ≡ edge.second)) × (n ≡ k + 1)
    by_first true e touching = (edge.first, inl refl, grind (arith, nat_tests))
    by_first false e touching = (edge.second, inr refl, grind (arith, nat_tests))

room_at : (new : List ℕ) (n k : ℕ) → k < length new → HasRoom new n → n ≡ k + 1 → get_or new k 0 ≤ 20
room_at new n k below room is = (let place : n - 1 ≡ k = omega arith in rw place at (room (omega arith) (omega arith)))

-- with room at both ends no atom has more than 20
pub few_more : (bond : RawBond) (old new : List ℕ) → length new ≡ length old → All (λ (count : ℕ). count ≤ 20) old
    → AreCounted (λ k. touches (k + 1) (raw_edge bond)) old new → HasRoom new (natural bond.first) → HasRoom new (natural bond.second) → All (λ (count : ℕ). count ≤ 20) new
few_more bond old new size few counted first second k d below = subst (λ (c : ℕ). c ≤ 20) (get_or_default new k 0 d below) (by_touch (touches (k + 1) (raw_edge bond)) refl)
  where
    by_touch : (b : Bool) → touches (k + 1) (raw_edge bond) ≡ b → get_or new k 0 ≤ 20
    by_touch true e =
        let end = end_is k (raw_edge bond) e in
        ⊎_elim (λ one. room_at new (natural bond.first) k below first (sym one ∙ end.2)) (λ other. room_at new (natural bond.second) k below second (sym other ∙ end.2)) end.1
    by_touch false e =
        let inside : k < length old = omega arith in
        let more : get_or new k 0 ≡ get_or old k 0 + cond (touches (k + 1) (raw_edge bond)) 1 0 = counted k inside in
        let none : get_or new k 0 ≡ get_or old k 0 + 0 = more ∙ ap (λ (b : Bool). get_or old k 0 + cond b 1 0) e in
        omega (arith, few k 0 inside)

pub leaves : (atoms : ℕ) (bonds : List RawBond) (item : ℕ) (counts : List ℕ) → length counts ≡ atoms
    → AreCounts (take item bonds) counts → All (λ (count : ℕ). count ≤ 20) counts → LeavesFewBonds atoms bonds item
leaves atoms bonds item counts size are few n least most =
    let below : n - 1 < length counts = omega arith in
    let place : n - 1 + 1 ≡ n = omega arith in
    let is : get_or counts (n - 1) 0 ≡ degree (edges_of (take item bonds)) n = are (n - 1) below ∙ ap (λ m. degree (edges_of (take item bonds)) m) place in
    omega (arith, few (n - 1) 0 below, is)

pub crowds : (atoms : ℕ) (bonds : List RawBond) (item : ℕ) (counts : List ℕ) (n : ℕ) → length counts ≡ atoms
    → AreCounts (take item bonds) counts → (HasRoom counts n → ⊥) → LeavesFewBonds atoms bonds item → ⊥
crowds atoms bonds item counts n size are full leaves = full (λ least most.
    let below : n - 1 < length counts = omega arith in
    let place : n - 1 + 1 ≡ n = omega arith in
    let is : get_or counts (n - 1) 0 ≡ degree (edges_of (take item bonds)) n = are (n - 1) below ∙ ap (λ m. degree (edges_of (take item bonds)) m) place in
    omega (arith, leaves n least (omega arith), is))

-- one item more
pub before_more : (P : ℕ → Type 0) (i : ℕ) → ((j : ℕ) → j < i + 1 → P j) → P (i + 1) → (j : ℕ) → j < i + 1 + 1 → P j
before_more P i before here j below = ⊎_elim (λ earlier. before j earlier) (λ at. let same : i + 1 ≡ j = omega arith in subst P same here) (cases_lt j (i + 1))

-- behind the last bond
pub leaves_all : (atoms : ℕ) (bonds : List RawBond) (i : ℕ) → length bonds ≤ i → ((j : ℕ) → j < i + 1 → LeavesFewBonds atoms bonds j) → (item : ℕ) → LeavesFewBonds atoms bonds item
leaves_all atoms bonds i all before item =
    ⊎_elim (λ earlier. before item earlier)
    (λ past.
    let whole : take i bonds ≡ take item bonds = take_all i bonds all ∙ sym (take_all item bonds (omega arith)) in
    λ n. let P : List RawBond → Type 0 = λ l. 1 ≤ n → n ≤ atoms → degree (edges_of l) n ≤ 20 in subst P whole (before i (omega arith) n))
    (cases_lt item (i + 1))

-- ---- the least of two

-- both demands
abbrev Both : (ℕ → Type 0) → (ℕ → Type 0) → ℕ → Type 0
Both P Q item = P item × Q item

pub least_both : (P Q : ℕ → Type 0) (a b : Option ℕ) → FindsLeast P a → FindsLeast Q b → FindsLeast (Both P Q) (least_of a b)
least_both P Q None None p q = λ item. (p item, q item)
least_both P Q None (Some j) p q = record { lower = λ k below. (p k, q.lower k below); fails = λ both. q.fails both.1 }
least_both P Q (Some i) None p q = record { lower = λ k below. (p.lower k below, q k); fails = λ both. p.fails both.0 }
least_both P Q (Some i) (Some j) p q = by_order (leb i j) refl
  where
    by_order : (b : Bool) → leb i j ≡ b → FindsLeast (Both P Q) (cond b (Some i) (Some j))
    by_order true e = (let order : i ≤ j = leb-true i j e in record { lower = λ k below. (p.lower k below, q.lower k (omega arith)); fails = λ both. p.fails both.0 })
    by_order false e = (let order : j < i = grind (arith, nat_tests) in record { lower = λ k below. (p.lower k (omega arith), q.lower k below); fails = λ both. q.fails both.1 })

-- demands that are the same
pub least_same : (P Q : ℕ → Type 0) (found : Option ℕ) → ((item : ℕ) → P item ↔ Q item) → FindsLeast P found → FindsLeast Q found
least_same P Q None same p = λ item. (same item).0 (p item)
least_same P Q (Some i) same p = record { lower = λ j below. (same j).0 (p.lower j below); fails = λ q. p.fails ((same i).1 q) }

-- ---- the three demands on a bond

pub query_bonds : (atoms : ℕ) (bonds : List RawBond) (a b c : Option ℕ) → FindsLeast (IsNewBondAt atoms bonds) a → FindsLeast (OfItem HasQueryType bonds) b → FindsLeast (LeavesFewBonds atoms bonds) c
    → FindsLeast (IsQueryBond atoms bonds) (least_of a (least_of b c))
query_bonds atoms bonds a b c new columns few =
    least_same _ (IsQueryBond atoms bonds) _ (λ item. (λ all. record { new = all.0; columns = all.1.0; few = all.1.1 }, λ is. (is.new, (is.columns, is.few))))
    (least_both (IsNewBondAt atoms bonds) (Both (OfItem HasQueryType bonds) (LeavesFewBonds atoms bonds)) a
    (least_of b c) new (least_both (OfItem HasQueryType bonds) (LeavesFewBonds atoms bonds) b c columns few))

-- the same of the bond at a place
pub few_more_at : (bonds : List RawBond) (i : ℕ) (d : RawBond) (old new : List ℕ) → length new ≡ length old → All (λ (count : ℕ). count ≤ 20) old
    → AreCounted (λ k. touches (k + 1) (raw_edge (get_or bonds i d))) old new
    → HasRoom new (natural (get_or bonds i d).first) → HasRoom new (natural (get_or bonds i d).second)
    → All (λ (count : ℕ). count ≤ 20) new
few_more_at bonds i d old new size few counted first second = few_more (get_or bonds i d) old new size few counted first second
