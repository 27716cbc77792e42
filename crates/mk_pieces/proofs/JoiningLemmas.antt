-- Bonds by their ends, and lists that hold them.
--     between_is, between_less, between_more      a bond between two places
--     joins_ends, joins_own, joins_back           the ends of a bond
--     in_flat, in_mapped, in_row, in_slots        what such a list holds
--     joining_found, one_joining                  the bond of two neighbours
--     spanned_is                                  the bond between two pieces
use Rattle.std.proofs.Common.{◌≡◌, ◌∙◌, ◌⊎◌, ℕ, zero, suc, ◌+◌, ◌-◌, ◌<◌, ◌≤◌, inl, inr, Bool, true, false, cond, ◌&&◌, ◌||◌, eqb, ltb, List, [], ◌∷◌, Some, length, get_or, map, refl, sym, ap, subst, arith}
use Rattle.std.specs.Prelude.{Contains}
use Rattle.std.specs.List.{flat_map}
use Rattle.std.proofs.lemmas.Bool.Decides.{nat_tests}
use Rattle.std.proofs.lemmas.List.{get_or-map, get_or_default, length-map}
use Rattle.std.proofs.lemmas.List.Elements.{Contains-append_left, Contains-append_right}
use Rattle.mk_model.specs.declared.template.QueryBond.{QueryBond}
use Rattle.mk_model.specs.declared.template.Slot.{Slot}
use Rattle.mk_model.specs.Edges.{Joins}
use Rattle.mk_model.specs.Expansions.{all_within, bond_between, bond_joining, bonds_within, is_hydrogens, is_nothing, spanned}
use Rattle.mk_model.specs.Pieces.{Piece, before, numbers_to}
use Rattle.mk_model.specs.Templates.{TemplateView, joins, query_edge, query_edges, slot_atom}
use Rattle.mk_model.proofs.ForCallers.{at_place}
use Rattle.mk_pieces.specs.Kept.{IsTemplate}
use Rattle.mk_pieces.proofs.NumberLemmas.{mapped_at, mapped_length}
use Rattle.mk_pieces.proofs.WithinLemmas.{within_at}

-- ---- a bond between two places

pub between_is : (x y kind topology : ℕ) (b : QueryBond) → b ≡ bond_between x y kind topology
    → (((b.first ≡ x) × (b.second ≡ y)) ⊎ ((b.first ≡ y) × (b.second ≡ x))) × (b.kind ≡ kind) × (b.topology ≡ topology)
between_is x y kind topology b is = by (ltb x y) is
  where
    by : (less : Bool) → b ≡ cond less (record { first = x; second = y; kind = kind; topology = topology }) (record { first = y; second = x; kind = kind; topology = topology })
        → (((b.first ≡ x) × (b.second ≡ y)) ⊎ ((b.first ≡ y) × (b.second ≡ x))) × (b.kind ≡ kind) × (b.topology ≡ topology)
    by true e = (inl (ap (λ (c : QueryBond). c.first) e, ap (λ (c : QueryBond). c.second) e), ap (λ (c : QueryBond). c.kind) e, ap (λ (c : QueryBond). c.topology) e)
    by false e = (inr (ap (λ (c : QueryBond). c.first) e, ap (λ (c : QueryBond). c.second) e), ap (λ (c : QueryBond). c.kind) e, ap (λ (c : QueryBond). c.topology) e)

pub between_less : (x y kind topology : ℕ) → x < y → bond_between x y kind topology ≡ record { first = x; second = y; kind = kind; topology = topology }
between_less x y kind topology less = (let is : ltb x y ≡ true = grind (arith, nat_tests) in rw is refl)

pub between_more : (x y kind topology : ℕ) → y < x → bond_between x y kind topology ≡ record { first = y; second = x; kind = kind; topology = topology }
between_more x y kind topology less = (let is : ltb x y ≡ false = grind (arith, nat_tests) in rw is refl)

-- ---- the ends of a bond

pub joins_ends : (x y : ℕ) (bond : QueryBond) → joins x y bond ≡ true → ((bond.first ≡ x) × (bond.second ≡ y)) ⊎ ((bond.first ≡ y) × (bond.second ≡ x))
joins_ends x y bond is = by (eqb bond.first x) (eqb bond.second y) (eqb bond.first y) (eqb bond.second x) refl refl refl refl is
  where
    by : (a b c d : Bool) → eqb bond.first x ≡ a → eqb bond.second y ≡ b → eqb bond.first y ≡ c → eqb bond.second x ≡ d → ((a && b) || (c && d)) ≡ true
        → ((bond.first ≡ x) × (bond.second ≡ y)) ⊎ ((bond.first ≡ y) × (bond.second ≡ x))
    by true true c d e f g h t = inl ((let same : bond.first ≡ x = grind (arith, nat_tests) in same), (let same : bond.second ≡ y = grind (arith, nat_tests) in same))
    by true false true true e f g h t = inr ((let same : bond.first ≡ y = grind (arith, nat_tests) in same), (let same : bond.second ≡ x = grind (arith, nat_tests) in same))
    by true false true false e f g h t = absurd cc
    by true false false d e f g h t = absurd cc
    by false b true true e f g h t = inr ((let same : bond.first ≡ y = grind (arith, nat_tests) in same), (let same : bond.second ≡ x = grind (arith, nat_tests) in same))
    by false b true false e f g h t = absurd cc
    by false b false d e f g h t = absurd cc

pub joins_own : (bond : QueryBond) → joins bond.first bond.second bond ≡ true
joins_own bond = (let e : eqb bond.first bond.first ≡ true = grind (arith, nat_tests) in let f : eqb bond.second bond.second ≡ true = grind (arith, nat_tests) in rw (e, f) refl)

pub joins_back : (bond : QueryBond) → joins bond.second bond.first bond ≡ true
joins_back bond =
    let e : eqb bond.first bond.first ≡ true = grind (arith, nat_tests) in
    let f : eqb bond.second bond.second ≡ true = grind (arith, nat_tests) in
    rw (e, f) (by (eqb bond.first bond.second) (eqb bond.second bond.first))
  where
    by : (a b : Bool) → ((a && b) || true) ≡ true
    by true true = refl
    by true false = refl
    by false b = refl

-- ---- what a list holds

pub in_flat : {X A : Type 0} (f : X → List A) (xs : List X) (x : X) (a : A) → Contains xs x → Contains (f x) a → Contains (flat_map f xs) a
in_flat f [] x a (k, below, is) at = absurd (omega (arith, below))
in_flat {X} {A} f (y ∷ xs) x a (zero, below, is) at = Contains-append_left (f y) (flat_map f xs) a (subst (λ (z : X). Contains (f z) a) (sym is) at)
in_flat f (y ∷ xs) x a (suc k, below, is) at = Contains-append_right (f y) (flat_map f xs) a (in_flat f xs x a (k, omega (arith, below), is) at)

pub in_mapped : {X Y : Type 0} (f : X → Y) (xs : List X) (x : X) → Contains xs x → Contains (map f xs) (f x)
in_mapped f xs x at = (at.0, omega (arith, length-map xs f, at.1), get_or-map f xs at.0 x (f x) at.1 ∙ ap f at.2)

pub in_row : {X : Type 0} (f : ℕ → X) (n j : ℕ) → 1 ≤ j → j ≤ n → Contains (map f (numbers_to n)) (f j)
in_row f n j least most = (let place : 1 + (j - 1) ≡ j = omega arith in (j - 1, omega (arith, mapped_length f n), mapped_at f n (j - 1) (f j) (omega arith) ∙ ap f place))

pub in_slots : (template : TemplateView) (pieces : List Piece) (slots : List Slot) (ps : List Piece) (k : ℕ) (b : QueryBond) → k < length slots → length ps ≡ length slots
    → Contains (within_at template pieces slots ps k) b
    → Contains (all_within template pieces slots ps) b
unfolding all_within
in_slots template pieces [] ps k b below size at = absurd (omega arith)
in_slots template pieces (slot ∷ slots) [] k b below size at = absurd (omega arith)
in_slots template pieces (slot ∷ slots) (p ∷ ps) zero b below size at =
    Contains-append_left (bonds_within template.bonds (before template pieces (slot_atom slot)) slot p) (all_within template pieces slots ps) b at
in_slots template pieces (slot ∷ slots) (p ∷ ps) (suc k) b below size at =
    Contains-append_right (bonds_within template.bonds (before template pieces (slot_atom slot)) slot p) (all_within template pieces slots ps) b
    (in_slots template pieces slots ps k b (omega arith) (omega arith) at)

-- ---- the bond of two neighbours

pub joining_found : (bonds : List QueryBond) (x y : ℕ) (bond : QueryBond) → Contains bonds bond → joins x y bond ≡ true
    → Contains bonds (bond_joining bonds x y) × (joins x y (bond_joining bonds x y) ≡ true)
joining_found [] x y bond (k, below, is) joined = absurd (omega (arith, below))
joining_found (b ∷ bonds) x y bond at joined = by (joins x y b) refl at (λ later. joining_found bonds x y bond later joined)
  where
    behind : joins x y b ≡ false → Contains (b ∷ bonds) bond → Contains bonds bond
    behind e (zero, below, is) = absurd (let no : joins x y bond ≡ false = subst (λ (c : QueryBond). joins x y c ≡ false) is e in cc)
    behind e (suc k, below, is) = (k, omega (arith, below), is)

    by : (found : Bool) → joins x y b ≡ found → Contains (b ∷ bonds) bond → (Contains bonds bond → Contains bonds (bond_joining bonds x y) × (joins x y (bond_joining bonds x y) ≡ true))
        → Contains (b ∷ bonds) (cond found b (bond_joining bonds x y)) × (joins x y (cond found b (bond_joining bonds x y)) ≡ true)
    by true e held later = ((0, omega arith, refl), e)
    by false e held later = (let found = later (behind e held) in ((suc found.0.0, (let below = found.0.1 in omega arith), found.0.2), found.1))

joins_at : (bonds : List QueryBond) (x y k : ℕ) (d : QueryBond) → k < length bonds → joins x y (get_or bonds k d) ≡ true → Joins (query_edges bonds) k x y
joins_at bonds x y k d below is =
    let there : k < length (query_edges bonds) = omega (arith, length-map bonds query_edge) in
    record {
      edge = query_edge (get_or bonds k d);
      at = at_place (query_edges bonds) k (query_edge d) there ∙ ap Some (get_or-map query_edge bonds k d (query_edge d) below);
      ends = joins_ends x y (get_or bonds k d) is;
    }

-- no two bonds of a template join one pair
pub one_joining : (template : TemplateView) → IsTemplate template → (x y : ℕ) (b c : QueryBond) → Contains template.bonds b → Contains template.bonds c → joins x y b ≡ true → joins x y c ≡ true
    → b ≡ c
one_joining template kept x y b c at at' is is' =
    let one : Joins (query_edges template.bonds) at.0 x y = joins_at template.bonds x y at.0 b at.1 (subst (λ (e : QueryBond). joins x y e ≡ true) (sym at.2) is) in
    let other : Joins (query_edges template.bonds) at'.0 x y = joins_at template.bonds x y at'.0 c at'.1 (subst (λ (e : QueryBond). joins x y e ≡ true) (sym at'.2) is') in
    let same : at.0 ≡ at'.0 = kept.graph.once at.0 at'.0 x y one other in
    sym at.2 ∙ get_or_default template.bonds at.0 b c at.1 ∙ ap (λ (k : ℕ). get_or template.bonds k c) same ∙ at'.2

-- ---- the bond between two pieces

-- Both pieces are there, and the bond is single at a hydrogen.
pub record IsSpanned (p q : Piece) (bond : QueryBond) (x y : ℕ) (b : QueryBond) : Type 0 where
  pub one_there : is_nothing p ≡ false
  pub other_there : is_nothing q ≡ false
  pub is : b ≡ bond_between x y (cond (is_hydrogens p || is_hydrogens q) 1 bond.kind) (cond (is_hydrogens p || is_hydrogens q) 0 bond.topology)

pub is_spanned : (p q : Piece) (bond : QueryBond) (x y : ℕ) (b : QueryBond) → Contains (spanned p q bond x y) b → IsSpanned p q bond x y b
is_spanned p q bond x y b at = by (is_nothing p) (is_nothing q) (is_hydrogens p || is_hydrogens q) refl refl refl at
  where
    alone : (c : QueryBond) → Contains (c ∷ []) b → b ≡ c
    alone c (zero, below, is) = sym is
    alone c (suc k, below, is) = absurd (omega (arith, below))

    by : (v w h : Bool) → is_nothing p ≡ v → is_nothing q ≡ w → (is_hydrogens p || is_hydrogens q) ≡ h
        → Contains (cond (v || w) [] (cond h (bond_between x y 1 0 ∷ []) (bond_between x y bond.kind bond.topology ∷ []))) b → IsSpanned p q bond x y b
    by true w h e f g (k, below, is) = absurd (omega (arith, below))
    by false true h e f g (k, below, is) = absurd (omega (arith, below))
    by false false true e f g at' = record { one_there = e; other_there = f; is = rw g (alone (bond_between x y 1 0) at') }
    by false false false e f g at' = record { one_there = e; other_there = f; is = rw g (alone (bond_between x y bond.kind bond.topology) at') }

pub spanned_is : (p q : Piece) (bond : QueryBond) (x y : ℕ) → is_nothing p ≡ false → is_nothing q ≡ false
    → spanned p q bond x y ≡ bond_between x y (cond (is_hydrogens p || is_hydrogens q) 1 bond.kind) (cond (is_hydrogens p || is_hydrogens q) 0 bond.topology) ∷ []
spanned_is p q bond x y e f = rw (e, f) (by (is_hydrogens p || is_hydrogens q))
  where
    by : (h : Bool) → cond h (bond_between x y 1 0 ∷ []) (bond_between x y bond.kind bond.topology ∷ []) ≡ bond_between x y (cond h 1 bond.kind) (cond h 0 bond.topology) ∷ []
    by true = refl
    by false = refl
