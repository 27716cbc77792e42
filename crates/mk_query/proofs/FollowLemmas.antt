-- The search of a block: what is reached over the bonds of one atom.
--     number_bond, bond_number     the bonds of an atom and their numbers
--     IsFollowed                   some of the bonds of atom y are followed
--     followed-none, followed-own, followed-seen, followed-new, followed-all
use Rattle.std.proofs.Common.{◌≡◌, ◌≤◌, ◌<◌, ◌+◌, ◌-◌, ℕ, Bool, true, false, cond, eqb, List, [], ◌∷◌, ◌++◌, refl, ap, sym, subst, ◌∙◌, length, get_or, set, arith, ⊎_elim, inl, inr}
use Rattle.std.specs.Prelude.{◌⊎◌, ◌||◌, Contains, not, IsTrue}
use Rattle.std.proofs.lemmas.Bool.{cases_eq, cases_lt, eqb-true, eq-eqb, true≢false}
use Rattle.std.proofs.lemmas.List.{get_or-map, get_or-set_same, get_or-set_other, get_or_append_left, get_or_default, get_or_push, length-map, length-set, length_push}
use Rattle.std.proofs.lemmas.List.Elements.{Contains-get_or}
use Rattle.std.proofs.lemmas.List.Sums.{sum_by-set}
use Rattle.mk_model.specs.declared.edge.Edge.{Edge}
use Rattle.mk_model.specs.declared.template.QueryBond.{QueryBond}
use Rattle.mk_model.specs.Edges.{AreBetween, IsBetween, numbers_at, touches}
use Rattle.mk_model.specs.Templates.{hang_together, query_edge, query_edges}
use Rattle.mk_model.proofs.ForCallers.{IsNumberOf, numbers_at-each, numbers_at-all, Hangs, hangs, hangs_tested, hangs_on, hangs_by, hangs_back, kept_all, kept_within}
use Rattle.mk_query.specs.declared.blocks.LinkEnds.{LinkEnds}
use Rattle.mk_query.specs.BlockSearch.{AreNumbersOf, IsLed, IsLonger, IsReached, KeepReached, LeadsOn, is_own, is_reached, others, unreached}

-- ---- bonds and their numbers

-- the edge of a bond
pub edge_at : (bonds : List QueryBond) (b : ℕ) (d : QueryBond) → b < length bonds → get_or (query_edges bonds) b (query_edge d) ≡ query_edge (get_or bonds b d)
edge_at bonds b d below = get_or-map query_edge bonds b d (query_edge d) below

-- a bond that touches y has it at an end
touch_ends : (y : ℕ) (bond : QueryBond) → touches y (query_edge bond) ≡ true → (bond.first ≡ y) ⊎ (bond.second ≡ y)
touch_ends y bond is = by_first (eqb bond.first y) refl is
  where
    by_first : (b : Bool) → eqb bond.first y ≡ b → (b || eqb bond.second y) ≡ true → (bond.first ≡ y) ⊎ (bond.second ≡ y)
    by_first true e is = inl (eqb-true bond.first y e)
    by_first false e is = inr (eqb-true bond.second y is)

ends_touch : (y : ℕ) (bond : QueryBond) → (bond.first ≡ y) ⊎ (bond.second ≡ y) → touches y (query_edge bond) ≡ true
ends_touch y bond (inl at) = rw (eq-eqb bond.first y at) refl
ends_touch y bond (inr at) = by_first (eqb bond.first y)
  where
    by_first : (b : Bool) → (b || eqb bond.second y) ≡ true
    by_first true = refl
    by_first false = eq-eqb bond.second y at

-- the bond of a number of y has y at an end
pub number_bond : (bonds : List QueryBond) (y : ℕ) (numbers : List ℕ) (i : ℕ) (d : QueryBond) → AreNumbersOf bonds y numbers → i < length numbers
    → (get_or numbers i 0 - 1 < length bonds) × (((get_or bonds (get_or numbers i 0 - 1) d).first ≡ y) ⊎ ((get_or bonds (get_or numbers i 0 - 1) d).second ≡ y))
number_bond bonds y numbers i d are below =
    let range = are.within i 0 below in
    let inside : get_or numbers i 0 - 1 < length bonds = omega (arith, range) in
    let there : i < length (numbers_at (query_edges bonds) y) = omega (arith, below, ap length are.are) in
    let P : List ℕ → Type 0 = λ xs. IsNumberOf (query_edges bonds) y (get_or xs i 0) in
    let number : IsNumberOf (query_edges bonds) y (get_or numbers i 0) = subst P (sym are.are) (numbers_at-each (query_edges bonds) y i there) in
    let touch : touches y (query_edge (get_or bonds (get_or numbers i 0 - 1) d)) ≡ true =
    subst (λ (e : Edge). touches y e ≡ true) (edge_at bonds (get_or numbers i 0 - 1) d inside) (number.ends (query_edge d)) in
    (inside, touch_ends y (get_or bonds (get_or numbers i 0 - 1) d) touch)

-- a bond with y at an end has a number of y
pub bond_number : (bonds : List QueryBond) (y : ℕ) (numbers : List ℕ) (bond : QueryBond) → AreNumbersOf bonds y numbers → Contains bonds bond → (bond.first ≡ y) ⊎ (bond.second ≡ y)
    → (i : ℕ) × (i < length numbers) × ((d : QueryBond) → get_or bonds (get_or numbers i 0 - 1) d ≡ bond)
bond_number bonds y numbers bond are (b, below, at) ends =
    let edge : get_or (query_edges bonds) b (query_edge bond) ≡ query_edge bond = edge_at bonds b bond below ∙ ap query_edge at in
    let found = numbers_at-all (query_edges bonds) y b (query_edge bond) (omega (arith, below, length-map bonds query_edge)) (rw edge (ends_touch y bond ends)) in
    let number : get_or numbers found.0 0 ≡ b + 1 = ap (λ (xs : List ℕ). get_or xs found.0 0) are.are ∙ found.2 in
    let place : get_or numbers found.0 0 - 1 ≡ b = omega (arith, number) in
    (found.0, omega (arith, found.1, ap length are.are), λ d. ap (λ (j : ℕ). get_or bonds j d) place ∙ get_or_default bonds b d bond below ∙ at)

-- ---- marks

reached-here : (reached : List Bool) (z : ℕ) → z < length reached → is_reached (set reached z true) z ≡ true
reached-here reached z below = get_or-set_same reached z true false below

reached-keep : (reached : List Bool) (z : ℕ) → z < length reached → KeepReached reached (set reached z true)
reached-keep reached z below y was =
    ⊎_elim
    (λ same. subst (λ (x : ℕ). is_reached (set reached z true) x ≡ true) (sym same) (reached-here reached z below))
    (λ other. get_or-set_other reached z y true false other ∙ was)
    (cases_eq y z)

-- what was read of an atom
pub reached_read : (reached : List Bool) (z : ℕ) (b c : Bool) → z < length reached → b ≡ get_or reached z b → b ≡ c → is_reached reached z ≡ c
reached_read reached z b c below read is = get_or_default reached z false b below ∙ sym read ∙ is

unreached-set : (reached : List Bool) (z : ℕ) → z < length reached → is_reached reached z ≡ false → unreached (set reached z true) + 1 ≡ unreached reached
unreached-set reached z below new =
    let all = sum_by-set (λ (b : Bool). cond (not b) 1 0) reached z true false below in
    let was : ◌≡◌ {A = ℕ} (cond (not (get_or reached z false)) 1 0) 1 = rw new refl in
    omega (arith, all, was)

-- ---- one atom more

pub longer-none : (queue : List ℕ) → IsLonger queue queue
longer-none queue = record { size = omega arith; same = λ k below. refl }

longer-push : (old queue : List ℕ) (z : ℕ) → IsLonger old queue → IsLonger old (queue ++ z ∷ [])
longer-push old queue z longer = record {
  size = omega (arith, longer.size, length_push queue z);
  same = λ k below. get_or_append_left queue (z ∷ []) 0 k (omega (arith, longer.size)) ∙ longer.same k below;
}

-- a place in front, or the last
at-push : (queue : List ℕ) (z k : ℕ) (P : ℕ → Type 0) → k < length (queue ++ z ∷ []) → (k < length queue → P (get_or queue k 0)) → P z → P (get_or (queue ++ z ∷ []) k 0)
at-push queue z k P below front last =
    ⊎_elim
    (λ inside. subst P (sym (get_or_append_left queue (z ∷ []) 0 k inside)) (front inside))
    (λ past. (let here : k ≡ length queue = omega (arith, below, length_push queue z) in subst P (sym (get_or_push queue z 0 k (sym here))) last))
    (cases_lt k (length queue))

pub reached-push : (bonds : List QueryBond) (link : LinkEnds) (reached : List Bool) (queue : List ℕ) (z : ℕ) → IsReached bonds link reached queue → 1 ≤ z → z < length reached
    → IsTrue (hang_together (others link bonds) link.atom z) → IsReached bonds link (set reached z true) (queue ++ z ∷ [])
reached-push bonds link reached queue z are least most hang = record {
  start = reached-keep reached z most link.atom are.start;
  least = λ k below. at-push queue z k (λ (y : ℕ). 1 ≤ y) below (are.least k) least;
  most = λ k below.
      let size : length (set reached z true) ≡ length reached = length-set reached z true in
      at-push queue z k (λ (y : ℕ). y < length (set reached z true)) below (λ inside. omega (arith, are.most k inside, size)) (omega (arith, most, size));
  hang = λ k below. at-push queue z k (λ (y : ℕ). IsTrue (hang_together (others link bonds) link.atom y)) below (are.hang k) hang;
  listed = λ y is.
      ⊎_elim
      (λ same. (length queue, omega (arith, length_push queue z), get_or_push queue z 0 (length queue) refl ∙ sym same))
      (λ other.
      let was : is_reached reached y ≡ true = sym (get_or-set_other reached z y true false other) ∙ is in
      let found = are.listed y was in
      (found.0, omega (arith, found.1, length_push queue z), get_or_append_left queue (z ∷ []) 0 found.0 found.1 ∙ found.2))
      (cases_eq y z);
}

-- ---- the bonds of atom y are followed one after the other

-- the bond is one of the link's own, or leads to an atom that was reached
abbrev pub IsDealt : LinkEnds → List Bool → ℕ → QueryBond → Type 0
IsDealt link reached y bond = (is_own link bond ≡ true) ⊎ IsLed reached y bond

-- the bonds of the first i numbers of atom y are followed
pub record IsFollowed (bonds : List QueryBond) (link : LinkEnds) (y : ℕ) (numbers : List ℕ) (was : List Bool) (before : List ℕ) (i : ℕ) (reached : List Bool) (queue : List ℕ) : Type 0 where
  pub size : length reached ≡ length was
  pub are : IsReached bonds link reached queue
  pub kept : KeepReached was reached
  pub longer : IsLonger before queue
  pub fewer : unreached reached + length queue ≡ unreached was + length before
  pub dealt : (k : ℕ) (d : QueryBond) → k < i → IsDealt link reached y (get_or bonds (get_or numbers k 0 - 1) d)

pub followed-none : (bonds : List QueryBond) (link : LinkEnds) (y : ℕ) (numbers : List ℕ) (reached : List Bool)
    (queue : List ℕ) → IsReached bonds link reached queue
    → IsFollowed bonds link y numbers reached queue 0 reached queue
followed-none bonds link y numbers reached queue are = record {
  size = refl;
  are = are;
  kept = λ z was. was;
  longer = longer-none queue;
  fewer = refl;
  dealt = λ k d below. absurd (omega (arith, below));
}

-- one number more
dealt_more : (link : LinkEnds) (bonds : List QueryBond) (y : ℕ) (numbers : List ℕ) (reached : List Bool) (i : ℕ) (d : QueryBond) → get_or numbers i 0 - 1 < length bonds
    → ((k : ℕ) (e : QueryBond) → k < i → IsDealt link reached y (get_or bonds (get_or numbers k 0 - 1) e)) → IsDealt link reached y (get_or bonds (get_or numbers i 0 - 1) d)
    → (k : ℕ) (e : QueryBond) → k < i + 1 → IsDealt link reached y (get_or bonds (get_or numbers k 0 - 1) e)
dealt_more link bonds y numbers reached i d inside before here k e below =
    ⊎_elim
    (λ earlier. before k e earlier)
    (λ at.
    let same : i ≡ k = omega (arith, at, below) in
    let first : IsDealt link reached y (get_or bonds (get_or numbers i 0 - 1) e) = subst (IsDealt link reached y) (get_or_default bonds (get_or numbers i 0 - 1) d e inside) here in
    subst (λ (j : ℕ). IsDealt link reached y (get_or bonds (get_or numbers j 0 - 1) e)) same first)
    (cases_lt k i)

-- a bond of the link's own, or one to an atom that was reached
pub followed-dealt : (bonds : List QueryBond) (link : LinkEnds) (y : ℕ) (numbers : List ℕ) (was : List Bool) (before : List ℕ) (i : ℕ) (reached : List Bool) (queue : List ℕ) (d : QueryBond)
    → AreNumbersOf bonds y numbers → i < length numbers → IsDealt link reached y (get_or bonds (get_or numbers i 0 - 1) d) → IsFollowed bonds link y numbers was before i reached queue
    → IsFollowed bonds link y numbers was before (i + 1) reached queue
followed-dealt bonds link y numbers was before i reached queue d numbers_are below here followed = record {
  size = followed.size;
  are = followed.are;
  kept = followed.kept;
  longer = followed.longer;
  fewer = followed.fewer;
  dealt = dealt_more link bonds y numbers reached i d (number_bond bonds y numbers i d numbers_are below).0 followed.dealt here;
}

dealt_keep : (link : LinkEnds) (y : ℕ) (bond : QueryBond) (old new : List Bool) → KeepReached old new → IsDealt link old y bond → IsDealt link new y bond
dealt_keep link y bond old new keep (inl own) = inl own
dealt_keep link y bond old new keep (inr led) = inr (record { forth = λ at. keep bond.second (led.forth at); back = λ at. keep bond.first (led.back at) })

-- an atom more is reached
pub followed-new : (bonds : List QueryBond) (link : LinkEnds) (y : ℕ) (numbers : List ℕ) (was : List Bool) (before : List ℕ) (i : ℕ) (reached : List Bool) (queue : List ℕ) (d : QueryBond) (z : ℕ)
    → AreNumbersOf bonds y numbers → i < length numbers → IsLed (set reached z true) y (get_or bonds (get_or numbers i 0 - 1) d) → 1 ≤ z → z < length reached → is_reached reached z ≡ false
    → IsTrue (hang_together (others link bonds) link.atom z) → IsFollowed bonds link y numbers was before i reached queue
    → IsFollowed bonds link y numbers was before (i + 1) (set reached z true) (queue ++ z ∷ [])
followed-new bonds link y numbers was before i reached queue d z numbers_are below led least most new hang followed = record {
  size = length-set reached z true ∙ followed.size;
  are = reached-push bonds link reached queue z followed.are least most hang;
  kept = λ x x_was. reached-keep reached z most x (followed.kept x x_was);
  longer = longer-push before queue z followed.longer;
  fewer = omega (arith, followed.fewer, unreached-set reached z most new, length_push queue z);
  dealt = dealt_more link bonds y numbers (set reached z true) i d (number_bond bonds y numbers i d numbers_are below).0
      (λ k e earlier. dealt_keep link y (get_or bonds (get_or numbers k 0 - 1) e) reached (set reached z true) (reached-keep reached z most) (followed.dealt k e earlier)) (inr led);
}

-- all are followed
pub followed-all : (bonds : List QueryBond) (link : LinkEnds) (y : ℕ) (numbers : List ℕ) (was : List Bool) (before : List ℕ) (i : ℕ) (reached : List Bool) (queue : List ℕ)
    → AreNumbersOf bonds y numbers → length numbers ≤ i → IsFollowed bonds link y numbers was before i reached queue → LeadsOn bonds link reached y
followed-all bonds link y numbers was before i reached queue numbers_are all followed bond at = record {
  forth = λ first. (led (inl first)).forth first;
  back = λ second. (led (inr second)).back second;
}
  where
    within : Contains bonds bond × (not (is_own link bond) ≡ true)
    within = kept_within (λ (c : QueryBond). not (is_own link c)) bonds bond at

    not_own : ¬ (is_own link bond ≡ true)
    not_own own = (let none : not (is_own link bond) ≡ true = within.1 in let own_is : is_own link bond ≡ true = own in absurd (true≢false (sym none ∙ ap not own_is)))

    led : (bond.first ≡ y) ⊎ (bond.second ≡ y) → IsLed reached y bond
    led ends =
        let found = bond_number bonds y numbers bond numbers_are within.0 ends in
        ⊎_elim
        (λ own. absurd (not_own own))
        (λ is. is)
        (subst (IsDealt link reached y) (found.2 bond) (followed.dealt found.0 bond (omega (arith, found.1, all))))

-- ---- over one bond

module _ (bonds : List QueryBond) (link : LinkEnds) (n y z : ℕ) (bond : QueryBond) (between : IsBetween n (query_edge bond)) (ends : (bond.first ≡ y) ⊎ (bond.second ≡ y))
    (first : bond.first ≡ y → z ≡ bond.second) (second : ¬ (bond.first ≡ y) → z ≡ bond.first) where
  -- y is the second end where it isn't the first
  second_is : bond.second ≡ y → z ≡ bond.first
  second_is at = second (λ same. between.differ (same ∙ sym at))

  -- what was reached over it, the bond leads to
  pub led_by : (reached : List Bool) → is_reached reached z ≡ true → IsLed reached y bond
  led_by reached is = record {
    forth = λ at. subst (λ (x : ℕ). is_reached reached x ≡ true) (first at) is;
    back = λ at. subst (λ (x : ℕ). is_reached reached x ≡ true) (second_is at) is;
  }

  pub end_within : (1 ≤ z) × (z ≤ n)
  end_within =
      ⊎_elim
      (λ at. (omega (arith, between.second.0, first at), omega (arith, between.second.1, first at)))
      (λ at. (omega (arith, between.first.0, second_is at), omega (arith, between.first.1, second_is at)))
      ends

  -- over a bond that isn't the link's own, the other end hangs together with the link where y does
  pub end_hangs : Contains bonds bond → is_own link bond ≡ false → IsTrue (hang_together (others link bonds) link.atom y) → IsTrue (hang_together (others link bonds) link.atom z)
  end_hangs at own hang =
      let kept : Contains (others link bonds) bond = kept_all (λ (c : QueryBond). not (is_own link c)) bonds bond at (ap not own) in
      let by_bond = hangs_by (others link bonds) bond kept in
      let here = hangs (others link bonds) link.atom y hang in
      hangs_tested (others link bonds) link.atom z
      (⊎_elim
      (λ f.
      let here' = subst (Hangs (others link bonds) link.atom) (sym f) here in
      subst (Hangs (others link bonds) link.atom) (sym (first f)) (hangs_on (others link bonds) link.atom bond.first bond.second here' by_bond))
      (λ s.
      let here' = subst (Hangs (others link bonds) link.atom) (sym s) here in
      subst (Hangs (others link bonds) link.atom) (sym (second_is s))
      (hangs_on (others link bonds) link.atom bond.second bond.first here'
      (hangs_back (others link bonds) bond.first bond.second by_bond)))
      ends)

-- ---- over the bond of a number

module _ (bonds : List QueryBond) (link : LinkEnds) (n y : ℕ) (numbers : List ℕ) (was : List Bool) (before : List ℕ) (i : ℕ) (d : QueryBond) (z : ℕ) (between : AreBetween n (query_edges bonds))
    (numbers_are : AreNumbersOf bonds y numbers) (below : i < length numbers) (first : (get_or bonds (get_or numbers i 0 - 1) d).first ≡ y → z ≡ (get_or bonds (get_or numbers i 0 - 1) d).second)
    (second : ¬ ((get_or bonds (get_or numbers i 0 - 1) d).first ≡ y) → z ≡ (get_or bonds (get_or numbers i 0 - 1) d).first) where
  abbrev over : QueryBond
  over = get_or bonds (get_or numbers i 0 - 1) d

  inside : get_or numbers i 0 - 1 < length bonds
  inside = (number_bond bonds y numbers i d numbers_are below).0

  over_between : IsBetween n (query_edge over)
  over_between =
      subst (IsBetween n) (edge_at bonds (get_or numbers i 0 - 1) d inside)
      (between (get_or numbers i 0 - 1) (query_edge d) (let at = inside in omega (arith, at, length-map bonds query_edge)))

  pub step_within : (1 ≤ z) × (z ≤ n)
  step_within = end_within bonds link n y z over over_between (number_bond bonds y numbers i d numbers_are below).1 first second

  -- it leads to an atom that was reached
  pub followed-seen : (reached : List Bool) (queue : List ℕ) → is_reached reached z ≡ true
      → IsFollowed bonds link y numbers was before i reached queue
      → IsFollowed bonds link y numbers was before (i + 1) reached queue
  followed-seen reached queue seen followed =
      followed-dealt bonds link y numbers was before i reached queue d numbers_are below
      (inr (led_by bonds link n y z over over_between (number_bond bonds y numbers i d numbers_are below).1 first second reached seen)) followed

  -- and to one that wasn't
  pub followed-first : (reached : List Bool) (queue : List ℕ) → is_own link over ≡ false → z < length reached → is_reached reached z ≡ false → IsTrue (hang_together (others link bonds) link.atom y)
      → IsFollowed bonds link y numbers was before i reached queue → IsFollowed bonds link y numbers was before (i + 1) (set reached z true) (queue ++ z ∷ [])
  followed-first reached queue own most new hang followed =
      let ends = (number_bond bonds y numbers i d numbers_are below).1 in
      followed-new bonds link y numbers was before i reached queue d z numbers_are below
      (led_by bonds link n y z over over_between ends first second (set reached z true) (reached-here reached z most)) step_within.0 most new
      (end_hangs bonds link n y z over over_between ends first second (Contains-get_or bonds (get_or numbers i 0 - 1) d inside) own hang) followed
