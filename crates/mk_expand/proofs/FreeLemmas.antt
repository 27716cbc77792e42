-- The free ends of an expansion are its loose ends.
--     zipped_total      a sum over slots with their pieces, by their places
--     beside_vacant     something stands beside a vacant site
--     frees_within      a place has at least as many loose ends as the slots leave free ends there
--     frees_are         and no more
--     no_loose          a place of what stands for a site has none
use Rattle.std.proofs.Common.{◌≡◌, ◌≢◌, ◌∙◌, ℕ, zero, suc, ◌+◌, ◌<◌, ◌≤◌, ◌⊎◌, inl, inr, Bool, true, false, ◌&&◌, ◌||◌, not, eqb, List, [], ◌∷◌, length, get_or, refl, sym, ap, subst, arith, sum_by}
use Rattle.std.specs.Prelude.{Contains, count_by}
use Rattle.std.specs.List.{zip}
use Rattle.std.proofs.lemmas.Bool.{cases_eq, cases_lt}
use Rattle.std.proofs.lemmas.Bool.Decides.{nat_tests}
use Rattle.std.proofs.lemmas.List.Elements.{All-contains, Contains-get_or}
use Rattle.std.proofs.lemmas.List.Sums.{sum_by-cons}
use Rattle.mk_model.specs.declared.template.QueryBond.{QueryBond}
use Rattle.mk_model.specs.declared.template.Slot.{Slot}
use Rattle.mk_model.specs.declared.template.Slot.TheVariants.{Link, Site}
use Rattle.mk_model.specs.Expansions.{free_ends, frees_of, is_nothing}
use Rattle.mk_model.specs.Pieces.{Piece, ending, piece, piece_numbered, taker}
use Rattle.mk_model.specs.Pieces.Piece.{Copies, Member, Hydrogens, Nothing}
use Rattle.mk_model.specs.QueryFits.{AreNeighbours, HasSitesApart}
use Rattle.mk_model.specs.Sizes.{takes_atom}
use Rattle.mk_model.specs.Edges.{HasEnds}
use Rattle.mk_model.specs.Templates.{TemplateView, joins, query_edge, slot_atom}
use Rattle.mk_text.proofs.ForCallers.{both as both_parts}
use Rattle.mk_pieces.specs.Kept.{IsSlotOf, IsTemplate}
use Rattle.mk_pieces.specs.Rooms.{IsWithin}
use Rattle.mk_pieces.proofs.DrawnLemmas.{ending_is_of}
use Rattle.mk_pieces.proofs.JoinedLemmas.{edge_at, slot_piece}
use Rattle.mk_pieces.proofs.JoiningLemmas.{joins_ends}
use Rattle.mk_pieces.proofs.PieceLemmas.{FitsSlot, FitSlots, all_stand, fit_at, fit_length}
use Rattle.mk_pieces.proofs.SpanLemmas.{IsOf, one_atom}
use Rattle.mk_pieces.proofs.StandLemmas.{own_only}
use Rattle.mk_pieces.proofs.TakerLemmas.{taker_is_slot}
use Rattle.mk_pieces.proofs.TemplateLemmas.{bonds_within}
use Rattle.mk_expand.specs.OpenGraphs.{is_loose, leads_off, loose_ends}
use Rattle.mk_expand.proofs.CountLemmas.{count_none, count_once, count_some, exchanged, one_if, sums_below, total, total_once, total_some, totals_below}

no_slot : Slot
no_slot = Link 0 0 0 0

-- ---- a sum over slots

pub zipped_total : (f : Slot × Piece → ℕ) (slots : List Slot) (ps : List Piece) → length ps ≡ length slots
    → sum_by f (zip slots ps) ≡ total (λ k. f (get_or slots k (Link 0 0 0 0), get_or ps k (Copies 1))) (length slots)
zipped_total f [] ps size = refl
zipped_total f (slot ∷ slots) [] size = absurd (omega arith)
zipped_total f (slot ∷ slots) (p ∷ ps) size = omega (arith, zipped_total f slots ps (omega arith), sum_by-cons f (slot, p) (zip slots ps))

-- ---- one template

-- no two bonds of a template join one pair
pair_once : (template : TemplateView) → IsTemplate template → (x a i j : ℕ) (d : QueryBond) → i < j → j < length template.bonds → joins x a (get_or template.bonds i d) ≡ true
    → joins x a (get_or template.bonds j d) ≡ true → ⊥
pair_once template kept x a i j d less below one other =
    let first = edge_at template i d (omega arith) (ends_of x a (get_or template.bonds i d) one) in
    let second = edge_at template j d below (ends_of x a (get_or template.bonds j d) other) in
    omega (arith, kept.graph.once i j x a first second)
  where
    ends_of : (x a : ℕ) (bond : QueryBond) → joins x a bond ≡ true → HasEnds (query_edge bond) x a
    ends_of x a bond is = elim (joins_ends x a bond is) [ inl e ↦ inl e | inr e ↦ inr e ]

module _ (template : TemplateView) (kept : IsTemplate template) (apart : HasSitesApart template) (qs : List Piece) (fit : FitSlots template.slots qs) where
  -- something stands beside a site
  pub beside_site : (slot : Slot) (a y : ℕ) → Contains template.slots slot → slot_atom slot ≡ a → (is_site : (m f o : ℕ) → slot ≡ Link a m f o → ⊥) → AreNeighbours template a y
      → is_nothing (piece template qs y) ≡ false
  beside_site (Link atom m f o) a y held at is_site beside = absurd (is_site m f o (ap (λ (z : ℕ). Link z m f o) at))
  beside_site (Site atom g f o) a y held at is_site beside = by (taker template y) refl
    where
      by_slot : (slot : Slot) (q : Piece) → Contains template.slots slot → takes_atom template y slot ≡ true → FitsSlot slot q → is_nothing q ≡ false
      by_slot (Link atom' m' f' o') (Copies n) there takes fits = refl
      by_slot (Link atom' m' f' o') (Member part) there takes fits = absurd fits
      by_slot (Link atom' m' f' o') (Hydrogens n) there takes fits = absurd fits
      by_slot (Link atom' m' f' o') Nothing there takes fits = absurd fits
      by_slot (Site atom' g' f' o') q there takes fits = own (eqb atom' y) refl takes
        where
          own : (b : Bool) → eqb atom' y ≡ b → (b || false) ≡ true → is_nothing q ≡ false
          own true e is =
              let same : atom' ≡ y = grind (arith, nat_tests) in
              absurd (apart (Site atom g f o) (Site atom' g' f' o') held there (subst (λ (z : ℕ). AreNeighbours template z atom') (sym at) (subst (AreNeighbours template a) (sym same) beside)))
          own false e is = absurd cc

      by : (n : ℕ) → taker template y ≡ n → is_nothing (piece_numbered qs n) ≡ false
      by zero is = refl
      by (suc k) is =
          let found = taker_is_slot template y k is in
          by_slot (get_or template.slots k (Link 0 0 0 0)) (get_or qs k (Copies 1)) (Contains-get_or template.slots k (Link 0 0 0 0) found.within) (found.takes (Link 0 0 0 0))
          (fit_at template.slots qs k (Link 0 0 0 0) (Copies 1) found.within fit)

  module _ (x p : ℕ) (of : IsOf template qs x p) where
    -- the bond of a neighbour that stands at a vacant atom is loose
    loose_there : (a : ℕ) (bond : QueryBond) → is_nothing (piece template qs a) ≡ true → is_nothing (piece template qs x) ≡ false → eqb (ending template qs x a) p ≡ true
        → joins x a bond ≡ true → is_loose template qs p bond ≡ true
    loose_there a bond none some ends joined = by (joins_ends x a bond joined)
      where
        leads : leads_off template qs p x a ≡ true
        leads = rw (none, some, ends) refl

        first : (b : Bool) → (true || b) ≡ true
        first b = refl

        second : (b : Bool) → (b || true) ≡ true
        second true = refl
        second false = refl

        by : ((bond.first ≡ x) × (bond.second ≡ a)) ⊎ ((bond.first ≡ a) × (bond.second ≡ x)) → is_loose template qs p bond ≡ true
        by (inl e) =
            let here : leads_off template qs p bond.first bond.second ≡ true = ap (λ (u : ℕ). leads_off template qs p u bond.second) e.0 ∙ ap (leads_off template qs p x) e.1 ∙ leads in
            ap (λ (b : Bool). b || leads_off template qs p bond.second bond.first) here ∙ first (leads_off template qs p bond.second bond.first)
        by (inr e) =
            let here : leads_off template qs p bond.second bond.first ≡ true = ap (λ (u : ℕ). leads_off template qs p u bond.first) e.1 ∙ ap (leads_off template qs p x) e.0 ∙ leads in
            ap (λ (b : Bool). leads_off template qs p bond.first bond.second || b) here ∙ second (leads_off template qs p bond.first bond.second)

    turned : (a y : ℕ) (bond : QueryBond) → joins a y bond ≡ joins y a bond
    turned a y bond = by (eqb bond.first a && eqb bond.second y) (eqb bond.first y && eqb bond.second a)
      where
        by : (b c : Bool) → (b || c) ≡ (c || b)
        by true true = refl
        by true false = refl
        by false true = refl
        by false false = refl

    -- where a slot leaves free ends, and how many of its bonds are loose
    abbrev leaves : ℕ → QueryBond → Bool
    leaves a bond = is_loose template qs p bond && joins x a bond

    site_frees : (slot : Slot) (q : Piece) → Contains template.slots slot → piece template qs (slot_atom slot) ≡ q → frees_of template qs p slot q ≤ count_by (leaves (slot_atom slot)) template.bonds
    site_frees (Link a m f o) q held is = omega arith
    site_frees (Site a g f o) (Copies n) held is = omega arith
    site_frees (Site a g f o) (Member part) held is = omega arith
    site_frees (Site a g f o) (Hydrogens n) held is = omega arith
    site_frees (Site a g f o) Nothing held is = by (not (eqb f 0) && eqb (ending template qs f a) p) (not (eqb o 0) && eqb (ending template qs o a) p) refl refl
      where
        slot : IsSlotOf template (Site a g f o)
        slot = All-contains (IsSlotOf template) template.slots (Site a g f o) kept.slots held

        -- a neighbour at which it leaves one is x
        end_is : (y : ℕ) → (not (eqb y 0) && eqb (ending template qs y a) p) ≡ true → AreNeighbours template a y → (y ≡ x) × (1 ≤ count_by (leaves a) template.bonds)
        end_is y e beside =
            let parts = both_parts (not (eqb y 0)) (eqb (ending template qs y a) p) e in
            let some : y ≢ 0 = λ none. (let zero_is : eqb y 0 ≡ true = grind (arith, nat_tests) in absurd (let no : false ≡ true = ap not (sym zero_is) ∙ parts.0 in cc)) in
            let place : ending template qs y a ≡ p = grind (arith, nat_tests, parts.1) in
            let stands = beside_site (Site a g f o) a y held refl (λ m' f' o' is'. absurd cc) beside in
            let own : IsOf template qs y p = subst (IsOf template qs y) place (ending_is_of template qs (all_stand template.slots qs fit) y a (omega (arith, some)) slot.0.0 stands) in
            let same : y ≡ x = one_atom template qs y x p own of in
            let bond = beside.0 in
            let joined : joins x a bond ≡ true = sym (turned a x bond) ∙ ap (λ (z : ℕ). joins a z bond) (sym same) ∙ beside.2 in
            let loose : is_loose template qs p bond ≡ true = loose_there a bond (ap is_nothing is) (ap (λ (z : ℕ). is_nothing (piece template qs z)) (sym same) ∙ stands)
            (ap (λ (z : ℕ). eqb (ending template qs z a) p) (sym same) ∙ parts.1) joined in
            (same, count_some (leaves a) template.bonds bond beside.1 (rw (loose, joined) refl))

        second_beside : (not (eqb o 0) && eqb (ending template qs o a) p) ≡ true → AreNeighbours template a o
        second_beside e = elim (cases_eq o 0) [
          | inl none ↦ absurd (let zero_is : eqb o 0 ≡ true = grind (arith, nat_tests) in
              let no : false ≡ true = ap not (sym zero_is) ∙ (both_parts (not (eqb o 0)) (eqb (ending template qs o a) p) e).0 in cc)
          | inr some ↦ (slot.1.neighbours o).1 (inr (refl, some))
        ]

        by : (b c : Bool) → (not (eqb f 0) && eqb (ending template qs f a) p) ≡ b → (not (eqb o 0) && eqb (ending template qs o a) p) ≡ c
            → one_if (not (eqb f 0) && eqb (ending template qs f a) p) + one_if (not (eqb o 0) && eqb (ending template qs o a) p) ≤ count_by (leaves a) template.bonds
        by true true e e' =
            absurd (let one = end_is f e ((slot.1.neighbours f).1 (inl refl)) in let two = end_is o e' (second_beside e') in slot.1.differ (one.0 ∙ sym two.0))
        by true false e e' = (let one = end_is f e ((slot.1.neighbours f).1 (inl refl)) in
            let here : one_if (not (eqb f 0) && eqb (ending template qs f a) p) ≡ 1 = ap one_if e in
            let there : one_if (not (eqb o 0) && eqb (ending template qs o a) p) ≡ 0 = ap one_if e' in omega (arith, one.1, here, there))
        by false true e e' = (let two = end_is o e' (second_beside e') in
            let here : one_if (not (eqb f 0) && eqb (ending template qs f a) p) ≡ 0 = ap one_if e in
            let there : one_if (not (eqb o 0) && eqb (ending template qs o a) p) ≡ 1 = ap one_if e' in omega (arith, two.1, here, there))
        by false false e e' = (
            let here : one_if (not (eqb f 0) && eqb (ending template qs f a) p) ≡ 0 = ap one_if e in
            let there : one_if (not (eqb o 0) && eqb (ending template qs o a) p) ≡ 0 = ap one_if e' in omega (arith, here, there))

    -- the atom of a slot by its place
    abbrev atom_at : ℕ → ℕ
    atom_at k = slot_atom (get_or template.slots k (Link 0 0 0 0))

    -- a bond of x leads to one slot at most
    one_slot : (bond : QueryBond) (i k : ℕ) → i < k → k < length template.slots → joins x (atom_at i) bond ≡ true → joins x (atom_at k) bond ≡ true → ⊥
    one_slot bond i k less below first second =
        let up = kept.slots_rise i k (Link 0 0 0 0) less below in
        omega (arith, joins_ends x (atom_at i) bond first, joins_ends x (atom_at k) bond second, up)

    bond_once : (bond : QueryBond) → total (λ k. one_if (leaves (atom_at k) bond)) (length template.slots) ≤ one_if (is_loose template qs p bond)
    bond_once bond = by (is_loose template qs p bond)
      where
        none : (m : ℕ) → total (λ k. 0) m ≡ 0
        none zero = refl
        none (suc m) = omega (arith, none m)

        by : (b : Bool) → total (λ k. one_if (b && joins x (atom_at k) bond)) (length template.slots) ≤ one_if b
        by true = total_once (λ k. joins x (atom_at k) bond) (length template.slots) (λ i k less below first second. one_slot bond i k less below first second)
        by false = omega (arith, none (length template.slots))

    -- a place has at least as many loose ends as the slots leave free ends there
    pub frees_within : free_ends template qs template.slots qs p ≤ loose_ends template qs p
    unfolding free_ends loose_ends
    frees_within =
        let zipped = zipped_total (λ s. frees_of template qs p s.0 s.1) template.slots qs (fit_length template.slots qs fit) in
        let each = totals_below (λ k. frees_of template qs p (get_or template.slots k (Link 0 0 0 0)) (get_or qs k (Copies 1)))
        (λ k. count_by (leaves (atom_at k)) template.bonds) (length template.slots)
        (λ k below. site_frees (get_or template.slots k (Link 0 0 0 0)) (get_or qs k (Copies 1)) (Contains-get_or template.slots k (Link 0 0 0 0) below) (slot_piece template kept qs k below)) in
        let turned_round = exchanged (λ k bond. one_if (leaves (atom_at k) bond)) (length template.slots) template.bonds in
        let once = sums_below (λ bond. total (λ k. one_if (leaves (atom_at k) bond)) (length template.slots)) (λ bond. one_if (is_loose template qs p bond)) template.bonds
        (λ bond held. bond_once bond) in
        omega (arith, zipped, each, turned_round, once)

    -- ---- the other way round

    -- where a loose bond leads: to a slot for which nothing stands
    record LeadsOff (bond : QueryBond) : Type 0 where
      k : ℕ
      below : k < length template.slots
      none : get_or qs k (Copies 1) ≡ Nothing
      joined : joins x (slot_atom (get_or template.slots k (Link 0 0 0 0))) bond ≡ true
      ends : eqb (ending template qs x (slot_atom (get_or template.slots k (Link 0 0 0 0)))) p ≡ true

    nothing_is : (q : Piece) → is_nothing q ≡ true → q ≡ Nothing
    nothing_is (Copies n) is = absurd cc
    nothing_is (Member part) is = absurd cc
    nothing_is (Hydrogens n) is = absurd cc
    nothing_is Nothing is = refl

    not_true : (b : Bool) → not b ≡ true → b ≡ false
    not_true true is = absurd cc
    not_true false is = refl

    vacant_site : (v : ℕ) (slot : Slot) (q : Piece) → takes_atom template v slot ≡ true → FitsSlot slot q → q ≡ Nothing → slot_atom slot ≡ v
    vacant_site v (Link a m f o) q takes fits none = absurd (subst (FitsSlot (Link a m f o)) none fits)
    vacant_site v (Site a g f o) q takes fits none = own_only a v takes

    joins_first : (a b : ℕ) (bond : QueryBond) → bond.first ≡ a → bond.second ≡ b → joins a b bond ≡ true
    joins_first a b bond first second =
        let one : eqb bond.first a ≡ true = grind (arith, nat_tests) in
        let two : eqb bond.second b ≡ true = grind (arith, nat_tests) in
        rw (one, two) refl

    leads_there : (bond : QueryBond) (u v : ℕ) → 1 ≤ u → 1 ≤ v → leads_off template qs p u v ≡ true → joins u v bond ≡ true → LeadsOff bond
    leads_there bond u v least least' leads joined = by (taker template v) refl
      where
        parts : (is_nothing (piece template qs v) ≡ true) × ((not (is_nothing (piece template qs u)) && eqb (ending template qs u v) p) ≡ true)
        parts = both_parts (is_nothing (piece template qs v)) (not (is_nothing (piece template qs u)) && eqb (ending template qs u v) p) leads

        more : (not (is_nothing (piece template qs u)) ≡ true) × (eqb (ending template qs u v) p ≡ true)
        more = both_parts (not (is_nothing (piece template qs u))) (eqb (ending template qs u v) p) parts.1

        same : u ≡ x
        same =
            let place : ending template qs u v ≡ p = grind (arith, nat_tests, more.1) in
            let own : IsOf template qs u p = subst (IsOf template qs u) place
            (ending_is_of template qs (all_stand template.slots qs fit) u v least least' (not_true (is_nothing (piece template qs u)) more.0)) in
            one_atom template qs u x p own of

        by : (n : ℕ) → taker template v ≡ n → LeadsOff bond
        by zero is = absurd (let stands : is_nothing (piece template qs v) ≡ false = ap (λ (n : ℕ). is_nothing (piece_numbered qs n)) is in let none = parts.0 in cc)
        by (suc k) is =
            let found = taker_is_slot template v k is in
            let none : get_or qs k (Copies 1) ≡ Nothing = nothing_is (get_or qs k (Copies 1)) (ap (λ (n : ℕ). is_nothing (piece_numbered qs n)) (sym is) ∙ parts.0) in
            let at : slot_atom (get_or template.slots k (Link 0 0 0 0)) ≡ v = vacant_site v (get_or template.slots k (Link 0 0 0 0)) (get_or qs k (Copies 1)) (found.takes (Link 0 0 0 0))
            (fit_at template.slots qs k (Link 0 0 0 0) (Copies 1) found.within fit) none in
            record {
              k = k;
              below = found.within;
              none = none;
              joined = ap (λ (z : ℕ). joins x z bond) at ∙ ap (λ (z : ℕ). joins z v bond) (sym same) ∙ joined;
              ends = ap (λ (z : ℕ). eqb (ending template qs x z) p) at ∙ ap (λ (z : ℕ). eqb (ending template qs z v) p) (sym same) ∙ more.1;
            }

    leads_to : (bond : QueryBond) → Contains template.bonds bond → is_loose template qs p bond ≡ true → LeadsOff bond
    leads_to bond held loose = by (leads_off template qs p bond.first bond.second) (leads_off template qs p bond.second bond.first) refl refl loose
      where
        within : IsWithin template bond
        within = All-contains (IsWithin template) template.bonds bond (bonds_within template kept) held

        here : joins bond.first bond.second bond ≡ true
        here = joins_first bond.first bond.second bond refl refl

        by : (b c : Bool) → leads_off template qs p bond.first bond.second ≡ b → leads_off template qs p bond.second bond.first ≡ c → (b || c) ≡ true → LeadsOff bond
        by true c e e' is = leads_there bond bond.first bond.second within.first.0 within.second.0 e here
        by false true e e' is = leads_there bond bond.second bond.first within.second.0 within.first.0 e' (turned bond.second bond.first bond ∙ here)
        by false false e e' is = absurd cc

    -- each loose bond leads to a slot
    bond_covered : (bond : QueryBond) → Contains template.bonds bond → one_if (is_loose template qs p bond) ≤ total (λ k. one_if (leaves (atom_at k) bond)) (length template.slots)
    bond_covered bond held = by (is_loose template qs p bond) refl
      where
        by : (b : Bool) → is_loose template qs p bond ≡ b → one_if b ≤ total (λ k. one_if (leaves (atom_at k) bond)) (length template.slots)
        by true e =
            let led = leads_to bond held e in
            let passes : leaves (atom_at led.k) bond ≡ true = rw (e, led.joined) refl in
            let here : one_if (leaves (atom_at led.k) bond) ≡ 1 = ap one_if passes in
            omega (arith, here, total_some (λ k. one_if (leaves (atom_at k) bond)) (length template.slots) led.k led.below)
        by false e = omega arith

    -- a bond that is loose and leads to a slot: nothing stands for that one
    record IsVacantHere (slot : Slot) (q : Piece) : Type 0 where
      none : q ≡ Nothing
      ends : eqb (ending template qs x (slot_atom slot)) p ≡ true

    vacant_here : (k : ℕ) → k < length template.slots → (bond : QueryBond) → Contains template.bonds bond → leaves (atom_at k) bond ≡ true
        → IsVacantHere (get_or template.slots k (Link 0 0 0 0)) (get_or qs k (Copies 1))
    vacant_here k below bond held is =
        let parts = both_parts (is_loose template qs p bond) (joins x (atom_at k) bond) is in
        let led = leads_to bond held parts.0 in
        let same : led.k ≡ k = elim (cases_eq led.k k) [
          | inl same ↦ same
          | inr other ↦ elim (cases_lt led.k k) [
            | inl less ↦ absurd (one_slot bond led.k k less below led.joined parts.1)
            | inr more ↦ absurd (one_slot bond k led.k (omega arith) led.below parts.1 led.joined)
          ]
        ] in
        record {
          none = ap (λ (i : ℕ). get_or qs i (Copies 1)) (sym same) ∙ led.none;
          ends = ap (λ (i : ℕ). eqb (ending template qs x (atom_at i)) p) (sym same) ∙ led.ends;
        }

    -- no two bonds lead to one slot
    leaves_once : (a : ℕ) → count_by (leaves a) template.bonds ≤ 1
    leaves_once a = count_once (leaves a) template.bonds (λ i j d less below one other.
        (let first = both_parts (is_loose template qs p (get_or template.bonds i d)) (joins x a (get_or template.bonds i d)) one in
        let second = both_parts (is_loose template qs p (get_or template.bonds j d)) (joins x a (get_or template.bonds j d)) other in
        pair_once template kept x a i j d less below first.1 second.1))

    none_leave : (slot : Slot) (q : Piece) → ((bond : QueryBond) → Contains template.bonds bond → leaves (slot_atom slot) bond ≡ true → IsVacantHere slot q) → is_nothing q ≡ false
        → count_by (leaves (slot_atom slot)) template.bonds ≡ 0
    none_leave slot q leads some = count_none (leaves (slot_atom slot)) template.bonds (λ bond held. by bond held (leaves (slot_atom slot) bond) refl)
      where
        by : (bond : QueryBond) → Contains template.bonds bond → (b : Bool) → leaves (slot_atom slot) bond ≡ b → leaves (slot_atom slot) bond ≡ false
        by bond held true e = absurd (let none : is_nothing q ≡ true = ap is_nothing (leads bond held e).none in cc)
        by bond held false e = e

    slot_leaves : (slot : Slot) (q : Piece) → Contains template.slots slot → FitsSlot slot q
        → ((bond : QueryBond) → Contains template.bonds bond → leaves (slot_atom slot) bond ≡ true → IsVacantHere slot q)
        → count_by (leaves (slot_atom slot)) template.bonds ≤ frees_of template qs p slot q
    slot_leaves (Link a m f o) (Copies n) held fits leads = omega (arith, none_leave (Link a m f o) (Copies n) leads refl)
    slot_leaves (Link a m f o) (Member part) held fits leads = absurd fits
    slot_leaves (Link a m f o) (Hydrogens n) held fits leads = absurd fits
    slot_leaves (Link a m f o) Nothing held fits leads = absurd fits
    slot_leaves (Site a g f o) (Copies n) held fits leads = absurd fits
    slot_leaves (Site a g f o) (Member part) held fits leads = omega (arith, none_leave (Site a g f o) (Member part) leads refl)
    slot_leaves (Site a g f o) (Hydrogens n) held fits leads = omega (arith, none_leave (Site a g f o) (Hydrogens n) leads refl)
    slot_leaves (Site a g f o) Nothing held fits leads = by (not (eqb f 0) && eqb (ending template qs f a) p) (not (eqb o 0) && eqb (ending template qs o a) p) refl refl
      where
        slot : IsSlotOf template (Site a g f o)
        slot = All-contains (IsSlotOf template) template.slots (Site a g f o) kept.slots held

        -- where a bond leads here x is a neighbour, and there is a free end
        counts : (y : ℕ) → x ≡ y → y ≢ 0 → eqb (ending template qs x a) p ≡ true → (not (eqb y 0) && eqb (ending template qs y a) p) ≡ true
        counts y same some ends =
            let other : eqb y 0 ≡ false = grind (arith, nat_tests) in
            let here : eqb (ending template qs y a) p ≡ true = ap (λ (z : ℕ). eqb (ending template qs z a) p) (sym same) ∙ ends in
            rw (other, here) refl

        never : (not (eqb f 0) && eqb (ending template qs f a) p) ≡ false → (not (eqb o 0) && eqb (ending template qs o a) p) ≡ false → (bond : QueryBond) → Contains template.bonds bond
            → leaves a bond ≡ true → ⊥
        never e e' bond in_bonds is =
            let parts = both_parts (is_loose template qs p bond) (joins x a bond) is in
            let ends = (leads bond in_bonds is).ends in
            let beside : AreNeighbours template a x = (bond, in_bonds, turned a x bond ∙ parts.1) in
            elim ((slot.1.neighbours x).0 beside) [
              | inl first ↦ (let here = counts f first slot.1.some ends in cc)
              | inr second ↦ (let here = counts o second.0 second.1 ends in cc)
            ]

        by : (b c : Bool) → (not (eqb f 0) && eqb (ending template qs f a) p) ≡ b → (not (eqb o 0) && eqb (ending template qs o a) p) ≡ c
            → count_by (leaves a) template.bonds ≤ one_if (not (eqb f 0) && eqb (ending template qs f a) p) + one_if (not (eqb o 0) && eqb (ending template qs o a) p)
        by true c e e' = (let here : one_if (not (eqb f 0) && eqb (ending template qs f a) p) ≡ 1 = ap one_if e in omega (arith, leaves_once a, here))
        by false true e e' = (let here : one_if (not (eqb o 0) && eqb (ending template qs o a) p) ≡ 1 = ap one_if e' in omega (arith, leaves_once a, here))
        by false false e e' = (let none = count_none (leaves a) template.bonds (λ bond in_bonds. test bond in_bonds (leaves a bond) refl) in omega (arith, none))
          where
            test : (bond : QueryBond) → Contains template.bonds bond → (b : Bool) → leaves a bond ≡ b → leaves a bond ≡ false
            test bond in_bonds true is = absurd (never e e' bond in_bonds is)
            test bond in_bonds false is = is

    -- the free ends that the slots leave at a place are its loose ends
    pub frees_are : free_ends template qs template.slots qs p ≡ loose_ends template qs p
    unfolding free_ends loose_ends
    frees_are =
        let zipped = zipped_total (λ s. frees_of template qs p s.0 s.1) template.slots qs (fit_length template.slots qs fit) in
        let each = totals_below (λ k. count_by (leaves (atom_at k)) template.bonds) (λ k. frees_of template qs p (get_or template.slots k (Link 0 0 0 0)) (get_or qs k (Copies 1)))
        (length template.slots)
        (λ k below. slot_leaves (get_or template.slots k (Link 0 0 0 0)) (get_or qs k (Copies 1)) (Contains-get_or template.slots k (Link 0 0 0 0) below)
        (fit_at template.slots qs k (Link 0 0 0 0) (Copies 1) below fit) (vacant_here k below)) in
        let turned_round = exchanged (λ k bond. one_if (leaves (atom_at k) bond)) (length template.slots) template.bonds in
        let covered = sums_below (λ bond. one_if (is_loose template qs p bond)) (λ bond. total (λ k. one_if (leaves (atom_at k) bond)) (length template.slots)) template.bonds bond_covered in
        let least = frees_within in
        omega (arith, least, zipped, each, turned_round, covered)

    -- what stands for a site has no loose ends, since no site is beside a site
    pub no_loose : (a : ℕ) (g : List ℕ) (f o : ℕ) → Contains template.slots (Site a g f o) → a ≡ x → loose_ends template qs p ≡ 0
    unfolding loose_ends
    no_loose a g f o held own = count_none (is_loose template qs p) template.bonds (λ bond in_bonds. by bond in_bonds (is_loose template qs p bond) refl)
      where
        beside : (slot : Slot) (q : Piece) → Contains template.slots slot → FitsSlot slot q → q ≡ Nothing → (bond : QueryBond) → Contains template.bonds bond → joins x (slot_atom slot) bond ≡ true → ⊥
        beside (Link a' m' f' o') q there fits none bond in_bonds joined = subst (FitsSlot (Link a' m' f' o')) none fits
        beside (Site a' g' f' o') q there fits none bond in_bonds joined =
            apart (Site a' g' f' o') (Site a g f o) there held (bond, in_bonds, ap (λ (z : ℕ). joins a' z bond) own ∙ turned a' x bond ∙ joined)

        by : (bond : QueryBond) → Contains template.bonds bond → (b : Bool) → is_loose template qs p bond ≡ b → is_loose template qs p bond ≡ false
        by bond in_bonds true e =
            let led = leads_to bond in_bonds e in
            absurd (beside (get_or template.slots led.k (Link 0 0 0 0)) (get_or qs led.k (Copies 1)) (Contains-get_or template.slots led.k (Link 0 0 0 0) led.below)
            (fit_at template.slots qs led.k (Link 0 0 0 0) (Copies 1) led.below fit) led.none bond in_bonds led.joined)
        by bond in_bonds false e = e
