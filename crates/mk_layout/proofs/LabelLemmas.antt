-- One labelling serves all links: no block holds another link, so the bonds of all links may be taken away together.
--     takes_is        the slot takes an atom by the labels exactly where it takes it
use Rattle.std.proofs.Common.{◌≡◌, ◌≢◌, ◌⊎◌, ◌∙◌, ℕ, zero, suc, ◌+◌, ◌-◌, ◌<◌, ◌≤◌, inl, inr, Bool, true, false, ◌&&◌, ◌||◌, not, eqb, List, [], ◌∷◌, length, get_or, refl, ap, subst, arith}
use Rattle.std.specs.Prelude.{Contains, filter}
use Rattle.std.proofs.lemmas.Bool.{cases_eq, cases_lt}
use Rattle.std.proofs.lemmas.Bool.Decides.{nat_tests}
use Rattle.std.proofs.lemmas.List.{get_or_default}
use Rattle.mk_model.specs.declared.template.QueryBond.{QueryBond}
use Rattle.mk_model.specs.declared.template.Slot.{Slot}
use Rattle.mk_model.specs.declared.template.Slot.TheVariants.{Link, Site}
use Rattle.mk_model.specs.QueryFits.{HoldsItsBlock, IsMarked}
use Rattle.mk_model.specs.Sizes.{takes_atom}
use Rattle.mk_model.specs.Templates.{TemplateView, bonds_without, hang_together, joins, slot_atom}
use Rattle.mk_model.proofs.ForCallers.{GoesAlong, Hangs, hangs, hangs_back, hangs_by, hangs_closed, hangs_on, hangs_same, hangs_tested, kept_all, kept_within}
use Rattle.mk_layout.specs.Blocks.{AreLabels, stay, stays, takes}
use Rattle.mk_pieces.specs.Kept.{IsTemplate}

-- ---- a bond stays for all slots

pub all_stay : (slots : List Slot) (bond : QueryBond) → ((j : ℕ) (d : Slot) → j < length slots → stays (get_or slots j d) bond ≡ true) → stay slots bond ≡ true
all_stay [] bond each = refl
all_stay (slot ∷ slots) bond each = rw (each 0 slot (omega arith)) (all_stay slots bond (λ j d below. each (suc j) d (omega arith)))

pub each_stays : (slots : List Slot) (bond : QueryBond) → stay slots bond ≡ true → (j : ℕ) (d : Slot) → j < length slots → stays (get_or slots j d) bond ≡ true
each_stays [] bond is j d below = absurd (omega arith)
each_stays (slot ∷ slots) bond is j d below = by_test (stays slot bond) refl is j below (λ rest i less. each_stays slots bond rest i d less)
  where
    by_test : (b : Bool) → stays slot bond ≡ b → (b && stay slots bond) ≡ true → (j : ℕ) → j < length (slot ∷ slots)
        → (stay slots bond ≡ true → (i : ℕ) → i < length slots → stays (get_or slots i d) bond ≡ true)
        → stays (get_or (slot ∷ slots) j d) bond ≡ true
    by_test true e rest zero less others = e
    by_test true e rest (suc i) less others = others rest i (omega arith)
    by_test false e rest j less others = absurd cc

-- a bond without an end at an atom is none from it to a neighbour
not_joined : (x y : ℕ) (bond : QueryBond) → bond.first ≢ x → bond.second ≢ x → joins x y bond ≡ false
not_joined x y bond first second = (let one : eqb bond.first x ≡ false = grind (arith, nat_tests) in let two : eqb bond.second x ≡ false = grind (arith, nat_tests) in
    rw (one, two) (by (eqb bond.first y)))
  where
    by : (b : Bool) → (b && false) ≡ false
    by true = refl
    by false = refl

not_its_bond : (x from to : ℕ) (bond : QueryBond) → bond.first ≢ x → bond.second ≢ x → not (joins x from bond || joins x to bond) ≡ true
not_its_bond x from to bond first second = rw (not_joined x from bond first second, not_joined x to bond first second) refl

-- ---- the block of one link

module _ (template : TemplateView) (kept : IsTemplate template) (k a most from to : ℕ) (below : k < length template.slots)
    (is_link : (d : Slot) → get_or template.slots k d ≡ Link a most from to) where
  abbrev of_one : List QueryBond
  of_one = bonds_without (Link a most from to) template.bonds

  abbrev of_all : List QueryBond
  of_all = filter (stay template.slots) template.bonds

  -- the block doesn't hold the atom of another slot
  apart : (j : ℕ) (slot : Slot) → j < length template.slots → get_or template.slots j slot ≡ slot → j ≢ k → Hangs of_one a (slot_atom slot) → ⊥
  apart j slot inside at other hangs' =
      let d : Slot = Link a most from to in
      let closed : HoldsItsBlock template (Link a most from to) = subst (HoldsItsBlock template) (is_link d) (kept.blocks_closed k d below) in
      let marked : IsMarked template (slot_atom slot) = inr (slot, (j, inside, at), refl) in
      let same : slot_atom slot ≡ a = (closed (slot_atom slot) (hangs_tested of_one a (slot_atom slot) hangs')).2 marked in
      let here : slot_atom (get_or template.slots j slot) ≡ slot_atom slot = ap slot_atom at in
      let there : slot_atom (get_or template.slots k slot) ≡ a = ap slot_atom (is_link slot) in
      elim (cases_lt j k) [
        | inl less ↦ (let rise = kept.slots_rise j k slot less below in omega (arith, rise, here, there, same))
        | inr more ↦ (let rise = kept.slots_rise k j slot (omega arith) inside in omega (arith, rise, here, there, same))
      ]

  -- a bond within the block stays for all slots
  within_stays : (bond : QueryBond) → Contains of_one bond → Hangs of_one a bond.first → Hangs of_one a bond.second → Contains of_all bond
  within_stays bond at first second =
      let found = kept_within (λ c. not (joins a from c || joins a to c)) template.bonds bond at in
      kept_all (stay template.slots) template.bonds bond found.0 (all_stay template.slots bond (λ j d inside. by_place j d inside found.1 (cases_eq j k)))
    where
      by_slot : (slot : Slot) (j : ℕ) → j < length template.slots → get_or template.slots j slot ≡ slot → j ≢ k → stays slot bond ≡ true
      by_slot (Site atom group one two) j inside at other = refl
      by_slot (Link b most' from' to') j inside at other =
          not_its_bond b from' to' bond
          (λ e. apart j (Link b most' from' to') inside at other (subst (Hangs of_one a) e first))
          (λ e. apart j (Link b most' from' to') inside at other (subst (Hangs of_one a) e second))

      by_place : (j : ℕ) (d : Slot) → j < length template.slots → not (joins a from bond || joins a to bond) ≡ true → (j ≡ k) ⊎ (j ≢ k) → stays (get_or template.slots j d) bond ≡ true
      by_place j d inside own (inl same) = rw (same, is_link d) own
      by_place j d inside own (inr other) = by_slot (get_or template.slots j d) j inside (get_or_default template.slots j (get_or template.slots j d) d inside) other

  abbrev InBoth : ℕ → Type 0
  InBoth x = Hangs of_one a x × Hangs of_all a x

  along : GoesAlong InBoth of_one
  along = record {
    forth = λ bond at here.
        let there : Hangs of_one a bond.second = hangs_on of_one a bond.first bond.second here.0 (hangs_by of_one bond at) in
        (there, hangs_on of_all a bond.first bond.second here.1 (hangs_by of_all bond (within_stays bond at here.0 there)));
    back = λ bond at here.
        let there : Hangs of_one a bond.first = hangs_on of_one a bond.second bond.first here.0 (hangs_back of_one bond.first bond.second (hangs_by of_one bond at)) in
        (there, hangs_on of_all a bond.second bond.first here.1 (hangs_back of_all bond.first bond.second (hangs_by of_all bond (within_stays bond at there here.0))));
  }

  -- a bond that stays for all slots stays for this one
  less_bonds : (bond : QueryBond) → Contains of_all bond → Contains of_one bond
  less_bonds bond at =
      let found = kept_within (stay template.slots) template.bonds bond at in
      let own : stays (Link a most from to) bond ≡ true =
      subst (λ (s : Slot). stays s bond ≡ true) (is_link (Link a most from to)) (each_stays template.slots bond found.1 k (Link a most from to) below) in
      kept_all (λ c. not (joins a from c || joins a to c)) template.bonds bond found.0 own

  along_all : GoesAlong (Hangs of_one a) of_all
  along_all = record {
    forth = λ bond at here. hangs_on of_one a bond.first bond.second here (hangs_by of_one bond (less_bonds bond at));
    back = λ bond at here. hangs_on of_one a bond.second bond.first here (hangs_back of_one bond.first bond.second (hangs_by of_one bond (less_bonds bond at)));
  }

  same_block : (x : ℕ) → hang_together of_all a x ≡ hang_together of_one a x
  same_block x = by_tests (hang_together of_all a x) (hang_together of_one a x) refl refl
    where
      by_tests : (p q : Bool) → hang_together of_all a x ≡ p → hang_together of_one a x ≡ q → p ≡ q
      by_tests true true e f = refl
      by_tests false false e f = refl
      by_tests true false e f = (let is = hangs_tested of_one a x (hangs_closed (Hangs of_one a) of_all a x along_all (hangs of_all a x e) (hangs_same of_one a)) in absurd cc)
      by_tests false true e f = (let is = hangs_tested of_all a x (hangs_closed InBoth of_one a x along (hangs of_one a x f) (hangs_same of_one a, hangs_same of_all a)).1 in absurd cc)

-- ---- the slots

module _ (template : TemplateView) (kept : IsTemplate template) (labels : List ℕ) (size : length labels ≡ length template.atoms)
    (are : AreLabels (filter (stay template.slots) template.bonds) labels) where
  by_slot : (slot : Slot) (k : ℕ) → k < length template.slots → get_or template.slots k slot ≡ slot → (1 ≤ slot_atom slot) × (slot_atom slot ≤ length template.atoms) → (i : ℕ) → i < length labels
      → takes labels slot (i + 1) ≡ takes_atom template (i + 1) slot
  by_slot (Site atom groups first second) k below at stands i inside = by (eqb atom (i + 1))
    where
      by : (b : Bool) → b ≡ (b || false)
      by true = refl
      by false = refl
  by_slot (Link atom most from to) k below at stands i inside =
      let first : atom - 1 + 1 ≡ atom = omega (arith, stands) in
      let last : i + 1 - 1 ≡ i = omega arith in
      let tested : eqb (get_or labels (atom - 1) 0) (get_or labels i 0) ≡ hang_together (filter (stay template.slots) template.bonds) atom (i + 1) =
      are (atom - 1) i (omega (arith, stands)) inside ∙ ap (λ (n : ℕ). hang_together (filter (stay template.slots) template.bonds) n (i + 1)) first in
      let same = same_block template kept k atom most from to below (λ d. get_or_default template.slots k d (Link atom most from to) below ∙ at) (i + 1) in
      rw last (ap (λ (b : Bool). eqb atom (i + 1) || b) (tested ∙ same))

  pub takes_is : (k : ℕ) (d : Slot) → k < length template.slots → (1 ≤ slot_atom (get_or template.slots k d)) × (slot_atom (get_or template.slots k d) ≤ length template.atoms) → (i : ℕ)
      → i < length labels
      → takes labels (get_or template.slots k d) (i + 1) ≡ takes_atom template (i + 1) (get_or template.slots k d)
  takes_is k d below stands = by_slot (get_or template.slots k d) k below (get_or_default template.slots k (get_or template.slots k d) d below) stands
