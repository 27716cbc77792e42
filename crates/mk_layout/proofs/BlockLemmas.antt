-- Blocks by labels, and the slots that take atoms.
use Rattle.std.proofs.Common.{◌≡◌, ◌≢◌, ◌∙◌, ℕ, zero, suc, ◌+◌, ◌-◌, ◌<◌, ◌≤◌, inl, inr, Bool, true, false, cond, ◌&&◌, ◌||◌, eqb, List, [], ◌∷◌, length, get_or, drop, replicate, refl, sym, ap, arith}
use Rattle.std.proofs.lemmas.Bool.{cases_eq}
use Rattle.std.proofs.lemmas.Bool.Decides.{nat_tests}
use Rattle.std.proofs.lemmas.List.{drop_more, drop_all, get_or-replicate, length-replicate}
use Rattle.mk_model.specs.declared.template.QueryBond.{QueryBond}
use Rattle.mk_model.specs.declared.template.Slot.{Slot}
use Rattle.std.specs.Prelude.{filter}
use Rattle.mk_model.specs.Sizes.{takes_atom}
use Rattle.mk_model.specs.Templates.{TemplateView, hang_together}
use Rattle.mk_model.specs.Pieces.{taker, taker_from}
use Rattle.mk_pieces.specs.Rooms.{AreEndsWithin}
use Rattle.mk_layout.specs.Blocks.{AreLabels, merged, taken_by, takes}
use Rattle.mk_layout.specs.Laid.{AreTakers}

-- ---- takers

-- the first k slots have taken atoms, and the others are to come
pub record TakersLeft (template : TemplateView) (k : ℕ) (takers : List ℕ) : Type 0 where
  pub size : length takers ≡ length template.atoms
  pub each : (i : ℕ) → i < length takers → cond (eqb (get_or takers i 0) 0) (taker_from template (k + 1) (drop k template.slots) (i + 1)) (get_or takers i 0) ≡ taker template (i + 1)
  pub within : (i : ℕ) → i < length takers → get_or takers i 0 ≤ k

pub left_none : (template : TemplateView) (takers : List ℕ) → length takers ≡ length template.atoms → ((i : ℕ) → i < length takers → get_or takers i 0 ≡ 0) → TakersLeft template 0 takers
unfolding taker
left_none template takers size zeros = record {
  size = size;
  each = λ i below. (let none = zeros i below in rw none refl);
  within = λ i below. omega (arith, zeros i below);
}

zeros : ℕ → List ℕ
zeros n = replicate n 0

zero_at : (total p : ℕ) → p < length (zeros total) → get_or (zeros total) p 0 ≡ 0
unfolding zeros
zero_at total p below = get_or-replicate total p 0 0 (omega (arith, length-replicate {A = ℕ} total 0))

pub left_none_of : (template : TemplateView) (takers : List ℕ) (n : ℕ) → takers ≡ replicate n 0 → n ≡ length template.atoms → TakersLeft template 0 takers
unfolding zeros
left_none_of template takers n made is = left_none template takers (ap length made ∙ length-replicate {A = ℕ} n 0 ∙ is) (λ p below. rw made (zero_at n p (rw made at below)))

-- one slot more
step_by : (template : TemplateView) (slot : Slot) (slots : List Slot) (number next x old : ℕ) (taken : Bool) → taken ≡ takes_atom template x slot → next ≡ number + 1 → 1 ≤ number
    → cond (eqb old 0) (taker_from template number (slot ∷ slots) x) old ≡ cond (eqb (taken_by number old taken) 0) (taker_from template next slots x) (taken_by number old taken)
step_by template slot slots number next x old taken is more some = by_old (eqb old 0) refl
  where
    by_old : (b : Bool) → eqb old 0 ≡ b
        → cond b (taker_from template number (slot ∷ slots) x) old ≡ cond (eqb (cond (b && taken) number old) 0) (taker_from template next slots x) (cond (b && taken) number old)
    by_old false e = (let other : eqb old 0 ≡ false = e in rw other refl)
    by_old true e = rw is (by_slot (takes_atom template x slot) refl)
      where
        by_slot : (t : Bool) → takes_atom template x slot ≡ t
            → cond t number (taker_from template (number + 1) slots x) ≡ cond (eqb (cond t number old) 0) (taker_from template next slots x) (cond t number old)
        by_slot true f = (let other : eqb number 0 ≡ false = grind (arith, nat_tests) in rw other refl)
        by_slot false f = (let here : eqb old 0 ≡ true = e in rw (here, ← more) refl)

pub left_more : (template : TemplateView) (k : ℕ) (old new labels : List ℕ) (d : Slot) → k < length template.slots
    → ((i : ℕ) → i < length old → takes labels (get_or template.slots k d) (i + 1) ≡ takes_atom template (i + 1) (get_or template.slots k d))
    → length new ≡ length old → ((i : ℕ) → i < length old → get_or new i 0 ≡ taken_by (k + 1) (get_or old i 0) (takes labels (get_or template.slots k d) (i + 1)))
    → TakersLeft template k old → TakersLeft template (k + 1) new
left_more template k old new labels d below is size each left = record {
  size = size ∙ left.size;
  each = λ i inside.
      let inside' : i < length old = omega arith in
      let step = step_by template (get_or template.slots k d) (drop (k + 1) template.slots) (k + 1) (k + 1 + 1) (i + 1) (get_or old i 0) (takes labels (get_or template.slots k d) (i + 1))
      (is i inside') refl (omega arith) in
      let here = rw (drop_more template.slots k d below) at (left.each i inside') in
      let now = each i inside' in
      rw now (sym step ∙ here);
  within = λ i inside. (let inside' : i < length old = omega arith in let now = each i inside' in let here = left.within i inside' in
      rw now (within_by (k + 1) (get_or old i 0) _ (omega (arith, here)) (omega arith)));
}
  where
    within_by : (n t : ℕ) (b : Bool) → t ≤ k + 1 → n ≤ k + 1 → cond b n t ≤ k + 1
    within_by n t true up up' = up'
    within_by n t false up up' = up

pub left_all : (template : TemplateView) (k : ℕ) (takers : List ℕ) → length template.slots ≤ k → k ≤ length template.slots → TakersLeft template k takers → AreTakers template takers
left_all template k takers past up_to left = record {
  size = left.size;
  each = λ i below. all_by i (get_or takers i 0) (rw (drop_all k template.slots past) at (left.each i below));
  within = λ i below. omega (arith, left.within i below);
}
  where
    all_by : (i t : ℕ) → cond (eqb t 0) 0 t ≡ taker template (i + 1) → t ≡ taker template (i + 1)
    all_by i zero e = e
    all_by i (suc t) e = (let other : eqb (suc t) 0 ≡ false = grind (arith, nat_tests) in rw other at e)

-- ---- labels

-- without bonds only an atom itself hangs together with it
pub labels_none : (labels : List ℕ) → ((i : ℕ) → i < length labels → get_or labels i 0 ≡ i) → AreLabels [] labels
unfolding hang_together
labels_none labels are i j below below' = rw (are i below, are j below') (same_by i j)
  where
    same_by : (a b : ℕ) → eqb a b ≡ eqb (a + 1) (b + 1)
    same_by a b = elim (cases_eq a b) [
      | inl same ↦ (let same' : a + 1 ≡ b + 1 = omega arith in let one : eqb a b ≡ true = grind (arith, nat_tests) in let two : eqb (a + 1) (b + 1) ≡ true = grind (arith, nat_tests) in one ∙ sym two)
      | inr other ↦ (let other' : a + 1 ≢ b + 1 = λ e. other (omega arith) in let one : eqb a b ≡ false = grind (arith, nat_tests) in let two : eqb (a + 1) (b + 1) ≡ false =
          grind (arith, nat_tests) in one ∙ sym two)
    ]

-- the labels of two ends become one
is_same : (a b : ℕ) → a ≡ b → eqb a b ≡ true
is_same a b e = grind (arith, nat_tests)

is_other : (a b : ℕ) → (a ≡ b → ⊥) → eqb a b ≡ false
is_other a b e = grind (arith, nat_tests)

only_last : (t u : Bool) → u ≡ ((t && false) || (true && u))
only_last true u = refl
only_last false u = refl

only_first : (t u : Bool) → t ≡ ((t && true) || (false && u))
only_first true u = refl
only_first false u = refl

only_before : (v t u : Bool) → v ≡ (v || ((t && false) || (false && u)))
only_before true t u = refl
only_before false true u = refl
only_before false false u = refl

merge_test : (a b f s : ℕ) → eqb (merged s f a) (merged s f b) ≡ (eqb a b || ((eqb a f && eqb s b) || (eqb a s && eqb f b)))
merge_test a b f s = elim (cases_eq a s) [
  | inl at ↦ elim (cases_eq b s) [
    | inl bt ↦ rw (is_same a s at, is_same b s bt, is_same f f refl, is_same a b (at ∙ sym bt)) refl
    | inr bn ↦ rw (is_same a s at, is_other b s bn, is_other a b (λ e. bn (sym e ∙ at)), is_other s b (λ e. bn (sym e))) (only_last (eqb a f) (eqb f b))
  ]
  | inr an ↦ elim (cases_eq b s) [
    | inl bt ↦ rw (is_other a s an, is_same b s bt, is_other a b (λ e. an (e ∙ bt)), is_same s b (sym bt)) (only_first (eqb a f) (eqb f b))
    | inr bn ↦ rw (is_other a s an, is_other b s bn, is_other s b (λ e. bn (sym e))) (only_before (eqb a b) (eqb a f) (eqb f b))
  ]
]

pub labels_more : (bonds : List QueryBond) (bond : QueryBond) (old new : List ℕ) → AreEndsWithin (length old) bond → length new ≡ length old
    → ((i : ℕ) → i < length old → get_or new i 0 ≡ merged (get_or old (bond.second - 1) 0) (get_or old (bond.first - 1) 0) (get_or old i 0))
    → AreLabels bonds old → AreLabels (bond ∷ bonds) new
unfolding hang_together
labels_more bonds bond old new ends size each are i j below below' =
    let f : ℕ = bond.first - 1 in
    let s : ℕ = bond.second - 1 in
    let ff : f + 1 ≡ bond.first = omega (arith, ends.first) in
    let ss : s + 1 ≡ bond.second = omega (arith, ends.second) in
    let f_in : f < length old = omega (arith, ends.first) in
    let s_in : s < length old = omega (arith, ends.second) in
    let i_in : i < length old = omega arith in
    let j_in : j < length old = omega arith in
    rw (each i i_in, each j j_in)
    (merge_test (get_or old i 0) (get_or old j 0) (get_or old f 0) (get_or old s 0)
    ∙ rw (are i j i_in j_in, are i f i_in f_in, are s j s_in j_in, are i s i_in s_in, are f j f_in j_in, ff, ss) refl)

-- one bond more of those that are kept, from the last one on
pub labels_before : (p : QueryBond → Bool) (bonds : List QueryBond) (k j : ℕ) (d : QueryBond) (old new : List ℕ) → j + 1 ≡ k → k ≤ length bonds → p (get_or bonds j d) ≡ true
    → AreEndsWithin (length old) (get_or bonds j d) → length new ≡ length old
    → ((i : ℕ) → i < length old → get_or new i 0 ≡ merged (get_or old ((get_or bonds j d).second - 1) 0) (get_or old ((get_or bonds j d).first - 1) 0) (get_or old i 0))
    → AreLabels (filter p (drop k bonds)) old → AreLabels (filter p (drop j bonds)) new
labels_before p bonds k j d old new next up_to is ends size each are =
    let below : j < length bonds = omega arith in
    let behind : AreLabels (filter p (drop (j + 1) bonds)) old = rw next are in
    rw (drop_more bonds j d below, is) (labels_more (filter p (drop (j + 1) bonds)) (get_or bonds j d) old new ends size each behind)

-- and one that isn't kept
pub labels_past : (p : QueryBond → Bool) (bonds : List QueryBond) (k j : ℕ) (d : QueryBond) (labels : List ℕ) → j + 1 ≡ k → k ≤ length bonds → p (get_or bonds j d) ≡ false
    → AreLabels (filter p (drop k bonds)) labels → AreLabels (filter p (drop j bonds)) labels
labels_past p bonds k j d labels next up_to is are =
    let below : j < length bonds = omega arith in
    let behind : AreLabels (filter p (drop (j + 1) bonds)) labels = rw next are in
    rw (drop_more bonds j d below, is) behind
