-- What stands for atoms, by the numbers of the slots that take them.
--     stand_is       what stands for an atom is what stands where its slot's number says
--     far_is         an end is far where the slot that takes the atom says so
--     in_block_is    one slot takes both ends of a bond exactly where they are in one block
use Rattle.std.proofs.Common.{◌≡◌, ◌∙◌, ℕ, zero, suc, ◌+◌, ◌-◌, ◌<◌, ◌≤◌, inr, Bool, true, false, cond, ◌&&◌, ◌||◌, not, eqb, List, [], ◌∷◌, length, get_or, refl, sym, ap, subst, arith}
use Rattle.std.specs.Prelude.{Contains}
use Rattle.std.specs.List.{list_any}
use Rattle.std.proofs.lemmas.Bool.Decides.{nat_tests}
use Rattle.std.proofs.lemmas.List.Elements.{All-contains, Contains-get_or}
use Rattle.std.proofs.lemmas.List.Folds.{list_any_at}
use Rattle.mk_model.specs.declared.template.QueryBond.{QueryBond}
use Rattle.mk_model.specs.declared.template.Slot.{Slot}
use Rattle.mk_model.specs.declared.template.Slot.TheVariants.{Link, Site}
use Rattle.mk_model.specs.Codes.{Choice}
use Rattle.mk_model.specs.Expansions.{is_inside, template_of}
use Rattle.mk_model.specs.Pieces.{is_far, is_far_of, taker, taker_from}
use Rattle.mk_model.specs.Queries.{QueryView, slots_of}
use Rattle.mk_model.specs.QueryFits.{HoldsItsBlock}
use Rattle.mk_model.specs.Sizes.{takes_atom}
use Rattle.mk_model.specs.Templates.{TemplateView, bonds_without, hang_together, is_in_block, slot_atom}
use Rattle.mk_model.proofs.ForCallers.{at_place, hangs_same, hangs_tested, one_block}
use Rattle.mk_pieces.specs.Kept.{IsTemplate}
use Rattle.mk_pieces.specs.Names.{Stand, is_in_one_block, stand, stand_among, stands_of}
use Rattle.mk_pieces.specs.Names.Stand.{Times}
use Rattle.mk_pieces.specs.Rooms.{IsWithin}
use Rattle.mk_pieces.proofs.TakerLemmas.{from_first, taker_is_slot, taker_of_slot}

-- ---- what stands

-- what stands where slot number k takes an atom; one copy where there is no slot
abbrev pub stand_numbered : List Stand → ℕ → Stand
stand_numbered stands zero = Times 1
stand_numbered stands (suc k) = get_or stands k (Times 1)

numbered_at : (all : List Stand) (k : ℕ) → 1 ≤ k → stand_numbered all k ≡ get_or all (k - 1) (Times 1)
numbered_at all zero least = absurd (omega arith)
numbered_at all (suc k) least = (let same : k ≡ suc k - 1 = omega arith in ap (λ (n : ℕ). get_or all n (Times 1)) same)

none_among : (template : TemplateView) (x : ℕ) (slots : List Slot) → stand_among template x slots [] ≡ Times 1
none_among template x [] = refl
none_among template x (slot ∷ slots) = refl

-- the first of the slots that takes the atom, and the place of what stands for it
among_is : (template : TemplateView) (x k : ℕ) (slots : List Slot) (stands all : List Stand) → 1 ≤ k → ((i : ℕ) → get_or all (k - 1 + i) (Times 1) ≡ get_or stands i (Times 1))
    → stand_among template x slots stands ≡ stand_numbered all (taker_from template k slots x)
among_is template x k [] stands all least are = refl
among_is template x k (slot ∷ slots) [] all least are =
    by (takes_atom template x slot) (sym (none_among template x slots) ∙ among_is template x (k + 1) slots [] all (omega arith)
    (λ i. (let same : k + 1 - 1 + i ≡ k - 1 + suc i = omega arith in ap (λ (n : ℕ). get_or all n (Times 1)) same ∙ are (suc i))))
  where
    by : (b : Bool) → Times 1 ≡ stand_numbered all (taker_from template (k + 1) slots x) → Times 1 ≡ stand_numbered all (cond b k (taker_from template (k + 1) slots x))
    by true later = (let same : k - 1 ≡ k - 1 + 0 = omega arith in sym (numbered_at all k least ∙ ap (λ (n : ℕ). get_or all n (Times 1)) same ∙ are 0))
    by false later = later
among_is template x k (slot ∷ slots) (s ∷ stands) all least are =
    by (takes_atom template x slot) (among_is template x (k + 1) slots stands all (omega arith)
    (λ i. (let same : k + 1 - 1 + i ≡ k - 1 + suc i = omega arith in ap (λ (n : ℕ). get_or all n (Times 1)) same ∙ are (suc i))))
  where
    by : (b : Bool) → stand_among template x slots stands ≡ stand_numbered all (taker_from template (k + 1) slots x)
        → cond b s (stand_among template x slots stands) ≡ stand_numbered all (cond b k (taker_from template (k + 1) slots x))
    by true later = (let same : k - 1 ≡ k - 1 + 0 = omega arith in sym (numbered_at all k least ∙ ap (λ (n : ℕ). get_or all n (Times 1)) same ∙ are 0))
    by false later = later

pub stand_is : (query : QueryView) (t : ℕ) (choice : Choice) (x : ℕ) → stand query t choice x ≡ stand_numbered (stands_of query (slots_of query t) choice) (taker (template_of query t) x)
unfolding stand taker
stand_is query t choice x =
    among_is (template_of query t) x 1 (template_of query t).slots (stands_of query (slots_of query t) choice) (stands_of query (slots_of query t) choice) (omega arith)
    (λ i. (let same : 1 - 1 + i ≡ i = omega arith in ap (λ (n : ℕ). get_or (stands_of query (slots_of query t) choice) n (Times 1)) same))

-- ---- tests that agree

same_truth : (a b : Bool) → (a ≡ true → b ≡ true) → (b ≡ true → a ≡ true) → a ≡ b
same_truth true true forth back = refl
same_truth true false forth back = sym (forth refl)
same_truth false true forth back = back refl
same_truth false false forth back = refl

-- the slot that passes a test
found_slot : (p : Slot → Bool) (slots : List Slot) → list_any p slots ≡ true → (k : ℕ) × (k < length slots) × (p (get_or slots k (Link 0 0 0 0)) ≡ true)
found_slot p [] is = absurd cc
found_slot p (slot ∷ slots) is = by (p slot) refl is (found_slot p slots)
  where
    by : (b : Bool) → p slot ≡ b → (b || list_any p slots) ≡ true → (list_any p slots ≡ true → (k : ℕ) × (k < length slots) × (p (get_or slots k (Link 0 0 0 0)) ≡ true))
        → (k : ℕ) × (k < length (slot ∷ slots)) × (p (get_or (slot ∷ slots) k (Link 0 0 0 0)) ≡ true)
    by true e any later = (0, omega arith, e)
    by false e any later = (let found = later any in (suc found.0, (let below = found.1 in omega arith), found.2))

both_parts : (a b : Bool) → (a && b) ≡ true → (a ≡ true) × (b ≡ true)
both_parts true true is = (refl, refl)
both_parts true false is = absurd cc
both_parts false b is = absurd cc

pub own_only : (a y : ℕ) → (eqb a y || false) ≡ true → a ≡ y
own_only a y is = by (eqb a y) refl is
  where
    by : (b : Bool) → eqb a y ≡ b → (b || false) ≡ true → a ≡ y
    by true e is' = grind (arith, nat_tests)
    by false e is' = absurd cc

-- ---- far ends

far_stands : (slot : Slot) (x y : ℕ) → is_far slot x y ≡ true → slot_atom slot ≡ x
far_stands (Link atom most from to) x y is = (let e = (both_parts (eqb atom x) (eqb to y) is).0 in grind (arith, nat_tests))
far_stands (Site atom groups first second) x y is = (let e = (both_parts (eqb atom x) (eqb second y) is).0 in grind (arith, nat_tests))

pub far_is : (template : TemplateView) → IsTemplate template → (x y : ℕ) → list_any (λ slot. is_far slot x y) template.slots ≡ is_far_of template.slots (taker template x) x y
far_is template kept x y = same_truth (list_any (λ slot. is_far slot x y) template.slots) (is_far_of template.slots (taker template x) x y) forth (back (taker template x) refl)
  where
    forth : list_any (λ slot. is_far slot x y) template.slots ≡ true → is_far_of template.slots (taker template x) x y ≡ true
    forth any =
        let found = found_slot (λ slot. is_far slot x y) template.slots any in
        let stands = far_stands (get_or template.slots found.0 (Link 0 0 0 0)) x y found.2 in
        let number : taker template x ≡ suc found.0 = ap (taker template) (sym stands) ∙ taker_of_slot template kept found.0 (Link 0 0 0 0) found.1 in
        rw (number, at_place template.slots found.0 (Link 0 0 0 0) found.1) found.2

    back : (n : ℕ) → taker template x ≡ n → is_far_of template.slots (taker template x) x y ≡ true → list_any (λ slot. is_far slot x y) template.slots ≡ true
    back zero is far = absurd (let no : is_far_of template.slots 0 x y ≡ true = subst (λ (n : ℕ). is_far_of template.slots n x y ≡ true) is far in cc)
    back (suc k) is far =
        let found = taker_is_slot template x k is in
        let here : is_far_of template.slots (suc k) x y ≡ true = subst (λ (n : ℕ). is_far_of template.slots n x y ≡ true) is far in
        list_any_at (λ slot. is_far slot x y) template.slots k (Link 0 0 0 0) found.within (rw (at_place template.slots k (Link 0 0 0 0) found.within) at here)

-- ---- blocks

-- a link takes the atoms of its block
link_takes : (template : TemplateView) (atom most from to x : ℕ) → takes_atom template x (Link atom most from to) ≡ true → is_in_block template (Link atom most from to) x ≡ true
link_takes template atom most from to x takes = by (eqb atom x) refl takes
  where
    by : (b : Bool) → eqb atom x ≡ b → (b || is_in_block template (Link atom most from to) x) ≡ true → is_in_block template (Link atom most from to) x ≡ true
    by false e is = is
    by true e is =
        let same : atom ≡ x = grind (arith, nat_tests) in
        let own : hang_together (bonds_without (Link atom most from to) template.bonds) atom atom ≡ true = hangs_tested _ atom atom (hangs_same _ atom) in
        subst (λ (y : ℕ). is_in_block template (Link atom most from to) y ≡ true) same own

takes_block : (template : TemplateView) (slot : Slot) (x : ℕ) → is_in_block template slot x ≡ true → takes_atom template x slot ≡ true
takes_block template slot x is = rw is (by (eqb (slot_atom slot) x))
  where
    by : (b : Bool) → (b || true) ≡ true
    by true = refl
    by false = refl

module _ (template : TemplateView) (kept : IsTemplate template) where
  -- a slot in front of a link takes no atom of its block
  never_both : (one other : Slot) (x : ℕ) → Contains template.slots one → Contains template.slots other → slot_atom one < slot_atom other
      → takes_atom template x one ≡ true → is_in_block template other x ≡ true → ⊥
  never_both one (Site a g f o) x at at' up takes there = absurd cc
  never_both (Site atom groups first second) (Link a m f o) x at at' up takes there =
      let same : atom ≡ x = own_only atom x takes in
      let closed = All-contains (HoldsItsBlock template) template.slots (Link a m f o) kept.blocks_closed at' in
      let marked : x ≡ a = (closed x there).2 (inr (Site atom groups first second, at, same)) in
      omega (arith, same, marked, up)
  never_both (Link atom most from to) (Link a m f o) x at at' up takes there =
      one_block template kept.blocks_closed atom most from to a m f o x at at' (link_takes template atom most from to x takes) there (λ same. omega (arith, same, up))

  not_before : (i k x : ℕ) → i < k → k < length template.slots → is_in_block template (get_or template.slots k (Link 0 0 0 0)) x ≡ true
      → takes_atom template x (get_or template.slots i (Link 0 0 0 0)) ≡ false
  not_before i k x less below inside = by (takes_atom template x (get_or template.slots i (Link 0 0 0 0))) refl
    where
      by : (b : Bool) → takes_atom template x (get_or template.slots i (Link 0 0 0 0)) ≡ b → takes_atom template x (get_or template.slots i (Link 0 0 0 0)) ≡ false
      by false e = e
      by true e =
          absurd (never_both (get_or template.slots i (Link 0 0 0 0)) (get_or template.slots k (Link 0 0 0 0)) x (Contains-get_or template.slots i (Link 0 0 0 0) (omega arith))
          (Contains-get_or template.slots k (Link 0 0 0 0) below) (kept.slots_rise i k (Link 0 0 0 0) less below) e inside)

  -- the slot that takes an atom of a block is its link
  block_taker : (k x : ℕ) → k < length template.slots → is_in_block template (get_or template.slots k (Link 0 0 0 0)) x ≡ true → taker template x ≡ suc k
  unfolding taker
  block_taker k x below inside =
      let first = from_first template 1 template.slots x k (Link 0 0 0 0) below (takes_block template (get_or template.slots k (Link 0 0 0 0)) x inside)
      (λ i less. not_before i k x less below inside) in
      first ∙ omega arith

  -- one slot takes both ends of a bond exactly where they are in one block
  pub in_block_is : (bond : QueryBond) → IsWithin template bond → is_in_one_block template bond ≡ is_inside template bond
  in_block_is bond within = same_truth (is_in_one_block template bond) (is_inside template bond) forth (back (taker template bond.first) refl)
    where
      forth : is_in_one_block template bond ≡ true → is_inside template bond ≡ true
      forth any =
          let found = found_slot (λ slot. is_in_block template slot bond.first && is_in_block template slot bond.second) template.slots any in
          let parts = both_parts (is_in_block template (get_or template.slots found.0 (Link 0 0 0 0)) bond.first)
          (is_in_block template (get_or template.slots found.0 (Link 0 0 0 0)) bond.second) found.2 in
          let one = block_taker found.0 bond.first found.1 parts.0 in
          let other = block_taker found.0 bond.second found.1 parts.1 in
          let same : eqb (suc found.0) (suc found.0) ≡ true = grind (arith, nat_tests) in
          let some : eqb (suc found.0) 0 ≡ false = grind (arith, nat_tests) in
          rw (one, other, same, some) refl

      both_taken : (s u : ℕ) → (not (eqb s 0) && eqb s u) ≡ true → s ≡ u
      both_taken s u is = (let e = (both_parts (not (eqb s 0)) (eqb s u) is).1 in grind (arith, nat_tests))

      by_slot : (k : ℕ) (slot : Slot) → k < length template.slots → get_or template.slots k (Link 0 0 0 0) ≡ slot → takes_atom template bond.first slot ≡ true
          → takes_atom template bond.second slot ≡ true
          → is_in_one_block template bond ≡ true
      by_slot k (Site a g f o) below is one other = absurd (within.differ (sym (own_only a bond.first one) ∙ own_only a bond.second other))
      by_slot k (Link a m f o) below is one other =
          let inside : is_in_block template (get_or template.slots k (Link 0 0 0 0)) bond.first && is_in_block template (get_or template.slots k (Link 0 0 0 0)) bond.second ≡ true =
          rw (is, link_takes template a m f o bond.first one, link_takes template a m f o bond.second other) refl in
          list_any_at (λ slot. is_in_block template slot bond.first && is_in_block template slot bond.second) template.slots k (Link 0 0 0 0) below inside

      back : (n : ℕ) → taker template bond.first ≡ n → is_inside template bond ≡ true → is_in_one_block template bond ≡ true
      back zero is inside = absurd (let no : (not (eqb 0 0) && eqb 0 (taker template bond.second)) ≡ true =
          subst (λ (n : ℕ). (not (eqb n 0) && eqb n (taker template bond.second)) ≡ true) is inside in cc)
      back (suc k) is inside =
          let same : taker template bond.first ≡ taker template bond.second = both_taken (taker template bond.first) (taker template bond.second) inside in
          let one = taker_is_slot template bond.first k is in
          let other = taker_is_slot template bond.second k (sym same ∙ is) in
          by_slot k (get_or template.slots k (Link 0 0 0 0)) one.within refl (one.takes (Link 0 0 0 0)) (other.takes (Link 0 0 0 0))
