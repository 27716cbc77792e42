-- Structural codes from the left.
--     law                 no structural code is a proper prefix of another
--     chooses_of, is_code_of     numbers choose at the slots of a template exactly where they are a structural code of it
--     standing_is         and the sites that stand are the same
use Rattle.std.proofs.Common.{◌≡◌, ℕ, zero, suc, ◌+◌, ◌<◌, ◌≤◌, Bool, true, false, cond, List, [], ◌∷◌, ◌++◌, length, refl, sym, ap, subst, ◌∙◌, arith, append_assoc, append-nil, length-append}
use Rattle.std.proofs.lemmas.Bool.Decides.{nat_tests}
use Rattle.mk_model.specs.declared.template.Slot.{Slot}
use Rattle.mk_model.specs.declared.template.Slot.TheVariants.{Link, Site}
use Rattle.mk_model.specs.Queries.{QueryView, slots_of}
use Rattle.mk_model.specs.Labels.{is_filled_by, members_at, member}
use Rattle.mk_model.specs.Codes.{Choice, IsChoice, IsCode, NoCodeBeginsAnother, spelling}
use Rattle.mk_model.specs.Codes.Choice.{done, repeated, unfilled, filled}
use Rattle.mk_model.specs.Logic.{Standing, standing_sites}
use Rattle.mk_model.specs.OpenSlots.{opened, standing_by, Chooses}

-- ---- a choice from the left

-- the number behind the members' leaves a site unfilled
opens_none : (query : QueryView) (slot : Slot) (n : ℕ) → n ≡ length (members_at query slot) + 1 → is_filled_by query slot n ≡ false
opens_none query slot n is = grind (arith, nat_tests)

-- a member's number fills it
opens_member : (query : QueryView) (slot : Slot) (k : ℕ) → k ≤ length (members_at query slot) → is_filled_by query slot k ≡ true
opens_member query slot k most = grind (arith, nat_tests)

-- the numbers of a choice choose at its slots, and what comes behind chooses at the others
pub walks : (query : QueryView) (slots : List Slot) (choice : Choice) (others : List Slot) (code : List ℕ)
    → IsChoice query slots choice → Chooses query others code → Chooses query (slots ++ others) (spelling choice ++ code)
walks query [] done others code is then = then
walks query [] (repeated n more) others code is then = absurd is
walks query [] (unfilled n more) others code is then = absurd is
walks query [] (filled k inside more) others code is then = absurd is
walks query (Link atom most from to ∷ slots) done others code is then = absurd is
walks query (Link atom most from to ∷ slots) (repeated n more) others code is then = (is.0, is.1, walks query slots more others code is.2 then)
walks query (Link atom most from to ∷ slots) (unfilled n more) others code is then = absurd is
walks query (Link atom most from to ∷ slots) (filled k inside more) others code is then = absurd is
walks query (Site atom groups first second ∷ slots) done others code is then = absurd is
walks query (Site atom groups first second ∷ slots) (repeated n more) others code is then = absurd is
walks query (Site atom groups first second ∷ slots) (unfilled n more) others code is then =
    (omega (arith, is.0), omega (arith, is.0), rw (opens_none query (Site atom groups first second) n is.0) (walks query slots more others code is.1 then))
walks query (Site atom groups first second ∷ slots) (filled k inside more) others code is then = (
  is.0,
  omega (arith, is.1),
  rw (opens_member query (Site atom groups first second) k is.1, append_assoc (spelling inside) (spelling more) code)
      (walks query (slots_of query (member query (Site atom groups first second) k)) inside (slots ++ others) (spelling more ++ code) is.2 (walks query slots more others code is.3 then)),
)

-- ---- a choice made of numbers

-- a choice at the first slots, and what the numbers behind it choose at the others
pub record IsCut (query : QueryView) (slots others : List Slot) (code : List ℕ) : Type 0 where
  pub choice : Choice
  pub made : IsChoice query slots choice
  pub rest : List ℕ
  pub rest_chooses : Chooses query others rest
  pub whole : spelling choice ++ rest ≡ code

-- where a number fills a site
by_member : (query : QueryView) (atom : ℕ) (groups : List ℕ) (first second k : ℕ) (slots others : List Slot) (code : List ℕ) (n : ℕ)
    → length code < n → 1 ≤ k → k ≤ length (members_at query (Site atom groups first second)) + 1
    → ((slots others : List Slot) (code : List ℕ) → length code < n → Chooses query (slots ++ others) code → IsCut query slots others code)
    → (b : Bool) → is_filled_by query (Site atom groups first second) k ≡ b → Chooses query (cond b (slots_of query (member query (Site atom groups first second) k)) [] ++ (slots ++ others)) code
    → IsCut query (Site atom groups first second ∷ slots) others (k ∷ code)
by_member query atom groups first second k slots others code n short least most cut true fills chooses =
    let inside = cut (slots_of query (member query (Site atom groups first second) k)) (slots ++ others) code short chooses in
    let shorter : length inside.rest < n = omega (arith, ap length inside.whole, length-append (spelling inside.choice) inside.rest) in
    let behind = cut slots others inside.rest shorter inside.rest_chooses in
    let below : k ≤ length (members_at query (Site atom groups first second)) = grind (arith, nat_tests) in
    record {
      choice = filled k inside.choice behind.choice;
      made = (least, below, inside.made, behind.made);
      rest = behind.rest;
      rest_chooses = behind.rest_chooses;
      whole = ap (λ (xs : List ℕ). k ∷ xs) (append_assoc (spelling inside.choice) (spelling behind.choice) behind.rest
          ∙ ap (λ (xs : List ℕ). spelling inside.choice ++ xs) behind.whole ∙ inside.whole);
    }
by_member query atom groups first second k slots others code n short least most cut false fills chooses =
    let behind = cut slots others code short chooses in
    let last : k ≡ length (members_at query (Site atom groups first second)) + 1 = grind (arith, nat_tests) in
    record {
      choice = unfilled k behind.choice;
      made = (last, behind.made);
      rest = behind.rest;
      rest_chooses = behind.rest_chooses;
      whole = ap (λ (xs : List ℕ). k ∷ xs) behind.whole;
    }

-- numbers that choose at some slots and others are a choice at the first, and choose at the others
cut_within : (n : ℕ) (query : QueryView) (slots others : List Slot) (code : List ℕ) → length code < n → Chooses query (slots ++ others) code → IsCut query slots others code
cut_within zero query slots others code short chooses = absurd (omega (arith, short))
cut_within (suc n) query [] others code short chooses = record { choice = done; made = tt; rest = code; rest_chooses = chooses; whole = refl }
cut_within (suc n) query (slot ∷ slots) others [] short chooses = absurd chooses
cut_within (suc n) query (Link atom most from to ∷ slots) others (k ∷ code) short chooses =
    let behind = cut_within n query slots others code (omega (arith, short)) chooses.2 in
    record {
      choice = repeated k behind.choice;
      made = (chooses.0, chooses.1, behind.made);
      rest = behind.rest;
      rest_chooses = behind.rest_chooses;
      whole = ap (λ (xs : List ℕ). k ∷ xs) behind.whole;
    }
cut_within (suc n) query (Site atom groups first second ∷ slots) others (k ∷ code) short chooses =
    by_member query atom groups first second k slots others code n (omega (arith, short)) chooses.0 chooses.1
    (λ slots' others' code' short' chooses'. cut_within n query slots' others' code' short' chooses') _ refl chooses.2

pub cut : (query : QueryView) (slots others : List Slot) (code : List ℕ) → Chooses query (slots ++ others) code → IsCut query slots others code
cut query slots others code chooses = cut_within (length code + 1) query slots others code (omega arith) chooses

-- only no numbers choose where no slot is
none_at_none : (query : QueryView) (code : List ℕ) → Chooses query [] code → code ≡ []
none_at_none query [] chooses = refl
none_at_none query (k ∷ code) chooses = absurd chooses

-- the numbers are a structural code
pub is_code_of : (query : QueryView) (t : ℕ) (code : List ℕ) → Chooses query (slots_of query t) code → IsCode query t code
is_code_of query t code chooses =
    let whole = cut query (slots_of query t) [] code (subst (λ (slots : List Slot). Chooses query slots code) (sym (append-nil (slots_of query t))) chooses) in
    let none = none_at_none query whole.rest whole.rest_chooses in
    record {
      choice = whole.choice;
      made = whole.made;
      spelt = sym (append-nil (spelling whole.choice)) ∙ ap (λ (xs : List ℕ). spelling whole.choice ++ xs) (sym none) ∙ whole.whole;
    }

-- and the other way round
pub chooses_of : (query : QueryView) (t : ℕ) (code : List ℕ) → IsCode query t code → Chooses query (slots_of query t) code
chooses_of query t code is =
    let whole = walks query (slots_of query t) is.choice [] [] is.made tt in
    rw (append-nil (slots_of query t), append-nil (spelling is.choice), is.spelt) at whole

-- ---- prefixes

-- where the first numbers are enough, no more follow
pub enough : (query : QueryView) (slots : List Slot) (code more : List ℕ) → Chooses query slots code → Chooses query slots (code ++ more) → more ≡ []
enough query [] [] more chooses longer = none_at_none query more longer
enough query [] (k ∷ code) more chooses longer = absurd chooses
enough query (slot ∷ slots) [] more chooses longer = absurd chooses
enough query (slot ∷ slots) (k ∷ code) more chooses longer = enough query (opened query slot k ++ slots) code more chooses.2 longer.2

pub law : NoCodeBeginsAnother
law query t code more is longer = enough query (slots_of query t) code more (chooses_of query t code is) (chooses_of query t (code ++ more) longer)

-- ---- the sites that stand

-- the sites of a choice stand in front of those behind it
pub standing_walks : (query : QueryView) (slots : List Slot) (choice : Choice) (others : List Slot) (code : List ℕ)
    → IsChoice query slots choice → standing_by query (slots ++ others) (spelling choice ++ code) ≡ standing_sites query slots choice ++ standing_by query others code
standing_walks query [] done others code is = refl
standing_walks query [] (repeated n more) others code is = absurd is
standing_walks query [] (unfilled n more) others code is = absurd is
standing_walks query [] (filled k inside more) others code is = absurd is
standing_walks query (Link atom most from to ∷ slots) done others code is = absurd is
standing_walks query (Link atom most from to ∷ slots) (repeated n more) others code is = standing_walks query slots more others code is.2
standing_walks query (Link atom most from to ∷ slots) (unfilled n more) others code is = absurd is
standing_walks query (Link atom most from to ∷ slots) (filled k inside more) others code is = absurd is
standing_walks query (Site atom groups first second ∷ slots) done others code is = absurd is
standing_walks query (Site atom groups first second ∷ slots) (repeated n more) others code is = absurd is
standing_walks query (Site atom groups first second ∷ slots) (unfilled n more) others code is =
    rw (opens_none query (Site atom groups first second) n is.0)
    (ap (λ (xs : List Standing). record { site = Site atom groups first second; number = n } ∷ xs)
    (standing_walks query slots more others code is.1))
standing_walks query (Site atom groups first second ∷ slots) (filled k inside more) others code is =
    rw (opens_member query (Site atom groups first second) k is.1, append_assoc (spelling inside) (spelling more) code)
    (ap (λ (xs : List Standing). record { site = Site atom groups first second; number = k } ∷ xs)
    (standing_walks query (slots_of query (member query (Site atom groups first second) k)) inside (slots ++ others) (spelling more ++ code) is.2
    ∙ ap (λ (xs : List Standing). standing_sites query (slots_of query (member query (Site atom groups first second) k)) inside ++ xs) (standing_walks query slots more others code is.3)
    ∙ sym (append_assoc (standing_sites query (slots_of query (member query (Site atom groups first second) k)) inside) (standing_sites query slots more) (standing_by query others code))))

-- the sites of a choice at the slots of a template
pub standing_is : (query : QueryView) (slots : List Slot) (choice : Choice) → IsChoice query slots choice → standing_by query slots (spelling choice) ≡ standing_sites query slots choice
standing_is query slots choice is =
    let whole = standing_walks query slots choice [] [] is in
    rw (append-nil slots, append-nil (spelling choice), append-nil (standing_sites query slots choice)) at whole
