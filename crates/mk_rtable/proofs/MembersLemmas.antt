-- The members of a choice, number by number.
--     taken                           what a number takes of a choice
--     puts_none .. puts_more          members are put behind others, slot by slot
--     behind_none .. behind_more      what stands behind a choice
--     members_put                     the members of all slots of the root
--     on_ok, if_ok                    what holds of an answer, in other words
use Rattle.std.proofs.Common.{◌≡◌, ℕ, ◌+◌, ◌≤◌, nat_le, true, false, List, [], ◌∷◌, ◌++◌, length, Result, Ok, Err, refl, sym, ap, ◌∙◌, arith, append_assoc, append-nil}
use Rattle.std.specs.Prelude.{IfOk, OnOk}
use Rattle.std.proofs.lemmas.Bool.Decides.{nat_tests}
use Rattle.mk_model.specs.declared.template.Slot.{Slot}
use Rattle.mk_model.specs.declared.template.Slot.TheVariants.{Link, Site}
use Rattle.mk_model.specs.Codes.{Choice, IsChoice, spelling}
use Rattle.mk_model.specs.Codes.Choice.{done, repeated, unfilled, filled}
use Rattle.mk_model.specs.Labels.{is_filled_by, member, members_at}
use Rattle.mk_model.specs.OpenSlots.{opened}
use Rattle.mk_model.specs.Queries.{QueryView, slots_of}
use Rattle.mk_rtable.specs.Members.{AreMembersOfFront, IsBehindChoice, PutsMembers, chosen_members, member_at}

-- the number behind the members fills no site
fills_none : (k most : ℕ) → k ≡ most + 1 → nat_le k most ≡ false
fills_none k most is = grind (arith, nat_tests)

-- and one up to their number does
fills_one : (k most : ℕ) → k ≤ most → nat_le k most ≡ true
fills_one k most few = grind (arith, nat_tests)

module _ (query : QueryView) where
  -- a choice at some slots begins with a number from 1 on
  pub record BeginsWith (choice : Choice) : Type 0 where
    pub number : ℕ
    pub code : List ℕ
    pub some : 1 ≤ number
    pub spelt : spelling choice ≡ number ∷ code

  begins_with : (slot : Slot) (slots : List Slot) (choice : Choice) → IsChoice query (slot ∷ slots) choice → BeginsWith choice
  begins_with (Link atom most from to) slots done made = absurd made
  begins_with (Link atom most from to) slots (repeated n others) made = record { number = n; code = spelling others; some = made.0; spelt = refl }
  begins_with (Link atom most from to) slots (unfilled n others) made = absurd made
  begins_with (Link atom most from to) slots (filled k inside others) made = absurd made
  begins_with (Site atom groups first second) slots done made = absurd made
  begins_with (Site atom groups first second) slots (repeated n others) made = absurd made
  begins_with (Site atom groups first second) slots (unfilled n others) made = record { number = n; code = spelling others; some = omega (arith, made.0); spelt = refl }
  begins_with (Site atom groups first second) slots (filled k inside others) made = record { number = k; code = spelling inside ++ spelling others; some = made.0; spelt = refl }

  -- so no choice at some slots begins with 0, or with nothing
  begins_not_empty : (slot : Slot) (slots : List Slot) (choice : Choice) (back : List ℕ) → IsChoice query (slot ∷ slots) choice → [] ≡ spelling choice ++ back → ⊥
  begins_not_empty slot slots choice back made e =
      let b = begins_with slot slots choice made in
      let whole : [] ≡ b.number ∷ (b.code ++ back) = e ∙ ap (λ (zs : List ℕ). zs ++ back) b.spelt in
      cc

  begins_not_zero : (slot : Slot) (slots : List Slot) (choice : Choice) (n : ℕ) (rest back : List ℕ) → IsChoice query (slot ∷ slots) choice → n ≡ 0 → n ∷ rest ≡ spelling choice ++ back → ⊥
  begins_not_zero slot slots choice n rest back made none e =
      let b = begins_with slot slots choice made in
      let whole : n ∷ rest ≡ b.number ∷ (b.code ++ back) = e ∙ ap (λ (zs : List ℕ). zs ++ back) b.spelt in
      let same : n ≡ b.number = cc in
      omega (arith, b.some, same, none)

  -- what a number takes of a choice: the slot's member, where it is a site, and what it opens there
  pub record IsTaken (slot : Slot) (slots : List Slot) (number : ℕ) (behind : List ℕ) (choice : Choice) (back : List ℕ) : Type 0 where
    pub others : Choice
    pub made : IsChoice query slots others
    pub left : behind ≡ spelling others ++ back
    pub chosen : chosen_members choice ≡ member_at query slot number ++ chosen_members others

  pub taken : (slot : Slot) (slots : List Slot) (number : ℕ) (rest behind : List ℕ) → IsBehindChoice query (opened query slot number) rest behind
      → (choice : Choice) (back : List ℕ) → IsChoice query (slot ∷ slots) choice → number ∷ rest ≡ spelling choice ++ back
      → IsTaken slot slots number behind choice back
  taken (Link atom most from to) slots number rest behind is done back made e = absurd made
  taken (Link atom most from to) slots number rest behind is (repeated n others) back made e = record {
    others = others;
    made = made.2;
    left = is done rest tt refl ∙ (let whole : number ∷ rest ≡ n ∷ (spelling others ++ back) = e in cc);
    chosen = refl;
  }
  taken (Link atom most from to) slots number rest behind is (unfilled n others) back made e = absurd made
  taken (Link atom most from to) slots number rest behind is (filled k inside others) back made e = absurd made
  taken (Site atom groups first second) slots number rest behind is done back made e = absurd made
  taken (Site atom groups first second) slots number rest behind is (repeated n others) back made e = absurd made
  taken (Site atom groups first second) slots number rest behind is (unfilled n others) back made e = record {
    others = others;
    made = made.1;
    left = none_opened done rest tt refl ∙ rest_is;
    chosen = rw not refl;
  }
    where
      whole : number ∷ rest ≡ n ∷ (spelling others ++ back)
      whole = e

      same : number ≡ n
      same = (let w = whole in cc)

      rest_is : rest ≡ spelling others ++ back
      rest_is = (let w = whole in cc)

      not : is_filled_by query (Site atom groups first second) number ≡ false
      not = fills_none number (length (members_at query (Site atom groups first second))) (same ∙ made.0)

      none_opened : IsBehindChoice query [] rest behind
      none_opened = rw not at is
  taken (Site atom groups first second) slots number rest behind is (filled k inside others) back made e = record {
    others = others;
    made = made.3;
    left = opened_inside inside (spelling others ++ back) made.2 (rest_is ∙ append_assoc (spelling inside) (spelling others) back);
    chosen = rw (yes', same) refl;
  }
    where
      whole : number ∷ rest ≡ k ∷ ((spelling inside ++ spelling others) ++ back)
      whole = e

      same : number ≡ k
      same = (let w = whole in cc)

      rest_is : rest ≡ (spelling inside ++ spelling others) ++ back
      rest_is = (let w = whole in cc)

      yes' : is_filled_by query (Site atom groups first second) number ≡ true
      yes' = rw same (fills_one k (length (members_at query (Site atom groups first second))) made.1)

      opened_inside : IsBehindChoice query (slots_of query (member query (Site atom groups first second) k)) rest behind
      opened_inside = rw (yes', same) at is

  -- ---- members behind others

  pub puts_none : (numbers old : List ℕ) → PutsMembers query [] numbers old old
  puts_none numbers old done back made e = sym (append-nil old)
  puts_none numbers old (repeated n others) back made e = absurd made
  puts_none numbers old (unfilled n others) back made e = absurd made
  puts_none numbers old (filled k inside others) back made e = absurd made

  pub puts_nothing : (slot : Slot) (slots : List Slot) (old new : List ℕ) → PutsMembers query (slot ∷ slots) [] old new
  puts_nothing slot slots old new choice back made e = absurd (begins_not_empty slot slots choice back made e)

  pub puts_zero : (slot : Slot) (slots : List Slot) (n : ℕ) (rest old new : List ℕ) → n ≡ 0 → PutsMembers query (slot ∷ slots) (n ∷ rest) old new
  puts_zero slot slots n rest old new none choice back made e = absurd (begins_not_zero slot slots choice n rest back made none e)

  pub puts_more : (slot : Slot) (slots : List Slot) (n : ℕ) (rest behind old now new : List ℕ) → now ≡ old ++ member_at query slot n
      → IsBehindChoice query (opened query slot n) rest behind → PutsMembers query slots behind now new
      → PutsMembers query (slot ∷ slots) (n ∷ rest) old new
  puts_more slot slots n rest behind old now new put is puts choice back made e =
      let t = taken slot slots n rest behind is choice back made e in
      puts t.others back t.made t.left ∙ ap (λ (zs : List ℕ). zs ++ chosen_members t.others) put
      ∙ append_assoc old (member_at query slot n) (chosen_members t.others)
      ∙ ap (λ (zs : List ℕ). old ++ zs) (sym t.chosen)

  -- ---- what stands behind a choice

  pub behind_none : (numbers : List ℕ) → IsBehindChoice query [] numbers numbers
  behind_none numbers done back made e = e
  behind_none numbers (repeated n others) back made e = absurd made
  behind_none numbers (unfilled n others) back made e = absurd made
  behind_none numbers (filled k inside others) back made e = absurd made

  pub behind_nothing : (slot : Slot) (slots : List Slot) (behind : List ℕ) → IsBehindChoice query (slot ∷ slots) [] behind
  behind_nothing slot slots behind choice back made e = absurd (begins_not_empty slot slots choice back made e)

  pub behind_zero : (slot : Slot) (slots : List Slot) (n : ℕ) (rest behind : List ℕ) → n ≡ 0 → IsBehindChoice query (slot ∷ slots) (n ∷ rest) behind
  behind_zero slot slots n rest behind none choice back made e = absurd (begins_not_zero slot slots choice n rest back made none e)

  pub behind_more : (slot : Slot) (slots : List Slot) (n : ℕ) (rest inside behind : List ℕ) → IsBehindChoice query (opened query slot n) rest inside
      → IsBehindChoice query slots inside behind → IsBehindChoice query (slot ∷ slots) (n ∷ rest) behind
  behind_more slot slots n rest inside behind is its choice back made e =
      let t = taken slot slots n rest inside is choice back made e in
      its t.others back t.made t.left

  -- ---- the root

  pub members_put : (numbers members : List ℕ) → PutsMembers query (slots_of query 0) numbers [] members → AreMembersOfFront query numbers members
  members_put numbers members puts code back is whole = record {
    of = is;
    are = puts is.choice back is.made (whole ∙ ap (λ (zs : List ℕ). zs ++ back) (sym is.spelt));
  }

-- ---- answers

-- what stands after an answer, in other words
pub on_ok : {A E : Type 0} (r : Result A E) (P Q : Type 0) → (P → Q) → OnOk r P → OnOk r Q
on_ok (Ok x) P Q to is = to is
on_ok (Err e) P Q to is = tt

-- what holds of an answer, in other words
pub if_ok : {A E : Type 0} (r : Result A E) (P Q : A → Type 0) → ((x : A) → P x → Q x) → IfOk r P → IfOk r Q
if_ok (Ok x) P Q to is = to x is
if_ok (Err e) P Q to is = tt
