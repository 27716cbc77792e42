-- The example of docs/MEANING.md, computed: `[C R# R# | 1-2 1-3]` with the groups 1 and 2, of which group 1 asks for group 2 where it is
-- filled. Its valid codes are 1 1, 2 1 and 2 2.
use Rattle.std.proofs.Common.{◌≡◌, ℕ, ◌+◌, ◌*◌, inl, inr, List, [], ◌∷◌, None, refl, subst, arith}
use Rattle.std.specs.Prelude.{false, true}
use Rattle.mk_text.specs.Rising.{Holds, IsBelow, IsLeast, IsLeastFrom, IsRisingListOfAll}
use Rattle.mk_model.specs.declared.template.Slot.TheVariants.{Link, Site}
use Rattle.mk_model.specs.Labels.{joint_members}
use Rattle.mk_model.specs.Logic.{IsValid}
use Rattle.mk_model.specs.PlainCodes.{is_allowed_code, valid_codes}
use Rattle.mk_model.proofs.ForCallers.{valid_codes_listed as law}
use Rattle.mk_model.proofs.OnLiterals.{group, plain_group, range, single, then_query, two_labels, two_sites}
use Rattle.mk_choice.specs.Bounds.{most_filled_at}
use Rattle.mk_choice.specs.Frames.{from_at}
use Rattle.mk_choice.specs.Search.{borne}
use Rattle.mk_choice.proofs.ExampleFits.{fits}

-- ---- frames

-- what is still to come goes on behind the numbers with one above the last that was tried
goes_on_above : from_at false (1 ∷ []) 1 ≡ 1 ∷ 2 ∷ []
goes_on_above = refl

-- or it begins with the numbers themselves
begins_with_themselves : from_at true (1 ∷ 2 ∷ []) 0 ≡ 1 ∷ 2 ∷ []
begins_with_themselves = refl

-- ---- several labels

-- of a site's labels that one counts by which group 5 is filled most often
most_of_two : most_filled_at (λ h g. h * 10 + g) 5 (Site 2 (1 ∷ 3 ∷ []) 1 0) ≡ 35
most_of_two = refl

-- and a link has none
most_of_link : most_filled_at (λ h g. h * 10 + g) 5 (Link 2 3 1 3) ≡ 0
most_of_link = refl

-- a site is one of each of its labels, once
borne_once : borne (1 ∷ 3 ∷ []) 3 ≡ 1
borne_once = refl

not_borne : borne (1 ∷ 3 ∷ []) 2 ≡ 0
not_borne = refl

-- `[C R# | 1-2]` with the labels 1 and 2, whose members have the numbers 1 and 3, and 2: where group 2 is filled once, the second stands
second_label_once : valid_codes (two_labels 0 (range 0 1) 0 (range 1 1)) ≡ (2 ∷ []) ∷ []
unfolding two_labels plain_group group range single joint_members valid_codes is_allowed_code
second_label_once = refl

-- IF R2 THEN R1, where group 1 stays unfilled: its members stand where group 2 doesn't ask
second_asks : valid_codes (two_labels 0 (range 0 0) 1 (range 0 1)) ≡ (1 ∷ []) ∷ (2 ∷ []) ∷ (3 ∷ []) ∷ (4 ∷ []) ∷ []
unfolding two_labels plain_group group range single joint_members valid_codes is_allowed_code
second_asks = refl

-- ---- the codes from a front on

-- with the fluorine the chlorine has to stand; without it it may
valid : valid_codes then_query ≡ (1 ∷ 1 ∷ []) ∷ (2 ∷ 1 ∷ []) ∷ (2 ∷ 2 ∷ []) ∷ []
unfolding then_query two_sites plain_group group range single valid_codes is_allowed_code joint_members
valid = refl

-- these are the valid codes
listed : IsRisingListOfAll (IsValid then_query) ((1 ∷ 1 ∷ []) ∷ (2 ∷ 1 ∷ []) ∷ (2 ∷ 2 ∷ []) ∷ [])
listed = subst (IsRisingListOfAll (IsValid then_query)) valid (law then_query fits)

-- a code is one of the three
one_of : (P : List ℕ → Type 0) → P (1 ∷ 1 ∷ []) → P (2 ∷ 1 ∷ []) → P (2 ∷ 2 ∷ []) → (code : List ℕ) → IsValid then_query code → P code
one_of P a b c code is = by_place (listed.all code is)
  where
    by_place : Holds ((1 ∷ 1 ∷ []) ∷ (2 ∷ 1 ∷ []) ∷ (2 ∷ 2 ∷ []) ∷ []) code → P code
    by_place (inl same) = subst P same a
    by_place (inr (inl same)) = subst P same b
    by_place (inr (inr (inl same))) = subst P same c
    by_place (inr (inr (inr none))) = elim none [ ]

-- the first of all
from_the_start : IsLeast [] (IsValid then_query) (1 ∷ 1 ∷ [])
from_the_start = record {
  has = listed.each (1 ∷ 1 ∷ []) (inl refl);
  from = λ below. below;
  least = λ other is not under. one_of (λ code. IsBelow code (1 ∷ 1 ∷ []) → ⊥) (λ b. omega (arith, b)) (λ b. omega (arith, b)) (λ b. omega (arith, b)) other is under;
}

-- a front that isn't valid itself
from_1_2 : IsLeast (1 ∷ 2 ∷ []) (IsValid then_query) (2 ∷ 1 ∷ [])
from_1_2 = record {
  has = listed.each (2 ∷ 1 ∷ []) (inr (inl refl));
  from = λ below. omega (arith, below);
  least = λ other is not under.
      one_of (λ code. (IsBelow code (1 ∷ 2 ∷ []) → ⊥) → IsBelow code (2 ∷ 1 ∷ []) → ⊥)
      (λ n b. n (inr (refl, inl (omega arith)))) (λ n b. omega (arith, b)) (λ n b. omega (arith, b)) other is not under;
}

-- the place behind a code
from_2_1_0 : IsLeast (2 ∷ 1 ∷ 0 ∷ []) (IsValid then_query) (2 ∷ 2 ∷ [])
from_2_1_0 = record {
  has = listed.each (2 ∷ 2 ∷ []) (inr (inr (inl refl)));
  from = λ below. omega (arith, below);
  least = λ other is not under.
      one_of (λ code. (IsBelow code (2 ∷ 1 ∷ 0 ∷ []) → ⊥) → IsBelow code (2 ∷ 2 ∷ []) → ⊥)
      (λ n b. n (inl (omega arith))) (λ n b. n (inr (refl, inr (refl, tt)))) (λ n b. omega (arith, b)) other is not under;
}

-- behind the last one there is none
from_2_2_0 : IsLeastFrom (2 ∷ 2 ∷ 0 ∷ []) (IsValid then_query) None
from_2_2_0 other is not =
    one_of (λ code. (IsBelow code (2 ∷ 2 ∷ 0 ∷ []) → ⊥) → ⊥)
    (λ n. n (inl (omega arith))) (λ n. n (inr (refl, inl (omega arith)))) (λ n. n (inr (refl, inr (refl, tt)))) other is not
