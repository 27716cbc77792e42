-- The members of the groups of a raw query.
--     member_between       the members of a group are members of the query
--     members_rise         they rise
--     one_group            and each is in one group
--     members_total        all groups together have as many as the query
use Rattle.std.proofs.Common.{◌≡◌, ℕ, zero, suc, ◌+◌, ◌-◌, ◌<◌, ◌≤◌, Bool, true, false, cond, List, [], ◌∷◌, ◌++◌, Some, refl, sym, ap, ◌∙◌, ⊎_elim, ◌⊎◌, inl, inr, arith, length, get_or, sum_by, All}
use Rattle.std.specs.Prelude.{◌==◌, AllPairs, Contains, slice_get}
use Rattle.std.specs.List.{range_with_len}
use Rattle.std.proofs.lemmas.Bool.{cases_lt}
use Rattle.std.proofs.lemmas.Bool.Decides.{nat_tests}
use Rattle.std.proofs.lemmas.List.{get_or_append_left, get_or-append_right, length-append}
use Rattle.std.proofs.lemmas.List.Elements.{Contains-append_cases, Contains-get_or}
use Rattle.std.proofs.lemmas.List.FromFn.{get_or-range_with_len, length-range_with_len}
use Rattle.std.proofs.lemmas.List.Sums.{sum_by-cons}
use Rattle.mk_model.specs.declared.group.Group.{Group}
use Rattle.mk_rgfile.specs.declared.raw_query.RawGroup.{RawGroup}
use Rattle.mk_rgfile.specs.QueryFacts.{members_in}
use Rattle.mk_query.specs.Compiled.{members_from}
use Rattle.mk_query.specs.InRange.{IsGroupInRange}

-- by whether the group has this number
by_number : {A : Type 0} (n g : ℕ) (P : A → Type 0) (x y : A) → ((n ≡ g) → P x) → P y → P (cond (n == g) x y)
by_number {A} n g P x y same other = by_test (n == g) refl
  where
    by_test : (b : Bool) → (n == g) ≡ b → P (cond b x y)
    by_test true e = same (grind (arith, nat_tests))
    by_test false e = other

-- a number of a range
of_range : (a n u : ℕ) → Contains (range_with_len a n) u → (a ≤ u) × (u < a + n)
of_range a n u at =
    let size : at.0 < n = omega (arith, at.1, length-range_with_len a n) in
    let is : a + at.0 ≡ u = sym (get_or-range_with_len a n at.0 u size) ∙ at.2 in
    (omega (arith, is), omega (arith, is, size))

-- the members of a group are among those that are counted
pub member_between : (next g : ℕ) (parts : List RawGroup) (u : ℕ) → Contains (members_from next g parts) u → (next ≤ u) × (u < next + members_in parts)
member_between next g [] u at = absurd (let below = at.1 in omega arith)
member_between next g (part ∷ parts) u at =
    let later = members_from (next + length part.members) g parts in
    by_number part.number g (λ (l : List ℕ). Contains l u → (next ≤ u) × (u < next + members_in (part ∷ parts))) (range_with_len next (length part.members) ++ later) later
    (λ same here.
    ⊎_elim (λ first. let is = of_range next (length part.members) u first in (is.0, omega (arith, is.1)))
    (λ behind. let is = member_between (next + length part.members) g parts u behind in (omega (arith, is.0), omega (arith, is.1)))
    (Contains-append_cases (range_with_len next (length part.members)) later u here))
    (λ here. let is = member_between (next + length part.members) g parts u here in (omega (arith, is.0), omega (arith, is.1)))
    at

-- two rising lists, where the first ends before the second begins
rise_both : (xs ys : List ℕ) (n : ℕ) → AllPairs (λ u v. u < v) xs → AllPairs (λ u v. u < v) ys
    → ((u : ℕ) → Contains xs u → u < n) → ((u : ℕ) → Contains ys u → n ≤ u) → AllPairs (λ u v. u < v) (xs ++ ys)
rise_both xs ys n first second low high i j d before below =
    ⊎_elim
    (λ j_first.
    let i_is = get_or_append_left xs ys d i (omega (arith, before, j_first)) in
    let j_is = get_or_append_left xs ys d j j_first in
    rw (i_is, j_is) (first i j d before j_first))
    (λ j_second. ⊎_elim
    (λ i_first.
    let i_is = get_or_append_left xs ys d i i_first in
    rw i_is (omega (arith, low (get_or xs i d) (contains xs i d i_first), high (get_or (xs ++ ys) j d) (in_second j d j_second below))))
    (λ i_second.
    let i_is = second_at i d i_second in
    let j_is = second_at j d j_second in
    rw (i_is, j_is) (second (i - length xs) (j - length xs) d (omega (arith, before, i_second)) (omega (arith, below, j_second, length-append xs ys))))
    (cases_lt i (length xs)))
    (cases_lt j (length xs))
  where
    contains : (zs : List ℕ) (k d : ℕ) → k < length zs → Contains zs (get_or zs k d)
    contains zs k d inside = Contains-get_or zs k d inside

    second_at : (k d : ℕ) → length xs ≤ k → get_or (xs ++ ys) k d ≡ get_or ys (k - length xs) d
    second_at k d behind = get_or-append_right xs ys (length xs) k d refl behind

    in_second : (k d : ℕ) → length xs ≤ k → k < length (xs ++ ys) → Contains ys (get_or (xs ++ ys) k d)
    in_second k d behind below = rw (second_at k d behind) (contains ys (k - length xs) d (omega (arith, below, behind, length-append xs ys)))

range_rises : (a n : ℕ) → AllPairs (λ u v. u < v) (range_with_len a n)
range_rises a n i j d before below =
    let size = length-range_with_len a n in
    rw (get_or-range_with_len a n i d (omega (arith, before, below, size)), get_or-range_with_len a n j d (omega (arith, below, size))) (omega (arith, before))

none_rises : AllPairs (λ (u v : ℕ). u < v) []
none_rises i j d before below = absurd (omega (arith, below))

-- the members of a group rise
pub members_rise : (next g : ℕ) (parts : List RawGroup) → AllPairs (λ u v. u < v) (members_from next g parts)
members_rise next g [] = none_rises
members_rise next g (part ∷ parts) =
    let later = members_from (next + length part.members) g parts in
    let rises = members_rise (next + length part.members) g parts in
    by_number part.number g (λ (l : List ℕ). AllPairs (λ u v. u < v) l) (range_with_len next (length part.members) ++ later) later
    (λ same. rise_both (range_with_len next (length part.members)) later (next + length part.members) (range_rises next (length part.members)) rises
    (λ u at. (of_range next (length part.members) u at).1) (λ u at. (member_between (next + length part.members) g parts u at).0))
    rises

-- no table is a member of two groups
pub one_group : (next : ℕ) (parts : List RawGroup) (g h u : ℕ) → Contains (members_from next g parts) u → Contains (members_from next h parts) u → g ≡ h
one_group next [] g h u in_g in_h = absurd (let below = in_g.1 in omega arith)
one_group next (part ∷ parts) g h u in_g in_h =
    ⊎_elim
    (λ here. ⊎_elim (λ also. sym here.0 ∙ also.0) (λ later. absurd (omega (arith, here.1, (member_between (next + length part.members) h parts u later).0))) (where_is h in_h))
    (λ later. ⊎_elim (λ also. absurd (omega (
      arith,
      also.1,
      (member_between (next + length part.members) g parts u later).0,
    )))
    (λ both. one_group (next + length part.members) parts g h u later both) (where_is h in_h))
    (where_is g in_g)
  where
    -- in this part or behind it
    where_is : (k : ℕ) → Contains (members_from next k (part ∷ parts)) u → ((part.number ≡ k) × (u < next + length part.members)) ⊎ Contains (members_from (next + length part.members) k parts) u
    where_is k at =
        let later = members_from (next + length part.members) k parts in
        by_number part.number k (λ (l : List ℕ). Contains l u → ((part.number ≡ k) × (u < next + length part.members)) ⊎ Contains later u) (range_with_len next (length part.members) ++ later) later
        (λ same here. ⊎_elim (λ first. inl (same, (of_range next (length part.members) u first).1))
        (λ behind. inr behind) (Contains-append_cases (range_with_len next (length part.members)) later u here))
        (λ here. inr here) at

-- ---- how many there are

-- the sum over n numbers from k on
abbrev sum_range : (ℕ → ℕ) → ℕ → ℕ → ℕ
sum_range f k zero = 0
sum_range f k (suc n) = f k + sum_range f (k + 1) n

sum_both : (f h e : ℕ → ℕ) (k n : ℕ) → ((g : ℕ) → e g ≡ f g + h g) → sum_range e k n ≡ sum_range f k n + sum_range h k n
sum_both f h e k zero is = refl
sum_both f h e k (suc n) is = omega (arith, is k, sum_both f h e (k + 1) n is)

-- what one number alone adds
abbrev adds_if : ℕ → ℕ → ℕ → ℕ
adds_if number size g = cond (number == g) size 0

adds_same : (number size g : ℕ) → number ≡ g → adds_if number size g ≡ size
adds_same number size g same = by_test (number == g) refl
  where
    by_test : (b : Bool) → (number == g) ≡ b → cond b size 0 ≡ size
    by_test true e = refl
    by_test false e = absurd (grind (arith, nat_tests))

adds_none : (number size g : ℕ) → (number ≡ g → ⊥) → adds_if number size g ≡ 0
adds_none number size g other = by_test (number == g) refl
  where
    by_test : (b : Bool) → (number == g) ≡ b → cond b size 0 ≡ 0
    by_test true e = absurd (other (grind (arith, nat_tests)))
    by_test false e = refl

sum_none : (number size k n : ℕ) → number < k → sum_range (adds_if number size) k n ≡ 0
sum_none number size k zero below = refl
sum_none number size k (suc n) below =
    omega (arith, adds_none number size k (λ same. omega (arith, below, same)), sum_none number size (k + 1) n (omega (arith, below)))

sum_one : (number size k n : ℕ) → k ≤ number → number < k + n → sum_range (adds_if number size) k n ≡ size
sum_one number size k zero least most = absurd (omega (arith, least, most))
sum_one number size k (suc n) least most =
    ⊎_elim
    (λ later. omega (arith, adds_none number size k (λ same. omega (arith, later, same)), sum_one number size (k + 1) n (omega (arith, later)) (omega (arith, most))))
    (λ here. let same : number ≡ k = omega (arith, least, here) in omega (arith, adds_same number size k same, sum_none number size (k + 1) n (omega (arith, same))))
    (cases_lt k number)

-- one part more
size_more : (next g : ℕ) (part : RawGroup) (parts : List RawGroup)
    → length (members_from next g (part ∷ parts)) ≡ adds_if part.number (length part.members) g + length
    (members_from (next + length part.members) g parts)
size_more next g part parts = by_test (part.number == g)
  where
    by_test : (b : Bool) → length (cond b (range_with_len next (length part.members) ++ members_from (next + length part.members) g parts) (members_from (next + length part.members) g parts))
        ≡ cond b (length part.members) 0 + length (members_from (next + length part.members) g parts)
    by_test true = omega (arith, length-append (range_with_len next (length part.members)) (members_from (next + length part.members) g parts), length-range_with_len next (length part.members))
    by_test false = omega arith

-- over the 32 groups
sum_members : (next : ℕ) (parts : List RawGroup) → All IsGroupInRange parts → sum_range (λ g. length (members_from next g parts)) 1 32 ≡ members_in parts
sum_members next [] raw = sum_zeros 1 32
  where
    sum_zeros : (k n : ℕ) → sum_range (λ g. 0) k n ≡ 0
    sum_zeros k zero = refl
    sum_zeros k (suc n) = omega (arith, sum_zeros (k + 1) n)
sum_members next (part ∷ parts) raw =
    let number = raw 0 part (omega arith) in
    omega (
      arith,
      sum_both (adds_if part.number (length part.members))
          (λ g. length (members_from (next + length part.members) g parts))
          (λ g. length (members_from next g (part ∷ parts))) 1 32 (λ g. size_more next g part parts),
      sum_one part.number (length part.members) 1 32 number.from_one (omega (arith, number.to_32)),
      sum_members (next + length part.members) parts (λ k d below. raw (suc k) d (omega (arith, below))),
    )

-- groups that have these members, from the k-th on
sum_groups : (groups : List Group) (f : ℕ → ℕ) (k : ℕ) →
    ((i : ℕ) (group : Group) → slice_get groups i ≡ Some group → length group.members ≡ f (k + i))
    → sum_by (λ (group : Group). length group.members) groups ≡ sum_range f k (length groups)
sum_groups [] f k each = refl
sum_groups (group ∷ groups) f k each =
    let first : length group.members ≡ f (k + 0) = each 0 group refl in
    let place : k + 0 ≡ k = omega arith in
    let here : length group.members ≡ f k = first ∙ ap f place in
    omega (
      arith,
      sum_by-cons (λ (group : Group). length group.members) group groups,
      here,
      sum_groups groups f (k + 1) (λ i g at. let sum : k + suc i ≡ k + 1 + i = omega arith in each (suc i) g at ∙ ap f sum),
    )

pub members_total : (parts : List RawGroup) (groups : List Group) → All IsGroupInRange parts → length groups ≡ 32
    → ((i : ℕ) (group : Group) → slice_get groups i ≡ Some group → group.members ≡ members_from 1 (i + 1) parts)
    → sum_by (λ (group : Group). length group.members) groups ≡ members_in parts
members_total parts groups raw size each =
    sum_groups groups (λ g. length (members_from 1 g parts)) 1
    (λ i group at. let place : i + 1 ≡ 1 + i = omega arith in ap length (each i group at)
    ∙ ap (λ (g : ℕ). length (members_from 1 g parts)) place)
    ∙ ap (sum_range (λ g. length (members_from 1 g parts)) 1) size ∙ sum_members 1 parts raw
