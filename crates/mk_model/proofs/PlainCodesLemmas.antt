-- The plain program lists all codes, in order.
--     law             the valid codes are listed
--     codes_listed    the structural codes at some slots, up to a length
use Rattle.std.proofs.Common.{◌≡◌, ℕ, zero, suc, ◌+◌, ◌<◌, ◌≤◌, inl, inr, Bool, true, false, cond, List, [], ◌∷◌, ◌++◌, length, refl, sym, ap, subst, ◌∙◌, arith}
use Rattle.std.specs.Prelude.{filter, slice_index}
use Rattle.std.proofs.lemmas.Bool.{cases_eq}
use Rattle.mk_text.specs.Rising.{Holds, IsBelow, IsJoined, IsRisingListOfAll, NoneBeginsAnother, Rises, joined_with}
use Rattle.mk_text.proofs.ForCallers.{each_holds, holds_each, joined_lists_rise}
use Rattle.mk_model.specs.declared.template.Slot.{Slot}
use Rattle.mk_model.specs.Queries.{QueryView, slots_of}
use Rattle.mk_model.specs.Logic.{IsValid, filled_of, sites_of, standing_sites}
use Rattle.mk_model.specs.OpenSlots.{Chooses, most_at, opened, standing_by}
use Rattle.mk_model.specs.PlainCodes.{ValidCodesAreListed, codes_of, is_allowed_code, singles, valid_codes}
use Rattle.mk_model.proofs.CodeLengthLemmas.{code_is_short}
use Rattle.mk_model.proofs.LogicLemmas.{allowed_same, allows_is, is_allowed}
use Rattle.mk_model.proofs.OpenSlotsLemmas.{chooses_of, is_code_of, standing_is}

-- ---- single numbers

-- a list that is held is one of the numbers
pub record IsSingle (a n : ℕ) (xs : List ℕ) : Type 0 where
  pub number : ℕ
  pub least : a ≤ number
  pub most : number < a + n
  pub is : number ∷ [] ≡ xs

is_single : (a n : ℕ) (xs : List ℕ) → Holds (singles a n) xs → IsSingle a n xs
is_single a zero xs held = absurd held
is_single a (suc n) xs (inl same) = record { number = a; least = omega arith; most = omega arith; is = same }
is_single a (suc n) xs (inr later) =
    let one = is_single (a + 1) n xs later in
    record { number = one.number; least = omega (arith, one.least); most = omega (arith, one.most); is = one.is }

single_is : (a n k : ℕ) → a ≤ k → k < a + n → Holds (singles a n) (k ∷ [])
single_is a zero k least most = absurd (omega arith)
single_is a (suc n) k least most =
    elim (cases_eq a k) [
      | inl same ↦ inl (rw same refl)
      | inr other ↦ inr (single_is (a + 1) n k (omega arith) (omega arith))
    ]

singles_rise : (a n : ℕ) → Rises (singles a n)
singles_rise a zero = tt
singles_rise a (suc n) = (
  holds_each (λ xs. IsBelow (a ∷ []) xs) (singles (a + 1) n)
      (λ xs held. (let one = is_single (a + 1) n xs held in subst (λ (ys : List ℕ). IsBelow (a ∷ []) ys) one.is (inl (omega (arith, one.least))))),
  singles_rise (a + 1) n,
)

none_begins : (a n : ℕ) → NoneBeginsAnother (singles a n)
none_begins a n front more held longer =
    let one = is_single a n front held in
    let other = is_single a n (front ++ more) longer in
    let whole : other.number ∷ [] ≡ one.number ∷ more = other.is ∙ ap (λ (xs : List ℕ). xs ++ more) (sym one.is) in
    cc

-- ---- structural codes

-- numbers that choose at some slots, at most so many
pub record ChoosesWithin (n : ℕ) (query : QueryView) (slots : List Slot) (code : List ℕ) : Type 0 where
  pub short : length code ≤ n
  pub chooses : Chooses query slots code

-- where no slot is open
none_open : (n : ℕ) (query : QueryView) → IsRisingListOfAll (ChoosesWithin n query []) ([] ∷ [])
none_open n query = record {
  rises = (tt, tt);
  each = λ xs held. each_one xs held;
  all = λ xs is. all_one xs is.chooses;
}
  where
    each_one : (xs : List ℕ) → Holds ([] ∷ []) xs → ChoosesWithin n query [] xs
    each_one xs (inl same) = subst (ChoosesWithin n query []) same (record { short = omega arith; chooses = tt })
    each_one xs (inr held) = absurd held

    all_one : (xs : List ℕ) → Chooses query [] xs → Holds ([] ∷ []) xs
    all_one [] is = inl refl
    all_one (k ∷ code) is = absurd is

-- a number at the first slot, and behind it the codes at those that are open then
one_more : (n : ℕ) (query : QueryView) (slot : Slot) (slots : List Slot)
    → ((k : ℕ) → IsRisingListOfAll (ChoosesWithin n query (opened query slot k ++ slots))
    (codes_of n query (opened query slot k ++ slots)))
    → IsRisingListOfAll (ChoosesWithin (suc n) query (slot ∷ slots)) (codes_of (suc n) query (slot ∷ slots))
one_more n query slot slots listed = record {
  rises = joined.rises;
  each = λ xs held. from_joined xs (joined.each xs held);
  all = λ xs is. joined.all xs (to_joined xs is);
}
  where
    behind : List ℕ → List (List ℕ)
    behind = λ front. codes_of n query (opened query slot (slice_index front 0) ++ slots)

    lists : List (List ℕ)
    lists = singles 1 (most_at query slot)

    joined : IsRisingListOfAll (IsJoined behind lists) (joined_with behind lists)
    joined = joined_lists_rise behind lists (singles_rise 1 (most_at query slot)) (none_begins 1 (most_at query slot)) (λ front held. (listed (slice_index front 0)).rises)

    from_joined : (xs : List ℕ) → IsJoined behind lists xs → ChoosesWithin (suc n) query (slot ∷ slots) xs
    from_joined xs is =
        let one = is_single 1 (most_at query slot) is.front is.is_front in
        let back : Holds (behind (one.number ∷ [])) is.back = subst (λ (front : List ℕ). Holds (behind front) is.back) (sym one.is) is.is_back in
        let rest = (listed one.number).each is.back back in
        let whole : one.number ∷ is.back ≡ xs = ap (λ (front : List ℕ). front ++ is.back) one.is ∙ sym is.whole in
        subst (ChoosesWithin (suc n) query (slot ∷ slots)) whole
        (record { short = omega (arith, rest.short); chooses = (one.least, omega (arith, one.most), rest.chooses) })

    to_joined : (xs : List ℕ) → ChoosesWithin (suc n) query (slot ∷ slots) xs → IsJoined behind lists xs
    to_joined [] is = absurd is.chooses
    to_joined (k ∷ code) is = record {
      front = k ∷ [];
      back = code;
      is_front = single_is 1 (most_at query slot) k is.chooses.0 (omega (arith, is.chooses.1));
      is_back = (listed k).all code (record { short = omega (arith, is.short); chooses = is.chooses.2 });
      whole = refl;
    }

-- the codes at some slots are listed
pub codes_listed : (n : ℕ) (query : QueryView) (slots : List Slot) → IsRisingListOfAll (ChoosesWithin n query slots) (codes_of n query slots)
codes_listed zero query [] = none_open zero query
codes_listed (suc n) query [] = none_open (suc n) query
codes_listed zero query (slot ∷ slots) = record { rises = tt; each = λ xs held. absurd held; all = λ xs is. none xs is }
  where
    none : (xs : List ℕ) → ChoosesWithin zero query (slot ∷ slots) xs → ⊥
    none [] is = is.chooses
    none (k ∷ code) is = omega (arith, is.short)
codes_listed (suc n) query (slot ∷ slots) = one_more n query slot slots (λ k. codes_listed n query (opened query slot k ++ slots))

-- ---- what passes a test

-- what is held after a filter was held before, and passes
in_filter : (p : List ℕ → Bool) (lists : List (List ℕ)) (xs : List ℕ) → Holds (filter p lists) xs → Holds lists xs × (p xs ≡ true)
in_filter p [] xs held = absurd held
in_filter p (ys ∷ lists) xs held = by_test (p ys) refl held (in_filter p lists xs)
  where
    by_test : (b : Bool) → p ys ≡ b → Holds (cond b (ys ∷ filter p lists) (filter p lists)) xs → (Holds (filter p lists) xs → Holds lists xs × (p xs ≡ true)) → Holds (ys ∷ lists) xs × (p xs ≡ true)
    by_test true e (inl same) others = (inl same, subst (λ (zs : List ℕ). p zs ≡ true) same e)
    by_test true e (inr later) others = (let there = others later in (inr there.0, there.1))
    by_test false e later others = (let there = others later in (inr there.0, there.1))

-- what was held and passes is held after it
filter_holds : (p : List ℕ → Bool) (lists : List (List ℕ)) (xs : List ℕ) → Holds lists xs → p xs ≡ true → Holds (filter p lists) xs
filter_holds p [] xs held passes = absurd held
filter_holds p (ys ∷ lists) xs held passes = by_test (p ys) refl held (λ later. filter_holds p lists xs later passes)
  where
    by_test : (b : Bool) → p ys ≡ b → Holds (ys ∷ lists) xs → (Holds lists xs → Holds (filter p lists) xs) → Holds (cond b (ys ∷ filter p lists) (filter p lists)) xs
    by_test true e (inl same) others = inl same
    by_test true e (inr later) others = inr (others later)
    by_test false e (inl same) others = (let fails : p xs ≡ false = subst (λ (zs : List ℕ). p zs ≡ false) same e in absurd cc)
    by_test false e (inr later) others = others later

-- a rising list rises after it
filter_rises : (p : List ℕ → Bool) (lists : List (List ℕ)) → Rises lists → Rises (filter p lists)
filter_rises p [] rises = tt
filter_rises p (ys ∷ lists) rises = by_test (p ys) (filter_rises p lists rises.1)
  where
    by_test : (b : Bool) → Rises (filter p lists) → Rises (cond b (ys ∷ filter p lists) (filter p lists))
    by_test true others =
        (holds_each (λ xs. IsBelow ys xs) (filter p lists) (λ xs held. each_holds (λ zs. IsBelow ys zs) lists xs rises.0 (in_filter p lists xs held).0), others)
    by_test false others = others

-- ---- valid codes

-- a code that chooses at the root's slots and passes is valid
valid_if : (query : QueryView) (code : List ℕ) → Chooses query (slots_of query 0) code → is_allowed_code query code ≡ true → IsValid query code
unfolding is_allowed_code
valid_if query code chooses passes =
    let made = is_code_of query 0 code chooses in
    let stand : standing_by query (slots_of query 0) code ≡ standing_sites query (slots_of query 0) made.choice =
    ap (standing_by query (slots_of query 0)) (sym made.spelt) ∙ standing_is query (slots_of query 0) made.choice made.made in
    record {
      choice = made.choice;
      made = made.made;
      spelt = made.spelt;
      logic = allowed_same query _ _ _ _ (λ g least. ap (λ standing. sites_of standing g) stand) (λ g least. ap (λ standing. filled_of query standing g) stand)
          (allows_is query (sites_of (standing_by query (slots_of query 0) code)) (filled_of query (standing_by query (slots_of query 0) code)) passes);
    }

-- and a valid code passes
if_valid : (query : QueryView) (code : List ℕ) → IsValid query code → is_allowed_code query code ≡ true
unfolding is_allowed_code
if_valid query code is =
    let stand : standing_by query (slots_of query 0) code ≡ standing_sites query (slots_of query 0) is.choice =
    ap (standing_by query (slots_of query 0)) (sym is.spelt) ∙ standing_is query (slots_of query 0) is.choice is.made in
    is_allowed query (sites_of (standing_by query (slots_of query 0) code)) (filled_of query (standing_by query (slots_of query 0) code))
    (allowed_same query _ _ _ _ (λ g least. ap (λ standing. sites_of standing g) (sym stand)) (λ g least. ap (λ standing. filled_of query standing g) (sym stand)) is.logic)

pub law : ValidCodesAreListed
unfolding valid_codes
law query fits =
    let codes = codes_listed 512 query (slots_of query 0) in
    record {
      rises = filter_rises (is_allowed_code query) (codes_of 512 query (slots_of query 0)) codes.rises;
      each = λ code held.
          let there = in_filter (is_allowed_code query) (codes_of 512 query (slots_of query 0)) code held in
          valid_if query code (codes.each code there.0).chooses there.1;
      all = λ code is.
          let chooses = chooses_of query 0 code (record { choice = is.choice; made = is.made; spelt = is.spelt }) in
          let short = code_is_short query fits.small_root.size fits.small_root.adds_up fits.small_root.small code chooses in
          filter_holds (is_allowed_code query) (codes_of 512 query (slots_of query 0)) code (codes.all code (record { short = short; chooses = chooses })) (if_valid query code is);
    }
