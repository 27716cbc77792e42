-- The first so many lists that have a property.
--     first_are_taken, one_list_is_first     they are the first of all, and one list
--     first_and_others                       with those from the place behind them on they are all
--     listed_none, -more, -moved             all that have it below a place, one more, and up to a later place
--     first_listed, first_when_all           these are the first so many once they are as many, or all
use Rattle.std.proofs.Common.{◌≡◌, ℕ, zero, suc, ◌+◌, ◌≤◌, ◌⊎◌, inl, inr, List, [], ◌∷◌, ◌++◌, length, take, drop, refl, sym, ap, ◌∙◌, subst, arith}
use Rattle.std.proofs.lemmas.Bool.{cases_lt, cases_eq}
use Rattle.mk_text.specs.Rising.{AreFirst, Each, Holds, IsBelow, IsFrom, IsLeast, IsRisingListOfAll, NoneBeforePlaceBehind, Rises, place_behind}
use Rattle.mk_text.proofs.PlaceLemmas.{below_after, between_none}
use Rattle.mk_text.proofs.RisingLemmas.{below_or_not, below_through, each_from, each_holds, holds_append, holds_each, holds_either, not_below_itself, one_rising_list, others_held, rises_append, take_below_drop, take_holds, take_rises}

-- ---- the order

-- what is below a place is below what isn't
pub below_what_isnt : (xs ys place : List ℕ) → IsBelow xs place → (IsBelow ys place → ⊥) → IsBelow xs ys
below_what_isnt xs ys [] below not = absurd below
below_what_isnt [] [] (p ∷ place) below not = absurd (not tt)
below_what_isnt [] (y ∷ ys) (p ∷ place) below not = tt
below_what_isnt (x ∷ xs) [] (p ∷ place) below not = absurd (not tt)
below_what_isnt (x ∷ xs) (y ∷ ys) (p ∷ place) (inl less) not =
    elim (cases_lt x y) [
      | inl smaller ↦ inl smaller
      | inr more ↦ absurd (not (inl (omega (arith, less, more))))
    ]
below_what_isnt (x ∷ xs) (y ∷ ys) (p ∷ place) (inr h) not =
    elim (cases_lt x y) [
      | inl smaller ↦ inl smaller
      | inr more ↦ elim (cases_eq x y) [
        | inl same ↦ inr (same, below_what_isnt xs ys place h.1 (λ below. not (inr (sym same ∙ h.0, below))))
        | inr other ↦ absurd (not (inl (omega (arith, h.0, more, other))))
      ]
    ]

-- nothing stands between a list and the place behind it
pub none_before_place_behind : NoneBeforePlaceBehind
none_before_place_behind xs ys over below =
    let same : xs ≡ ys = between_none xs ys (λ under. not_below_itself xs (below_through xs ys xs over under)) below in
    not_below_itself xs (subst (λ (zs : List ℕ). IsBelow xs zs) (sym same) over)

-- ---- one list

-- a rising list whose lists another one holds is no longer than that
few_of : (lists others : List (List ℕ)) → Rises lists → Rises others → ((zs : List ℕ) → Holds lists zs → Holds others zs) → length lists ≤ length others
few_of [] others r s to = omega arith
few_of (xs ∷ lists) [] r s to = absurd (to xs (inl refl))
few_of (xs ∷ lists) (ys ∷ others) r s to =
    elim (to xs (inl refl)) [
      | inl same ↦
          let behind : (zs : List ℕ) → Holds lists zs → Holds others zs =
          others_held xs lists others r.0 (λ zs is. subst (λ (us : List ℕ). Holds (us ∷ others) zs) same (to zs is)) in
          let rest = few_of lists others r.1 s.1 behind in
          omega (arith, rest)
      | inr late ↦
          let over : IsBelow ys xs = each_holds (λ zs. IsBelow ys zs) others xs s.0 late in
          let rest = few_of (xs ∷ lists) others r s.1 (λ zs is. behind_first xs ys zs lists others r.0 over is (to zs is)) in
          omega (arith, rest)
    ]
  where
    behind_first : (xs ys zs : List ℕ) (lists others : List (List ℕ)) → Each (λ us. IsBelow xs us) lists → IsBelow ys xs → Holds (xs ∷ lists) zs → Holds (ys ∷ others) zs → Holds others zs
    behind_first xs ys zs lists others above over is (inr held) = held
    behind_first xs ys zs lists others above over (inl first) (inl same) =
        absurd (not_below_itself ys (subst (λ (us : List ℕ). IsBelow ys us) (first ∙ sym same) over))
    behind_first xs ys zs lists others above over (inr is) (inl same) =
        absurd (not_below_itself ys (subst (λ (us : List ℕ). IsBelow ys us) (sym same) (below_through ys xs zs over (each_holds (λ us. IsBelow xs us) lists zs above is))))

-- what the first so many hold, any others that are the first so many hold
held_by_both : (most : ℕ) (P : List ℕ → Type 0) (lists others : List (List ℕ)) → AreFirst most P lists → AreFirst most P others → (xs : List ℕ) → Holds lists xs → Holds others xs
held_by_both most P lists others h g xs is = decided (g.others xs (h.each xs is))
  where
    among : Each (λ ys. IsBelow ys xs) others → (ys : List ℕ) → Holds others ys → Holds lists ys
    among below ys held =
        elim (h.others ys (g.each ys held)) [
          | inl there ↦ there
          | inr full ↦ absurd (not_below_itself xs (below_through xs ys xs (each_holds (λ us. IsBelow us ys) lists xs full.1 is) (each_holds (λ us. IsBelow us xs) others ys below held)))
        ]

    both : Each (λ ys. IsBelow ys xs) others → (ys : List ℕ) → Holds (others ++ xs ∷ []) ys → Holds lists ys
    both below ys held =
        elim (holds_either others (xs ∷ []) ys held) [
          | inl there ↦ among below ys there
          | inr (inl same) ↦ subst (λ (us : List ℕ). Holds lists us) same is
          | inr (inr nothing) ↦ absurd nothing
        ]

    one_more : Each (λ ys. IsBelow ys xs) others → Rises (others ++ xs ∷ [])
    one_more below = rises_append others (xs ∷ []) g.rises (tt, tt) (each_from (λ ys. IsBelow ys xs) (λ ys. Each (λ zs. IsBelow ys zs) (xs ∷ [])) others (λ ys b. (b, tt)) below)

    decided : Holds others xs ⊎ ((length others ≡ most) × Each (λ ys. IsBelow ys xs) others) → Holds others xs
    decided (inl there) = there
    decided (inr full) =
        let long = few_of (others ++ xs ∷ []) lists (one_more full.1) h.rises (both full.1) in
        absurd (too_long (length others) (length lists) most full.0 h.few (subst (λ (n : ℕ). n ≤ length lists) (length_more others xs) long))
      where
        too_long : (a b most : ℕ) → a ≡ most → b ≤ most → a + 1 ≤ b → ⊥
        too_long a b most same few more = omega (arith, same, few, more)

        length_more : (zs : List (List ℕ)) (z : List ℕ) → length (zs ++ z ∷ []) ≡ length zs + 1
        length_more [] z = refl
        length_more (y ∷ zs) z = let rest = length_more zs z in omega (arith, rest)

pub one_list_is_first : (most : ℕ) (P : List ℕ → Type 0) (lists others : List (List ℕ)) → AreFirst most P lists → AreFirst most P others → lists ≡ others
one_list_is_first most P lists others h g =
    one_rising_list lists others h.rises g.rises (held_by_both most P lists others h g) (held_by_both most P others lists g h)

-- ---- the first of all

-- what is held is among the first so many or the others
holds_cut : (n : ℕ) (lists : List (List ℕ)) (xs : List ℕ) → Holds lists xs → Holds (take n lists) xs ⊎ Holds (drop n lists) xs
holds_cut zero lists xs is = inr is
holds_cut (suc n) [] xs is = absurd is
holds_cut (suc n) (ys ∷ lists) xs (inl same) = inl (inl same)
holds_cut (suc n) (ys ∷ lists) xs (inr is) = elim (holds_cut n lists xs is) [ inl h ↦ inl (inr h) | inr h ↦ inr h ]

-- where others are left the first so many are as many
full_take : (n : ℕ) (lists : List (List ℕ)) (xs : List ℕ) → Holds (drop n lists) xs → length (take n lists) ≡ n
full_take zero lists xs is = refl
full_take (suc n) [] xs is = absurd is
full_take (suc n) (ys ∷ lists) xs is = ap suc (full_take n lists xs is)

few_take : (n : ℕ) (lists : List (List ℕ)) → length (take n lists) ≤ n
few_take zero lists = omega arith
few_take (suc n) [] = omega arith
few_take (suc n) (ys ∷ lists) = let rest = few_take n lists in omega (arith, rest)

-- the first so many of the rising list of all are the first so many
taken_are_first : (most : ℕ) (P : List ℕ → Type 0) (all : List (List ℕ)) → IsRisingListOfAll P all → AreFirst most P (take most all)
taken_are_first most P all h = record {
  rises = take_rises most all h.rises;
  each = λ xs is. h.each xs (take_holds most all xs is);
  few = few_take most all;
  others = λ xs is. elim (holds_cut most all xs (h.all xs is)) [
    | inl early ↦ inl early
    | inr late ↦ inr (full_take most all xs late, holds_each (λ ys. IsBelow ys xs) (take most all) (λ ys early. take_below_drop most all ys xs h.rises early late))
  ];
}

pub first_are_taken : (most : ℕ) (P : List ℕ → Type 0) (all lists : List (List ℕ)) → IsRisingListOfAll P all → AreFirst most P lists → lists ≡ take most all
first_are_taken most P all lists h first = one_list_is_first most P lists (take most all) first (taken_are_first most P all h)

-- ---- the place behind

-- each of a rising list is below the place behind it
pub all_below_behind : (place : List ℕ) (lists : List (List ℕ)) → Rises lists → Each (λ xs. IsBelow xs (place_behind place lists)) lists
all_below_behind place [] rises = tt
all_below_behind place (xs ∷ []) rises = (below_after xs, tt)
all_below_behind place (xs ∷ ys ∷ lists) rises =
    let rest = all_below_behind (xs ++ (0 ∷ [])) (ys ∷ lists) rises.1 in
    (below_through xs ys (place_behind (ys ++ (0 ∷ [])) lists) rises.0.0 rest.0, rest)

-- what isn't below the place behind a rising list isn't below the place before it
pub not_below_before : (place : List ℕ) (lists : List (List ℕ)) (xs : List ℕ) → Rises lists
    → Each (λ ys. IsBelow ys place → ⊥) lists → (IsBelow xs (place_behind place lists) → ⊥) → IsBelow xs place → ⊥
not_below_before place [] xs rises from not below = not below
not_below_before place (ys ∷ lists) xs rises from not below =
    not (below_through xs ys (place_behind (ys ++ (0 ∷ [])) lists) (below_what_isnt xs ys place below from.0) (all_below_behind place (ys ∷ lists) rises).0)

-- what is above all isn't below the place behind them
pub not_below_behind : (place : List ℕ) (lists : List (List ℕ)) (xs : List ℕ) → (IsBelow xs place → ⊥) → Each (λ ys. IsBelow ys xs) lists → IsBelow xs (place_behind place lists) → ⊥
not_below_behind place [] xs not above below = not below
not_below_behind place (ys ∷ lists) xs not above below =
    not_below_behind (ys ++ (0 ∷ [])) lists xs (λ under. none_before_place_behind ys xs above.0 under) above.1 below

pub first_and_others : (most : ℕ) (P : List ℕ → Type 0) (place : List ℕ) (lists others : List (List ℕ))
    → AreFirst most (IsFrom P place) lists → IsRisingListOfAll (IsFrom P (place_behind place lists)) others
    → IsRisingListOfAll (IsFrom P place) (lists ++ others)
first_and_others most P place lists others h g = record {
  rises = rises_append lists others h.rises g.rises (each_from (λ xs. IsBelow xs behind) (λ xs. Each (λ ys. IsBelow xs ys) others) lists over (all_below_behind place lists h.rises));
  each = λ xs is. elim (holds_either lists others xs is) [
    | inl early ↦ h.each xs early
    | inr late ↦ ((g.each xs late).0, not_below_before place lists xs h.rises (holds_each (λ ys. IsBelow ys place → ⊥) lists (λ ys held. (h.each ys held).1)) (g.each xs late).1)
  ];
  all = λ xs is. elim (h.others xs is) [
    | inl early ↦ holds_append lists others xs (inl early)
    | inr full ↦ holds_append lists others xs (inr (g.all xs (is.0, not_below_behind place lists xs is.1 full.1)))
  ];
}
  where
    behind : List ℕ
    behind = place_behind place lists

    over : (xs : List ℕ) → IsBelow xs behind → Each (λ ys. IsBelow xs ys) others
    over xs below = holds_each (λ ys. IsBelow xs ys) others (λ ys held. below_what_isnt xs ys behind below (g.each ys held).1)

-- ---- for searches: all that have P below a place, in rising order

-- those that are listed once all below `from` are looked at
abbrev pub Listed : (List ℕ → Type 0) → List ℕ → List (List ℕ) → Type 0
Listed P from lists = IsRisingListOfAll (λ xs. P xs × IsBelow xs from) lists

-- nothing is listed where nothing that has P is below
pub listed_none : (P : List ℕ → Type 0) (from : List ℕ) → ((xs : List ℕ) → P xs → IsBelow xs from → ⊥) → Listed P from []
listed_none P from none = record { rises = tt; each = λ xs is. absurd is; all = λ xs is. absurd (none xs is.0 is.1) }

-- the least from there on is listed next, and the place is behind it
pub listed_more : (P : List ℕ → Type 0) (from : List ℕ) (lists : List (List ℕ)) (next : List ℕ) → Listed P from lists → IsLeast from P next → Listed P (next ++ (0 ∷ [])) (lists ++ next ∷ [])
listed_more P from lists next h least = record {
  rises = rises_append lists (next ∷ []) h.rises (tt, tt) (holds_each (λ xs. Each (λ ys. IsBelow xs ys) (next ∷ [])) lists (λ xs is. (under xs is, tt)));
  each = λ xs is. elim (holds_either lists (next ∷ []) xs is) [
    | inl early ↦ ((h.each xs early).0, below_through xs next (next ++ (0 ∷ [])) (under xs early) (below_after next))
    | inr (inl same) ↦ subst (λ (ys : List ℕ). P ys × IsBelow ys (next ++ (0 ∷ []))) same (least.has, below_after next)
    | inr (inr nothing) ↦ absurd nothing
  ];
  all = λ xs is. elim (below_or_not xs from) [
    | inl below ↦ holds_append lists (next ∷ []) xs (inl (h.all xs (is.0, below)))
    | inr not ↦ holds_append lists (next ∷ []) xs (inr (inl (between_none next xs (least.least xs is.0 not) is.1)))
  ];
}
  where
    under : (xs : List ℕ) → Holds lists xs → IsBelow xs next
    under xs is = below_what_isnt xs next from (h.each xs is).1 least.from

-- the place moves up over what doesn't have P
pub listed_moved : (P : List ℕ → Type 0) (from to : List ℕ) (lists : List (List ℕ)) → Listed P from lists
    → ((xs : List ℕ) → IsBelow xs from → IsBelow xs to)
    → ((xs : List ℕ) → P xs → (IsBelow xs from → ⊥) → IsBelow xs to → ⊥) → Listed P to lists
listed_moved P from to lists h up none = record {
  rises = h.rises;
  each = λ xs is. ((h.each xs is).0, up xs (h.each xs is).1);
  all = λ xs is. elim (below_or_not xs from) [
    | inl below ↦ h.all xs (is.0, below)
    | inr not ↦ absurd (none xs is.0 not is.1)
  ];
}

-- once they are as many as asked for they are the first so many
pub first_listed : (P : List ℕ → Type 0) (from : List ℕ) (lists : List (List ℕ)) → Listed P from lists → AreFirst (length lists) P lists
first_listed P from lists h = record {
  rises = h.rises;
  each = λ xs is. (h.each xs is).0;
  few = omega arith;
  others = λ xs is. elim (below_or_not xs from) [
    | inl below ↦ inl (h.all xs (is, below))
    | inr not ↦ inr (refl, holds_each (λ ys. IsBelow ys xs) lists (λ ys held. below_what_isnt ys xs from (h.each ys held).1 not))
  ];
}

-- and where nothing is left they are, too
pub first_when_all : (P : List ℕ → Type 0) (from : List ℕ) (most : ℕ) (lists : List (List ℕ)) → Listed P from lists
    → length lists ≤ most → ((xs : List ℕ) → P xs → (IsBelow xs from → ⊥) → ⊥) → AreFirst most P lists
first_when_all P from most lists h few none = record {
  rises = h.rises;
  each = λ xs is. (h.each xs is).0;
  few = few;
  others = λ xs is. elim (below_or_not xs from) [
    | inl below ↦ inl (h.all xs (is, below))
    | inr not ↦ absurd (none xs is not)
  ];
}
