-- Rising lists: there is at most one with the same members, its first so many, and the part from a place on.
use Rattle.std.proofs.Common.{◌≡◌, ℕ, zero, suc, ◌⊎◌, inl, inr, List, [], ◌∷◌, ◌++◌, map, take, drop, refl, sym, ap, ◌∙◌, subst, arith}
use Rattle.std.proofs.lemmas.Bool.{cases_lt, cases_eq}
use Rattle.mk_text.specs.Rising.{IsBelow, Each, Rises, Holds, IsRisingListOfAll, OneRisingList, FirstOfRising, RisingFromPlace}

-- ---- the order

-- nothing is below itself
pub not_below_itself : (xs : List ℕ) → IsBelow xs xs → ⊥
not_below_itself [] below = below
not_below_itself (x ∷ xs) (inl less) = absurd (omega arith)
not_below_itself (x ∷ xs) (inr h) = not_below_itself xs h.1

-- what is below a list is below all above it
pub below_through : (xs ys zs : List ℕ) → IsBelow xs ys → IsBelow ys zs → IsBelow xs zs
below_through xs [] zs h g = absurd h
below_through xs (y ∷ ys) [] h g = absurd g
below_through [] (y ∷ ys) (z ∷ zs) h g = tt
below_through (x ∷ xs) (y ∷ ys) (z ∷ zs) (inl h) (inl g) = inl (omega arith)
below_through (x ∷ xs) (y ∷ ys) (z ∷ zs) (inl h) (inr g) = inl (omega (arith, g.0))
below_through (x ∷ xs) (y ∷ ys) (z ∷ zs) (inr h) (inl g) = inl (omega (arith, h.0))
below_through (x ∷ xs) (y ∷ ys) (z ∷ zs) (inr h) (inr g) = inr (h.0 ∙ g.0, below_through xs ys zs h.1 g.1)

-- a list is below another or it isn't
pub below_or_not : (xs ys : List ℕ) → IsBelow xs ys ⊎ (IsBelow xs ys → ⊥)
below_or_not xs [] = inr (λ below. below)
below_or_not [] (y ∷ ys) = inl tt
below_or_not (x ∷ xs) (y ∷ ys) =
    elim (cases_lt x y) [
      | inl less ↦ inl (inl less)
      | inr more ↦ elim (cases_eq x y) [
        | inl same ↦ elim (below_or_not xs ys) [
          | inl below ↦ inl (inr (same, below))
          | inr not ↦ inr (λ h. elim h [ inl less ↦ absurd (omega arith) | inr g ↦ not g.1 ])
        ]
        | inr other ↦ inr (λ h. elim h [ inl less ↦ absurd (omega arith) | inr g ↦ other g.0 ])
      ]
    ]

-- ---- members

-- what each has, one that is held has
pub each_holds : (P : List ℕ → Type 0) (lists : List (List ℕ)) (xs : List ℕ) → Each P lists → Holds lists xs → P xs
each_holds P [] xs each is = absurd is
each_holds P (ys ∷ lists) xs each (inl same) = subst P same each.0
each_holds P (ys ∷ lists) xs each (inr is) = each_holds P lists xs each.1 is

-- and the other way round
pub holds_each : (P : List ℕ → Type 0) (lists : List (List ℕ)) → ((xs : List ℕ) → Holds lists xs → P xs) → Each P lists
holds_each P [] each = tt
holds_each P (ys ∷ lists) each = (each ys (inl refl), holds_each P lists (λ xs is. each xs (inr is)))

-- what holds of the lists of two
pub each_append : (P : List ℕ → Type 0) (xs ys : List (List ℕ)) → Each P xs → Each P ys → Each P (xs ++ ys)
each_append P [] ys h g = g
each_append P (x ∷ xs) ys h g = (h.0, each_append P xs ys h.1 g)

-- what follows from it
pub each_from : (P Q : List ℕ → Type 0) (xs : List (List ℕ)) → ((x : List ℕ) → P x → Q x) → Each P xs → Each Q xs
each_from P Q [] f h = tt
each_from P Q (x ∷ xs) f h = (f x h.0, each_from P Q xs f h.1)

-- what holds of mapped lists
pub each_mapped : (P : List ℕ → Type 0) (f : List ℕ → List ℕ) (xs : List (List ℕ)) → ((x : List ℕ) → Holds xs x → P (f x)) → Each P (map f xs)
each_mapped P f [] h = tt
each_mapped P f (x ∷ xs) h = (h x (inl refl), each_mapped P f xs (λ y is. h y (inr is)))

-- what one of two holds both hold together
pub holds_append : (xs ys : List (List ℕ)) (x : List ℕ) → Holds xs x ⊎ Holds ys x → Holds (xs ++ ys) x
holds_append [] ys x (inl h) = absurd h
holds_append [] ys x (inr h) = h
holds_append (y ∷ xs) ys x (inl (inl e)) = inl e
holds_append (y ∷ xs) ys x (inl (inr h)) = inr (holds_append xs ys x (inl h))
holds_append (y ∷ xs) ys x (inr h) = inr (holds_append xs ys x (inr h))

-- and the other way round
pub holds_either : (xs ys : List (List ℕ)) (x : List ℕ) → Holds (xs ++ ys) x → Holds xs x ⊎ Holds ys x
holds_either [] ys x h = inr h
holds_either (y ∷ xs) ys x (inl e) = inl (inl e)
holds_either (y ∷ xs) ys x (inr h) = elim (holds_either xs ys x h) [ inl g ↦ inl (inr g) | inr g ↦ inr g ]

-- what is held, mapped
pub holds_mapped : (f : List ℕ → List ℕ) (xs : List (List ℕ)) (x : List ℕ) → Holds xs x → Holds (map f xs) (f x)
holds_mapped f [] x h = elim h [ ]
holds_mapped f (y ∷ xs) x (inl e) = inl (ap f e)
holds_mapped f (y ∷ xs) x (inr h) = inr (holds_mapped f xs x h)

-- and the other way round
pub holds_before_map : (f : List ℕ → List ℕ) (xs : List (List ℕ)) (y : List ℕ) → Holds (map f xs) y → (x : List ℕ) × (f x ≡ y) × Holds xs x
holds_before_map f [] y h = elim h [ ]
holds_before_map f (x ∷ xs) y (inl e) = (x, e, inl refl)
holds_before_map f (x ∷ xs) y (inr h) = let g = holds_before_map f xs y h in (g.0, g.1, inr g.2)

-- ---- rising lists from others

-- two rising lists, one below the other
pub rises_append : (xs ys : List (List ℕ)) → Rises xs → Rises ys → Each (λ x. Each (λ y. IsBelow x y) ys) xs → Rises (xs ++ ys)
rises_append [] ys h g b = g
rises_append (x ∷ xs) ys h g b = (each_append (λ y. IsBelow x y) xs ys h.0 b.0, rises_append xs ys h.1 g b.1)

-- a map that keeps the order
pub rises_mapped : (f : List ℕ → List ℕ) → ((x y : List ℕ) → IsBelow x y → IsBelow (f x) (f y)) → (xs : List (List ℕ)) → Rises xs → Rises (map f xs)
rises_mapped f keeps [] h = tt
rises_mapped f keeps (x ∷ xs) h = (each_mapped (λ y. IsBelow (f x) y) f xs (λ y is. keeps x y (each_holds (λ z. IsBelow x z) xs y h.0 is)), rises_mapped f keeps xs h.1)

-- ---- at most one

-- two rising lists that hold the same begin alike
same_first : (xs ys : List ℕ) (lists others : List (List ℕ)) → Rises (xs ∷ lists) → Rises (ys ∷ others) → Holds (ys ∷ others) xs → Holds (xs ∷ lists) ys → xs ≡ ys
same_first xs ys lists others r s (inl same) h = sym same
same_first xs ys lists others r s (inr late) (inl same) = same
same_first xs ys lists others r s (inr late) (inr later) =
    absurd (not_below_itself xs (below_through xs ys xs (each_holds (λ zs. IsBelow xs zs) lists ys r.0 later) (each_holds (λ zs. IsBelow ys zs) others xs s.0 late)))

-- what else the first holds, the second holds behind its own first
pub others_held : (xs : List ℕ) (lists others : List (List ℕ)) → Each (λ ys. IsBelow xs ys) lists
    → ((zs : List ℕ) → Holds (xs ∷ lists) zs → Holds (xs ∷ others) zs) → (zs : List ℕ) → Holds lists zs
    → Holds others zs
others_held xs lists others above held zs is =
    elim (held zs (inr is)) [
      | inl same ↦ absurd (not_below_itself xs (subst (λ (ys : List ℕ). IsBelow xs ys) (sym same) (each_holds (λ ys. IsBelow xs ys) lists zs above is)))
      | inr behind ↦ behind
    ]

-- and are one
pub one_rising_list : OneRisingList
one_rising_list [] [] r s to from = refl
one_rising_list [] (ys ∷ others) r s to from = absurd (from ys (inl refl))
one_rising_list (xs ∷ lists) [] r s to from = absurd (to xs (inl refl))
one_rising_list (xs ∷ lists) (ys ∷ others) r s to from =
    let same : xs ≡ ys = same_first xs ys lists others r s (to xs (inl refl)) (from ys (inl refl)) in
    let above : Each (λ zs. IsBelow xs zs) others = subst (λ (zs : List ℕ). Each (λ us. IsBelow zs us) others) (sym same) s.0 in
    let to' : (zs : List ℕ) → Holds (xs ∷ lists) zs → Holds (xs ∷ others) zs = λ zs is. subst (λ (us : List ℕ). Holds (us ∷ others) zs) (sym same) (to zs is) in
    let from' : (zs : List ℕ) → Holds (xs ∷ others) zs → Holds (xs ∷ lists) zs = λ zs is. from zs (subst (λ (us : List ℕ). Holds (us ∷ others) zs) same is) in
    let rest = one_rising_list lists others r.1 s.1 (others_held xs lists others r.0 to') (others_held xs others lists above from') in
    ap (λ (zs : List ℕ). zs ∷ lists) same ∙ ap (λ (zss : List (List ℕ)). ys ∷ zss) rest

-- there is at most one rising list of all that have P
pub one_of_all : (P : List ℕ → Type 0) (lists others : List (List ℕ)) → IsRisingListOfAll P lists → IsRisingListOfAll P others → lists ≡ others
one_of_all P lists others h g =
    one_rising_list lists others h.rises g.rises (λ xs is. g.all xs (h.each xs is)) (λ xs is. h.all xs (g.each xs is))

-- ---- the first so many

-- the first so many are held
pub take_holds : (n : ℕ) (lists : List (List ℕ)) (xs : List ℕ) → Holds (take n lists) xs → Holds lists xs
take_holds zero lists xs is = absurd is
take_holds (suc n) [] xs is = absurd is
take_holds (suc n) (ys ∷ lists) xs (inl same) = inl same
take_holds (suc n) (ys ∷ lists) xs (inr is) = inr (take_holds n lists xs is)

-- and so are the others
pub drop_holds : (n : ℕ) (lists : List (List ℕ)) (xs : List ℕ) → Holds (drop n lists) xs → Holds lists xs
drop_holds zero lists xs is = is
drop_holds (suc n) [] xs is = absurd is
drop_holds (suc n) (ys ∷ lists) xs is = inr (drop_holds n lists xs is)

-- the first so many rise
pub take_rises : (n : ℕ) (lists : List (List ℕ)) → Rises lists → Rises (take n lists)
take_rises zero lists rises = tt
take_rises (suc n) [] rises = tt
take_rises (suc n) (xs ∷ lists) rises =
    (holds_each (λ ys. IsBelow xs ys) (take n lists) (λ ys is. each_holds (λ zs. IsBelow xs zs) lists ys rises.0 (take_holds n lists ys is)), take_rises n lists rises.1)

-- and stand below the others
pub take_below_drop : (n : ℕ) (lists : List (List ℕ)) (xs ys : List ℕ) → Rises lists → Holds (take n lists) xs → Holds (drop n lists) ys → IsBelow xs ys
take_below_drop zero lists xs ys rises early late = absurd early
take_below_drop (suc n) [] xs ys rises early late = absurd early
take_below_drop (suc n) (zs ∷ lists) xs ys rises (inl same) late =
    subst (λ (us : List ℕ). IsBelow us ys) same (each_holds (λ us. IsBelow zs us) lists ys rises.0 (drop_holds n lists ys late))
take_below_drop (suc n) (zs ∷ lists) xs ys rises (inr early) late = take_below_drop n lists xs ys rises.1 early late

-- so both hold
pub first_of_rising : FirstOfRising
first_of_rising n lists rises = (take_rises n lists rises, λ xs ys early late. take_below_drop n lists xs ys rises early late)

-- ---- the part from a place on

-- what is above a list that isn't below the place isn't either
above_not_below : (place xs : List ℕ) (lists : List (List ℕ)) → (IsBelow xs place → ⊥) → Each (λ ys. IsBelow xs ys) lists → Each (λ ys. IsBelow ys place → ⊥) lists
above_not_below place xs lists not above =
    holds_each (λ ys. IsBelow ys place → ⊥) lists (λ ys is below. not (below_through xs ys place (each_holds (λ zs. IsBelow xs zs) lists ys above is) below))

-- a place cuts a rising list in two
pub rising_from_place : RisingFromPlace
rising_from_place place [] rises = ([], [], record { whole = refl; below = tt; not_below = tt; rises = tt })
rising_from_place place (xs ∷ lists) rises =
    elim (below_or_not xs place) [
      | inl below ↦
          let rest = rising_from_place place lists rises.1 in
          (xs ∷ rest.0, rest.1, record { whole = ap (λ (zss : List (List ℕ)). xs ∷ zss) rest.2.whole; below = (below, rest.2.below); not_below = rest.2.not_below; rises = rest.2.rises })
      | inr not ↦ ([], xs ∷ lists, record { whole = refl; below = tt; not_below = (not, above_not_below place xs lists not rises.0); rises = rises })
    ]
