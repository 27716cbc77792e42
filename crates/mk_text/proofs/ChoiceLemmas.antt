-- The choices rise, and are all.
use Rattle.std.proofs.Common.{◌≡◌, ℕ, ◌+◌, ◌<◌, ◌≤◌, inl, inr, zero, suc, Bool, true, false, List, [], ◌∷◌, map, refl, ap, sym, ◌∙◌, subst, arith, filter}
use Rattle.std.proofs.lemmas.Bool.{cases_eq}
use Rattle.std.specs.List.{flat_map, range_with_len}
use Rattle.mk_text.specs.Rising.{IsBelow, Each, Rises, Holds}
use Rattle.mk_text.specs.Choices.{choices, IsChoice, ChoicesThatPass}
use Rattle.mk_text.proofs.RisingLemmas.{each_append, each_from, each_mapped, rises_append, rises_mapped, holds_append, holds_either, holds_mapped, holds_before_map}

-- by whether the first passes
each_filter_by : (P : List ℕ → Type 0) (test : List ℕ → Bool) (x : List ℕ) (xs : List (List ℕ)) (b : Bool) → test x ≡ b → P x → Each P (filter test xs) → Each P (filter test (x ∷ xs))
each_filter_by P test x xs true e h g = rw e (h, g)
each_filter_by P test x xs false e h g = rw e g

-- of those that pass
each_filter : (P : List ℕ → Type 0) (test : List ℕ → Bool) (xs : List (List ℕ)) → Each P xs → Each P (filter test xs)
each_filter P test [] h = tt
each_filter P test (x ∷ xs) h = each_filter_by P test x xs _ refl h.0 (each_filter P test xs h.1)

-- by whether the first passes
rises_filter_by : (test : List ℕ → Bool) (x : List ℕ) (xs : List (List ℕ)) (b : Bool) → test x ≡ b → Each (λ y. IsBelow x y) xs → Rises (filter test xs) → Rises (filter test (x ∷ xs))
rises_filter_by test x xs true e h g = rw e (each_filter (λ y. IsBelow x y) test xs h, g)
rises_filter_by test x xs false e h g = rw e g

-- those that pass rise
rises_filter : (test : List ℕ → Bool) (xs : List (List ℕ)) → Rises xs → Rises (filter test xs)
rises_filter test [] h = tt
rises_filter test (x ∷ xs) h = rises_filter_by test x xs _ refl h.0 (rises_filter test xs h.1)

-- a list that begins with a number from a on
abbrev From : ℕ → List ℕ → Type 0
From a [] = ⊥
From a (b ∷ bs) = a ≤ b

-- from a later number on
from_later : (a : ℕ) (x : List ℕ) → From (a + 1) x → From a x
from_later a [] h = h
from_later a (b ∷ bs) h = omega arith

-- a smaller first number
below_later : (a : ℕ) (x y : List ℕ) → From (a + 1) y → IsBelow (a ∷ x) y
below_later a x [] h = h
below_later a x (b ∷ bs) h = inl (omega arith)

-- the first numbers of the parts
parts_from : (rs : List (List ℕ)) (a n : ℕ) → Each (From a) (flat_map (λ b. map (λ r. b ∷ r) rs) (range_with_len a n))
parts_from rs a zero = tt
parts_from rs a (suc n) =
    each_append (From a) (map (λ r. a ∷ r) rs) _ (each_mapped (From a) (λ r. a ∷ r) rs (λ x _. omega arith))
    (each_from (From (a + 1)) (From a) _ (λ x h. from_later a x h) (parts_from rs (a + 1) n))

-- the parts rise
parts_rise : (rs : List (List ℕ)) → Rises rs → (a n : ℕ) → Rises (flat_map (λ b. map (λ r. b ∷ r) rs) (range_with_len a n))
parts_rise rs h a zero = tt
parts_rise rs h a (suc n) =
    let later = flat_map (λ b. map (λ r. b ∷ r) rs) (range_with_len (a + 1) n) in
    rises_append (map (λ r. a ∷ r) rs) later (rises_mapped (λ r. a ∷ r) (λ x y below. inr (refl, below)) rs h) (parts_rise rs h (a + 1) n)
    (each_mapped (λ x. Each (λ y. IsBelow x y) later) (λ r. a ∷ r) rs
    (λ x _. each_from (From (a + 1)) (λ y. IsBelow (a ∷ x) y) later (λ y g. below_later a x y g) (parts_from rs (a + 1) n)))

-- all choices rise
choices_rise : (n k : ℕ) → Rises (choices n k)
choices_rise n zero = (tt, tt)
choices_rise n (suc k) = parts_rise (choices n k) (choices_rise n k) 1 n

-- ---- which lists there are

-- in one of the parts
member_parts : (rs : List (List ℕ)) (a n b : ℕ) (x : List ℕ) → a ≤ b → b < a + n → Holds rs x → Holds (flat_map (λ c. map (λ r. c ∷ r) rs) (range_with_len a n)) (b ∷ x)
member_parts rs a zero b x le lt h = absurd (omega arith)
member_parts rs a (suc n) b x le lt h =
    elim (cases_eq a b) [
      | inl e ↦ holds_append (map (λ r. a ∷ r) rs) _ (b ∷ x) (inl (rw (← e) (holds_mapped (λ r. a ∷ r) rs x h)))
      | inr ne ↦ holds_append (map (λ r. a ∷ r) rs) _ (b ∷ x) (inr (member_parts rs (a + 1) n b x (omega arith) (omega arith) h))
    ]

-- and the other way round
in_parts : (rs : List (List ℕ)) (a n : ℕ) (x : List ℕ) → Holds (flat_map (λ c. map (λ r. c ∷ r) rs) (range_with_len a n)) x → (b : ℕ) × (r : List ℕ) × (a ≤ b) × (b < a + n) × (b ∷ r ≡ x) × Holds rs r
in_parts rs a zero x h = elim h [ ]
in_parts rs a (suc n) x h =
    elim (holds_either (map (λ r. a ∷ r) rs) _ x h) [
      | inl g ↦ (let m = holds_before_map (λ r. a ∷ r) rs x g in (a, m.0, omega arith, omega arith, m.1, m.2))
      | inr g ↦ (let m = in_parts rs (a + 1) n x g in (m.0, m.1, omega (arith, m.2), omega (arith, m.3), m.4, m.5))
    ]

-- each choice is listed
is_listed : (n k : ℕ) (x : List ℕ) → IsChoice n k x → Holds (choices n k) x
is_listed n zero [] h = inl refl
is_listed n zero (b ∷ x) h = absurd (omega (arith, h.count))
is_listed n (suc k) [] h = absurd (omega (arith, h.count))
is_listed n (suc k) (b ∷ x) h = member_parts (choices n k) 1 n b x h.within.0.0 (omega (arith, h.within.0.1)) (is_listed n k x (record { count = omega (arith, h.count); within = h.within.1 }))

-- what is listed is a choice
was_listed : (n k : ℕ) (x : List ℕ) → Holds (choices n k) x → IsChoice n k x
was_listed n zero x (inl e) = subst (IsChoice n 0) e (record { count = refl; within = tt })
was_listed n zero x (inr h) = elim h [ ]
was_listed n (suc k) x h =
    let m = in_parts (choices n k) 1 n x h in
    let c = was_listed n k m.1 m.5 in
    subst (IsChoice n (suc k)) m.4 (record { count = ap suc c.count; within = ((m.2, omega (arith, m.3)), c.within) })

-- by whether the first passes
in_filter_by : (test : List ℕ → Bool) (y : List ℕ) (ys : List (List ℕ)) (x : List ℕ) (b : Bool) → test y ≡ b
    → (Holds (filter test ys) x → Holds ys x × (test x ≡ true)) → Holds (filter test (y ∷ ys)) x → Holds (y ∷ ys) x
    × (test x ≡ true)
in_filter_by test y ys x true e f h = elim (rw e at h) [ inl g ↦ (inl g, ap test (sym g) ∙ e) | inr g ↦ (inr (f g).0, (f g).1) ]
in_filter_by test y ys x false e f h = let g = f (rw e at h) in (inr g.0, g.1)

-- what is left passes
in_filter : (test : List ℕ → Bool) (ys : List (List ℕ)) (x : List ℕ) → Holds (filter test ys) x → Holds ys x × (test x ≡ true)
in_filter test [] x h = elim h [ ]
in_filter test (y ∷ ys) x h = in_filter_by test y ys x _ refl (in_filter test ys x) h

-- by whether the first passes
member_filter_by : (test : List ℕ → Bool) (y : List ℕ) (ys : List (List ℕ)) (x : List ℕ) (b : Bool) → test y ≡ b
    → test x ≡ true → (Holds ys x → Holds (filter test ys) x) → Holds (y ∷ ys) x → Holds (filter test (y ∷ ys)) x
member_filter_by test y ys x true e t f (inl g) = rw e (inl g)
member_filter_by test y ys x true e t f (inr g) = rw e (inr (f g))
member_filter_by test y ys x false e t f (inl g) = absurd (let q : test y ≡ true = ap test g ∙ t in cc)
member_filter_by test y ys x false e t f (inr g) = rw e (f g)

-- what passes is left
member_filter : (test : List ℕ → Bool) (ys : List (List ℕ)) (x : List ℕ) → test x ≡ true → Holds ys x → Holds (filter test ys) x
member_filter test [] x t h = elim h [ ]
member_filter test (y ∷ ys) x t h = member_filter_by test y ys x _ refl t (member_filter test ys x t) h

-- the choices that pass are the rising list of all that do
pub choices_that_pass : ChoicesThatPass
choices_that_pass n k test = record {
  rises = rises_filter test (choices n k) (choices_rise n k);
  each = λ xs is. (let g = in_filter test (choices n k) xs is in record { choice = was_listed n k xs g.0; passes = g.1 });
  all = λ xs is. member_filter test (choices n k) xs is.passes (is_listed n k xs is.choice);
}
