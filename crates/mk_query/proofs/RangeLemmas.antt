-- The numbers from 1 to n, one by one.
use Rattle.std.proofs.Common.{◌≡◌, ◌≤◌, ◌<◌, ◌+◌, ℕ, suc, zero, Bool, cond, List, [], ◌∷◌, ◌++◌, refl, ap, sym, ◌∙◌, arith}
use Rattle.std.specs.List.{filter, range_with_len}
use Rattle.std.proofs.lemmas.List.Elements.{filter-append}

range_more : (a n : ℕ) → range_with_len a (suc n) ≡ range_with_len a n ++ (a + n) ∷ []
range_more a zero = (let sum : a + zero ≡ a = omega arith in ap (λ (m : ℕ). m ∷ []) (sym sum))
range_more a (suc n) = (let sum : a + 1 + n ≡ a + suc n = omega arith in ap (λ (l : List ℕ). a ∷ l) (range_more (a + 1) n ∙ ap (λ (m : ℕ). range_with_len (a + 1) n ++ m ∷ []) sum))

-- one number more
pub numbers_more : (n : ℕ) → range_with_len 1 (n + 1) ≡ range_with_len 1 n ++ (n + 1) ∷ []
numbers_more n =
    let on : n + 1 ≡ suc n = omega arith in
    let last : 1 + n ≡ n + 1 = omega arith in
    ap (range_with_len 1) on ∙ range_more 1 n ∙ ap (λ (m : ℕ). range_with_len 1 n ++ m ∷ []) last

-- one number more, to which a test is put
pub filter_more : (p : ℕ → Bool) (n : ℕ) → filter p (range_with_len 1 (n + 1)) ≡ filter p (range_with_len 1 n) ++ cond (p (n + 1)) ((n + 1) ∷ []) []
filter_more p n = ap (filter p) (numbers_more n) ∙ filter-append p (range_with_len 1 n) ((n + 1) ∷ [])

-- tests that agree on the numbers leave the same
same_from : (p q : ℕ → Bool) (a n : ℕ) → ((x : ℕ) → a ≤ x → x < a + n → p x ≡ q x) → filter p (range_with_len a n) ≡ filter q (range_with_len a n)
same_from p q a zero same = refl
same_from p q a (suc n) same =
    let others = same_from p q (a + 1) n (λ x least most. same x (omega (arith, least)) (omega (arith, most))) in
    let here = same a (omega arith) (omega arith) in
    rw (others, here) refl

pub filter_same : (p q : ℕ → Bool) (n : ℕ) → ((x : ℕ) → 1 ≤ x → x ≤ n → p x ≡ q x) → filter p (range_with_len 1 n) ≡ filter q (range_with_len 1 n)
filter_same p q n same = same_from p q 1 n (λ x least below. same x least (omega (arith, below)))

-- one number more, from any on
pub range_from_more : (a n : ℕ) → range_with_len a (n + 1) ≡ range_with_len a n ++ (a + n) ∷ []
range_from_more a n = (let on : n + 1 ≡ suc n = omega arith in ap (range_with_len a) on ∙ range_more a n)
