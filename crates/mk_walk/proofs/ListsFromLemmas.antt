-- How many lists are left from a place on: fewer with each step.
--     fewer_next      the last number is higher
--     fewer_in        a number more, where the one before isn't lower
--     fewer_out       a number less, where the one before is the next
--     left_next, left_in, left_back      the same of the places of a walk
use Rattle.std.proofs.Common.{◌≡◌, ℕ, zero, suc, ◌+◌, ◌*◌, ◌-◌, ◌^◌, ◌<◌, ◌≤◌, List, [], ◌∷◌, ◌++◌, length, get_or, take, set, sym, ap, subst, ◌∙◌, arith, append_assoc}
use Rattle.std.proofs.lemmas.List.{length-take-le, take_more, take_more_set}
use Rattle.std.proofs.Math.Nat.{mul-le-mul_right, pow-suc, pow-zero}
use Rattle.mk_walk.specs.Walk.{lists_from, place_of}

-- ---- products

product_some : (a b : ℕ) → 1 ≤ a → 1 ≤ b → 1 ≤ a * b
product_some a b some others = omega (arith, mul-le-mul_right b some)

times_less : (k j v : ℕ) → k < j → k * v + v ≤ j * v
times_less k j v less = omega (arith, mul-le-mul_right v less)

times_up_to : (k j v : ℕ) → k ≤ j → k * v ≤ j * v
times_up_to k j v up = mul-le-mul_right v up

times_more : (k most v : ℕ) → k < most → 1 ≤ v → k * v + v < v * (most + 1)
times_more k most v less some = omega (arith, times_less k most v less)

-- a power of a number above zero is above zero
power_some : (most n : ℕ) → 1 ≤ (most + 1) ^ n
power_some most zero = rw (pow-zero (most + 1)) (omega arith)
power_some most (suc n) = rw (pow-suc (most + 1) n) (product_some ((most + 1) ^ n) (most + 1) (power_some most n) (omega arith))

-- ---- at the end

next_alone : (most m a c : ℕ) → a < c → c ≤ most → lists_from most (suc m) (c ∷ []) < lists_from most (suc m) (a ∷ [])
unfolding lists_from
next_alone most m a c over up =
    let some = power_some most m in
    let less = times_less (most - c) (most - a) ((most + 1) ^ m) (omega arith) in
    omega arith

in_alone : (most m a c : ℕ) → a ≤ c → 1 ≤ most → lists_from most (suc (suc m)) (c ∷ 1 ∷ []) < lists_from most (suc (suc m)) (a ∷ [])
unfolding lists_from
in_alone most m a c up some =
    let up_to = times_up_to (most - c) (most - a) ((most + 1) ^ suc m) (omega arith) in
    let more = times_more (most - 1) most ((most + 1) ^ m) (omega arith) (power_some most m) in
    omega (arith, pow-suc (most + 1) m)

out_alone : (most m b a : ℕ) → b < most → lists_from most (suc (suc m)) ((b + 1) ∷ []) < lists_from most (suc (suc m)) (b ∷ a ∷ [])
unfolding lists_from
out_alone most m b a less =
    let some = power_some most m in
    let fewer = times_less (most - (b + 1)) (most - b) ((most + 1) ^ suc m) (omega arith) in
    omega arith

-- ---- behind what stands before both places

one_more : (most n x : ℕ) (here there : List ℕ) → lists_from most n there < lists_from most n here → lists_from most (suc n) (x ∷ there) < lists_from most (suc n) (x ∷ here)
unfolding lists_from
one_more most n x here there less = omega arith

behind : (most n m : ℕ) (p here there : List ℕ) → n ≡ length p + m → lists_from most m there < lists_from most m here → lists_from most n (p ++ there) < lists_from most n (p ++ here)
behind most n m [] here there is less = (let same : n ≡ m = omega arith in rw same less)
behind most zero m (x ∷ p) here there is less = absurd (omega arith)
behind most (suc n) m (x ∷ p) here there is less = one_more most n x (p ++ here) (p ++ there) (behind most n m p here there (omega arith) less)

-- the last number is higher
pub fewer_next : (most n : ℕ) (p : List ℕ) (a c : ℕ) → length p < n → a < c → c ≤ most → lists_from most n (p ++ c ∷ []) < lists_from most n (p ++ a ∷ [])
fewer_next most n p a c room over up =
    let is : n ≡ length p + suc (n - length p - 1) = omega arith in
    behind most n (suc (n - length p - 1)) p (a ∷ []) (c ∷ []) is (next_alone most (n - length p - 1) a c over up)

-- a number more, where the one before isn't lower
pub fewer_in : (most n : ℕ) (p : List ℕ) (a c : ℕ) → length p + 1 < n → a ≤ c → 1 ≤ most → lists_from most n (p ++ c ∷ 1 ∷ []) < lists_from most n (p ++ a ∷ [])
fewer_in most n p a c room up some =
    let is : n ≡ length p + suc (suc (n - length p - 2)) = omega arith in
    behind most n (suc (suc (n - length p - 2))) p (a ∷ []) (c ∷ 1 ∷ []) is (in_alone most (n - length p - 2) a c up some)

-- a number less, where the one before is the next
pub fewer_out : (most n : ℕ) (p : List ℕ) (b a : ℕ) → length p + 1 < n → b < most → lists_from most n (p ++ (b + 1) ∷ []) < lists_from most n (p ++ b ∷ a ∷ [])
fewer_out most n p b a room less =
    let is : n ≡ length p + suc (suc (n - length p - 2)) = omega arith in
    behind most n (suc (suc (n - length p - 2))) p (b ∷ a ∷ []) ((b + 1) ∷ []) is (out_alone most (n - length p - 2) b a less)

-- ---- with the code's lists

-- the place behind one more image
pub place_in : (images : List ℕ) (depth a : ℕ) → depth < length images → place_of (set images depth a) (depth + 1) 0 ≡ take depth images ++ a ∷ 1 ∷ []
place_in images depth a below = rw (take_more_set images depth a below) (append_assoc (take depth images) (a ∷ []) (1 ∷ []))

-- the images up to the last one
pub take_last : (images : List ℕ) (depth last : ℕ) → (depth ≡ 0 → ⊥) → depth ≤ length images → last ≡ get_or images (depth - 1) last → take depth images ≡ take (depth - 1) images ++ last ∷ []
take_last images depth last some room is =
    let more : depth ≡ depth - 1 + 1 = omega arith in
    let below : depth - 1 < length images = omega arith in
    ap (λ (n : ℕ). take n images) more ∙ take_more images (depth - 1) last below ∙ ap (λ (n : ℕ). take (depth - 1) images ++ n ∷ []) (sym is)

module _ (most n : ℕ) (images : List ℕ) (depth : ℕ) (short : depth < n) (room : n ≤ length images) where
  long : length (take depth images) ≡ depth
  long = length-take-le depth images (omega arith)

  pub left_next : (a c : ℕ) → a < c → c + 1 ≤ most → lists_from most n (place_of images depth c) < lists_from most n (place_of images depth a)
  left_next a c over up = fewer_next most n (take depth images) (a + 1) (c + 1) (omega (arith, long)) (omega arith) up

  pub left_in : (above a : ℕ) → depth + 1 < n → above < a → 1 ≤ most → lists_from most n (place_of (set images depth a) (depth + 1) 0) < lists_from most n (place_of images depth above)
  left_in above a more over some =
      rw (place_in images depth a (omega arith)) (fewer_in most n (take depth images) (above + 1) a (omega (arith, long)) (omega arith) some)

  pub left_back : (last above : ℕ) → (depth ≡ 0 → ⊥) → last ≡ get_or images (depth - 1) last → last < most
      → lists_from most n (place_of images (depth - 1) last) < lists_from most n (place_of images depth above)
  left_back last above some is less =
      let whole : take depth images ++ (above + 1) ∷ [] ≡ take (depth - 1) images ++ last ∷ (above + 1) ∷ [] =
      ap (λ (xs : List ℕ). xs ++ (above + 1) ∷ []) (take_last images depth last some (omega arith) is) ∙ append_assoc (take (depth - 1) images) (last ∷ []) ((above + 1) ∷ []) in
      let shorter : length (take (depth - 1) images) ≡ depth - 1 = length-take-le (depth - 1) images (omega arith) in
      subst (λ (place : List ℕ). lists_from most n (take (depth - 1) images ++ (last + 1) ∷ []) < lists_from most n place) (sym whole)
      (fewer_out most n (take (depth - 1) images) last (above + 1) (omega arith) less)
