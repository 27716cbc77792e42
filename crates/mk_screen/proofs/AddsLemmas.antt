-- Bits that are set beside others.
--     adds_none, adds_join      none, and those of two lists
--     adds_more                 those of one item more in a loop
use Rattle.std.proofs.Common.{◌≡◌, ℕ, zero, suc, ◌+◌, ◌/◌, ◌%◌, ◌<◌, Bool, true, false, ◌||◌, eqb, List, [], ◌∷◌, ◌++◌, length, get_or, take, refl, sym, ap, ◌∙◌, arith}
use Rattle.std.specs.List.{flat_map, list_any}
use Rattle.std.specs.Int.{bit_at}
use Rattle.std.proofs.lemmas.List.{append-nil, take_more}
use Rattle.std.proofs.lemmas.List.Concat.{flat_map-append}
use Rattle.std.proofs.lemmas.Nat.Bits.{bit_at-zero}
use Rattle.mk_model.specs.Screens.{has_bit}
use Rattle.mk_screen.specs.Paths.{Adds}

or_none : (a : Bool) → a ≡ (a || false)
or_none true = refl
or_none false = refl

or_assoc : (a b c : Bool) → ((a || b) || c) ≡ (a || (b || c))
or_assoc true b c = refl
or_assoc false b c = refl

-- a test on two lists that are joined
pub any_append : {X : Type 0} (p : X → Bool) (xs ys : List X) → list_any p (xs ++ ys) ≡ (list_any p xs || list_any p ys)
any_append p [] ys = refl
any_append p (x ∷ xs) ys = ap (λ b. p x || b) (any_append p xs ys) ∙ sym (or_assoc (p x) (list_any p xs) (list_any p ys))

-- none
pub adds_none : (bits : List ℕ) → Adds [] bits bits
adds_none bits = record { size = refl; bits = λ b below. or_none (has_bit bits b) }

-- those of two lists
pub adds_join : (xs ys old mid new : List ℕ) → Adds xs old mid → Adds ys mid new → Adds (xs ++ ys) old new
adds_join xs ys old mid new first second = record {
  size = second.size ∙ first.size;
  bits = λ b below.
      second.bits b below
      ∙ ap (λ t. t || list_any (λ c. eqb c b) ys) (first.bits b below)
      ∙ or_assoc (has_bit old b) (list_any (λ c. eqb c b) xs) (list_any (λ c. eqb c b) ys)
      ∙ ap (λ t. has_bit old b || t) (sym (any_append (λ c. eqb c b) xs ys));
}

-- those of one item more
pub adds_more : (f : ℕ → List ℕ) (xs : List ℕ) (i : ℕ) (old mid new : List ℕ) → i < length xs
    → Adds (flat_map f (take i xs)) old mid → Adds (f (get_or xs i 0)) mid new → Adds (flat_map f (take (i + 1) xs)) old new
adds_more f xs i old mid new below first second =
    rw (take_more xs i 0 below, flat_map-append f (take i xs) (get_or xs i 0 ∷ []), append-nil (f (get_or xs i 0)))
    (adds_join (flat_map f (take i xs)) (f (get_or xs i 0)) old mid new first second)

-- where no bit was set, those in the list are
pub set_nowhere : (list new : List ℕ) → Adds list (0 ∷ 0 ∷ 0 ∷ 0 ∷ 0 ∷ 0 ∷ 0 ∷ 0 ∷ []) new → (b : ℕ) → b < 512 → has_bit new b ≡ list_any (λ c. eqb c b) list
set_nowhere list new adds b below = adds.bits b below ∙ ap (λ t. t || list_any (λ c. eqb c b) list) none
  where
    word : (i : ℕ) → ◌≡◌ {A = ℕ} (get_or {A = ℕ} (0 ∷ 0 ∷ 0 ∷ 0 ∷ 0 ∷ 0 ∷ 0 ∷ 0 ∷ []) i 0) 0
    word zero = refl
    word (suc zero) = refl
    word (suc (suc zero)) = refl
    word (suc (suc (suc zero))) = refl
    word (suc (suc (suc (suc zero)))) = refl
    word (suc (suc (suc (suc (suc zero))))) = refl
    word (suc (suc (suc (suc (suc (suc zero)))))) = refl
    word (suc (suc (suc (suc (suc (suc (suc zero))))))) = refl
    word (suc (suc (suc (suc (suc (suc (suc (suc i)))))))) = refl

    none : has_bit (0 ∷ 0 ∷ 0 ∷ 0 ∷ 0 ∷ 0 ∷ 0 ∷ 0 ∷ []) b ≡ false
    none = ap (λ n. eqb (bit_at n (b % 64)) 1) (word (b / 64)) ∙ ap (λ n. eqb n 1) (bit_at-zero (b % 64))
