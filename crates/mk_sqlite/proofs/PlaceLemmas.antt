-- Places as bytes, four to a number.
use Rattle.std.proofs.Common.{◌≡◌, ◌++◌, ◌+◌, ◌<◌, ◌≤◌, ◌%◌, ◌^◌, append-nil, ℕ, suc, List, [], ◌∷◌, length, take, drop, get_or, Option, Some, None, option_map, refl, sym, ap, ◌∙◌, arith}
use Rattle.std.specs.Int.{w32, bytes_high_first, to_be_bytes, from_be_bytes}
use Rattle.std.proofs.lemmas.List.{drop_all}
use Rattle.std.proofs.lemmas.Nat.{from_be_bytes-to_be_bytes_4}
use Rattle.mk_sqlite.specs.Told.{spelt_place}
use Rattle.mk_sqlite.specs.Stored.{stored_place}

-- what is stored is read
pub read_stored : (place : List ℕ) → ((i : ℕ) → get_or place i 0 < 2 ^ 32) → spelt_place (stored_place place) ≡ Some place
unfolding stored_place
read_stored [] fits = refl
read_stored (n ∷ place) fits = rw (read_stored place (λ i. fits (suc i)), from_be_bytes-to_be_bytes_4 n (fits 0))

-- four bytes are a number
pub read_more : (rest four behind : List ℕ) (n : ℕ) → four ≡ take 4 rest → behind ≡ drop 4 rest → length behind + 4 ≡ length rest → n ≡ from_be_bytes w32 four
    → spelt_place rest ≡ option_map (λ place. n ∷ place) (spelt_place behind)
read_more [] four behind n h k long is = absurd (omega arith)
read_more (a ∷ []) four behind n h k long is = absurd (omega arith)
read_more (a ∷ b ∷ []) four behind n h k long is = absurd (omega arith)
read_more (a ∷ b ∷ c ∷ []) four behind n h k long is = absurd (omega arith)
read_more (a ∷ b ∷ c ∷ d ∷ more) four behind n h k long is = rw (is, h, k)

-- what is read so far, before the rest
abbrev pub ahead : List ℕ → Option (List ℕ) → Option (List ℕ)
ahead place o = option_map (λ rest. place ++ rest) o

-- one number more ahead
pub ahead_more : (place : List ℕ) (n : ℕ) (o : Option (List ℕ)) → ahead place (option_map (λ rest. n ∷ rest) o) ≡ ahead (place ++ n ∷ []) o
ahead_more place n None = refl
ahead_more place n (Some rest) = ap Some (sym (Rattle.std.proofs.Common.append_assoc place (n ∷ []) rest))

-- nothing ahead
pub ahead_none : (o : Option (List ℕ)) → ahead [] o ≡ o
ahead_none None = refl
ahead_none (Some rest) = refl

-- the end of the bytes
pub ahead_all : (place rest : List ℕ) → length rest < 4 → length rest % 4 ≡ 0 → ahead place (spelt_place rest) ≡ Some place
ahead_all place [] short whole = ap Some (append-nil place)
ahead_all place (a ∷ []) short whole = absurd (omega arith)
ahead_all place (a ∷ b ∷ []) short whole = absurd (omega arith)
ahead_all place (a ∷ b ∷ c ∷ []) short whole = absurd (omega arith)
ahead_all place (a ∷ b ∷ c ∷ d ∷ rest) short whole = absurd (omega arith)

-- all numbers are stored
pub stored_all : (place bytes : List ℕ) (i : ℕ) → bytes ++ stored_place (drop i place) ≡ stored_place place → length place ≤ i → bytes ≡ stored_place place
unfolding stored_place
stored_all place bytes i is past = sym (append-nil bytes) ∙ rw (drop_all i place past) at is
