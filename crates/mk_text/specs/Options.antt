-- Values that may be missing, one after another. Readers of lines are written with these words.
--     o >>= f                    the value of o, and then what f makes of it
--     when test value            the value where the test holds
--     entries_of entry n i       so many entries, from the one of this number on
--     count_in most z            a number from 1 to most
--     not_negative z             a number from 0 on
use Rattle.std.specs.Prelude.{ℕ, zero, suc, ◌+◌, nat_le, ◌&&◌, Bool, if◌then◌else◌, List, [], ◌∷◌, Option, Some, None, ℤ, pos, negsuc}

-- what f makes of the value, and None where there is no value
infixl 10 ◌>>=◌
abbrev pub ◌>>=◌ : {A B : Type 0} → Option A → (A → Option B) → Option B
(Some x) >>= f = f x
None >>= f = None

-- the value where the test holds
abbrev pub when : {X : Type 0} → Bool → Option X → Option X
when test value = if test then value else None

-- so many entries, from the one of number i on, and None where one of them is missing
abbrev pub entries_of : {X : Type 0} → (ℕ → Option X) → ℕ → ℕ → Option (List X)
entries_of entry zero i = Some []
entries_of entry (suc n) i = entry i >>= λ x. entries_of entry n (i + 1) >>= λ xs. Some (x ∷ xs)

-- a number from 1 to most
abbrev pub count_in : ℕ → ℤ → Option ℕ
count_in most (pos n) = when (nat_le 1 n && nat_le n most) (Some n)
count_in most (negsuc n) = None

-- a number from 0 on
abbrev pub not_negative : ℤ → Option ℕ
not_negative (pos n) = Some n
not_negative (negsuc n) = None
