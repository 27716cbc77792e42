-- The names of queries, and the numbers of records and saved searches.
--     is_name word       the word is a name, computed
--     IsName name        the bytes are a name
--     IsHeldNumber n     a record or a saved search can have the number
use Rattle.std.specs.Prelude.{◌≡◌, ℕ, ◌≤◌, ◌&&◌, ◌||◌, ◌==◌, nat_le, Bool, true, List, length}
use Rattle.std.specs.List.{list_all}
use Rattle.std.specs.Char.{is_ascii_alphanumeric}

-- an ASCII letter or digit, `_`, `-` or `.`
abbrev pub is_name_byte : ℕ → Bool
is_name_byte c = is_ascii_alphanumeric c || (c == 95 || (c == 45 || c == 46))

-- a name is 1 to 64 of these bytes
abbrev pub is_name : List ℕ → Bool
is_name word = nat_le 1 (length word) && (nat_le (length word) 64 && list_all is_name_byte word)

-- the number is one that a record or a saved search can have
abbrev pub IsHeldNumber : ℕ → Type 0
IsHeldNumber n = (1 ≤ n) × (n ≤ 999999999)

-- the bytes are a name
abbrev pub IsName : List ℕ → Type 0
IsName name = is_name name ≡ true
