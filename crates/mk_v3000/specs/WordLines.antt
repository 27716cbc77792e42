-- Logical lines one by one, by their words.
--     is_pair words a b      the words are these two
--     number_of word         the number of a word, or None
--     counts_of_words words  the numbers of a `COUNTS` line, or None
--     atom_of words          the atom of an atom line, or None
--     bond_of words          the bond of a bond line, or None
use Rattle.std.specs.Prelude.{ℕ, zero, suc, ◌==◌, ◌&&◌, ◌||◌, not, nat_le, nat_eq, Bool, true, false, if◌then◌else◌, List, [], ◌∷◌, length, drop, codes, bytes_eq, Option, Some, None, ℤ, pos, negsuc}
use Rattle.std.specs.List.{starts_with}
use Rattle.mk_text.specs.Fields.{field_of}
use Rattle.mk_text.specs.Options.{◌>>=◌, when, not_negative}
use Rattle.mk_v3000.specs.declared.word_lines.PartCounts.{PartCounts}
use Rattle.mk_v3000.specs.declared.word_lines.AtomLine.{AtomLine}
use Rattle.mk_v3000.specs.declared.word_lines.BondLine.{BondLine}
use Rattle.mk_v3000.specs.LogicalLines.{Word}

-- the first of the words, and what is made of it and of the others; None where there is no word
abbrev pub with_first : {V : Type 0} → List Word → (Word → List Word → Option V) → Option V
with_first [] f = None
with_first (word ∷ others) f = f word others

-- the words are these two
abbrev pub is_pair : List Word → Word → Word → Bool
is_pair [] a b = false
is_pair (x ∷ []) a b = false
is_pair (x ∷ y ∷ []) a b = bytes_eq x a && bytes_eq y b
is_pair (x ∷ y ∷ z ∷ more) a b = false

-- ---- numbers

-- the number of a word that is a sign or none and one to nine digits
unfoldable pub number_of : Word → Option ℤ
number_of word = if length word == 0 then None else field_of word 1 (length word)

-- a number from 0 to 999
unfoldable pub count_of : Word → Option ℕ
count_of word = number_of word >>= λ z. not_negative z >>= λ n. when (nat_le n 999) (Some n)

-- a number from 1 on
abbrev pub is_index : ℤ → Bool
is_index (pos n) = nat_le 1 n
is_index (negsuc n) = false

-- a number from -1 to 14
abbrev pub is_valence : ℤ → Bool
is_valence (pos n) = nat_le n 14
is_valence (negsuc n) = n == 0

-- The number that the words give under a name, as `CHG=` gives a charge; a later one holds in place
-- of `held`, and words that don't begin with the name are passed over. None where a word begins so
-- and gives no number, or for a valence none from -1 to 14.
abbrev pub value_under : List ℕ → Bool → ℤ → List Word → Option ℤ
value_under name valence held [] = Some held
value_under name valence held (word ∷ words) =
    if starts_with nat_eq word name
    then (number_of (drop (length name) word) >>= λ z. when (not valence || is_valence z) (value_under name valence z words))
    else value_under name valence held words

-- ---- lines

-- `COUNTS`, the number of atoms and the number of bonds, each from 0 to 999, and any words
unfoldable pub counts_of_words : List Word → Option PartCounts
counts_of_words words =
    with_first words λ name others.
    when (bytes_eq name (codes "COUNTS"))
    (with_first others λ atom_word others.
    with_first others λ bond_word others.
    count_of atom_word >>= λ atoms.
    count_of bond_word >>= λ bonds.
    Some (record { atoms = atoms; bonds = bonds }))

-- the charge, the radical, the mass and the valence among the options of an atom, each 0 where none
-- is given
unfoldable pub atom_with : Word → Word → List Word → Option AtomLine
atom_with index_word symbol options =
    number_of index_word >>= λ index.
    when (is_index index)
    (value_under (codes "CHG=") false (pos 0) options >>= λ charge.
    value_under (codes "RAD=") false (pos 0) options >>= λ radical.
    value_under (codes "MASS=") false (pos 0) options >>= λ mass.
    value_under (codes "VAL=") true (pos 0) options >>= λ valence.
    Some (record { index = index; symbol = symbol; charge = charge; radical = radical; mass = mass; valence = valence }))

-- the index, the symbol, three coordinates and the mapping, which aren't read, and options
unfoldable pub atom_of : List Word → Option AtomLine
atom_of words =
    with_first words λ index others.
    with_first others λ symbol others.
    with_first others λ x others.
    with_first others λ y others.
    with_first others λ z others.
    with_first others λ mapping options.
    atom_with index symbol options

-- the index, the type and the two atoms, all numbers, and any words
unfoldable pub bond_of : List Word → Option BondLine
bond_of words =
    with_first words λ index_word others.
    with_first others λ kind_word others.
    with_first others λ first_word others.
    with_first others λ second_word others.
    number_of index_word >>= λ index.
    number_of kind_word >>= λ kind.
    number_of first_word >>= λ first.
    number_of second_word >>= λ second.
    Some (record { kind = kind; first = first; second = second })
