-- What a line says, computed from left to right in the code's order of tests.
--     property_of line            the property that the line is, or None
--     Gives answer read           a function answered what the line says
--     PropertiesAreRead           the reading and `IsProperty` agree
use Rattle.std.specs.Prelude.{◌≡◌, ℕ, ◌+◌, ◌-◌, ◌*◌, ◌↔◌, ◌==◌, ◌&&◌, ◌||◌, Bool, true, false, if◌then◌else◌, List, [], ◌∷◌, slice_index_or, drop, Option, Some, None, Result, Ok, Err, ℤ, option_map, codes}
use Rattle.mk_text.specs.Options.{◌>>=◌, when, entries_of, count_in, not_negative}
use Rattle.mk_text.specs.Columns.{is_space}
use Rattle.mk_text.specs.Fields.{field_of}
use Rattle.mk_props.specs.declared.fault.LineFault.{LineFault}
use Rattle.mk_props.specs.declared.fault.LineFault.TheVariants.{Bad, Memory}
use Rattle.mk_props.specs.declared.property.Pair.{Pair}
use Rattle.mk_props.specs.declared.property.LinkEntry.{LinkEntry}
use Rattle.mk_props.specs.declared.property.AtomList.{AtomList}
use Rattle.mk_props.specs.declared.property.SiteOrder.{SiteOrder}
use Rattle.mk_props.specs.declared.property.LogicLine.{LogicLine}
use Rattle.mk_props.specs.declared.property.Property.{Property}
use Rattle.mk_props.specs.declared.property.Property.TheVariants as kinds
use Rattle.mk_props.specs.Lists.{symbol_of}
use Rattle.mk_props.specs.Property.{IsProperty}

-- What a function answered is what the line says, Bad where it says nothing. Want of memory says
-- nothing of the line.
abbrev pub Gives : {X : Type 0} → Result X LineFault → Option X → Type 0
Gives (Ok x) read = read ≡ Some x
Gives (Err Bad) read = read ≡ None
Gives (Err Memory) read = Unit {0}

-- ---- columns and numbers

-- the byte in a column, a blank past the line's end
unfoldable pub cell_of : List ℕ → ℕ → ℕ
cell_of line at = slice_index_or line (at - 1) 32

-- the columns from this one on hold these bytes
abbrev pub spells : List ℕ → ℕ → List ℕ → Bool
spells line at [] = true
spells line at (c ∷ []) = cell_of line at == c
spells line at (c ∷ d ∷ text) = (cell_of line at == c) && spells line (at + 1) (d ∷ text)

-- a blank in this column, and a number in the three after it
unfoldable pub number_of : List ℕ → ℕ → Option ℤ
number_of line at = when (is_space (cell_of line at)) (field_of line (at + 1) (at + 3))

-- the number from 1 to most in the three columns from this one on
unfoldable pub count_of : ℕ → List ℕ → ℕ → Option ℕ
count_of most line at = field_of line at (at + 2) >>= count_in most

-- ---- entries

-- the atom and the value of an entry that begins at this column
unfoldable pub pair_of : List ℕ → ℕ → Option Pair
pair_of line at = number_of line at >>= λ atom. number_of line (at + 4) >>= λ value. Some (record { atom = atom; value = value })

-- the pairs behind the count that stands from this column on
unfoldable pub pairs_of : ℕ → List ℕ → ℕ → Option (List Pair)
pairs_of most line at = count_of most line at >>= λ n. entries_of (λ i. pair_of line (at + 3 + 8 * i)) n 0

-- the atom, the most copies and the two neighbours of a link entry that begins at this column
unfoldable pub link_of : List ℕ → ℕ → Option LinkEntry
link_of line at =
    number_of line at >>= λ atom. number_of line (at + 4) >>= λ most. number_of line (at + 8) >>= λ from. number_of line (at + 12) >>= λ to.
    Some (record { atom = atom; most = most; from = from; to = to })

-- the one to four link entries of an `M  LIN`
unfoldable pub links_of : List ℕ → Option (List LinkEntry)
links_of line = count_of 4 line 7 >>= λ n. entries_of (λ i. link_of line (10 + 16 * i)) n 0

-- the site of an `M  AAL` and its one or two entries
unfoldable pub order_of : List ℕ → Option SiteOrder
order_of line = number_of line 7 >>= λ atom. pairs_of 2 line 11 >>= λ entries. Some (record { atom = atom; entries = entries })

-- ---- atom lists

-- `T` is true and `F` is false, between blanks
unfoldable pub flag_of : List ℕ → Option Bool
flag_of line =
    when (is_space (cell_of line 14) && is_space (cell_of line 16))
    (if spells line 15 (codes "T") then Some true else (if spells line 15 (codes "F") then Some false else None))

-- the one to sixteen symbols of an `M  ALS`
unfoldable pub symbols_of : List ℕ → Option (List (List ℕ))
symbols_of line = count_of 16 line 11 >>= λ n. entries_of (λ i. Some (symbol_of line i)) n 0

-- the atom, the flag and the symbols of an `M  ALS`
unfoldable pub list_of : List ℕ → Option AtomList
list_of line =
    number_of line 7 >>= λ atom. flag_of line >>= λ not. symbols_of line >>= λ symbols.
    Some (record { atom = atom; not = not; symbols = symbols })

-- ---- logic

-- the group, its THEN group, its RestH and its range text of an `M  LOG`
unfoldable pub logic_of : List ℕ → Option LogicLine
logic_of line =
    count_of 1 line 7 >>= λ one. number_of line 10 >>= λ group. number_of line 14 >>= λ then_group. number_of line 18 >>= λ rest.
    when (is_space (cell_of line 22)) (Some (record { group = group; then_group = then_group; rest = rest; range = drop 22 line }))

-- ---- lines

-- a line that begins with `M  `, by the columns 4 to 6
unfoldable pub m_line_of : List ℕ → Option Property
m_line_of line =
    if spells line 4 (codes "END") then Some kinds.End
    else (if spells line 4 (codes "CHG") then option_map kinds.Charge (pairs_of 8 line 7)
    else (if spells line 4 (codes "RAD") then option_map kinds.Radical (pairs_of 8 line 7)
    else (if spells line 4 (codes "ISO") then option_map kinds.Isotope (pairs_of 8 line 7)
    else (if spells line 4 (codes "RBC") then option_map kinds.RingBonds (pairs_of 8 line 7)
    else (if spells line 4 (codes "SUB") then option_map kinds.Substitution (pairs_of 8 line 7)
    else (if spells line 4 (codes "UNS") then option_map kinds.Unsaturation (pairs_of 8 line 7)
    else (if spells line 4 (codes "RGP") then option_map kinds.Label (pairs_of 8 line 7)
    else (if spells line 4 (codes "APO") then option_map kinds.Points (pairs_of 2 line 7)
    else (if spells line 4 (codes "LIN") then option_map kinds.Link (links_of line)
    else (if spells line 4 (codes "ALS") then option_map kinds.List (list_of line)
    else (if spells line 4 (codes "AAL") then option_map kinds.Order (order_of line)
    else (if spells line 4 (codes "LOG") then option_map kinds.Logic (logic_of line)
    else Some (kinds.Passed 0)))))))))))))

-- how many lines `S  SKP` passes over
unfoldable pub skip_of : List ℕ → Option ℕ
skip_of line = when (spells line 4 (codes "SKP")) (field_of line 7 9 >>= not_negative)

-- a line that begins with a letter and two blanks, by the letter
unfoldable pub letter_line_of : List ℕ → Option Property
letter_line_of line =
    if spells line 1 (codes "M") then m_line_of line
    else (if spells line 1 (codes "A") || spells line 1 (codes "G") then Some (kinds.Passed 1)
    else (if spells line 1 (codes "V") then Some (kinds.Passed 0)
    else (if spells line 1 (codes "S") then option_map kinds.Passed (skip_of line)
    else None)))

-- a line: each kind has two blanks in the columns 2 and 3
unfoldable pub property_of : List ℕ → Option Property
property_of line = when (is_space (cell_of line 2) && is_space (cell_of line 3)) (letter_line_of line)

-- what is read is the property that the line is, and a line that is one is read
abbrev pub PropertiesAreRead : Type 0
PropertiesAreRead = (line : List ℕ) (property : Property) → (property_of line ≡ Some property) ↔ IsProperty line property
