-- The elements' symbols, and the bytes that name an element.
--     symbols                the 118 symbols by rising atomic number
--     IsSymbol symbol z      the bytes are the symbol of element z
--     NamesElement symbol z  the bytes name element z
use Rattle.std.specs.Prelude.{◌≡◌, ◌≤◌, ◌-◌, ◌⊎◌, ℕ, List, [], ◌∷◌, Some, codes, map, slice_get}

-- the symbols by rising atomic number, a line for each period of the table
unfoldable pub symbols : List (List ℕ)
symbols =
    map codes (
    "H" ∷ "He" ∷
    "Li" ∷ "Be" ∷ "B" ∷ "C" ∷ "N" ∷ "O" ∷ "F" ∷ "Ne" ∷
    "Na" ∷ "Mg" ∷ "Al" ∷ "Si" ∷ "P" ∷ "S" ∷ "Cl" ∷ "Ar" ∷
    "K" ∷ "Ca" ∷ "Sc" ∷ "Ti" ∷ "V" ∷ "Cr" ∷ "Mn" ∷ "Fe" ∷ "Co" ∷ "Ni" ∷ "Cu" ∷ "Zn" ∷ "Ga" ∷ "Ge" ∷ "As" ∷ "Se" ∷
    "Br" ∷ "Kr" ∷
    "Rb" ∷ "Sr" ∷ "Y" ∷ "Zr" ∷ "Nb" ∷ "Mo" ∷ "Tc" ∷ "Ru" ∷ "Rh" ∷ "Pd" ∷ "Ag" ∷ "Cd" ∷ "In" ∷ "Sn" ∷ "Sb" ∷ "Te" ∷
    "I" ∷ "Xe" ∷
    "Cs" ∷ "Ba" ∷ "La" ∷ "Ce" ∷ "Pr" ∷ "Nd" ∷ "Pm" ∷ "Sm" ∷ "Eu" ∷ "Gd" ∷ "Tb" ∷ "Dy" ∷ "Ho" ∷ "Er" ∷ "Tm" ∷ "Yb" ∷
    "Lu" ∷ "Hf" ∷ "Ta" ∷ "W" ∷ "Re" ∷ "Os" ∷ "Ir" ∷ "Pt" ∷ "Au" ∷ "Hg" ∷ "Tl" ∷ "Pb" ∷ "Bi" ∷ "Po" ∷ "At" ∷ "Rn" ∷
    "Fr" ∷ "Ra" ∷ "Ac" ∷ "Th" ∷ "Pa" ∷ "U" ∷ "Np" ∷ "Pu" ∷ "Am" ∷ "Cm" ∷ "Bk" ∷ "Cf" ∷ "Es" ∷ "Fm" ∷ "Md" ∷ "No" ∷
    "Lr" ∷ "Rf" ∷ "Db" ∷ "Sg" ∷ "Bh" ∷ "Hs" ∷ "Mt" ∷ "Ds" ∷ "Rg" ∷ "Cn" ∷ "Nh" ∷ "Fl" ∷ "Mc" ∷ "Lv" ∷ "Ts" ∷ "Og" ∷
    [])

-- the bytes are the symbol of element z, counted from 1
abbrev pub IsSymbol : List ℕ → ℕ → Type 0
IsSymbol symbol z = (1 ≤ z) × (slice_get symbols (z - 1) ≡ Some symbol)

-- the bytes name element z: they are its symbol, or z is hydrogen and they are `D` or `T`
abbrev pub NamesElement : List ℕ → ℕ → Type 0
NamesElement symbol z = IsSymbol symbol z ⊎ ((z ≡ 1) × ((symbol ≡ codes "D") ⊎ (symbol ≡ codes "T")))
