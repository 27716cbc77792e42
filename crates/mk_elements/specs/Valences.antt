-- The valences that an element may have at a charge.
--     valences_of z charge     the row of element z at this charge, rising, or nothing
use Rattle.std.specs.Prelude.{◌==◌, ℕ, ℤ, pos, negsuc, List, [], ◌∷◌, if◌then◌else◌}

-- an element's number and its valences, rising
pub record Row : Type 0 where
  pub element : ℕ
  pub valences : List ℕ

-- the row of element z with these valences
abbrev pub row : ℕ → List ℕ → Row
row z valences = record { element = z; valences = valences }

-- the valences in the row of element z, or nothing where it has none
abbrev pub row_of : ℕ → List Row → List ℕ
row_of z [] = []
row_of z (r ∷ rows) = if z == r.element then r.valences else row_of z rows

-- uncharged: B 3; C 4; N 3, 5; O 2; F 1; Si 4; P 3, 5; S 2, 4, 6; Cl 1; As 3, 5; Se 2, 4, 6; Br 1;
-- I 1
abbrev pub uncharged : List Row
uncharged =
    row 5 (3 ∷ [])
    ∷ (row 6 (4 ∷ [])
    ∷ (row 7 (3 ∷ 5 ∷ [])
    ∷ (row 8 (2 ∷ [])
    ∷ (row 9 (1 ∷ [])
    ∷ (row 14 (4 ∷ [])
    ∷ (row 15 (3 ∷ 5 ∷ [])
    ∷ (row 16 (2 ∷ 4 ∷ 6 ∷ [])
    ∷ (row 17 (1 ∷ [])
    ∷ (row 33 (3 ∷ 5 ∷ [])
    ∷ (row 34 (2 ∷ 4 ∷ 6 ∷ [])
    ∷ (row 35 (1 ∷ [])
    ∷ (row 53 (1 ∷ []) ∷ []))))))))))))

-- charge +1: C 3; N 4; O 3; P 4; S 3, 5
abbrev pub positive : List Row
positive = row 6 (3 ∷ []) ∷ (row 7 (4 ∷ []) ∷ (row 8 (3 ∷ []) ∷ (row 15 (4 ∷ []) ∷ (row 16 (3 ∷ 5 ∷ []) ∷ []))))

-- charge -1: B 4; C 3; N 2; O 1; P 2; S 1
abbrev pub negative : List Row
negative = row 5 (4 ∷ []) ∷ (row 6 (3 ∷ []) ∷ (row 7 (2 ∷ []) ∷ (row 8 (1 ∷ []) ∷ (row 15 (2 ∷ []) ∷ (row 16 (1 ∷ []) ∷ [])))))

-- the rows of a charge; no other charge has any
abbrev pub rows_at : ℤ → List Row
rows_at (pos n) = if n == 0 then uncharged else (if n == 1 then positive else [])
rows_at (negsuc n) = if n == 0 then negative else []

-- the valences of element z at this charge, rising, or nothing
abbrev pub valences_of : ℕ → ℤ → List ℕ
valences_of z charge = row_of z (rows_at charge)
