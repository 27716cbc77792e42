-- The hydrogens that an atom gains.
--     bond_orders_sum kinds            what the atom's bonds add up to
--     radical_share radical            what its radical takes
--     added_hydrogens element charge radical mark kinds      the hydrogens that it gains
use Rattle.std.specs.Prelude.{◌+◌, ◌-◌, ◌==◌, nat_le, ℕ, zero, suc, ℤ, List, Option, Some, None, count_by, find, if◌then◌else◌}
use Rattle.std.specs.List.{sum_by}
use Rattle.mk_elements.specs.Valences.{valences_of}

-- bonds of type 1, 2 and 3 add their type; a bond of type 4 adds nothing by itself
abbrev pub order : ℕ → ℕ
order kind = if kind == 4 then 0 else kind

-- two or more bonds of type 4 add together one more than they are, and a single one adds 1
abbrev pub aromatic_orders : ℕ → ℕ
aromatic_orders zero = 0
aromatic_orders (suc zero) = 1
aromatic_orders (suc (suc k)) = suc (suc k) + 1

-- what the bonds of these types add up to
abbrev pub bond_orders_sum : List ℕ → ℕ
bond_orders_sum kinds = sum_by order kinds + aromatic_orders (count_by (λ kind. kind == 4) kinds)

-- a doublet, radical 2, takes the place of one bond; a singlet or a triplet, 1 or 3, of two
abbrev pub radical_share : ℕ → ℕ
radical_share radical = if radical == 0 then 0 else (if radical == 2 then 1 else 2)

-- how many are wanting from the sum to the first valence of the row that isn't below it, which is
-- the least, since rows rise; none where there is no such valence
abbrev pub up_to_valence : ℕ → Option ℕ → ℕ
up_to_valence total None = 0
up_to_valence total (Some valence) = valence - total

-- the valence that a mark stands for: 15 is valence zero
abbrev pub marked_valence : ℕ → ℕ
marked_valence mark = if mark == 15 then 0 else mark

-- With no mark, the atom is filled up to a valence of its row, where its radical counts as bonds.
-- With a mark, it is filled up to the marked valence, whatever its radical. `-` stops at 0.
abbrev pub added_hydrogens : ℕ → ℤ → ℕ → ℕ → List ℕ → ℕ
added_hydrogens element charge radical mark kinds =
    if mark == 0 then
    (let total = bond_orders_sum kinds + radical_share radical in
    up_to_valence total (find (λ valence. nat_le total valence) (valences_of element charge)))
    else marked_valence mark - bond_orders_sum kinds
