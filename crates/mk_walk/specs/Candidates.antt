-- The atoms of a molecule on which an atom of a graph may lie, as far as its neighbours say. This
-- file serves the code alone.
--     AreBonded mol a b                  some bond joins the two atoms
--     IsCandidate mol anchor a           atom a is bonded to the anchor, where there is one
--     IsLeastEnd bonds n numbers above least      the least end of these bonds of atom n that is
--                                                 above a number
use Rattle.std.specs.Prelude.{◌<◌, ◌≤◌, ◌-◌, nat_le, min, ℕ, List, Option, Some, None, slice_get, All, if◌then◌else◌}
use Rattle.mk_model.specs.declared.molecule.MolBond.{MolBond}
use Rattle.mk_model.specs.Molecules.{Molecule, IsBondOf, edge_of}
use Rattle.mk_model.specs.Edges.{other_end}

-- some bond of the molecule joins the two atoms
abbrev pub AreBonded : Molecule → ℕ → ℕ → Type 0
AreBonded mol a b = (bond : MolBond) × IsBondOf mol a b bond

-- atom a is bonded to the anchor, where there is one
abbrev pub IsCandidate : Molecule → Option ℕ → ℕ → Type 0
IsCandidate mol None a = Unit {0}
IsCandidate mol (Some anchor) a = AreBonded mol anchor a

-- the other end of the bond of this number, as seen from an atom
abbrev pub end_numbered : List MolBond → ℕ → ℕ → ℕ
end_numbered bonds number n = end_of (slice_get bonds (number - 1))
  where
    end_of : Option MolBond → ℕ
    end_of None = 0
    end_of (Some bond) = other_end n (edge_of bond)

-- the number is above another, and no higher than any of the ends that are above it; none where no
-- end is
abbrev pub IsLeastEnd : List MolBond → ℕ → List ℕ → ℕ → Option ℕ → Type 0
IsLeastEnd bonds n numbers above None = All (λ number. end_numbered bonds number n ≤ above) numbers
IsLeastEnd bonds n numbers above (Some least) = (above < least) × All (λ number. above < end_numbered bonds number n → least ≤ end_numbered bonds number n) numbers

-- the lesser of an end and the least one so far, where the end is above the number
abbrev pub lesser_end : Option ℕ → ℕ → ℕ → Option ℕ
lesser_end None above end = if nat_le end above then None else Some end
lesser_end (Some least) above end = if nat_le end above then Some least else Some (min least end)
