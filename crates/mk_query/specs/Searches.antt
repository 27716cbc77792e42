-- What the searches for a fault find. For the code alone.
--     least_of a b              the lesser of two numbers, where there are any
--     first_of atom bond property   the fault of the first check of which an item is named
--     AreCounts bonds counts    how many of the bonds each atom has
--     AreCounted at old new     one more at these places
--     HasRoom counts n          atom n has at most 20
use Rattle.std.specs.Prelude.{◌≡◌, ◌≤◌, ◌<◌, ◌+◌, ◌-◌, nat_le, ℕ, Bool, List, length, slice_index, Option, Some, None, if◌then◌else◌}
use Rattle.mk_model.specs.Edges.{degree}
use Rattle.mk_tables.specs.declared.raw.RawBond.{RawBond}
use Rattle.mk_demands.specs.Bonds.{edges_of}
use Rattle.mk_query.specs.declared.checking.Fault.{Fault}

-- the lesser of two numbers, where there are any
abbrev pub least_of : Option ℕ → Option ℕ → Option ℕ
least_of None b = b
least_of (Some i) None = Some i
least_of (Some i) (Some j) = if nat_le i j then Some i else Some j

-- the fault of the first check of which an item is named
abbrev pub first_of : Option ℕ → Option ℕ → Option ℕ → Option Fault
first_of (Some item) bond property = Some (record { check = 1; item = item })
first_of None (Some item) property = Some (record { check = 2; item = item })
first_of None None (Some item) = Some (record { check = 3; item = item })
first_of None None None = None

-- how many of the bonds each atom has
abbrev pub AreCounts : List RawBond → List ℕ → Type 0
AreCounts bonds counts = (k : ℕ) → k < length counts → slice_index counts k ≡ degree (edges_of bonds) (k + 1)

-- one more at the places of which this test holds
abbrev pub AreCounted : (ℕ → Bool) → List ℕ → List ℕ → Type 0
AreCounted at old new = (k : ℕ) → k < length old → slice_index new k ≡ slice_index old k + (if at k then 1 else 0)

-- atom n, where it is one, has at most 20
abbrev pub HasRoom : List ℕ → ℕ → Type 0
HasRoom counts n = 1 ≤ n → n ≤ length counts → slice_index counts (n - 1) ≤ 20
