-- What an answer of `prepare` says of the checks.
--     IfCheck result P             where a check and an item are named, P holds of them
--     IsCheck result n item        this check and this item are named; want of memory is free
--     IsAccepted result            no check is named
use Rattle.std.specs.Prelude.{◌≡◌, ℕ, Result, Ok, Err}
use Rattle.mk_mol.specs.declared.fault.PrepareFault.{PrepareFault}
use Rattle.mk_mol.specs.declared.fault.PrepareFault.TheVariants as fault

-- where a check and an item are named, P holds of them
abbrev pub IfCheck : {T : Type 0} → Result T PrepareFault → (ℕ → ℕ → Type 0) → Type 0
IfCheck (Ok value) P = Unit {0}
IfCheck (Err (fault.Check n item)) P = P n item
IfCheck (Err fault.Memory) P = Unit {0}

-- this check and this item are named, unless memory was wanting
abbrev pub IsCheck : {T : Type 0} → Result T PrepareFault → ℕ → ℕ → Type 0
IsCheck (Ok value) n item = ⊥
IsCheck (Err (fault.Check m other)) n item = (m ≡ n) × (other ≡ item)
IsCheck (Err fault.Memory) n item = Unit {0}

-- no check is named: there is a value, unless memory was wanting
abbrev pub IsAccepted : {T : Type 0} → Result T PrepareFault → Type 0
IsAccepted (Ok value) = Unit {0}
IsAccepted (Err (fault.Check n item)) = ⊥
IsAccepted (Err fault.Memory) = Unit {0}
