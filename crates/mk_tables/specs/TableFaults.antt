-- A fact of the line that a fault names.
--     IfBad answer P         of a line that is bad and isn't named V3000
--     IfV3000 answer P       of a line that is named V3000
use Rattle.std.specs.Prelude.{ℕ, Result, Ok, Err, ⊤}
use Rattle.mk_tables.specs.declared.fault.TableFault.{TableFault}
use Rattle.mk_tables.specs.declared.fault.TableFault.TheVariants.{Bad, V3000, Memory}

-- where the answer is `Bad`, P holds of its line
abbrev pub IfBad : {T : Type 0} → Result T TableFault → (ℕ → Type 0) → Type 0
IfBad (Ok value) P = ⊤
IfBad (Err (Bad k)) P = P k
IfBad (Err (V3000 k)) P = ⊤
IfBad (Err Memory) P = ⊤

-- where the answer is `V3000`, P holds of its line
abbrev pub IfV3000 : {T : Type 0} → Result T TableFault → (ℕ → Type 0) → Type 0
IfV3000 (Ok value) P = ⊤
IfV3000 (Err (Bad k)) P = ⊤
IfV3000 (Err (V3000 k)) P = P k
IfV3000 (Err Memory) P = ⊤
