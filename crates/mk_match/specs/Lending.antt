-- What lending a hit leaves.
--     Ends s P     the lender ends at a value of which P holds
use Rattle.std.specs.Prelude.{[], ⊤}
use Rattle.std.specs.Borrow.{Fml, MutBor, follows_so}
use mathlib.Core.Option.{none}
use mir.Syntax.{named}
use Rattle.mk_match.specs.Maps.{MapsLeft}
use Rattle.mk_match.specs.contracts.maps.Maps.{the_row}

-- the lender ends at a value of which P holds
abbrev pub Ends : MutBor MapsLeft → (MapsLeft → Type 0) → Fml
Ends s P =
    let lender = the_row (record { mir = named 1; lft = [] }) in
    follows_so lender lender s.ghost_name none (λ _ _. ⊤) P
