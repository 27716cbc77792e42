use Rattle.std.proofs.Common.{◌≡◌, ◌∙◌, Option, Some, ap}
use Rattle.mk_model.specs.declared.turn.Turn.{Turn}
use Rattle.mk_model.specs.declared.turn.Turn.TheVariants.{Item, Moved, End}
use Rattle.mk_match.specs.Maps.{IsTurn, MapsLeft}
use Rattle.mk_search.specs.declared.occurrences.Open.{Open}
use Rattle.mk_search.specs.Turns.{IsTurnOpen}
use Rattle.mk_search.proofs.turns.turn_open.Goals as goal

-- with another matcher it is as it was, but for that
same_open : (old new : Open) → new ≡ record old { maps = new.maps } → ◌≡◌ {A = Option Open} (Some new) (Some (record { maps = new.maps; code = old.code; asked = old.asked; need = old.need }))
same_open old new same = ap (λ (o : Open). Some o) same

turn_of : (old new : Open) (turn : Turn) → IsTurn old.maps new.maps turn → new ≡ record old { maps = new.maps } → IsTurnOpen (Some old) (Some new) turn
turn_of old new Item turn same = record { maps = new.maps; is = same_open old new same; turn_is = turn }
turn_of old new Moved turn same = record { maps = new.maps; is = same_open old new same; turn_is = turn }
turn_of old new End turn same =
    (ap (λ (o : Open). Some o) (same ∙ ap (λ (m : MapsLeft). record { maps = m; code = old.code; asked = old.asked; need = old.need }) turn.1), turn.0)

pub returns : goal.returns
returns c = rw c.in-Some.is (turn_of c.in-Some.its c.turn_maps.new.open c.turn_maps.result c.turn_maps.ensures.turn c.turn_maps.ensures.same)
