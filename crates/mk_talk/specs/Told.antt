-- A talk in memory, which tells its history.
--     told_history told events      the events, where all were noted
use Rattle.std.specs.Prelude.{Bool, List, Option, Some, None, if◌then◌else◌}
use Rattle.mk_talk.specs.declared.event.Event.{Event}

-- the events, where memory sufficed to note each
abbrev pub told_history : Bool → List Event → Option (List Event)
told_history told events = if told then Some events else None
