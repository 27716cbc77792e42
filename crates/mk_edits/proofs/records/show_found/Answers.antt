use Rattle.std.proofs.Common.{[], ap}
use Rattle.mk_found.specs.Effects.{Answers}
use Rattle.mk_edits.specs.Records.{Shows}
use Rattle.mk_edits.proofs.records.show_found.Goals as goal

pub returns-in_ok-shown-in-Some : goal.returns-in_ok-shown-in-Some
returns-in_ok-shown-in-Some c = record { comes = Shows c.in-Some.text.now c.in-Some.ensures.some (ap (Answers []) c.in_ok-shown-in-Some.ensures); fits = λ saved. tt }
