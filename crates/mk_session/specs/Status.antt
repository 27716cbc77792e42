-- The statuses of a run.
--     code_of status             the exit status of the program
--     IsStatusOf fail status     a run ends as its last command did
use Rattle.std.specs.Prelude.{ℕ, ◌≡◌}
use Rattle.mk_session.specs.declared.status.Status.{Status}
use Rattle.mk_session.specs.declared.status.Status.TheVariants.{Done, Refused, Words, Read, Write, Store, Memory, BadStore, ScriptLong}
use Rattle.mk_found.specs.declared.effect.StepFail.{StepFail}
use Rattle.mk_found.specs.declared.effect.StepFail.TheVariants as step
use Rattle.mk_session.specs.declared.status.Status.TheVariants as status

-- the exit status of the program
abbrev pub code_of : Status → ℕ
code_of Done = 0
code_of Refused = 1
code_of Words = 2
code_of Read = 3
code_of Write = 4
code_of Store = 5
code_of Memory = 6
code_of BadStore = 7
code_of ScriptLong = 8

-- a run ends as the command that came to no end
abbrev pub IsStatusOf : StepFail → Status → Type 0
IsStatusOf step.Read s = s ≡ status.Read
IsStatusOf step.Store s = s ≡ status.Store
IsStatusOf step.Memory s = s ≡ status.Memory
