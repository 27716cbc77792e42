-- How the program ends where no run is begun.
--     code_without_words cause      the exit status where the words of the command line can't be
--                                   had
use Rattle.std.specs.Prelude.{ℕ}
use Rattle.mk_outside.specs.declared.causes.Cause.{Cause}
use Rattle.mk_outside.specs.declared.causes.Cause.TheVariants as cause
use Rattle.mk_session.specs.declared.status.Status.TheVariants as status
use Rattle.mk_session.specs.Status.{code_of}

-- want of memory ends the program as it ends a run, and any other cause with a number that no run
-- ends with
abbrev pub code_without_words : Cause → ℕ
code_without_words cause.Memory = code_of status.Memory
code_without_words other = 9
