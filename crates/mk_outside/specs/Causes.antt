-- What an error of the system comes to.
--     cause_of kind      what an error of this kind comes to
use Rattle.std.specs.declared.io.ErrorKind.{ErrorKind}
use Rattle.std.specs.declared.io.ErrorKind.TheVariants as kind
use Rattle.mk_outside.specs.declared.causes.Cause.{Cause}
use Rattle.mk_outside.specs.declared.causes.Cause.TheVariants as cause

-- want of memory is a cause of its own, and a call that was interrupted is made again
abbrev pub cause_of : ErrorKind → Cause
cause_of kind.Interrupted = cause.Interrupted
cause_of kind.NotFound = cause.Absent
cause_of kind.OutOfMemory = cause.Memory
cause_of _ = cause.Failed
