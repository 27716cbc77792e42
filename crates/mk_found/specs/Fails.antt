-- How a failure is handed on.
--     IsStepFailOf fail, IsStepFailOfKeep fail     a command ends as its call did
use Rattle.std.specs.Prelude.{◌≡◌}
use Rattle.mk_outside.specs.declared.answers.FileFail.{FileFail}
use Rattle.mk_outside.specs.declared.answers.FileFail.TheVariants as file
use Rattle.mk_outside.specs.declared.answers.KeepFail.{KeepFail}
use Rattle.mk_outside.specs.declared.answers.KeepFail.TheVariants as keep
use Rattle.mk_found.specs.declared.effect.StepFail.{StepFail}
use Rattle.mk_found.specs.declared.effect.StepFail.TheVariants as step

-- a read that failed is a command that couldn't read
abbrev pub IsStepFailOf : FileFail → StepFail → Type 0
IsStepFailOf file.Failed f = f ≡ step.Read
IsStepFailOf file.Memory f = f ≡ step.Memory

-- a commit that failed is a command that couldn't be kept
abbrev pub IsStepFailOfKeep : KeepFail → StepFail → Type 0
IsStepFailOfKeep keep.Failed f = f ≡ step.Store
IsStepFailOfKeep keep.Memory f = f ≡ step.Memory
