-- A file's turn that ends with a failure.
use Rattle.std.proofs.Common.{◌≡◌, ℕ, List, sym, subst}
use Rattle.std.specs.Prelude.{Result, Err}
use Rattle.mk_outside.specs.Counts.{Counts, Rose}
use Rattle.mk_outside.specs.declared.answers.FileFail.{FileFail}
use Rattle.mk_outside.specs.declared.answers.FileFail.TheVariants as file
use Rattle.mk_outside.specs.Told.{is_failed_read}
use Rattle.mk_found.specs.declared.effect.StepFail.{StepFail}
use Rattle.mk_found.specs.Effects.{Effect}
use Rattle.mk_found.specs.Fails.{IsStepFailOf}
use Rattle.mk_found.specs.Findings.{SeeksSo}

pub seek_failed : {A : Type 0} (Comes : Effect → Type 0) (Turn : List ℕ → Type 0) (name : List ℕ) (old new : ℕ) (fail : FileFail) (f : StepFail) (r : Result A FileFail) → Turn name
    → r ≡ Err fail → Counts (is_failed_read r) old new → IsStepFailOf fail f → SeeksSo Comes Turn old new (Err f)
seek_failed Comes Turn name old new file.Failed f r reaches was counts is =
    let rose : Rose old new = subst (λ q. Counts (is_failed_read q) old new) was counts in
    subst (λ (g : StepFail). SeeksSo Comes Turn old new (Err g)) (sym is) (record { name = name; reaches = reaches }, rose)
seek_failed Comes Turn name old new file.Memory f r reaches was counts is =
    let same : new ≡ old = subst (λ q. Counts (is_failed_read q) old new) was counts in
    subst (λ (g : StepFail). SeeksSo Comes Turn old new (Err g)) (sym is) same
