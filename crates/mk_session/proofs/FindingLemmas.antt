-- What a command that reads no file comes to.
--     seeks_without_files     it is what is sought, and the count of the files stays
--     kept_without_files      what holds of what was found holds of it as a step
--     drills_fit              what a drill comes to can be made without memory
use Rattle.std.proofs.Common.{◌≡◌, ℕ, Option, refl, rules, sym, subst}
use Rattle.std.specs.Prelude.{Result, Ok, Err, IfOk, Some}
use Rattle.mk_outside.specs.declared.tables.Tables.{Tables}
use Rattle.mk_words.specs.declared.command.Command.{Command}
use Rattle.mk_found.specs.declared.effect.Found.{Found}
use Rattle.mk_found.specs.declared.effect.StepFail.{StepFail}
use Rattle.mk_found.specs.Files.{Look}
use Rattle.mk_found.specs.Findings.{FoundFits, effect_of}
use Rattle.mk_library.specs.Library.{LibraryView}
use Rattle.mk_kept.specs.Saved.{SavedView}
use Rattle.mk_drill.specs.Answer.{IsDrillAnswer}
use Rattle.mk_session.specs.Step.{Comes}
use Rattle.mk_session.specs.Stepping.{Seeks, found_without_files}

-- where it comes to an effect it is what is sought, and no file was read
pub seeks_without_files : {E : Type 0} (files : Option Look) (t : Tables) (command : Command) (n : ℕ) (r : Result Found E) (result : Result Found StepFail)
    → result ≡ found_without_files r → IfOk r (λ f. Comes files t (Some command) (effect_of f)) → Seeks files t (Some command) n n result
unfolding found_without_files
seeks_without_files files t command n (Ok f) result is comes = subst (Seeks files t (Some command) n n) (sym is) (comes, refl)
seeks_without_files files t command n (Err e) result is comes = subst (Seeks files t (Some command) n n) (sym is) refl

-- what holds of what was found
pub kept_without_files : {E : Type 0} (P : Found → Type 0) (r : Result Found E) → IfOk r P → IfOk (found_without_files r) P
unfolding found_without_files
kept_without_files P (Ok f) holds = holds
kept_without_files P (Err e) holds = holds

-- a drill changes nothing, so it can be made without memory
pub drills_fit : {E : Type 0} (library : LibraryView) (saved : SavedView) (start count : ℕ) (r : Result Found E)
    → IfOk r (λ f. IsDrillAnswer start count (effect_of f)) → IfOk r (FoundFits library saved)
drills_fit library saved start count (Ok f) is = search rules
drills_fit library saved start count (Err e) is = is
