-- One command on a session: what a change makes of the tables.
--     stepped_err, step_counted        a command that failed
--     saved_installed                  a change of queries and saved searches changes the whole tables so
use Rattle.std.proofs.Common.{◌≡◌, ℕ, List, Option, refl, sym, ap, ◌∙◌, subst, All}
use Rattle.std.specs.Prelude.{Result, Ok, Err, IsErr}
use Rattle.mk_outside.specs.declared.tables.Change.{Change}
use Rattle.mk_outside.specs.declared.tables.Tables.{Tables}
use Rattle.mk_outside.specs.Tables.{after_batch}
use Rattle.mk_library.specs.Library.{IsSame, LibraryView}
use Rattle.mk_session.specs.declared.status.Ended.{Ended}
use Rattle.mk_found.specs.declared.effect.StepFail.{StepFail}
use Rattle.mk_kept.specs.Saved.{IsSameSaved, SavedView, saved_tables}
use Rattle.mk_found.specs.Files.{Look}
use Rattle.mk_session.specs.Orders.{Order}
use Rattle.mk_session.specs.Stepping.{ChangeCounts, IsStepped, StepCounts}
use Rattle.mk_found.specs.Findings.{changes_of, stands_for}
use Rattle.mk_session.specs.Step.{Comes}
use Rattle.mk_found.specs.Effects.{Answers}
use Rattle.mk_found.specs.Fails.{IsStepFailOfKeep}
use Rattle.mk_found.specs.declared.effect.SessionEdit.{SessionEdit}
use Rattle.mk_outside.specs.declared.answers.KeepFail.{KeepFail}
use Rattle.mk_outside.specs.declared.answers.KeepFail.TheVariants as keep
use Rattle.mk_kept.specs.SavedPending.{IsOfSaved}
use Rattle.mk_kept.proofs.ForCallers.{saved_alone}

-- ---- steps

-- a command that failed left all as it was
pub stepped_err : (files : Option Look) (t t' : Tables) (order : Order) (old new : List ℕ) (r : Result Ended StepFail) → IsErr r → t' ≡ t → new ≡ old → IsStepped files t t' order old new r
stepped_err files t t' order old new (Ok e) is same answer = absurd cc
stepped_err files t t' order old new (Err e) is same answer = (same, answer)

-- an edit that couldn't be kept changes the counts so
pub step_counted : (files : Option Look) (t u : Tables) (order : Order) (f f' k k' : ℕ) (change : SessionEdit) (text : List ℕ) (fail : KeepFail) (said : StepFail) → IsStepFailOfKeep fail said
    → u ≡ t → Comes files u order (Answers (changes_of change) text) → f' ≡ f → ChangeCounts {A = Unit {0}} (changes_of change) k k' (Err fail) → StepCounts files t order f f' k k' (Err said)
step_counted files t u order f f' k k' change text keep.Failed said is tables comes same counts =
    let here = subst (λ (v : Tables). Comes files v order (Answers (changes_of change) text)) tables comes in
    subst (λ (s : StepFail). StepCounts files t order f f' k k' (Err s)) (sym is) (record { batch = changes_of change; text = text; comes = here; some = counts.0 }, counts.1, same)
step_counted files t u order f f' k k' change text keep.Memory said is tables comes same counts =
    subst (λ (s : StepFail). StepCounts files t order f f' k k' (Err s)) (sym is) (same, counts)

-- ---- changes

-- what holds the same stands for the same tables
pub same_tables : (a b : LibraryView) (saved other : SavedView) → IsSame a b → IsSameSaved saved other → stands_for b other ≡ stands_for a saved
same_tables a b saved other same is = rw (same.records, same.next_record, is.queries, is.cursors, is.next_cursor) refl

-- what is made of the queries and saved searches, the batch makes of the whole tables
pub saved_installed : (batch : List Change) (library : LibraryView) (a b : SavedView) → All IsOfSaved batch → saved_tables b ≡ after_batch batch (saved_tables a)
    → stands_for library b ≡ after_batch batch (stands_for library a)
saved_installed batch library a b all is =
    let whole = saved_alone batch (stands_for library a) all in
    ap (λ (t : Tables). record (stands_for library a) { queries = t.queries; cursors = t.cursors; next_cursor = t.next_cursor }) is ∙ sym whole
