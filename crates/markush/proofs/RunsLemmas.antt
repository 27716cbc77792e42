-- A run over a keeper as a run over a store.
--     over_store      what is said of the tables that the keeper tells is left out
use Rattle.std.specs.Prelude.{◌≡◌, ℕ, List, Option, Some, None, ⊤, refl}
use Rattle.std.proofs.Common.{subst}
use Rattle.mk_outside.specs.declared.tables.Tables.{Tables}
use Rattle.mk_session.specs.declared.status.Status.{Status}
use Rattle.mk_session.specs.Headline.{Headline}
use Rattle.mk_session.specs.Outcomes.{IsQuiet, WentSo}
use Rattle.mk_session.specs.Outcomes.WentSo.{InputUnread, Ended}
use Rattle.markush.specs.Runs.{Outside, with_keeper, RunsOverStore}

module _ (words : List (List ℕ)) (old new : Outside) (first last : Option Tables) (count faults : ℕ) (ends : Status) where
  -- how a run went says nothing of what the keeper told
  untold_went : (input : List ℕ) (t : Tables) (added : List ℕ) (left : Tables) → WentSo words input t (with_keeper old first count) (with_keeper new last faults) added left ends
      → WentSo words input t (with_keeper old None count) (with_keeper new None faults) added left ends
  untold_went input t added left (InputUnread kind rose same none kept read) = InputUnread kind rose same none kept read
  untold_went input t added left (Ended same went) = Ended same went

  -- nor does it that no call failed
  untold_quiet : IsQuiet (with_keeper old None count) (with_keeper new None faults) → IsQuiet (with_keeper old first count) (with_keeper new last faults)
  untold_quiet q = record { same = q.same; input_same = q.input_same; files = q.files; input = q.input; output = q.output; keeper = q.keeper }

  -- what is said of the told tables is left out
  untold : (sound : Type 0) → Headline sound words (with_keeper old first count) (with_keeper new last faults) ends
      → Headline ⊤ words (with_keeper old None count) (with_keeper new None faults) ends
  untold sound h = record {
    input = h.input;
    t = h.t;
    added = h.added;
    left = h.left;
    input_told = h.input_told;
    tables_told = λ _. tt;
    written = h.written;
    kept = λ _. tt;
    went_so = untold_went h.input h.t h.added h.left h.went_so;
    answered = h.answered;
    headline = λ quiet. h.headline (untold_quiet quiet);
    complete = λ quiet. h.complete (untold_quiet quiet);
    input_end = h.input_end;
    input_same = λ kind. record { left = (h.input_same kind).left; count = (h.input_same kind).count };
    input_taken = h.input_taken;
    rest_same = λ kind. record {
      tables = refl;
      files_count = (h.rest_same kind).files_count;
      keeper_count = (h.rest_same kind).keeper_count;
      absences = (h.rest_same kind).absences;
    };
    missed = h.missed;
  }

  -- a run over a keeper that is new is one over a store
  pub over_store : (sound : Type 0) → count ≡ 0 → Headline sound words (with_keeper old first count) (with_keeper new last faults) ends → RunsOverStore words old new ends
  over_store sound zero h = record { faults = faults; run = subst (λ n. Headline ⊤ words (with_keeper old None n) (with_keeper new None faults) ends) zero (untold sound h) }
