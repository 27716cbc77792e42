-- What a whole run leaves, from what its parts do.
use Rattle.std.proofs.Common.{◌≡◌, ◌≢◌, ℕ, ◌<◌, Bool, true, false, List, [], ◌++◌, Option, Some, None, refl, sym, ap, ◌∙◌, subst, arith}
use Rattle.std.specs.Prelude.{IfSome, Err}
use Rattle.std.specs.List.{list_any}
use Rattle.mk_outside.specs.Counts.{Rose}
use Rattle.mk_outside.specs.declared.tables.Tables.{Tables}
use Rattle.mk_words.specs.declared.command.WordsKind.{WordsKind}
use Rattle.mk_words.specs.declared.command.WordsKind.TheVariants as words_kind
use Rattle.mk_session.specs.declared.status.Status.{Status}
use Rattle.mk_session.specs.declared.status.Status.TheVariants as status
use Rattle.mk_session.specs.declared.work.Given.{Given}
use Rattle.mk_session.specs.declared.work.Given.TheVariants as given
use Rattle.mk_words.specs.Commands.{kind_of_words}
use Rattle.mk_session.specs.Run.{ending_if, texts, IsOneLine, IsRun, Misses, OneLine, Commands, NotUnderstood, ScriptLong, BadStore}
use Rattle.mk_found.specs.Effects.{is_refusal}
use Rattle.mk_session.specs.Ends.{Unwritten, PutFailed, PutNoMemory, Stopped, FileUnread, Uncommitted, OrderNoMemory, Unanswered, Halts, StoppedAt, NextNoMemory, Goes, AllDone, Halted, Ends, LineWritten, LineUnwritten, Unloaded, FirstNoMemory, Commands as EndsCommands}
use Rattle.mk_session.specs.Faults.{Faults, FilesFailed, OutputFailed, KeeperFailed}
use Rattle.mk_found.specs.Files.{Look}
use Rattle.mk_session.specs.Headline.{Headline}
use Rattle.mk_session.specs.Outcomes.{World, WentSo, InputUnread, Ended, IsQuiet, IsReadOut, IsAllDone, IsInputSame, IsRestSame, IsInputTaken, Done as ReadOutDone, Refused as ReadOutRefused, BadStore as ReadOutBadStore, AllCommandsDone, SomeRefused}
use Rattle.mk_session.specs.Orders.{Asked, NoCommand, Order, Orders, TooMuch, asked, asked_of, orders_asked}
use Rattle.mk_session.specs.Turns.{IsDoneAll, IsHalted}
use Rattle.mk_session.specs.Given.{IsGiven, Gives, asked_of_given}
use Rattle.mk_session.specs.Opening.{IsHeldByKeeper, IsLoaded}
use Rattle.mk_session.specs.Running.{Leaves}
use Rattle.mk_session.proofs.AnsweredLemmas.{answered_whole}
use Rattle.mk_session.proofs.ReadingLemmas.{Held_input, held_input}
use Rattle.mk_kept.specs.StoredRows.{AllRead}
use Rattle.mk_session.proofs.RunningLemmas.{held_as, nothing_written}
use Rattle.mk_kept.proofs.ForCallers.{reads_not_bad}
use Rattle.mk_session.proofs.TurnLemmas.{same_misses}

-- ---- a run once the store is open

-- what is kept, over both
kept_through : (told told1 told2 : Option Tables) (t t' : Tables) (sound1 sound2 : Type 0) → (sound2 → sound1)
    → (sound1 → IfSome told (λ _. told1 ≡ Some t)) → (sound2 → told1 ≡ Some t → told2 ≡ Some t')
    → sound2 → IfSome told (λ _. told2 ≡ Some t')
kept_through None told1 told2 t t' sound1 sound2 back stays kept s = tt
kept_through (Some u) told1 told2 t t' sound1 sound2 back stays kept s = kept s (stays (back s))

module _ (sound1 sound2 : Type 0) (files : Option Look) (orders : List Order) (told told1 told2 : Option Tables) (t t' : Tables) (so so1 so2 : Option (List ℕ)) (old mid new : Faults)
    (missed missed' : ℕ) (loaded : IsLoaded sound1 told told1 t) (reads : AllRead t) (same : so1 ≡ so)
    (counts : mid ≡ old) (back : sound2 → sound1) (kept : sound2 → told1 ≡ Some t → told2 ≡ Some t')
    (misses : Misses files t orders missed missed') where
  leaves_with : (added : List ℕ) (ends : Status) → Goes files t orders old new added t' ends
      → IfSome so (λ s. so2 ≡ Some (s ++ added)) → Leaves sound2 files (Orders orders) told told2 so so2 old new missed
      missed' ends
  leaves_with added ends goes written = record {
    t = t;
    added = added;
    left = t';
    tables_told = λ s. loaded.is_told (back s);
    written = written;
    kept = kept_through told told1 told2 t t' sound1 sound2 back loaded.stays kept;
    ends_so = EndsCommands orders refl reads goes;
    misses = misses;
  }

  pub leaves_done : (refused : Bool) (ends : Status) → IsDoneAll files t t' orders so1 so2 mid new refused
      → ends ≡ ending_if refused → Leaves sound2 files (Orders orders) told told2 so so2 old new missed missed' ends
  leaves_done refused ends d is =
      leaves_with (texts d.effects) ends (AllDone d.effects d.does (d.counts ∙ counts) refl d.tables
      (is ∙ ap ending_if d.refuses)) (subst (λ (o : Option (List ℕ)). IfSome o
      (λ s. so2 ≡ Some (s ++ texts d.effects))) same d.written)

  pub leaves_halted : (ends : Status) → IsHalted files t t' orders so1 so2 mid new ends → Leaves sound2 files (Orders orders) told told2 so so2 old new missed missed' ends
  leaves_halted ends h =
      leaves_with h.added ends (Halted (subst (λ (o : Faults). Halts files t orders o new h.added t' ends) counts
      h.halts)) (subst (λ (o : Option (List ℕ)). IfSome o (λ s. so2 ≡ Some (s ++ h.added))) same h.written)

-- ---- a run in which no call failed

rose_above : (old new : ℕ) → Rose old new → new ≡ old → old < 18446744073709551615 → ⊥
rose_above old new rose same below = let up : old < new = rose.above (omega (arith, same, below)) in omega (arith, up, same)

module _ (files : Option Look) (t : Tables) (old new : Faults) (same : new ≡ old) (f : old.files < 18446744073709551615)
    (o : old.output < 18446744073709551615) (k : old.keeper < 18446744073709551615) where
  not_files : FilesFailed old new → ⊥
  not_files failed = rose_above old.files new.files failed.files (ap (λ (x : Faults). x.files) same) f

  not_output : OutputFailed old new → ⊥
  not_output failed = rose_above old.output new.output failed.output (ap (λ (x : Faults). x.output) same) o

  not_keeper : KeeperFailed old new → ⊥
  not_keeper failed = rose_above old.keeper new.keeper failed.keeper (ap (λ (x : Faults). x.keeper) same) k

  not_unwritten : (text part : List ℕ) (ends : Status) → ends ≢ status.Memory → Unwritten old new text part ends → ⊥
  not_unwritten text part ends more (PutFailed rest is failed e) = not_output failed
  not_unwritten text part ends more (PutNoMemory is count e) = more e

  not_stopped : (u : Tables) (order : Order) (part : List ℕ) (left : Tables) (ends : Status) → ends ≢ status.Memory → Stopped files u order old new part left ends → ⊥
  not_stopped u order part left ends more (FileUnread name reaches failed a b e) = not_files failed
  not_stopped u order part left ends more (Uncommitted batch text comes some failed a b e) = not_keeper failed
  not_stopped u order part left ends more (OrderNoMemory count a b e) = more e
  not_stopped u order part left ends more (Unanswered effect comes unwritten b) = not_unwritten _ part ends more unwritten

  not_halted : (orders : List Order) (added : List ℕ) (left : Tables) (ends : Status) → ends ≢ status.Memory → Halts files t orders old new added left ends → ⊥
  not_halted orders added left ends more (StoppedAt order others effects after part stopped is) = not_stopped _ order part left ends more stopped
  not_halted orders added left ends more (NextNoMemory others effects after count is kept e) = more e

  by_orders : (asked : Asked) (orders : List Order) (added : List ℕ) (left : Tables) (ends : Status) → asked ≡ Orders orders → AllRead t → ends ≢ status.Memory
      → Goes files t orders old new added left ends → IsRun files t asked added left ends
  by_orders asked orders added left ends is reads more (AllDone effects does count a b e) = Commands orders is reads effects does a b e
  by_orders asked orders added left ends is reads more (Halted h) = absurd (not_halted orders added left ends more h)

  pub run_of : (asked : Asked) (added : List ℕ) (left : Tables) (ends : Status) → ends ≢ status.Memory → Ends files t asked old new added left ends → IsRun files t asked added left ends
  run_of asked added left ends more (LineWritten one count is) = OneLine one is
  run_of asked added left ends more (LineUnwritten line would one unwritten is) = absurd (not_unwritten line added ends more unwritten)
  run_of asked added left ends more (Unloaded orders is failed a b e) = absurd (not_keeper failed)
  run_of asked added left ends more (FirstNoMemory count a b e) = absurd (more e)
  run_of asked added left ends more (EndsCommands orders is reads goes) = by_orders asked orders added left ends is reads more goes

-- ---- completeness

pub no_line : (t : Tables) (asked : Asked) (orders : List Order) (line : List ℕ) (ends : Status) → asked ≡ Orders orders → AllRead t → IsOneLine t asked line ends → ⊥
no_line t asked orders line ends is reads (NotUnderstood e a b) = let h = sym e ∙ is in cc
no_line t asked orders line ends is reads (ScriptLong e a b) = let h = sym e ∙ is in cc
no_line t asked orders line ends is reads (BadStore others e kind number bad a b) = reads_not_bad t kind number reads bad

done_by : (refused : Bool) (ends : Status) → ends ≡ ending_if refused → IsAllDone ends
done_by true ends is = SomeRefused is
done_by false ends is = AllCommandsDone is

pub all_done : (files : Option Look) (t : Tables) (asked : Asked) (added : List ℕ) (left : Tables) (ends : Status) (orders : List Order) → asked ≡ Orders orders → AllRead t
    → IsRun files t asked added left ends → IsAllDone ends
all_done files t asked added left ends orders is reads (OneLine one a) = absurd (no_line t asked orders added ends is reads one)
all_done files t asked added left ends orders is reads (Commands others e f effects does a b ended) = done_by (list_any is_refusal effects) ends ended

-- ---- a script over its limit

not_read_out : (ends : Status) → IsReadOut ends → ends ≢ status.ScriptLong × ends ≢ status.Write × ends ≢ status.Memory × ends ≢ status.Store
not_read_out ends (ReadOutDone is) = (λ e. let h = sym is ∙ e in cc, λ e. let h = sym is ∙ e in cc, λ e. let h = sym is ∙ e in cc, λ e. let h = sym is ∙ e in cc)
not_read_out ends (ReadOutRefused is) = (λ e. let h = sym is ∙ e in cc, λ e. let h = sym is ∙ e in cc, λ e. let h = sym is ∙ e in cc, λ e. let h = sym is ∙ e in cc)
not_read_out ends (ReadOutBadStore is) = (λ e. let h = sym is ∙ e in cc, λ e. let h = sym is ∙ e in cc, λ e. let h = sym is ∙ e in cc, λ e. let h = sym is ∙ e in cc)

too_much_line : (t : Tables) (line : List ℕ) (ends : Status) → IsOneLine t TooMuch line ends → ends ≡ status.ScriptLong
too_much_line t line ends (NotUnderstood e a b) = absurd cc
too_much_line t line ends (ScriptLong e a b) = b
too_much_line t line ends (BadStore others e kind number bad a b) = absurd cc

unwritten_line : (old new : Faults) (text part : List ℕ) (ends : Status) → IsReadOut ends → Unwritten old new text part ends → ⊥
unwritten_line old new text part ends out (PutFailed rest is failed e) = (not_read_out ends out).1 e
unwritten_line old new text part ends out (PutNoMemory is count e) = (not_read_out ends out).2 e

pub too_much : (files : Option Look) (t : Tables) (old new : Faults) (added : List ℕ) (left : Tables) (ends : Status) → IsReadOut ends → Ends files t TooMuch old new added left ends → ⊥
too_much files t old new added left ends out (LineWritten one count is) = (not_read_out ends out).0 (too_much_line t added ends one)
too_much files t old new added left ends out (LineUnwritten line would one unwritten is) = unwritten_line old new line added ends out unwritten
too_much files t old new added left ends out (Unloaded orders is failed a b e) = (not_read_out ends out).3 e
too_much files t old new added left ends out (FirstNoMemory count a b e) = (not_read_out ends out).2 e
too_much files t old new added left ends out (EndsCommands orders is reads goes) = cc

-- ---- the statement

module _ (sound : Type 0) (words : List (List ℕ)) (old new : World) (ends : Status) where
  -- what follows from the way in which the run went
  quiet_run : (input : List ℕ) (t : Tables) (added : List ℕ) (left : Tables) → WentSo words input t old new added left ends → IsQuiet old new → ends ≢ status.Memory
      → IsRun old.files t (asked words input) added left ends
  quiet_run input t added left (InputUnread is rose same a b e) quiet more = absurd (rose_above old.input_faults new.input_faults rose quiet.input_same quiet.input)
  quiet_run input t added left (Ended same e) quiet more =
      run_of old.files t old.faults new.faults quiet.same quiet.files quiet.output quiet.keeper (asked words input) added left ends more e

  -- the run ended once the input was read, or wasn't needed
  module _ (g : Given) (is : IsGiven words old.input new.input old.input_faults new.input_faults g)
      (leaves : Leaves sound old.files (asked_of_given g) old.tables new.tables old.output new.output old.faults new.faults old.absences new.absences ends)
      (rest : kind_of_words words ≡ words_kind.NotUnderstood → IsRestSame old new) (taken : IsInputTaken old.input new.input) where
    went : WentSo words is.input leaves.t old new leaves.added leaves.left ends
    went = Ended is.count (subst (λ (a : Asked). Ends old.files leaves.t a old.faults new.faults leaves.added leaves.left ends) (sym is.asks) leaves.ends_so)

    not_too_much : IsReadOut ends → g ≢ given.TooMuch
    not_too_much out e =
        too_much old.files leaves.t old.faults new.faults leaves.added leaves.left ends out
        (subst (λ (a : Asked). Ends old.files leaves.t a old.faults new.faults leaves.added leaves.left ends) (ap asked_of_given e) leaves.ends_so)

    pub headline_ended : Headline sound words old new ends
    headline_ended = record {
      input = is.input;
      t = leaves.t;
      added = leaves.added;
      left = leaves.left;
      input_told = is.is_told;
      tables_told = leaves.tables_told;
      written = leaves.written;
      kept = leaves.kept;
      went_so = went;
      answered = λ a. answered_whole words is.input leaves.t old new leaves.added leaves.left ends a went;
      headline = quiet_run is.input leaves.t leaves.added leaves.left went;
      complete = λ quiet more orders a reads. all_done old.files leaves.t (asked words is.input) leaves.added leaves.left ends orders a reads
          (quiet_run is.input leaves.t leaves.added leaves.left went quiet more);
      input_end = λ script out. is.at_end script (not_too_much out);
      input_same = λ other. record { left = is.same other; count = is.count };
      input_taken = taken;
      rest_same = rest;
      missed = subst (λ (a : Asked). Misses old.files leaves.t (orders_asked a) old.absences new.absences) (sym is.asks) leaves.misses;
    }

-- ---- a run that touched nothing but the input and the output

stays_same : (told told' : Option Tables) → told' ≡ told → IfSome told (λ t. told' ≡ Some t)
stays_same None told' e = tt
stays_same (Some t) told' e = e

pub untouched_keeper : (sound : Type 0) (told : Option Tables) → IsHeldByKeeper sound told told
untouched_keeper sound told = held_as sound told told (λ _. stays_same told told refl)

-- the words are understood
pub understood : (words : List (List ℕ)) (left left' : Option (List ℕ)) (f f' : ℕ) (g : Given)
    → IsGiven words left left' f f' g → asked_of_given g ≢ NoCommand → kind_of_words words ≢ words_kind.NotUnderstood
understood words left left' f f' g is other e = other (sym is.asks ∙ ap (λ (k : WordsKind). asked_of k is.input) e)

module _ (sound : Type 0) (words : List (List ℕ)) (old new : World) (out : new.output ≡ old.output)
    (tables : new.tables ≡ old.tables) (faults : new.faults ≡ old.faults) (absences : new.absences ≡ old.absences)
    (taken : IsInputTaken old.input new.input) where
  stopped_with : (ends : Status) (input : Held_input old.input) (held : IsHeldByKeeper sound old.tables new.tables) → WentSo words input.text held.t old new [] held.t ends → (IsReadOut ends → ⊥)
      → (kind_of_words words ≢ words_kind.Script → IsInputSame old new) → Headline sound words old new ends
  stopped_with ends input held went out_of same = record {
    input = input.text;
    t = held.t;
    added = [];
    left = held.t;
    input_told = input.is_told;
    tables_told = held.loaded.is_told;
    kept = held.loaded.stays;
    written = subst (λ (o : Option (List ℕ)). IfSome old.output (λ s. o ≡ Some (s ++ []))) (sym out) (nothing_written old.output);
    went_so = went;
    answered = λ a. answered_whole words input.text held.t old new [] held.t ends a went;
    headline = quiet_run sound words old new ends input.text held.t [] held.t went;
    complete = λ quiet more orders a reads. all_done old.files held.t (asked words input.text) [] held.t ends orders a
        reads (quiet_run sound words old new ends input.text held.t [] held.t went quiet more);
    input_end = λ script read_out. absurd (out_of read_out);
    input_same = same;
    input_taken = taken;
    rest_same = λ _. record { tables = tables; files_count = ap (λ (x : Faults). x.files) faults; keeper_count = ap (λ (x : Faults). x.keeper) faults; absences = absences };
    missed = subst (λ (n : ℕ). Misses old.files held.t (orders_asked (asked words input.text)) old.absences n)
        (sym absences) (same_misses old.files held.t (orders_asked (asked words input.text)) old.absences);
  }

  held_here : IsHeldByKeeper sound old.tables new.tables
  held_here = held_as sound old.tables new.tables (λ _. stays_same old.tables new.tables tables)

  pub headline_stopped : (ends : Status) → Gives words old.input new.input old.input_faults new.input_faults (Err ends) → Headline sound words old new ends
  headline_stopped status.Read gives =
      stopped_with status.Read (held_input old.input) held_here (InputUnread gives.0 gives.1 faults refl refl refl) not_out (λ other. absurd (other gives.0))
    where
      not_out : IsReadOut status.Read → ⊥
      not_out (ReadOutDone is) = absurd cc
      not_out (ReadOutRefused is) = absurd cc
      not_out (ReadOutBadStore is) = absurd cc
  headline_stopped status.Memory gives =
      stopped_with status.Memory (held_input old.input) held_here (Ended gives.0 (FirstNoMemory faults refl refl refl)) (λ out. (not_read_out status.Memory out).2 refl)
      (λ other. record { left = gives.1 other; count = gives.0 })
  headline_stopped status.Done gives = absurd gives
  headline_stopped status.Refused gives = absurd gives
  headline_stopped status.Words gives = absurd gives
  headline_stopped status.Write gives = absurd gives
  headline_stopped status.Store gives = absurd gives
  headline_stopped status.BadStore gives = absurd gives
  headline_stopped status.ScriptLong gives = absurd gives
