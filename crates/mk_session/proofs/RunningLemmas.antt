-- What the calls of a run leave, from what the calls below them say.
use Rattle.std.proofs.Common.{◌≡◌, ◌≢◌, ℕ, Bool, false, ◌||◌, List, [], ◌∷◌, ◌++◌, Option, Some, None, refl, sym, ap, ◌∙◌, subst}
use Rattle.std.specs.Prelude.{Result, Ok, Err, IfSome}
use Rattle.std.proofs.lemmas.List.{append-nil}
use Rattle.mk_outside.specs.Tables.{no_tables}
use Rattle.mk_outside.specs.Counts.{Rose}
use Rattle.mk_outside.specs.declared.answers.PutFail.{PutFail}
use Rattle.mk_outside.specs.declared.answers.PutFail.TheVariants as put
use Rattle.mk_outside.specs.declared.tables.Tables.{Tables}
use Rattle.mk_outside.specs.Told.{Puts, AppendsPrefix}
use Rattle.mk_session.specs.declared.status.Ended.{Ended}
use Rattle.mk_found.specs.declared.effect.StepFail.{StepFail}
use Rattle.mk_found.specs.declared.effect.StepFail.TheVariants as fail
use Rattle.mk_words.specs.declared.command.Command.{Command}
use Rattle.mk_words.specs.declared.command.WordsKind.{WordsKind}
use Rattle.mk_words.specs.declared.command.WordsKind.TheVariants as words_kind
use Rattle.mk_kept.specs.declared.stored_rows.RowKind.{RowKind}
use Rattle.mk_session.specs.declared.work.Given.TheVariants as given
use Rattle.mk_session.specs.declared.work.Work.{Work}
use Rattle.mk_session.specs.declared.work.Work.TheVariants as work
use Rattle.mk_words.specs.Commands.{kind_of_words}
use Rattle.mk_session.specs.Outcomes.{IsUntouched}
use Rattle.mk_session.specs.declared.status.Status.{Status}
use Rattle.mk_session.specs.declared.status.Status.TheVariants as status
use Rattle.mk_found.specs.Effects.{Answers, Effect, Refuses, is_refusal, text_answered}
use Rattle.mk_session.specs.Ends.{Ends, StoppedAt, FileUnread, Uncommitted, Unanswered, OrderNoMemory, NextNoMemory, PutFailed, PutNoMemory, LineWritten, LineUnwritten, FirstNoMemory, Unloaded}
use Rattle.mk_session.specs.Status.{IsStatusOf}
use Rattle.mk_session.specs.Faults.{Faults}
use Rattle.mk_found.specs.Files.{Look}
use Rattle.mk_session.specs.Orders.{Asked, Order, Orders, orders_asked}
use Rattle.mk_session.specs.Run.{After, IsOneLine, BadStore, bad_store_text}
use Rattle.mk_session.specs.Opening.{IsBad, IsHeldByKeeper, IsLoaded}
use Rattle.mk_session.specs.Stepping.{IsDone, StepCounts, ended_of, is_refused_end}
use Rattle.mk_session.specs.Turns.{IsDoneAll, IsHalted}
use Rattle.mk_session.specs.Given.{IsGiven}
use Rattle.mk_session.specs.Running.{IsSaid, IsUnreadGiven, IsUnreadStatus, IsUnreadWork, SaidWhole, SaidFailed, SaidNoMemory, Leaves, SaysLine}
use Rattle.mk_session.proofs.TurnLemmas.{same_misses}

-- ---- puts

-- what was written of a piece
pub record IsPart (so_far so_far' : Option (List ℕ)) (piece : List ℕ) : Type 0 where
  pub part : List ℕ
  pub rest : List ℕ
  pub whole : piece ≡ part ++ rest
  pub written : IfSome so_far (λ s. so_far' ≡ Some (s ++ part))

pub put_whole : {A : Type 0} (done : A) (old new : Option (List ℕ)) (piece : List ℕ) → Puts old new piece (Ok done) → IfSome old (λ s. new ≡ Some (s ++ piece))
put_whole done None new piece puts = tt
put_whole done (Some old) new piece puts = puts

pub put_part : {A : Type 0} (result : Result A PutFail) (old new : Option (List ℕ)) (piece : List ℕ) → result ≡ Err put.Failed → Puts old new piece result → IsPart old new piece
put_part result None new piece is puts = record { part = []; rest = piece; whole = refl; written = tt }
put_part result (Some old) new piece is puts =
    let p : AppendsPrefix old new piece = subst (λ r. Puts (Some old) new piece r) is puts in
    record { part = p.prefix; rest = p.rest; whole = p.whole; written = p.appended }

pub put_nothing : {A : Type 0} (result : Result A PutFail) (old new : Option (List ℕ)) (piece : List ℕ) → result ≡ Err put.Memory → Puts old new piece result → IfSome old (λ s. new ≡ Some (s ++ []))
put_nothing result None new piece is puts = tt
put_nothing result (Some old) new piece is puts =
    let p : new ≡ Some old = subst (λ r. Puts (Some old) new piece r) is puts in
    p ∙ ap (λ (x : List ℕ). Some x) (sym (append-nil old))

pub nothing_written : (so_far : Option (List ℕ)) → IfSome so_far (λ s. so_far ≡ Some (s ++ []))
nothing_written None = tt
nothing_written (Some s) = ap (λ (x : List ℕ). Some x) (sym (append-nil s))

-- ---- a keeper that isn't loaded

pub held_as : (sound : Type 0) (told told' : Option Tables) → (sound → IfSome told (λ t. told' ≡ Some t)) → IsHeldByKeeper sound told told'
held_as sound None told' kept = record { t = no_tables; loaded = record { is_told = λ _. tt; stays = λ _. tt } }
held_as sound (Some t) told' kept = record { t = t; loaded = record { is_told = λ _. refl; stays = kept } }

-- ---- opening the store

same_faults : (f f' o o' k k' : ℕ) → f' ≡ f → o' ≡ o → k' ≡ k → let new : Faults =
    record { files = f'; output = o'; keeper = k' } in let old : Faults = record { files = f; output = o; keeper = k }
    in new ≡ old
same_faults f f' o o' k k' a b e = cc

-- the keeper isn't loaded
pub unloaded : (sound : Type 0) (files : Option Look) (orders : List Order) (told told' : Option Tables) (so_far : Option (List ℕ)) (f o k k' a : ℕ)
    → IsHeldByKeeper sound told told' → Rose k k' → Leaves sound files (Orders orders) told told' so_far so_far
    (record { files = f; output = o; keeper = k }) (record { files = f; output = o; keeper = k' }) a a status.Store
unloaded sound files orders told told' so_far f o k k' a held rose = record {
  t = held.t;
  added = [];
  left = held.t;
  tables_told = held.loaded.is_told;
  kept = held.loaded.stays;
  written = nothing_written so_far;
  ends_so = Unloaded orders refl (record { keeper = rose; files = refl; output = refl }) refl refl refl;
  misses = same_misses files held.t orders a;
}

-- memory is wanting before the first order
pub no_memory : (sound : Type 0) (files : Option Look) (asked : Asked) (told told' : Option Tables) (so_far : Option (List ℕ)) (f o k k' a : ℕ)
    → IsHeldByKeeper sound told told' → k' ≡ k → Leaves sound files asked told told' so_far so_far
    (record { files = f; output = o; keeper = k }) (record { files = f; output = o; keeper = k' }) a a status.Memory
no_memory sound files asked told told' so_far f o k k' a held same = record {
  t = held.t;
  added = [];
  left = held.t;
  tables_told = held.loaded.is_told;
  kept = held.loaded.stays;
  written = nothing_written so_far;
  ends_so = FirstNoMemory (same_faults f f o o k k' refl refl same) refl refl refl;
  misses = same_misses files held.t (orders_asked asked) a;
}

-- the one line of a run, which leaves the tables t
module _ (files : Option Look) (t : Tables) (asked : Asked) (line : List ℕ) (would : Status) (one : IsOneLine t asked line would) where
  line_ends : (f o o' k k' : ℕ) (part : List ℕ) (ends : Status) → IsSaid o o' line part would ends → k' ≡ k
      → Ends files t asked (record { files = f; output = o; keeper = k }) (record { files = f; output = o'; keeper = k' }) part t ends
  line_ends f o o' k k' part ends (SaidWhole is count status) same =
      LineWritten (subst (λ (s : Status). IsOneLine t asked part s) (sym status) (subst (λ (x : List ℕ). IsOneLine t asked x would) (sym is) one)) (same_faults f f o o' k k' refl count same) refl
  line_ends f o o' k k' part ends (SaidFailed rest is rose status) same =
      LineUnwritten line would one (PutFailed rest is (record { output = rose; files = refl; keeper = same }) status) refl
  line_ends f o o' k k' part ends (SaidNoMemory is count status) same =
      LineUnwritten line would one (PutNoMemory is (same_faults f f o o' k k' refl count same) status) refl

  pub said : (sound : Type 0) (told told' : Option Tables) (so_far so_far' : Option (List ℕ)) (f o o' k k' a : ℕ) (ends : Status)
      → IsLoaded sound told told' t → SaysLine so_far so_far' o o' line would ends → k' ≡ k
      → Leaves sound files asked told told' so_far so_far' (record { files = f; output = o; keeper = k }) (record { files = f; output = o'; keeper = k' }) a a ends
  said sound told told' so_far so_far' f o o' k k' a ends loaded says same = record {
    t = t;
    added = says.part;
    left = t;
    tables_told = loaded.is_told;
    kept = loaded.stays;
    written = says.written;
    ends_so = line_ends f o o' k k' says.part ends says.said same;
    misses = same_misses files t (orders_asked asked) a;
  }

-- the store's bad row
pub bad_row : (sound : Type 0) (files : Option Look) (orders : List Order) (told told' : Option Tables) (kind : RowKind)
    (number : ℕ) (line : List ℕ) (so_far so_far' : Option (List ℕ)) (f o o' k k' a : ℕ) (ends : Status)
    → IsBad sound told told' kind number → line ≡ bad_store_text kind number → SaysLine so_far so_far' o o' line status.BadStore ends → k' ≡ k
    → Leaves sound files (Orders orders) told told' so_far so_far' (record { files = f; output = o; keeper = k }) (record { files = f; output = o'; keeper = k' }) a a ends
bad_row sound files orders told told' kind number line so_far so_far' f o o' k k' a ends bad is says same =
    said files bad.t (Orders orders) line status.BadStore (BadStore orders refl kind number bad.bad is refl) sound told told' so_far so_far' f o o' k k' a ends bad.loaded says same

-- ---- one order

-- none is done yet
none_done : (files : Option Look) (t : Tables) (orders : List Order) → After files t orders orders []
none_done files t orders = record { done = []; whole = refl; does = refl }

-- the step ended with a failure
pub step_stopped : (files : Option Look) (t t' : Tables) (order : Order) (so_far : Option (List ℕ)) (f f' o k k' : ℕ) (fail : StepFail) (ends : Status)
    → StepCounts files t order f f' k k' (Err fail) → t' ≡ t → IsStatusOf fail ends
    → IsHalted files t t' (order ∷ []) so_far so_far (record { files = f; output = o; keeper = k }) (record { files = f'; output = o; keeper = k' }) ends
step_stopped files t t' order so_far f f' o k k' fail.Read ends counts same is =
    record {
      added = [];
      written = nothing_written so_far;
      halts = StoppedAt order [] [] (none_done files t (order ∷ [])) [] (FileUnread counts.0.name counts.0.reaches (record { files = counts.1; output = refl; keeper = counts.2 }) refl same is) refl;
    }
step_stopped files t t' order so_far f f' o k k' fail.Store ends counts same is =
    record {
      added = [];
      written = nothing_written so_far;
      halts = StoppedAt order [] [] (none_done files t (order ∷ [])) []
          (Uncommitted counts.0.batch counts.0.text counts.0.comes counts.0.some
          (record { keeper = counts.1; output = refl; files = counts.2 }) refl same is) refl;
    }
step_stopped files t t' order so_far f f' o k k' fail.Memory ends counts same is =
    record {
      added = [];
      written = nothing_written so_far;
      halts = StoppedAt order [] [] (none_done files t (order ∷ [])) [] (OrderNoMemory (same_faults f f' o o k k' counts.0 refl counts.1) refl same is) refl;
    }

is_refusal_end : (effect : Effect) → is_refused_end (ended_of effect) ≡ (is_refusal effect || false)
is_refusal_end (Refuses line) = refl
is_refusal_end (Answers batch text) = refl

module _ (files : Option Look) (t t' : Tables) (order : Order) (answer : List ℕ) (ended : Ended) (done : IsDone files t t' order [] answer ended) where
  -- and its answer was written
  pub answered : (so_far so_far' : Option (List ℕ)) (f f' o o' k k' : ℕ) (refused : Bool) → IfSome so_far (λ s. so_far' ≡ Some (s ++ answer)) → refused ≡ is_refused_end ended
      → f' ≡ f → o' ≡ o → k' ≡ k
      → IsDoneAll files t t' (order ∷ []) so_far so_far' (record { files = f; output = o; keeper = k }) (record { files = f'; output = o'; keeper = k' }) refused
  answered so_far so_far' f f' o o' k k' refused written is a b e = record {
    effects = done.effect ∷ [];
    does = (done.comes, refl);
    tables = done.tables;
    written = subst (λ (x : List ℕ). IfSome so_far (λ s. so_far' ≡ Some (s ++ x))) (done.answer ∙ sym (append-nil (text_answered done.effect))) written;
    counts = same_faults f f' o o' k k' a b e;
    refuses = is ∙ ap is_refused_end done.ends ∙ is_refusal_end done.effect;
  }

  -- or a part of it was
  pub unanswered : (so_far so_far' : Option (List ℕ)) (f f' o o' k k' : ℕ) → IsPart so_far so_far' answer → f' ≡ f → Rose o o' → k' ≡ k
      → IsHalted files t t' (order ∷ []) so_far so_far' (record { files = f; output = o; keeper = k }) (record { files = f'; output = o'; keeper = k' }) status.Write
  unanswered so_far so_far' f f' o o' k k' p a rose e = record {
    added = p.part;
    halts = StoppedAt order [] [] (none_done files t (order ∷ [])) p.part
        (Unanswered done.effect done.comes (PutFailed p.rest (sym done.answer ∙ p.whole) (record { output = rose; files = a; keeper = e }) refl) done.tables) refl;
    written = p.written;
  }

  -- or nothing, for want of memory
  pub unanswered_no_memory : (so_far so_far' : Option (List ℕ)) (f f' o o' k k' : ℕ) → IfSome so_far (λ s. so_far' ≡ Some (s ++ [])) → f' ≡ f → o' ≡ o → k' ≡ k
      → IsHalted files t t' (order ∷ []) so_far so_far' (record { files = f; output = o; keeper = k }) (record { files = f'; output = o'; keeper = k' }) status.Memory
  unanswered_no_memory so_far so_far' f f' o o' k k' written a b e = record {
    added = [];
    halts = StoppedAt order [] [] (none_done files t (order ∷ [])) []
        (Unanswered done.effect done.comes (PutNoMemory refl (same_faults f f' o o' k k' a b e) refl) done.tables) refl;
    written = written;
  }

-- ---- one line

-- memory is wanting before its order is known
pub line_no_memory : (files : Option Look) (t : Tables) (orders : List Order) (so_far : Option (List ℕ)) (old : Faults) → IsHalted files t t orders so_far so_far old old status.Memory
line_no_memory files t orders so_far old = record { added = []; halts = NextNoMemory orders [] (none_done files t orders) refl refl refl refl; written = nothing_written so_far }

-- ---- what is written where a file wasn't read

-- a status of another kind says nothing of it
pub other_status : (so_far so_far' : Option (List ℕ)) (ends : Status) → ends ≢ status.Read → IsUnreadStatus so_far so_far' ends
other_status so_far so_far' status.Read other = absurd (other refl)
other_status so_far so_far' status.Done other = tt
other_status so_far so_far' status.Refused other = tt
other_status so_far so_far' status.Words other = tt
other_status so_far so_far' status.Write other = tt
other_status so_far so_far' status.Store other = tt
other_status so_far so_far' status.Memory other = tt
other_status so_far so_far' status.BadStore other = tt
other_status so_far so_far' status.ScriptLong other = tt

-- the one line of a run reads no file
pub said_unread : (o o' : ℕ) (line part : List ℕ) (would ends : Status) → would ≢ status.Read → IsSaid o o' line part would ends → ends ≢ status.Read
said_unread o o' line part would ends other (SaidWhole is count same) e = other (sym same ∙ e)
said_unread o o' line part would ends other (SaidFailed rest is rose same) e = let h = sym same ∙ e in cc
said_unread o o' line part would ends other (SaidNoMemory is count same) e = let h = sym same ∙ e in cc

pub unread_through : (w : Work) (so_far so_far1 so_far2 : Option (List ℕ)) (ends : Status) → so_far1 ≡ so_far
    → IsUnreadWork {A = Bool} w so_far1 so_far2 (Err ends) → IsUnreadGiven w so_far so_far2 ends
unread_through (work.One order) so_far so_far1 so_far2 ends same unread = subst (λ (o : Option (List ℕ)). IsUnreadStatus o so_far2 ends) same unread
unread_through (work.Script text lines) so_far so_far1 so_far2 ends same unread = tt

untouched_status : (command : Command) (so_far so_far' : Option (List ℕ)) (ends : Status) → IsUnreadStatus so_far so_far' ends → IsUntouched (words_kind.Is command) so_far so_far' ends
untouched_status command so_far so_far' status.Read unread = unread
untouched_status command so_far so_far' status.Done unread = tt
untouched_status command so_far so_far' status.Refused unread = tt
untouched_status command so_far so_far' status.Words unread = tt
untouched_status command so_far so_far' status.Write unread = tt
untouched_status command so_far so_far' status.Store unread = tt
untouched_status command so_far so_far' status.Memory unread = tt
untouched_status command so_far so_far' status.BadStore unread = tt
untouched_status command so_far so_far' status.ScriptLong unread = tt

-- the one command of the words is the work
pub untouched : (words : List (List ℕ)) (left left' : Option (List ℕ)) (f f' : ℕ) (w : Work) (so_far so_far' : Option (List ℕ)) (ends : Status) → IsGiven words left left' f f' (given.Orders w)
    → IsUnreadGiven w so_far so_far' ends → IsUntouched (kind_of_words words) so_far so_far' ends
untouched words left left' f f' w so_far so_far' ends is unread = by_kind (kind_of_words words) refl
  where
    by_kind : (k : WordsKind) → kind_of_words words ≡ k → IsUntouched k so_far so_far' ends
    by_kind words_kind.Script e = tt
    by_kind words_kind.NotUnderstood e = tt
    by_kind (words_kind.Is command) e =
        let h = is.one command e in
        let same : w ≡ work.One (Some command) = cc in
        untouched_status command so_far so_far' ends (subst (λ (v : Work). IsUnreadGiven v so_far so_far' ends) same unread)

-- what a load gave is what is told
pub loaded_as : (sound : Type 0) (told told' : Option Tables) (t : Tables) → (sound → IfSome told (λ u. t ≡ u)) → (sound → IfSome told (λ u. told' ≡ Some u)) → IsLoaded sound told told' t
loaded_as sound None told' t gives kept = record { is_told = λ _. tt; stays = λ _. tt }
loaded_as sound (Some u) told' t gives kept = record { is_told = λ s. sym (gives s); stays = λ s. kept s ∙ ap (λ (x : Tables). Some x) (sym (gives s)) }
