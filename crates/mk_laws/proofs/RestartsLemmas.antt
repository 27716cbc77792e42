-- Two runs over one file, of which the second opens what the first left.
--     runs_of_one_file, cut_run_goes_on      the laws
use Rattle.std.proofs.Math.Logic.{∥∥₁_map}
use Rattle.std.proofs.Common.{◌≡◌, ◌∙◌, inl, inr, ℕ, ◌+◌, ◌≤◌, List, [], ◌∷◌, ◌++◌, length, Option, Some, IfSome, refl, sym, ap, subst, arith, length-append}
use Rattle.std.specs.List.{AllByRecursion}
use Rattle.sqlite_disk.specs.declared.Disk.{Ghosts}
use Rattle.mk_text.specs.Lines.{lines_of}
use Rattle.mk_outside.specs.declared.tables.Tables.{Tables}
use Rattle.mk_outside.specs.Tables.{after_batch}
use Rattle.sqlite.specs.Files.{file_state}
use Rattle.mk_sqlite.specs.Keeps.{told_in}
use Rattle.mk_sqlite.specs.Restart.{SettledIsFound, CrashIsFound}
use Rattle.mk_words.specs.Commands.{kind_of_words}
use Rattle.mk_words.specs.declared.command.WordsKind.{WordsKind}
use Rattle.mk_words.specs.declared.command.WordsKind.TheVariants as words_kind
use Rattle.mk_kept.specs.StoredRows.{AllRead, CanGoOn}
use Rattle.mk_found.specs.Effects.{Effect, Answers}
use Rattle.mk_found.specs.Files.{Look}
use Rattle.mk_session.specs.declared.status.Status.{Status}
use Rattle.mk_session.specs.Given.{CanAskOrder}
use Rattle.mk_session.specs.Orders.{Asked, Order, asked, asked_of, asked_of_script, orders_of, script_bytes}
use Rattle.mk_session.specs.Run.{Does, IsRun, after_effects, status_behind, texts}
use Rattle.mk_session.specs.Outcomes.{IsAllDone}
use Rattle.mk_session.proofs.TurnLemmas.{does_more, after_more}
use Rattle.mk_laws.specs.Laws.{RunsKeepReading, TwoScripts}
use Rattle.mk_laws.specs.Restarts.{Ran, GoesOn, RunsOfOneFile, CutRunGoesOn}
use Rattle.mk_laws.proofs.JoinLemmas.{asked_short, both_runs, of_second}
use Rattle.mk_laws.proofs.CommandsGoOnLemmas.{KeepingLaws}
use Rattle.mk_laws.proofs.GoingOnLemmas.{lines_ask, orders_go_on}

-- ---- a run of a script

-- the run by what it wrote and left
record IsRunOf (files : Option Look) (t : Tables) (script : List ℕ) (told' : Option Tables) (so_far so_far' : List ℕ) (ends : Status) : Type 0 where
  added : List ℕ
  left : Tables
  run : IsRun files t (asked_of_script script) added left ends
  adds : so_far' ≡ so_far ++ added
  leaves : told' ≡ Some left
  goes_on : RunsKeepReading → CanGoOn t → CanGoOn left
  done : AllRead t → length script ≤ script_bytes → IsAllDone ends

some_same : {A : Type 0} (a b : A) → Some a ≡ Some b → a ≡ b
some_same a b e = cc

if_told : {A : Type 0} (told : Option A) (value : A) (P : A → Type 0) → told ≡ Some value → IfSome told P → P value
if_told told value P is h = rw is at h

asked_script : (kind : WordsKind) (input script : List ℕ) → kind ≡ words_kind.Script → script ≡ input → asked_of kind input ≡ asked_of_script script
asked_script kind input script is same = rw (is, same) refl

module _ (sound : Type 0) (files : Option Look) (script : List ℕ) (t : Tables) (told told' : Option Tables) (so_far so_far' : List ℕ) (ends : Status) where
  ran_so : Ran sound files script told told' so_far so_far' ends → told ≡ Some t → sound → IsRunOf files t script told' so_far so_far' ends
  ran_so r is_told is_sound =
      let h = r.headline in
      let input : script ≡ h.input = if_told r.old.input script (λ x. x ≡ h.input) r.input h.input_told in
      let tables : t ≡ h.t = if_told r.old.tables t (λ x. x ≡ h.t) (r.tables ∙ is_told) (h.tables_told is_sound) in
      let asks : asked r.words h.input ≡ asked_of_script script = asked_script (kind_of_words r.words) h.input script r.is_script input in
      let whole : IsRun r.old.files h.t (asked r.words h.input) h.added h.left ends = h.headline r.quiet r.sufficed in
      let looked : IsRun files h.t (asked r.words h.input) h.added h.left ends = subst (λ (f : Option Look). IsRun f h.t (asked r.words h.input) h.added h.left ends) r.look whole in
      let from : IsRun files t (asked r.words h.input) h.added h.left ends = subst (λ (u : Tables). IsRun files u (asked r.words h.input) h.added h.left ends) (sym tables) looked in
      let here : IsRun files t (asked_of_script script) h.added h.left ends = subst (λ (a : Asked). IsRun files t a h.added h.left ends) asks from in
      record {
        added = h.added;
        left = h.left;
        run = here;
        adds = some_same so_far' (so_far ++ h.added) (sym r.written_left ∙ if_told r.old.output so_far (λ s. r.new.output ≡ Some (s ++ h.added)) r.written h.written);
        leaves = sym r.tables_left ∙ if_told r.old.tables t (λ _. r.new.tables ≡ Some h.left) (r.tables ∙ is_told) (h.kept is_sound);
        goes_on = λ keep go. keep r.old.files h.t h.left r.words h.input h.added ends whole (subst CanGoOn tables go);
        done = λ reads short. h.complete r.quiet r.sufficed (orders_of (lines_of script)) (asks ∙ asked_short script short) (subst AllRead tables reads);
      }

module _ {D E : Type 0} (g : Ghosts D) (h : Ghosts E) where
  -- ---- a run behind a whole one

  pub runs_of_one_file : RunsKeepReading → TwoScripts → SettledIsFound g h → RunsOfOneFile g h
  runs_of_one_file keep two settled c image later last files t first second so_far so_far' next next' ends ends' go ran upheld sound may opened is_sound ran' last_sound short =
      let both : length ((first ++ 10 ∷ []) ++ second) ≡ length (first ++ 10 ∷ []) + length second = length-append (first ++ 10 ∷ []) second in
      let one = ran_so _ files (first ++ 10 ∷ []) t (Some t) (told_in (file_state c)) so_far so_far' ends ran refl sound in
      let found : told_in (file_state later) ≡ Some one.left = settled c image later upheld sound may opened is_sound ∙ one.leaves in
      let other = ran_so _ files second one.left (told_in (file_state later)) (told_in (file_state last)) next next' ends' ran' found last_sound in
      record {
        added = one.added;
        behind = other.added;
        left = other.left;
        run = two files t one.left other.left first second one.added other.added ends ends' one.run (one.done go.reads (omega arith)) (one.goes_on keep go).reads other.run short;
        added_first = one.adds;
        added_then = other.adds;
        left_is_told = other.leaves;
      }

-- ---- a run behind one that was cut

-- the first of what can be asked can be asked
front_asks : (xs ys : List Order) → AllByRecursion CanAskOrder (xs ++ ys) → AllByRecursion CanAskOrder xs
front_asks [] ys asks = tt
front_asks (x ∷ xs) ys asks = (asks.0, front_asks xs ys asks.1)

-- what was done reads where the rows before it did
done_reads : KeepingLaws → (files : Option Look) (t : Tables) (done rest : List Order) (effects : List Effect) → AllByRecursion CanAskOrder (done ++ rest) → Does files t done effects → CanGoOn t
    → AllRead (after_effects effects t)
done_reads laws files t done rest effects asks does go = (orders_go_on laws files t done effects (front_asks done rest asks) does go).reads

module _ (sound : Type 0) (files : Option Look) (t : Tables) (done : List Order) (effects : List Effect) (second next next' : List ℕ) (told told' : Option Tables) (ends : Status) where
  -- behind orders that were done, a script goes on
  goes_on : AllRead t → AllRead (after_effects effects t) → Does files t done effects → told ≡ Some (after_effects effects t)
      → Ran sound files second told told' next next' ends → sound → length second ≤ script_bytes → GoesOn files t done effects second next next' told' ends
  goes_on reads still does is_told ran is_sound short =
      let it = ran_so sound files second (after_effects effects t) told told' next next' ends ran is_told is_sound in
      record {
        behind = it.added;
        left = it.left;
        run =
            both_runs files t (after_effects effects t) it.left done (orders_of (lines_of second)) (texts effects) it.added (status_behind effects) ends _ refl
            (record { reads = reads; effects = effects; does = does; adds = refl; leaves = refl; status = refl })
            (of_second files (after_effects effects t) _ _ it.added it.left ends (asked_short second short) still it.run);
        added_then = it.adds;
        left_is_told = it.leaves;
      }

one_more_asks : (done others : List Order) (order : Order) → (done ++ order ∷ []) ++ others ≡ done ++ order ∷ others
one_more_asks [] others order = refl
one_more_asks (x ∷ done) others order = ap (λ (xs : List Order). x ∷ xs) (one_more_asks done others order)

module _ {D E : Type 0} (g : Ghosts D) (h : Ghosts E) where
  pub cut_run_goes_on : KeepingLaws → CrashIsFound g h → CutRunGoesOn g h
  cut_run_goes_on laws law old c image later last files t first done rest order effects batch text second next next' ends go are does comes told crash upheld clean may opened sound ran at_end short =
      let asks : AllByRecursion CanAskOrder (done ++ order ∷ rest) = subst (AllByRecursion CanAskOrder) are (lines_ask (lines_of first)) in
      let more : Does files t (done ++ order ∷ []) (effects ++ Answers batch text ∷ []) = does_more files t done (order ∷ []) effects (Answers batch text ∷ []) does (comes, refl) in
      let after : after_effects (effects ++ Answers batch text ∷ []) t ≡ after_batch batch (after_effects effects t) = after_more t effects (Answers batch text ∷ []) in
      ∥∥₁_map (law old c batch (after_effects effects t) image later crash told upheld clean may opened sound) (λ found. elim found [
        | inl before ↦ inl (goes_on _ files t done effects second next next' (told_in (file_state later)) (told_in (file_state last)) ends go.reads
            (done_reads laws files t done (order ∷ rest) effects asks does go) does before ran at_end short)
        | inr behind ↦ inr (goes_on _ files t (done ++ order ∷ []) (effects ++ Answers batch text ∷ []) second next next' (told_in (file_state later)) (told_in (file_state last)) ends go.reads
            (done_reads laws files t (done ++ order ∷ []) rest (effects ++ Answers batch text ∷ []) (subst (AllByRecursion CanAskOrder) (sym (one_more_asks done rest order)) asks) more go)
            more (behind ∙ ap Some (sym after)) ran at_end short)
      ])
