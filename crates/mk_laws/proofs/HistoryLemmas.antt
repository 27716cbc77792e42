-- A history without its frames.
--     histories_are_scripts, sessions_end_as_scripts, one_session
use Rattle.std.proofs.Common.{◌≡◌, ℕ, ◌+◌, ◌<◌, Bool, true, false, List, [], ◌∷◌, ◌++◌, length, map, Option, Some, refl, sym, ap, ◌∙◌, subst, arith, length-append}
use Rattle.std.specs.Prelude.{◌==◌, codes, decimal, if◌then◌else◌}
use Rattle.std.specs.Char.{is_ascii_digit}
use Rattle.std.specs.List.{AllByRecursion, list_all}
use Rattle.std.proofs.lemmas.Bool.Decides.{nat_tests}
use Rattle.mk_text.proofs.ForCallers.{both, decimal_digits}
use Rattle.mk_found.specs.Effects.{Effect, text_answered}
use Rattle.mk_found.specs.Files.{Look}
use Rattle.mk_kept.specs.StoredRows.{AllRead}
use Rattle.mk_session.specs.declared.status.Status.{Status}
use Rattle.mk_session.specs.declared.status.Status.TheVariants as status
use Rattle.mk_session.specs.Orders.{Order, asked_of_script}
use Rattle.mk_session.specs.Run.{IsRun, status_behind, texts}
use Rattle.mk_talk.specs.Answers.{Answer, AreAnswers, Came, CameNoMemory, CameUnread, Held, frame_of, how_came}
use Rattle.mk_talk.specs.declared.event.Event.{Event}
use Rattle.mk_talk.specs.Events.{heard, said}
use Rattle.mk_talk.specs.Frames.{Done, How, NoMemory, Refused, Unread, frame, how_text}
use Rattle.mk_talk.specs.Laws.{SessionsAreScripts}
use Rattle.mk_talk.specs.Lines.{all_lines, orders_of_all}
use Rattle.mk_talk.specs.Speaks.{AllAnswered, InputEndless, InputFailed, IsStop, IsUnput, LineStops, PutFailed, PutNoMemory, TalkEnds, Unanswered, Uncommitted}
use Rattle.mk_laws.specs.Laws.{OneRun}
use Rattle.mk_laws.specs.Sessions.{CanBeScript, HistoriesAreScripts, IsNoFailure, IsRunOf, OneSession, SessionsEndAsScripts, behind_lf, unframed}

-- ---- one frame

no_lf_digit : (c : ℕ) → is_ascii_digit c ≡ true → (c == 10) ≡ false
no_lf_digit c digit = grind (arith, nat_tests)

other_byte : (b : Bool) (cs : List ℕ) → b ≡ false → (if b then cs else behind_lf cs) ≡ behind_lf cs
other_byte true cs is = absurd cc
other_byte false cs is = refl

behind_digits : (ds rest : List ℕ) → list_all is_ascii_digit ds ≡ true → behind_lf (ds ++ rest) ≡ behind_lf rest
behind_digits [] rest digits = refl
behind_digits (d ∷ ds) rest digits =
    let each = both (is_ascii_digit d) (list_all is_ascii_digit ds) digits in
    other_byte (d == 10) (ds ++ rest) (no_lf_digit d each.0) ∙ behind_digits ds rest each.1

behind_how : (how : How) (text : List ℕ) → behind_lf (how_text how ++ text) ≡ text
behind_how Done text = refl
behind_how Refused text = refl
behind_how Unread text = refl
behind_how NoMemory text = refl

-- the text of a frame stands behind its first LF
behind_head : (how : How) (text : List ℕ) → length (frame how text) < 18446744073709551616 → behind_lf (frame how text) ≡ text
behind_head how text fits =
    let small : length text < 18446744073709551616 = omega (
      arith,
      fits,
      length-append (codes "answer ") (decimal (length text) ++ (how_text how ++ text)),
      length-append (decimal (length text)) (how_text how ++ text),
      length-append (how_text how) text,
    ) in
    behind_digits (decimal (length text)) (how_text how ++ text) (decimal_digits (length text) small) ∙ behind_how how text

-- ---- several

-- where none is a failure, the answers come to effects, of which these are the texts
record AreEffects (answers : List Answer) (pieces : List (List ℕ)) : Type 0 where
  effects : List Effect
  came : answers ≡ map Came effects
  without : unframed pieces ≡ texts effects

came_one : (effect : Effect) (answers : List Answer) (pieces : List (List ℕ)) → length (frame_of (Came effect)) < 18446744073709551616
    → AreEffects answers pieces → AreEffects (Came effect ∷ answers) (frame_of (Came effect) ∷ pieces)
came_one effect answers pieces fits more = record {
  effects = effect ∷ more.effects;
  came = ap (λ (x : List Answer). Came effect ∷ x) more.came;
  without = ap (λ (x : List ℕ). x ++ unframed pieces) (behind_head (how_came effect) (text_answered effect) fits)
      ∙ ap (λ (x : List ℕ). text_answered effect ++ x) more.without;
}

are_effects : (answers : List Answer) → AllByRecursion IsNoFailure (map frame_of answers) → AreEffects answers (map frame_of answers)
are_effects [] none = record { effects = []; came = refl; without = refl }
are_effects (Came effect ∷ answers) none = came_one effect answers (map frame_of answers) none.0.fits (are_effects answers none.1)
are_effects (CameUnread ∷ answers) none = absurd (none.0.was_read refl)
are_effects (CameNoMemory ∷ answers) none = absurd (none.0.had_memory refl)

pub histories_are_scripts : SessionsAreScripts → HistoriesAreScripts
histories_are_scripts law look s s' input events reads script none answered =
    let plain : AllByRecursion IsNoFailure (map frame_of answered.answers) = subst (λ (ps : List (List ℕ)). AllByRecursion IsNoFailure ps) answered.puts none in
    let are = are_effects answered.answers plain in
    let run = law look s s' input are.effects reads script.small script.short
    (subst (λ (xs : List Answer). AreAnswers look s s' (orders_of_all (all_lines input)) xs) are.came answered.are) in
    let bytes : texts are.effects ≡ unframed (said events) = sym (ap unframed answered.puts ∙ are.without) in
    record {
      ends = status_behind are.effects;
      run = subst (λ (b : List ℕ). IsRun look s.tables (asked_of_script input) b s'.tables (status_behind are.effects)) bytes run;
    }

-- ---- a session that ends with 0

unput_not_done : (piece part : List ℕ) (ends : Status) → ends ≡ status.Done → IsUnput piece part ends → ⊥
unput_not_done piece part ends done (PutFailed rest whole is) = let h = sym done ∙ is in cc
unput_not_done piece part ends done (PutNoMemory none is) = let h = sym done ∙ is in cc

stop_not_done : (look : Option Look) (s s' : Held) (order : Order) (events : List Event) (ends : Status) → ends ≡ status.Done → IsStop look s s' order events ends → ⊥
stop_not_done look s s' order events ends done (Uncommitted pending rose files tables none is) = let h = sym done ∙ is in cc
stop_not_done look s s' order events ends done (Unanswered answer are part unput is) = unput_not_done (frame_of answer) part ends done unput

ended_so : SessionsAreScripts → (look : Option Look) (s s' : Held) (events : List Event) (ends : Status) → ends ≡ status.Done → AllRead s.tables → CanBeScript (heard events)
    → AllByRecursion IsNoFailure (said events) → TalkEnds look s s' events ends → IsRunOf look s s' (heard events) events
ended_so law look s s' events ends done reads script none (AllAnswered end answered is) = histories_are_scripts law look s s' (heard events) events reads script none answered
ended_so law look s s' events ends done reads script none (InputFailed before is up e) = let h = sym done ∙ e in absurd cc
ended_so law look s s' events ends done reads script none (InputEndless many up e) = let h = sym done ∙ e in absurd cc
ended_so law look s s' events ends done reads script none (LineStops lines are stops) =
    absurd (stop_not_done look stops.between s' stops.order stops.last ends done stops.stop)

pub sessions_end_as_scripts : SessionsAreScripts → SessionsEndAsScripts
sessions_end_as_scripts law look s s' events reads script none talked = ended_so law look s s' events status.Done refl reads script none talked.talk_ends

-- ---- the one run

pub one_session : SessionsEndAsScripts → OneRun → OneSession
one_session ended one look s s' events added left ends reads script none free talked run =
    let of_session = ended (Some look) s s' events reads script none talked in
    let same = one look s.tables (asked_of_script (heard events)) (unframed (said events)) added s'.tables left of_session.ends ends free of_session.run run in
    (same.0, same.1)
