-- The loop over pieces: all that was read is answered.
--     IsTalking         where the loop stands
--     talking_more      a piece more
--     at_end, ..        the ways out
use Rattle.std.proofs.Common.{◌≡◌, ℕ, ◌+◌, ◌≤◌, List, [], ◌∷◌, ◌++◌, length, map, take, Option, refl, sym, ap, ◌∙◌, subst, arith, append_assoc, append-nil, length-append}
use Rattle.std.proofs.lemmas.List.{map-append}
use Rattle.mk_found.specs.Files.{Look}
use Rattle.mk_session.specs.declared.status.Status.{Status}
use Rattle.mk_session.specs.declared.status.Status.TheVariants as status
use Rattle.mk_session.specs.Orders.{Order}
use Rattle.mk_talk.specs.Answers.{Answer, AreAnswers, Held, frame_of}
use Rattle.mk_talk.specs.declared.event.Event.{Event}
use Rattle.mk_talk.specs.declared.event.Event.TheVariants.{Got, NotGot, Put, PutPart}
use Rattle.mk_talk.specs.Events.{Grew, heard, said}
use Rattle.mk_talk.specs.Cutting.{cut_from, left_from}
use Rattle.mk_talk.specs.Lines.{all_lines, orders_of_all, orders_of_raw, whole_lines}
use Rattle.mk_talk.specs.Speaks.{AllAnswered, AllLines, AreLinesRead, AreReadsInTime, HasEnd, InputEndless, InputFailed, IsAnsweredTo, IsInTime, IsReadInTime, IsStop, IsUpToDate, LineStops, Unanswered, Uncommitted, WholeLines}
use Rattle.mk_talk.specs.Speaking.{EndsDone, EndsStopped, EndsTalk, GoesOn, IsAllAnswered, IsStopped, put_of}
use Rattle.mk_talk.proofs.CuttingLemmas.{left_more, lines_all, lines_more}
use Rattle.mk_talk.proofs.SpeakingLemmas.{answers_more, grew_more, grew_none}

-- ---- what a history says

pub heard_more : (xs ys : List Event) → heard (xs ++ ys) ≡ heard xs ++ heard ys
heard_more [] ys = refl
heard_more (Got piece ∷ xs) ys = ap (λ (x : List ℕ). piece ++ x) (heard_more xs ys) ∙ sym (append_assoc piece (heard xs) (heard ys))
heard_more (NotGot ∷ xs) ys = heard_more xs ys
heard_more (Put piece ∷ xs) ys = heard_more xs ys
heard_more (PutPart part ∷ xs) ys = heard_more xs ys

pub said_more : (xs ys : List Event) → said (xs ++ ys) ≡ said xs ++ said ys
said_more [] ys = refl
said_more (Got piece ∷ xs) ys = said_more xs ys
said_more (NotGot ∷ xs) ys = said_more xs ys
said_more (Put piece ∷ xs) ys = ap (λ (x : List (List ℕ)). piece ∷ x) (said_more xs ys)
said_more (PutPart part ∷ xs) ys = said_more xs ys

heard_puts : (answers : List Answer) → heard (map put_of answers) ≡ []
heard_puts [] = refl
heard_puts (answer ∷ answers) = heard_puts answers

said_puts : (answers : List Answer) → said (map put_of answers) ≡ map frame_of answers
said_puts [] = refl
said_puts (answer ∷ answers) = ap (λ (x : List (List ℕ)). frame_of answer ∷ x) (said_puts answers)

-- puts and then events of which none is read or said
record IsSilent (last : List Event) : Type 0 where
  hears : heard last ≡ []
  says : said last ≡ []

stop_silent : (look : Option Look) (s s' : Held) (order : Order) (last : List Event) (ends : Status) → IsStop look s s' order last ends → IsSilent last
stop_silent look s s' order last ends (Uncommitted pending rose files tables is e) = record { hears = ap heard is; says = ap said is }
stop_silent look s s' order last ends (Unanswered answer are part unput is) = record { hears = ap heard is; says = ap said is }

heard_puts_then : (answers : List Answer) (last : List Event) → IsSilent last → heard (map put_of answers ++ last) ≡ []
heard_puts_then answers last silent =
    heard_more (map put_of answers) last ∙ ap (λ (x : List ℕ). x ++ heard last) (heard_puts answers) ∙ silent.hears

said_puts_then : (answers : List Answer) (last : List Event) → IsSilent last → said (map put_of answers ++ last) ≡ map frame_of answers
said_puts_then answers last silent =
    said_more (map put_of answers) last ∙ ap (λ (x : List (List ℕ)). x ++ said last) (said_puts answers)
    ∙ ap (λ (x : List (List ℕ)). map frame_of answers ++ x) silent.says ∙ append-nil (map frame_of answers)

-- ---- reads in time

module _ (look : Option Look) (s : Held) where
  in_time_more : (before xs ys : List Event) → AreReadsInTime look s before xs → AreReadsInTime look s (before ++ xs) ys → AreReadsInTime look s before (xs ++ ys)
  in_time_more before [] ys p q = subst (λ (b : List Event). AreReadsInTime look s b ys) (append-nil before) q
  in_time_more before (x ∷ xs) ys p q =
      (p.0, in_time_more (before ++ x ∷ []) xs ys p.1 (subst (λ (b : List Event). AreReadsInTime look s b ys) (sym (append_assoc before (x ∷ []) xs)) q))

  in_time_puts : (before : List Event) (answers : List Answer) (last : List Event) → ((b : List Event) → AreReadsInTime look s b last)
      → AreReadsInTime look s before (map put_of answers ++ last)
  in_time_puts before [] last then_last = then_last before
  in_time_puts before (answer ∷ answers) last then_last = (tt, in_time_puts (before ++ put_of answer ∷ []) answers last then_last)

  in_time_stop : (m m' : Held) (order : Order) (last : List Event) (ends : Status) → IsStop look m m' order last ends → (b : List Event) → AreReadsInTime look s b last
  in_time_stop m m' order last ends (Uncommitted pending rose files tables is e) b = subst (λ (x : List Event). AreReadsInTime look s b x) (sym is) tt
  in_time_stop m m' order last ends (Unanswered answer are part unput is) b = subst (λ (x : List Event). AreReadsInTime look s b x) (sym is) (tt, tt)

  -- events that are in time, and a read behind them once all is answered, and puts
  in_time_read : (between : Held) (events : List Event) (event : Event) (puts : List Event) → IsInTime look s events → IsReadInTime look s events event
      → ((b : List Event) → AreReadsInTime look s b puts) → IsInTime look s (events ++ event ∷ puts)
  in_time_read between events event puts time read quiet = in_time_more [] events (event ∷ puts) time (read, quiet (events ++ event ∷ []))

-- ---- the loop

-- a read of no bytes
pub read_none : (n : ℕ) (a b : Option (List Event)) (buffer : List ℕ) → n ≡ 0 → Grew a b (Got (take n buffer) ∷ []) → Grew a b (Got [] ∷ [])
read_none n a b buffer is grew = subst (λ (k : ℕ). Grew a b (Got (take k buffer) ∷ [])) is grew

-- all that was read is answered, and this is kept of the line that isn't whole
pub record IsTalking (look : Option Look) (s s' : Held) (old new : Option (List Event)) (line : List ℕ) (count : ℕ) : Type 0 where
  pub events : List Event
  pub grew : Grew old new events
  pub up : IsUpToDate look s s' events
  pub in_time : IsInTime look s events
  pub line_is : line ≡ left_from 65536 [] (heard events)
  pub counted : count ≤ length events

pub talking_first : (look : Option Look) (s : Held) (told : Option (List Event)) (line : List ℕ) → line ≡ [] → IsTalking look s s told told line 0
talking_first look s told line is = record {
  events = [];
  grew = grew_none told;
  up = record { answers = []; are = refl; puts = refl };
  in_time = tt;
  line_is = is;
  counted = omega arith;
}

module _ (look : Option Look) (s m : Held) (old a : Option (List Event)) (line : List ℕ) (count : ℕ) (talking : IsTalking look s m old a line count) where
  -- what is heard and said with a piece more and its answers
  heard_piece : (piece : List ℕ) (puts : List Event) → heard puts ≡ [] → heard (talking.events ++ Got piece ∷ puts) ≡ heard talking.events ++ piece
  heard_piece piece puts quiet =
      heard_more talking.events (Got piece ∷ puts) ∙ ap (λ (x : List ℕ). heard talking.events ++ (piece ++ x)) quiet ∙ ap (λ (x : List ℕ). heard talking.events ++ x) (append-nil piece)

  -- these orders are answered behind those of the lines so far
  answered_more : (s' : Held) (orders all : List Order) (event : Event) (puts : List Event) (answers : List Answer) → AreAnswers look m s' orders answers
      → said (event ∷ puts) ≡ map frame_of answers → all ≡ orders_of_all (whole_lines (heard talking.events)) ++ orders
      → IsAnsweredTo look s s' all (talking.events ++ event ∷ puts)
  answered_more s' orders all event puts answers are says is = record {
    answers = talking.up.answers ++ answers;
    are = subst (λ (os : List Order). AreAnswers look s s' os (talking.up.answers ++ answers)) (sym is)
        (answers_more look s m s' (orders_of_all (whole_lines (heard talking.events))) orders talking.up.answers answers talking.up.are are);
    puts = said_more talking.events (event ∷ puts) ∙ ap (λ (x : List (List ℕ)). said talking.events ++ x) says
        ∙ ap (λ (x : List (List ℕ)). x ++ map frame_of answers) talking.up.puts ∙ sym (map-append frame_of talking.up.answers answers);
  }

  read_grew : (b c : Option (List Event)) (event : Event) (puts : List Event) → Grew a b (event ∷ []) → Grew b c puts → Grew old c (talking.events ++ event ∷ puts)
  read_grew b c event puts one more = grew_more old a c talking.events (event ∷ puts) talking.grew (grew_more a b c (event ∷ []) puts one more)

  longer : (event : Event) (puts : List Event) → count + 1 ≤ length (talking.events ++ event ∷ puts)
  longer event puts = omega (arith, length-append talking.events (event ∷ puts), talking.counted)

  pub talking_more : (s' : Held) (b c : Option (List Event)) (line' piece : List ℕ) → Grew a b (Got piece ∷ [])
      → IsAllAnswered look m s' (orders_of_all (cut_from 65536 line piece)) b c → line' ≡ left_from 65536 line piece → IsTalking look s s' old c line' (count + 1)
  talking_more s' b c line' piece read all left =
      let puts = map put_of all.answers in
      let hears = heard_piece piece puts (heard_puts all.answers) in
      record {
        events = talking.events ++ Got piece ∷ puts;
        grew = read_grew b c (Got piece) puts read all.grew;
        up = answered_more s' (orders_of_all (cut_from 65536 line piece)) (orders_of_all (whole_lines (heard (talking.events ++ Got piece ∷ puts)))) (Got piece) puts all.answers all.are
            (said_puts all.answers)
            (ap (λ (x : List ℕ). orders_of_all (whole_lines x)) hears ∙ lines_more (heard talking.events) line piece talking.line_is);
        in_time = in_time_read look s m talking.events (Got piece) puts talking.in_time (m, talking.up)
            (λ b'. subst (λ (x : List Event). AreReadsInTime look s b' x) (append-nil puts) (in_time_puts look s b' all.answers [] (λ _. tt)));
        line_is = left ∙ sym (left_more (heard talking.events) line piece talking.line_is) ∙ ap (left_from 65536 []) (sym hears);
        counted = longer (Got piece) puts;
      }

  -- a line stops the session, behind a read
  stopped_behind : (s' : Held) (b c : Option (List Event)) (piece : List ℕ) (orders : List Order) (ends : Status) → Grew a b (Got piece ∷ [])
      → (p : IsStopped look m s' orders b c ends) → (lines : List (List ℕ)) → AreLinesRead (talking.events ++ Got piece ∷ (map put_of p.answers ++ p.last)) lines
      → orders_of_all lines ≡ orders_of_all (whole_lines (heard talking.events)) ++ orders → GoesOn look s s' old c ends
  stopped_behind s' b c piece orders ends read p lines are is =
      let puts = map put_of p.answers ++ p.last in
      let silent = stop_silent look p.between s' p.order p.last ends p.stop in
      let so_far = orders_of_all (whole_lines (heard talking.events)) in
      let done = so_far ++ p.done in
      record {
        events = talking.events ++ Got piece ∷ puts;
        grew = read_grew b c (Got piece) puts read p.grew;
        talked = record {
          in_time = in_time_read look s m talking.events (Got piece) puts talking.in_time (m, talking.up)
              (λ b'. in_time_puts look s b' p.answers p.last (in_time_stop look s p.between s' p.order p.last ends p.stop));
          talk_ends = LineStops lines are (record {
            done = done;
            order = p.order;
            others = p.others;
            whole = is ∙ ap (λ (x : List Order). so_far ++ x) p.whole ∙ sym (append_assoc so_far p.done (p.order ∷ p.others));
            between = p.between;
            answered = answered_more p.between p.done done (Got piece) puts p.answers p.are (said_puts_then p.answers p.last silent) refl;
            front = talking.events ++ Got piece ∷ map put_of p.answers;
            last = p.last;
            ending = sym (append_assoc talking.events (Got piece ∷ map put_of p.answers) p.last);
            stop = p.stop;
          });
        };
      }

  -- a line of the piece stops the session
  pub piece_stops : (s' : Held) (b c : Option (List Event)) (piece : List ℕ) (ends : Status) → Grew a b (Got piece ∷ [])
      → IsStopped look m s' (orders_of_all (cut_from 65536 line piece)) b c ends → GoesOn look s s' old c ends
  piece_stops s' b c piece ends read p =
      let puts = map put_of p.answers ++ p.last in
      let quiet = heard_puts_then p.answers p.last (stop_silent look p.between s' p.order p.last ends p.stop) in
      stopped_behind s' b c piece (orders_of_all (cut_from 65536 line piece)) ends read p (whole_lines (heard (talking.events ++ Got piece ∷ puts))) (WholeLines refl)
      (ap (λ (x : List ℕ). orders_of_all (whole_lines x)) (heard_piece piece puts quiet) ∙ lines_more (heard talking.events) line piece talking.line_is)

  -- what was read to the end
  lines_at_end : (puts : List Event) → heard puts ≡ []
      → orders_of_all (all_lines (heard (talking.events ++ Got [] ∷ puts))) ≡ orders_of_all (whole_lines (heard talking.events)) ++ orders_of_raw line
  lines_at_end puts quiet =
      ap (λ (x : List ℕ). orders_of_all (all_lines x)) (heard_piece [] puts quiet ∙ append-nil (heard talking.events))
      ∙ lines_all (heard talking.events) line talking.line_is

  has_end : (puts : List Event) → heard puts ≡ [] → HasEnd (talking.events ++ Got [] ∷ puts)
  has_end puts quiet = record { before = talking.events; behind = puts; ending = refl; nothing = quiet }

  -- the input is at its end
  pub talking_ends : (s' : Held) (b c : Option (List Event)) (ends : Status) → Grew a b (Got [] ∷ []) → EndsTalk look m s' (orders_of_raw line) b c ends
      → GoesOn look s s' old c ends
  talking_ends s' b c ends read (EndsDone all is) =
      let puts = map put_of all.answers in
      let quiet = heard_puts all.answers in
      record {
        events = talking.events ++ Got [] ∷ puts;
        grew = read_grew b c (Got []) puts read all.grew;
        talked = record {
          in_time = in_time_read look s m talking.events (Got []) puts talking.in_time (m, talking.up)
              (λ b'. subst (λ (x : List Event). AreReadsInTime look s b' x) (append-nil puts) (in_time_puts look s b' all.answers [] (λ _. tt)));
          talk_ends = AllAnswered (has_end puts quiet)
              (answered_more s' (orders_of_raw line) (orders_of_all (all_lines (heard (talking.events ++ Got [] ∷ puts)))) (Got []) puts all.answers all.are (said_puts all.answers)
              (lines_at_end puts quiet)) is;
        };
      }
  talking_ends s' b c ends read (EndsStopped p) =
      let puts = map put_of p.answers ++ p.last in
      let quiet = heard_puts_then p.answers p.last (stop_silent look p.between s' p.order p.last ends p.stop) in
      stopped_behind s' b c [] (orders_of_raw line) ends read p (all_lines (heard (talking.events ++ Got [] ∷ puts))) (AllLines (has_end puts quiet) refl) (lines_at_end puts quiet)

  -- the input couldn't be read
  pub talking_failed : (c : Option (List Event)) → Grew a c (NotGot ∷ []) → GoesOn look s m old c status.Read
  talking_failed c read = record {
    events = talking.events ++ NotGot ∷ [];
    grew = grew_more old a c talking.events (NotGot ∷ []) talking.grew read;
    talked = record {
      in_time = in_time_read look s m talking.events NotGot [] talking.in_time (m, talking.up) (λ _. tt);
      talk_ends = InputFailed talking.events refl talking.up refl;
    };
  }

  -- the input didn't end
  pub talking_endless : count ≡ 18446744073709551615 → GoesOn look s m old a status.Read
  talking_endless many = record {
    events = talking.events;
    grew = talking.grew;
    talked = record { in_time = talking.in_time; talk_ends = InputEndless (omega (arith, many, talking.counted)) talking.up refl };
  }
