-- A session as it goes on, from what its calls say.
--     put_goes, stop_goes        an order that is answered, or that stops the session
--     all_more, stopped_more     some orders, and then more
--     talking_more, ..           the loop over pieces
use Rattle.std.proofs.Common.{◌≡◌, ℕ, ◌+◌, ◌-◌, ◌<◌, Bool, true, false, List, [], ◌∷◌, ◌++◌, length, map, take, drop, get_or, Option, Some, None, refl, sym, ap, ◌∙◌, subst, arith, append_assoc, append-nil}
use Rattle.std.specs.Prelude.{◌==◌, Result, Ok, Err, codes, decimal, if◌then◌else◌}
use Rattle.std.proofs.lemmas.List.{length-drop, map-append, take_all}
use Rattle.std.proofs.lemmas.Fmt.{decimal_digit}
use Rattle.std.proofs.Math.Seq.{drop-append_seam}
use Rattle.mk_outside.specs.Counts.{Rose}
use Rattle.mk_outside.specs.declared.tables.Tables.{Tables}
use Rattle.mk_outside.specs.declared.answers.PutFail.{PutFail}
use Rattle.mk_outside.specs.declared.answers.PutFail.TheVariants as put
use Rattle.mk_words.specs.declared.command.LineKind.TheVariants as line_kind
use Rattle.mk_words.specs.Commands.{command_in, kind_of_order}
use Rattle.mk_text.specs.Columns.{are_blank}
use Rattle.mk_text.specs.Lines.{words_of}
use Rattle.mk_found.specs.Effects.{Answers, Effect, Refuses, text_answered}
use Rattle.mk_found.specs.Files.{Look}
use Rattle.mk_found.specs.Findings.{IsReached}
use Rattle.mk_session.specs.declared.status.Ended.{Ended}
use Rattle.mk_session.specs.declared.status.Status.{Status}
use Rattle.mk_session.specs.declared.status.Status.TheVariants as status
use Rattle.mk_session.specs.Orders.{Order, orders_of_kind, orders_of_line}
use Rattle.mk_session.specs.Step.{Reaches}
use Rattle.mk_session.specs.Stepping.{IsDone, IsPending, ended_of}
use Rattle.mk_talk.specs.Answers.{Answer, AreAnswers, Came, CameNoMemory, CameUnread, Held, IsAnswer, frame_of, how_came, how_ended}
use Rattle.mk_talk.proofs.CuttingLemmas.{left_next, orders_behind, orders_next}
use Rattle.mk_talk.specs.declared.event.Event.{Event}
use Rattle.mk_talk.specs.declared.event.Event.TheVariants.{Put, PutPart}
use Rattle.mk_talk.specs.Events.{Grew, Says, SaysPart}
use Rattle.mk_talk.specs.Cutting.{cut_from, kept_more, left_from}
use Rattle.mk_talk.specs.Frames.{frame}
use Rattle.mk_talk.specs.Lines.{orders_of_all, orders_of_raw}
use Rattle.mk_talk.specs.Speaks.{IsStop, IsUnput, LineUnput, PutFailed, Unanswered, Uncommitted}
use Rattle.mk_talk.specs.Speaking.{EndsDone, EndsTalk, Goes, IsAllAnswered, IsPutPart, IsStopped, PutOrEnds, SaysOne, put_of}

-- ---- histories

pub grew_none : (told : Option (List Event)) → Grew told told []
grew_none None = tt
grew_none (Some events) = record { before = events; told = refl; longer = sym (append-nil events) }

inside : (a b : List Event) → Some a ≡ Some b → a ≡ b
inside a b e = cc

not_told : {P : Type 0} (b : List Event) → None ≡ Some b → P
not_told b e = absurd cc

pub grew_more : (a b c : Option (List Event)) (xs ys : List Event) → Grew a b xs → Grew b c ys → Grew a c (xs ++ ys)
grew_more a b None xs ys g k = tt
grew_more a None (Some z) xs ys g k = not_told k.before k.told
grew_more a (Some y) (Some z) xs ys g k = record {
  before = g.before;
  told = g.told;
  longer = k.longer ∙ ap (λ (x : List Event). x ++ ys) (sym (inside y k.before k.told) ∙ g.longer) ∙ append_assoc g.before xs ys;
}

-- ---- puts

-- the put failed
pub put_failed : {A : Type 0} (result : Result A PutFail) (old new : Option (List Event)) (piece : List ℕ) → result ≡ Err put.Failed → Says old new piece result
    → IsPutPart old new piece status.Write
put_failed result old new piece is says =
    let s : SaysPart old new piece = subst (λ r. Says old new piece r) is says in
    record { part = s.part; unput = PutFailed s.rest s.whole refl; grew = s.grew }

-- the one line of a run
pub line_unput : (old new : Option (List Event)) (line : List ℕ) (would ends : Status) → IsPutPart old new line ends → SaysOne old new line would ends
line_unput old new line would ends p = record { events = PutPart p.part ∷ []; one = LineUnput p.part p.unput refl; grew = p.grew }

-- ---- answers in turn

module _ (look : Option Look) where
  pub answers_more : (s m s' : Held) (xs ys : List Order) (answers others : List Answer) → AreAnswers look s m xs answers → AreAnswers look m s' ys others
      → AreAnswers look s s' (xs ++ ys) (answers ++ others)
  answers_more s m s' [] ys [] others p q = subst (λ (u : Held). AreAnswers look u s' ys others) p q
  answers_more s m s' [] ys (answer ∷ answers) others p q = absurd p
  answers_more s m s' (x ∷ xs) ys [] others p q = absurd p
  answers_more s m s' (x ∷ xs) ys (answer ∷ answers) others p q = (p.0, p.1, answers_more p.0 m s' xs ys answers others p.2 q)

  pub none_asked : (s : Held) (told : Option (List Event)) → IsAllAnswered look s s [] told told
  none_asked s told = record { answers = []; are = refl; grew = grew_none told }

  one_answered : (s s' : Held) (order : Order) (answer : Answer) (old new : Option (List Event)) → IsAnswer look s s' order answer → Grew old new (put_of answer ∷ [])
      → IsAllAnswered look s s' (order ∷ []) old new
  one_answered s s' order answer old new is grew = record { answers = answer ∷ []; are = (s', is, refl); grew = grew }

  pub all_more : (s m s' : Held) (xs ys : List Order) (a b c : Option (List Event)) → IsAllAnswered look s m xs a b → IsAllAnswered look m s' ys b c
      → IsAllAnswered look s s' (xs ++ ys) a c
  all_more s m s' xs ys a b c p q = record {
    answers = p.answers ++ q.answers;
    are = answers_more s m s' xs ys p.answers q.answers p.are q.are;
    grew = subst (λ (es : List Event). Grew a c es) (sym (map-append put_of p.answers q.answers)) (grew_more a b c (map put_of p.answers) (map put_of q.answers) p.grew q.grew);
  }

  stopped_one : (s s' : Held) (order : Order) (last : List Event) (ends : Status) (old new : Option (List Event)) → IsStop look s s' order last ends → Grew old new last
      → IsStopped look s s' (order ∷ []) old new ends
  stopped_one s s' order last ends old new stop grew = record {
    done = [];
    order = order;
    others = [];
    whole = refl;
    between = s;
    answers = [];
    are = refl;
    last = last;
    stop = stop;
    grew = grew;
  }

  pub stopped_more : (s m s' : Held) (xs ys : List Order) (a b c : Option (List Event)) (ends : Status) → IsAllAnswered look s m xs a b → IsStopped look m s' ys b c ends
      → IsStopped look s s' (xs ++ ys) a c ends
  stopped_more s m s' xs ys a b c ends p q = record {
    done = xs ++ q.done;
    order = q.order;
    others = q.others;
    whole = ap (λ (os : List Order). xs ++ os) q.whole ∙ sym (append_assoc xs q.done (q.order ∷ q.others));
    between = q.between;
    answers = p.answers ++ q.answers;
    are = answers_more s m q.between xs q.done p.answers q.answers p.are q.are;
    last = q.last;
    stop = q.stop;
    grew = subst (λ (es : List Event). Grew a c es)
        (sym (append_assoc (map put_of p.answers) (map put_of q.answers) q.last) ∙ ap (λ (es : List Event). es ++ q.last) (sym (map-append put_of p.answers q.answers)))
        (grew_more a b c (map put_of p.answers) (map put_of q.answers ++ q.last) p.grew q.grew);
  }

  pub stopped_longer : (s s' : Held) (xs zs : List Order) (a c : Option (List Event)) (ends : Status) → IsStopped look s s' xs a c ends
      → IsStopped look s s' (xs ++ zs) a c ends
  stopped_longer s s' xs zs a c ends p = record {
    done = p.done;
    order = p.order;
    others = p.others ++ zs;
    whole = ap (λ (os : List Order). os ++ zs) p.whole ∙ append_assoc p.done (p.order ∷ p.others) zs;
    between = p.between;
    answers = p.answers;
    are = p.are;
    last = p.last;
    stop = p.stop;
    grew = p.grew;
  }

  -- an order is answered, and its frame put or not
  pub put_goes : (s s' : Held) (order : Order) (answer : Answer) (piece : List ℕ) (old new : Option (List Event)) {A : Type 0} (result : Result A Status)
      → IsAnswer look s s' order answer → piece ≡ frame_of answer → PutOrEnds old new piece result → Goes look s s' (order ∷ []) old new result
  put_goes s s' order answer piece old new (Ok done) is same put =
      one_answered s s' order answer old new is (subst (λ (x : List ℕ). Grew old new (Put x ∷ [])) same put)
  put_goes s s' order answer piece old new (Err ends) is same put =
      stopped_one s s' order (PutPart put.part ∷ []) ends old new
      (Unanswered answer is put.part (subst (λ (x : List ℕ). IsUnput x put.part ends) same put.unput) refl) put.grew

  -- its batch isn't committed
  pub uncommitted : (t t' : Tables) (f f' k k' : ℕ) (order : Order) (told : Option (List Event)) → IsPending look t order → Rose k k' → f' ≡ f → t' ≡ t
      → IsStopped look (record { tables = t; files = f; keeper = k }) (record { tables = t'; files = f'; keeper = k' }) (order ∷ []) told told status.Store
  uncommitted t t' f f' k k' order told pending rose files tables =
      stopped_one _ _ order [] status.Store told told (Uncommitted pending rose files tables refl refl) (grew_none told)

-- ---- one step

pub same_held : (t t' : Tables) (f f' k k' : ℕ) → t' ≡ t → f' ≡ f → k' ≡ k
    → let new : Held = record { tables = t'; files = f'; keeper = k' } in let old : Held = record { tables = t; files = f; keeper = k } in new ≡ old
same_held t t' f f' k k' a b e = cc

how_is : (effect : Effect) → how_ended (ended_of effect) ≡ how_came effect
how_is (Refuses line) = refl
how_is (Answers batch text) = refl

pub drop_front : (n : ℕ) (xs ys : List ℕ) → length xs ≡ n → drop n (xs ++ ys) ≡ ys
drop_front n xs ys is = subst (λ k. drop k (xs ++ ys) ≡ ys) is (drop-append_seam xs ys)

-- all from a place on is as long as what is behind the place
pub to_end : (n : ℕ) (xs : List ℕ) → take (length xs - n) (drop n xs) ≡ drop n xs
to_end n xs = take_all (length xs - n) (drop n xs) (omega (arith, length-drop n xs))

module _ (look : Option Look) (t t' : Tables) (order : Order) (room answer : List ℕ) (e : Ended) (done : IsDone look t t' order room answer e) where
  pub step_done : (f f' k k' : ℕ) → f' ≡ f → k' ≡ k
      → IsAnswer look (record { tables = t; files = f; keeper = k }) (record { tables = t'; files = f'; keeper = k' }) order (Came done.effect)
  step_done f f' k k' a b = record { comes = done.comes; tables = done.tables; files = a; keeper = b }

  pub step_frame : (piece : List ℕ) → length room ≡ 40 → piece ≡ frame (how_ended e) (drop 40 answer) → piece ≡ frame_of (Came done.effect)
  step_frame piece size is =
      is ∙ ap (λ (x : Ended). frame (how_ended x) (drop 40 answer)) done.ends ∙ ap (λ h. frame h (drop 40 answer)) (how_is done.effect)
      ∙ ap (λ (x : List ℕ). frame (how_came done.effect) x) (ap (drop 40) done.answer ∙ drop_front 40 room (text_answered done.effect) size)

pub step_unread : (look : Option Look) (t t' : Tables) (order : Order) (f f' k k' : ℕ) → IsReached (Reaches look t order) → Rose f f' → k' ≡ k → t' ≡ t
    → IsAnswer look (record { tables = t; files = f; keeper = k }) (record { tables = t'; files = f'; keeper = k' }) order CameUnread
step_unread look t t' order f f' k k' reached rose b e = record { reached = reached; tables = e; files = rose; keeper = b }

-- ---- one line

order_if : (b : Bool) (order : Order) → b ≡ false → orders_of_kind (if b then line_kind.Blank else kind_of_order order) ≡ order ∷ []
order_if true order is = absurd cc
order_if false None is = refl
order_if false (Some command) is = refl

-- a line that isn't blank asks for one thing
pub one_order : (line : List ℕ) → are_blank line ≡ false → orders_of_line line ≡ command_in (words_of line) ∷ []
one_order line is = order_if (are_blank line) (command_in (words_of line)) is

-- and memory is wanting for it
pub line_no_memory : (look : Option Look) (s : Held) (line piece : List ℕ) (old new : Option (List Event)) {A : Type 0} (result : Result A Status) → are_blank line ≡ false
    → piece ≡ frame_of CameNoMemory → PutOrEnds old new piece result → Goes look s s (orders_of_line line) old new result
line_no_memory look s line piece old new result other same put =
    subst (λ (os : List Order). Goes look s s os old new result) (sym (one_order line other))
    (put_goes look s s (command_in (words_of line)) CameNoMemory piece old new result refl same put)

-- ---- the last line

pub ends_done : (look : Option Look) (s s' : Held) (orders : List Order) (old new : Option (List Event)) → IsAllAnswered look s s' orders old new
    → EndsTalk look s s' orders old new status.Done
ends_done look s s' orders old new all = EndsDone all refl

-- ---- one byte

cut_kept : (b : Bool) (line : List ℕ) → b ≡ false → (if b then line ∷ [] else []) ≡ []
cut_kept true line is = absurd cc
cut_kept false line is = refl

cut_ended : (b : Bool) (line : List ℕ) → b ≡ true → (if b then line ∷ [] else []) ≡ line ∷ []
cut_ended true line is = refl
cut_ended false line is = absurd cc

either_left : (b : Bool) (one two : List ℕ) → b ≡ false → (if b then one else two) ≡ two
either_left true one two is = absurd cc
either_left false one two is = refl

either_first : (b : Bool) (one two : List ℕ) → b ≡ true → (if b then one else two) ≡ one
either_first true one two is = refl
either_first false one two is = absurd cc

-- the byte is kept
pub byte_kept : (look : Option Look) (s : Held) (line : List ℕ) (c : ℕ) (told : Option (List Event)) → (c == 10) ≡ false
    → IsAllAnswered look s s (orders_of_all (cut_from 65536 line (c ∷ []))) told told
byte_kept look s line c told other =
    subst (λ (lines : List (List ℕ)). IsAllAnswered look s s (orders_of_all lines) told told) (sym (cut_kept (c == 10) line other)) (none_asked look s told)

pub byte_left : (line : List ℕ) (c : ℕ) → (c == 10) ≡ false → kept_more 65536 line c ≡ left_from 65536 line (c ∷ [])
byte_left line c other = sym (either_left (c == 10) [] (kept_more 65536 line c) other)

-- the byte ends the line
pub line_goes : (look : Option Look) (s s' : Held) (line : List ℕ) (c : ℕ) (old new : Option (List Event)) {A : Type 0} (result : Result A Status) → (c == 10) ≡ true
    → Goes look s s' (orders_of_raw line) old new result → Goes look s s' (orders_of_all (cut_from 65536 line (c ∷ []))) old new result
line_goes look s s' line c old new result lf goes =
    subst (λ (lines : List (List ℕ)). Goes look s s' (orders_of_all lines) old new result) (sym (cut_ended (c == 10) line lf))
    (subst (λ (os : List Order). Goes look s s' os old new result) (sym (append-nil (orders_of_raw line))) goes)

pub line_left : (line : List ℕ) (c : ℕ) → (c == 10) ≡ true → [] ≡ left_from 65536 line (c ∷ [])
line_left line c lf = sym (either_first (c == 10) [] (kept_more 65536 line c) lf)

-- ---- the bytes of a piece, one after the other

module _ (look : Option Look) (s m : Held) (line piece kept : List ℕ) (i d : ℕ) (short : i < length piece) (a b : Option (List Event))
    (all : IsAllAnswered look s m (orders_of_all (cut_from 65536 line (take i piece))) a b) (is : kept ≡ left_from 65536 line (take i piece)) where
  this_far : orders_of_all (cut_from 65536 line (take (i + 1) piece))
      ≡ orders_of_all (cut_from 65536 line (take i piece)) ++ orders_of_all (cut_from 65536 kept (get_or piece i d ∷ []))
  this_far =
      orders_next line piece i d short
      ∙ ap (λ (x : List ℕ). orders_of_all (cut_from 65536 line (take i piece)) ++ orders_of_all (cut_from 65536 x (get_or piece i d ∷ []))) (sym is)

  pub byte_next : (s' : Held) (c : Option (List Event)) → IsAllAnswered look m s' (orders_of_all (cut_from 65536 kept (get_or piece i d ∷ []))) b c
      → IsAllAnswered look s s' (orders_of_all (cut_from 65536 line (take (i + 1) piece))) a c
  byte_next s' c more =
      subst (λ (os : List Order). IsAllAnswered look s s' os a c) (sym this_far)
      (all_more look s m s' (orders_of_all (cut_from 65536 line (take i piece))) (orders_of_all (cut_from 65536 kept (get_or piece i d ∷ []))) a b c all more)

  pub byte_stops : (s' : Held) (c : Option (List Event)) (ends : Status) → IsStopped look m s' (orders_of_all (cut_from 65536 kept (get_or piece i d ∷ []))) b c ends
      → IsStopped look s s' (orders_of_all (cut_from 65536 line piece)) a c ends
  byte_stops s' c ends stopped =
      let behind = orders_behind line piece i d short in
      subst (λ (os : List Order). IsStopped look s s' os a c ends) (sym (behind.1 ∙ ap (λ (os : List Order). os ++ behind.0) this_far))
      (stopped_longer look s s' (orders_of_all (cut_from 65536 line (take i piece)) ++ orders_of_all (cut_from 65536 kept (get_or piece i d ∷ []))) behind.0 a c ends
      (stopped_more look s m s' (orders_of_all (cut_from 65536 line (take i piece))) (orders_of_all (cut_from 65536 kept (get_or piece i d ∷ []))) a b c ends all stopped))

  pub byte_kept_next : (kept' : List ℕ) → kept' ≡ left_from 65536 kept (get_or piece i d ∷ []) → kept' ≡ left_from 65536 line (take (i + 1) piece)
  byte_kept_next kept' same = same ∙ ap (λ (x : List ℕ). left_from 65536 x (get_or piece i d ∷ [])) is ∙ sym (left_next line piece i d short)

-- ---- the frames of no bytes

zero_text : decimal 0 ≡ codes "0"
zero_text = decimal_digit 0 (omega arith)

pub no_memory_frame : codes "answer 0 memory\n" ≡ frame_of CameNoMemory
no_memory_frame = ap (λ (x : List ℕ). codes "answer " ++ (x ++ codes " memory\n")) (sym zero_text)

pub unread_frame : codes "answer 0 unread\n" ≡ frame_of CameUnread
unread_frame = ap (λ (x : List ℕ). codes "answer " ++ (x ++ codes " unread\n")) (sym zero_text)
