-- Orders done in turn: some, and then more.
--     turns_more       some orders, and then more
--     halted_more      what stops, stops whatever else was to be done
use Rattle.std.proofs.Common.{◌≡◌, ℕ, suc, ◌+◌, ◌<◌, Bool, true, false, ◌||◌, List, [], ◌∷◌, ◌++◌, length, get_or, take, drop, map, Option, Some, None, refl, sym, ap, ◌∙◌, subst, append_assoc, append-nil, add-one, arith}
use Rattle.std.specs.Prelude.{Result, Ok, Err, IfSome, slice_range}
use Rattle.std.specs.List.{list_any}
use Rattle.std.proofs.lemmas.Grind.{flat_map-append}
use Rattle.std.proofs.lemmas.List.{map-append, take-append-drop}
use Rattle.std.proofs.Math.Seq.{take-suc}
use Rattle.mk_text.specs.declared.cutting.Span.{Span}
use Rattle.mk_text.specs.Spans.{parts}
use Rattle.mk_outside.specs.declared.tables.Tables.{Tables}
use Rattle.mk_session.specs.declared.status.Status.{Status}
use Rattle.mk_found.specs.Effects.{Effect, after_effect, is_refusal, text_answered}
use Rattle.mk_session.specs.Run.{after_effects, texts, Does, After, HasItsFiles, Misses}
use Rattle.mk_session.specs.Ends.{Halts, StoppedAt, NextNoMemory, Stopped}
use Rattle.mk_session.specs.Faults.{Faults}
use Rattle.mk_found.specs.Files.{Look}
use Rattle.mk_words.specs.declared.command.LineKind.{LineKind}
use Rattle.mk_words.specs.Commands.{kind_of_line}
use Rattle.mk_session.specs.Orders.{Order, orders_of, orders_of_kind, orders_of_line}
use Rattle.mk_session.specs.Turns.{IsDoneAll, IsHalted, Turns}
use Rattle.mk_found.specs.Findings.{MissesAt}
use Rattle.mk_session.specs.Step.{Reaches}

-- ---- some orders, and then more

pub does_more : (files : Option Look) (t : Tables) (xs ys : List Order) (es fs : List Effect) → Does files t xs es → Does files (after_effects es t) ys fs → Does files t (xs ++ ys) (es ++ fs)
does_more files t [] ys [] fs d e = e
does_more files t [] ys (x ∷ es) fs d e = absurd d
does_more files t (x ∷ xs) ys [] fs d e = absurd d
does_more files t (x ∷ xs) ys (e ∷ es) fs d g = (d.0, does_more files (after_effect e t) xs ys es fs d.1 g)

pub after_more : (t : Tables) (es fs : List Effect) → after_effects (es ++ fs) t ≡ after_effects fs (after_effects es t)
after_more t [] fs = refl
after_more t (e ∷ es) fs = after_more (after_effect e t) es fs

pub texts_more : (es fs : List Effect) → texts (es ++ fs) ≡ texts es ++ texts fs
texts_more es fs = flat_map-append text_answered es fs

or_assoc : (a b c : Bool) → (a || (b || c)) ≡ ((a || b) || c)
or_assoc true b c = refl
or_assoc false b c = refl

pub any_more : (es fs : List Effect) → list_any is_refusal (es ++ fs) ≡ (list_any is_refusal es || list_any is_refusal fs)
any_more [] fs = refl
any_more (e ∷ es) fs = ap (λ (b : Bool). is_refusal e || b) (any_more es fs) ∙ or_assoc (is_refusal e) (list_any is_refusal es) (list_any is_refusal fs)

pub after_later : (files : Option Look) (t : Tables) (xs ys left : List Order) (es fs : List Effect)
    → Does files t xs es → After files (after_effects es t) ys left fs → After files t (xs ++ ys) left (es ++ fs)
after_later files t xs ys left es fs d a =
    record { done = xs ++ a.done; whole = ap (λ (zs : List Order). xs ++ zs) a.whole ∙ sym (append_assoc xs a.done left); does = does_more files t xs a.done es fs d a.does }

-- a text behind two others
texts_later : (es fs : List Effect) (part added : List ℕ) → added ≡ texts fs ++ part → texts es ++ added ≡ texts (es ++ fs) ++ part
texts_later es fs part added is =
    ap (λ (x : List ℕ). texts es ++ x) is ∙ sym (append_assoc (texts es) (texts fs) part) ∙ ap (λ (x : List ℕ). x ++ part) (sym (texts_more es fs))

pub halts_later : (files : Option Look) (t : Tables) (xs ys : List Order) (es : List Effect) (old new : Faults) (added : List ℕ) (left : Tables) (ends : Status)
    → Does files t xs es → Halts files (after_effects es t) ys old new added left ends → Halts files t (xs ++ ys) old new (texts es ++ added) left ends
halts_later files t xs ys es old new added left ends d (StoppedAt order others fs after part stopped is) =
    StoppedAt order others (es ++ fs) (after_later files t xs ys (order ∷ others) es fs d after) part
    (subst (λ (u : Tables). Stopped files u order old new part left ends) (sym (after_more t es fs)) stopped) (texts_later es fs part added is)
halts_later files t xs ys es old new added left ends d (NextNoMemory others fs after same is kept status) =
    NextNoMemory others (es ++ fs) (after_later files t xs ys others es fs d after) same
    (ap (λ (x : List ℕ). texts es ++ x) is ∙ sym (texts_more es fs)) (kept ∙ sym (after_more t es fs)) status

-- ---- what stops, stops whatever else was to be done

after_longer : (files : Option Look) (t : Tables) (xs zs left : List Order) (es : List Effect) → After files t xs left es → After files t (xs ++ zs) (left ++ zs) es
after_longer files t xs zs left es a =
    record { done = a.done; whole = ap (λ (ys : List Order). ys ++ zs) a.whole ∙ append_assoc a.done left zs; does = a.does }

halts_more : (files : Option Look) (t : Tables) (xs zs : List Order) (old new : Faults) (added : List ℕ) (left : Tables) (ends : Status)
    → Halts files t xs old new added left ends → Halts files t (xs ++ zs) old new added left ends
halts_more files t xs zs old new added left ends (StoppedAt order others es after part stopped is) =
    StoppedAt order (others ++ zs) es (after_longer files t xs zs (order ∷ others) es after) part stopped is
halts_more files t xs zs old new added left ends (NextNoMemory others es after same is kept status) =
    NextNoMemory (others ++ zs) es (after_longer files t xs zs others es after) same is kept status

-- ---- with what is written

-- what is written behind what was
pub written_later : (so so1 so2 : Option (List ℕ)) (a b : List ℕ) → IfSome so (λ s. so1 ≡ Some (s ++ a)) → IfSome so1 (λ s. so2 ≡ Some (s ++ b)) → IfSome so (λ s. so2 ≡ Some (s ++ (a ++ b)))
written_later None so1 so2 a b v w = tt
written_later (Some s) so1 so2 a b v w =
    let u : so2 ≡ Some ((s ++ a) ++ b) = subst (λ (o : Option (List ℕ)). IfSome o (λ r. so2 ≡ Some (r ++ b))) v w in
    u ∙ ap (λ (x : List ℕ). Some x) (append_assoc s a b)

-- all that was done, and then more
abbrev pub and_then : Bool → Result Bool Status → Result Bool Status
and_then refused (Ok more) = Ok (refused || more)
and_then refused (Err ends) = Err ends

pub turns_more : (files : Option Look) (t t1 t2 : Tables) (xs ys : List Order) (so so1 so2 : Option (List ℕ)) (old old1 new : Faults) (refused : Bool) (result : Result Bool Status)
    → IsDoneAll files t t1 xs so so1 old old1 refused → Turns files t1 t2 ys so1 so2 old1 new result → Turns files t t2 (xs ++ ys) so so2 old new (and_then refused result)
turns_more files t t1 t2 xs ys so so1 so2 old old1 new refused (Ok more) d e =
    record {
      effects = d.effects ++ e.effects;
      does = does_more files t xs ys d.effects e.effects d.does (subst (λ (u : Tables). Does files u ys e.effects) d.tables e.does);
      tables = e.tables ∙ ap (λ (u : Tables). after_effects e.effects u) d.tables ∙ sym (after_more t d.effects e.effects);
      written = subst (λ (x : List ℕ). IfSome so (λ s. so2 ≡ Some (s ++ x))) (sym (texts_more d.effects e.effects)) (written_later so so1 so2 (texts d.effects) (texts e.effects) d.written e.written);
      counts = e.counts ∙ d.counts;
      refuses = ap (λ (b : Bool). b || more) d.refuses ∙ ap (λ (b : Bool). list_any is_refusal d.effects || b) e.refuses ∙ sym (any_more d.effects e.effects);
    }
turns_more files t t1 t2 xs ys so so1 so2 old old1 new refused (Err ends) d e =
    record {
      added = texts d.effects ++ e.added;
      halts = halts_later files t xs ys d.effects old new e.added t2 ends d.does
          (subst (λ (o : Faults). Halts files (after_effects d.effects t) ys o new e.added t2 ends) d.counts
          (subst (λ (u : Tables). Halts files u ys old1 new e.added t2 ends) d.tables e.halts));
      written = written_later so so1 so2 (texts d.effects) e.added d.written e.written;
    }

pub halted_more : (files : Option Look) (t t' : Tables) (xs zs : List Order) (so so' : Option (List ℕ)) (old new : Faults) (ends : Status)
    → IsHalted files t t' xs so so' old new ends → IsHalted files t t' (xs ++ zs) so so' old new ends
halted_more files t t' xs zs so so' old new ends h = record { added = h.added; halts = halts_more files t xs zs old new h.added t' ends h.halts; written = h.written }

-- ---- lines

-- the orders of one more line
pub orders_next : (text : List ℕ) (lines : List Span) (i : ℕ) (d : Span) → i < length lines
    → orders_of (parts text (take (i + 1) lines)) ≡ orders_of (parts text (take i lines)) ++ orders_of_line (slice_range text (get_or lines i d).from (get_or lines i d).to)
orders_next text lines i d short =
    let line : Span → List ℕ = λ r. slice_range text r.from r.to in
    let s = get_or lines i d in
    let last : take (suc i) lines ≡ take i lines ++ s ∷ [] = take-suc lines i d short in
    rw (add-one, last)
    (ap (λ (ls : List (List ℕ)). orders_of ls) (map-append line (take i lines) (s ∷ []))
    ∙ flat_map-append orders_of_line (map line (take i lines)) (line s ∷ [])
    ∙ ap (λ (os : List Order). orders_of (map line (take i lines)) ++ os) (append-nil (orders_of_line (line s))))

-- all orders, from those of the first lines
pub orders_all : (text : List ℕ) (lines : List Span) (i : ℕ) → orders_of (parts text (take i lines)) ++ orders_of (parts text (drop i lines)) ≡ orders_of (parts text lines)
orders_all text lines i =
    let line : Span → List ℕ = λ r. slice_range text r.from r.to in
    sym (flat_map-append orders_of_line (map line (take i lines)) (map line (drop i lines)))
    ∙ ap (λ (ls : List (List ℕ)). orders_of ls) (sym (map-append line (take i lines) (drop i lines)) ∙ ap (map line) (take-append-drop i lines))

-- ---- what isn't missed

module _ (files : Option Look) (t : Tables) where
  -- the files of the first orders
  has_first : (xs zs : List Order) → HasItsFiles files t (xs ++ zs) → HasItsFiles files t xs
  has_first xs zs has order others es after name reaches = has order (others ++ zs) es (after_longer files t xs zs (order ∷ others) es after) name reaches

  -- and those of the later ones, once the first are done
  has_later : (xs ys : List Order) (es : List Effect) → Does files t xs es → HasItsFiles files t (xs ++ ys) → HasItsFiles files (after_effects es t) ys
  has_later xs ys es d has order others fs after name reaches =
      has order others (es ++ fs) (after_later files t xs ys (order ∷ others) es fs d after) name
      (subst (λ (u : Tables). Reaches files u order name) (sym (after_more t es fs)) reaches)

  pub misses_more : (t1 : Tables) (xs ys : List Order) (es : List Effect) (a b c : ℕ) → Does files t xs es → t1 ≡ after_effects es t
      → Misses files t xs a b → Misses files t1 ys b c → Misses files t (xs ++ ys) a c
  misses_more t1 xs ys es a b c d is m n = record {
    never_falls = omega (arith, m.never_falls, n.never_falls);
    absent = λ has.
        n.absent (subst (λ (u : Tables). HasItsFiles files u ys) (sym is) (has_later xs ys es d has)) ∙ m.absent (has_first xs ys has);
  }

  misses_longer : (xs zs : List Order) (a b : ℕ) → Misses files t xs a b → Misses files t (xs ++ zs) a b
  misses_longer xs zs a b m = record { never_falls = m.never_falls; absent = λ has. m.absent (has_first xs zs has) }

  -- one order
  pub misses_one : (order : Order) (a b : ℕ) → MissesAt files (Reaches files t order) a b → Misses files t (order ∷ []) a b
  misses_one order a b m =
      record { never_falls = m.never_falls; absent = λ has. m.absent (λ name reaches. has order [] [] (record { done = []; whole = refl; does = refl }) name reaches) }

  pub same_misses : (orders : List Order) (a : ℕ) → Misses files t orders a a
  same_misses orders a = record { never_falls = omega arith; absent = λ _. refl }

  pub missed_then : (t1 : Tables) (xs ys zs all : List Order) (es : List Effect) (a b c : ℕ) → Does files t xs es → t1 ≡ after_effects es t
      → Misses files t xs a b → Misses files t1 ys b c → (xs ++ ys) ++ zs ≡ all → Misses files t all a c
  missed_then t1 xs ys zs all es a b c d same m n is =
      subst (λ (os : List Order). Misses files t os a c) is (misses_longer (xs ++ ys) zs a c (misses_more t1 xs ys es a b c d same m n))

-- the orders of one line
pub line_misses : (files : Option Look) (t : Tables) (line : List ℕ) (order : Order) (kind : LineKind) (a b : ℕ) → kind ≡ kind_of_line line → orders_of_kind kind ≡ order ∷ []
    → Misses files t (order ∷ []) a b → Misses files t (orders_of_line line) a b
line_misses files t line order kind a b is one m = subst (λ (os : List Order). Misses files t os a b) (sym one ∙ ap orders_of_kind is) m

-- ---- a loop over orders

-- some are done, and then some more
pub done_more : (files : Option Look) (t t1 t2 : Tables) (xs ys zs : List Order) (so so1 so2 : Option (List ℕ)) (old old1 new : Faults) (a b both : Bool)
    → IsDoneAll files t t1 xs so so1 old old1 a → IsDoneAll files t1 t2 ys so1 so2 old1 new b → both ≡ (a || b) → zs ≡ xs ++ ys → IsDoneAll files t t2 zs so so2 old new both
done_more files t t1 t2 xs ys zs so so1 so2 old old1 new a b both d e is same =
    subst (λ (os : List Order). IsDoneAll files t t2 os so so2 old new both) (sym same)
    (subst (λ (r : Bool). IsDoneAll files t t2 (xs ++ ys) so so2 old new r) (sym is) (turns_more files t t1 t2 xs ys so so1 so2 old old1 new a (Ok b) d e))

-- some are done, the next aren't, and there would be others
pub halted_then : (files : Option Look) (t t1 t2 : Tables) (xs ys zs all : List Order) (so so1 so2 : Option (List ℕ)) (old old1 new : Faults) (a : Bool) (ends : Status)
    → IsDoneAll files t t1 xs so so1 old old1 a → IsHalted files t1 t2 ys so1 so2 old1 new ends → (xs ++ ys) ++ zs ≡ all → IsHalted files t t2 all so so2 old new ends
halted_then files t t1 t2 xs ys zs all so so1 so2 old old1 new a ends d h is =
    subst (λ (os : List Order). IsHalted files t t2 os so so2 old new ends) is
    (halted_more files t t2 (xs ++ ys) zs so so2 old new ends (turns_more files t t1 t2 xs ys so so1 so2 old old1 new a (Err ends) d h))

-- all orders, from those of the first lines, of the next, and of the others
pub orders_split : (text : List ℕ) (lines : List Span) (i : ℕ) (d : Span) → i < length lines
    → (orders_of (parts text (take i lines)) ++ orders_of_line
    (slice_range text (get_or lines i d).from (get_or lines i d).to)) ++ orders_of
    (parts text (drop (i + 1) lines)) ≡ orders_of (parts text lines)
orders_split text lines i d short =
    ap (λ (os : List Order). os ++ orders_of (parts text (drop (i + 1) lines))) (sym (orders_next text lines i d short)) ∙ orders_all text lines (i + 1)
