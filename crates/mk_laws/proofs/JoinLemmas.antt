-- Two scripts one after the other are one script.
use Rattle.std.proofs.Common.{◌≡◌, ℕ, ◌+◌, ◌≤◌, ◌==◌, Bool, true, false, ◌||◌, List, [], ◌∷◌, ◌++◌, length, map, Option, if◌then◌else◌, refl, sym, ap, ◌∙◌, subst, append_assoc, arith, length-append}
use Rattle.std.specs.List.{list_any}
use Rattle.std.proofs.lemmas.Bool.{le-ltb}
use Rattle.std.proofs.lemmas.Grind.{flat_map-append}
use Rattle.std.proofs.lemmas.List.{map-append}
use Rattle.mk_outside.specs.declared.tables.Tables.{Tables}
use Rattle.mk_text.specs.Lines.{lines_of, pieces, onto_first_piece, without_cr}
use Rattle.mk_session.specs.declared.status.Status.{Status}
use Rattle.mk_session.specs.Orders.{Asked, Order, Orders, asked_of_script, orders_of, orders_of_line, script_bytes}
use Rattle.mk_found.specs.Effects.{Effect, is_refusal}
use Rattle.mk_session.specs.Run.{after_effects, status_behind, ending_if, texts, Does, IsOneLine, IsRun, OneLine, Commands, NotUnderstood, ScriptLong, BadStore}
use Rattle.mk_found.specs.Files.{Look}
use Rattle.mk_session.specs.Outcomes.{IsAllDone, AllCommandsDone, SomeRefused}
use Rattle.mk_laws.specs.Laws.{TwoScripts, joined}
use Rattle.mk_kept.specs.StoredRows.{AllRead}
use Rattle.mk_session.proofs.HeadlineLemmas.{no_line}
use Rattle.mk_session.proofs.TurnLemmas.{does_more, after_more, any_more, texts_more}

-- ---- lines

-- pieces of a text that isn't empty
record IsSome_pieces (ps : List (List ℕ)) : Type 0 where
  first : List ℕ
  others : List (List ℕ)
  is : ps ≡ first ∷ others

onto_some : (c : ℕ) (ps : List (List ℕ)) → IsSome_pieces (onto_first_piece c ps)
onto_some c [] = record { first = c ∷ []; others = []; is = refl }
onto_some c (p ∷ ps) = record { first = c ∷ p; others = ps; is = refl }

pieces_some : (c : ℕ) (cs : List ℕ) → IsSome_pieces (pieces (c ∷ cs))
pieces_some c cs = by_test (c == 10)
  where
    by_test : (b : Bool) → IsSome_pieces (if b then [] ∷ pieces cs else onto_first_piece c (pieces cs))
    by_test true = record { first = []; others = pieces cs; is = refl }
    by_test false = onto_some c (pieces cs)

before_lf_some : (xs : List ℕ) → IsSome_pieces (pieces (xs ++ 10 ∷ []))
before_lf_some [] = pieces_some 10 []
before_lf_some (x ∷ xs) = pieces_some x (xs ++ 10 ∷ [])

onto_more : (c : ℕ) (ps qs : List (List ℕ)) → IsSome_pieces ps → onto_first_piece c (ps ++ qs) ≡ onto_first_piece c ps ++ qs
onto_more c [] qs s = let h = s.is in absurd cc
onto_more c (p ∷ ps) qs s = refl

one_more_byte : (c : ℕ) (xs ys : List ℕ) → pieces (xs ++ 10 ∷ ys) ≡ pieces (xs ++ 10 ∷ []) ++ pieces ys → pieces (c ∷ xs ++ 10 ∷ ys) ≡ pieces (c ∷ xs ++ 10 ∷ []) ++ pieces ys
one_more_byte c xs ys more = by_test (c == 10)
  where
    by_test : (b : Bool) → (if b then [] ∷ pieces (xs ++ 10 ∷ ys) else onto_first_piece c (pieces (xs ++ 10 ∷ ys))) ≡
        (if b then [] ∷ pieces (xs ++ 10 ∷ []) else onto_first_piece c (pieces (xs ++ 10 ∷ []))) ++ pieces ys
    by_test true = ap (λ (ps : List (List ℕ)). [] ∷ ps) more
    by_test false = ap (λ (ps : List (List ℕ)). onto_first_piece c ps) more ∙ onto_more c (pieces (xs ++ 10 ∷ [])) (pieces ys) (before_lf_some xs)

pieces_more : (xs ys : List ℕ) → pieces (xs ++ 10 ∷ ys) ≡ pieces (xs ++ 10 ∷ []) ++ pieces ys
pieces_more [] ys = refl
pieces_more (c ∷ xs) ys = one_more_byte c xs ys (pieces_more xs ys)

lines_more : (xs ys : List ℕ) → lines_of ((xs ++ 10 ∷ []) ++ ys) ≡ lines_of (xs ++ 10 ∷ []) ++ lines_of ys
unfolding lines_of
lines_more xs ys =
    ap (λ (text : List ℕ). map without_cr (pieces text)) (append_assoc xs (10 ∷ []) ys) ∙ ap (map without_cr) (pieces_more xs ys) ∙ map-append without_cr (pieces (xs ++ 10 ∷ [])) (pieces ys)

-- ---- what is asked

-- a script within its limit
pub asked_short : (text : List ℕ) → length text ≤ script_bytes → asked_of_script text ≡ Orders (orders_of (lines_of text))
asked_short text short = rw (le-ltb script_bytes (length text) short) refl

same_orders : (asked : Asked) (orders others : List Order) → asked ≡ Orders orders → asked ≡ Orders others → others ≡ orders
same_orders asked orders others is e = cc

-- ---- runs

one_line_done : (t : Tables) (asked : Asked) (line : List ℕ) (ends : Status) → IsAllDone ends → IsOneLine t asked line ends → ⊥
one_line_done t asked line ends (AllCommandsDone d) (NotUnderstood e a b) = let h = sym d ∙ b in cc
one_line_done t asked line ends (AllCommandsDone d) (ScriptLong e a b) = let h = sym d ∙ b in cc
one_line_done t asked line ends (AllCommandsDone d) (BadStore orders e kind number bad a b) = let h = sym d ∙ b in cc
one_line_done t asked line ends (SomeRefused d) (NotUnderstood e a b) = let h = sym d ∙ b in cc
one_line_done t asked line ends (SomeRefused d) (ScriptLong e a b) = let h = sym d ∙ b in cc
one_line_done t asked line ends (SomeRefused d) (BadStore orders e kind number bad a b) = let h = sym d ∙ b in cc

-- the effects of a run of commands
pub record IsCommandRun (files : Option Look) (t : Tables) (orders : List Order) (added : List ℕ) (left : Tables) (ends : Status) : Type 0 where
  pub reads : AllRead t
  pub effects : List Effect
  pub does : Does files t orders effects
  pub adds : added ≡ texts effects
  pub leaves : left ≡ after_effects effects t
  pub status : ends ≡ status_behind effects

of_first : (files : Option Look) (t : Tables) (asked : Asked) (orders : List Order) (added : List ℕ) (left : Tables)
    (ends : Status) → asked ≡ Orders orders → IsAllDone ends → IsRun files t asked added left ends
    → IsCommandRun files t orders added left ends
of_first files t asked orders added left ends is done (OneLine one a) = absurd (one_line_done t asked added ends done one)
of_first files t asked orders added left ends is done (Commands others e reads effects does a b s) =
    record { reads = reads; effects = effects; does = subst (λ (os : List Order). Does files t os effects) (same_orders asked orders others is e) does; adds = a; leaves = b; status = s }

pub of_second : (files : Option Look) (t : Tables) (asked : Asked) (orders : List Order) (added : List ℕ) (left : Tables)
    (ends : Status) → asked ≡ Orders orders → AllRead t → IsRun files t asked added left ends
    → IsCommandRun files t orders added left ends
of_second files t asked orders added left ends is reads (OneLine one a) = absurd (no_line t asked orders added ends is reads one)
of_second files t asked orders added left ends is reads (Commands others e r effects does a b s) =
    record { reads = reads; effects = effects; does = subst (λ (os : List Order). Does files t os effects) (same_orders asked orders others is e) does; adds = a; leaves = b; status = s }

joined_if : (a b : Bool) → joined (ending_if a) (ending_if b) ≡ ending_if (a || b)
joined_if true b = refl
joined_if false b = refl

pub both_runs : (files : Option Look) (t t1 t2 : Tables) (xs ys : List Order) (a b : List ℕ) (ends1 ends2 : Status) (asked : Asked) → asked ≡ Orders (xs ++ ys)
    → IsCommandRun files t xs a t1 ends1 → IsCommandRun files t1 ys b t2 ends2 → IsRun files t asked (a ++ b) t2 (joined ends1 ends2)
both_runs files t t1 t2 xs ys a b ends1 ends2 asked is d e =
    Commands (xs ++ ys) is d.reads (d.effects ++ e.effects)
    (does_more files t xs ys d.effects e.effects d.does (subst (λ (u : Tables). Does files u ys e.effects) d.leaves e.does))
    (ap (λ (x : List ℕ). x ++ b) d.adds ∙ ap (λ (x : List ℕ). texts d.effects ++ x) e.adds ∙ sym (texts_more d.effects e.effects))
    (e.leaves ∙ ap (λ (u : Tables). after_effects e.effects u) d.leaves ∙ sym (after_more t d.effects e.effects))
    (ap (λ (s : Status). joined s ends2) d.status ∙ ap (λ (s : Status). joined (status_behind d.effects) s) e.status
    ∙ joined_if (list_any is_refusal d.effects) (list_any is_refusal e.effects) ∙ ap ending_if (sym (any_more d.effects e.effects)))

pub two_scripts : TwoScripts
two_scripts files t t1 t2 first second a b ends1 ends2 run1 done reads run2 short =
    let both : length ((first ++ 10 ∷ []) ++ second) ≡ length (first ++ 10 ∷ []) + length second = length-append (first ++ 10 ∷ []) second in
    let asked : asked_of_script ((first ++ 10 ∷ []) ++ second) ≡ Orders (orders_of (lines_of (first ++ 10 ∷ [])) ++ orders_of (lines_of second)) =
    asked_short ((first ++ 10 ∷ []) ++ second) short ∙ ap Orders
    (ap (λ (ls : List (List ℕ)). orders_of ls) (lines_more first second)
    ∙ flat_map-append orders_of_line (lines_of (first ++ 10 ∷ [])) (lines_of second)) in
    both_runs files t t1 t2 _ _ a b ends1 ends2 _ asked
    (of_first files t _ _ a t1 ends1 (asked_short (first ++ 10 ∷ []) (omega arith)) done run1)
    (of_second files t1 _ _ b t2 ends2 (asked_short second (omega arith)) reads run2)
