-- Without its frames a session is a run of a script.
--     sessions_are_scripts
use Rattle.std.proofs.Common.{◌≡◌, ℕ, ◌≤◌, Bool, true, false, List, [], ◌∷◌, ◌++◌, length, map, Option, refl, sym, ap, ◌∙◌, subst, append_assoc, append-nil}
use Rattle.std.specs.Prelude.{◌==◌, nat_lt, if◌then◌else◌, None}
use Rattle.std.specs.List.{AllByRecursion, flat_map}
use Rattle.std.proofs.lemmas.Bool.{le-ltb}
use Rattle.mk_text.specs.Lines.{lines_of, onto_first_piece, pieces, without_cr}
use Rattle.mk_found.specs.Effects.{Effect}
use Rattle.mk_found.specs.Files.{Look}
use Rattle.mk_session.specs.Orders.{Order, Orders, TooMuch, orders_of, orders_of_line, script_bytes}
use Rattle.mk_session.specs.Run.{Commands, Does, after_effects}
use Rattle.mk_talk.specs.Answers.{AreAnswers, Came, Held}
use Rattle.mk_talk.specs.Laws.{SessionsAreScripts}
use Rattle.mk_talk.specs.Lines.{all_lines, last_line, orders_of_all, orders_within, rest_from, whole_from}

-- ---- lines

-- these bytes in front of the first of some pieces
abbrev front : List ℕ → List (List ℕ) → List (List ℕ)
front [] ps = ps
front (b ∷ bs) [] = (b ∷ bs) ∷ []
front (b ∷ bs) (p ∷ ps) = ((b ∷ bs) ++ p) ∷ ps

alone : (line : List ℕ) → last_line line ≡ front line []
alone [] = refl
alone (b ∷ bs) = refl

front_ended : (line : List ℕ) (ps : List (List ℕ)) → line ∷ ps ≡ front line ([] ∷ ps)
front_ended [] ps = refl
front_ended (b ∷ bs) ps = ap (λ (x : List ℕ). x ∷ ps) (sym (append-nil (b ∷ bs)))

front_more : (line : List ℕ) (c : ℕ) (ps : List (List ℕ)) → front (line ++ c ∷ []) ps ≡ front line (onto_first_piece c ps)
front_more [] c [] = refl
front_more [] c (p ∷ ps) = refl
front_more (b ∷ bs) c [] = refl
front_more (b ∷ bs) c (p ∷ ps) = ap (λ (x : List ℕ). x ∷ ps) (append_assoc (b ∷ bs) (c ∷ []) p)

pieces_if : (b : Bool) (line : List ℕ) (c : ℕ) (w w' ps : List (List ℕ)) (r r' : List ℕ) → w ++ last_line r ≡ ps → w' ++ last_line r' ≡ front (line ++ c ∷ []) ps
    → (if b then line ∷ w else w') ++ last_line (if b then r else r') ≡ front line (if b then [] ∷ ps else onto_first_piece c ps)
pieces_if true line c w w' ps r r' e f = ap (λ (x : List (List ℕ)). line ∷ x) e ∙ front_ended line ps
pieces_if false line c w w' ps r r' e f = f ∙ front_more line c ps

lines_are : (line cs : List ℕ) → whole_from line cs ++ last_line (rest_from line cs) ≡ front line (pieces cs)
lines_are line [] = alone line
lines_are line (c ∷ cs) =
    pieces_if (c == 10) line c (whole_from [] cs) (whole_from (line ++ c ∷ []) cs) (pieces cs) (rest_from [] cs) (rest_from (line ++ c ∷ []) cs)
    (lines_are [] cs) (lines_are (line ++ c ∷ []) cs)

-- ---- what they ask for

within : (b : Bool) (line : List ℕ) → b ≡ false → (if b then None ∷ [] else orders_of_line (without_cr line)) ≡ orders_of_line (without_cr line)
within true line is = absurd cc
within false line is = refl

asked_same : (m : ℕ) (lines : List (List ℕ)) → AllByRecursion (λ line. length line ≤ m) lines → flat_map (orders_within m) lines ≡ flat_map orders_of_line (map without_cr lines)
asked_same m [] short = refl
asked_same m (line ∷ lines) short =
    ap (λ (x : List Order). x ++ flat_map (orders_within m) lines) (within (nat_lt m (length line)) line (le-ltb m (length line) short.0))
    ∙ ap (λ (x : List Order). orders_of_line (without_cr line) ++ x) (asked_same m lines short.1)

asked_so : (input : List ℕ) → AllByRecursion (λ line. length line ≤ 65536) (all_lines input) → orders_of_all (all_lines input) ≡ orders_of (lines_of input)
unfolding lines_of
asked_so input short = asked_same 65536 (all_lines input) short ∙ ap (λ (x : List (List ℕ)). flat_map orders_of_line (map without_cr x)) (lines_are [] input)

script_if : (b : Bool) (orders : List Order) → b ≡ false → (if b then TooMuch else Orders orders) ≡ Orders orders
script_if true orders is = absurd cc
script_if false orders is = refl

-- ---- what they come to

record IsDoneSo (look : Option Look) (s s' : Held) (orders : List Order) (effects : List Effect) : Type 0 where
  does : Does look s.tables orders effects
  leaves : s'.tables ≡ after_effects effects s.tables

done_so : (look : Option Look) (s s' : Held) (orders : List Order) (effects : List Effect) → AreAnswers look s s' orders (map Came effects) → IsDoneSo look s s' orders effects
done_so look s s' [] [] is = record { does = refl; leaves = ap (λ (x : Held). x.tables) is }
done_so look s s' [] (effect ∷ effects) is = absurd is
done_so look s s' (order ∷ orders) [] is = absurd is
done_so look s s' (order ∷ orders) (effect ∷ effects) is =
    let rest = done_so look is.0 s' orders effects is.2 in
    record {
      does = (is.1.comes, subst (λ t. Does look t orders effects) is.1.tables rest.does);
      leaves = rest.leaves ∙ ap (λ t. after_effects effects t) is.1.tables;
    }

pub sessions_are_scripts : SessionsAreScripts
sessions_are_scripts look s s' input effects reads small short are =
    let done = done_so look s s' (orders_of_all (all_lines input)) effects are in
    Commands (orders_of_all (all_lines input))
    (script_if (nat_lt script_bytes (length input)) (orders_of (lines_of input)) (le-ltb script_bytes (length input) small) ∙ ap Orders (sym (asked_so input short)))
    reads effects done.does refl done.leaves refl
