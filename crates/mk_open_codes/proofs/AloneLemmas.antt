-- One choice alone, and what no molecule holds.
--     begins_with            a code with which an occurrence begins begins with the front
--     alone_agrees           a code that decides n alone agrees with each choice of n there
--     none_alone             where it has no embedding, no occurrence chooses n there
--     alone_none, slots_none   the laws of choices alone
--     fronts_none, root_all    those of fronts
--     alone_open             a choice alone has an open code
use Rattle.std.proofs.Common.{◌≡◌, ◌∙◌, ℕ, zero, suc, ◌+◌, ◌<◌, ◌≤◌, inl, inr, List, [], ◌∷◌, ◌++◌, length, get_or, replicate, take, map, refl, sym, ap, subst, arith, append_assoc}
use Rattle.std.proofs.lemmas.Bool.{cases_lt}
use Rattle.std.proofs.lemmas.List.{append-nil}
use Rattle.mk_model.specs.declared.template.Slot.{Slot}
use Rattle.mk_model.specs.declared.template.Slot.TheVariants.{Link, Site}
use Rattle.mk_model.specs.Codes.{Choice, IsChoice, IsCode, spelling}
use Rattle.mk_model.specs.Codes.Choice.{done, repeated, unfilled, filled}
use Rattle.mk_model.specs.Hits.{image}
use Rattle.mk_model.specs.Keys.{IsOccurrence}
use Rattle.mk_model.specs.Labels.{member, members_at}
use Rattle.mk_model.specs.Molecules.{Molecule}
use Rattle.mk_model.specs.Nodes.{BeginsCode}
use Rattle.mk_model.specs.OpenSlots.{most_at}
use Rattle.mk_model.specs.Queries.{QueryView, slots_of}
use Rattle.mk_model.specs.QueryFits.{QueryFits}
use Rattle.mk_model.proofs.ForCallers.{embedding_of, one_choice}
use Rattle.mk_screen.proofs.LossFreeLemmas.{covers_of_embedding}
use Rattle.mk_open_codes.specs.Alone.{AloneFrontsHoldNone, HoldsNoneAlone, SlotsHoldNone, alone_code}
use Rattle.mk_open_codes.specs.Fronts.{FrontsHoldNone, RootNeed, front_code}
use Rattle.mk_expand.specs.OpenCodes.{IsOpenChoice, IsOpenCode, OpenChoice, open_spelling}
use Rattle.mk_open_codes.specs.Completions.{Agrees, Completes}
use Rattle.mk_expand.specs.OpenCodes.OpenChoice.{no_more, undecided, repeats, vacates, fills}
use Rattle.mk_expand.specs.OpenGraphs.{IsOpenGraph}
use Rattle.mk_open_codes.specs.Passing.{HasOpenCode}
use Rattle.mk_open_codes.proofs.FrontLemmas.{all_open, all_open_made, all_open_spelt, all_open_agrees, completed, has_open_code, none_inside, own_code, zeros_add}
use Rattle.mk_open_codes.proofs.LawLemmas.{held, no_hit}
use Rattle.mk_open_codes.proofs.SplitLemmas.{first_made, first_of, number_at, number_is, number_within, rest_of, split_spelt}
use Rattle.mk_expand.proofs.OneChoiceLemmas.{heads, tails}

-- ---- numbers

-- what begins numbers that are all 0
first_zero : (x k : ℕ) (xs : List ℕ) → x ∷ xs ≡ replicate k 0 → x ≡ 0
first_zero x zero xs e = absurd cc
first_zero x (suc k) xs e = heads x 0 xs (replicate k 0) e

-- and what stands behind some of them
behind_zero : (xs ys : List ℕ) (k : ℕ) → xs ++ ys ≡ replicate k 0 → (j : ℕ) × (ys ≡ replicate j 0)
behind_zero [] ys k e = (k, e)
behind_zero (x ∷ xs) ys zero e = absurd cc
behind_zero (x ∷ xs) ys (suc k) e = behind_zero xs ys k (tails x 0 (xs ++ ys) (replicate k 0) e)

-- ---- open choices of 0 alone

-- an open choice whose numbers are all 0 leaves all slots open
zeros_open : (query : QueryView) (slots : List Slot) (o : OpenChoice) (rest : List ℕ) (k : ℕ) → IsOpenChoice query slots o → open_spelling o ++ rest ≡ replicate k 0 → o ≡ all_open slots
zeros_open query [] no_more rest k is e = refl
zeros_open query [] (undecided others) rest k is e = absurd is
zeros_open query [] (repeats n others) rest k is e = absurd is
zeros_open query [] (vacates n others) rest k is e = absurd is
zeros_open query [] (fills n inside others) rest k is e = absurd is
zeros_open query (slot ∷ slots) (undecided others) rest zero is e = absurd cc
zeros_open query (slot ∷ slots) (undecided others) rest (suc k) is e = ap undecided (zeros_open query slots others rest k is (tails 0 0 _ _ e))
zeros_open query (Link atom most from to ∷ slots) no_more rest k is e = absurd is
zeros_open query (Link atom most from to ∷ slots) (repeats n others) rest k is e = absurd (omega (arith, first_zero n k _ e, is.0))
zeros_open query (Link atom most from to ∷ slots) (vacates n others) rest k is e = absurd is
zeros_open query (Link atom most from to ∷ slots) (fills n inside others) rest k is e = absurd is
zeros_open query (Site atom groups first second ∷ slots) no_more rest k is e = absurd is
zeros_open query (Site atom groups first second ∷ slots) (repeats n others) rest k is e = absurd is
zeros_open query (Site atom groups first second ∷ slots) (vacates n others) rest k is e = absurd (omega (arith, first_zero n k _ e, is.0))
zeros_open query (Site atom groups first second ∷ slots) (fills n inside others) rest k is e = absurd (omega (arith, first_zero n k _ e, is.0))

-- so it agrees with each choice
zeros_agree : (query : QueryView) (slots : List Slot) (o : OpenChoice) (rest : List ℕ) (k : ℕ) (choice : Choice) → IsOpenChoice query slots o → open_spelling o ++ rest ≡ replicate k 0
    → IsChoice query slots choice → Agrees o choice
zeros_agree query slots o rest k choice made e is =
    subst (λ (p : OpenChoice). Agrees p choice) (sym (zeros_open query slots o rest k made e)) (all_open_agrees query slots choice is)

-- with no numbers behind it
only_zeros : (query : QueryView) (slots : List Slot) (o : OpenChoice) (k : ℕ) (choice : Choice) → IsOpenChoice query slots o → open_spelling o ≡ replicate k 0 → IsChoice query slots choice
    → Agrees o choice
only_zeros query slots o k choice made e is = zeros_agree query slots o [] k choice made (append-nil (open_spelling o) ∙ e) is

-- ---- a choice alone

-- a member that is chosen alone agrees with each choice inside it, and nothing is decided behind it
filled_agrees : (query : QueryView) (slot : Slot) (slots : List Slot) (n n' k : ℕ) (within others : OpenChoice) (inside more : Choice) → n ≡ n'
    → IsOpenChoice query (slots_of query (member query slot n)) within → IsOpenChoice query slots others
    → IsChoice query (slots_of query (member query slot n')) inside → IsChoice query slots more
    → open_spelling within ++ open_spelling others ≡ replicate k 0 → (n ≡ n') × Agrees within inside × Agrees others more
filled_agrees query slot slots n n' k within others inside more same within_made others_made inside_made more_made e =
    let made : IsChoice query (slots_of query (member query slot n)) inside =
    subst (λ (m : ℕ). IsChoice query (slots_of query (member query slot m)) inside) (sym same) inside_made in
    let last = behind_zero (open_spelling within) (open_spelling others) k e in (
      same,
      zeros_agree query (slots_of query (member query slot n)) within (open_spelling others) k inside within_made e made,
      only_zeros query slots others last.0 more others_made last.1 more_made,
    )

-- an open choice that decides n at the first slot alone
here_agrees : (query : QueryView) (slots : List Slot) (n k : ℕ) (o : OpenChoice) (choice : Choice) → IsOpenChoice query slots o → IsChoice query slots choice → open_spelling o ≡ n ∷ replicate k 0
    → number_at 0 choice ≡ n → Agrees o choice
here_agrees query [] n k no_more done made is e at = absurd cc
here_agrees query [] n k (undecided others) choice made is e at = absurd made
here_agrees query [] n k (repeats m others) choice made is e at = absurd made
here_agrees query [] n k (vacates m others) choice made is e at = absurd made
here_agrees query [] n k (fills m within others) choice made is e at = absurd made
here_agrees query [] n k no_more (repeated m more) made is e at = absurd is
here_agrees query [] n k no_more (unfilled m more) made is e at = absurd is
here_agrees query [] n k no_more (filled m inside more) made is e at = absurd is
here_agrees query (Link atom most from to ∷ slots) n k o done made is e at = absurd is
here_agrees query (Link atom most from to ∷ slots) n k o (unfilled m more) made is e at = absurd is
here_agrees query (Link atom most from to ∷ slots) n k o (filled m inside more) made is e at = absurd is
here_agrees query (Link atom most from to ∷ slots) n k no_more (repeated m more) made is e at = absurd made
here_agrees query (Link atom most from to ∷ slots) n k (undecided others) (repeated m more) made is e at = only_zeros query slots others k more made (tails 0 n _ _ e) is.2
here_agrees query (Link atom most from to ∷ slots) n k (repeats m' others) (repeated m more) made is e at =
    (heads m' n _ _ e ∙ sym at, only_zeros query slots others k more made.2 (tails m' n _ _ e) is.2)
here_agrees query (Link atom most from to ∷ slots) n k (vacates m' others) (repeated m more) made is e at = absurd made
here_agrees query (Link atom most from to ∷ slots) n k (fills m' within others) (repeated m more) made is e at = absurd made
here_agrees query (Site atom groups first second ∷ slots) n k o done made is e at = absurd is
here_agrees query (Site atom groups first second ∷ slots) n k o (repeated m more) made is e at = absurd is
here_agrees query (Site atom groups first second ∷ slots) n k no_more (unfilled m more) made is e at = absurd made
here_agrees query (Site atom groups first second ∷ slots) n k (undecided others) (unfilled m more) made is e at = only_zeros query slots others k more made (tails 0 n _ _ e) is.1
here_agrees query (Site atom groups first second ∷ slots) n k (repeats m' others) (unfilled m more) made is e at = absurd made
here_agrees query (Site atom groups first second ∷ slots) n k (vacates m' others) (unfilled m more) made is e at =
    (heads m' n _ _ e ∙ sym at, only_zeros query slots others k more made.1 (tails m' n _ _ e) is.1)
here_agrees query (Site atom groups first second ∷ slots) n k (fills m' within others) (unfilled m more) made is e at =
    absurd (omega (arith, heads m' n _ _ e, at, made.1, is.0))
here_agrees query (Site atom groups first second ∷ slots) n k no_more (filled m inside more) made is e at = absurd made
here_agrees query (Site atom groups first second ∷ slots) n k (undecided others) (filled m inside more) made is e at = only_zeros query slots others k more made (tails 0 n _ _ e) is.3
here_agrees query (Site atom groups first second ∷ slots) n k (repeats m' others) (filled m inside more) made is e at = absurd made
here_agrees query (Site atom groups first second ∷ slots) n k (vacates m' others) (filled m inside more) made is e at =
    absurd (omega (arith, heads m' n _ _ e, at, made.0, is.1))
here_agrees query (Site atom groups first second ∷ slots) n k (fills m' within others) (filled m inside more) made is e at =
    filled_agrees query (Site atom groups first second) slots m' m k within others inside more (heads m' n _ _ e ∙ sym at) made.2 made.3 is.2 is.3 (tails m' n _ _ e)

-- a code that decides n alone agrees with each choice of n at that slot
alone_agrees : (query : QueryView) (s : ℕ) (slots : List Slot) (n k : ℕ) (o : OpenChoice) (choice : Choice) → IsOpenChoice query slots o → IsChoice query slots choice
    → open_spelling o ≡ alone_code s n k → number_at s choice ≡ n → Agrees o choice
alone_agrees query zero slots n k o choice made is e at = here_agrees query slots n k o choice made is e at
alone_agrees query (suc s) [] n k no_more choice made is e at = absurd cc
alone_agrees query (suc s) [] n k (undecided others) choice made is e at = absurd made
alone_agrees query (suc s) [] n k (repeats m others) choice made is e at = absurd made
alone_agrees query (suc s) [] n k (vacates m others) choice made is e at = absurd made
alone_agrees query (suc s) [] n k (fills m within others) choice made is e at = absurd made
alone_agrees query (suc s) (Link atom most from to ∷ slots) n k o done made is e at = absurd is
alone_agrees query (suc s) (Link atom most from to ∷ slots) n k o (unfilled m more) made is e at = absurd is
alone_agrees query (suc s) (Link atom most from to ∷ slots) n k o (filled m inside more) made is e at = absurd is
alone_agrees query (suc s) (Link atom most from to ∷ slots) n k no_more (repeated m more) made is e at = absurd made
alone_agrees query (suc s) (Link atom most from to ∷ slots) n k (undecided others) (repeated m more) made is e at =
    alone_agrees query s slots n k others more made is.2 (tails 0 0 _ _ e) at
alone_agrees query (suc s) (Link atom most from to ∷ slots) n k (repeats m' others) (repeated m more) made is e at = absurd (omega (arith, heads m' 0 _ _ e, made.0))
alone_agrees query (suc s) (Link atom most from to ∷ slots) n k (vacates m' others) (repeated m more) made is e at = absurd made
alone_agrees query (suc s) (Link atom most from to ∷ slots) n k (fills m' within others) (repeated m more) made is e at = absurd made
alone_agrees query (suc s) (Site atom groups first second ∷ slots) n k no_more choice made is e at = absurd made
alone_agrees query (suc s) (Site atom groups first second ∷ slots) n k (repeats m' others) choice made is e at = absurd made
alone_agrees query (suc s) (Site atom groups first second ∷ slots) n k (vacates m' others) choice made is e at = absurd (omega (arith, heads m' 0 _ _ e, made.0))
alone_agrees query (suc s) (Site atom groups first second ∷ slots) n k (fills m' within others) choice made is e at = absurd (omega (arith, heads m' 0 _ _ e, made.0))
alone_agrees query (suc s) (Site atom groups first second ∷ slots) n k (undecided others) done made is e at = absurd is
alone_agrees query (suc s) (Site atom groups first second ∷ slots) n k (undecided others) (repeated m more) made is e at = absurd is
alone_agrees query (suc s) (Site atom groups first second ∷ slots) n k (undecided others) (unfilled m more) made is e at =
    alone_agrees query s slots n k others more made is.1 (tails 0 0 _ _ e) at
alone_agrees query (suc s) (Site atom groups first second ∷ slots) n k (undecided others) (filled m inside more) made is e at =
    alone_agrees query s slots n k others more made is.3 (tails 0 0 _ _ e) at

-- where it has no embedding, no occurrence chooses n there
none_alone : (query : QueryView) (mol : Molecule) (s n : ℕ) (numbers : List ℕ) → QueryFits query → HoldsNoneAlone query mol s n → (occurs : IsOccurrence query mol numbers)
    → number_at s occurs.expanded.choice ≡ n → ⊥
none_alone query mol s n numbers fits lost occurs at =
    no_hit query lost.code lost.part mol fits lost.graph lost.none occurs.code occurs.graph completes occurs.expanded occurs.hit (embedding_of occurs.graph mol occurs.hit occurs.hits)
  where
    completes : Completes query occurs.code lost.code
    completes = record {
      choice = occurs.expanded.choice;
      made = occurs.expanded.made;
      spelt = occurs.expanded.spelt;
      open_choice = lost.is.is.choice;
      open_made = lost.is.is.made;
      open_spelt = lost.is.is.spelt;
      agrees = alone_agrees query s (slots_of query 0) n lost.is.left lost.is.is.choice occurs.expanded.choice lost.is.is.made occurs.expanded.made
          (lost.is.is.spelt ∙ lost.is.spelt) at;
    }

-- the number behind the first s slots
number_behind : (query : QueryView) (s n : ℕ) (numbers more : List ℕ) (slots : List Slot) (choice place : Choice) → IsChoice query slots choice → IsChoice query (take s slots) place
    → spelling place ≡ numbers → spelling choice ≡ (numbers ++ n ∷ []) ++ more → number_at s choice ≡ n
number_behind query s n numbers more slots choice place made place_made place_is spelt =
    let whole : spelling (first_of s choice) ++ spelling (rest_of s choice) ≡ spelling place ++ (n ∷ more) =
    split_spelt s choice ∙ spelt ∙ append_assoc numbers (n ∷ []) more ∙ ap (λ (xs : List ℕ). xs ++ (n ∷ more)) (sym place_is) in
    let same = one_choice query (take s slots) (first_of s choice) place (spelling (rest_of s choice)) (n ∷ more) (first_made query s slots choice made) place_made whole in
    number_is s choice n more same.rests

pub alone_none : AloneFrontsHoldNone
alone_none query mol s n numbers fits place begins lost more occurs =
    let begun = own_code query mol (numbers ++ n ∷ []) more begins occurs in
    none_alone query mol s n ((numbers ++ n ∷ []) ++ more) fits lost occurs
    (number_behind query s n numbers begun.0 (slots_of query 0) occurs.expanded.choice place.choice occurs.expanded.made place.made place.spelt (occurs.expanded.spelt ∙ begun.1))

pub slots_none : SlotsHoldNone
slots_none query mol s fits below lost more occurs =
    let n = number_at s occurs.expanded.choice in
    let range = number_within query s (slots_of query 0) occurs.expanded.choice occurs.expanded.made below in
    none_alone query mol s n more fits (lost n range.0 range.1) occurs refl

-- ---- fronts

pub fronts_none : FrontsHoldNone
fronts_none query mol front code part fits begins is graph none more occurs =
    none_inside query mol front more is.left part fits begins (subst (λ (xs : List ℕ). IsOpenGraph query xs part) is.spelt graph) none occurs

pub root_all : RootNeed
root_all query code part need fits is graph of_part mol numbers held_screen occurs of_mol =
    let its : IsOpenCode query 0 (front_code [] is.left) = subst (IsOpenCode query 0) is.spelt is.is in
    let own : IsCode query 0 occurs.code = record { choice = occurs.expanded.choice; made = occurs.expanded.made; spelt = occurs.expanded.spelt } in
    let completes : Completes query occurs.code code = subst (Completes query occurs.code) (sym is.spelt) (completed query [] occurs.code is.left its own) in
    let holds = held query occurs.code code occurs.graph part fits completes occurs.expanded graph in
    covers_of_embedding part mol (map (image occurs.hit) holds.shared) held_screen need (holds.images mol occurs.hit (embedding_of occurs.graph mol occurs.hit occurs.hits)) of_mol of_part

-- ---- a choice alone has an open code

-- an open choice that decides n alone
record IsAlone (query : QueryView) (s n : ℕ) (slots : List Slot) : Type 0 where
  choice : OpenChoice
  made : IsOpenChoice query slots choice
  left : ℕ
  spelt : open_spelling choice ≡ alone_code s n left

alone_choice : (query : QueryView) (s n : ℕ) (slots : List Slot) → s < length slots → 1 ≤ n → n ≤ most_at query (get_or slots s (Link 0 0 0 0)) → IsAlone query s n slots
alone_choice query s n [] below least most = absurd (omega arith)
alone_choice query zero n (Link atom many from to ∷ slots) below least most = record {
  choice = repeats n (all_open slots);
  made = (least, most, all_open_made query slots);
  left = length slots;
  spelt = ap (λ (xs : List ℕ). n ∷ xs) (all_open_spelt slots);
}
alone_choice query zero n (Site atom groups first second ∷ slots) below least most = elim (cases_lt (length (members_at query (Site atom groups first second))) n) [
  | inl above ↦ record {
    choice = vacates n (all_open slots);
    made = (omega (arith, above, most), all_open_made query slots);
    left = length slots;
    spelt = ap (λ (xs : List ℕ). n ∷ xs) (all_open_spelt slots);
  }
  | inr upto ↦ record {
    choice = fills n (all_open (slots_of query (member query (Site atom groups first second) n))) (all_open slots);
    made = (least, upto, all_open_made query (slots_of query (member query (Site atom groups first second) n)), all_open_made query slots);
    left = length (slots_of query (member query (Site atom groups first second) n)) + length slots;
    spelt = ap (λ (xs : List ℕ). n ∷ (xs ++ open_spelling (all_open slots))) (all_open_spelt (slots_of query (member query (Site atom groups first second) n)))
        ∙ ap (λ (xs : List ℕ). n ∷ (replicate (length (slots_of query (member query (Site atom groups first second) n))) 0 ++ xs)) (all_open_spelt slots)
        ∙ ap (λ (xs : List ℕ). n ∷ xs) (zeros_add (length (slots_of query (member query (Site atom groups first second) n))) (length slots));
  }
]
alone_choice query (suc s) n (slot ∷ slots) below least most =
    let behind = alone_choice query s n slots (omega (arith, below)) least most in
    record { choice = undecided behind.choice; made = behind.made; left = behind.left; spelt = ap (λ (xs : List ℕ). 0 ∷ xs) behind.spelt }

-- the numbers alone, and then zeros
pub alone_is : (s n k : ℕ) → front_code (replicate s 0 ++ n ∷ []) k ≡ alone_code s n k
alone_is s n k = append_assoc (replicate s 0) (n ∷ []) (replicate k 0)

pub alone_open : (query : QueryView) (s n : ℕ) → s < length (slots_of query 0) → 1 ≤ n → n ≤ most_at query (get_or (slots_of query 0) s (Link 0 0 0 0)) → HasOpenCode query (replicate s 0 ++ n ∷ [])
alone_open query s n below least most =
    let found = alone_choice query s n (slots_of query 0) below least most in
    record { left = found.left; is = record { choice = found.choice; made = found.made; spelt = found.spelt ∙ sym (alone_is s n found.left) } }

pub front_open : (query : QueryView) (front : List ℕ) → BeginsCode query front → HasOpenCode query front
front_open query front begins = (let found = has_open_code query front begins in record { left = found.0; is = found.1 })
