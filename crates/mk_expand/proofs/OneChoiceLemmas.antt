-- Open choices: read one way, split at a slot, and codes as such.
--     heads, tails        lists of numbers that are one
--     one_open_choice     numbers that begin with an open choice at some slots begin with no other
--     decided_made, decided_spelt      a choice is an open choice that leaves no slot open
--     open_split          an open choice at some slots and others
use Rattle.std.proofs.Common.{◌≡◌, ◌∙◌, ◌&&◌, ℕ, Bool, true, false, List, [], ◌∷◌, ◌++◌, refl, sym, ap, subst, arith, append_assoc}
use Rattle.mk_model.specs.declared.template.Slot.{Slot}
use Rattle.mk_model.specs.declared.template.Slot.TheVariants.{Link, Site}
use Rattle.mk_model.specs.Codes.{Choice, IsChoice, spelling}
use Rattle.mk_model.specs.Codes.Choice.{done, repeated, unfilled, filled}
use Rattle.mk_model.specs.Expansions.{left_open, template_of}
use Rattle.mk_model.specs.Labels.{member}
use Rattle.mk_model.specs.Pieces.{Piece}
use Rattle.mk_model.specs.Pieces.Piece.{Copies, Member, Nothing}
use Rattle.mk_model.specs.Queries.{QueryView, slots_of}
use Rattle.mk_expand.specs.OpenCodes.{IsOpenChoice, OpenChoice, decided, open_spelling}
use Rattle.mk_expand.specs.OpenCodes.OpenChoice.{no_more, undecided, repeats, vacates, fills}
use Rattle.mk_expand.specs.OpenGraphs.{is_one_ended, open_pieces, opened, opens_one_ended}

-- ---- numbers

-- lists that are one begin with one number
pub heads : (x y : ℕ) (xs ys : List ℕ) → x ∷ xs ≡ y ∷ ys → x ≡ y
heads x y xs ys e = cc

-- and go on with the same numbers
pub tails : (x y : ℕ) (xs ys : List ℕ) → x ∷ xs ≡ y ∷ ys → xs ≡ ys
tails x y xs ys e = cc

-- ---- read one way

-- two open choices are one, and so is what comes behind their numbers
pub record AreOneOpen (choice other : OpenChoice) (rest others : List ℕ) : Type 0 where
  pub choices : choice ≡ other
  pub rests : rest ≡ others

-- numbers that begin with an open choice at some slots begin with no other
pub one_open_choice : (query : QueryView) (slots : List Slot) (choice other : OpenChoice) (rest others : List ℕ)
    → IsOpenChoice query slots choice → IsOpenChoice query slots other → open_spelling choice ++ rest ≡ open_spelling other ++ others → AreOneOpen choice other rest others
one_open_choice query [] no_more no_more rest others is is' same = record { choices = refl; rests = same }
one_open_choice query [] no_more (undecided more) rest others is is' same = absurd is'
one_open_choice query [] no_more (repeats n more) rest others is is' same = absurd is'
one_open_choice query [] no_more (vacates n more) rest others is is' same = absurd is'
one_open_choice query [] no_more (fills k inside more) rest others is is' same = absurd is'
one_open_choice query [] (undecided more) other rest others is is' same = absurd is
one_open_choice query [] (repeats n more) other rest others is is' same = absurd is
one_open_choice query [] (vacates n more) other rest others is is' same = absurd is
one_open_choice query [] (fills k inside more) other rest others is is' same = absurd is
one_open_choice query (slot ∷ slots) (undecided more) (undecided more') rest others is is' same =
    let behind = one_open_choice query slots more more' rest others is is' (tails 0 0 _ _ same) in
    record { choices = ap undecided behind.choices; rests = behind.rests }
one_open_choice query (Link atom most from to ∷ slots) no_more other rest others is is' same = absurd is
one_open_choice query (Link atom most from to ∷ slots) (vacates n more) other rest others is is' same = absurd is
one_open_choice query (Link atom most from to ∷ slots) (fills k inside more) other rest others is is' same = absurd is
one_open_choice query (Link atom most from to ∷ slots) (undecided more) no_more rest others is is' same = absurd is'
one_open_choice query (Link atom most from to ∷ slots) (undecided more) (repeats n' more') rest others is is' same = absurd (omega (arith, heads 0 n' _ _ same, is'.0))
one_open_choice query (Link atom most from to ∷ slots) (undecided more) (vacates n' more') rest others is is' same = absurd is'
one_open_choice query (Link atom most from to ∷ slots) (undecided more) (fills k' inside' more') rest others is is' same = absurd is'
one_open_choice query (Link atom most from to ∷ slots) (repeats n more) no_more rest others is is' same = absurd is'
one_open_choice query (Link atom most from to ∷ slots) (repeats n more) (undecided more') rest others is is' same = absurd (omega (arith, heads n 0 _ _ same, is.0))
one_open_choice query (Link atom most from to ∷ slots) (repeats n more) (vacates n' more') rest others is is' same = absurd is'
one_open_choice query (Link atom most from to ∷ slots) (repeats n more) (fills k' inside' more') rest others is is' same = absurd is'
one_open_choice query (Link atom most from to ∷ slots) (repeats n more) (repeats n' more') rest others is is' same =
    let behind = one_open_choice query slots more more' rest others is.2 is'.2 (tails n n' _ _ same) in
    let number = heads n n' _ _ same in
    let choices = behind.choices in
    record { choices = cc; rests = behind.rests }
one_open_choice query (Site atom groups first second ∷ slots) no_more other rest others is is' same = absurd is
one_open_choice query (Site atom groups first second ∷ slots) (repeats n more) other rest others is is' same = absurd is
one_open_choice query (Site atom groups first second ∷ slots) (undecided more) no_more rest others is is' same = absurd is'
one_open_choice query (Site atom groups first second ∷ slots) (undecided more) (repeats n' more') rest others is is' same = absurd is'
one_open_choice query (Site atom groups first second ∷ slots) (undecided more) (vacates n' more') rest others is is' same = absurd (omega (arith, heads 0 n' _ _ same, is'.0))
one_open_choice query (Site atom groups first second ∷ slots) (undecided more) (fills k' inside' more') rest others is is' same = absurd (omega (arith, heads 0 k' _ _ same, is'.0))
one_open_choice query (Site atom groups first second ∷ slots) (vacates n more) no_more rest others is is' same = absurd is'
one_open_choice query (Site atom groups first second ∷ slots) (vacates n more) (undecided more') rest others is is' same = absurd (omega (arith, heads n 0 _ _ same, is.0))
one_open_choice query (Site atom groups first second ∷ slots) (vacates n more) (repeats n' more') rest others is is' same = absurd is'
one_open_choice query (Site atom groups first second ∷ slots) (vacates n more) (vacates n' more') rest others is is' same =
    let behind = one_open_choice query slots more more' rest others is.1 is'.1 (tails n n' _ _ same) in
    let number = heads n n' _ _ same in
    let choices = behind.choices in
    record { choices = cc; rests = behind.rests }
one_open_choice query (Site atom groups first second ∷ slots) (vacates n more) (fills k' inside' more') rest others is is' same =
    absurd (omega (arith, heads n k' _ _ same, is.0, is'.1))
one_open_choice query (Site atom groups first second ∷ slots) (fills k inside more) no_more rest others is is' same = absurd is'
one_open_choice query (Site atom groups first second ∷ slots) (fills k inside more) (undecided more') rest others is is' same = absurd (omega (arith, heads k 0 _ _ same, is.0))
one_open_choice query (Site atom groups first second ∷ slots) (fills k inside more) (repeats n' more') rest others is is' same = absurd is'
one_open_choice query (Site atom groups first second ∷ slots) (fills k inside more) (vacates n' more') rest others is is' same =
    absurd (omega (arith, heads k n' _ _ same, is.1, is'.0))
one_open_choice query (Site atom groups first second ∷ slots) (fills k inside more) (fills k' inside' more') rest others is is' same =
    let number = heads k k' _ _ same in
    let made : IsOpenChoice query (slots_of query (member query (Site atom groups first second) k)) inside' =
    subst (λ (n : ℕ). IsOpenChoice query (slots_of query (member query (Site atom groups first second) n)) inside')
    (sym number) is'.2 in
    let both : open_spelling inside ++ (open_spelling more ++ rest) ≡ open_spelling inside' ++ (open_spelling more' ++ others) =
    sym (append_assoc (open_spelling inside) (open_spelling more) rest) ∙ tails k k' _ _ same ∙ append_assoc (open_spelling inside') (open_spelling more') others in
    let first = one_open_choice query (slots_of query (member query (Site atom groups first second) k)) inside inside' (open_spelling more ++ rest) (open_spelling more' ++ others) is.2 made both in
    let behind = one_open_choice query slots more more' rest others is.3 is'.3 first.rests in
    let choices = behind.choices in
    let insides = first.choices in
    record { choices = cc; rests = behind.rests }

-- ---- codes as open codes

pub decided_made : (query : QueryView) (slots : List Slot) (choice : Choice) → IsChoice query slots choice → IsOpenChoice query slots (decided choice)
decided_made query [] done is = tt
decided_made query [] (repeated n others) is = absurd is
decided_made query [] (unfilled n others) is = absurd is
decided_made query [] (filled k inside others) is = absurd is
decided_made query (Link atom most from to ∷ slots) done is = absurd is
decided_made query (Link atom most from to ∷ slots) (repeated n others) is = (is.0, is.1, decided_made query slots others is.2)
decided_made query (Link atom most from to ∷ slots) (unfilled n others) is = absurd is
decided_made query (Link atom most from to ∷ slots) (filled k inside others) is = absurd is
decided_made query (Site atom groups first second ∷ slots) done is = absurd is
decided_made query (Site atom groups first second ∷ slots) (repeated n others) is = absurd is
decided_made query (Site atom groups first second ∷ slots) (unfilled n others) is = (is.0, decided_made query slots others is.1)
decided_made query (Site atom groups first second ∷ slots) (filled k inside others) is =
    (is.0, is.1, decided_made query (slots_of query (member query (Site atom groups first second) k)) inside is.2, decided_made query slots others is.3)

pub decided_spelt : (choice : Choice) → open_spelling (decided choice) ≡ spelling choice
decided_spelt done = refl
decided_spelt (repeated n others) = ap (λ (xs : List ℕ). n ∷ xs) (decided_spelt others)
decided_spelt (unfilled n others) = ap (λ (xs : List ℕ). n ∷ xs) (decided_spelt others)
decided_spelt (filled k inside others) =
    ap (λ (xs : List ℕ). k ∷ (xs ++ open_spelling (decided others))) (decided_spelt inside) ∙ ap (λ (xs : List ℕ). k ∷ (spelling inside ++ xs)) (decided_spelt others)

-- ---- an open choice at some slots and others

-- An open choice at some slots, and one at others behind them. Together they spell the whole, and what
-- the slots become by it is what they become by both.
pub record IsOpenSplit (query : QueryView) (slots others : List Slot) (choice : OpenChoice) : Type 0 where
  pub first : OpenChoice
  pub second : OpenChoice
  pub first_made : IsOpenChoice query slots first
  pub second_made : IsOpenChoice query others second
  pub spelt : open_spelling choice ≡ open_spelling first ++ open_spelling second
  pub pieces : open_pieces query (slots ++ others) choice ≡ open_pieces query slots first ++ open_pieces query others second
  pub ends : opens_one_ended query (slots ++ others) choice ≡ (opens_one_ended query slots first && opens_one_ended query others second)

-- three facts in one
pub and_on : (a b c : Bool) → (a && (b && c)) ≡ ((a && b) && c)
and_on true b c = refl
and_on false b c = refl

pub and_true : (a : Bool) → a ≡ (a && true)
and_true true = refl
and_true false = refl

pub open_split : (query : QueryView) (slots others : List Slot) (choice : OpenChoice) → IsOpenChoice query (slots ++ others) choice → IsOpenSplit query slots others choice
unfolding open_pieces
open_split query [] others choice is = record {
  first = no_more;
  second = choice;
  first_made = tt;
  second_made = is;
  spelt = refl;
  pieces = refl;
  ends = refl;
}
open_split query (slot ∷ slots) others (undecided more) is =
    let behind = open_split query slots others more is in
    record {
      first = undecided behind.first;
      second = behind.second;
      first_made = behind.first_made;
      second_made = behind.second_made;
      spelt = ap (λ (xs : List ℕ). 0 ∷ xs) behind.spelt;
      pieces = ap (λ (ps : List Piece). Nothing ∷ ps) behind.pieces;
      ends = ap (λ (b : Bool). is_one_ended slot && b) behind.ends ∙ and_on (is_one_ended slot) _ _;
    }
open_split query (Link atom most from to ∷ slots) others no_more is = absurd is
open_split query (Link atom most from to ∷ slots) others (repeats n more) is =
    let behind = open_split query slots others more is.2 in
    record {
      first = repeats n behind.first;
      second = behind.second;
      first_made = (is.0, is.1, behind.first_made);
      second_made = behind.second_made;
      spelt = ap (λ (xs : List ℕ). n ∷ xs) behind.spelt;
      pieces = ap (λ (ps : List Piece). Copies n ∷ ps) behind.pieces;
      ends = behind.ends;
    }
open_split query (Link atom most from to ∷ slots) others (vacates n more) is = absurd is
open_split query (Link atom most from to ∷ slots) others (fills k inside more) is = absurd is
open_split query (Site atom groups first second ∷ slots) others no_more is = absurd is
open_split query (Site atom groups first second ∷ slots) others (repeats n more) is = absurd is
open_split query (Site atom groups first second ∷ slots) others (vacates n more) is =
    let behind = open_split query slots others more is.1 in
    record {
      first = vacates n behind.first;
      second = behind.second;
      first_made = (is.0, behind.first_made);
      second_made = behind.second_made;
      spelt = ap (λ (xs : List ℕ). n ∷ xs) behind.spelt;
      pieces = ap (λ (ps : List Piece). left_open query (Site atom groups first second) ∷ ps) behind.pieces;
      ends = behind.ends;
    }
open_split query (Site atom groups first second ∷ slots) others (fills k inside more) is =
    let behind = open_split query slots others more is.3 in
    record {
      first = fills k inside behind.first;
      second = behind.second;
      first_made = (is.0, is.1, is.2, behind.first_made);
      second_made = behind.second_made;
      spelt = ap (λ (xs : List ℕ). k ∷ (open_spelling inside ++ xs)) behind.spelt
          ∙ ap (λ (xs : List ℕ). k ∷ xs) (sym (append_assoc (open_spelling inside) (open_spelling behind.first) (open_spelling behind.second)));
      pieces =
          (let t = member query (Site atom groups first second) k in
          ap (λ (ps : List Piece). Member (opened (template_of query t) (open_pieces query (slots_of query t) inside)) ∷ ps) behind.pieces);
      ends =
          (let here = opens_one_ended query (slots_of query (member query (Site atom groups first second) k)) inside in
          ap (λ (b : Bool). here && b) behind.ends ∙ and_on here _ _);
    }
