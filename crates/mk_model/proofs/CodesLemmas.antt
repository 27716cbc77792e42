-- Structural codes and the choices that they spell.
--     law             numbers spell at most one choice at the slots of a template
--     one_choice      numbers that begin with a choice at some slots begin with no other
use Rattle.std.proofs.Common.{◌≡◌, ℕ, List, [], ◌∷◌, ◌++◌, refl, sym, ap, subst, ◌∙◌, arith, append_assoc}
use Rattle.mk_model.specs.declared.template.Slot.{Slot}
use Rattle.mk_model.specs.declared.template.Slot.TheVariants.{Link, Site}
use Rattle.mk_model.specs.Queries.{QueryView, slots_of}
use Rattle.mk_model.specs.Labels.{member}
use Rattle.mk_model.specs.Codes.{Choice, IsChoice, CodesAreReadOneWay, spelling}
use Rattle.mk_model.specs.Codes.Choice.{done, repeated, unfilled, filled}

-- two choices are one, and so is what comes behind their numbers
pub record AreOne (choice other : Choice) (rest others : List ℕ) : Type 0 where
  pub choices : choice ≡ other
  pub rests : rest ≡ others

-- the first numbers of two lists that are one, and the others
heads : (x y : ℕ) (xs ys : List ℕ) → x ∷ xs ≡ y ∷ ys → x ≡ y
heads x y xs ys e = cc

tails : (x y : ℕ) (xs ys : List ℕ) → x ∷ xs ≡ y ∷ ys → xs ≡ ys
tails x y xs ys e = cc

-- numbers that begin with a choice at some slots begin with no other
pub one_choice : (query : QueryView) (slots : List Slot) (choice other : Choice) (rest others : List ℕ)
    → IsChoice query slots choice → IsChoice query slots other → spelling choice ++ rest ≡ spelling other ++ others → AreOne choice other rest others
one_choice query [] done done rest others is is' same = record { choices = refl; rests = same }
one_choice query [] done (repeated n more) rest others is is' same = absurd is'
one_choice query [] done (unfilled n more) rest others is is' same = absurd is'
one_choice query [] done (filled k inside more) rest others is is' same = absurd is'
one_choice query [] (repeated n more) other rest others is is' same = absurd is
one_choice query [] (unfilled n more) other rest others is is' same = absurd is
one_choice query [] (filled k inside more) other rest others is is' same = absurd is
one_choice query (Link atom most from to ∷ slots) done other rest others is is' same = absurd is
one_choice query (Link atom most from to ∷ slots) (unfilled n more) other rest others is is' same = absurd is
one_choice query (Link atom most from to ∷ slots) (filled k inside more) other rest others is is' same = absurd is
one_choice query (Link atom most from to ∷ slots) (repeated n more) done rest others is is' same = absurd is'
one_choice query (Link atom most from to ∷ slots) (repeated n more) (unfilled n' more') rest others is is' same = absurd is'
one_choice query (Link atom most from to ∷ slots) (repeated n more) (filled k inside more') rest others is is' same = absurd is'
one_choice query (Link atom most from to ∷ slots) (repeated n more) (repeated n' more') rest others is is' same =
    let behind = one_choice query slots more more' rest others is.2 is'.2 (tails n n' _ _ same) in
    let number = heads n n' _ _ same in
    let choices = behind.choices in
    record { choices = cc; rests = behind.rests }
one_choice query (Site atom groups first second ∷ slots) done other rest others is is' same = absurd is
one_choice query (Site atom groups first second ∷ slots) (repeated n more) other rest others is is' same = absurd is
one_choice query (Site atom groups first second ∷ slots) (unfilled n more) done rest others is is' same = absurd is'
one_choice query (Site atom groups first second ∷ slots) (unfilled n more) (repeated n' more') rest others is is' same = absurd is'
one_choice query (Site atom groups first second ∷ slots) (unfilled n more) (unfilled n' more') rest others is is' same =
    let behind = one_choice query slots more more' rest others is.1 is'.1 (tails n n' _ _ same) in
    let number = heads n n' _ _ same in
    let choices = behind.choices in
    record { choices = cc; rests = behind.rests }
one_choice query (Site atom groups first second ∷ slots) (unfilled n more) (filled k inside more') rest others is is' same =
    absurd (omega (arith, heads n k _ _ same, is.0, is'.1))
one_choice query (Site atom groups first second ∷ slots) (filled k inside more) done rest others is is' same = absurd is'
one_choice query (Site atom groups first second ∷ slots) (filled k inside more) (repeated n' more') rest others is is' same = absurd is'
one_choice query (Site atom groups first second ∷ slots) (filled k inside more) (unfilled n' more') rest others is is' same =
    absurd (omega (arith, heads k n' _ _ same, is.1, is'.0))
one_choice query (Site atom groups first second ∷ slots) (filled k inside more) (filled k' inside' more') rest others is is' same =
    let number = heads k k' _ _ same in
    let made : IsChoice query (slots_of query (member query (Site atom groups first second) k)) inside' =
    subst (λ (n : ℕ). IsChoice query (slots_of query (member query (Site atom groups first second) n)) inside')
    (sym number) is'.2 in
    let both : spelling inside ++ (spelling more ++ rest) ≡ spelling inside' ++ (spelling more' ++ others) =
    sym (append_assoc (spelling inside) (spelling more) rest) ∙ tails k k' _ _ same ∙ append_assoc (spelling inside') (spelling more') others in
    let first = one_choice query (slots_of query (member query (Site atom groups first second) k)) inside inside' (spelling more ++ rest) (spelling more' ++ others) is.2 made both in
    let behind = one_choice query slots more more' rest others is.3 is'.3 first.rests in
    let choices = behind.choices in
    let insides = first.choices in
    record { choices = cc; rests = behind.rests }

pub law : CodesAreReadOneWay
law query t code one other =
    let same : spelling one.choice ++ [] ≡ spelling other.choice ++ [] = ap (λ (xs : List ℕ). xs ++ []) (one.spelt ∙ sym other.spelt) in
    (one_choice query (slots_of query t) one.choice other.choice [] [] one.made other.made same).choices
