-- Fronts of codes.
--     begins                 a code begins with its first numbers
--     all_open               the open code in which each slot of the root is left open is that of the empty front
--     none_alone             a number that a molecule can't hold alone ends a front that it can't hold
use Rattle.std.proofs.Common.{◌≡◌, ℕ, ◌+◌, ◌<◌, Bool, true, false, not, List, [], ◌∷◌, ◌++◌, length, take, drop, replicate, slice_index, refl, sym, ap, ◌∙◌, subst}
use Rattle.std.proofs.lemmas.List.{take-append-drop, take_more}
use Rattle.mk_model.specs.declared.template.Slot.{Slot}
use Rattle.mk_model.specs.declared.template.Slot.TheVariants.{Link, Site}
use Rattle.mk_model.specs.Codes.{IsCode}
use Rattle.mk_model.specs.Molecules.{Molecule}
use Rattle.mk_model.specs.Nodes.{BeginsCode}
use Rattle.mk_model.specs.Queries.{QueryView, slots_of}
use Rattle.mk_model.specs.QueryFits.{QueryFits}
use Rattle.mk_open_codes.specs.Alone.{AloneFrontsHoldNone, ArePlaces, HoldsNoneAlone, IsPlaceOf}
use Rattle.mk_open_codes.specs.Fronts.{HoldsNone, IsFrontCode}
use Rattle.mk_expand.specs.OpenCodes.{IsOpenChoice, OpenChoice, open_spelling}
use Rattle.mk_expand.specs.OpenCodes.OpenChoice.{no_more, undecided}
use Rattle.mk_fronts.specs.Told.{IsPlaceAt}

-- a code begins with its first numbers
pub begins : (query : QueryView) (code : List ℕ) (n : ℕ) → IsCode query 0 code → BeginsCode query (take n code)
begins query code n is = record { more = drop n code; code = subst (IsCode query 0) (sym (take-append-drop n code)) is }

-- what isn't so is false
pub not_true : (b : Bool) → not b ≡ true → b ≡ false
not_true true is = absurd cc
not_true false is = refl

-- a number that the molecule can't hold alone ends a front that it can't hold
pub none_alone : AloneFrontsHoldNone → (query : QueryView) (mol : Molecule) (code places : List ℕ) (s n x : ℕ) → QueryFits query
    → IsCode query 0 code → ArePlaces query code places → IsPlaceAt places s n → n < length code → x ≡ slice_index code n
    → HoldsNoneAlone query mol s x → HoldsNone query mol (take (n + 1) code)
none_alone law query mol code places s n x fits is are at within here none =
    let front : take (n + 1) code ≡ take n code ++ x ∷ [] = take_more code n 0 within ∙ ap (λ (y : ℕ). take n code ++ y ∷ []) (sym here) in
    let place : IsPlaceOf query s (take n code) = subst (λ (p : ℕ). IsPlaceOf query s (take p code)) at.is (are.each s at.within).1 in
    let begun : BeginsCode query (take n code ++ x ∷ []) = subst (BeginsCode query) front (begins query code (n + 1) is) in
    subst (HoldsNone query mol) (sym front) (law query mol s x (take n code) fits place begun none)

-- ---- all slots open

-- each of some slots is left open
abbrev left_open : List Slot → OpenChoice
left_open [] = no_more
left_open (slot ∷ slots) = undecided (left_open slots)

is_open : (query : QueryView) (slots : List Slot) → IsOpenChoice query slots (left_open slots)
is_open query [] = tt
is_open query (Link atom most from to ∷ slots) = is_open query slots
is_open query (Site atom groups first second ∷ slots) = is_open query slots

spelt : (slots : List Slot) → open_spelling (left_open slots) ≡ replicate (length slots) 0
spelt [] = refl
spelt (slot ∷ slots) = ap (λ (code : List ℕ). 0 ∷ code) (spelt slots)

pub all_open : (query : QueryView) (code : List ℕ) → code ≡ replicate (length (slots_of query 0)) 0 → IsFrontCode query [] code
all_open query code is = record {
  left = length (slots_of query 0);
  spelt = is;
  is = record { choice = left_open (slots_of query 0); made = is_open query (slots_of query 0); spelt = spelt (slots_of query 0) ∙ sym is };
}
