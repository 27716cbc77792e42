-- Open codes: structural codes in which slots may be left open.
--     OpenChoice                        a choice at some slots, each decided or left open
--     open_spelling choice              the numbers that spell it, 0 for a slot that is left open
--     IsOpenChoice query slots choice   the choice is one at these slots
--     IsOpenCode query t open           the numbers spell an open choice at the slots of template t
--     decided choice                    the choice as an open one, in which no slot is left open
use Rattle.std.specs.Prelude.{◌≡◌, ◌≤◌, ◌+◌, ℕ, List, [], ◌∷◌, ◌++◌, length}
use Rattle.mk_model.specs.declared.template.Slot.{Slot}
use Rattle.mk_model.specs.declared.template.Slot.TheVariants.{Link, Site}
use Rattle.mk_model.specs.Codes.{Choice}
use Rattle.mk_model.specs.Codes.Choice.{done, repeated, unfilled, filled}
use Rattle.mk_model.specs.Labels.{members_at, member}
use Rattle.mk_model.specs.Queries.{QueryView, slots_of}

-- A choice at some slots, one after another, in which each slot is left open or decided: a link
-- repeated, a site vacated or filled by its k-th member, with an open choice at the slots of that
-- member. Nothing is chosen inside a slot that is left open.
pub data OpenChoice : Type 0 where
  no_more : OpenChoice
  undecided : OpenChoice → OpenChoice
  repeats : ℕ → OpenChoice → OpenChoice
  vacates : ℕ → OpenChoice → OpenChoice
  fills : ℕ → OpenChoice → OpenChoice → OpenChoice

-- the numbers of an open choice, slot by slot, with 0 for a slot that is left open
abbrev pub open_spelling : OpenChoice → List ℕ
open_spelling no_more = []
open_spelling (undecided others) = 0 ∷ open_spelling others
open_spelling (repeats n others) = n ∷ open_spelling others
open_spelling (vacates n others) = n ∷ open_spelling others
open_spelling (fills k inside others) = k ∷ (open_spelling inside ++ open_spelling others)

-- An open choice is one at these slots: any of them may be left open; else a link stands 1 to `most`
-- times, and a site is filled by one of its members, or vacant, which has the number behind theirs.
abbrev pub IsOpenChoice : QueryView → List Slot → OpenChoice → Type 0
IsOpenChoice query [] no_more = Unit {0}
IsOpenChoice query [] (undecided others) = ⊥
IsOpenChoice query [] (repeats n others) = ⊥
IsOpenChoice query [] (vacates n others) = ⊥
IsOpenChoice query [] (fills k inside others) = ⊥
IsOpenChoice query (slot ∷ slots) (undecided others) = IsOpenChoice query slots others
IsOpenChoice query (Link atom most from to ∷ slots) no_more = ⊥
IsOpenChoice query (Link atom most from to ∷ slots) (repeats n others) = (1 ≤ n) × (n ≤ most) × IsOpenChoice query slots others
IsOpenChoice query (Link atom most from to ∷ slots) (vacates n others) = ⊥
IsOpenChoice query (Link atom most from to ∷ slots) (fills k inside others) = ⊥
IsOpenChoice query (Site atom groups first second ∷ slots) no_more = ⊥
IsOpenChoice query (Site atom groups first second ∷ slots) (repeats n others) = ⊥
IsOpenChoice query (Site atom groups first second ∷ slots) (vacates n others) =
    (n ≡ length (members_at query (Site atom groups first second)) + 1) × IsOpenChoice query slots others
IsOpenChoice query (Site atom groups first second ∷ slots) (fills k inside others) =
    (1 ≤ k) × (k ≤ length (members_at query (Site atom groups first second)))
    × IsOpenChoice query (slots_of query (member query (Site atom groups first second) k)) inside × IsOpenChoice query slots others

-- the numbers spell an open choice at the slots of template t
pub record IsOpenCode (query : QueryView) (t : ℕ) (open_code : List ℕ) : Type 0 where
  pub choice : OpenChoice
  pub made : IsOpenChoice query (slots_of query t) choice
  pub spelt : open_spelling choice ≡ open_code

-- ---- codes

-- the same choice as an open choice, with no slot left open
abbrev pub decided : Choice → OpenChoice
decided done = no_more
decided (repeated n others) = repeats n (decided others)
decided (unfilled n others) = vacates n (decided others)
decided (filled k inside others) = fills k (decided inside) (decided others)
