-- Structural codes: what is chosen at the slots of a template.
--     Choice                      a choice at some slots, one after another
--     spelling choice             the numbers that spell it
--     IsChoice query slots choice the choice is one at these slots
--     IsCode query t code         the numbers spell a choice at the slots of template t
--     NoCodeBeginsAnother         no structural code is a proper prefix of another
--     CodesAreReadOneWay          numbers spell at most one choice
use Rattle.std.specs.Prelude.{◌≡◌, ◌≤◌, ◌+◌, ℕ, List, [], ◌∷◌, ◌++◌, length}
use Rattle.mk_model.specs.declared.template.Slot.{Slot}
use Rattle.mk_model.specs.declared.template.Slot.TheVariants.{Link, Site}
use Rattle.mk_model.specs.Queries.{QueryView, slots_of}
use Rattle.mk_model.specs.Labels.{members_at, member}

-- A choice at some slots, one after another: at each the number that is chosen, and then the choice
-- at the slots behind it. At a site that is filled by its k-th member there is also the choice at
-- the slots of that member.
pub data Choice : Type 0 where
  done : Choice
  repeated : ℕ → Choice → Choice
  unfilled : ℕ → Choice → Choice
  filled : ℕ → Choice → Choice → Choice

-- the numbers of a choice, slot by slot, those inside a member behind the member's own
abbrev pub spelling : Choice → List ℕ
spelling done = []
spelling (repeated n others) = n ∷ spelling others
spelling (unfilled n others) = n ∷ spelling others
spelling (filled k inside others) = k ∷ (spelling inside ++ spelling others)

-- A choice is one at these slots: a link stands 1 to `most` times; a site is filled by one of its
-- members, or unfilled, which has the number behind theirs.
abbrev pub IsChoice : QueryView → List Slot → Choice → Type 0
IsChoice query [] done = Unit {0}
IsChoice query [] (repeated n others) = ⊥
IsChoice query [] (unfilled n others) = ⊥
IsChoice query [] (filled k inside others) = ⊥
IsChoice query (Link atom most from to ∷ slots) done = ⊥
IsChoice query (Link atom most from to ∷ slots) (repeated n others) = (1 ≤ n) × (n ≤ most) × IsChoice query slots others
IsChoice query (Link atom most from to ∷ slots) (unfilled n others) = ⊥
IsChoice query (Link atom most from to ∷ slots) (filled k inside others) = ⊥
IsChoice query (Site atom groups first second ∷ slots) done = ⊥
IsChoice query (Site atom groups first second ∷ slots) (repeated n others) = ⊥
IsChoice query (Site atom groups first second ∷ slots) (unfilled n others) =
    (n ≡ length (members_at query (Site atom groups first second)) + 1) × IsChoice query slots others
IsChoice query (Site atom groups first second ∷ slots) (filled k inside others) =
    (1 ≤ k) × (k ≤ length (members_at query (Site atom groups first second)))
    × IsChoice query (slots_of query (member query (Site atom groups first second) k)) inside × IsChoice query slots others

-- the numbers spell a choice at the slots of template t
pub record IsCode (query : QueryView) (t : ℕ) (code : List ℕ) : Type 0 where
  pub choice : Choice
  pub made : IsChoice query (slots_of query t) choice
  pub spelt : spelling choice ≡ code

-- ---- laws

-- no structural code is a proper prefix of another
abbrev pub NoCodeBeginsAnother : Type 0
NoCodeBeginsAnother = (query : QueryView) (t : ℕ) (code more : List ℕ) → IsCode query t code → IsCode query t (code ++ more) → more ≡ []

-- numbers spell at most one choice at the slots of a template
abbrev pub CodesAreReadOneWay : Type 0
CodesAreReadOneWay = (query : QueryView) (t : ℕ) (code : List ℕ) (one other : IsCode query t code) → one.choice ≡ other.choice
