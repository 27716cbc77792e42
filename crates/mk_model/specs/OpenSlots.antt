-- For the code: structural codes from the left, one number after another. What is still to be
-- chosen is the list of slots that are open: a number at the first of them may open the slots of a
-- member, which then stand in front.
--     most_at query slot          the greatest number at a slot
--     opened query slot k         the slots that a number opens there
--     Chooses query slots code    the numbers choose at these slots, and none is left open
--     standing_by query slots code    the sites that stand in the templates chosen
use Rattle.std.specs.Prelude.{◌≤◌, ◌+◌, ℕ, List, [], ◌∷◌, ◌++◌, length, if◌then◌else◌}
use Rattle.mk_model.specs.declared.template.Slot.{Slot}
use Rattle.mk_model.specs.declared.template.Slot.TheVariants.{Link, Site}
use Rattle.mk_model.specs.Queries.{QueryView, slots_of}
use Rattle.mk_model.specs.Labels.{is_filled_by, members_at, member}
use Rattle.mk_model.specs.Logic.{Standing}

-- the greatest number at a slot: the greatest length of a link, one more than a site has members
abbrev pub most_at : QueryView → Slot → ℕ
most_at query (Link atom most from to) = most
most_at query (Site atom groups first second) = length (members_at query (Site atom groups first second)) + 1

-- the slots that a number opens: those of the member that is put in
abbrev pub opened : QueryView → Slot → ℕ → List Slot
opened query (Link atom most from to) k = []
opened query (Site atom groups first second) k =
    if is_filled_by query (Site atom groups first second) k then slots_of query (member query (Site atom groups first second) k) else []

-- the site that stands there, with its number
abbrev pub standing_at : Slot → ℕ → List Standing
standing_at (Link atom most from to) k = []
standing_at (Site atom groups first second) k = record { site = Site atom groups first second; number = k } ∷ []

-- the numbers choose at these slots, one after another, and none is left open
abbrev pub Chooses : QueryView → List Slot → List ℕ → Type 0
Chooses query [] [] = Unit {0}
Chooses query (slot ∷ slots) [] = ⊥
Chooses query [] (k ∷ code) = ⊥
Chooses query (slot ∷ slots) (k ∷ code) = (1 ≤ k) × (k ≤ most_at query slot) × Chooses query (opened query slot k ++ slots) code

-- the sites that stand in the templates chosen
abbrev pub standing_by : QueryView → List Slot → List ℕ → List Standing
standing_by query slots [] = []
standing_by query [] (k ∷ code) = []
standing_by query (slot ∷ slots) (k ∷ code) = standing_at slot k ++ standing_by query (opened query slot k ++ slots) code
