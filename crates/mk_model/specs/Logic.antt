-- The logic of groups: how often each may be filled, and which structural codes are valid.
--     is_in_range range n         the number is in one of the intervals
--     IsAllowed query sites filled    with so many sites of each group, so many of them may be
--                                     filled
--     standing_sites query slots choice   the sites that stand in the templates chosen, with their
--                                         numbers
--     sites_of standing g         how many of them bear the label of group g
--     filled_of query standing g  how many of the sites hold a member of group g
--     IsValid query code          a structural code of the root with which each group is filled as
--                                 often as it may be
use Rattle.std.specs.Prelude.{◌≡◌, ◌≤◌, ◌<◌, ◌-◌, ◌&&◌, ◌⊎◌, nat_le, ℕ, Bool, List, [], ◌∷◌, ◌++◌, Some, count_by, slice_get, IsTrue}
use Rattle.std.specs.List.{list_any}
use Rattle.mk_model.specs.declared.group.Group.{Group}
use Rattle.mk_model.specs.declared.group.Interval.{Interval}
use Rattle.mk_model.specs.declared.template.Slot.{Slot}
use Rattle.mk_model.specs.Queries.{QueryView, slots_of}
use Rattle.mk_model.specs.Labels.{bears_label, holds_member_of, member}
use Rattle.mk_model.specs.Codes.{Choice, IsChoice, spelling}
use Rattle.mk_model.specs.Codes.Choice.{done, repeated, unfilled, filled}

-- ---- what is asked of a group

-- the number is in one of the intervals
abbrev pub is_in_range : List Interval → ℕ → Bool
is_in_range range n = list_any (λ interval. nat_le interval.least n && nat_le n interval.most) range

-- the group is that of number g, counted from 1
abbrev pub IsGroupAt : QueryView → ℕ → Group → Type 0
IsGroupAt query g group = (1 ≤ g) × (slice_get query.groups (g - 1) ≡ Some group)

-- group h names group g as the one whose range it asks for: its THEN group
abbrev pub Names : QueryView → ℕ → ℕ → Type 0
Names query h g = (group : Group) × IsGroupAt query h group × (group.then_group ≡ g)

-- a group's range is asked for: no group names it, or one that does has a filled site
abbrev pub IsAsked : QueryView → (ℕ → ℕ) → ℕ → Type 0
IsAsked query filled_in g = ((h : ℕ) → Names query h g → ⊥) ⊎ ((h : ℕ) × Names query h g × (0 < filled_in h))

-- where the group of number g has a site and its range is asked for, the number of its filled sites
-- is in that range
abbrev pub MeetsRange : QueryView → (ℕ → ℕ) → (ℕ → ℕ) → ℕ → Type 0
MeetsRange query sites_in filled_in g =
    (group : Group) → IsGroupAt query g group → 0 < sites_in g → IsAsked query filled_in g → IsTrue (is_in_range group.range (filled_in g))

-- each group that has a site and whose range is asked for has so many filled sites as its range
-- lets pass
abbrev pub IsAllowed : QueryView → (ℕ → ℕ) → (ℕ → ℕ) → Type 0
IsAllowed query sites_in filled_in = (g : ℕ) → MeetsRange query sites_in filled_in g

-- ---- the sites that stand

-- a site that stands in a template chosen, and the number that is chosen there
pub record Standing : Type 0 where
  pub site : Slot
  pub number : ℕ

-- the sites that stand in the templates chosen; those of a template that is chosen several times
-- stand each time
abbrev pub standing_sites : QueryView → List Slot → Choice → List Standing
standing_sites query slots done = []
standing_sites query [] (repeated n others) = []
standing_sites query [] (unfilled n others) = []
standing_sites query [] (filled k inside others) = []
standing_sites query (slot ∷ slots) (repeated n others) = standing_sites query slots others
standing_sites query (slot ∷ slots) (unfilled n others) = record { site = slot; number = n } ∷ standing_sites query slots others
standing_sites query (slot ∷ slots) (filled k inside others) =
    record { site = slot; number = k } ∷ (standing_sites query (slots_of query (member query slot k)) inside ++ standing_sites query slots others)

-- how many of the sites bear the label of group g
abbrev pub sites_of : List Standing → ℕ → ℕ
sites_of standing g = count_by (λ one. bears_label one.site g) standing

-- how many of the sites hold a member of group g
abbrev pub filled_of : QueryView → List Standing → ℕ → ℕ
filled_of query standing g = count_by (λ one. holds_member_of query one.site one.number g) standing

-- ---- valid codes

-- a structural code of the root with which each group is filled as often as its logic allows
pub record IsValid (query : QueryView) (code : List ℕ) : Type 0 where
  pub choice : Choice
  pub made : IsChoice query (slots_of query 0) choice
  pub spelt : spelling choice ≡ code
  pub logic : let standing = standing_sites query (slots_of query 0) choice in IsAllowed query (sites_of standing) (filled_of query standing)
