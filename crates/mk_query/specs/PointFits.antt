-- For code alone: whether all members of a group have so many attachment points.
--     HasPoints templates n u          table u has n points
--     AllHavePoints templates n members    each of the members has
--     AreTold query n list             for each group, whether its members do
--     all_told list groups             so it is told of each of some groups
--     told_fit one two slot            the members of a site have as many points as it has
--                                      neighbours, as two such lists tell it
--     FindsUnfit one two slots found   the atom of the first slot that they tell not to fit
--     FindsMisfit query found          the first table with a misfit, and its lowest atom
use Rattle.std.specs.Prelude.{◌≡◌, ◌<◌, ◌+◌, ◌-◌, ◌==◌, ◌↔◌, ℕ, Bool, true, false, List, Option, Some, None, Contains, if◌then◌else◌, IsTrue, length, slice_get, slice_index_or}
use Rattle.std.specs.List.{list_all}
use Rattle.mk_text.specs.Items.{IsLeastFailing}
use Rattle.mk_model.specs.declared.template.Slot.{Slot}
use Rattle.mk_model.specs.declared.template.Slot.TheVariants.{Link, Site}
use Rattle.mk_model.specs.Queries.{QueryView, members_of}
use Rattle.mk_model.specs.Templates.{TemplateView, slot_atom}
use Rattle.mk_query.specs.declared.point_fits.SitePlace.{SitePlace}
use Rattle.mk_query.specs.CompileFaults.{FitsAt, FitsTable}

-- table u has n points
abbrev pub HasPoints : List TemplateView → ℕ → ℕ → Type 0
HasPoints templates n u = (template : TemplateView) → slice_get templates u ≡ Some template → length template.points ≡ n

-- each of these members has n points
abbrev pub AllHavePoints : List TemplateView → ℕ → List ℕ → Type 0
AllHavePoints templates n members = (u : ℕ) → Contains members u → HasPoints templates n u

-- for each group, whether its members have n points
pub record AreTold (query : QueryView) (n : ℕ) (list : List Bool) : Type 0 where
  pub size : length list ≡ 32
  pub each : (g : ℕ) → g < 32 → IsTrue (slice_index_or list g false) ↔ AllHavePoints query.templates n (members_of query (g + 1))

-- of each of these groups the list tells that its members have so many points
abbrev pub all_told : List Bool → List ℕ → Bool
all_told list groups = list_all (λ g. slice_index_or list (g - 1) false) groups

-- a site's members have as many points as it has neighbours, as the lists for one point and for two
-- tell it of its groups
abbrev pub told_fit : List Bool → List Bool → Slot → Bool
told_fit one two (Link atom most from to) = true
told_fit one two (Site atom groups first second) = if second == 0 then all_told one groups else all_told two groups

-- x is the atom of the first slot that the lists tell not to fit
pub record IsUnfit (one two : List Bool) (slots : List Slot) (x : ℕ) : Type 0 where
  pub place : ℕ
  pub slot : Slot
  pub at : slice_get slots place ≡ Some slot
  pub atom : slot_atom slot ≡ x
  pub unfit : told_fit one two slot ≡ false
  pub before : (j : ℕ) (earlier : Slot) → j < place → slice_get slots j ≡ Some earlier → told_fit one two earlier ≡ true

-- the atom of the first slot that the lists tell not to fit, or none where all fit
abbrev pub FindsUnfit : List Bool → List Bool → List Slot → Option ℕ → Type 0
FindsUnfit one two slots None = (j : ℕ) (slot : Slot) → slice_get slots j ≡ Some slot → told_fit one two slot ≡ true
FindsUnfit one two slots (Some x) = IsUnfit one two slots x

-- the first table with a misfit, and its lowest atom; or no table has one
abbrev pub FindsMisfit : QueryView → Option SitePlace → Type 0
FindsMisfit query None = (t : ℕ) → FitsTable query t
FindsMisfit query (Some place) = IsLeastFailing (FitsTable query) place.table × IsLeastFailing (FitsAt query place.table) place.atom
