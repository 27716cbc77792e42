-- What the labels of a site say. All else that is said of labels goes through the four words, and a
-- link has no label.
--     site_labels slot                the labels of a site: the numbers of its groups
--     members_at query slot           the members of a site: the templates that may fill it, rising
--     bears_label slot g              the site bears the label of group g
--     holds_member_of query slot k g  with the number k the site holds a member of group g
--     draws_rest_hydrogens query slot   hydrogens stand in the place of the site where it isn't
--                                       filled
--     member query slot k             the k-th member of a site
--     is_filled_by query slot k       the number k fills the site
--     PutsIn query t u                a site of template t may be filled by template u
--     IsChain query t via u           the same with templates between
use Rattle.std.specs.Prelude.{◌-◌, ◌==◌, ◌&&◌, nat_le, ℕ, Bool, false, List, [], ◌∷◌, Option, Some, None, Contains, filter, length, slice_get, slice_index}
use Rattle.std.specs.List.{list_any, range_with_len}
use Rattle.mk_model.specs.declared.group.Group.{Group}
use Rattle.mk_model.specs.declared.template.Slot.{Slot}
use Rattle.mk_model.specs.declared.template.Slot.TheVariants.{Link, Site}
use Rattle.mk_model.specs.Queries.{QueryView, members_of, slots_of}

-- the labels of a site are the numbers of its groups
abbrev pub site_labels : Slot → List ℕ
site_labels (Link atom most from to) = []
site_labels (Site atom groups first second) = groups

-- ---- what groups say

-- template u is a member of group g
abbrev pub is_member_of : QueryView → ℕ → ℕ → Bool
is_member_of query g u = list_any (λ v. v == u) (members_of query g)

-- template u is a member of one of these groups
abbrev pub is_member_of_one : QueryView → List ℕ → ℕ → Bool
is_member_of_one query groups u = list_any (λ g. is_member_of query g u) groups

-- the numbers of all templates of a query
abbrev pub template_numbers : QueryView → List ℕ
template_numbers query = range_with_len 0 (length query.templates)

-- the templates that are members of one of these groups, by rising number
unfoldable pub joint_members : QueryView → List ℕ → List ℕ
joint_members query groups = filter (is_member_of_one query groups) (template_numbers query)

-- group g asks for hydrogens in the place of an unfilled site
abbrev pub asks_rest_hydrogens : QueryView → ℕ → Bool
asks_rest_hydrogens query g = says (slice_get query.groups (g - 1))
  where
    says : Option Group → Bool
    says None = false
    says (Some group) = group.rest_hydrogen

-- ---- the four words

-- the members of a site are those of all its labels, by rising number
abbrev pub members_at : QueryView → Slot → List ℕ
members_at query (Link atom most from to) = []
members_at query (Site atom groups first second) = joint_members query groups

-- the template that is the k-th member of a site
abbrev pub member : QueryView → Slot → ℕ → ℕ
member query slot k = slice_index (members_at query slot) (k - 1)

-- a number fills a site where it is one of a member's; the number behind them leaves it unfilled
abbrev pub is_filled_by : QueryView → Slot → ℕ → Bool
is_filled_by query slot k = nat_le k (length (members_at query slot))

-- With the number k a site holds a member of group g: the number fills it, and the template that is
-- its k-th member is a member of that group.
abbrev pub holds_member_of : QueryView → Slot → ℕ → ℕ → Bool
holds_member_of query slot k g = is_filled_by query slot k && is_member_of query g (member query slot k)

-- a site bears the label of a group where that is one of its labels
abbrev pub bears_label : Slot → ℕ → Bool
bears_label slot g = list_any (λ h. h == g) (site_labels slot)

-- an unfilled site is drawn with hydrogens where one of its labels says so
abbrev pub draws_rest_hydrogens : QueryView → Slot → Bool
draws_rest_hydrogens query slot = list_any (asks_rest_hydrogens query) (site_labels slot)

-- ---- by these words

-- some site of template t may be filled by template u
pub record PutsIn (query : QueryView) (t u : ℕ) : Type 0 where
  pub slot : Slot
  pub at : Contains (slots_of query t) slot
  pub fills : Contains (members_at query slot) u

-- a site of template t may be filled by the first of the templates between, and so on, up to
-- template u
abbrev pub IsChain : QueryView → ℕ → List ℕ → ℕ → Type 0
IsChain query t [] u = PutsIn query t u
IsChain query t (v ∷ via) u = PutsIn query t v × IsChain query v via u
