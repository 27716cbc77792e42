-- For code alone: which groups lead to which, as tables of 32 rows and columns.
--     asks_for query g h         some member of group g has a site of group h
--     leads query k g h          so, or by way of groups up to k
--     HasAlso new old also       the bits of groups, with those of which a test holds
--     cell list a b              the entry of a row and a column, which count from 0
--     Holds f list               the entry of row g - 1 and column h - 1 is f g h
--     NamesGroups slot           the labels of a site are the numbers of groups
--     MembersWithin query        the members of groups are templates
--     leads_on f g slot          a site of which a label is g, or leads to it
--     comes_back f g slots       some of the slots is one
--     ComesBack query list members g u    table u is a member of group g, and one of its sites
--                                         leads back
use Rattle.std.specs.Prelude.{◌≡◌, ◌<◌, ◌≤◌, ◌+◌, ◌-◌, ◌*◌, ◌==◌, ◌&&◌, ◌||◌, ℕ, zero, suc, Bool, false, List, All, length, slice_index_or, Contains, IsTrue}
use Rattle.std.specs.List.{list_any}
use Rattle.mk_model.specs.declared.template.Slot.{Slot}
use Rattle.mk_model.specs.Labels.{bears_label, site_labels}
use Rattle.mk_model.specs.Queries.{QueryView, members_of, slots_of}
use Rattle.mk_query.specs.Marks.{has_group}

-- some member of group g has a site of group h
abbrev pub asks_for : QueryView → ℕ → ℕ → Bool
asks_for query g h = list_any (λ u. list_any (λ slot. bears_label slot h) (slots_of query u)) (members_of query g)

-- group g asks for h, or for a group that does, and so on, where all groups between are among the
-- first k
abbrev pub leads : QueryView → ℕ → ℕ → ℕ → Bool
leads query zero g h = asks_for query g h
leads query (suc k) g h = leads query k g h || (leads query k g (suc k) && leads query k (suc k) h)

-- the bits that are set are those that were, and those of the groups of which a test holds
abbrev pub HasAlso : ℕ → ℕ → (ℕ → Bool) → Type 0
HasAlso new old also = (h : ℕ) → 1 ≤ h → h ≤ 32 → has_group new h ≡ (has_group old h || also h)

-- the entry of row a and column b
abbrev pub cell : List Bool → ℕ → ℕ → Bool
cell list a b = slice_index_or list (32 * a + b) false

-- the entries so far are those of f
abbrev pub HoldSoFar : (ℕ → ℕ → Bool) → List Bool → Type 0
HoldSoFar f list = (a b : ℕ) → b < 32 → 32 * a + b < length list → cell list a b ≡ f (a + 1) (b + 1)

-- there are 32 rows of 32, and the entries are those of f
pub record Holds (f : ℕ → ℕ → Bool) (list : List Bool) : Type 0 where
  pub size : length list ≡ 1024
  pub each : HoldSoFar f list

-- the labels of a site are the numbers of groups, from 1 to 32
abbrev pub NamesGroups : Slot → Type 0
NamesGroups slot = All (λ h. (1 ≤ h) × (h ≤ 32)) (site_labels slot)

-- each member of a group is a template
abbrev pub MembersWithin : QueryView → Type 0
MembersWithin query = (g u : ℕ) → Contains (members_of query g) u → u < length query.templates

-- one of some labels is g, or leads to it
abbrev pub label_leads : (ℕ → ℕ → Bool) → ℕ → List ℕ → Bool
label_leads f g labels = list_any (λ h. (h == g) || f h g) labels

-- the slot is a site of which a label is g, or leads to it
abbrev pub leads_on : (ℕ → ℕ → Bool) → ℕ → Slot → Bool
leads_on f g slot = label_leads f g (site_labels slot)

-- a site among these slots has the label g, or one that leads to it
abbrev pub comes_back : (ℕ → ℕ → Bool) → ℕ → List Slot → Bool
comes_back f g slots = list_any (leads_on f g) slots

-- the entry of groups g and h, which count from 1
abbrev pub entry : List Bool → ℕ → ℕ → Bool
entry list g h = cell list (g - 1) (h - 1)

-- table u is among these members of group g, and a site of it leads back to the group
pub record ComesBack (query : QueryView) (list : List Bool) (members : List ℕ) (g u : ℕ) : Type 0 where
  pub member : Contains members u
  pub back : IsTrue (comes_back (entry list) g (slots_of query u))
