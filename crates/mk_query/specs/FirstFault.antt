-- The checks of one table of a query in their order, and the first that fails.
--     QueryCheck                                    the checks; `query_check_number` gives their
--                                                   numbers
--     QueryDemands groups is_root table check item  what a check demands of the item of a number
--     PassesAll groups is_root table                every check passes at every item
--     IsFirstFault groups is_root table fault       the first check that fails, and its least item
--     FindsBelow groups is_root table n found       the first fault, or none where the checks of
--                                                   lower numbers pass
--     FindsFirst groups is_root table found         the first fault, or none where every check
--                                                   passes
use Rattle.std.specs.Prelude.{◌≡◌, ◌<◌, ℕ, Bool, List, Option, Some, None, length}
use Rattle.mk_text.specs.Items.{IsLeastFailing, OfItem}
use Rattle.mk_tables.specs.declared.raw.RawTable.{RawTable}
use Rattle.mk_rgfile.specs.declared.raw_query.RawGroup.{RawGroup}
use Rattle.mk_query.specs.declared.checking.Fault.{Fault}
use Rattle.mk_query.specs.Checks.{IsQueryAtom, IsQueryBond, IsQueryProperty}
use Rattle.mk_query.specs.LinkChecks.{HasLink, HasLogic, HasPoint}
use Rattle.mk_query.specs.SiteChecks.{HasLabel, HasLists, HasSiteOrder, HasSitePlace}

-- Symbols and columns of atoms; ends, columns and number of bonds; atoms and values of properties;
-- lists of elements; labels; the neighbours of sites, and their orders; attachment points; links;
-- logic.
pub data QueryCheck : Type 0 where
  query_atoms : QueryCheck
  query_bonds : QueryCheck
  query_properties : QueryCheck
  element_lists : QueryCheck
  labelled_sites : QueryCheck
  site_places : QueryCheck
  site_orders : QueryCheck
  attachment_points : QueryCheck
  link_atoms : QueryCheck
  group_logic : QueryCheck

-- the checks count from 1, in their order
abbrev pub query_check_number : QueryCheck → ℕ
query_check_number query_atoms = 1
query_check_number query_bonds = 2
query_check_number query_properties = 3
query_check_number element_lists = 4
query_check_number labelled_sites = 5
query_check_number site_places = 6
query_check_number site_orders = 7
query_check_number attachment_points = 8
query_check_number link_atoms = 9
query_check_number group_logic = 10

-- What a check demands of the item of a number, which is an atom, a bond or a property, where these
-- are the query's groups. The atom-list lines together are item 0 of the lists. An item that isn't
-- there is right.
abbrev pub QueryDemands : List RawGroup → Bool → RawTable → QueryCheck → ℕ → Type 0
QueryDemands groups is_root table query_atoms item = OfItem IsQueryAtom table.atoms item
QueryDemands groups is_root table query_bonds item = IsQueryBond (length table.atoms) table.bonds item
QueryDemands groups is_root table query_properties item = OfItem (IsQueryProperty (length table.atoms)) table.props item
QueryDemands groups is_root table element_lists item = HasLists table item
QueryDemands groups is_root table labelled_sites item = HasLabel groups table item
QueryDemands groups is_root table site_places item = HasSitePlace table item
QueryDemands groups is_root table site_orders item = HasSiteOrder table item
QueryDemands groups is_root table attachment_points item = HasPoint is_root table item
QueryDemands groups is_root table link_atoms item = HasLink table item
QueryDemands groups is_root table group_logic item = HasLogic is_root table item

-- the check passes at every item
abbrev pub Passes : List RawGroup → Bool → RawTable → QueryCheck → Type 0
Passes groups is_root table check = (item : ℕ) → QueryDemands groups is_root table check item

-- every check passes
abbrev pub PassesAll : List RawGroup → Bool → RawTable → Type 0
PassesAll groups is_root table = (check : QueryCheck) → Passes groups is_root table check

-- the checks of lower numbers pass
abbrev pub PassesBelow : List RawGroup → Bool → RawTable → ℕ → Type 0
PassesBelow groups is_root table n = (check : QueryCheck) → query_check_number check < n → Passes groups is_root table check

-- the checks of lower numbers pass, and this one fails at this item and at no lower one
pub record IsFirstFault (groups : List RawGroup) (is_root : Bool) (table : RawTable) (fault : Fault) : Type 0 where
  pub check : QueryCheck
  pub numbered : query_check_number check ≡ fault.check
  pub before : PassesBelow groups is_root table fault.check
  pub least : IsLeastFailing (QueryDemands groups is_root table check) fault.item

-- the first fault, or none where the checks of lower numbers pass
abbrev pub FindsBelow : List RawGroup → Bool → RawTable → ℕ → Option Fault → Type 0
FindsBelow groups is_root table n None = PassesBelow groups is_root table n
FindsBelow groups is_root table n (Some fault) = IsFirstFault groups is_root table fault

-- the first fault, or none where every check passes
abbrev pub FindsFirst : List RawGroup → Bool → RawTable → Option Fault → Type 0
FindsFirst groups is_root table None = PassesAll groups is_root table
FindsFirst groups is_root table (Some fault) = IsFirstFault groups is_root table fault
