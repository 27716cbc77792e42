-- What is known of the templates and groups of a raw query before they are checked across. For the
-- code alone.
--     IsDrafted template  slots by rising atom with labels from 1 to 32, and few atoms
--     IsDraft query       a root and 32 groups of such templates
use Rattle.std.specs.Prelude.{◌≡◌, ◌<◌, ◌^◌, All, length}
use Rattle.mk_model.specs.Queries.{QueryView}
use Rattle.mk_model.specs.QueryFits.{HasRisingSlots}
use Rattle.mk_model.specs.Templates.{TemplateView}
use Rattle.mk_query.specs.OwnSizes.{IsSized}
use Rattle.mk_query.specs.Recursion.{NamesGroups}

-- The labels of the template's sites are from 1 to 32, its slots stand by rising atom, and it has
-- few atoms, with bonds and slots at them.
pub record IsDrafted (template : TemplateView) : Type 0 where
  pub labels : All NamesGroups template.slots
  pub rising : HasRisingSlots template
  pub sized : IsSized template

-- there are a root and 32 groups, and the members of groups are templates
pub record IsDraft (query : QueryView) : Type 0 where
  pub root : 0 < length query.templates
  pub few : length query.templates < 2 ^ 32
  pub templates : All IsDrafted query.templates
  pub all : length query.groups ≡ 32
  pub members : All (λ group. All (λ u. u < length query.templates) group.members) query.groups
