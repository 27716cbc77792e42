-- Queries as their lists. Templates count from 0, and template 0 is the root; groups count from 1.
--     QueryView                what is seen of a `Query`
--     slots_of query t         the slots of template t
--     members_of query g       the templates of group g, in order
use Rattle.std.specs.Prelude.{◌-◌, ℕ, List, [], Option, Some, None, slice_get}
use Rattle.mk_model.specs.declared.group.Group.{Group}
use Rattle.mk_model.specs.declared.template.Slot.{Slot}
use Rattle.mk_model.specs.Templates.{TemplateView}

-- what is seen of a `Query`: its templates, and its groups from 1 on
pub record QueryView : Type 0 where
  pub templates : List TemplateView
  pub groups : List Group

-- the slots of template t, and none where there is no such template
abbrev pub slots_of : QueryView → ℕ → List Slot
slots_of query t = slots (slice_get query.templates t)
  where
    slots : Option TemplateView → List Slot
    slots None = []
    slots (Some template) = template.slots

-- the templates of group g, in order, and none where there is no such group
abbrev pub members_of : QueryView → ℕ → List ℕ
members_of query g = members (slice_get query.groups (g - 1))
  where
    members : Option Group → List ℕ
    members None = []
    members (Some group) = group.members
