-- For the code: what a query keeps of one of its templates, in one record.
--     IsSlotOf template slot     a slot of the template: a link, or a site between the neighbours
--                                that it names
--     IsTemplate template        all that is kept of a template
use Rattle.std.specs.Prelude.{◌≤◌, ◌<◌, length, All, AllPairs, Contains}
use Rattle.mk_model.specs.declared.template.Slot.{Slot}
use Rattle.mk_model.specs.declared.template.Slot.TheVariants.{Link, Site}
use Rattle.mk_model.specs.Edges.{IsSimple}
use Rattle.mk_model.specs.QueryFits.{IsAtomOf, IsBetweenNamed, HoldsItsBlock, IsLink}
use Rattle.mk_model.specs.Templates.{TemplateView, query_edges, slot_atom}
use Rattle.mk_model.specs.Tests.{IsBondInRange, IsTestInRange}

-- each slot is a link, or a site whose neighbours are those that it names
abbrev pub IsSlotOf : TemplateView → Slot → Type 0
IsSlotOf template (Link atom most from to) = IsAtomOf template atom × IsLink template most atom from to
IsSlotOf template (Site atom groups first second) = IsAtomOf template atom × IsBetweenNamed template atom first second

-- what is kept of each template
pub record IsTemplate (template : TemplateView) : Type 0 where
  pub tests : All IsTestInRange template.atoms
  pub bond_tests : All (λ bond. IsBondInRange bond.kind bond.topology) template.bonds
  pub graph : IsSimple (length template.atoms) (query_edges template.bonds)
  pub slots : All (IsSlotOf template) template.slots
  pub slots_rise : AllPairs (λ slot later. slot_atom slot < slot_atom later) template.slots
  pub points : All (IsAtomOf template) template.points
  pub few_points : length template.points ≤ 2
  pub points_free : (slot : Slot) → Contains template.slots slot → Contains template.points (slot_atom slot) → ⊥
  pub blocks_closed : All (HoldsItsBlock template) template.slots
