-- What a template becomes where it stays as it is drawn.
--     as_drawn template             the template as it is drawn
--     WithoutSlots                  a template without slots is its own expansion
--     LinksThatStandOnce            links that stand once each leave their template as it is drawn
use Rattle.std.specs.Prelude.{◌≡◌, ℕ, List, [], ◌∷◌, Some, map, slice_get}
use Rattle.mk_model.specs.declared.template.Slot.{Slot}
use Rattle.mk_model.specs.Codes.{Choice, IsChoice}
use Rattle.mk_model.specs.Codes.Choice.{done, repeated}
use Rattle.mk_model.specs.Expansions.{bond_between, expansion}
use Rattle.mk_model.specs.Pieces.{Fragment}
use Rattle.mk_model.specs.Queries.{QueryView}
use Rattle.mk_model.specs.QueryFits.{QueryFits}
use Rattle.mk_model.specs.Templates.{TemplateView}

-- the template as it is drawn: its atoms without free ends, its bonds each with its lower end
-- first, and its points
abbrev pub as_drawn : TemplateView → Fragment
as_drawn template = record {
  atoms = map (λ test. record { test = test; free = 0 }) template.atoms;
  bonds = map (λ bond. bond_between bond.first bond.second bond.kind bond.topology) template.bonds;
  points = template.points;
}

-- each slot stands once
abbrev pub once_each : List Slot → Choice
once_each [] = done
once_each (slot ∷ slots) = repeated 1 (once_each slots)

-- ---- laws

-- a template without slots is its own expansion
abbrev pub WithoutSlots : Type 0
WithoutSlots = (query : QueryView) (t : ℕ) (template : TemplateView)
    → QueryFits query → slice_get query.templates t ≡ Some template
    → template.slots ≡ [] → expansion query t done ≡ as_drawn template

-- where each slot of a template is a link and stands once, the template stays as it is drawn, with
-- their blocks
abbrev pub LinksThatStandOnce : Type 0
LinksThatStandOnce = (query : QueryView) (t : ℕ) (template : TemplateView)
    → QueryFits query → slice_get query.templates t ≡ Some template
    → IsChoice query template.slots (once_each template.slots)
    → expansion query t (once_each template.slots) ≡ as_drawn template
