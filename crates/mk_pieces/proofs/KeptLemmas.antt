-- What every query keeps of its templates and their members.
--     slots_are, template_is     templates by their places
--     member_there               a member is a template
--     labels_known               the labels of a slot rise
--     template_kept              each template is kept
use Rattle.std.proofs.Common.{◌≡◌, ℕ, ◌<◌, List, [], length, get_or, refl, subst}
use Rattle.std.specs.Prelude.{Contains}
use Rattle.mk_model.specs.declared.template.Slot.{Slot}
use Rattle.mk_model.specs.declared.template.Slot.TheVariants.{Link, Site}
use Rattle.mk_model.specs.Expansions.{template_of}
use Rattle.mk_model.specs.Labels.{joint_members, members_at, site_labels}
use Rattle.mk_model.specs.Queries.{QueryView, slots_of}
use Rattle.mk_model.specs.QueryFits.{AreRisingLabels, IsSlotOf as InRangeSlot, NamesItsNeighbours, QueryFits}
use Rattle.mk_model.specs.Templates.{TemplateView}
use Rattle.mk_model.proofs.ForCallers.{at_place, joint_within, members_are, simple_template}
use Rattle.mk_pieces.specs.Kept.{IsSlotOf, IsTemplate}

pub slots_are : (query : QueryView) (t : ℕ) (d : TemplateView) → t < length query.templates → slots_of query t ≡ (get_or query.templates t d).slots
slots_are query t d below = rw (at_place query.templates t d below) refl

pub template_is : (query : QueryView) (t : ℕ) (d : TemplateView) → t < length query.templates → template_of query t ≡ get_or query.templates t d
template_is query t d below = rw (at_place query.templates t d below) refl

-- a member of a slot is a template
pub member_there : (query : QueryView) (slot : Slot) (u : ℕ) → Contains (members_at query slot) u → u < length query.templates
member_there query slot u at =
    let here : Contains (joint_members query (site_labels slot)) u = subst (λ (members : List ℕ). Contains members u) (members_are query slot) at in
    subst (λ (v : ℕ). v < length query.templates) here.2 (joint_within query (site_labels slot) here.0 u here.1)

-- the labels of a slot rise
pub labels_known : (query : QueryView) → QueryFits query → (t : ℕ) → t < length query.templates → (slot : Slot) → Contains (slots_of query t) slot → AreRisingLabels (site_labels slot)
labels_known query fits t there slot at =
    let d : TemplateView = record { atoms = []; bonds = []; slots = []; points = [] } in
    let here : Contains (get_or query.templates t d).slots slot = rw (slots_are query t d there) at at in
    subst (λ (s : Slot). AreRisingLabels (site_labels s)) here.2 (fits.labels_rise t d there here.0 slot here.1)

-- what every template of a query keeps
kept_slot : (template : TemplateView) (slot : Slot) → InRangeSlot template slot → NamesItsNeighbours template slot → IsSlotOf template slot
kept_slot template (Link atom most from to) is names = is
kept_slot template (Site atom groups first second) is names = (is, names)

pub template_kept : (query : QueryView) → QueryFits query → (t : ℕ) (d : TemplateView) → t < length query.templates → IsTemplate (get_or query.templates t d)
template_kept query fits t d there =
    let range = fits.in_range.templates t d there in
    record {
      tests = range.tests;
      bond_tests = range.bond_tests;
      graph = simple_template (get_or query.templates t d) range (fits.pairs_once t d there);
      slots = λ k e below. kept_slot (get_or query.templates t d) (get_or (get_or query.templates t d).slots k e) (range.slots k e below) (fits.neighbours t d there k e below);
      slots_rise = fits.slots_rise t d there;
      points = range.points;
      few_points = range.few_points;
      points_free = fits.points_free t d there;
      blocks_closed = fits.blocks_closed t d there;
    }
