-- The labels of open slots.
--     slots_labelled                      the labels of a template's slots rise
--     labelled_first, labelled_others     those of the first of some slots, and of the others
use Rattle.std.proofs.Common.{◌≡◌, ℕ, suc, List, [], ◌∷◌, Option, Some, None, refl, arith, All}
use Rattle.std.specs.Prelude.{slice_get}
use Rattle.mk_model.specs.declared.template.Slot.{Slot}
use Rattle.mk_model.specs.Queries.{QueryView, slots_of}
use Rattle.mk_model.specs.QueryFits.{HasRisingLabels, QueryFits}
use Rattle.mk_model.specs.Templates.{TemplateView}
use Rattle.mk_model.proofs.ForCallers.{all_at}
use Rattle.mk_rtable.specs.Members.{BearsRisingLabels}

-- no slots
none_labelled : All BearsRisingLabels []
none_labelled = λ k d below. absurd (omega arith)

-- the labels of the slots of a template rise
pub slots_labelled : (query : QueryView) → QueryFits query → (t : ℕ) → All BearsRisingLabels (slots_of query t)
slots_labelled query fits t = by_template (slice_get query.templates t) refl
  where
    by_template : (o : Option TemplateView) → slice_get query.templates t ≡ o → All BearsRisingLabels (slots_of query t)
    by_template None e = rw e none_labelled
    by_template (Some template) e = rw e (all_at HasRisingLabels query.templates t template fits.labels_rise e)

-- those of the first of some slots
pub labelled_first : (slot : Slot) (slots : List Slot) → All BearsRisingLabels (slot ∷ slots) → BearsRisingLabels slot
labelled_first slot slots labels = labels 0 slot (omega arith)

-- and those of the others
pub labelled_others : (slot : Slot) (slots : List Slot) → All BearsRisingLabels (slot ∷ slots) → All BearsRisingLabels slots
labelled_others slot slots labels = λ k d below. labels (suc k) d (omega arith)
