-- What proofs of the crates above use of this one.
--     root_there       the root is a template
--     begins_empty     some code begins with the empty front
use Rattle.std.proofs.Common.{suc, ◌+◌, ◌<◌, List, [], ◌∷◌, length, refl, arith}
use Rattle.std.specs.Prelude.{All}
use Rattle.mk_model.specs.declared.template.Slot.{Slot}
use Rattle.mk_model.specs.declared.template.Slot.TheVariants.{Link, Site}
use Rattle.mk_model.specs.Codes.{Choice, IsChoice, spelling}
use Rattle.mk_model.specs.Codes.Choice.{done, repeated, unfilled}
use Rattle.mk_model.specs.Labels.{members_at}
use Rattle.mk_model.specs.Nodes.{BeginsCode}
use Rattle.mk_model.specs.Queries.{QueryView, slots_of}
use Rattle.mk_model.specs.QueryFits.{IsInRange, IsSlotOf, QueryFits}
use Rattle.mk_model.specs.Templates.{TemplateView}
use Rattle.mk_model.proofs.ForCallers.{all_at, place_within}

-- ---- the root

-- the root is a template
pub root_there : (query : QueryView) → QueryFits query → 0 < length query.templates
root_there query fits = place_within query.templates 0 fits.small_root.root fits.small_root.at

-- the labels of a slot of the root rise
-- ---- some code of the root

-- each link once, and each site vacant
abbrev least_choice : QueryView → List Slot → Choice
least_choice query [] = done
least_choice query (Link atom most from to ∷ slots) = repeated 1 (least_choice query slots)
least_choice query (Site atom groups first second ∷ slots) = unfilled (length (members_at query (Site atom groups first second)) + 1) (least_choice query slots)

least_made : (query : QueryView) (template : TemplateView) (slots : List Slot) → All (IsSlotOf template) slots → IsChoice query slots (least_choice query slots)
least_made query template [] all = tt
least_made query template (Link atom most from to ∷ slots) all =
    let here : IsSlotOf template (Link atom most from to) = all 0 (Link 0 0 0 0) (omega arith) in
    (omega arith, omega (arith, here.1.twice), least_made query template slots (λ k d below. all (suc k) d (omega (arith, below))))
least_made query template (Site atom groups first second ∷ slots) all =
    (refl, least_made query template slots (λ k d below. all (suc k) d (omega (arith, below))))

-- some code begins with the empty front
pub begins_empty : (query : QueryView) → QueryFits query → BeginsCode query []
begins_empty query fits = record { more = spelling (least_choice query root.slots); code = record { choice = least_choice query root.slots; made = made; spelt = refl } }
  where
    root : TemplateView
    root = fits.small_root.root

    range : IsInRange root
    range = all_at IsInRange query.templates 0 root fits.in_range.templates fits.small_root.at

    made : IsChoice query (slots_of query 0) (least_choice query root.slots)
    made = rw fits.small_root.at (least_made query root root.slots range.slots)
