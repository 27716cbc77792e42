-- What a choice makes of slots fits them.
--     pieces_fit            each piece fits its slot
--     expansion_fragment    so an expansion of a template is a fragment
use Rattle.std.proofs.Common.{◌≡◌, ◌∙◌, ℕ, suc, ◌+◌, ◌-◌, ◌<◌, ◌≤◌, Bool, true, false, cond, List, [], ◌∷◌, Some, length, get_or, refl, sym, ap, subst, arith}
use Rattle.std.specs.Prelude.{Contains, slice_get}
use Rattle.std.proofs.lemmas.List.{get_or_default, length-map}
use Rattle.mk_model.specs.Pieces.{Piece}
use Rattle.mk_model.specs.Pieces.Piece.{Hydrogens, Nothing}
use Rattle.mk_model.specs.declared.template.Slot.{Slot}
use Rattle.mk_model.specs.declared.template.Slot.TheVariants.{Link, Site}
use Rattle.mk_model.specs.Codes.{Choice, IsChoice}
use Rattle.mk_model.specs.Codes.Choice.{done, repeated, unfilled, filled}
use Rattle.mk_model.specs.Pieces.{before}
use Rattle.mk_model.specs.Expansions.{expansion, joined, template_of, pieces_of}
use Rattle.mk_model.specs.Labels.{draws_rest_hydrogens}
use Rattle.mk_model.specs.Templates.{TemplateView}
use Rattle.mk_model.specs.Queries.{QueryView, slots_of}
use Rattle.mk_model.specs.Labels.{member, members_at}
use Rattle.mk_model.specs.QueryFits.{FitsPoints, QueryFits}
use Rattle.mk_pieces.specs.Kept.{IsTemplate}
use Rattle.mk_model.proofs.ForCallers.{at_place}
use Rattle.mk_pieces.specs.Fragments.{IsFragment}
use Rattle.mk_pieces.proofs.JoinedLemmas.{joined_fragment}
use Rattle.mk_pieces.proofs.PieceLemmas.{FitsSlot, FitSlots, all_stand, neighbours}
use Rattle.mk_pieces.proofs.KeptLemmas.{member_there, template_is, slots_are, template_kept}

-- ---- slots of templates

-- the members of each of some slots have as many points as the slot has neighbours
abbrev pub AreKnownSlots : QueryView → List Slot → Type 0
AreKnownSlots query [] = Unit {0}
AreKnownSlots query (slot ∷ slots) = FitsPoints query slot × AreKnownSlots query slots

known_all : (query : QueryView) (slots : List Slot) → ((k : ℕ) (d : Slot) → k < length slots → FitsPoints query (get_or slots k d)) → AreKnownSlots query slots
known_all query [] each = tt
known_all query (slot ∷ slots) each = (each 0 slot (omega arith), known_all query slots (λ k d below. each (suc k) d (omega arith)))

no_template : TemplateView
no_template = record { atoms = []; bonds = []; slots = []; points = [] }

-- the template is there, and is kept as each is
pub kept_template : (query : QueryView) → QueryFits query → (t : ℕ) → t < length query.templates → IsTemplate (template_of query t)
unfolding no_template
kept_template query fits t there = rw (template_is query t no_template there) (template_kept query fits t no_template there)

pub slots_of_template : (query : QueryView) (t : ℕ) → t < length query.templates → slots_of query t ≡ (template_of query t).slots
unfolding no_template
slots_of_template query t there = rw (slots_are query t no_template there, template_is query t no_template there) refl

pub template_at : (query : QueryView) (t : ℕ) → t < length query.templates → slice_get query.templates t ≡ Some (template_of query t)
unfolding no_template
template_at query t there = at_place query.templates t no_template there ∙ ap Some (sym (template_is query t no_template there))

pub known_slots : (query : QueryView) → QueryFits query → (t : ℕ) → t < length query.templates → AreKnownSlots query (template_of query t).slots
unfolding no_template
known_slots query fits t there =
    rw (template_is query t no_template there) (known_all query (get_or query.templates t no_template).slots (λ k d below. fits.points_fit t no_template there k d below))

-- ---- pieces

pub open_fits : (atom : ℕ) (groups : List ℕ) (first second : ℕ) (rest : Bool) → FitsSlot (Site atom groups first second) (cond rest (Hydrogens (neighbours second)) Nothing)
open_fits atom groups first second true = refl
open_fits atom groups first second false = tt

-- a member that is chosen is there
pub chosen_there : (query : QueryView) (slot : Slot) (k : ℕ) → 1 ≤ k → k ≤ length (members_at query slot)
    → (member query slot k < length query.templates) × Contains (members_at query slot) (member query slot k)
chosen_there query slot k some within =
    let below : k - 1 < length (members_at query slot) = omega (arith, some, within) in
    let at : Contains (members_at query slot) (member query slot k) = (k - 1, below, get_or_default (members_at query slot) (k - 1) (member query slot k) 0 below) in
    (member_there query slot (member query slot k) at, at)

pub points_length : (template : TemplateView) (pieces : List Piece) → length (joined template pieces).points ≡ length template.points
unfolding joined
points_length template pieces = length-map template.points (λ x. before template pieces x + 1)

pub pieces_fit : (query : QueryView) → QueryFits query → (slots : List Slot) (choice : Choice) → AreKnownSlots query slots → IsChoice query slots choice → FitSlots slots (pieces_of query slots choice)
unfolding pieces_of
pieces_fit query fits [] done known is = tt
pieces_fit query fits [] (repeated n others) known is = absurd is
pieces_fit query fits [] (unfilled n others) known is = absurd is
pieces_fit query fits [] (filled k inside others) known is = absurd is
pieces_fit query fits (Link atom most from to ∷ slots) done known is = absurd is
pieces_fit query fits (Link atom most from to ∷ slots) (repeated n others) known is = ((is.0, is.1), pieces_fit query fits slots others known.1 is.2)
pieces_fit query fits (Link atom most from to ∷ slots) (unfilled n others) known is = absurd is
pieces_fit query fits (Link atom most from to ∷ slots) (filled k inside others) known is = absurd is
pieces_fit query fits (Site atom groups first second ∷ slots) done known is = absurd is
pieces_fit query fits (Site atom groups first second ∷ slots) (repeated n others) known is = absurd is
pieces_fit query fits (Site atom groups first second ∷ slots) (unfilled n others) known is =
    (open_fits atom groups first second (draws_rest_hydrogens query (Site atom groups first second)), pieces_fit query fits slots others known.1 is.1)
pieces_fit query fits (Site atom groups first second ∷ slots) (filled k inside others) known is =
    let u = member query (Site atom groups first second) k in
    let there = chosen_there query (Site atom groups first second) k is.0 is.1 in
    let template = template_of query u in
    let same = slots_of_template query u there.0 in
    let inner : FitSlots (slots_of query u) (pieces_of query (slots_of query u) inside) = pieces_fit query fits (slots_of query u) inside (rw same (known_slots query fits u there.0)) is.2 in
    let inner' : FitSlots template.slots (pieces_of query (slots_of query u) inside) = subst (λ (ss : List Slot). FitSlots ss (pieces_of query (slots_of query u) inside)) same inner in
    let fragment : IsFragment (joined template (pieces_of query (slots_of query u) inside)) =
    joined_fragment template (kept_template query fits u there.0) (pieces_of query (slots_of query u) inside)
    (all_stand template.slots (pieces_of query (slots_of query u) inside) inner') in
    ((fragment, points_length template (pieces_of query (slots_of query u) inside) ∙ known.0 u template there.1 (template_at query u there.0)), pieces_fit query fits slots others known.1 is.3)

-- ---- a template

pub template_fit : (query : QueryView) → QueryFits query → (t : ℕ) → t < length query.templates → (choice : Choice) → IsChoice query (slots_of query t) choice
    → FitSlots (template_of query t).slots (pieces_of query (slots_of query t) choice)
template_fit query fits t there choice is =
    let same = slots_of_template query t there in
    subst (λ (ss : List Slot). FitSlots ss (pieces_of query (slots_of query t) choice)) same (pieces_fit query fits (slots_of query t) choice (rw same (known_slots query fits t there)) is)

pub expansion_fragment : (query : QueryView) → QueryFits query → (t : ℕ) → t < length query.templates → (choice : Choice) → IsChoice query (slots_of query t) choice
    → IsFragment (expansion query t choice)
unfolding expansion
expansion_fragment query fits t there choice is =
    joined_fragment (template_of query t) (kept_template query fits t there) (pieces_of query (slots_of query t) choice)
    (all_stand (template_of query t).slots (pieces_of query (slots_of query t) choice) (template_fit query fits t there choice is))
