-- What the code reads of slots, and what fills them.
--     goes_on             a list that goes on at a place
--     is_within           a number is no higher than the members are many
--     filled_small, member_small      what fills the sites of a small template is small
--     template_read, slots_read       the template that is read, and its slots
use Rattle.std.proofs.Common.{◌≡◌, ◌∙◌, ℕ, ◌+◌, ◌-◌, ◌<◌, ◌≤◌, List, ◌∷◌, length, get_or, drop, sym, ap, arith}
use Rattle.std.specs.Prelude.{Contains}
use Rattle.std.proofs.lemmas.List.{drop_more, get_or_default, length-drop}
use Rattle.mk_model.specs.declared.template.Slot.{Slot}
use Rattle.mk_model.specs.Expansions.{template_of}
use Rattle.mk_model.specs.Templates.{TemplateView}
use Rattle.mk_model.specs.Queries.{QueryView, slots_of}
use Rattle.mk_model.specs.Labels.{member, members_at}
use Rattle.mk_model.specs.QueryFits.{QueryFits}
use Rattle.mk_model.proofs.ForCallers.{ranked_by_size}
use Rattle.mk_layout.specs.Sites.{MayBeFilledSmall}
use Rattle.mk_pieces.specs.Rooms.{IsSmallTemplate}
use Rattle.mk_pieces.proofs.ForCallers.{labels_known, member_there, slots_are, template_is}

-- ---- the number at a place

-- a list that goes on at a place
pub record GoesOn (code : List ℕ) (at number : ℕ) (rest : List ℕ) : Type 0 where
  pub within : at < length code
  pub number_is : get_or code at 0 ≡ number
  pub rest_is : drop (at + 1) code ≡ rest

pub goes_on : (code : List ℕ) (at number : ℕ) (rest : List ℕ) → number ∷ rest ≡ drop at code → GoesOn code at number rest
goes_on code at number rest is =
    let within : at < length code = omega (arith, ap length is, length-drop at code) in
    let both : number ∷ rest ≡ get_or code at 0 ∷ drop (at + 1) code = is ∙ drop_more code at 0 within in
    record { within = within; number_is = cc; rest_is = cc }

-- ---- members are small

-- a number that is no higher than the count of members
pub is_within : (query : QueryView) (slot : Slot) (count number : ℕ) → count ≡ length (members_at query slot) → number ≤ count → number ≤ length (members_at query slot)
is_within query slot count number is most = omega (arith, is, most)

pub filled_small : (query : QueryView) → QueryFits query → (t : ℕ) → IsSmallTemplate query t → (slot : Slot) → Contains (slots_of query t) slot → MayBeFilledSmall query slot
filled_small query fits t small slot at = record {
  labels = labels_known query fits t small.there slot at;
  members = λ u is.
      (let lower = ranked_by_size query small.size small.adds_up t u (record { slot = slot; at = at; fills = is }) in
      record { there = member_there query slot u is; size = small.size; adds_up = small.adds_up; small = omega (arith, lower, small.small) });
}

-- the member that a number puts in is small
pub member_small : (query : QueryView) (slot : Slot) (k : ℕ) → MayBeFilledSmall query slot → 1 ≤ k → k ≤ length (members_at query slot) → IsSmallTemplate query (member query slot k)
member_small query slot k may least most =
    may.members (member query slot k) (k - 1, omega (arith, least, most), get_or_default (members_at query slot) (k - 1) (member query slot k) 0 (omega (arith, least, most)))

-- ---- what the code reads of a query

-- the template that the code reads
pub template_read : (query : QueryView) (t : ℕ) → t < length query.templates → (templates : List TemplateView) (d : TemplateView) → templates ≡ query.templates → d ≡ get_or templates t d
    → d ≡ template_of query t
template_read query t there templates d same at = at ∙ ap (λ (xs : List TemplateView). get_or xs t d) same ∙ sym (template_is query t d there)

pub slots_read : (query : QueryView) (t : ℕ) → t < length query.templates → (templates : List TemplateView) (d : TemplateView) → templates ≡ query.templates → d ≡ get_or templates t d
    → (slots : List Slot) → slots ≡ d.slots → slots ≡ slots_of query t
slots_read query t there templates d same at slots is = is ∙ ap (λ (p : TemplateView). p.slots) (at ∙ ap (λ (xs : List TemplateView). get_or xs t d) same) ∙ sym (slots_are query t d there)
