-- The open slots: they are known, something can be chosen at them, and it has room.
--     slots_known         the slots of a template are known
--     opened_known        and so are those that a number opens
--     room_left           where a slot is left there is room for a number
--     leaves_more         behind one number more there is room too
--     few_open            at most 512 slots are open
use Rattle.std.proofs.Common.{◌≡◌, ℕ, zero, suc, ◌+◌, ◌<◌, ◌≤◌, Bool, false, cond, List, [], ◌∷◌, ◌++◌, drop, length, get_or, take, length-append, Option, Some, None, refl, ap, subst, arith, All, true}
use Rattle.std.specs.Prelude.{IfSome, slice_get}
use Rattle.std.proofs.lemmas.Bool.Decides.{nat_tests}
use Rattle.std.proofs.lemmas.List.Elements.{All-append}
use Rattle.mk_model.specs.declared.template.Slot.{Slot}
use Rattle.mk_model.specs.declared.template.Slot.TheVariants.{Link, Site}
use Rattle.mk_model.specs.Templates.{TemplateView}
use Rattle.mk_model.specs.Queries.{QueryView, slots_of}
use Rattle.mk_model.specs.Labels.{is_filled_by, member, members_at}
use Rattle.mk_model.specs.QueryFits.{QueryFits, HasRisingLabels, IsInRange, IsSlotOf}
use Rattle.mk_model.specs.OpenSlots.{most_at, opened, Chooses}
use Rattle.mk_model.proofs.ForCallers.{all_at, at_place}
use Rattle.mk_model.specs.declared.query.Count.{Count}
use Rattle.mk_choice.specs.Frames.{most_first}
use Rattle.mk_choice.specs.Search.{AreCounts, IsKnown, LeavesRoom, MayStand}

-- ---- known slots

slot_known : (template : TemplateView) (slot : Slot) → IsSlotOf template slot → MayStand slot
slot_known template (Link atom most from to) is = omega (arith, is.1.twice)
slot_known template (Site atom groups first second) is = tt

-- no slots
none_known : All IsKnown []
none_known = λ k d below. absurd (omega arith)

-- the slots of a template
pub slots_known : (query : QueryView) → QueryFits query → (t : ℕ) → All IsKnown (slots_of query t)
slots_known query fits t = by_template (slice_get query.templates t) refl
  where
    by_template : (o : Option TemplateView) → slice_get query.templates t ≡ o → All IsKnown (slots_of query t)
    by_template None e = rw e none_known
    by_template (Some template) e =
        let in_range : IsInRange template = all_at IsInRange query.templates t template fits.in_range.templates e in
        let rising : HasRisingLabels template = all_at HasRisingLabels query.templates t template fits.labels_rise e in
        rw e (λ k d below. record { labels = rising k d below; stands = slot_known template (get_or template.slots k d) (in_range.slots k d below) })

-- the slots of a template at its place
pub slots_at : (query : QueryView) (t : ℕ) (d : TemplateView) → t < length query.templates → slots_of query t ≡ (get_or query.templates t d).slots
slots_at query t d below = rw (at_place query.templates t d below) refl

-- those that a number opens
pub opened_known : (query : QueryView) → QueryFits query → (slot : Slot) (k : ℕ) → All IsKnown (opened query slot k)
opened_known query fits (Link atom most from to) k = none_known
opened_known query fits (Site atom groups first second) k = by_test (is_filled_by query (Site atom groups first second) k)
  where
    by_test : (b : Bool) → All IsKnown (cond b (slots_of query (member query (Site atom groups first second) k)) [])
    by_test true = slots_known query fits (member query (Site atom groups first second) k)
    by_test false = none_known

-- the first of some, and the others
pub known_first : (slot : Slot) (slots : List Slot) → All IsKnown (slot ∷ slots) → IsKnown slot
known_first slot slots known = known 0 slot (omega arith)

pub known_others : (slot : Slot) (slots : List Slot) → All IsKnown (slot ∷ slots) → All IsKnown slots
known_others slot slots known = λ k d below. known (suc k) d (omega arith)

-- where all from a place on are known, the one at the place is
pub known_dropped : (slots : List Slot) (i : ℕ) → All IsKnown (drop i slots) → IfSome (slice_get slots i) IsKnown
known_dropped [] i known = tt
known_dropped (slot ∷ slots) zero known = known_first slot slots known
known_dropped (slot ∷ slots) (suc i) known = known_dropped slots i known

pub known_at : (slots : List Slot) (i : ℕ) (slot : Slot) → All IsKnown (drop i slots) → slice_get slots i ≡ Some slot → IsKnown slot
known_at slots i slot known is = (let here = known_dropped slots i known in subst (λ (one : Option Slot). IfSome one IsKnown) is here)

-- the greatest number at the first of them
pub most_is : (query : QueryView) (slots : List Slot) (i : ℕ) (slot : Slot) → slice_get slots i ≡ Some slot → most_first query (drop i slots) ≡ most_at query slot
most_is query [] i slot is = absurd cc
most_is query (first ∷ slots) zero slot is = (let same : first ≡ slot = cc in ap (most_at query) same)
most_is query (first ∷ slots) (suc i) slot is = most_is query slots i slot is

-- where the first n are known, each of them is
pub known_taken : (slots : List Slot) (n i : ℕ) → i < n → All IsKnown (take n slots) → IfSome (slice_get slots i) IsKnown
known_taken [] n i below known = tt
known_taken (slot ∷ slots) zero i below known = absurd (omega (arith, below))
known_taken (slot ∷ slots) (suc n) zero below known = known_first slot (take n slots) known
known_taken (slot ∷ slots) (suc n) (suc i) below known = known_taken slots n i (omega (arith, below)) (known_others slot (take n slots) known)

-- what a number opens, in front of the others
pub known_next : (slot : Slot) (slots inside : List Slot) → All IsKnown inside → All IsKnown (slot ∷ slots) → All IsKnown (inside ++ slots)
known_next slot slots inside opens known = All-append IsKnown inside slots opens (known_others slot slots known)

-- ---- something can be chosen

-- the greatest number at a site opens nothing
opens_none : (query : QueryView) (slot : Slot) → is_filled_by query slot (length (members_at query slot) + 1) ≡ false
opens_none query slot = grind (arith, nat_tests)

pub some_code : (query : QueryView) (slots : List Slot) → All IsKnown slots → (code : List ℕ) × Chooses query slots code
some_code query [] known = ([], tt)
some_code query (Link atom most from to ∷ slots) known =
    let others = some_code query slots (known_others _ slots known) in
    (1 ∷ others.0, (omega arith, (known_first (Link atom most from to) slots known).stands, others.1))
some_code query (Site atom groups first second ∷ slots) known =
    let others = some_code query slots (known_others _ slots known) in
    ((length ((members_at query (Site atom groups first second))) + 1) ∷ others.0, (omega arith, omega arith, rw (opens_none query (Site atom groups first second)) others.1))

-- ---- room

-- where nothing is left, there was room for all
pub room_enough : (query : QueryView) (k : ℕ) → LeavesRoom query [] k → k ≤ 512
room_enough query k leaves = omega (arith, leaves [] tt)

-- where a slot is left there is room for a number
pub room_left : (query : QueryView) (slot : Slot) (slots : List Slot) (k : ℕ) → All IsKnown (slot ∷ slots) → LeavesRoom query (slot ∷ slots) k → k < 512
room_left query slot slots k known leaves = (let code = some_code query (slot ∷ slots) known in by_code code.0 code.1)
  where
    by_code : (code : List ℕ) → Chooses query (slot ∷ slots) code → k < 512
    by_code [] chooses = absurd chooses
    by_code (number ∷ code) chooses = omega (arith, leaves (number ∷ code) chooses)

-- behind one number more there is room too
pub leaves_more : (query : QueryView) (slot : Slot) (slots : List Slot) (k number : ℕ) → 1 ≤ number
    → number ≤ most_at query slot → LeavesRoom query (slot ∷ slots) k
    → LeavesRoom query (opened query slot number ++ slots) (k + 1)
leaves_more query slot slots k number least most leaves others chooses = omega (arith, leaves (number ∷ others) (least, most, chooses))

-- counts that are at most so many are at most more
pub counts_grow : (k n : ℕ) (counts : List Count) → k ≤ n → AreCounts k counts → AreCounts n counts
counts_grow k n counts more are = record {
  all = are.all;
  few = λ i d below. (let few = are.few i d below in (omega (arith, more, few.0), omega (arith, more, few.1)));
}

-- whatever is open, so many numbers have room
pub room_any : (query : QueryView) (slots : List Slot) (k : ℕ) → All IsKnown slots → LeavesRoom query slots k → k ≤ 512
room_any query slots k known leaves = (let code = some_code query slots known in omega (arith, leaves code.0 code.1))

-- ---- how many slots are open

-- each slot takes a number
pub a_number_each : (query : QueryView) (slots : List Slot) (code : List ℕ) → Chooses query slots code → length slots ≤ length code
a_number_each query [] code chooses = omega arith
a_number_each query (slot ∷ slots) [] chooses = absurd chooses
a_number_each query (slot ∷ slots) (k ∷ code) chooses =
    omega (arith, a_number_each query (opened query slot k ++ slots) code chooses.2, length-append (opened query slot k) slots)

-- so no more slots are open than there is room
pub few_open : (query : QueryView) (slots : List Slot) (k : ℕ) → All IsKnown slots → LeavesRoom query slots k → length slots ≤ 512
few_open query slots k known leaves =
    let code = some_code query slots known in
    omega (arith, leaves code.0 code.1, a_number_each query slots code.0 code.1)
