-- What slots become by an open choice may stand there, has room, and makes a fragment.
--     opened_fragment     what a template becomes is a fragment
--     open_stand          what slots become by an open choice may stand there
--     open_room           and has room
--     open_fragment       what the root becomes is a fragment of at most 512 atoms
use Rattle.std.proofs.Common.{◌≡◌, ◌∙◌, ℕ, zero, suc, ◌+◌, ◌-◌, ◌*◌, ◌<◌, ◌≤◌, inl, inr, List, [], ◌∷◌, length, get_or, refl, sym, subst, arith, All, sum_by}
use Rattle.std.specs.Prelude.{count_by}
use Rattle.std.proofs.Math.Nat.{mul-le-mul_right}
use Rattle.std.proofs.lemmas.List.Elements.{All-append, All-nil, All-replicate}
use Rattle.std.proofs.lemmas.List.Sums.{sum_by-cons}
use Rattle.mk_model.specs.declared.graph.GraphAtom.{GraphAtom}
use Rattle.mk_model.specs.declared.template.Slot.{Slot}
use Rattle.mk_model.specs.declared.template.Slot.TheVariants.{Link, Site}
use Rattle.mk_model.specs.Expansions.{anything, hydrogen, joined, left_open, template_of}
use Rattle.mk_model.specs.Labels.{draws_rest_hydrogens, member, members_at}
use Rattle.mk_model.specs.Pieces.{Fragment, Piece, room, width}
use Rattle.mk_model.specs.Pieces.Piece.{Member}
use Rattle.mk_model.specs.Queries.{QueryView, slots_of}
use Rattle.mk_model.specs.QueryFits.{QueryFits}
use Rattle.mk_model.specs.Sizes.{IsSizing, atom_numbers, size_of_slot, takes_atom}
use Rattle.mk_model.specs.Templates.{TemplateView, is_in_block}
use Rattle.mk_model.specs.Tests.{IsTestInRange}
use Rattle.mk_model.proofs.ForCallers.{greatest_contains}
use Rattle.mk_pieces.specs.Fragments.{IsFragment, IsLowerFirst}
use Rattle.mk_pieces.specs.Kept.{IsTemplate}
use Rattle.mk_pieces.specs.Rooms.{HaveRoom, IsSmallTemplate}
use Rattle.mk_pieces.proofs.ChoiceFits.{AreKnownSlots, chosen_there, kept_template, known_slots, open_fits, points_length, slots_of_template, template_at}
use Rattle.mk_pieces.proofs.GraphLemmas.{root_small}
use Rattle.mk_pieces.proofs.JoinedLemmas.{hydrogen_in_range, joined_fragment, length_atoms, of_piece}
use Rattle.mk_pieces.proofs.PieceLemmas.{MayAllStand, stand_length}
use Rattle.mk_pieces.proofs.RoomLemmas.{by_slots, count_link, count_once, open_width, pieces_room, times_once}
use Rattle.mk_pieces.proofs.WidthLemmas.{taken_room}
use Rattle.mk_expand.specs.OpenCodes.{IsOpenChoice, OpenChoice}
use Rattle.mk_expand.specs.OpenCodes.OpenChoice.{no_more, undecided, repeats, vacates, fills}
use Rattle.mk_expand.specs.OpenGraphs.{bare_atoms, bare_atoms_of, loosened, open_expansion, open_pieces, opened}
use Rattle.mk_expand.proofs.OpenedLemmas.{bare_more, bare_none, bare_size, loosened_size}

-- ---- a fragment

-- how many atoms a template has become
pub opened_size : (template : TemplateView) (pieces : List Piece) → length (opened template pieces).atoms ≡ room template pieces (length template.atoms)
unfolding opened
opened_size template pieces = loosened_size template pieces 1 (bare_atoms_of template pieces (length template.atoms)) ∙ bare_size template pieces (length template.atoms)

pub joined_size : (template : TemplateView) (pieces : List Piece) → length (joined template pieces).atoms ≡ room template pieces (length template.atoms)
unfolding joined
joined_size template pieces = length_atoms template pieces (length template.atoms)

loosened_tests : (template : TemplateView) (pieces : List Piece) (p : ℕ) (xs : List GraphAtom) → All (λ (atom : GraphAtom). IsTestInRange atom.test) xs
    → All (λ (atom : GraphAtom). IsTestInRange atom.test) (loosened template pieces p xs)
loosened_tests template pieces p [] all k d below = absurd (omega arith)
loosened_tests template pieces p (x ∷ xs) all zero d below = all 0 d (omega arith)
loosened_tests template pieces p (x ∷ xs) all (suc k) d below = loosened_tests template pieces (p + 1) xs (λ i e less. all (suc i) e (omega arith)) k d (omega arith)

-- the tests of the atoms of a template's pieces
module _ (template : TemplateView) (kept : IsTemplate template) (pieces : List Piece) (stand : MayAllStand template.slots pieces) where
  bare_tests : (n : ℕ) → n ≤ length template.atoms → All (λ (atom : GraphAtom). IsTestInRange atom.test) (bare_atoms_of template pieces n)
  bare_tests zero up_to = rw bare_none (All-nil (λ (atom : GraphAtom). IsTestInRange atom.test))
  bare_tests (suc n) up_to =
      let next : suc n ≡ n + 1 = omega arith in
      let own : IsTestInRange (get_or template.atoms (n + 1 - 1) anything) = kept.tests (n + 1 - 1) anything (omega arith) in
      let here = of_piece template kept pieces stand (λ p. All (λ (atom : GraphAtom). IsTestInRange atom.test) (bare_atoms template (n + 1) p))
      (λ m. All-replicate (λ (atom : GraphAtom). IsTestInRange atom.test) m (record { test = get_or template.atoms (n + 1 - 1) anything; free = 0 }) own) (λ part is. is.tests)
      (λ m. All-replicate (λ (atom : GraphAtom). IsTestInRange atom.test) m hydrogen hydrogen_in_range) (All-nil (λ (atom : GraphAtom). IsTestInRange atom.test)) (n + 1) in
      rw (next, bare_more) (All-append (λ (atom : GraphAtom). IsTestInRange atom.test) (bare_atoms_of template pieces n) _ (bare_tests n (omega arith)) here)

-- what a template becomes is a fragment
pub opened_fragment : (template : TemplateView) → IsTemplate template → (pieces : List Piece) → MayAllStand template.slots pieces → IsFragment (opened template pieces)
unfolding opened
opened_fragment template kept pieces stand =
    let whole = joined_fragment template kept pieces stand in
    let long : length (joined template pieces).atoms ≡ length (opened template pieces).atoms = joined_size template pieces ∙ sym (opened_size template pieces) in
    record {
      tests = loosened_tests template pieces 1 (bare_atoms_of template pieces (length template.atoms)) (bare_tests template kept pieces stand (length template.atoms) (omega arith));
      bond_tests = whole.bond_tests;
      ends = subst (λ (n : ℕ). All (IsLowerFirst n) (joined template pieces).bonds) long whole.ends;
      apart = whole.apart;
      points = subst (λ (n : ℕ). All (λ x. (1 ≤ x) × (x ≤ n)) (joined template pieces).points) long whole.points;
    }

opened_points : (template : TemplateView) (pieces : List Piece) → length (opened template pieces).points ≡ length template.points
unfolding opened
opened_points template pieces = points_length template pieces

-- ---- slots

-- what slots become by an open choice may stand there
pub open_stand : (query : QueryView) → QueryFits query → (slots : List Slot) (choice : OpenChoice) → AreKnownSlots query slots → IsOpenChoice query slots choice
    → MayAllStand slots (open_pieces query slots choice)
unfolding open_pieces
open_stand query fits [] no_more known is = tt
open_stand query fits [] (undecided others) known is = absurd is
open_stand query fits [] (repeats n others) known is = absurd is
open_stand query fits [] (vacates n others) known is = absurd is
open_stand query fits [] (fills k inside others) known is = absurd is
open_stand query fits (slot ∷ slots) (undecided others) known is = (inl refl, open_stand query fits slots others known.1 is)
open_stand query fits (Link atom most from to ∷ slots) no_more known is = absurd is
open_stand query fits (Link atom most from to ∷ slots) (repeats n others) known is = (inr (is.0, is.1), open_stand query fits slots others known.1 is.2)
open_stand query fits (Link atom most from to ∷ slots) (vacates n others) known is = absurd is
open_stand query fits (Link atom most from to ∷ slots) (fills k inside others) known is = absurd is
open_stand query fits (Site atom groups first second ∷ slots) no_more known is = absurd is
open_stand query fits (Site atom groups first second ∷ slots) (repeats n others) known is = absurd is
open_stand query fits (Site atom groups first second ∷ slots) (vacates n others) known is =
    (inr (open_fits atom groups first second (draws_rest_hydrogens query (Site atom groups first second))), open_stand query fits slots others known.1 is.1)
open_stand query fits (Site atom groups first second ∷ slots) (fills k inside others) known is =
    let u = member query (Site atom groups first second) k in
    let there = chosen_there query (Site atom groups first second) k is.0 is.1 in
    let template = template_of query u in
    let same = slots_of_template query u there.0 in
    let pieces = open_pieces query (slots_of query u) inside in
    let inner = open_stand query fits (slots_of query u) inside (rw same (known_slots query fits u there.0)) is.2 in
    let inner' : MayAllStand template.slots pieces = subst (λ (ss : List Slot). MayAllStand ss pieces) same inner in (
      inr (opened_fragment template (kept_template query fits u there.0) pieces inner', opened_points template pieces ∙ known.0 u template there.1 (template_at query u there.0)),
      open_stand query fits slots others known.1 is.3,
    )

-- of a template
pub template_stand : (query : QueryView) → QueryFits query → (t : ℕ) → t < length query.templates → (choice : OpenChoice) → IsOpenChoice query (slots_of query t) choice
    → MayAllStand (template_of query t).slots (open_pieces query (slots_of query t) choice)
template_stand query fits t there choice is =
    let same = slots_of_template query t there in
    subst (λ (ss : List Slot). MayAllStand ss (open_pieces query (slots_of query t) choice)) same (open_stand query fits (slots_of query t) choice (rw same (known_slots query fits t there)) is)

-- ---- room

open_size : (query : QueryView) → QueryFits query → (size : ℕ → ℕ) → IsSizing query size → (template : TemplateView) (slots : List Slot) (choice : OpenChoice) → AreKnownSlots query slots
    → IsOpenChoice query slots choice → taken_room template slots (open_pieces query slots choice) (atom_numbers template) ≤ sum_by (size_of_slot query size template) slots
unfolding open_pieces
open_size query fits size adds template [] no_more known is = omega arith
open_size query fits size adds template [] (undecided others) known is = absurd is
open_size query fits size adds template [] (repeats n others) known is = absurd is
open_size query fits size adds template [] (vacates n others) known is = absurd is
open_size query fits size adds template [] (fills k inside others) known is = absurd is
open_size query fits size adds template (slot ∷ slots) (undecided others) known is =
    omega (arith, open_size query fits size adds template slots others known.1 is, sum_by-cons (size_of_slot query size template) slot slots)
open_size query fits size adds template (Link atom most from to ∷ slots) no_more known is = absurd is
open_size query fits size adds template (Link atom most from to ∷ slots) (repeats n others) known is =
    let rest = open_size query fits size adds template slots others known.1 is.2 in
    let count = count_link template atom most from to (atom_numbers template) in
    let times : n * count_by (λ x. takes_atom template x (Link atom most from to)) (atom_numbers template) ≤ most * count_by (is_in_block template (Link atom most from to)) (atom_numbers template) =
    rw count (mul-le-mul_right (count_by (is_in_block template (Link atom most from to)) (atom_numbers template)) is.1) in
    omega (arith, rest, times, sum_by-cons (size_of_slot query size template) (Link atom most from to) slots)
open_size query fits size adds template (Link atom most from to ∷ slots) (vacates n others) known is = absurd is
open_size query fits size adds template (Link atom most from to ∷ slots) (fills k inside others) known is = absurd is
open_size query fits size adds template (Site atom groups first second ∷ slots) no_more known is = absurd is
open_size query fits size adds template (Site atom groups first second ∷ slots) (repeats n others) known is = absurd is
open_size query fits size adds template (Site atom groups first second ∷ slots) (vacates n others) known is =
    let rest = open_size query fits size adds template slots others known.1 is.1 in
    let wide = open_width query atom groups first second in
    let times = times_once (width (left_open query (Site atom groups first second))) (count_by (λ x. takes_atom template x (Site atom groups first second)) (atom_numbers template))
    (count_once atom 1 (length template.atoms)) in
    omega (arith, rest, wide, times, sum_by-cons (size_of_slot query size template) (Site atom groups first second) slots)
open_size query fits size adds template (Site atom groups first second ∷ slots) (fills k inside others) known is =
    let u = member query (Site atom groups first second) k in
    let there = chosen_there query (Site atom groups first second) k is.0 is.1 in
    let inner = template_of query u in
    let same = slots_of_template query u there.0 in
    let pieces = open_pieces query (slots_of query u) inside in
    let one = open_size query fits size adds inner (slots_of query u) inside (rw same (known_slots query fits u there.0)) is.2 in
    let one' : taken_room inner inner.slots pieces (atom_numbers inner) ≤ sum_by (size_of_slot query size inner) inner.slots =
    subst (λ (ss : List Slot). taken_room inner ss pieces (atom_numbers inner) ≤ sum_by (size_of_slot query size inner) ss) same one in
    let whole = by_slots query size adds u inner (template_at query u there.0) pieces (stand_length inner.slots pieces (template_stand query fits u there.0 inside is.2)) 0 (omega (arith, one')) in
    let great = greatest_contains size (members_at query (Site atom groups first second)) u there.1 in
    let atoms : width (Member (opened inner pieces)) ≡ room inner pieces (length inner.atoms) = opened_size inner pieces in
    let rest = open_size query fits size adds template slots others known.1 is.3 in
    let times = times_once (width (Member (opened inner pieces))) (count_by (λ x. takes_atom template x (Site atom groups first second)) (atom_numbers template))
    (count_once atom 1 (length template.atoms)) in
    omega (arith, rest, whole, great, atoms, times, sum_by-cons (size_of_slot query size template) (Site atom groups first second) slots)

-- what a template becomes has no more atoms than its size
template_room : (query : QueryView) → QueryFits query → (t : ℕ) → (small : IsSmallTemplate query t) → (choice : OpenChoice) → IsOpenChoice query (slots_of query t) choice
    → room (template_of query t) (open_pieces query (slots_of query t) choice) (length (template_of query t).atoms) ≤ small.size t
template_room query fits t small choice is =
    let template = template_of query t in
    let same = slots_of_template query t small.there in
    let pieces = open_pieces query (slots_of query t) choice in
    let one = open_size query fits small.size small.adds_up template (slots_of query t) choice (rw same (known_slots query fits t small.there)) is in
    let one' : taken_room template template.slots pieces (atom_numbers template) ≤ sum_by (size_of_slot query small.size template) template.slots =
    subst (λ (ss : List Slot). taken_room template ss pieces (atom_numbers template) ≤ sum_by (size_of_slot query small.size template) ss) same one in
    let whole = by_slots query small.size small.adds_up t template (template_at query t small.there) pieces
    (stand_length template.slots pieces (template_stand query fits t small.there choice is)) 0 (omega (arith, one')) in
    omega (arith, whole)

-- what slots become by an open choice has room
pub open_room : (query : QueryView) → QueryFits query → (t : ℕ) → IsSmallTemplate query t → (choice : OpenChoice) → IsOpenChoice query (slots_of query t) choice
    → HaveRoom (template_of query t) (open_pieces query (slots_of query t) choice)
open_room query fits t small choice is =
    pieces_room query fits t small (open_pieces query (slots_of query t) choice) (template_stand query fits t small.there choice is) (template_room query fits t small choice is)

-- ---- the root

pub record IsSmallPart (part : Fragment) : Type 0 where
  pub fragment : IsFragment part
  pub few : length part.atoms ≤ 512

-- what the root becomes by an open choice is a fragment of at most 512 atoms
pub open_fragment : (query : QueryView) → QueryFits query → (choice : OpenChoice) → IsOpenChoice query (slots_of query 0) choice → IsSmallPart (open_expansion query 0 choice)
unfolding open_expansion
open_fragment query fits choice is =
    let small = root_small query fits in
    let pieces = open_pieces query (slots_of query 0) choice in
    record {
      fragment = opened_fragment (template_of query 0) (kept_template query fits 0 small.there) pieces (template_stand query fits 0 small.there choice is);
      few = omega (arith, opened_size (template_of query 0) pieces, template_room query fits 0 small choice is, small.small);
    }
