-- There is room for what a template becomes.
--     template_size       a code and the atoms of its expansion have no more numbers together than the template's size
--     pieces_room         so there is room where the size is at most 512
--     have_room           by a choice
use Rattle.std.proofs.Common.{◌≡◌, ◌∙◌, ℕ, zero, suc, ◌+◌, ◌*◌, ◌<◌, ◌≤◌, Bool, true, false, cond, ◌||◌, eqb, List, [], ◌∷◌, Some, length, get_or, refl, sym, ap, subst, arith, inl, inr, sum_by}
use Rattle.std.specs.Prelude.{count_by, slice_get}
use Rattle.std.specs.List.{range_with_len}
use Rattle.std.proofs.Math.Nat.{mul-le-mul_right}
use Rattle.std.proofs.lemmas.Bool.{cases_eq, cases_lt}
use Rattle.std.proofs.lemmas.Bool.Decides.{nat_tests}
use Rattle.std.proofs.lemmas.List.{get_or_default, get_or_past, length-append}
use Rattle.std.proofs.lemmas.List.Sums.{sum_by-cons}
use Rattle.mk_model.specs.Pieces.{Piece}
use Rattle.mk_model.specs.Pieces.Piece.{Copies, Member, Hydrogens, Nothing}
use Rattle.mk_model.specs.declared.template.Slot.{Slot}
use Rattle.mk_model.specs.declared.template.Slot.TheVariants.{Link, Site}
use Rattle.mk_model.specs.Codes.{Choice, IsChoice, spelling}
use Rattle.mk_model.specs.Codes.Choice.{done, repeated, unfilled, filled}
use Rattle.mk_model.specs.Labels.{draws_rest_hydrogens}
use Rattle.mk_model.specs.Expansions.{joined, left_open, template_of, pieces_of}
use Rattle.mk_model.specs.Pieces.{piece, room, width}
use Rattle.mk_model.specs.Templates.{TemplateView, bonds_without, hang_together, is_in_block, slot_atom}
use Rattle.mk_model.specs.Pieces.{Fragment}
use Rattle.mk_model.specs.Queries.{QueryView, slots_of}
use Rattle.mk_model.specs.Labels.{member, members_at}
use Rattle.mk_model.specs.QueryFits.{QueryFits}
use Rattle.mk_model.specs.Sizes.{IsSizing, atom_numbers, size_of_slot, takes_atom}
use Rattle.mk_model.proofs.ForCallers.{hangs_same, hangs_tested}
use Rattle.mk_model.proofs.ForCallers.{greatest_contains}
use Rattle.mk_pieces.specs.Rooms.{HaveRoom, IsSmall, IsSmallTemplate}
use Rattle.mk_pieces.specs.Fragments.{IsFragment}
use Rattle.mk_pieces.proofs.ChoiceFits.{AreKnownSlots, chosen_there, kept_template, known_slots, template_at, slots_of_template, template_fit}
use Rattle.mk_pieces.proofs.JoinedLemmas.{length_atoms, slot_piece}
use Rattle.mk_pieces.proofs.SpanLemmas.{room_of, room_within}
use Rattle.mk_pieces.proofs.PieceLemmas.{FitsSlot, MayAllStand, MayStand, all_stand, fit_length, neighbours, stand_at, stand_length}
use Rattle.mk_pieces.proofs.TemplateLemmas.{slots_stand}
use Rattle.mk_pieces.proofs.WidthLemmas.{room_caps, room_sum, taken_room}

-- ---- how many atoms a slot takes

-- 1 where it is so
abbrev one_if : Bool → ℕ
one_if b = cond b 1 0

-- a link takes the atoms of its block
link_takes : (template : TemplateView) (atom most from to x : ℕ) → takes_atom template x (Link atom most from to) ≡ is_in_block template (Link atom most from to) x
link_takes template atom most from to x = by (eqb atom x) refl
  where
    by : (b : Bool) → eqb atom x ≡ b → (b || is_in_block template (Link atom most from to) x) ≡ is_in_block template (Link atom most from to) x
    by false e = refl
    by true e =
        let same : atom ≡ x = grind (arith, nat_tests) in
        let own : hang_together (bonds_without (Link atom most from to) template.bonds) atom atom ≡ true = hangs_tested _ atom atom (hangs_same _ atom) in
        sym (subst (λ (y : ℕ). is_in_block template (Link atom most from to) y ≡ true) same own)

pub count_link : (template : TemplateView) (atom most from to : ℕ) (xs : List ℕ)
    → count_by (λ x. takes_atom template x (Link atom most from to)) xs ≡ count_by (is_in_block template (Link atom most from to)) xs
count_link template atom most from to [] = refl
count_link template atom most from to (x ∷ xs) =
    let rest = count_link template atom most from to xs in
    let here : one_if (takes_atom template x (Link atom most from to)) ≡ one_if (is_in_block template (Link atom most from to) x) = ap one_if (link_takes template atom most from to x) in
    omega (
      arith,
      rest,
      here,
      sum_by-cons (λ (y : ℕ). cond (takes_atom template y (Link atom most from to)) 1 0) x xs,
      sum_by-cons
          (λ (y : ℕ). cond (is_in_block template (Link atom most from to) y) 1 0) x xs,
    )

-- a site takes its own atom alone
count_none : (atom k n : ℕ) → atom < k → count_by (λ x. eqb atom x || false) (range_with_len k n) ≡ 0
count_none atom k zero below = refl
count_none atom k (suc n) below =
    let rest = count_none atom (k + 1) n (omega arith) in
    let other : eqb atom k ≡ false = grind (arith, nat_tests) in
    let here : one_if (eqb atom k || false) ≡ 0 = rw other refl in
    omega (arith, rest, here, sum_by-cons (λ (y : ℕ). cond (eqb atom y || false) 1 0) k (range_with_len (k + 1) n))

pub count_once : (atom k n : ℕ) → count_by (λ x. eqb atom x || false) (range_with_len k n) ≤ 1
count_once atom k zero = omega arith
count_once atom k (suc n) =
    elim (cases_eq atom k) [
      | inl same ↦
          (let rest = count_none atom (k + 1) n (omega arith) in
          let here : one_if (eqb atom k || false) ≤ 1 = grind arith in
          omega (arith, rest, here, sum_by-cons (λ (y : ℕ). cond (eqb atom y || false) 1 0) k (range_with_len (k + 1) n)))
      | inr other ↦
          (let rest = count_once atom (k + 1) n in
          let no : eqb atom k ≡ false = grind (arith, nat_tests) in
          let here : one_if (eqb atom k || false) ≡ 0 = rw no refl in
          omega (arith, rest, here, sum_by-cons (λ (y : ℕ). cond (eqb atom y || false) 1 0) k (range_with_len (k + 1) n)))
    ]

pub times_once : (w c : ℕ) → c ≤ 1 → w * c ≤ w
times_once w zero once = omega arith
times_once w (suc c) once = (let none : c ≡ 0 = omega arith in rw none (omega arith))

-- ---- sizes

pub open_width : (query : QueryView) (atom : ℕ) (groups : List ℕ) (first second : ℕ) → width (left_open query (Site atom groups first second)) ≤ neighbours second
open_width query atom groups first second = by (draws_rest_hydrogens query (Site atom groups first second))
  where
    by : (b : Bool) → width (cond b (Hydrogens (neighbours second)) Nothing) ≤ neighbours second
    by true = omega arith
    by false = omega arith

-- what a template becomes by a choice has room, where its slots do
pub by_slots : (query : QueryView) (size : ℕ → ℕ) → IsSizing query size → (t : ℕ) (template : TemplateView) → slice_get query.templates t ≡ Some template → (pieces : List Piece)
    → length pieces ≡ length template.slots → (code : ℕ)
    → code + taken_room template template.slots pieces (atom_numbers template) ≤ sum_by (size_of_slot query size template) template.slots
    → code + room template pieces (length template.atoms) ≤ size t
by_slots query size adds t template at pieces fit code small =
    omega (arith, adds t template at, room_sum template pieces (length template.atoms), room_caps template pieces (atom_numbers template) fit)

atoms_room : (template : TemplateView) (pieces : List Piece) → width (Member (joined template pieces)) ≡ room template pieces (length template.atoms)
unfolding joined
atoms_room template pieces = length_atoms template pieces (length template.atoms)

slots_size : (query : QueryView) → QueryFits query → (size : ℕ → ℕ) → IsSizing query size → (template : TemplateView) (slots : List Slot) (choice : Choice) → AreKnownSlots query slots
    → IsChoice query slots choice
    → length (spelling choice) + taken_room template slots (pieces_of query slots choice) (atom_numbers template) ≤ sum_by (size_of_slot query size template) slots
unfolding pieces_of
slots_size query fits size adds template [] done known is = omega arith
slots_size query fits size adds template [] (repeated n others) known is = absurd is
slots_size query fits size adds template [] (unfilled n others) known is = absurd is
slots_size query fits size adds template [] (filled k inside others) known is = absurd is
slots_size query fits size adds template (Link atom most from to ∷ slots) done known is = absurd is
slots_size query fits size adds template (Link atom most from to ∷ slots) (repeated n others) known is =
    let rest = slots_size query fits size adds template slots others known.1 is.2 in
    let count = count_link template atom most from to (atom_numbers template) in
    let times : n * count_by (λ x. takes_atom template x (Link atom most from to)) (atom_numbers template) ≤ most * count_by (is_in_block template (Link atom most from to)) (atom_numbers template) =
    rw count (mul-le-mul_right (count_by (is_in_block template (Link atom most from to)) (atom_numbers template)) is.1) in
    omega (arith, rest, times, sum_by-cons (size_of_slot query size template) (Link atom most from to) slots)
slots_size query fits size adds template (Link atom most from to ∷ slots) (unfilled n others) known is = absurd is
slots_size query fits size adds template (Link atom most from to ∷ slots) (filled k inside others) known is = absurd is
slots_size query fits size adds template (Site atom groups first second ∷ slots) done known is = absurd is
slots_size query fits size adds template (Site atom groups first second ∷ slots) (repeated n others) known is = absurd is
slots_size query fits size adds template (Site atom groups first second ∷ slots) (unfilled n others) known is =
    let rest = slots_size query fits size adds template slots others known.1 is.1 in
    let wide = open_width query atom groups first second in
    let times = times_once (width (left_open query (Site atom groups first second))) (count_by (λ x. takes_atom template x (Site atom groups first second)) (atom_numbers template))
    (count_once atom 1 (length template.atoms)) in
    omega (arith, rest, wide, times, sum_by-cons (size_of_slot query size template) (Site atom groups first second) slots)
slots_size query fits size adds template (Site atom groups first second ∷ slots) (filled k inside others) known is =
    let u = member query (Site atom groups first second) k in
    let there = chosen_there query (Site atom groups first second) k is.0 is.1 in
    let inner = template_of query u in
    let same = slots_of_template query u there.0 in
    let pieces = pieces_of query (slots_of query u) inside in
    let one = slots_size query fits size adds inner (slots_of query u) inside (rw same (known_slots query fits u there.0)) is.2 in
    let one' : length (spelling inside) + taken_room inner inner.slots pieces (atom_numbers inner) ≤ sum_by (size_of_slot query size inner) inner.slots =
    subst (λ (ss : List Slot). length (spelling inside) + taken_room inner ss pieces (atom_numbers inner) ≤ sum_by (size_of_slot query size inner) ss) same one in
    let whole = by_slots query size adds u inner (template_at query u there.0) pieces (fit_length inner.slots pieces (template_fit query fits u there.0 inside is.2)) (length (spelling inside)) one' in
    let great = greatest_contains size (members_at query (Site atom groups first second)) u there.1 in
    let atoms : width (Member (joined inner pieces)) ≡ room inner pieces (length inner.atoms) = atoms_room inner pieces in
    let rest = slots_size query fits size adds template slots others known.1 is.3 in
    let times = times_once (width (Member (joined inner pieces))) (count_by (λ x. takes_atom template x (Site atom groups first second)) (atom_numbers template))
    (count_once atom 1 (length template.atoms)) in
    omega (arith, rest, whole, great, atoms, times, length-append (spelling inside) (spelling others), sum_by-cons (size_of_slot query size template) (Site atom groups first second) slots)

-- a code and the atoms of its expansion have together no more numbers than the template's size
pub template_size : (query : QueryView) → QueryFits query → (size : ℕ → ℕ) → IsSizing query size → (t : ℕ) → t < length query.templates → (choice : Choice) → IsChoice query (slots_of query t) choice
    → length (spelling choice) + room (template_of query t) (pieces_of query (slots_of query t) choice) (length (template_of query t).atoms) ≤ size t
template_size query fits size adds t there choice is =
    let template = template_of query t in
    let same = slots_of_template query t there in
    let pieces = pieces_of query (slots_of query t) choice in
    let one = slots_size query fits size adds template (slots_of query t) choice (rw same (known_slots query fits t there)) is in
    let one' : length (spelling choice) + taken_room template template.slots pieces (atom_numbers template) ≤ sum_by (size_of_slot query size template) template.slots =
    subst (λ (ss : List Slot). length (spelling choice) + taken_room template ss pieces (atom_numbers template) ≤ sum_by (size_of_slot query size template) ss) same one in
    by_slots query size adds t template (template_at query t there) pieces (fit_length template.slots pieces (template_fit query fits t there choice is)) (length (spelling choice)) one'

-- ---- room

slots_count : (query : QueryView) (size : ℕ → ℕ) (template : TemplateView) (slots : List Slot) → length slots ≤ sum_by (size_of_slot query size template) slots
slots_count query size template [] = omega arith
slots_count query size template (slot ∷ slots) = omega (arith, slots_count query size template slots, some slot, sum_by-cons (size_of_slot query size template) slot slots)
  where
    some : (s : Slot) → 1 ≤ size_of_slot query size template s
    some (Link atom most from to) = omega arith
    some (Site atom groups first second) = omega arith

-- a piece that fits its slot and isn't wide is small
point_small : (part : Fragment) → IsFragment part → length part.atoms ≤ 512 → (i : ℕ) → get_or part.points i 0 ≤ 512
point_small part fragment wide i = elim (cases_lt i (length part.points)) [
  | inl inside ↦ omega (arith, fragment.points i 0 inside)
  | inr past ↦ (let none : get_or part.points i 0 ≡ 0 = get_or_past part.points i 0 past in omega (arith, none))
]

small_piece : (slot : Slot) (p : Piece) → FitsSlot slot p → width p ≤ 512 → IsSmall p
small_piece (Link atom most from to) (Copies n) fit wide = record { bonds = tt; width = wide; ends = ends }
  where
    ends : (far : Bool) → cond far n 1 ≤ 512
    ends true = wide
    ends false = omega arith
small_piece (Link atom most from to) (Member part) fit wide = absurd fit
small_piece (Link atom most from to) (Hydrogens n) fit wide = absurd fit
small_piece (Link atom most from to) Nothing fit wide = absurd fit
small_piece (Site atom groups first second) (Copies n) fit wide = absurd fit
small_piece (Site atom groups first second) (Member part) fit wide = record {
  bonds = λ k d below. (let ends = fit.0.ends k d below in (omega (arith, ends.less, ends.most), omega (arith, ends.most)));
  width = wide;
  ends = λ far. point_small part fit.0 wide (cond far 1 0);
}
small_piece (Site atom groups first second) (Hydrogens n) fit wide = record { bonds = tt; width = wide; ends = ends }
  where
    ends : (far : Bool) → cond far 2 1 ≤ 512
    ends true = omega arith
    ends false = omega arith
small_piece (Site atom groups first second) Nothing fit wide = record { bonds = tt; width = wide; ends = λ far. omega arith }

small_standing : (slot : Slot) (p : Piece) → MayStand slot p → width p ≤ 512 → IsSmall p
small_standing slot p (inl none) wide = subst IsSmall (sym none) (record { bonds = tt; width = omega arith; ends = λ far. omega arith })
small_standing slot p (inr fit) wide = small_piece slot p fit wide

-- there is room for what a template becomes, where it is no more than the template's size
pub pieces_room : (query : QueryView) → QueryFits query → (t : ℕ) → (small : IsSmallTemplate query t) → (pieces : List Piece) → MayAllStand (template_of query t).slots pieces
    → room (template_of query t) pieces (length (template_of query t).atoms) ≤ small.size t → HaveRoom (template_of query t) pieces
pieces_room query fits t small pieces stand whole =
    let template = template_of query t in
    let kept = kept_template query fits t small.there in
    let long = stand_length template.slots pieces stand in
    let total : room template pieces (length template.atoms) ≤ 512 = omega (arith, whole, small.small) in
    record {
      size = long;
      few = omega (arith, slots_count query small.size template template.slots, small.adds_up t template (template_at query t small.there), small.small);
      small = λ k d below.
          let slot = get_or template.slots k (Link 0 0 0 0) in
          let inside : k < length template.slots = omega arith in
          let stands = slots_stand template kept k (Link 0 0 0 0) inside in
          let here : piece template pieces (slot_atom slot) ≡ get_or pieces k d = slot_piece template kept pieces k inside ∙ get_or_default pieces k (Copies 1) d below in
          let up = room_within template pieces (slot_atom slot) (length template.atoms) stands.1 in
          let wide : width (get_or pieces k d) ≤ 512 = omega (arith, ap width here, room_of template pieces (slot_atom slot) stands.0, total) in
          small_standing slot (get_or pieces k d) (stand_at template.slots pieces k (Link 0 0 0 0) d inside stand) wide;
      room = total;
    }

pub have_room : (query : QueryView) → QueryFits query → (t : ℕ) → IsSmallTemplate query t → (choice : Choice) → IsChoice query (slots_of query t) choice
    → HaveRoom (template_of query t) (pieces_of query (slots_of query t) choice)
have_room query fits t small choice made =
    let whole = template_size query fits small.size small.adds_up t small.there choice made in
    pieces_room query fits t small (pieces_of query (slots_of query t) choice)
    (all_stand (template_of query t).slots (pieces_of query (slots_of query t) choice) (template_fit query fits t small.there choice made)) (omega (arith, whole))
