-- How far the numbers of a front go at some slots, and where the slots of the root stand in a code.
--     number_there                 the number that is read
--     passes_one, passes_member    one slot
--     passes_none, passes_more, passes_all     slot after slot
--     labels_at                    the labels of each slot rise
--     left_is, front_written       how many slots a front leaves open, and its code
--     Places                       the places of the first k slots, and that of the next
--     places_none, places_next, place_few, places_more, places_all
use Rattle.std.proofs.Common.{◌≡◌, ◌≢◌, ◌∙◌, ℕ, zero, suc, ◌+◌, ◌-◌, ◌<◌, ◌≤◌, ◌⊎◌, inl, inr, List, [], ◌∷◌, ◌++◌, length, get_or, replicate, take, drop, refl, sym, ap, subst, arith, append_assoc}
use Rattle.std.proofs.Math.Seq.{drop-append_seam, take-append_seam}
use Rattle.std.proofs.lemmas.List.{append-nil, drop_more, get_or_append_left, get_or_default, get_or_push, length-append, length-replicate, length_push, take_all, take_more}
use Rattle.std.proofs.lemmas.Bool.{cases_eq}
use Rattle.mk_model.specs.declared.template.Slot.{Slot}
use Rattle.mk_model.specs.declared.template.Slot.TheVariants.{Link, Site}
use Rattle.mk_model.specs.Codes.{Choice, IsChoice, IsCode, spelling}
use Rattle.mk_model.specs.Codes.Choice.{done, repeated, unfilled, filled}
use Rattle.mk_model.specs.Labels.{member, members_at, site_labels}
use Rattle.mk_model.specs.Queries.{QueryView, slots_of}
use Rattle.mk_model.specs.QueryFits.{AreRisingLabels, QueryFits}
use Rattle.mk_model.proofs.ForCallers.{chooses_of, code_is_short}
use Rattle.mk_pieces.proofs.ForCallers.{labels_known}
use Rattle.mk_layout.proofs.SlotLemmas.{goes_on}
use Rattle.mk_open_codes.specs.Alone.{ArePlaces, IsPlaceOf}
use Rattle.mk_open_codes.specs.Fronts.{IsFrontCode, front_code}
use Rattle.mk_expand.specs.OpenCodes.{IsOpenChoice, IsOpenCode, OpenChoice, decided, open_spelling}
use Rattle.mk_expand.specs.OpenCodes.OpenChoice.{no_more, undecided, repeats, vacates, fills}
use Rattle.mk_open_codes.specs.Passing.{HasOpenCode, PassesBy}
use Rattle.mk_expand.proofs.SlotLemmas.{nothing_more}
use Rattle.mk_open_codes.proofs.SplitLemmas.{first_made, first_more, first_of, rest_made, rest_of, split_spelt}
use Rattle.mk_expand.proofs.OneChoiceLemmas.{decided_made, decided_spelt, open_split}

-- ---- the number at a place

-- behind a front stands 0
behind_front : (front : List ℕ) (left at : ℕ) → get_or (front_code front left) at 0 ≡ get_or front at 0
behind_front [] zero at = refl
behind_front [] (suc left) zero = refl
behind_front [] (suc left) (suc at) = behind_front [] left at
behind_front (x ∷ front) left zero = refl
behind_front (x ∷ front) left (suc at) = behind_front front left at

-- the number that is read is that with which the front goes on
number_there : (front : List ℕ) (left at x : ℕ) (rest : List ℕ) → x ∷ rest ≡ drop at (front_code front left) → get_or front at 0 ≡ x
number_there front left at x rest is = sym (behind_front front left at) ∙ (goes_on (front_code front left) at x rest is).number_is

-- ---- one slot

-- the numbers of no slot
no_numbers : (query : QueryView) (others : OpenChoice) → IsOpenChoice query [] others → length (open_spelling others) ≡ 0
no_numbers query others is = ap (λ (o : OpenChoice). length (open_spelling o)) (nothing_more query others is)

-- a slot that no member fills has one number
pub passes_one : (query : QueryView) (slot : Slot) (front : List ℕ) (at : ℕ) → (get_or front at 0 ≡ 0) ⊎ (length (members_at query slot) < get_or front at 0)
    → PassesBy query (slot ∷ []) front at (at + 1)
passes_one query (Link atom most from to) front at none left (undecided others) rest is spelt = omega (arith, no_numbers query others is)
passes_one query (Link atom most from to) front at none left no_more rest is spelt = absurd is
passes_one query (Link atom most from to) front at none left (repeats n others) rest is spelt = omega (arith, no_numbers query others is.2)
passes_one query (Link atom most from to) front at none left (vacates n others) rest is spelt = absurd is
passes_one query (Link atom most from to) front at none left (fills k inside others) rest is spelt = absurd is
passes_one query (Site atom groups first second) front at none left (undecided others) rest is spelt = omega (arith, no_numbers query others is)
passes_one query (Site atom groups first second) front at none left no_more rest is spelt = absurd is
passes_one query (Site atom groups first second) front at none left (repeats n others) rest is spelt = absurd is
passes_one query (Site atom groups first second) front at none left (vacates n others) rest is spelt = omega (arith, no_numbers query others is.1)
passes_one query (Site atom groups first second) front at none left (fills k inside others) rest is spelt =
    absurd (never none)
  where
    number : get_or front at 0 ≡ k
    number = number_there front left at k _ spelt

    never : (get_or front at 0 ≡ 0) ⊎ (length (members_at query (Site atom groups first second)) < get_or front at 0) → ⊥
    never (inl nothing) = omega (arith, number, nothing, is.0)
    never (inr above) = omega (arith, number, above, is.1)

-- a site that a member fills has the numbers inside it, too
pub passes_member : (query : QueryView) (slot : Slot) (front : List ℕ) (at next : ℕ) → get_or front at 0 ≢ 0 → get_or front at 0 ≤ length (members_at query slot)
    → PassesBy query (slots_of query (member query slot (get_or front at 0))) front (at + 1) next → PassesBy query (slot ∷ []) front at next
passes_member query (Link atom most from to) front at next some within passes left choice rest is spelt = absurd (some (omega (arith, within)))
passes_member query (Site atom groups first second) front at next some within passes left no_more rest is spelt = absurd is
passes_member query (Site atom groups first second) front at next some within passes left (undecided others) rest is spelt = absurd (some (number_there front left at 0 _ spelt))
passes_member query (Site atom groups first second) front at next some within passes left (repeats n others) rest is spelt = absurd is
passes_member query (Site atom groups first second) front at next some within passes left (vacates n others) rest is spelt =
    absurd (omega (arith, number_there front left at n _ spelt, within, is.0))
passes_member query (Site atom groups first second) front at next some within passes left (fills k inside others) rest is spelt =
    let number = number_there front left at k _ spelt in
    let on = goes_on (front_code front left) at k ((open_spelling inside ++ open_spelling others) ++ rest) spelt in
    let made : IsOpenChoice query (slots_of query (member query (Site atom groups first second) (get_or front at 0))) inside = rw number is.2 in
    let its : open_spelling inside ++ (open_spelling others ++ rest) ≡ drop (at + 1) (front_code front left) =
    sym (append_assoc (open_spelling inside) (open_spelling others) rest) ∙ sym on.rest_is in
    let last = passes left inside (open_spelling others ++ rest) made its in
    omega (arith, last, length-append (open_spelling inside) (open_spelling others), no_numbers query others is.3)

-- ---- slot after slot

pub passes_none : (query : QueryView) (front : List ℕ) (at : ℕ) → PassesBy query [] front at at
passes_none query front at left choice rest is spelt = omega (arith, no_numbers query choice is)

drop_none : (m : ℕ) → drop {A = ℕ} m [] ≡ []
drop_none zero = refl
drop_none (suc m) = refl

drop_drop : (n m : ℕ) (zs : List ℕ) → drop m (drop n zs) ≡ drop (n + m) zs
drop_drop zero m zs = (let same : m ≡ 0 + m = omega arith in ap (λ (k : ℕ). drop k zs) same)
drop_drop (suc n) m [] = drop_none m ∙ sym (drop_none (suc n + m))
drop_drop (suc n) m (z ∷ zs) = (let same : suc (n + m) ≡ suc n + m = omega arith in drop_drop n m zs ∙ ap (λ (k : ℕ). drop k (z ∷ zs)) same)

-- what stands behind some numbers
drop_behind : (xs ys whole : List ℕ) (at : ℕ) → xs ++ ys ≡ drop at whole → ys ≡ drop (at + length xs) whole
drop_behind xs ys whole at is = sym (drop-append_seam xs ys) ∙ ap (drop (length xs)) is ∙ drop_drop at (length xs) whole

-- some slots and one behind them
passes_both : (query : QueryView) (slots others : List Slot) (front : List ℕ) (at next end : ℕ) → PassesBy query slots front at next → PassesBy query others front next end
    → PassesBy query (slots ++ others) front at end
passes_both query slots others front at next end passes behind left choice rest is spelt =
    let split = open_split query slots others choice is in
    let whole : open_spelling split.first ++ (open_spelling split.second ++ rest) ≡ drop at (front_code front left) =
    sym (append_assoc (open_spelling split.first) (open_spelling split.second) rest) ∙ ap (λ (xs : List ℕ). xs ++ rest) (sym split.spelt) ∙ spelt in
    let here = passes left split.first (open_spelling split.second ++ rest) split.first_made whole in
    let on : open_spelling split.second ++ rest ≡ drop next (front_code front left) =
    drop_behind (open_spelling split.first) (open_spelling split.second ++ rest) (front_code front left) at whole ∙ ap (λ (n : ℕ). drop n (front_code front left)) (sym here) in
    let last = behind left split.second rest split.second_made on in
    omega (arith, here, last, ap length split.spelt, length-append (open_spelling split.first) (open_spelling split.second))

pub passes_more : (query : QueryView) (slots : List Slot) (k : ℕ) (front : List ℕ) (at next end : ℕ) → k < length slots → PassesBy query (take k slots) front at next
    → PassesBy query (get_or slots k (Link 0 0 0 0) ∷ []) front next end → PassesBy query (take (k + 1) slots) front at end
passes_more query slots k front at next end below passes behind =
    rw (take_more slots k (Link 0 0 0 0) below) (passes_both query (take k slots) (get_or slots k (Link 0 0 0 0) ∷ []) front at next end passes behind)

pub passes_all : (query : QueryView) (slots : List Slot) (k : ℕ) (front : List ℕ) (at next : ℕ) → length slots ≤ k → PassesBy query (take k slots) front at next → PassesBy query slots front at next
passes_all query slots k front at next past passes = rw (take_all k slots past) at passes

-- the labels of a slot rise
pub labels_at : (query : QueryView) → QueryFits query → (t : ℕ) → t < length query.templates → (k : ℕ) → k < length (slots_of query t)
    → AreRisingLabels (site_labels (get_or (slots_of query t) k (Link 0 0 0 0)))
labels_at query fits t there k below =
    labels_known query fits t there (get_or (slots_of query t) k (Link 0 0 0 0)) (k, below, get_or_default (slots_of query t) k _ _ below)

-- ---- how many slots a front leaves open

pub left_is : (query : QueryView) (front : List ℕ) (end : ℕ) (found : HasOpenCode query front) → PassesBy query (slots_of query 0) front 0 end → end ≡ length front + found.left
left_is query front end found passes =
    let last = passes found.left found.is.choice [] found.is.made (append-nil (open_spelling found.is.choice) ∙ found.is.spelt) in
    omega (arith, last, ap length found.is.spelt, length-append front (replicate found.left 0), length-replicate {A = ℕ} found.left 0)

-- the front, and 0 up to the last place
pub front_written : (query : QueryView) (front : List ℕ) (found : HasOpenCode query front) (end : ℕ) → PassesBy query (slots_of query 0) front 0 end → (code : List ℕ)
    → code ≡ front ++ replicate (end - length front) 0 → IsFrontCode query front code
front_written query front found end passes code is =
    let same : end - length front ≡ found.left = omega (arith, left_is query front end found passes) in
    let spelt : code ≡ front_code front found.left = is ∙ ap (λ (n : ℕ). front ++ replicate n 0) same in
    record { left = found.left; spelt = spelt; is = subst (IsOpenCode query 0) (sym spelt) found.is }

-- ---- the slots of the root in a code

-- a code of the root has at most 512 numbers
code_few : (query : QueryView) → QueryFits query → (code : List ℕ) → IsCode query 0 code → length code ≤ 512
code_few query fits code is = code_is_short query fits.small_root.size fits.small_root.adds_up fits.small_root.small code (chooses_of query 0 code is)

-- the places of the first k slots, and that at which the number of the next stands
pub record Places (query : QueryView) (code : List ℕ) (k : ℕ) (places : List ℕ) (at : ℕ) : Type 0 where
  pub whole : IsCode query 0 code
  pub size : length places ≡ k
  pub each : (s : ℕ) → s < k → (get_or places s 0 < length code) × IsPlaceOf query s (take (get_or places s 0) code)
  pub next : at ≡ length (spelling (first_of k whole.choice))

pub places_none : (query : QueryView) (code : List ℕ) → IsCode query 0 code → Places query code 0 [] 0
places_none query code is = record { whole = is; size = refl; each = λ s below. absurd (omega (arith, below)); next = refl }

module _ (query : QueryView) (code : List ℕ) (k : ℕ) (places : List ℕ) (at : ℕ) (so : Places query code k places at) (below : k < length (slots_of query 0)) where
  abbrev first : List ℕ
  first = spelling (first_of k so.whole.choice)

  abbrev rest : List ℕ
  rest = spelling (rest_of k so.whole.choice)

  code_is : first ++ rest ≡ code
  code_is = split_spelt k so.whole.choice ∙ so.whole.spelt

  abbrev slot : Slot
  slot = get_or (slots_of query 0) k (Link 0 0 0 0)

  behind_made : IsChoice query (slot ∷ drop (k + 1) (slots_of query 0)) (rest_of k so.whole.choice)
  behind_made = rw (drop_more (slots_of query 0) k (Link 0 0 0 0) below) at (rest_made query k (slots_of query 0) so.whole.choice so.whole.made)

  -- a choice at a slot and others has a number
  some : (slot : Slot) (slots : List Slot) (choice : Choice) → IsChoice query (slot ∷ slots) choice → 1 ≤ length (spelling choice)
  some (Link atom most from to) slots done is = absurd is
  some (Site atom groups first second) slots done is = absurd is
  some slot slots (repeated n others) is = omega arith
  some slot slots (unfilled n others) is = omega arith
  some slot slots (filled n inside others) is = omega arith

  -- the next place is one of the code
  pub places_next : at < length code
  places_next =
      omega (arith, so.next, some slot (drop (k + 1) (slots_of query 0)) (rest_of k so.whole.choice) behind_made, ap length code_is, length-append first rest)

  -- and so it is small
  pub place_few : QueryFits query → at < 513
  place_few fits = omega (arith, places_next, code_few query fits code so.whole)

  place_of : IsPlaceOf query k (take at code)
  place_of = record {
    choice = first_of k so.whole.choice;
    made = first_made query k (slots_of query 0) so.whole.choice so.whole.made;
    spelt = sym (take-append_seam first rest) ∙ ap (λ (n : ℕ). take n (first ++ rest)) (sym so.next) ∙ ap (take at) code_is;
  }

  pub places_more : (end : ℕ) → PassesBy query (slot ∷ []) code at end → Places query code (k + 1) (places ++ at ∷ []) end
  places_more end passes = record {
    whole = so.whole;
    size = length_push places at ∙ ap (λ (n : ℕ). n + 1) so.size;
    each = λ s within.
        elim (cases_eq s k) [
          | inl here ↦ (let is : get_or (places ++ at ∷ []) s 0 ≡ at = get_or_push places at 0 s (so.size ∙ sym here) in
              rw (is, here) (places_next, place_of))
          | inr other ↦ (let early : s < length places = omega (arith, so.size, within, other) in
              rw (get_or_append_left places (at ∷ []) 0 s early) (so.each s (omega (arith, early, so.size))))
        ];
    next = ends;
  }
    where
      one : Choice
      one = first_of 1 (rest_of k so.whole.choice)

      one_made : IsChoice query (slot ∷ []) one
      one_made = first_made query 1 (slot ∷ drop (k + 1) (slots_of query 0)) (rest_of k so.whole.choice) behind_made

      others : List ℕ
      others = spelling (rest_of 1 (rest_of k so.whole.choice))

      from_there : open_spelling (decided one) ++ others ≡ drop at (front_code code 0)
      from_there =
          ap (λ (xs : List ℕ). xs ++ others) (decided_spelt one) ∙ split_spelt 1 (rest_of k so.whole.choice) ∙ sym (drop-append_seam first rest)
          ∙ ap (λ (n : ℕ). drop n (first ++ rest)) (sym so.next) ∙ ap (drop at) (code_is ∙ sym (append-nil code))

      longer : length (spelling (first_of (k + 1) so.whole.choice)) ≡ length first + length (spelling one)
      longer =
          (let same : k + 1 ≡ suc k = omega arith in
          ap (λ (n : ℕ). length (spelling (first_of n so.whole.choice))) same ∙ ap length (first_more k so.whole.choice) ∙ length-append first (spelling one))

      ends : end ≡ length (spelling (first_of (k + 1) so.whole.choice))
      ends =
          (let last = passes 0 (decided one) others (decided_made query (slot ∷ []) one one_made) from_there in
          omega (arith, last, ap length (decided_spelt one), so.next, longer))

pub places_all : (query : QueryView) (code : List ℕ) (k : ℕ) (places : List ℕ) (at : ℕ) → Places query code k places at → k ≡ length (slots_of query 0) → ArePlaces query code places
places_all query code k places at so all = record {
  size = so.size ∙ all;
  each = λ s below. so.each s (omega (arith, below, so.size));
}
