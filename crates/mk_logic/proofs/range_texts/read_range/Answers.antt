use Rattle.std.proofs.Common.{◌≡◌, ◌<◌, ◌+◌, ◌∙◌, ℕ, eqb, List, [], ◌∷◌, ◌++◌, Option, Some, None, length, take, drop, arith, sym, ap, refl}
use Rattle.std.specs.List.{before_first, position_or_len, slice_split}
use Rattle.mk_text.proofs.ForCallers.{read_behind}
use Rattle.mk_model.specs.declared.group.Interval.{Interval}
use Rattle.mk_logic.specs.RangeTexts.{above}
use Rattle.mk_logic.specs.RangeReading.{items_of, range_item, range_of}
use Rattle.mk_logic.proofs.RangeTextsLemmas.{items_none, items_more, items_last, items_fail, range_is_all, range_is_items, found_is_range, none_is_range}
use Rattle.mk_logic.proofs.range_texts.read_range.Goals as goal

pub returns-then-is_blank-clause-value : goal.returns-then-is_blank-clause-value
returns-then-is_blank-clause-value c =
    let all = range_is_all c.args.text.now (sym c.is_blank.ensures ∙ c.if-is_blank.true) in
    let items : c.push.new.self ≡ above 0 ∷ [] = c.in_ok-push.ensures.ok ∙ rw (c.new-range.ensures, c.above.ensures) refl in
    ap Some items ∙ sym all

pub items-init : goal.items-init
items-init c =
    let other = range_is_items c.args.text.now (sym c.is_blank.ensures ∙ c.if-is_blank.false) in
    rw c.new-range.ensures (items_none (items_of (slice_split (λ b. eqb b 44) c.args.text.now)) ∙ sym other)

-- the item at the place of the first comma
part_is : (rest : List ℕ) (place : ℕ) (item : Option Interval) → place ≡ position_or_len (λ b. eqb b 44) rest → item ≡ range_item (take place rest)
    → range_item (before_first (λ b. eqb b 44) rest) ≡ item
part_is rest place item at is = ap (λ i. range_item (take i rest)) (sym at) ∙ sym is

pub returns-in-None-clause-value : goal.returns-in-None-clause-value
returns-in-None-clause-value c =
    let none = part_is c.items.rest.now c.place_of-end.result None c.place_of-end.ensures.place c.in-None.ensures in
    sym (items_fail c.items.range c.items.rest.now (range_of c.args.text.now) none c.items.invariant)

pub returns-in-None-clause-none : goal.returns-in-None-clause-none
returns-in-None-clause-none c =
    let none = part_is c.items.rest.now c.place_of-end.result None c.place_of-end.ensures.place c.in-None.ensures in
    none_is_range c.args.text.now None (sym (items_fail c.items.range c.items.rest.now (range_of c.args.text.now) none c.items.invariant))

-- the last item
last_read : (range new : List Interval) (rest : List ℕ) (place : ℕ) (item : Interval) (all : Option (List Interval))
    → place ≡ position_or_len (λ b. eqb b 44) rest → Some item ≡ range_item (take place rest)
    → place ≡ length rest → new ≡ range ++ item ∷ [] → read_behind range (items_of (slice_split (λ b. eqb b 44) rest)) ≡ all → Some new ≡ all
last_read range new rest place item all at is end pushed so_far =
    ap Some pushed ∙ sym (items_last range item rest all (omega (arith, at, end)) (part_is rest place (Some item) at is) so_far)

pub returns-then-end-rest-clause-value : goal.returns-then-end-rest-clause-value
returns-then-end-rest-clause-value c =
    last_read c.items.range c.push-in-Some.new.self c.items.rest.now c.place_of-end.result c.in-Some.interval
    (range_of c.args.text.now) c.place_of-end.ensures.place c.in-Some.ensures c.if-end-rest.true
    c.in_ok-push-in-Some.ensures.ok c.items.invariant

pub returns-then-end-rest-clause-range : goal.returns-then-end-rest-clause-range
returns-then-end-rest-clause-range c =
    found_is_range c.args.text.now (Some c.push-in-Some.new.self)
    (last_read c.items.range c.push-in-Some.new.self c.items.rest.now c.place_of-end.result c.in-Some.interval
    (range_of c.args.text.now) c.place_of-end.ensures.place c.in-Some.ensures c.if-end-rest.true
    c.in_ok-push-in-Some.ensures.ok c.items.invariant)

-- one more item
more_read : (range new : List Interval) (rest left : List ℕ) (place : ℕ) (item : Interval)
    (all : Option (List Interval)) → place ≡ position_or_len (λ b. eqb b 44) rest
    → Some item ≡ range_item (take place rest)
    → place < length rest → new ≡ range ++ item ∷ [] → left ≡ drop (place + 1) rest → read_behind range (items_of (slice_split (λ b. eqb b 44) rest)) ≡ all
    → read_behind new (items_of (slice_split (λ b. eqb b 44) left)) ≡ all
more_read range new rest left place item all at is within pushed behind so_far =
    rw (pushed, behind, at) (items_more range item rest all (omega (arith, at, within)) (part_is rest place (Some item) at is) so_far)

pub items-preserved : goal.items-preserved
items-preserved c =
    let within : c.place_of-end.result < length c.items.rest.now = omega (arith, c.place_of-end.ensures.within, c.if-end-rest.false) in
    more_read c.items.range c.push-in-Some.new.self c.items.rest.now c.behind-rest.result.now c.place_of-end.result
    c.in-Some.interval (range_of c.args.text.now) c.place_of-end.ensures.place c.in-Some.ensures within
    c.in_ok-push-in-Some.ensures.ok c.behind-rest.ensures c.items.invariant
