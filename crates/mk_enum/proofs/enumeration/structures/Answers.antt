use Rattle.std.proofs.Common.{◌≡◌, ◌+◌, ◌∷◌, ◌++◌, ◌∙◌, [], length, length-append, refl, arith}
use Rattle.mk_enum.proofs.ListedLemmas.{all_listed, full_list, none_yet, one_more}
use Rattle.mk_enum.proofs.enumeration.structures.Goals as goal

pub loop-alloc-init : goal.loop-alloc-init
loop-alloc-init c =
    rw (c.new-codes.ensures.items, c.new-text.ensures.items) (record {
      listed = none_yet c.args.query.now c.args.place.now c.in_ok-left.left c.in_ok-left.ensures.left;
      query = c.in_ok-left.ensures.left.query_is;
      few = omega arith;
    })

pub loop-alloc-preserved : goal.loop-alloc-preserved
loop-alloc-preserved c =
    let invariant = c.loop-alloc.invariant in
    let list = c.loop-alloc.codes.items in
    let code = c.in-Some.code in
    let next = rw c.in-Some.is at c.in_ok-code.ensures.next in
    let long : length (list ++ code ∷ []) ≡ length list + 1 = length-append list (code ∷ []) in
    rw c.in_ok-push.ensures.items (record {
      listed = one_more c.args.query.now c.args.place.now c.loop-alloc.left list c.loop-alloc.text.items invariant.listed c.next_structure.new.left c.next_structure.new.text.items code next;
      query = c.in_ok-code.ensures.query;
      few = omega (arith, long, c.loop-alloc-test.true);
    })

pub returns-in_default : goal.returns-in_default
returns-in_default c =
    let none = rw c.in_default.is at c.in_ok-code.ensures.next in
    all_listed c.args.query.now c.args.place.now c.loop-alloc.left c.loop-alloc.codes.items c.loop-alloc.text.items c.loop-alloc.invariant.listed c.args.limit _ none.0
    (omega (arith, c.loop-alloc-test.true)) c.of.ensures (c.of-in_default.ensures ∙ none.1) (rw c.deref.ensures.value at c.in_ok-behind.ensures) refl

pub returns : goal.returns
returns c =
    full_list c.args.query.now c.args.place.now c.loop-alloc.left c.loop-alloc.codes.items c.loop-alloc.text.items c.loop-alloc.invariant.listed c.args.limit _
    (omega (arith, c.loop-alloc.invariant.few, c.loop-alloc-test.false)) c.of-2.ensures c.of-3.ensures (rw c.deref-2.ensures.value at c.in_ok-behind-2.ensures) refl
