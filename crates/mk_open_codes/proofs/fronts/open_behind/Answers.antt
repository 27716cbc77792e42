use Rattle.std.proofs.Common.{◌∙◌, ◌++◌, ℕ, List, ap, arith}
use Rattle.mk_open_codes.proofs.PassingLemmas.{front_written, left_is}
use Rattle.mk_open_codes.proofs.fronts.open_behind.Goals as goal

pub overflow_sub-end : goal.overflow_sub-end
overflow_sub-end c = omega (arith, left_is c.args.query.now c.args.front.now _ c.requires c.in_ok-end.ensures.passes)

pub returns : goal.returns
returns c =
    let front = c.args.front.now in
    front_written c.args.query.now front c.requires _ c.in_ok-end.ensures.passes _
    (c.in_ok-extend_from_slice-2.ensures.items ∙ ap (λ (xs : List ℕ). xs ++ c.deref.result.now) (c.in_ok-extend_from_slice.ensures.items ∙ ap (λ (xs : List ℕ). xs ++ front) c.in_ok-code.ensures.items)
    ∙ ap (λ (xs : List ℕ). front ++ xs) (c.deref.ensures.value ∙ c.in_ok-others.ensures.items_if_clones_equal (λ y e. e)))
