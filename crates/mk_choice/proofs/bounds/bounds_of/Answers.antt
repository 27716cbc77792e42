use Rattle.std.proofs.Common.{refl}
use Rattle.mk_choice.proofs.RowLemmas.{are_bounds, none_at, nothing_said}
use Rattle.mk_choice.proofs.bounds.bounds_of.Goals as goal

pub raise_all-requires : goal.raise_all-requires
raise_all-requires c = record { size = rw (c.in_ok-most.ensures.items_if_clones_equal (λ y e. e)) refl; capped = rw (c.in_ok-most.ensures.items_if_clones_equal (λ y e. e)) (none_at 1024) }

pub returns-then-are_bounds : goal.returns-then-are_bounds
returns-then-are_bounds c = are_bounds c.args.query.now c.raise_all.new.most.items c.raise_all.ensures.size
    c.raise_all.ensures.capped (rw c.deref.ensures.value at (c.if-are_bounds.ensures.bounds refl))

pub returns : goal.returns
returns c = nothing_said c.args.query.now c.say_nothing.new.most.items c.are_bounds.ensures.groups c.say_nothing.ensures.size c.say_nothing.ensures.none
