use Rattle.std.proofs.Common.{◌≡◌, ◌∙◌, ◌+◌, List, ℕ, arith, sym, ap, get_or, nat_lt, take}
use Rattle.std.specs.Prelude.{count_by}
use Rattle.mk_model.specs.JointMembers.{members_below}
use Rattle.mk_model.specs.Queries.{members_of}
use Rattle.mk_model.proofs.MembersLemmas.{below_more, below_most, below_of_none, members_rise}
use Rattle.mk_model.proofs.query.Query.members_below.Goals as goal

pub loop-g-init : goal.loop-g-init
loop-g-init c = sym (below_of_none c.args.self.now c.args.u)

pub numbers_below-count-requires : goal.numbers_below-count-requires
numbers_below-count-requires c = rw c.members_of.ensures.list (members_rise c.args.self.now c.members_of.ensures.kept _)

-- with the members of one label more
one_more : (c : goal.After-numbers_below-count) → c.loop-g.count + c.numbers_below-count.result ≡ members_below c.args.self.now (take (c.loop-g.g-index + 1) c.args.labels.now) c.args.u
one_more c =
    let more = below_more c.args.self.now c.members_of.ensures.kept c.args.labels.now c.requires c.loop-g.g-index c.args.u (omega arith) in
    let number : c.numbers_below-count.result ≡ count_by (λ v. nat_lt v c.args.u) (members_of c.args.self.now (get_or c.args.labels.now c.loop-g.g-index 0)) =
    c.numbers_below-count.ensures ∙ ap (λ (xs : List ℕ). count_by (λ v. nat_lt v c.args.u) xs) c.members_of.ensures.list in
    omega (arith, c.loop-g.invariant, more, number)

pub loop-g-preserved : goal.loop-g-preserved
loop-g-preserved c = one_more c

pub overflow_add-count : goal.overflow_add-count
overflow_add-count c = omega (arith, one_more c, below_most c.args.self.now (take (c.loop-g.g-index + 1) c.args.labels.now) c.args.u, c.ranges.u)
