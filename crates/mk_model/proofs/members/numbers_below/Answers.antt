use Rattle.std.proofs.Common.{ℕ, nat_lt, rules}
use Rattle.std.proofs.lemmas.List.Sorted.{IsPartitionPoint-from_clause, IsPartitionedBy-ltb}
use Rattle.mk_model.proofs.NumbersLemmas.{count_point, rising_order}
use Rattle.mk_model.proofs.members.numbers_below.Goals as goal

pub returns : goal.returns
returns c =
    count_point (λ v. nat_lt v c.args.u) c.args.numbers.now c.partition_point.result c.partition_point.ensures.bound
    (IsPartitionPoint-from_clause (λ (v : ℕ). nat_lt v c.args.u) c.args.numbers.now c.partition_point.result c.partition_point.ensures.partitioned
    (IsPartitionedBy-ltb (λ (v : ℕ). v) c.args.numbers.now c.args.u (rising_order c.args.numbers.now c.requires)) (λ a r f' k. search rules))
