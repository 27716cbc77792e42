use Rattle.std.proofs.Common.{◌≡◌, ◌∙◌, List, ap, nat_lt, rules, subst}
use Rattle.std.proofs.lemmas.List.Sorted.{IsPartitionPoint-from_clause, IsPartitionedBy-ltb}
use Rattle.mk_rows.specs.declared.by_number.Numbered.{Numbered}
use Rattle.mk_rows.specs.Rows.{place_of}
use Rattle.mk_rows.proofs.RowsLemmas.{place_found, rising_order}
use Rattle.mk_rows.proofs.by_number.ByNumber.place.Goals as goal

pub returns-clause-place : goal.returns-clause-place
returns-clause-place g c =
    let shown : c.deref.result.now ≡ c.args.self.now.rows = c.deref.ensures.value ∙ ap (λ m. m.rows) c.self.view_is in
    let rows = c.deref.result.now in
    let test = λ (row : Numbered g.row.T.Denot). nat_lt row.number c.args.number in
    subst (λ (xs : List (Numbered g.row.T.Denot)). c.partition_point.result ≡ place_of c.args.number xs) shown
    (place_found c.args.number c.deref.result.now c.partition_point.result c.partition_point.ensures.bound
    (IsPartitionPoint-from_clause (λ (row : Numbered g.row.T.Denot). nat_lt row.number c.args.number) c.deref.result.now c.partition_point.result c.partition_point.ensures.partitioned
    (IsPartitionedBy-ltb (λ (row : Numbered g.row.T.Denot). row.number) c.deref.result.now c.args.number
    (rising_order c.deref.result.now (rw c.deref.ensures.value c.self.invariant))) (λ a r f' k. search rules)))
