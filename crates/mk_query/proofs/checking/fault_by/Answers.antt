use Rattle.std.proofs.Common.{[], List, Option, arith}
use Rattle.std.proofs.lemmas.Result.{IfOk-weaker}
use Rattle.mk_rgfile.specs.declared.raw_query.RawGroup.{RawGroup}
use Rattle.mk_query.specs.declared.checking.Fault.{Fault}
use Rattle.mk_query.specs.FirstFault.{query_bonds, query_properties, FindsFirst, PassesBelow}
use Rattle.mk_query.specs.Marks.{AreServed}
use Rattle.mk_query.proofs.FaultLemmas.{found_below, passed_below}
use Rattle.mk_query.proofs.LabelMarkLemmas.{known_by_properties}
use Rattle.mk_query.proofs.checking.fault_by.Goals as goal

pub returns-in-Some : goal.returns-in-Some
returns-in-Some c = λ groups are. found_below groups c.args.is_root c.args.notes.now.table.now 4 c.in_ok-fault.field-0 c.in-Some.fault c.in-Some.is (c.in_ok-fault.ensures groups c.args.is_root)

pub returns-in-Some-2 : goal.returns-in-Some-2
returns-in-Some-2 c = λ groups are.
    let lines = passed_below groups c.args.is_root c.args.notes.now.table.now 4 c.in_ok-fault.field-0 c.in_default.is (c.in_ok-fault.ensures groups c.args.is_root) in
    found_below groups c.args.is_root c.args.notes.now.table.now 8 c.in_ok-fault-2.field-0 c.in-Some-2.fault c.in-Some-2.is (c.in_ok-fault-2.ensures groups c.args.is_root are lines)

pub fault_of_sites-requires-clause-labels : goal.fault_of_sites-requires-clause-labels
fault_of_sites-requires-clause-labels c =
    let lines = passed_below [] c.args.is_root c.args.notes.now.table.now 4 c.in_ok-fault.field-0 c.in_default.is (c.in_ok-fault.ensures [] c.args.is_root) in
    known_by_properties c.args.notes.now.table.now (lines query_properties (omega arith))

pub fault_of_slots-requires-clause-bonds : goal.fault_of_slots-requires-clause-bonds
fault_of_slots-requires-clause-bonds c =
    let lines = passed_below [] c.args.is_root c.args.notes.now.table.now 4 c.in_ok-fault.field-0 c.in_default.is (c.in_ok-fault.ensures [] c.args.is_root) in
    lines query_bonds (omega arith)

pub returns : goal.returns
returns c =
    IfOk-weaker c.fault_of_slots.result
    (λ (found : Option Fault). (groups : List RawGroup) → PassesBelow groups c.args.is_root c.args.notes.now.table.now 8 → FindsFirst groups c.args.is_root c.args.notes.now.table.now found)
    (λ (found : Option Fault). (groups : List RawGroup) → AreServed groups c.args.served.now → FindsFirst groups c.args.is_root c.args.notes.now.table.now found)
    (λ found finds groups are.
    let lines = passed_below groups c.args.is_root c.args.notes.now.table.now 4 c.in_ok-fault.field-0 c.in_default.is (c.in_ok-fault.ensures groups c.args.is_root) in
    let sites = passed_below groups c.args.is_root c.args.notes.now.table.now 8 c.in_ok-fault-2.field-0 c.in_default-2.is (c.in_ok-fault-2.ensures groups c.args.is_root are lines) in
    finds groups sites) c.fault_of_slots.ensures
