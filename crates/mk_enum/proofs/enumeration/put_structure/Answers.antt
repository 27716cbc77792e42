use Rattle.std.proofs.Common.{refl}
use Rattle.mk_enum.proofs.NextLemmas.{is_put, none_there}
use Rattle.mk_enum.proofs.SpeltLemmas.{can_be_spelt}
use Rattle.mk_enum.proofs.enumeration.put_structure.Goals as goal

pub returns-then-not-writable : goal.returns-then-not-writable
returns-then-not-writable c =
    (none_there c.args.query.now c.args.code.now c.in_ok-graph.graph c.in_ok-graph.ensures (λ is. absurd (cc (c.writable.ensures.1 is, c.if-not-writable.true))), refl)

pub put_text-requires : goal.put_text-requires
put_text-requires c =
    can_be_spelt c.in_ok-graph.graph c.in_ok-graph.ensures.kept (c.writable.ensures.0 c.if-not-writable.false) c.in_ok-table.table c.in_ok-table.ensures

pub returns : goal.returns
returns c =
    is_put c.args.query.now c.args.code.now c.in_ok-graph.graph c.in_ok-table.table c.args.text.now.items c.put_text.new.out.items c.requires c.in_ok-graph.ensures
    (c.writable.ensures.0 c.if-not-writable.false) c.in_ok-table.ensures c.in_ok-put_text.ensures
