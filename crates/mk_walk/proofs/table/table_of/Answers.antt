use Rattle.std.proofs.Common.{◌≡◌, ◌+◌, ◌-◌, length, sym, arith}
use Rattle.mk_walk.proofs.TableLemmas.{none_lies}
use Rattle.mk_walk.proofs.table.table_of.Goals as goal

pub push_row-requires-clause-rows : goal.push_row-requires-clause-rows
push_row-requires-clause-rows c =
    let before : c.loop-x.x + 1 - 1 ≡ c.loop-x.x = omega arith in
    rw before c.loop-x.invariant

pub returns-clause-table : goal.returns-clause-table
returns-clause-table c =
    let whole : c.loop-x.x ≡ length c.args.graph.now.atoms = omega (arith, c.atom_count.ensures.count) in
    rw (sym whole) c.loop-x.invariant

pub returns-then-count-eq0-clause-none : goal.returns-then-count-eq0-clause-none
returns-then-count-eq0-clause-none c =
    none_lies c.args.graph.now c.args.mol.now (c.loop-x.x + 1) c.atom_count.ensures.kept c.atoms.ensures.kept (omega arith)
    (omega (arith, c.atom_count.ensures.count)) (c.in_ok-count.ensures.lonely c.if-count-eq0.true)
