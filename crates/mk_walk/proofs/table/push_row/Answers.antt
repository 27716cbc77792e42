use Rattle.std.proofs.Common.{◌≡◌, length, arith}
use Rattle.mk_walk.proofs.TableLemmas.{count_goes_on, count_starts, row_ends, row_goes_on, row_starts}
use Rattle.mk_walk.proofs.table.push_row.Goals as goal

pub loop-m-init : goal.loop-m-init
loop-m-init c = (row_starts c.args.graph.now c.args.mol.now c.args.x c.args.fits.now.items c.requires.rows, count_starts c.args.graph.now c.args.mol.now c.args.x)

pub loop-m-preserved : goal.loop-m-preserved
loop-m-preserved c = (
  rw c.in_ok-push.ensures.items
      (row_goes_on c.args.graph.now c.args.mol.now c.args.x c.loop-m.m c.loop-m.fits.items c.says_at-says.result c.loop-m.invariant.0 c.says_at-says.ensures),
  count_goes_on c.args.graph.now c.args.mol.now c.args.x c.loop-m.m c.loop-m.count c.counted-count.result c.says_at-says.result
      c.loop-m.invariant.1 c.says_at-says.ensures c.counted-count.ensures,
)

pub returns-clause-rows : goal.returns-clause-rows
returns-clause-rows c =
    let whole : c.loop-m.m ≡ length c.args.mol.now.atoms = omega arith in
    row_ends c.args.graph.now c.args.mol.now c.args.x c.loop-m.fits.items c.requires.least (rw whole at c.loop-m.invariant.0)

pub returns-clause-lonely : goal.returns-clause-lonely
returns-clause-lonely c =
    let whole : c.loop-m.m ≡ length c.args.mol.now.atoms = omega arith in
    rw whole at c.loop-m.invariant.1
