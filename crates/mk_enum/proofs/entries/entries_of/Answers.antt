use Rattle.std.proofs.Common.{arith}
use Rattle.mk_enum.proofs.EntryLemmas.{entries_all, entries_more}
use Rattle.mk_enum.proofs.entries.entries_of.Goals as goal

pub loop-i-preserved : goal.loop-i-preserved
loop-i-preserved c =
    entries_more c.loop-i.props c.push_entries.new.props c.args.atoms.now c.loop-i.i c.index-atoms-i.result (omega arith) c.loop-i.invariant c.in_ok-push_entries.ensures

pub returns : goal.returns
returns c = entries_all c.loop-i.props c.args.atoms.now c.loop-i.i (omega arith) c.loop-i.invariant
