use Rattle.std.proofs.lemmas.List.{get_or_default}
use Rattle.mk_text.specs.Lines.{ended}
use Rattle.mk_spelling.specs.TableSpelling.{bond_line}
use Rattle.mk_spelling.proofs.AppendLemmas.{all_written, one_more}
use Rattle.mk_spelling.proofs.writing.put_bonds.Goals as goal

pub loop-bond-preserved : goal.loop-bond-preserved
loop-bond-preserved c =
    one_more (λ bond. ended (bond_line bond)) c.args.bonds.now c.loop-bond.bond-index _ c.args.out.now.items c.loop-bond.out.items c.put_bond.new.out.items
    c.loop-bond-test.true (get_or_default c.args.bonds.now c.loop-bond.bond-index _ _ c.loop-bond-test.true) c.loop-bond.invariant c.in_ok-put_bond.ensures

pub returns : goal.returns
returns c = all_written (λ bond. ended (bond_line bond)) c.args.bonds.now c.loop-bond.bond-index c.args.out.now.items c.loop-bond.out.items c.loop-bond-test.false c.loop-bond.invariant
