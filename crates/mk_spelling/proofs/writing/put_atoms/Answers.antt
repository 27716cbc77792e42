use Rattle.mk_text.specs.Lines.{ended}
use Rattle.mk_spelling.specs.TableSpelling.{atom_line}
use Rattle.mk_spelling.proofs.AppendLemmas.{all_written, one_more}
use Rattle.mk_spelling.proofs.writing.put_atoms.Goals as goal

pub loop-atom-preserved : goal.loop-atom-preserved
loop-atom-preserved c =
    one_more (λ atom. ended (atom_line atom)) c.args.atoms.now c.loop-atom.atom-index c.atom-item.result c.args.out.now.items c.loop-atom.out.items c.put_atom.new.out.items
    c.loop-atom-test.true c.atom-item.is c.loop-atom.invariant c.in_ok-put_atom.ensures

pub returns : goal.returns
returns c = all_written (λ atom. ended (atom_line atom)) c.args.atoms.now c.loop-atom.atom-index c.args.out.now.items c.loop-atom.out.items c.loop-atom-test.false c.loop-atom.invariant
