use Rattle.mk_text.specs.Lines.{ended}
use Rattle.mk_spelling.specs.TableSpelling.{numbers_line}
use Rattle.mk_spelling.proofs.AppendLemmas.{all_written, one_more}
use Rattle.mk_spelling.proofs.writing.put_lists.Goals as goal

pub loop-list-preserved : goal.loop-list-preserved
loop-list-preserved c =
    one_more (λ list. ended (numbers_line list)) c.args.lists.now c.loop-list.list-index c.list-item.result c.args.out.now.items c.loop-list.out.items c.put_list.new.out.items
    c.loop-list-test.true c.list-item.is c.loop-list.invariant c.in_ok-put_list.ensures

pub returns : goal.returns
returns c = all_written (λ list. ended (numbers_line list)) c.args.lists.now c.loop-list.list-index c.args.out.now.items c.loop-list.out.items c.loop-list-test.false c.loop-list.invariant
