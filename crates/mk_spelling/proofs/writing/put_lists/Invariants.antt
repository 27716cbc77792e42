use Rattle.std.proofs.Common.{◌≡◌, ◌++◌, take}
use Rattle.std.specs.List.{flat_map}
use Rattle.mk_text.specs.Lines.{ended}
use Rattle.mk_spelling.specs.TableSpelling.{numbers_line}
use Rattle.mk_spelling.proofs.writing.put_lists.Given as goal

abbrev pub invariant-loop-list : goal.invariant-loop-list
invariant-loop-list l = l.out.items ≡ l.initial.out.items ++ flat_map (λ list. ended (numbers_line list)) (take l.list-index l.lists)
