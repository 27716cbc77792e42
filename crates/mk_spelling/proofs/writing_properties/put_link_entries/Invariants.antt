use Rattle.std.proofs.Common.{◌≡◌, ◌++◌, take}
use Rattle.std.specs.List.{flat_map}
use Rattle.mk_spelling.specs.TableSpelling.{link_text}
use Rattle.mk_spelling.proofs.writing_properties.put_link_entries.Given as goal

abbrev pub invariant-loop-link : goal.invariant-loop-link
invariant-loop-link l = l.out.items ≡ l.initial.out.items ++ flat_map link_text (take l.link-index l.links)
