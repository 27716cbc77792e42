use Rattle.std.proofs.Common.{◌≡◌, ◌++◌, take}
use Rattle.std.specs.List.{flat_map}
use Rattle.mk_text.specs.Lines.{ended}
use Rattle.mk_spelling.specs.TableSpelling.{property_line}
use Rattle.mk_spelling.proofs.writing.put_properties.Given as goal

abbrev pub invariant-loop-property : goal.invariant-loop-property
invariant-loop-property l = l.out.items ≡ l.initial.out.items ++ flat_map (λ property. ended (property_line property)) (take l.property-index l.properties)
