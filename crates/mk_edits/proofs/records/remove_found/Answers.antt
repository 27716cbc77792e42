use Rattle.std.proofs.Common.{refl}
use Rattle.mk_library.specs.FirstRefusal.{held_number}
use Rattle.mk_edits.specs.Records.{Removes}
use Rattle.mk_edits.proofs.records.remove_found.Goals as goal

pub returns-in_ok-put_numbered-in-Ok-clause-comes : goal.returns-in_ok-put_numbered-in-Ok-clause-comes
returns-in_ok-put_numbered-in-Ok-clause-comes c =
    Removes (c.in-Ok.ensures.changes.met held_number)
    (rw (c.in-Ok.ensures.changes.are, c.of.ensures, c.in_ok-put_numbered-in-Ok.ensures, c.new-text.ensures.items, c.from.ensures) refl)
