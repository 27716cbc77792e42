use Rattle.std.proofs.Common.{refl}
use Rattle.mk_effects.specs.Structures.{WritesStructures}
use Rattle.mk_kept.specs.Named.{IsQueryNamed}
use Rattle.mk_effects.proofs.structures.enum_found.Goals as goal

pub returns-clause-comes : goal.returns-clause-comes
returns-clause-comes c =
    let query = c.in-Some.query.now in
    let named : IsQueryNamed c.args.saved.now.queries c.args.name.now query = rw c.as_bytes.ensures.value at c.in-Some.ensures.some in
    WritesStructures query named c.in_ok-found.found c.in_ok-found.ensures (rw (c.of.ensures, c.in_ok-put_place.ensures, c.into_vec-text.ensures, c.as_slice.ensures) refl)
