use Rattle.std.proofs.Common.{◌≡◌}
use Rattle.std.specs.Prelude.{drop, find, nat_le}
use Rattle.mk_valence.proofs.gains.up_to_valence.Given as goal

abbrev pub invariant-loop-valence : goal.invariant-loop-valence
invariant-loop-valence l =
    find (λ valence. nat_le l.total valence) (drop l.valence-index l.row) ≡ find (λ valence. nat_le l.total valence) l.row
