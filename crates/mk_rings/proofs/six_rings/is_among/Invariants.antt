use Rattle.std.proofs.Common.{◌≡◌, ◌<◌, ℕ, get_or}
use Rattle.mk_rings.proofs.six_rings.is_among.Given as goal

abbrev pub invariant-loop-atom : goal.invariant-loop-atom
invariant-loop-atom l = (i : ℕ) → i < l.atom-index → get_or l.atoms i 0 ≡ l.y → ⊥
