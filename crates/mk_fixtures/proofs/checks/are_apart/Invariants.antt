use Rattle.std.proofs.Common.{◌<◌, ℕ, List, get_or}
use Rattle.mk_model.specs.declared.edge.Edge.{Edge}
use Rattle.mk_model.specs.Edges.{HasEnds}
use Rattle.mk_fixtures.proofs.checks.are_apart.Given as goal

-- the bonds at two places don't join one pair
abbrev pub AreApart : List Edge → ℕ → ℕ → Type 0
AreApart bonds p q =
    (x y : ℕ) → HasEnds (get_or bonds p (record { first = 0; second = 0; kind = 0 })) x y → HasEnds (get_or bonds q (record { first = 0; second = 0; kind = 0 })) x y → ⊥

abbrev pub invariant-loop-b : goal.invariant-loop-b
invariant-loop-b l = (p q : ℕ) → p < l.b → q < p → AreApart l.bonds p q

abbrev pub invariant-loop-c : goal.invariant-loop-c
invariant-loop-c l = (q : ℕ) → q < l.c → AreApart l.bonds l.b q
