use Rattle.std.proofs.Common.{◌≡◌, map, take}
use Rattle.mk_model.specs.Screens.{capped_count, counted}
use Rattle.mk_screen.proofs.counts.counts_of.Given as goal

abbrev pub invariant-loop-k : goal.invariant-loop-k
invariant-loop-k g l = l.counts ≡ map (capped_count (take l.k (g.D.Drawn.shown l.drawn).elements)) counted
