use Rattle.std.proofs.Common.{◌≡◌, ◌+◌, ◌≤◌, ℕ, length, take}
use Rattle.mk_logic.specs.Counts.{filled_at, sites_at}
use Rattle.mk_choice.specs.Search.{borne}
use Rattle.mk_choice.proofs.numbers.with_sites.Given as goal

abbrev pub invariant-loop-g : goal.invariant-loop-g
invariant-loop-g l = record {
  size : length l.counts ≡ 32;
  sites : (g : ℕ) → 1 ≤ g → sites_at l.counts g ≡ sites_at l.fn.counts g + borne (take l.g-index l.labels) g;
  filled : (g : ℕ) → 1 ≤ g → filled_at l.counts g ≡ filled_at l.fn.counts g;
}
