use Rattle.std.proofs.Common.{◌≡◌, ℕ, Bool, false, take}
use Rattle.std.specs.List.{list_any}
use Rattle.mk_tests.proofs.counts.any_passing.Given as goal

abbrev pub invariant-loop-number : goal.invariant-loop-number
invariant-loop-number g l =
    (test : ℕ → Bool) → ((number : ℕ) (yes : Bool) → goal.F-post g l.passes number yes → yes ≡ test number) → list_any test (take l.number-index l.numbers) ≡ false
