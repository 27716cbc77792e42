use Rattle.std.proofs.Common.{◌≡◌, ◌≤◌, ℕ, Bool, take}
use Rattle.std.specs.Prelude.{count_by}
use Rattle.mk_tests.proofs.counts.count_passing.Given as goal

abbrev pub invariant-loop-number : goal.invariant-loop-number
invariant-loop-number g l = record {
  few : l.count ≤ l.number-index;
  counted : (test : ℕ → Bool) → ((number : ℕ) (yes : Bool) → goal.F-post g l.passes number yes → yes ≡ test number) → l.count ≡ count_by test (take l.number-index l.numbers);
}
