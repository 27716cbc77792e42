use Rattle.std.proofs.Common.{◌≡◌, ◌+◌, ◌-◌, ◌<◌, ℕ, length, take}
use Rattle.std.specs.Prelude.{slice_index}
use Rattle.mk_choice.specs.Search.{borne}
use Rattle.mk_choice.proofs.outlook.less_each.Given as goal

abbrev pub invariant-loop-g : goal.invariant-loop-g
invariant-loop-g l = record {
  size : length l.sites ≡ 32;
  less : (i : ℕ) → i < 32 → slice_index l.sites i ≡ slice_index l.fn.sites i - borne (take l.g-index l.labels) (i + 1);
}
