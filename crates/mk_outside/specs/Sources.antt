-- Sources in memory.
--     left_after left result           the bytes that are left after `read`
--     source_after s result            a source in memory after `read`
use Rattle.std.specs.Prelude.{ℕ, List, drop, Result, Ok, Err, is_err}
use Rattle.mk_outside.specs.Calls.{CallState, calls_after}

-- the bytes that are left, and the calls of `read`
pub record SourceState : Type 0 where
  pub left : List ℕ
  pub calls : CallState

-- the bytes that are left after `read`: a call that fails takes none
abbrev pub left_after : {E : Type 0} → List ℕ → Result ℕ E → List ℕ
left_after left (Ok n) = drop n left
left_after left (Err fail) = left

-- a source in memory after `read`
abbrev pub source_after : {E : Type 0} → SourceState → Result ℕ E → SourceState
source_after s result = record { left = left_after s.left result; calls = calls_after s.calls (is_err result) }
