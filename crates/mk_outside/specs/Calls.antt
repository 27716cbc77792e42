-- Calls that are counted, some of which are to fail.
--     fails_next calls                 the next call is one of those that fail
--     after_call, after_fault          one call more, one fault more
--     calls_after calls failed         one call more, which failed or didn't
use Rattle.std.specs.Prelude.{ℕ, ◌==◌, Bool, true, false, List}
use Rattle.std.specs.List.{list_any}
use Rattle.mk_outside.specs.Counts.{one_more}

-- the numbers of the calls that fail, counted from 1, how many calls were made, and how many of
-- them failed
pub record CallState : Type 0 where
  pub failing : List ℕ
  pub made : ℕ
  pub faults : ℕ

-- no call was made
abbrev pub before_calls : List ℕ → CallState
before_calls failing = record { failing = failing; made = 0; faults = 0 }

-- the next call is one of those that fail
abbrev pub fails_next : CallState → Bool
fails_next calls = list_any (λ n. n == one_more calls.made) calls.failing

-- one call more was made
abbrev pub after_call : CallState → CallState
after_call calls = record { failing = calls.failing; made = one_more calls.made; faults = calls.faults }

-- one call more failed
abbrev pub after_fault : CallState → CallState
after_fault calls = record { failing = calls.failing; made = calls.made; faults = one_more calls.faults }

-- one call more was made, and failed or didn't
abbrev pub calls_after : CallState → Bool → CallState
calls_after calls true = after_fault (after_call calls)
calls_after calls false = after_call calls
