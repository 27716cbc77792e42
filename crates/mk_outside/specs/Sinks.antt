-- Sinks in memory.
--     sink_after s piece result        a sink in memory after `put`
use Rattle.std.specs.Prelude.{ℕ, List, ◌++◌, Result, Ok, Err}
use Rattle.mk_outside.specs.declared.answers.PutFail.{PutFail}
use Rattle.mk_outside.specs.Calls.{CallState, calls_after}
use Rattle.mk_outside.specs.Told.{is_failed_put}

-- the bytes so far, and the calls of `put`
pub record SinkState : Type 0 where
  pub bytes : List ℕ
  pub calls : CallState

-- the bytes after `put`: a call that fails appends nothing
abbrev pub bytes_after : {A : Type 0} → List ℕ → List ℕ → Result A PutFail → List ℕ
bytes_after bytes piece (Ok done) = bytes ++ piece
bytes_after bytes piece (Err fail) = bytes

-- a sink in memory after `put`
abbrev pub sink_after : {A : Type 0} → SinkState → List ℕ → Result A PutFail → SinkState
sink_after s piece result = record { bytes = bytes_after s.bytes piece result; calls = calls_after s.calls (is_failed_put result) }
