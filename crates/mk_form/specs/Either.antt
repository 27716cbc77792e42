-- One of two parts that no single line tells apart: both are read, and where neither reads, the
-- farther stop counts.
--     either p q       a text of p or of q
use Rattle.std.specs.Prelude.{nat_lt, if◌then◌else◌, length, ◌⊎◌}
use Rattle.mk_form.specs.Reading.{Reading, Took, Stop}
use Rattle.mk_form.specs.Exact.{Part}
use Rattle.mk_form.specs.Choice.{OneOf}

-- what was read by one of the two; where neither reads, the stop that is farther on
abbrev pub farther : {L V : Type 0} → Reading L V → Reading L V → Reading L V
farther (Took v rest) other = Took v rest
farther (Stop named rest) (Took v left) = Took v left
farther (Stop named rest) (Stop also left) = if nat_lt (length rest) (length left) then Stop named rest else Stop also left

-- Both parts are read. The name of a line is asked for in q alone.
abbrev pub either : {L V : Type 0} → Part L V → Part L V → Part L V
either p q = record { is = OneOf p.is q.is; live = λ lines. p.live lines ⊎ q.live lines; due = q.due; read = λ lines. farther (p.read lines) (q.read lines) }
