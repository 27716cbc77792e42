use Rattle.std.proofs.Common.{arith, rules}
use Rattle.std.proofs.lemmas.List.{take_all}
use Rattle.std.proofs.lemmas.List.Sums.{suffix_len-take_yes}
use Rattle.mk_v3000.proofs.logical_lines.length_without_last.Goals as goal

pub loop-size-init : goal.loop-size-init
loop-size-init c = search (rules, take_all)

pub loop-size-preserved : goal.loop-size-preserved
loop-size-preserved c = grind (arith, suffix_len-take_yes)
