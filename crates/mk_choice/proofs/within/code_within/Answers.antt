use Rattle.std.proofs.Common.{append-nil}
use Rattle.mk_choice.proofs.WithinLemmas.{code_of_within}
use Rattle.mk_choice.proofs.within.code_within.Goals as goal

pub returns : goal.returns
returns c =
    let chosen = rw (append-nil c.slots_of.result.now, c.slots_of.ensures.slots) at c.chosen_within.ensures in
    record { code = code_of_within c.args.query.now c.args.numbers.now c.chosen_within.result chosen }
