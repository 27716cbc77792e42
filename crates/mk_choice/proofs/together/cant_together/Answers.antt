use Rattle.std.proofs.Common.{refl}
use Rattle.std.specs.Prelude.{drop}
use Rattle.mk_model.specs.Logic.{filled_of}
use Rattle.mk_model.specs.OpenSlots.{standing_by}
use Rattle.mk_choice.specs.Bounds.{bound_in}
use Rattle.mk_choice.proofs.TogetherLemmas.{lost_together}
use Rattle.mk_choice.proofs.together.cant_together.Goals as goal

pub returns-then-miss_among : goal.returns-then-miss_among
returns-then-miss_among c = λ _ others completes.
    let query = c.args.query.now in
    let slots = drop c.args.first c.args.waiting.now in
    let miss = c.if-miss_among.ensures refl in
    lost_together query c.slots_of-kept.ensures.kept (bound_in c.args.most.now) c.requires.bounds.bounds miss.some_wants miss.some_caps slots c.requires.known miss.miss others completes.chooses
    (miss.keeps (filled_of query (standing_by query slots others)) (c.limits_of-limits.ensures.each slots others c.requires.ahead.sites completes))
