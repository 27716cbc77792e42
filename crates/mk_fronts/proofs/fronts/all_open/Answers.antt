use Rattle.std.proofs.Common.{ℕ, ap, ◌∙◌, replicate}
use Rattle.mk_fronts.proofs.FrontsLemmas.{all_open}
use Rattle.mk_fronts.proofs.fronts.all_open.Goals as goal

pub returns : goal.returns
returns c = all_open c.args.query.now c.in_ok-code.code.items
    (c.in_ok-code.ensures.items_if_clones_equal (λ y same. same) ∙ ap (λ (n : ℕ). replicate n 0) c.root_slots.ensures)
