use Rattle.std.proofs.Common.{◌<◌, ◌≤◌, get_or, take, length, arith}
use Rattle.std.proofs.lemmas.List.{take_more}
use Rattle.mk_model.specs.Molecules.{edges}
use Rattle.mk_model.proofs.ForCallers.{IsNumberOf, numbers_at-each}
use Rattle.mk_walk.specs.Candidates.{AreBonded}
use Rattle.mk_walk.proofs.CandidateLemmas.{end_bonded, least_end_more, lesser_has}
use Rattle.mk_walk.proofs.candidates.least_end_above.Goals as goal

pub loop-number-preserved : goal.loop-number-preserved
loop-number-preserved c =
    let mol = c.args.mol.now in
    let items = c.bonds_at-number-items.result.now in
    let i = c.loop-number.number-index in
    let below : i < length items = omega arith in
    let numbers = c.bonds_at-number-items.ensures.numbers in
    let is : IsNumberOf (edges mol.bonds) c.args.atom (get_or items i 0) = rw numbers (numbers_at-each (edges mol.bonds) c.args.atom i (rw numbers at below)) in
    let end : AreBonded mol c.args.atom c.end_at.result = rw c.end_at.ensures.end (end_bonded mol c.args.atom (get_or items i 0) is) in (
      rw (take_more items i 0 below, c.lesser_end-least.ensures, c.end_at.ensures.end)
          (least_end_more mol.bonds c.args.atom (take i items) c.args.above (get_or items i 0) c.loop-number.least c.loop-number.invariant.0),
      rw c.lesser_end-least.ensures
          (lesser_has (λ a. a ≤ length mol.atoms) c.loop-number.least c.args.above c.end_at.result c.loop-number.invariant.1 c.end_at.ensures.within),
      rw c.lesser_end-least.ensures
          (lesser_has (AreBonded mol c.args.atom) c.loop-number.least c.args.above c.end_at.result c.loop-number.invariant.2 end),
    )
