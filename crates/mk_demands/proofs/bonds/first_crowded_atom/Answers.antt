use Rattle.std.proofs.Common.{◌≡◌, ℕ, ◌≤◌, ◌+◌, ◌-◌, List, length, arith}
use Rattle.mk_text.proofs.ForCallers.{items-more_get, items-fail_get, items-all}
use Rattle.mk_demands.proofs.bonds.first_crowded_atom.Goals as goal

pub loop-i-preserved : goal.loop-i-preserved
loop-i-preserved c =
    let place : c.loop-i.i + 1 - 1 ≡ c.loop-i.i = omega arith in
    items-more_get (λ (numbers : List ℕ). length numbers ≤ 20) c.args.near.now c.loop-i.i _ (rw place at c.at.ensures) c.if-at-gt-MOST_BONDS.false c.loop-i.invariant

pub returns-then-at-gt-MOST_BONDS : goal.returns-then-at-gt-MOST_BONDS
returns-then-at-gt-MOST_BONDS c =
    let place : c.loop-i.i + 1 - 1 ≡ c.loop-i.i = omega arith in
    items-fail_get (λ (numbers : List ℕ). length numbers ≤ 20) c.args.near.now c.loop-i.i _ (rw place at c.at.ensures)
    (λ few. absurd (omega (arith, few, c.if-at-gt-MOST_BONDS.true))) c.loop-i.invariant

pub returns : goal.returns
returns c = items-all (λ (numbers : List ℕ). length numbers ≤ 20) c.args.near.now c.loop-i.i (omega arith) c.loop-i.invariant
