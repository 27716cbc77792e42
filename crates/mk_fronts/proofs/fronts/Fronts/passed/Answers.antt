use Rattle.std.proofs.Common.{◌≡◌, false, arith}
use Rattle.mk_fronts.proofs.fronts.Fronts.passed.Goals as goal

pub returns-then-not-branch-clause-found : goal.returns-then-not-branch-clause-found
returns-then-not-branch-clause-found c =
    let no : c.in_ok-begin.field-0 ≡ false = cc in
    record { within = omega arith; none = c.in_ok-begin.ensures.none no }
