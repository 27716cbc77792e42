use Rattle.std.proofs.Common.{arith}
use Rattle.mk_choice.proofs.codes.Codes.from_place.Goals as goal

pub invariant_of-result : goal.invariant_of-result
invariant_of-result c =
    let room = c.max.ensures in
    rw c.deref-2.ensures.value at c.go_to-debt.ensures.ready c.put.new.place.items
    (omega (arith, c.put.ensures.size, c.in_ok-kept.ensures.len, c.in_ok-kept.kept.ok.0, room))
    (omega (arith, c.put.ensures.size, c.in_ok-kept.ensures.len, c.in_ok-kept.kept.ok.0, room)) c.put.ensures.put
