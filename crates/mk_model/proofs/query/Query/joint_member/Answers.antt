use Rattle.std.proofs.Common.{◌≡◌, ◌+◌, arith, sym, ap, length}
use Rattle.mk_model.proofs.MembersLemmas.{below_all, below_most, step_is}
use Rattle.mk_model.proofs.query.Query.joint_member.Goals as goal

pub loop-high-init : goal.loop-high-init
loop-high-init c =
    let high : length c.templates-high.result.now ≡ length c.args.self.now.templates = ap length c.templates-high.ensures.list in
    let all = below_all c.args.self.now c.args.labels.now in
    let most = below_most c.args.self.now c.args.labels.now (length c.args.self.now.templates) in
    record {
      order = omega (arith, c.requires.within, all, most, high);
      within = omega (arith, high);
      least = omega (arith, below_most c.args.self.now c.args.labels.now 0);
      most = rw high (omega (arith, c.requires.within, all));
    }

pub returns : goal.returns
returns c =
    let next : c.loop-high.high ≡ c.loop-high.low + 1 = omega (arith, c.loop-high.invariant.order, c.loop-high-test.false) in
    let above = rw next at c.loop-high.invariant.most in
    sym (step_is c.args.self.now c.args.labels.now c.loop-high.low c.args.j (omega (arith, c.loop-high.invariant.order, c.loop-high.invariant.within)) c.loop-high.invariant.least above)
