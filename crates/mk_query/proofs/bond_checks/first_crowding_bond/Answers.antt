use Rattle.std.proofs.Common.{◌+◌, ◌∙◌, sym}
use Rattle.std.proofs.lemmas.Bool.{true≢false}
use Rattle.mk_query.specs.Checks.{LeavesFewBonds}
use Rattle.mk_query.proofs.BondLemmas.{counts_more, few_more_at, leaves, crowds, before_more, leaves_all}
use Rattle.mk_query.proofs.bond_checks.first_crowding_bond.Goals as goal

pub returns-then-not-has_room : goal.returns-then-not-has_room
returns-then-not-has_room c =
    let counts = counts_more c.args.bonds.now c.loop-i.i _ c.loop-i.counts.items c.count_bond.new.counts.items
    c.loop-i-test.true c.count_bond.ensures.size c.loop-i.invariant.counts c.count_bond.ensures.counted in
    record {
      lower = c.loop-i.invariant.before;
      fails =
          crowds c.args.atoms c.args.bonds.now (c.loop-i.i + 1) c.count_bond.new.counts.items c.first_end.result (c.count_bond.ensures.size ∙ c.loop-i.invariant.size) counts
          (λ room. true≢false (sym (c.has_room.ensures.1 (rw c.deref.ensures.value room)) ∙ c.if-not-has_room.true));
    }

pub returns-then-not-has_room-2 : goal.returns-then-not-has_room-2
returns-then-not-has_room-2 c =
    let counts = counts_more c.args.bonds.now c.loop-i.i _ c.loop-i.counts.items c.count_bond.new.counts.items
    c.loop-i-test.true c.count_bond.ensures.size c.loop-i.invariant.counts c.count_bond.ensures.counted in
    record {
      lower = c.loop-i.invariant.before;
      fails =
          crowds c.args.atoms c.args.bonds.now (c.loop-i.i + 1) c.count_bond.new.counts.items c.second_end.result (c.count_bond.ensures.size ∙ c.loop-i.invariant.size) counts
          (λ room. true≢false (sym (c.has_room-in-loop-i.ensures.1 (rw c.deref-in-loop-i.ensures.value room)) ∙ c.if-not-has_room-2.true));
    }

pub loop-i-preserved : goal.loop-i-preserved
loop-i-preserved c =
    let size = c.count_bond.ensures.size ∙ c.loop-i.invariant.size in
    let counts = counts_more c.args.bonds.now c.loop-i.i _ c.loop-i.counts.items c.count_bond.new.counts.items
    c.loop-i-test.true c.count_bond.ensures.size c.loop-i.invariant.counts c.count_bond.ensures.counted in
    let first = rw (c.deref.ensures.value, c.first_end.ensures) at (c.has_room.ensures.0 c.if-not-has_room.false) in
    let second = rw (c.deref-in-loop-i.ensures.value, c.second_end.ensures) at (c.has_room-in-loop-i.ensures.0 c.if-not-has_room-2.false) in
    let few = few_more_at c.args.bonds.now c.loop-i.i _ c.loop-i.counts.items c.count_bond.new.counts.items
    c.count_bond.ensures.size c.loop-i.invariant.few c.count_bond.ensures.counted first second in
    record {
      size = size;
      counts = counts;
      few = few;
      before = before_more (LeavesFewBonds c.args.atoms c.args.bonds.now) c.loop-i.i c.loop-i.invariant.before
          (leaves c.args.atoms c.args.bonds.now (c.loop-i.i + 1) c.count_bond.new.counts.items size counts few);
    }

pub returns : goal.returns
returns c = leaves_all c.args.atoms c.args.bonds.now c.loop-i.i c.loop-i-test.false c.loop-i.invariant.before
