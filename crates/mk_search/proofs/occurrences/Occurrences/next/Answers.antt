use Rattle.std.proofs.Common.{◌∙◌, arith}
use Rattle.mk_search.proofs.NextLemmas.{opened_fewer, opened_more, opened_none, taken_first, taken_later, taken_none}
use Rattle.mk_search.proofs.occurrences.Occurrences.next.Goals as goal

pub returns-then-branch-clause-next : goal.returns-then-branch-clause-next
returns-then-branch-clause-next g c =
    let old = c.args.self.now in
    let here = c.in_ok-next_here.ensures.here c.args.row.mol.now c.args.place.now c.requires.left in
    let t = rw c.if-branch.true at here in
    rw c.in_ok-next_here.ensures.codes
    (taken_first old.query.now c.args.row.mol.now c.args.place.now old.codes old.open c.next_here.new.self.open c.args.steps.now c.next_here.new.self.numbers.items t)

pub loop-self-init : goal.loop-self-init
loop-self-init g c =
    let old = c.args.self.now in
    let here = c.in_ok-next_here.ensures.here c.args.row.mol.now c.args.place.now c.requires.left in
    let t = rw c.if-branch.false at here in
    record {
      opened = rw c.in_ok-next_here.ensures.codes (opened_none old.query.now c.args.row.mol.now c.args.place.now old.codes c.next_here.new.self.open c.args.steps.now t.0 t.1);
      know = rw c.in_ok-next_here.ensures.fronts c.requires.know;
      belongs = c.next_here.ensures.belongs;
      steps = omega arith;
    }

pub returns-then-branch-3-clause-next : goal.returns-then-branch-3-clause-next
returns-then-branch-3-clause-next g c =
    let old = c.args.self.now in
    let mol = c.args.row.mol.now in
    let place = c.args.place.now in
    let inv = c.loop-self.invariant in
    let q = c.open_next.ensures.belongs.query_is ∙ inv.belongs.query_is in
    let o = rw (inv.belongs.query_is, c.if-branch-2.true) at c.in_ok-open_next.ensures.opened in
    let here = rw (q, c.if-branch-3.true) at c.in_ok-next_here-2.ensures.here in
    rw c.in_ok-next_here-2.ensures.codes
    (taken_later old.query.now mol place old.codes c.loop-self.self.codes c.open_next.new.self.codes old.open c.loop-self.self.open c.open_next.new.self.open
    c.next_here-in-loop-self.new.self.open
    c.args.steps.now c.loop-self.steps c.open_next.new.steps c.next_here-in-loop-self.new.self.numbers.items inv.opened o (here mol place o.left))

pub returns-clause-next : goal.returns-clause-next
returns-clause-next g c =
    let old = c.args.self.now in
    let inv = c.loop-self.invariant in
    let o = rw (inv.belongs.query_is, c.if-branch-2.false) at c.in_ok-open_next.ensures.opened in
    taken_none old.query.now c.args.row.mol.now c.args.place.now old.codes c.loop-self.self.codes c.open_next.new.self.codes old.open c.loop-self.self.open c.open_next.new.self.open
    c.args.steps.now c.loop-self.steps c.open_next.new.steps inv.opened o

pub loop-self-smaller : goal.loop-self-smaller
loop-self-smaller g c =
    let old = c.args.self.now in
    let inv = c.loop-self.invariant in
    let o = rw (inv.belongs.query_is, c.if-branch-2.true) at c.in_ok-open_next.ensures.opened in
    rw c.in_ok-next_here-2.ensures.codes
    (opened_fewer old.query.now c.args.row.mol.now c.args.place.now c.templates-fits.ensures.kept c.loop-self.self.codes c.open_next.new.self.codes
    c.open_next.new.self.open c.loop-self.steps c.open_next.new.steps o)

pub loop-self-preserved : goal.loop-self-preserved
loop-self-preserved g c =
    let old = c.args.self.now in
    let mol = c.args.row.mol.now in
    let place = c.args.place.now in
    let inv = c.loop-self.invariant in
    let q = c.open_next.ensures.belongs.query_is ∙ inv.belongs.query_is in
    let o = rw (inv.belongs.query_is, c.if-branch-2.true) at c.in_ok-open_next.ensures.opened in
    let here = rw (q, c.if-branch-3.false) at c.in_ok-next_here-2.ensures.here in
    let t = here mol place o.left in
    record {
      opened = rw c.in_ok-next_here-2.ensures.codes
          (opened_more old.query.now mol place old.codes.place c.loop-self.self.codes c.open_next.new.self.codes c.loop-self.self.open c.open_next.new.self.open
          c.next_here-in-loop-self.new.self.open
          c.args.steps.now c.loop-self.steps c.open_next.new.steps inv.opened o t.0 t.1);
      know = rw c.in_ok-next_here-2.ensures.fronts c.in_ok-open_next.ensures.know;
      belongs = rw q at c.in_ok-next_here-2.ensures.belongs;
      steps = omega (arith, inv.steps, c.open_next.ensures.steps);
    }
