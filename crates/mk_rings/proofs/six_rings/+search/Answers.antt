use Rattle.std.proofs.Common.{◌-◌, ℕ, List, arith, refl, subst, sym}
use Rattle.mk_marks.specs.SixRings.{CanClose, set_of}
use Rattle.mk_rings.proofs.ReachLemmas.{MaySkip-less, stamped_out}
use Rattle.mk_rings.proofs.SearchLemmas.{none_closes, on_from, on_from_new, path_longer, path_rest}
use Rattle.mk_rings.proofs.six_rings.+search.Goals as goal

pub can_close-returns-clause-open : goal.can_close-returns-clause-open
can_close-returns-clause-open t c = λ skip no can.
    none_closes c.args.bonds.now (set_of c.args.marks.now) c.args.start _ c.args.at c.args.label c.args.left
    c.numbers_of-numbers.result.now c.loop-i.i c.numbers_of-numbers.ensures c.loop-i-test.false
    (c.loop-i.invariant skip) can

pub closes_over-returns-then-is_stamped_out-clause-open : goal.closes_over-returns-then-is_stamped_out-clause-open
closes_over-returns-then-is_stamped_out-clause-open t c = λ skip no by.
    let less = MaySkip-less c.args.bonds.now (set_of c.args.marks.now) c.args.start c.args.two.now c.args.three.now c.args.stamp c.args.label c.args.left c.if-left-eq0.false skip in
    stamped_out c.args.bonds.now (set_of c.args.marks.now) c.args.start c.args.two.now c.args.three.now c.args.stamp
    (3 - c.args.label) (c.args.left - 1) c.args.over.to _ less (c.is_stamped_out.ensures c.if-is_stamped_out.true)
    (on_from c.args.bonds.now (set_of c.args.marks.now) c.args.start _ c.args.at c.args.label
    c.args.over.bond c.args.over.to c.requires.joined c.args.left c.if-left-eq0.false by)

pub closes_over-returns-clause-open : goal.closes_over-returns-clause-open
closes_over-returns-clause-open t c = λ skip no by.
    let less = MaySkip-less c.args.bonds.now (set_of c.args.marks.now) c.args.start c.args.two.now c.args.three.now c.args.stamp c.args.label c.args.left c.if-left-eq0.false skip in
    let longer = path_longer c.args.path c.args.left c.args.over.to c.if-left-eq0.false (omega (arith, c.requires.path, c.requires.left)) in
    let new = rw (path_rest c.args.path c.args.left c.requires.path) at c.if-is_among.ensures.cases in
    let P : List ℕ → Type 0 = λ path. CanClose c.args.bonds.now (set_of c.args.marks.now) c.args.start path c.args.over.to (3 - c.args.label) (c.args.left - 1) in
    let further = on_from_new c.args.bonds.now (set_of c.args.marks.now) c.args.start _ c.args.at c.args.label
    c.args.over.bond c.args.over.to c.requires.joined c.args.left c.if-left-eq0.false
    (c.if-not-takes.ensures.0 refl) new in
    c.can_close.ensures.open less no (subst P (sym longer) (further.1 by))
