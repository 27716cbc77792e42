use Rattle.std.proofs.Common.{sym, ◌∙◌, arith}
use Rattle.std.proofs.lemmas.Bool.{true≢false}
use Rattle.mk_marks.proofs.JoinLemmas.{joins_ends}
use Rattle.mk_rings.proofs.RingLemmas.{IsMarkedUpTo-inside, IsMarkedUpTo-outside, IsOutside-ends, Marks-all}
use Rattle.mk_rings.proofs.marking.mark_rings.Goals as goal

pub loop-b-preserved-then-hangs_by : goal.loop-b-preserved-then-hangs_by
loop-b-preserved-then-hangs_by c =
    IsMarkedUpTo-inside c.args.bonds.now c.args.nodes.now c.loop-b.b _ c.loop-b.marks (c.hangs_by.ensures.0 c.if-hangs_by.true) c.loop-b.invariant

pub loop-b-preserved-then-hangs_by-2 : goal.loop-b-preserved-then-hangs_by-2
loop-b-preserved-then-hangs_by-2 c =
    IsMarkedUpTo-inside c.args.bonds.now c.args.nodes.now c.loop-b.b _ c.loop-b.marks (c.hangs_by-in-loop-b.ensures.0 c.if-hangs_by-2.true) c.loop-b.invariant

pub loop-b-preserved : goal.loop-b-preserved
loop-b-preserved c =
    let here = joins_ends c.args.bonds.now c.loop-b.b (record { first = 0; second = 0; kind = 0 }) c.loop-b-test.true in
    let out =
    IsOutside-ends c.args.bonds.now c.args.nodes.now c.requires.forest.grown c.loop-b.b _ _ here
    (λ by. true≢false (sym (c.hangs_by.ensures.1 by) ∙ c.if-hangs_by.false))
    (λ by. true≢false (sym (c.hangs_by-in-loop-b.ensures.1 by) ∙ c.if-hangs_by-2.false)) in
    IsMarkedUpTo-outside _ c.args.bonds.now c.args.nodes.now c.loop-b.b c.loop-b.marks c.mark_way.new.marks
    c.requires.ends c.requires.forest c.loop-b-test.true (omega (arith, c.loop-b.auto.marks, c.requires.size)) out
    c.mark_way.ensures c.loop-b.invariant

pub returns : goal.returns
returns c = Marks-all _ c.args.bonds.now c.args.nodes.now c.loop-b.b c.loop-b.marks c.requires.forest c.loop-b-test.false (omega (arith, c.loop-b.auto.marks, c.requires.size)) c.loop-b.invariant
