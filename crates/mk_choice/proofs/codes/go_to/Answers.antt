use Rattle.std.proofs.Common.{refl}
use Rattle.mk_choice.proofs.SeekLemmas.{ready_dead, ready_none}
use Rattle.mk_choice.proofs.TurnLemmas.{ready_over, ready_place}
use Rattle.mk_choice.proofs.codes.go_to.Goals as goal

pub returns-then-is_dead-clause-ready : goal.returns-then-is_dead-clause-ready
returns-then-is_dead-clause-ready c = λ kept room within is.
    let none = c.requires.none in
    let f = c.args.frames.now in
    ready_dead c.args.query.now c.args.most.now f c.past-frames.result c.requires.frames c.args.place.now kept room within is none.0 none.2 (c.if-is_dead.ensures refl) c.past-frames.ensures

pub returns-then-begins_all-clause-ready : goal.returns-then-begins_all-clause-ready
returns-then-begins_all-clause-ready c = λ kept room within is.
    let none = c.requires.none in
    let yes = c.if-begins_all.ensures.yes refl in
    rw yes.0 (ready_none c.args.query.now c.args.most.now c.args.frames.now c.requires.frames kept room none.0 none.1 none.2 yes.1)

pub returns-then-frames-clause-ready : goal.returns-then-frames-clause-ready
returns-then-frames-clause-ready c = λ kept room within is.
    ready_place c.args.query.now c.args.most.now c.seek.new.self c.seek.ensures.frames kept _ room within c.args.place.now is c.seek.ensures.same c.seek.ensures.up

pub returns-clause-ready : goal.returns-clause-ready
returns-clause-ready c = λ kept room within is.
    ready_over c.args.query.now c.args.most.now c.seek.new.self c.seek.ensures.frames kept _ room within c.args.place.now is c.seek.ensures.same
    (c.seek.ensures.over c.if-frames.false)
