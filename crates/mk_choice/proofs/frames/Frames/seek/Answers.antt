use Rattle.std.proofs.Common.{ℕ, List, get_or, refl, sym, subst, arith}
use Rattle.std.proofs.lemmas.List.{get_or_default}
use Rattle.mk_text.specs.Rising.{IsBelow}
use Rattle.mk_text.proofs.ForCallers.{not_below_itself}
use Rattle.mk_model.specs.Nodes.{BeginsCode}
use Rattle.mk_choice.proofs.SeekLemmas.{frames_begin, sought_all, sought_over, sought_stops, sought_up}
use Rattle.mk_choice.proofs.frames.Frames.seek.Goals as goal

pub returns-then-number-eq0-clause-same : goal.returns-then-number-eq0-clause-same
returns-then-number-eq0-clause-same c =
    let number : ℕ = get_or c.args.front.now c.loop-i.i 0 in
    sought_stops c.args.query.now c.args.most.now c.args.front.now c.loop-i.i c.loop-i.self c.loop-i.invariant
    c.loop-i-test.true number (get_or_default c.args.front.now c.loop-i.i 0 number c.loop-i-test.true)
    (λ least _. omega (arith, least, c.if-number-eq0.true))

pub returns-then-number-eq0-clause-up : goal.returns-then-number-eq0-clause-up
returns-then-number-eq0-clause-up c =
    let number : ℕ = get_or c.args.front.now c.loop-i.i 0 in
    sought_up c.args.query.now c.args.most.now c.args.front.now c.loop-i.i c.loop-i.self c.loop-i.invariant
    c.loop-i-test.true number (get_or_default c.args.front.now c.loop-i.i 0 number c.loop-i-test.true)

pub returns-then-not-has_above-clause-same : goal.returns-then-not-has_above-clause-same
returns-then-not-has_above-clause-same c =
    let number : ℕ = get_or c.args.front.now c.loop-i.i 0 in
    sought_stops c.args.query.now c.args.most.now c.args.front.now c.loop-i.i c.loop-i.self c.loop-i.invariant
    c.loop-i-test.true number (get_or_default c.args.front.now c.loop-i.i 0 number c.loop-i-test.true)
    (λ least up_to. omega (arith, least, up_to, c.if-not-has_above.ensures.none refl))

pub returns-then-not-has_above-clause-up : goal.returns-then-not-has_above-clause-up
returns-then-not-has_above-clause-up c =
    let number : ℕ = get_or c.args.front.now c.loop-i.i 0 in
    sought_up c.args.query.now c.args.most.now c.args.front.now c.loop-i.i c.loop-i.self c.loop-i.invariant
    c.loop-i-test.true number (get_or_default c.args.front.now c.loop-i.i 0 number c.loop-i-test.true)

pub returns-clause-up : goal.returns-clause-up
returns-clause-up c =
    let all = sought_all c.args.query.now c.args.most.now c.args.front.now c.loop-i.i c.loop-i.self c.loop-i.invariant c.loop-i-test.false in
    subst (λ (xs : List ℕ). IsBelow xs c.args.front.now → ⊥) (sym all) (not_below_itself c.args.front.now)

pub returns-then-number-eq0-clause-over : goal.returns-then-number-eq0-clause-over
returns-then-number-eq0-clause-over c = λ _.
    let number : ℕ = get_or c.args.front.now c.loop-i.i 0 in
    sought_over c.args.query.now c.args.most.now c.args.front.now c.loop-i.i c.loop-i.self c.loop-i.invariant
    c.loop-i-test.true number (get_or_default c.args.front.now c.loop-i.i 0 number c.loop-i-test.true)

pub returns-then-not-has_above-clause-over : goal.returns-then-not-has_above-clause-over
returns-then-not-has_above-clause-over c = λ _.
    let number : ℕ = get_or c.args.front.now c.loop-i.i 0 in
    sought_over c.args.query.now c.args.most.now c.args.front.now c.loop-i.i c.loop-i.self c.loop-i.invariant
    c.loop-i-test.true number (get_or_default c.args.front.now c.loop-i.i 0 number c.loop-i-test.true)

pub returns-clause-begins : goal.returns-clause-begins
returns-clause-begins c = λ _.
    let all = sought_all c.args.query.now c.args.most.now c.args.front.now c.loop-i.i c.loop-i.self c.loop-i.invariant c.loop-i-test.false in
    subst (BeginsCode c.args.query.now) all (frames_begin c.args.query.now c.args.most.now c.loop-i.self c.loop-i.invariant.are)
