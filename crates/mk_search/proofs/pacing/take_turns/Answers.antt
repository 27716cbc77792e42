use Rattle.std.proofs.Common.{◌≡◌, ◌+◌, ◌∷◌, ◌++◌, [], length, length-append, refl, ap, ◌∙◌, arith}
use Rattle.mk_search.proofs.PacedLemmas.{begins_ended, begins_full, begins_spent, paced_ended, paced_full, paced_key, paced_moved, paced_none, paced_spent}
use Rattle.mk_search.proofs.pacing.take_turns.Goals as goal

pub loop-spent-init : goal.loop-spent-init
loop-spent-init g c =
    let hits = c.args.hits.now in
    rw c.requires.none (record {
      keys = paced_none hits.rows hits.query hits.place c.args.begins.now hits c.requires.short c.requires.made;
      fewer = omega (arith, c.requires.least);
      within = omega arith;
      counted = omega arith;
      steps = omega arith;
    })

pub loop-spent-preserved-in-Moved : goal.loop-spent-preserved-in-Moved
loop-spent-preserved-in-Moved g c =
    let hits = c.args.hits.now in
    let inv = c.loop-spent.invariant in
    let keys = c.loop-spent.keys.items in
    let t = rw c.in-Moved.is at c.in_ok-take_turn.ensures.turn in
    rw t.1 (record {
      keys = paced_moved hits.rows hits.query hits.place c.args.begins.now c.loop-spent.hits keys c.loop-spent.spent c.loop-spent.begins inv.keys c.take_turn.new.hits c.take_turn.new.begins t.0;
      fewer = inv.fewer;
      within = omega (arith, c.loop-spent-test.true);
      counted = omega (arith, inv.counted, t.2);
      steps = omega (arith, inv.steps, c.take_turn.ensures.steps);
    })

pub loop-spent-preserved : goal.loop-spent-preserved
loop-spent-preserved g c =
    let hits = c.args.hits.now in
    let inv = c.loop-spent.invariant in
    let keys = c.loop-spent.keys.items in
    let t = rw c.in-Item.is at c.in_ok-take_turn.ensures.turn in
    let key = t.0 in
    let long : length (keys ++ key ∷ []) ≡ length keys + 1 = length-append keys (key ∷ []) in
    let full = c.take_turn.new.keys.ok.0 in
    record {
      keys = rw t.2
          (paced_key hits.rows hits.query hits.place c.args.begins.now c.loop-spent.hits keys c.loop-spent.spent c.loop-spent.begins inv.keys c.requires.fits
          c.take_turn.new.hits key c.take_turn.new.begins t.1);
      fewer = omega (arith, inv.fewer, long, ap length t.2, full, c.len.ensures, c.if-len-limit.false);
      within = omega (arith, c.loop-spent-test.true);
      counted = omega (arith, inv.counted, t.3);
      steps = omega (arith, inv.steps, c.take_turn.ensures.steps);
    }

pub returns-in-End-clause-paced : goal.returns-in-End-clause-paced
returns-in-End-clause-paced g c =
    let hits = c.args.hits.now in
    let inv = c.loop-spent.invariant in
    let keys = c.loop-spent.keys.items in
    let t = rw c.in-End.is at c.in_ok-take_turn.ensures.turn in
    paced_ended hits.rows hits.query hits.place c.args.begins.now c.loop-spent.hits keys c.loop-spent.spent c.loop-spent.begins inv.keys c.take_turn.new.hits c.take_turn.new.begins t.0
    c.args.limit c.args.budget c.args.turns.now c.take_turn.new.turns c.take_turn.new.keys.items c.take_turn.new.hits.place t.1 refl inv.fewer inv.within (t.2 ∙ inv.counted)

pub returns-in-End-clause-begins : goal.returns-in-End-clause-begins
returns-in-End-clause-begins g c =
    let hits = c.args.hits.now in
    let inv = c.loop-spent.invariant in
    let keys = c.loop-spent.keys.items in
    let t = rw c.in-End.is at c.in_ok-take_turn.ensures.turn in
    begins_ended hits.rows hits.query hits.place c.args.begins.now c.loop-spent.hits keys c.loop-spent.spent c.loop-spent.begins inv.keys c.take_turn.new.hits c.take_turn.new.begins t.0
    c.take_turn.new.keys.items c.take_turn.new.hits.place t.1

pub returns-then-len-limit-clause-paced : goal.returns-then-len-limit-clause-paced
returns-then-len-limit-clause-paced g c =
    let hits = c.args.hits.now in
    let inv = c.loop-spent.invariant in
    let keys = c.loop-spent.keys.items in
    let t = rw c.in-Item.is at c.in_ok-take_turn.ensures.turn in
    let full = c.take_turn.new.keys.ok.0 in
    paced_full hits.rows hits.query hits.place c.args.begins.now c.loop-spent.hits keys c.loop-spent.spent c.loop-spent.begins inv.keys c.requires.fits
    c.take_turn.new.hits t.0 c.take_turn.new.begins t.1
    c.args.limit c.args.budget c.args.turns.now c.take_turn.new.turns c.take_turn.new.keys.items c.take_turn.new.hits.place t.2 refl
    (omega (arith, ap length t.2, full, c.len.ensures, c.if-len-limit.true)) c.loop-spent-test.true (omega (arith, inv.counted, t.3))

pub returns-then-len-limit-clause-begins : goal.returns-then-len-limit-clause-begins
returns-then-len-limit-clause-begins g c =
    let hits = c.args.hits.now in
    let inv = c.loop-spent.invariant in
    let keys = c.loop-spent.keys.items in
    let t = rw c.in-Item.is at c.in_ok-take_turn.ensures.turn in
    begins_full hits.rows hits.query hits.place c.args.begins.now c.loop-spent.hits keys c.loop-spent.spent c.loop-spent.begins inv.keys c.requires.fits
    c.take_turn.new.hits t.0 c.take_turn.new.begins t.1
    c.take_turn.new.keys.items c.take_turn.new.hits.place t.2

pub returns-clause-paced : goal.returns-clause-paced
returns-clause-paced g c =
    let hits = c.args.hits.now in
    let inv = c.loop-spent.invariant in
    let keys = c.loop-spent.keys.items in
    paced_spent hits.rows hits.query hits.place c.args.begins.now c.loop-spent.hits keys c.loop-spent.spent c.loop-spent.begins inv.keys
    c.args.limit c.args.budget c.args.turns.now c.loop-spent.turns keys c.loop-spent.hits.place refl refl inv.fewer (omega (arith, inv.within, c.loop-spent-test.false)) inv.counted c.requires.short

pub returns-clause-begins : goal.returns-clause-begins
returns-clause-begins g c =
    let hits = c.args.hits.now in
    let inv = c.loop-spent.invariant in
    let keys = c.loop-spent.keys.items in
    begins_spent hits.rows hits.query hits.place c.args.begins.now c.loop-spent.hits keys c.loop-spent.spent c.loop-spent.begins inv.keys keys c.loop-spent.hits.place refl refl
