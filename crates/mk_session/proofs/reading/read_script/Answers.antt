use Rattle.std.proofs.Common.{◌≡◌, ◌∙◌, ◌<◌, ◌≤◌, ℕ, arith}
use Rattle.mk_session.proofs.ReadingLemmas.{taken_more, told_more}
use Rattle.mk_session.proofs.reading.read_script.Goals as goal

long : {n m a b : ℕ} → 16777216 < n → n ≡ m → a ≡ m → a ≤ b → 16777216 < b
long h e i k = omega arith

short : {n m a : ℕ} → n ≤ 16777216 → n ≡ m → a ≡ m → a ≤ 16777216
short h e i = omega arith

pub returns-clause-reads : goal.returns-clause-reads
returns-clause-reads g c =
    let l = told_more _ _ _ c.loop-chunk.invariant.told in
    ((l.text, l.is_told, long c.loop-chunk-test.false c.len.ensures c.loop-chunk.invariant.size l.longer), c.loop-chunk.invariant.count)

pub returns-clause-taken : goal.returns-clause-taken
returns-clause-taken g c = record { taken = _; is_taken = c.loop-chunk.invariant.told; few = c.loop-chunk.invariant.few }

pub returns-then-is_err-clause-taken : goal.returns-then-is_err-clause-taken
returns-then-is_err-clause-taken g c =
    taken_more _ _ _ _ _ c.in-Ok.count c.loop-chunk.invariant.told c.in-Ok.ensures.told.0
    (short c.loop-chunk-test.true c.len.ensures c.loop-chunk.invariant.size)
    (omega (arith, c.in-Ok.ensures.within, c.read.auto.buf)) (c.read.auto.buf ∙ c.loop-chunk.invariant.room)
