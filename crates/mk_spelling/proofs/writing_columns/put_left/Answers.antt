use Rattle.std.proofs.Common.{◌≡◌, ◌++◌, ◌-◌, ◌+◌, ℕ, length, replicate, ap, ◌∙◌, arith}
use Rattle.mk_spelling.specs.TableSpelling.{at_left}
use Rattle.mk_spelling.proofs.AppendLemmas.{two_texts, blank_more}
use Rattle.mk_spelling.proofs.writing_columns.put_left.Goals as goal

pub loop-i-preserved : goal.loop-i-preserved
loop-i-preserved c = (
  blank_more c.extend_from_slice.new.self.items c.loop-i.out.items c.push.new.self.items (c.loop-i.i - length c.args.text.now) (c.loop-i.i + 1 - length c.args.text.now)
      c.loop-i.invariant.0 c.in_ok-push.ensures.items (omega arith),
  omega arith,
)

pub returns : goal.returns
unfolding at_left
returns c =
    let blanks : c.loop-i.i - length c.args.text.now ≡ c.args.width - length c.args.text.now = omega arith in
    two_texts c.args.out.now.items c.extend_from_slice.new.self.items c.loop-i.out.items c.args.text.now (replicate (c.args.width - length c.args.text.now) 32)
    c.in_ok-extend_from_slice.ensures.items (c.loop-i.invariant.0 ∙ ap (λ (n : ℕ). c.extend_from_slice.new.self.items ++ replicate n 32) blanks)
