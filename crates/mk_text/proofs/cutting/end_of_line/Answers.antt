use Rattle.std.proofs.Common.{arith, ◌≡◌, ◌-◌, ◌+◌, ◌≤◌, ◌<◌, ℕ, List, [], take, drop, sym, ap, ◌∙◌, get_or}
use Rattle.std.specs.Prelude.{slice_range}
use Rattle.std.proofs.lemmas.Bool.Decides.{nat_tests}
use Rattle.mk_text.specs.Lines.{without_cr}
use Rattle.mk_text.proofs.PieceLemmas.{range_more, without_cr-at_cr, without_cr-at_other}
use Rattle.mk_text.proofs.cutting.end_of_line.Goals as goal
use Rattle.mk_text.proofs.cutting.end_of_line.Goals.{else-to-from-via-then-to-from+else-text-to-eq13, else-to-from-via-else-to-from}

same_end : (text : List ℕ) (from to : ℕ) → from < to → slice_range text from to ≡ slice_range text from ((to - 1) + 1)
same_end text from to lt = ap (slice_range text from) (omega arith)

nothing : (text : List ℕ) (from to : ℕ) → to ≤ from → slice_range text from to ≡ []
nothing text from to le = ap (λ n. take n (drop from text)) (let e : to - from ≡ 0 = omega arith in e)

pub returns-then-text-to-eq13-clause-line : goal.returns-then-text-to-eq13-clause-line
returns-then-text-to-eq13-clause-line c =
    let text = c.args.text.now in
    let e = same_end text c.args.from c.args.to (omega arith) ∙ range_more text c.args.from (c.args.to - 1) (omega arith) (omega arith) in
    sym (ap without_cr e ∙ without_cr-at_cr (slice_range text c.args.from (c.args.to - 1)) (get_or text (c.args.to - 1) 0) (omega arith))

pub returns-else-to-from-clause-line : goal.returns-else-to-from-clause-line
returns-else-to-from-clause-line c =
    let text = c.args.text.now in
    elim c.else-to-from.branch [
      | else-to-from-via-then-to-from+else-text-to-eq13 w ↦
          let e = same_end text c.args.from c.args.to (omega arith) ∙ range_more text c.args.from (c.args.to - 1) (omega arith) (omega arith) in
          e ∙ sym (ap without_cr e ∙ without_cr-at_other (slice_range text c.args.from (c.args.to - 1)) (get_or text (c.args.to - 1) 0) (grind (arith, nat_tests)))
      | else-to-from-via-else-to-from w ↦
          let e = nothing text c.args.from c.args.to (omega arith) in
          e ∙ sym (ap without_cr e)
    ]
