use Rattle.std.proofs.Common.{◌≡◌, ◌≤◌, length, subst, arith}
use Rattle.mk_text.specs.declared.cutting.Span.{Span}
use Rattle.mk_text.specs.LineStart.{IsLineStart}
use Rattle.mk_text.proofs.LineStartLemmas.{starts_last}
use Rattle.mk_text.proofs.line_start.start_of_line.Goals as goal

pub returns-then-at-lines-clause-start : goal.returns-then-at-lines-clause-start
returns-then-at-lines-clause-start c =
    let none : Span = record { from = 0; to = 0 } in
    c.requires.starts c.args.at none (omega arith)

pub returns-else-at-lines-clause-start : goal.returns-else-at-lines-clause-start
returns-else-at-lines-clause-start c =
    let there : c.args.at ≤ length c.args.lines.now = c.requires.there in
    let last : length c.args.lines.now ≡ c.args.at = omega arith in
    subst (λ n. IsLineStart c.args.text.now (record { line = n; byte = length c.args.text.now })) last (starts_last c.args.text.now c.args.lines.now c.requires.lines)
