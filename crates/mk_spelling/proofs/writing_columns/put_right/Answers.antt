use Rattle.std.proofs.Common.{◌++◌, ℕ, decimal, codes, sym, ap, ◌∙◌}
use Rattle.mk_text.specs.Spelling.{right_in}
use Rattle.mk_spelling.proofs.AppendLemmas.{text_last, as_last}
use Rattle.mk_spelling.proofs.ThreeLemmas.{right_one, right_two, right_three}
use Rattle.mk_spelling.proofs.writing_columns.put_right.Goals as goal

pub returns-then-n-lt10 : goal.returns-then-n-lt10
returns-then-n-lt10 c =
    text_last c.put_number.result c.args.out.now.items c.extend_from_slice.new.self.items c.put_number.new.out.items (codes "  ") (decimal c.from.result) (right_in 3 c.args.n)
    c.in_ok-extend_from_slice.ensures.items c.put_number.ensures.ok
    (right_one c.args.n c.if-n-lt10.true ∙ ap (λ (k : ℕ). codes "  " ++ decimal k) (sym c.from.ensures))

pub returns-then-n-lt100 : goal.returns-then-n-lt100
returns-then-n-lt100 c =
    text_last c.put_number-then-n-lt100.result c.args.out.now.items c.extend_from_slice-then-n-lt100.new.self.items c.put_number-then-n-lt100.new.out.items (codes " ")
    (decimal c.from-then-n-lt100.result) (right_in 3 c.args.n) c.in_ok-extend_from_slice-2.ensures.items c.put_number-then-n-lt100.ensures.ok
    (right_two c.args.n c.if-n-lt10.false c.if-n-lt100.true ∙ ap (λ (k : ℕ). codes " " ++ decimal k) (sym c.from-then-n-lt100.ensures))

pub returns : goal.returns
returns c =
    as_last c.put_number-2.result c.args.out.now.items c.put_number-2.new.out.items (decimal c.from-2.result) (right_in 3 c.args.n)
    (ap decimal c.from-2.ensures ∙ sym (right_three c.args.n c.if-n-lt100.false c.requires)) c.put_number-2.ensures.ok
