use Rattle.std.proofs.Common.{◌++◌, ◌∷◌, ℕ, decimal, codes, sym, ap, ◌∙◌}
use Rattle.mk_text.specs.Spelling.{at_right}
use Rattle.mk_spelling.proofs.AppendLemmas.{text_last}
use Rattle.mk_spelling.proofs.ThreeLemmas.{minus_one, minus_two}
use Rattle.mk_spelling.proofs.writing_columns.put_minus.Goals as goal

pub returns-then-n-lt10 : goal.returns-then-n-lt10
returns-then-n-lt10 c =
    text_last c.put_number.result c.args.out.now.items c.extend_from_slice.new.self.items c.put_number.new.out.items (codes " -") (decimal c.from.result) (at_right 3 (45 ∷ decimal c.args.n))
    c.in_ok-extend_from_slice.ensures.items c.put_number.ensures.ok
    (minus_one c.args.n c.if-n-lt10.true ∙ ap (λ (k : ℕ). codes " -" ++ decimal k) (sym c.from.ensures))

pub returns : goal.returns
returns c =
    text_last c.put_number-2.result c.args.out.now.items c.extend_from_slice-2.new.self.items c.put_number-2.new.out.items (codes "-") (decimal c.from-2.result) (at_right 3 (45 ∷ decimal c.args.n))
    c.in_ok-extend_from_slice-2.ensures.items c.put_number-2.ensures.ok
    (minus_two c.args.n c.if-n-lt10.false c.requires ∙ ap (λ (k : ℕ). codes "-" ++ decimal k) (sym c.from-2.ensures))
