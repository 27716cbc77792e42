use Rattle.std.proofs.Common.{arith, ◌≡◌, ◌-◌, ◌<◌, ℕ, zero, suc, false, List, [], ◌∷◌, ◌++◌, length, take, get_or, sym, ap, ◌∙◌}
use Rattle.std.specs.Prelude.{◌==◌}
use Rattle.std.proofs.Math.Seq.{take-suc}
use Rattle.std.proofs.lemmas.Bool.{ne_eqb}
use Rattle.std.proofs.lemmas.List.{take_all}
use Rattle.mk_text.specs.Lines.{without_cr}
use Rattle.mk_text.proofs.PieceLemmas.{without_cr-at_cr, without_cr-at_other}
use Rattle.mk_talk.proofs.cutting.line_of.Goals as goal

has_some : (n : ℕ) → false ≡ (n == 0) → 0 < n
has_some zero is = absurd cc
has_some (suc n) is = omega arith

-- a line as its front and its last byte
whole : (line : List ℕ) → 0 < length line → line ≡ take (length line - 1) line ++ get_or line (length line - 1) 0 ∷ []
whole line some =
    let n : suc (length line - 1) ≡ length line = omega (arith, some) in
    sym (take_all (suc (length line - 1)) line (omega (arith, n))) ∙ take-suc line (length line - 1) 0 (omega (arith, some))

pub returns-then-piece-last-ne13 : goal.returns-then-piece-last-ne13
returns-then-piece-last-ne13 c =
    let line = c.args.piece.now in
    let w = whole line (has_some (length line) c.if-is_empty.ensures) in
    w ∙ sym (ap without_cr w ∙ without_cr-at_other (take (length line - 1) line) (get_or line (length line - 1) 0) (ne_eqb _ _ c.if-piece-last-ne13.true))

pub returns : goal.returns
returns c =
    let line = c.args.piece.now in
    let w = whole line (has_some (length line) c.if-is_empty.ensures) in
    sym (ap without_cr w ∙ without_cr-at_cr (take (length line - 1) line) (get_or line (length line - 1) 0) c.if-piece-last-ne13.false)
