use Rattle.std.proofs.Common.{◌≡◌, ◌∙◌, ◌≤◌, ℕ, length, get_or, sym, ap, arith}
use Rattle.mk_model.specs.Pieces.{piece_numbered, width}
use Rattle.mk_layout.proofs.LaidLemmas.{numbered_is}
use Rattle.mk_expand.proofs.OpenedLemmas.{fits_there}
use Rattle.mk_expand.proofs.joining.put_atoms.Goals as goal

pub put_copies-requires-clause-within : goal.put_copies-requires-clause-within
put_copies-requires-clause-within c =
    let wide : 1 ≡ width (piece_numbered c.args.pieces.now (get_or c.args.takers.now c.args.i 0)) = sym (ap (λ (k : ℕ). width (piece_numbered c.args.pieces.now k)) c.if-number-eq0.true) in
    omega (arith, fits_there c.args.template.now c.args.pieces.now c.args.takers.now c.args.loose.now c.args.i 1 c.requires.takers c.requires.loose c.requires.i wide, c.requires.out)

pub put_copies-requires-in-Copies-clause-within : goal.put_copies-requires-in-Copies-clause-within
put_copies-requires-in-Copies-clause-within c =
    let within : get_or c.args.takers.now c.args.i 0 ≤ length c.args.pieces.now =
    omega (arith, c.requires.takers.within c.args.i (omega (arith, c.requires.i, c.requires.takers.size)), c.requires.pieces.size) in
    let numbered = numbered_is c.args.pieces.now _ _ c.if-number-eq0.false within c.index-pieces-number.is in
    let shown = rw c.in-Copies.is at c.shape.ensures in
    let wide = ap width (shown ∙ numbered) in
    let there = fits_there c.args.template.now c.args.pieces.now c.args.takers.now c.args.loose.now c.args.i _ c.requires.takers c.requires.loose c.requires.i wide in
    omega (arith, there, c.requires.out)

pub put_part-requires-clause-within : goal.put_part-requires-clause-within
put_part-requires-clause-within c =
    let within : get_or c.args.takers.now c.args.i 0 ≤ length c.args.pieces.now =
    omega (arith, c.requires.takers.within c.args.i (omega (arith, c.requires.i, c.requires.takers.size)), c.requires.pieces.size) in
    let numbered = numbered_is c.args.pieces.now _ _ c.if-number-eq0.false within c.index-pieces-number.is in
    let shown = rw c.in-Member.is at c.shape.ensures in
    let wide = ap width (shown ∙ numbered) in
    let there = fits_there c.args.template.now c.args.pieces.now c.args.takers.now c.args.loose.now c.args.i _ c.requires.takers c.requires.loose c.requires.i wide in
    omega (arith, ap length c.atoms-in-Member.ensures, there, c.requires.out)

pub put_hydrogens-requires-clause-within : goal.put_hydrogens-requires-clause-within
put_hydrogens-requires-clause-within c =
    let within : get_or c.args.takers.now c.args.i 0 ≤ length c.args.pieces.now =
    omega (arith, c.requires.takers.within c.args.i (omega (arith, c.requires.i, c.requires.takers.size)), c.requires.pieces.size) in
    let numbered = numbered_is c.args.pieces.now _ _ c.if-number-eq0.false within c.index-pieces-number.is in
    let shown = rw c.in-Hydrogens.is at c.shape.ensures in
    let wide = ap width (shown ∙ numbered) in
    let there = fits_there c.args.template.now c.args.pieces.now c.args.takers.now c.args.loose.now c.args.i _ c.requires.takers c.requires.loose c.requires.i wide in
    omega (arith, there, c.requires.out)
