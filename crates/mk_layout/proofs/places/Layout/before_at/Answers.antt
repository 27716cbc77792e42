use Rattle.std.proofs.Common.{length, ap, arith}
use Rattle.mk_layout.specs.Laid.{Laid}
use Rattle.mk_pieces.proofs.ForCallers.{room_within}
use Rattle.mk_layout.proofs.places.Layout.before_at.Goals as goal

pub returns-clause-small : goal.returns-clause-small
returns-clause-small c =
    let laid = c.self.invariant in
    let template = c.self.inside.template.now in
    let most = ap (λ (l : Laid). length l.template.atoms) c.self.view_is in
    let up = room_within template c.self.inside.pieces.now c.args.i (length template.atoms) (omega (arith, c.requires, most)) in
    omega (arith, c.requires, most, laid.each c.args.i (omega (arith, c.requires, most, laid.size)), up, laid.fits.room)
