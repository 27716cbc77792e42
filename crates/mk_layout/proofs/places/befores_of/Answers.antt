use Rattle.std.proofs.Common.{◌≡◌, ◌∙◌, ◌+◌, ◌≤◌, ap, sym, length, arith, get_or, rules}
use Rattle.mk_model.specs.Pieces.{room, taker, width, piece_numbered}
use Rattle.mk_layout.proofs.LaidLemmas.{befores_none, befores_more}
use Rattle.mk_pieces.proofs.ForCallers.{room_more, room_none, room_within}
use Rattle.mk_layout.proofs.places.befores_of.Goals as goal

pub loop-number-init : goal.loop-number-init
loop-number-init c = (sym (room_none c.args.template.now c.args.pieces.now), rw (c.in_ok-push.ensures.items, c.in_ok-befores.ensures.items) (befores_none _ _))

pub overflow_add-total : goal.overflow_add-total
overflow_add-total c =
    let up = room_within c.args.template.now c.args.pieces.now c.loop-number.number-index (length c.args.template.now.atoms) (omega (arith, c.requires.takers.size)) in
    let small : c.loop-number.total ≤ 512 = omega (arith, c.loop-number.invariant.0, c.requires.pieces.room) in
    let width : c.width_numbered-total.result ≤ 512 = c.width_numbered-total.ensures.small in
    search rules

pub loop-number-preserved : goal.loop-number-preserved
loop-number-preserved c =
    let i = c.loop-number.number-index in
    let taken : get_or c.args.takers.now i 0 ≡ taker c.args.template.now (i + 1) = c.requires.takers.each i c.loop-number-test.true in
    let wide : c.width_numbered-total.result ≡ width (piece_numbered c.args.pieces.now (taker c.args.template.now (i + 1))) = c.width_numbered-total.ensures.width
    ∙ ap (λ n. width (piece_numbered c.args.pieces.now n)) taken in
    let total : c.loop-number.total + c.width_numbered-total.result ≡ room c.args.template.now c.args.pieces.now (i + 1) =
    omega (arith, room_more c.args.template.now c.args.pieces.now i, c.loop-number.invariant.0, wide) in
    (total, rw c.in_ok-push-2.ensures.items (befores_more _ _ i _ _ c.loop-number.invariant.1 total))
