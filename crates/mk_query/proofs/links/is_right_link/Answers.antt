use Rattle.std.proofs.Common.{refl}
use Rattle.mk_query.proofs.LinkLemmas.{right_link_last}
use Rattle.mk_query.proofs.links.is_right_link.Goals as goal

pub returns : goal.returns
returns c =
    right_link_last c.has_plain_block.result c.args.bonded.now.atoms c.args.bonded.now.bonds.now c.args.standing.now c.args.x c.args.link.now
    (c.if-not-linkable.ensures.0 refl) (rw c.ends_of-ends.ensures at (c.if-not-alike.ensures.0 refl)) (rw c.ends_of-ends.ensures at c.has_plain_block.ensures)
