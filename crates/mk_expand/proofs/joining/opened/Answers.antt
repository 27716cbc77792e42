use Rattle.std.proofs.Common.{◌∙◌, refl}
use Rattle.mk_model.specs.Expansions.{joined}
use Rattle.mk_pieces.proofs.ForCallers.{bonds_within, slots_stand}
use Rattle.mk_expand.specs.OpenGraphs.{opened}
use Rattle.mk_expand.proofs.joining.opened.Goals as goal

pub loose_of-requires : goal.loose_of-requires
loose_of-requires c = rw c.of-layout.ensures (bonds_within _ c.requires.template)

pub put_template_bonds-requires : goal.put_template_bonds-requires
put_template_bonds-requires c = rw c.of-layout.ensures (bonds_within _ c.requires.template)

pub put_all_within-requires : goal.put_all_within-requires
put_all_within-requires c = rw c.of-layout.ensures (slots_stand _ c.requires.template)

pub returns : goal.returns
unfolding opened joined
returns c = c.of.ensures ∙ rw (c.in_ok-atoms.ensures, c.in_ok-put_all_within.ensures, c.in_ok-put_template_bonds.ensures, c.in_ok-bonds.ensures.items, c.in_ok-points.ensures, c.of-layout.ensures) refl
