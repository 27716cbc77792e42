use Rattle.std.proofs.Common.{◌∙◌, sym}
use Rattle.mk_query.proofs.SlotMarkLemmas.{placed_here, placed_on}
use Rattle.mk_query.proofs.site_orders.atom_placed.Goals as goal

pub loop-entry-preserved : goal.loop-entry-preserved
loop-entry-preserved c = placed_on c.args.k c.loop-entry.entry-index c.args.entries.now _ c.loop-entry-test.true (sym c.has_place.ensures ∙ c.if-has_place.false) c.loop-entry.invariant

pub returns-then-has_place : goal.returns-then-has_place
returns-then-has_place c =
    c.placed_atom.ensures ∙ placed_here c.args.k c.loop-entry.entry-index c.args.entries.now _ c.loop-entry-test.true (sym c.has_place.ensures ∙ c.if-has_place.true) c.loop-entry.invariant
