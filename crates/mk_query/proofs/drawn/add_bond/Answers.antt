use Rattle.std.proofs.Common.{sym}
use Rattle.mk_query.proofs.NearLemmas.{bond-once, bond-twice}
use Rattle.mk_query.proofs.drawn.add_bond.Goals as goal

pub returns-then-second-first : goal.returns-then-second-first
returns-then-second-first c =
    bond-twice c.args.bond.now c.first_end-first.result c.second_end-second.result c.args.near.now.items c.add_neighbour.new.near.items c.add_neighbour-then-second-first.new.near.items
    c.first_end-first.ensures c.second_end-second.ensures c.if-second-first.true c.add_neighbour.ensures c.add_neighbour-then-second-first.ensures

pub returns-else-second-first : goal.returns-else-second-first
returns-else-second-first c =
    bond-once c.args.bond.now c.first_end-first.result c.second_end-second.result c.args.near.now.items c.add_neighbour.new.near.items
    c.first_end-first.ensures c.second_end-second.ensures (sym c.if-second-first.false) c.add_neighbour.ensures
