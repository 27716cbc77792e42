use Rattle.std.proofs.Common.{◌≡◌, ◌++◌, length, map, take}
use Rattle.mk_query.specs.Drawn.{by_numbers, symbol_lists}
use Rattle.mk_query.specs.ListMarks.{AreInForce}
use Rattle.mk_query.proofs.list_places.list_places.Given as goal

abbrev pub invariant-loop-i : goal.invariant-loop-i
invariant-loop-i l =
    record {
      size : length l.places.items ≡ length l.table.atoms;
      force : AreInForce l.table.lists l.table.props (map by_numbers (take l.i l.table.lists)) l.places.items;
    }

abbrev pub invariant-loop-j : goal.invariant-loop-j
invariant-loop-j l =
    record {
      size : length l.places.items ≡ length l.table.atoms;
      force : AreInForce l.table.lists l.table.props (map by_numbers l.table.lists ++ symbol_lists (take l.j l.table.props)) l.places.items;
    }
