use Rattle.std.proofs.Common.{◌≡◌, length}
use Rattle.mk_query.specs.SiteChecks.{HasSiteOrder}
use Rattle.mk_query.proofs.OrderLemmas.{AreSeen, FindsBehind}
use Rattle.mk_query.proofs.orders.first_disordered_site.Given as goal

abbrev pub invariant-loop-i : goal.invariant-loop-i
invariant-loop-i l =
    record {
      size : length l.seen.items ≡ length l.notes.table.now.atoms;
      seen : AreSeen l.notes.table.now.props l.i l.seen.items;
      found : FindsBehind (HasSiteOrder l.notes.table.now) l.i l.found;
    }
