use Rattle.std.proofs.Common.{◌≡◌, drop}
use Rattle.std.specs.List.{list_any}
use Rattle.mk_model.specs.Labels.{asks_rest_hydrogens, site_labels}
use Rattle.mk_layout.proofs.sites.draws_rest_hydrogens.Given as goal

abbrev pub invariant-loop-g : goal.invariant-loop-g
invariant-loop-g l = list_any (asks_rest_hydrogens l.query) (drop l.g-index (site_labels l.slot)) ≡ list_any (asks_rest_hydrogens l.query) (site_labels l.slot)
