use Rattle.std.proofs.Common.{◌≡◌, ◌≤◌, length, take, sum_by}
use Rattle.mk_query.specs.OwnSizes.{Marks, is_taken}
use Rattle.mk_query.specs.RootSizes.{capped, link_size}
use Rattle.mk_query.proofs.own_sizes.own_size.Given as goal

abbrev pub invariant-loop-i : goal.invariant-loop-i
invariant-loop-i l =
    record {
      taken : Marks (length l.template.atoms) (is_taken l.template l.i) l.taken.items;
      links : l.links ≡ capped (sum_by (link_size l.template) (take l.i l.template.slots));
      few : l.links ≤ 513;
    }
