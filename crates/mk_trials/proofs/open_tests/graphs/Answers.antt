use Rattle.std.proofs.Common.{◌∷◌, [], refl, arith}
use Rattle.mk_model.specs.Labels.{joint_members}
use Rattle.mk_model.proofs.FitsOnLiterals.{query, root}
use Rattle.mk_model.proofs.OnLiterals.{group, plain_group, single}
use Rattle.mk_expand.specs.OpenCodes.{IsOpenCode}
use Rattle.mk_expand.specs.OpenCodes.OpenChoice.{fills, no_more, repeats, undecided}
use Rattle.mk_trials.proofs.open_tests.graphs.Goals as goal

-- the codes are open codes of this query
open_link : IsOpenCode query 0 (0 ∷ 2 ∷ [])
unfolding query root plain_group group single joint_members
open_link = record { choice = undecided (fills 2 no_more no_more); made = (omega arith, omega arith, tt, tt); spelt = refl }

open_site : IsOpenCode query 0 (2 ∷ 0 ∷ [])
unfolding query root
open_site = record { choice = repeats 2 (undecided no_more); made = (omega arith, omega arith, tt); spelt = refl }

both_open : IsOpenCode query 0 (0 ∷ 0 ∷ [])
unfolding query root
both_open = record { choice = undecided (undecided no_more); made = tt; spelt = refl }

pub open_graph-requires : goal.open_graph-requires
open_graph-requires c = rw c.in_ok-query.ensures open_link

pub open_graph-requires-2 : goal.open_graph-requires-2
open_graph-requires-2 c = rw c.in_ok-query.ensures open_site

pub open_graph-requires-3 : goal.open_graph-requires-3
open_graph-requires-3 c = rw c.in_ok-query.ensures both_open
