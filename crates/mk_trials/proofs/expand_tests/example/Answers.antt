use Rattle.std.proofs.Common.{◌∷◌, [], refl, arith}
use Rattle.mk_model.specs.Codes.{IsCode}
use Rattle.mk_model.specs.Codes.Choice.{done, repeated, filled}
use Rattle.mk_model.specs.Labels.{joint_members}
use Rattle.mk_model.proofs.FitsOnLiterals.{query, root}
use Rattle.mk_model.proofs.OnLiterals.{group, plain_group, single}
use Rattle.mk_trials.proofs.expand_tests.example.Goals as goal

-- the code is one of this query
code_made : IsCode query 0 (2 ∷ 2 ∷ [])
unfolding query root plain_group group single joint_members
code_made = record { choice = repeated 2 (filled 2 done done); made = (omega arith, omega arith, (omega arith, omega arith, tt, tt)); spelt = refl }

pub expand-requires : goal.expand-requires
expand-requires c = rw c.in_ok-query.ensures code_made
