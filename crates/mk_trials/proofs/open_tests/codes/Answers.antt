use Rattle.std.proofs.Common.{◌≡◌, ◌∙◌, ◌-◌, ◌≤◌, ℕ, ◌∷◌, [], length, refl, ap, arith}
use Rattle.mk_model.specs.Codes.{IsCode}
use Rattle.mk_model.specs.Codes.Choice.{done, repeated, unfilled}
use Rattle.mk_model.specs.Labels.{joint_members}
use Rattle.mk_model.specs.Nodes.{BeginsCode}
use Rattle.mk_model.specs.OpenSlots.{most_at}
use Rattle.mk_model.specs.Queries.{slots_of}
use Rattle.mk_model.proofs.FitsOnLiterals.{query, root}
use Rattle.mk_model.proofs.OnLiterals.{group, plain_group, single}
use Rattle.mk_open_codes.specs.Alone.{root_slot}
use Rattle.mk_trials.proofs.open_tests.codes.Goals as goal

-- the link stands twice, and the site is vacant
code_is : IsCode query 0 (2 ∷ 4 ∷ [])
unfolding query root plain_group group single joint_members
code_is = record { choice = repeated 2 (unfilled 4 done); made = (omega arith, omega arith, (refl, tt)); spelt = refl }

begins : BeginsCode query (2 ∷ [])
begins = record { more = 4 ∷ []; code = code_is }

two_slots : length (slots_of query 0) ≡ 2
unfolding query root
two_slots = refl

-- three members may fill the site
three_at : 3 ≤ most_at query (root_slot query 1)
unfolding query root plain_group group single joint_members
three_at = omega arith

pub overflow_sub-last : goal.overflow_sub-last
overflow_sub-last c =
    let two : length (slots_of c.in_ok-query.query 0) ≡ 2 = rw c.in_ok-query.ensures two_slots in
    omega (arith, two, c.root_slots-last.ensures)

pub front_code-requires : goal.front_code-requires
front_code-requires c = rw c.in_ok-query.ensures begins

pub alone_code-requires-clause-most : goal.alone_code-requires-clause-most
alone_code-requires-clause-most c =
    let two : length (slots_of c.in_ok-query.query 0) ≡ 2 = rw c.in_ok-query.ensures two_slots in
    let last : c.root_slots-last.result - 1 ≡ 1 = omega (arith, two, c.root_slots-last.ensures) in
    rw (last, c.in_ok-query.ensures) three_at

pub root_places-requires : goal.root_places-requires
root_places-requires c = rw c.in_ok-query.ensures code_is
