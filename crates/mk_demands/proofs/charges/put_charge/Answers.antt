use Rattle.std.proofs.Common.{◌≡◌, ◌∙◌, ap, refl, rules, arith, w8, w32}
use Rattle.std.proofs.lemmas.Int.{to_z-of_z}
use mir.Val.{SFits}
use Rattle.mk_demands.specs.Numbers.{natural}
use Rattle.mk_demands.proofs.EdgeLemmas.{atom_within}
use Rattle.mk_demands.proofs.ChargePuttingLemmas.{put-charge}
use Rattle.mk_demands.proofs.charges.put_charge.Goals as goal

pub returns-clause-put : goal.returns-clause-put
returns-clause-put c =
    let value : SFits w32 c.args.pair.value = search rules in
    let atom : SFits w32 c.args.pair.atom = search rules in
    let small : SFits w8 c.charge_of_value.result = search rules in
    let number : c.natural.result ≡ natural c.args.pair.atom = c.natural.ensures ∙ ap natural (to_z-of_z w32 c.args.pair.atom atom) in
    let within = atom_within _ c.args.pair.atom c.requires.for_atoms in
    put-charge c.args.list.now c.args.pair c.natural.result _ _ number (omega (arith, number, within.0)) (omega (arith, number, within.1))
    (to_z-of_z w8 c.charge_of_value.result small ∙ c.charge_of_value.ensures ∙ to_z-of_z w32 c.args.pair.value value) refl
