use Rattle.std.proofs.Common.{◌∙◌, ap, arith, length}
use Rattle.std.proofs.lemmas.List.{length-map}
use Rattle.mk_model.specs.Templates.{query_edge}
use Rattle.mk_query.proofs.bonded.Bonded.of.Goals as goal

pub of-requires-clause-few : goal.of-requires-clause-few
of-requires-clause-few c = omega (arith, ap length (c.deref.ensures.value ∙ c.in_ok-edges.ensures), length-map c.args.bonds.now query_edge, c.requires.few_bonds)
