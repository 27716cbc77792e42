use Rattle.std.proofs.Common.{inl, inr, refl, Some, None}
use Rattle.std.proofs.lemmas.Bool.Decides.{Decides-eqb}
use Rattle.std.proofs.lemmas.Slice.Eq.{strip_prefix_is}
use Rattle.mk_expansions.proofs.starts.behind.Goals as goal

pub returns-in-Some : goal.returns-in-Some
returns-in-Some c = inl (strip_prefix_is Decides-eqb c.args.rest.now c.args.code.now (Some c.in-Some.back) c.in-Some.ensures.cases)

pub returns-in-None : goal.returns-in-None
returns-in-None c = inr (refl, strip_prefix_is Decides-eqb c.args.rest.now c.args.code.now None c.in-None.ensures.cases)
