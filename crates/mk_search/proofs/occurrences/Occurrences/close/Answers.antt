use Rattle.std.proofs.Common.{◌≡◌, Option, Some, refl, subst, sym}
use Rattle.std.specs.Prelude.{IfSome}
use Rattle.mk_model.specs.Graphs.{GraphView}
use Rattle.mk_search.specs.declared.occurrences.Open.{Open}
use Rattle.mk_expansions.specs.Kept.{IsKept}
use Rattle.mk_search.specs.Occurrences.{IsOpenOf}
use Rattle.mk_search.proofs.occurrences.Occurrences.close.Goals as goal

pub returns-clause-belongs : goal.returns-clause-belongs
returns-clause-belongs c =
    let self = c.args.self.now in
    let open' = c.in-Some.open in
    let e : self.open ≡ Some open' = (let value = c.replace.ensures.value in let is = c.in-Some.is in cc) in
    let of : IsOpenOf self.query.now open' = subst (λ (m : Option Open). IfSome m (IsOpenOf self.query.now)) e c.requires.of in
    let kept = subst (λ (g : GraphView). IsKept self.query.now (record { code = open'.code; graph = g; asked = open'.asked; need = open'.need })) (sym c.into_graph.ensures) of in
    record {
      query_is = refl;
      codes_of = c.requires.belongs.codes_of;
      fronts_of = c.requires.belongs.fronts_of;
      kept_are = c.keep.ensures self.query.now c.requires.belongs.kept_are kept;
    }
