-- The bonds of a template.
--     simple_template     they are a simple list of edges: ends in range and distinct, no pair twice
use Rattle.std.proofs.Common.{length}
use Rattle.std.proofs.lemmas.List.Elements.{All-map}
use Rattle.mk_model.specs.Edges.{IsBetween, IsSimple}
use Rattle.mk_model.specs.QueryFits.{HasPairsOnce, IsInRange}
use Rattle.mk_model.specs.Templates.{TemplateView, query_edge, query_edges}

pub simple_template : (template : TemplateView) → IsInRange template → HasPairsOnce template → IsSimple (length template.atoms) (query_edges template.bonds)
simple_template template in_range pairs = record {
  ends = All-map (IsBetween (length template.atoms)) query_edge template.bonds
      (λ k d below. record { first = (in_range.ends k d below).0; second = (in_range.ends k d below).1; differ = pairs.differ k d below });
  once = pairs.once;
}
