use Rattle.std.proofs.Common.{◌≡◌, ◌∙◌, ap, length, subst, arith}
use Rattle.mk_model.specs.Graphs.{GraphView, IsGraph}
use Rattle.mk_model.proofs.graph.Graph.atom_count.Goals as goal

count : (c : goal.After-len) → c.len.result ≡ length c.args.self.now.atoms
count c = c.len.ensures ∙ c.self.inside.atoms.ok.0 ∙ ap (λ (g : GraphView). length g.atoms) c.self.view_is

pub overflow_cast-result : goal.overflow_cast-result
overflow_cast-result c = omega (arith, count c, (subst IsGraph c.self.view_is c.self.invariant.holds).sketch.few)

pub returns : goal.returns
returns c =
    let kept = subst IsGraph c.self.view_is c.self.invariant.holds in
    record { count = count c; few = omega (arith, count c, kept.sketch.few); kept = kept }
