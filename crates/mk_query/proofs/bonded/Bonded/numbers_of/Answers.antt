use Rattle.std.proofs.Common.{◌∙◌, ap, sym, ℕ}
use Rattle.mk_model.specs.Edges.{rows_of}
use Rattle.mk_model.specs.Templates.{query_edges}
use Rattle.mk_query.proofs.BlockSearchLemmas.{numbers_of}
use Rattle.mk_query.proofs.bonded.Bonded.numbers_of.Goals as goal

pub returns : goal.returns
returns c =
    let own = c.args.self.now in
    numbers_of own.bonds.now own.near c.args.y c.at.result.now (own.rows ∙ ap (λ (n : ℕ). rows_of n (query_edges own.bonds.now)) (sym own.size)) c.requires.least
    (rw (sym own.size) at c.requires.most) c.at.ensures
