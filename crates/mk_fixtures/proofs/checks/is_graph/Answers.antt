use Rattle.mk_fixtures.proofs.checks.is_graph.Goals as goal

pub returns-then-are_between : goal.returns-then-are_between
returns-then-are_between c = λ yes. record { ends = c.are_between.ensures c.if-are_between.true; once = c.are_apart.ensures yes }
