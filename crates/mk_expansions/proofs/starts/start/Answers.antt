use Rattle.std.proofs.Common.{inl, drop, sym}
use Rattle.std.proofs.lemmas.List.{take-append-drop}
use Rattle.mk_expansions.proofs.starts.start.Goals as goal

pub returns-in-Some : goal.returns-in-Some
returns-in-Some c = inl (c.in-Some.ensures.code.1, drop c.in-Some.n c.args.rest.now, sym (take-append-drop c.in-Some.n c.args.rest.now))
