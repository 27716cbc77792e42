use Rattle.mk_query_edits.proofs.queries.keep_found.Goals as goal

pub returns-clause-sought : goal.returns-clause-sought
returns-clause-sought g c = (c.in_ok-keep_file.ensures.comes (g.F.Files.look_up c.args.files.now) c.args.file.now c.in-Ok.ensures.found, c.in-Ok.ensures.counted)
