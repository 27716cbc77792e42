use Rattle.mk_session.proofs.FindingLemmas.{drills_fit, kept_without_files, seeks_without_files}
use Rattle.mk_session.proofs.findings.found_of.Goals as goal

pub returns-in-Match-clause-sought : goal.returns-in-Match-clause-sought
returns-in-Match-clause-sought g c = rw c.in-Match.is (rw (c.as_str.ensures, c.as_str-in-Match.ensures) at c.match_found.ensures.sought)

pub returns-in-Match-clause-missed : goal.returns-in-Match-clause-missed
returns-in-Match-clause-missed g c = rw c.in-Match.is (rw (c.as_str.ensures, c.as_str-in-Match.ensures) at c.match_found.ensures.missed)

pub returns-in-Load-clause-sought : goal.returns-in-Load-clause-sought
returns-in-Load-clause-sought g c = rw c.in-Load.is (rw c.as_str-in-Load.ensures at c.load_found.ensures.sought)

pub returns-in-Replace-clause-sought : goal.returns-in-Replace-clause-sought
returns-in-Replace-clause-sought g c = rw c.in-Replace.is (rw c.as_str-in-Replace.ensures at c.replace_found.ensures.sought)

pub returns-in-Query-clause-sought : goal.returns-in-Query-clause-sought
returns-in-Query-clause-sought g c = rw c.in-Query.is (rw (c.as_str-in-Query.ensures, c.as_str-in-Query-2.ensures) at c.keep_found.ensures.sought)

pub returns-in-Load-clause-fits : goal.returns-in-Load-clause-fits
returns-in-Load-clause-fits g c = c.load_found.ensures.fits c.args.saved.now

pub returns-in-Replace-clause-fits : goal.returns-in-Replace-clause-fits
returns-in-Replace-clause-fits g c = c.replace_found.ensures.fits c.args.saved.now

pub returns-in-Query-clause-fits : goal.returns-in-Query-clause-fits
returns-in-Query-clause-fits g c = c.keep_found.ensures.fits c.args.library.now

pub returns-in-Remove-clause-sought : goal.returns-in-Remove-clause-sought
returns-in-Remove-clause-sought g c = seeks_without_files _ _ _ _ _ _ c.without_files.ensures (rw c.in-Remove.is c.remove_found.ensures.comes)

pub returns-in-Remove-clause-fits : goal.returns-in-Remove-clause-fits
returns-in-Remove-clause-fits g c = rw c.without_files.ensures (kept_without_files _ _ (c.remove_found.ensures.fits c.args.saved.now))

pub returns-in-Show-clause-sought : goal.returns-in-Show-clause-sought
returns-in-Show-clause-sought g c = seeks_without_files _ _ _ _ _ _ c.without_files-in-Show.ensures (rw c.in-Show.is c.show_found.ensures.comes)

pub returns-in-Show-clause-fits : goal.returns-in-Show-clause-fits
returns-in-Show-clause-fits g c = rw c.without_files-in-Show.ensures (kept_without_files _ _ (c.show_found.ensures.fits c.args.saved.now))

pub returns-in-List-clause-sought : goal.returns-in-List-clause-sought
returns-in-List-clause-sought g c = seeks_without_files _ _ _ _ _ _ c.without_files-in-List.ensures (rw c.in-List.is c.list_found.ensures.comes)

pub returns-in-List-clause-fits : goal.returns-in-List-clause-fits
returns-in-List-clause-fits g c = rw c.without_files-in-List.ensures (kept_without_files _ _ c.list_found.ensures.fits)

pub returns-in-Forget-clause-sought : goal.returns-in-Forget-clause-sought
returns-in-Forget-clause-sought g c = seeks_without_files _ _ _ _ _ _ c.without_files-in-Forget.ensures (rw c.in-Forget.is (rw c.as_str-in-Forget.ensures at c.forget_found.ensures.comes))

pub returns-in-Forget-clause-fits : goal.returns-in-Forget-clause-fits
returns-in-Forget-clause-fits g c = rw c.without_files-in-Forget.ensures (kept_without_files _ _ (c.forget_found.ensures.fits c.args.library.now))

pub returns-in-Search-clause-sought : goal.returns-in-Search-clause-sought
returns-in-Search-clause-sought g c = seeks_without_files _ _ _ _ _ _ c.without_files-in-Search.ensures (rw c.in-Search.is (rw c.as_str-name.ensures at c.search_found.ensures.comes))

pub returns-in-Search-clause-fits : goal.returns-in-Search-clause-fits
returns-in-Search-clause-fits g c = rw c.without_files-in-Search.ensures (kept_without_files _ _ c.search_found.ensures.fits)

pub returns-in-Search-clause-begins : goal.returns-in-Search-clause-begins
returns-in-Search-clause-begins g c = rw c.in-Search.is (rw c.without_files-in-Search.ensures (kept_without_files _ _ (rw c.as_str-name.ensures at c.search_found.ensures.begins)))

pub returns-in-Resume-clause-sought : goal.returns-in-Resume-clause-sought
returns-in-Resume-clause-sought g c = seeks_without_files _ _ _ _ _ _ c.without_files-in-Resume.ensures (rw c.in-Resume.is c.resume_found.ensures.comes)

pub returns-in-Resume-clause-fits : goal.returns-in-Resume-clause-fits
returns-in-Resume-clause-fits g c = rw c.without_files-in-Resume.ensures (kept_without_files _ _ c.resume_found.ensures.fits)

pub returns-in-Resume-clause-begins : goal.returns-in-Resume-clause-begins
returns-in-Resume-clause-begins g c = rw c.in-Resume.is (rw c.without_files-in-Resume.ensures (kept_without_files _ _ c.resume_found.ensures.begins))

pub returns-in-Table-clause-sought : goal.returns-in-Table-clause-sought
returns-in-Table-clause-sought g c = seeks_without_files _ _ _ _ _ _ c.without_files-in-Table.ensures (rw c.in-Table.is (rw c.as_str-in-Table.ensures at c.table_found.ensures.comes))

pub returns-in-Table-clause-fits : goal.returns-in-Table-clause-fits
returns-in-Table-clause-fits g c = rw c.without_files-in-Table.ensures (kept_without_files _ _ c.table_found.ensures.fits)

pub returns-in-Table-clause-begins : goal.returns-in-Table-clause-begins
returns-in-Table-clause-begins g c = rw c.in-Table.is (rw c.without_files-in-Table.ensures (kept_without_files _ _ (rw c.as_str-in-Table.ensures at c.table_found.ensures.begins)))

pub returns-in-Enum-clause-sought : goal.returns-in-Enum-clause-sought
returns-in-Enum-clause-sought g c = seeks_without_files _ _ _ _ _ _ c.without_files-in-Enum.ensures (rw c.in-Enum.is (rw (c.as_str-in-Enum.ensures, c.as_slice.ensures) at c.enum_found.ensures.comes))

pub returns-in-Enum-clause-fits : goal.returns-in-Enum-clause-fits
returns-in-Enum-clause-fits g c = rw c.without_files-in-Enum.ensures (kept_without_files _ _ (c.enum_found.ensures.fits c.args.library.now))

pub returns-in-Drill-clause-sought : goal.returns-in-Drill-clause-sought
returns-in-Drill-clause-sought g c = seeks_without_files _ _ _ _ _ _ c.without_files-in-Drill.ensures (rw c.in-Drill.is c.drill_found.ensures)

pub returns-in-Drill-clause-fits : goal.returns-in-Drill-clause-fits
returns-in-Drill-clause-fits g c = rw c.without_files-in-Drill.ensures (kept_without_files _ _ (drills_fit _ _ _ _ _ c.drill_found.ensures))
