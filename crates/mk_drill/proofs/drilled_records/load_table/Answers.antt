use Rattle.std.proofs.Common.{List, ℕ, subst, ◌∙◌}
use Rattle.mk_library.specs.Edits.{Load}
use Rattle.mk_library.specs.FirstRefusal.{IsAllowedEdit}
use Rattle.mk_drill.proofs.LoadLemmas.{demands_met, loaded, want_alone}
use Rattle.mk_drill.proofs.drilled_records.load_table.Goals as goal

pub returns-in-Ok-clause-records : goal.returns-in-Ok-clause-records
returns-in-Ok-clause-records c =
    (loaded c.args.library.now c.load.new.self c.install.new.self c.args.table.now c.in-Ok.pending.changes c.requires.counted c.requires.loadable
    (subst (λ (text : List ℕ). IsAllowedEdit c.args.library.now.records c.args.library.now.next_record (Load text)
    c.in-Ok.pending.changes) (c.deref.ensures.value ∙ c.in_ok-text.ensures) c.in-Ok.ensures.changes)
    c.in-Ok.ensures.same c.install.ensures.tables).records

pub returns-in-Ok-clause-counted : goal.returns-in-Ok-clause-counted
returns-in-Ok-clause-counted c =
    (loaded c.args.library.now c.load.new.self c.install.new.self c.args.table.now c.in-Ok.pending.changes c.requires.counted c.requires.loadable
    (subst (λ (text : List ℕ). IsAllowedEdit c.args.library.now.records c.args.library.now.next_record (Load text)
    c.in-Ok.pending.changes) (c.deref.ensures.value ∙ c.in_ok-text.ensures) c.in-Ok.ensures.changes)
    c.in-Ok.ensures.same c.install.ensures.tables).counted

pub want_of_memory-requires : goal.want_of_memory-requires
want_of_memory-requires c =
    want_alone c.args.library.now.records c.args.library.now.next_record (Load c.deref.result.now) c.in-Err.said
    (rw (c.deref.ensures.value, c.in_ok-text.ensures) (demands_met c.args.library.now c.args.table.now c.requires.counted c.requires.few c.requires.loadable)) c.in-Err.ensures.refused
