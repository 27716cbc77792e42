use Rattle.std.proofs.Common.{arith}
use Rattle.mk_library.specs.Edits.{texts_of}
use Rattle.mk_library.specs.Pending.{PendingView}
use Rattle.mk_library.specs.Steps.{LoadKeeps}
use Rattle.mk_library.proofs.EditLemmas.{load_allowed, load_file, load_full, load_meaning}
use Rattle.mk_library.proofs.LoadLemmas.{file_prepared, load_limits, load_numbered, puts_counted}
use Rattle.mk_library.proofs.StepsLemmas.{all_pass}
use Rattle.mk_library.proofs.library.Library.load.Goals as goal

pub returns-in-Err-clause-refused : goal.returns-in-Err-clause-refused
returns-in-Err-clause-refused c = load_file c.args.self.now.records c.args.self.now.next_record c.args.text.now PendingView c.in-Err.said c.in-Err.ensures.answer

pub returns-in-Err-molecules_of-clause-refused : goal.returns-in-Err-molecules_of-clause-refused
returns-in-Err-molecules_of-clause-refused c =
    load_meaning c.args.self.now.records c.args.self.now.next_record c.args.text.now c.in-Ok.raws c.in-Ok.ensures.answer.0 c.in-Ok.ensures.answer.1 PendingView c.in-Err-molecules_of.said
    c.in-Err-molecules_of.ensures

pub returns-then-not-keeps-clause-refused : goal.returns-then-not-keeps-clause-refused
returns-then-not-keeps-clause-refused c =
    load_full c.args.self.now.records c.args.self.now.next_record c.args.text.now c.in-Ok.raws c.in-Ok.ensures.answer.0 c.in-Ok.ensures.answer.1
    (all_pass c.in-Ok.raws c.in-Ok-molecules_of.prepared.mols.items c.in-Ok-molecules_of.ensures.1) c.keeps.ensures.kept.below_next
    (λ keeps. c.keeps.ensures.full c.if-not-keeps.true (rw (c.as_slice.ensures.value, c.in-Ok-molecules_of.ensures.0) keeps))

-- ---- a load that is allowed

pub of-requires : goal.of-requires
of-requires c =
    let keeps : LoadKeeps c.args.self.now.records c.args.self.now.next_record (texts_of c.in-Ok.raws) =
    rw (c.as_slice.ensures.value, c.in-Ok-molecules_of.ensures.0) at c.keeps.ensures.keeps c.if-not-keeps.false in
    let next = c.next_number.ensures in
    rw (c.in_ok-changes.ensures, next, c.in-Ok-molecules_of.ensures.0)
    (file_prepared c.args.text.now c.in-Ok.raws c.in-Ok-molecules_of.prepared.mols.items c.args.self.now.next_record c.in-Ok.ensures.answer.1 c.in-Ok-molecules_of.ensures.1 keeps.numbers)

pub returns-clause-changes : goal.returns-clause-changes
returns-clause-changes c =
    let keeps : LoadKeeps c.args.self.now.records c.args.self.now.next_record (texts_of c.in-Ok.raws) =
    rw (c.as_slice.ensures.value, c.in-Ok-molecules_of.ensures.0) at c.keeps.ensures.keeps c.if-not-keeps.false in
    let next = c.next_number.ensures in
    rw (c.of.ensures.changes, c.in_ok-changes.ensures, next, c.in-Ok-molecules_of.ensures.0)
    (load_allowed c.args.self.now.records c.args.self.now.next_record c.args.text.now c.in-Ok.raws c.in-Ok.ensures.answer.0 c.in-Ok.ensures.answer.1
    (all_pass c.in-Ok.raws c.in-Ok-molecules_of.prepared.mols.items c.in-Ok-molecules_of.ensures.1) c.keeps.ensures.kept.below_next c.keeps.ensures.kept.limits keeps)

pub returns-clause-fits : goal.returns-clause-fits
returns-clause-fits c =
    let keeps : LoadKeeps c.args.self.now.records c.args.self.now.next_record (texts_of c.in-Ok.raws) =
    rw (c.as_slice.ensures.value, c.in-Ok-molecules_of.ensures.0) at c.keeps.ensures.keeps c.if-not-keeps.false in
    let next = c.next_number.ensures in
    let below = c.keeps.ensures.kept.below_next in
    record {
      numbers = rw (c.of.ensures.changes, c.in_ok-changes.ensures, next, c.in-Ok-molecules_of.ensures.0, c.reserve.ensures.same.records, c.reserve.ensures.same.next_record)
          (load_numbered (texts_of c.in-Ok.raws) c.args.self.now.next_record c.args.self.now.records c.keeps.ensures.kept.below_next);
      limits = rw (c.of.ensures.changes, c.in_ok-changes.ensures, next, c.in-Ok-molecules_of.ensures.0, c.reserve.ensures.same.records, c.reserve.ensures.same.next_record)
          (load_limits (texts_of c.in-Ok.raws) c.args.self.now.next_record c.args.self.now.records c.keeps.ensures.kept.below_next c.keeps.ensures.kept.limits keeps);
      room = rw (c.of.ensures.changes, c.in_ok-changes.ensures) (
          let puts = puts_counted c.in-Ok-molecules_of.prepared.texts.items c.next_number.result in
          let room = c.in_ok-reserve.ensures.spare in
          omega (arith, puts, room, c.len-more.ensures));
    }
