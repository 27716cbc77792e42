use Rattle.std.proofs.Common.{◌≡◌, ◌+◌, ◌∙◌, ◌<◌, ◌^◌, length, subst}
use Rattle.mk_tables.specs.TableFacts.{IsRawTable}
use Rattle.mk_library.specs.FirstRefusal.{IsFirstFailing}
use Rattle.mk_library.proofs.StepsLemmas.{of_next, part-fails, part-more}
use Rattle.mk_library.proofs.molecules.molecules_of.Goals as goal

pub prepare-requires-clause-few_atoms : goal.prepare-requires-clause-few_atoms
prepare-requires-clause-few_atoms c =
    let all_is : c.into_iter-records.result.rest.items ≡ c.args.records = c.into_iter-records.ensures.rest ∙ c.into_vec.ensures in
    let part = rw c.in-Some.ensures.items at c.loop-raw.invariant in
    (of_next (λ raw. IsRawTable raw.table) c.into_iter-records.result.rest.items c.next.new.self.rest.items
    c.in-Some.raw c.loop-raw.number c.loop-raw.texts.items c.loop-raw.mols.items part
    (rw all_is c.requires.keeps)).few_atoms

pub prepare-requires-clause-few_bonds : goal.prepare-requires-clause-few_bonds
prepare-requires-clause-few_bonds c =
    let all_is : c.into_iter-records.result.rest.items ≡ c.args.records = c.into_iter-records.ensures.rest ∙ c.into_vec.ensures in
    let part = rw c.in-Some.ensures.items at c.loop-raw.invariant in
    (of_next (λ raw. IsRawTable raw.table) c.into_iter-records.result.rest.items c.next.new.self.rest.items
    c.in-Some.raw c.loop-raw.number c.loop-raw.texts.items c.loop-raw.mols.items part
    (rw all_is c.requires.keeps)).few_bonds

pub prepare-requires-clause-few_properties : goal.prepare-requires-clause-few_properties
prepare-requires-clause-few_properties c =
    let all_is : c.into_iter-records.result.rest.items ≡ c.args.records = c.into_iter-records.ensures.rest ∙ c.into_vec.ensures in
    let part = rw c.in-Some.ensures.items at c.loop-raw.invariant in
    of_next (λ raw. length raw.table.props < 2 ^ 32) c.into_iter-records.result.rest.items c.next.new.self.rest.items
    c.in-Some.raw c.loop-raw.number c.loop-raw.texts.items c.loop-raw.mols.items part (rw all_is c.requires.fewer)

pub returns-in-Err-Check : goal.returns-in-Err-Check
returns-in-Err-Check c =
    let all_is : c.into_iter-records.result.rest.items ≡ c.args.records = c.into_iter-records.ensures.rest ∙ c.into_vec.ensures in
    let part = rw c.in-Some.ensures.items at c.loop-raw.invariant in
    rw c.in-Err-Check.field-0-is
    (subst (λ raws. IsFirstFailing raws (c.loop-raw.number + 1) c.in-Err-Check.check c.in-Err-Check.item) all_is
    (part-fails c.into_iter-records.result.rest.items c.next.new.self.rest.items c.in-Some.raw c.loop-raw.number
    c.in-Err-Check.check c.in-Err-Check.item c.loop-raw.texts.items c.loop-raw.mols.items part
    (rw c.in-Err-Check.field-0-is at c.in-Err-Check.ensures.fault)))

pub loop-raw-preserved : goal.loop-raw-preserved
loop-raw-preserved c =
    let all_is : c.into_iter-records.result.rest.items ≡ c.args.records = c.into_iter-records.ensures.rest ∙ c.into_vec.ensures in
    let part = rw c.in-Some.ensures.items at c.loop-raw.invariant in
    rw (c.in_ok-push-in-Ok.ensures.items, c.in_ok-push-in-Ok-2.ensures.items)
    (part-more c.into_iter-records.result.rest.items c.next.new.self.rest.items c.in-Some.raw c.loop-raw.number
    c.loop-raw.texts.items c.loop-raw.mols.items c.in-Ok.mol part c.in-Ok.ensures.passes c.in-Ok.ensures.filled
    c.in-Ok.ensures.kept)
