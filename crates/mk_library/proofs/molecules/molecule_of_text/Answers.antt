use Rattle.std.proofs.Common.{◌≡◌, ◌∙◌, ◌<◌, max, length, sym, ap, subst, arith, All, []}
use Rattle.std.proofs.lemmas.List.Elements.{All-head}
use Rattle.mk_text.specs.Lines.{lines_of}
use Rattle.mk_text.proofs.ForCallers.{lines_few}
use Rattle.mk_sdfile.specs.declared.raw_record.RawRecord.{RawRecord}
use Rattle.mk_sdfile.specs.Sdfile.{IsSdfile}
use Rattle.mk_library.proofs.StoredLemmas.{bad_text, fails_check, not_only, other_text, raw_only}
use Rattle.mk_library.proofs.molecules.molecule_of_text.Goals as goal

pub returns-in-Err-Bad : goal.returns-in-Err-Bad
returns-in-Err-Bad c = bad_text c.args.text.now c.in-Err-Bad.field-0-0 (rw c.in-Err-Bad.field-0-is at c.in-Err-Bad.ensures.bad)

pub returns-in-Err-V3000 : goal.returns-in-Err-V3000
returns-in-Err-V3000 c = bad_text c.args.text.now c.in-Err-V3000.field-0-0 (rw c.in-Err-V3000.field-0-is at c.in-Err-V3000.ensures.v3000)

pub returns-then-as_slice-ne1 : goal.returns-then-as_slice-ne1
returns-then-as_slice-ne1 c = not_only c.args.text.now c.in-Ok.raws c.in-Ok.ensures.sdfile (λ once. c.if-as_slice-ne1.true (ap length c.as_slice.ensures ∙ once))

pub returns-then-not-are_same : goal.returns-then-not-are_same
returns-then-not-are_same c =
    let once : length c.in-Ok.raws ≡ 1 = sym (ap length c.as_slice.ensures) ∙ c.if-as_slice-ne1.false in
    let only = raw_only c.in-Ok.raws c.as_slice-2.result.now c.index-as_slice-0.result c.as_slice-2.ensures once c.index-as_slice-0.is in
    let are = subst (IsSdfile (lines_of c.args.text.now)) only c.in-Ok.ensures.sdfile in
    other_text c.args.text.now c.index-as_slice-0.result are (λ same. c.are_same.ensures.other c.if-not-are_same.true (c.as_slice-3.ensures ∙ same))

pub prepare-requires-clause-few_properties : goal.prepare-requires-clause-few_properties
prepare-requires-clause-few_properties c =
    let once : length c.in-Ok.raws ≡ 1 = sym (ap length c.as_slice.ensures) ∙ c.if-as_slice-ne1.false in
    let only = raw_only c.in-Ok.raws c.as_slice-2.result.now c.index-as_slice-0.result c.as_slice-2.ensures once c.index-as_slice-0.is in
    let few = All-head (λ (raw : RawRecord). length raw.table.props < max (length (lines_of c.args.text.now)) 2998) c.index-as_slice-0.result []
    (subst (All (λ (raw : RawRecord). length raw.table.props < max (length (lines_of c.args.text.now)) 2998)) only c.in-Ok.ensures.fewer) in
    omega (arith, few, lines_few c.args.text.now, c.requires)

pub returns-in-Ok-prepare : goal.returns-in-Ok-prepare
returns-in-Ok-prepare c =
    let once : length c.in-Ok.raws ≡ 1 = sym (ap length c.as_slice.ensures) ∙ c.if-as_slice-ne1.false in
    let only = raw_only c.in-Ok.raws c.as_slice-2.result.now c.index-as_slice-0.result c.as_slice-2.ensures once c.index-as_slice-0.is in
    let are = subst (IsSdfile (lines_of c.args.text.now)) only c.in-Ok.ensures.sdfile in
    record {
      is = record {
        raw = c.index-as_slice-0.result;
        read = are;
        own = sym c.as_slice-3.ensures ∙ c.are_same.ensures.same c.if-not-are_same.false;
        passes = c.in-Ok-prepare.ensures.passes;
      };
      filled = c.in-Ok-prepare.ensures.filled;
      kept = c.in-Ok-prepare.ensures.kept;
    }

pub returns-in-Err-Check : goal.returns-in-Err-Check
returns-in-Err-Check c =
    let once : length c.in-Ok.raws ≡ 1 = sym (ap length c.as_slice.ensures) ∙ c.if-as_slice-ne1.false in
    let only = raw_only c.in-Ok.raws c.as_slice-2.result.now c.index-as_slice-0.result c.as_slice-2.ensures once c.index-as_slice-0.is in
    let are = subst (IsSdfile (lines_of c.args.text.now)) only c.in-Ok.ensures.sdfile in
    fails_check c.args.text.now c.index-as_slice-0.result c.in-Err-Check.field-0-0 c.in-Err-Check.field-0-1 are (rw c.in-Err-Check.field-0-is at c.in-Err-Check.ensures.fault)
