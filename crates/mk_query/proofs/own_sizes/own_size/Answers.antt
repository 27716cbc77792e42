use Rattle.std.proofs.Common.{◌≡◌, ◌∙◌, List, ap, arith, length, get_or}
use Rattle.std.proofs.lemmas.List.{get_or_default}
use Rattle.mk_model.specs.declared.template.Slot.{Slot}
use Rattle.mk_model.specs.declared.template.Slot.TheVariants.{Link}
use Rattle.mk_query.specs.OwnSizes.{Marks, takes}
use Rattle.mk_query.proofs.OwnSizesLemmas.{links_more, own_is, taken_more}
use Rattle.mk_query.proofs.own_sizes.own_size.Goals as goal

pub loop-i-preserved : goal.loop-i-preserved
loop-i-preserved c =
    let template = c.args.template.now in
    let below = rw c.slots-slots.ensures at c.loop-i-test.true in
    let slot : c.index-slots-i.result ≡ get_or template.slots c.loop-i.i (Link 0 0 0 0) =
    c.index-slots-i.is ∙ ap (λ (l : List Slot). get_or l c.loop-i.i c.index-slots-i.result) c.slots-slots.ensures
    ∙ get_or_default template.slots c.loop-i.i c.index-slots-i.result (Link 0 0 0 0) below in
    let here : Marks (length template.atoms) (takes template.bonds (get_or template.slots c.loop-i.i (Link 0 0 0 0))) c.in_ok-by.by.items =
    rw (c.in_ok-bonded.ensures.atoms, c.in_ok-bonded.ensures.bonds, c.bonds.ensures, slot, c.atoms.ensures) at c.in_ok-by.ensures in
    let same : c.index-slots-i-in-loop-i.result ≡ get_or template.slots c.loop-i.i (Link 0 0 0 0) =
    c.index-slots-i-in-loop-i.is ∙ ap (λ (l : List Slot). get_or l c.loop-i.i c.index-slots-i-in-loop-i.result) c.slots-slots.ensures
    ∙ get_or_default template.slots c.loop-i.i c.index-slots-i-in-loop-i.result (Link 0 0 0 0) below in
    let added = rw (c.deref.ensures.value, same, c.atoms.ensures) at c.link_size_by.ensures.size in
    record {
      taken =
          taken_more template c.loop-i.i (length template.atoms) (Link 0 0 0 0) c.loop-i.taken.items c.in_ok-by.by.items c.put.new.taken.items below c.put.ensures.size
          (rw c.deref-in-loop-i.ensures.value at c.put.ensures.each) here c.loop-i.invariant.taken;
      links =
          c.capped-links.ensures
          ∙ links_more template c.loop-i.i (Link 0 0 0 0) c.in_ok-by.by.items c.loop-i.links c.link_size_by.result below here added c.loop-i.invariant.links;
      few = omega (arith, c.capped-links.ensures);
    }

pub returns : goal.returns
returns c =
    let template = c.args.template.now in
    let all = rw c.slots-slots.ensures at c.loop-i-test.false in
    let number = rw (c.deref-2.ensures.value, c.atoms.ensures) at c.marked.ensures.count in
    rw c.atoms.ensures at c.capped.ensures
    ∙ own_is template c.loop-i.i c.loop-i.taken.items c.loop-i.links c.marked.result all c.loop-i.invariant.taken c.loop-i.invariant.links number
