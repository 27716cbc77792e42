use Rattle.std.proofs.Common.{rules, ◌≡◌, ◌<◌, ◌≤◌, ◌+◌, ◌∙◌, [], ◌∷◌, ◌++◌, List, ap, subst, sym, arith, length, take, set, true, false}
use Rattle.std.proofs.lemmas.Bool.{eqb-false, eqb-true}
use Rattle.std.proofs.lemmas.List.{length-replicate, length-set, take_all, take_more}
use Rattle.mk_tables.specs.declared.raw.RawTable.{RawTable}
use Rattle.mk_rgfile.specs.declared.raw_query.RawGroup.{RawGroup}
use Rattle.mk_query.specs.Marks.{AreServed}
use Rattle.mk_query.proofs.LabelLemmas.{served-mark, served-none, served-skip}
use Rattle.mk_query.proofs.sites.served_numbers.Goals as goal

pub loop-group-init : goal.loop-group-init
loop-group-init c =
    let none = c.in_ok-served.ensures.items_if_clones_equal (λ y e. e) in
    record { size = ap length none ∙ length-replicate 256 false; are = rw none (served-none 256) }

pub loop-group-preserved-then-is_empty : goal.loop-group-preserved-then-is_empty
loop-group-preserved-then-is_empty c =
    let groups = c.args.groups.now in
    let group = c.group-item.result in
    let more : take (c.loop-group.group-index + 1) groups ≡ take c.loop-group.group-index groups ++ group ∷ [] =
    take_more groups c.loop-group.group-index group c.loop-group-test.true ∙ ap (λ (g : RawGroup). take c.loop-group.group-index groups ++ g ∷ []) (sym c.group-item.is) in
    let empty : length group.members ≡ 0 = ap (λ (l : List RawTable). length l) (sym c.as_slice.ensures) ∙ eqb-true (length c.as_slice.result.now) 0 (sym c.if-is_empty.ensures) in
    record {
      size = c.loop-group.invariant.size;
      are = subst (λ (l : List RawGroup). AreServed l c.loop-group.served.items) (sym more)
          (served-skip (take c.loop-group.group-index groups) group c.loop-group.served.items empty
          c.loop-group.invariant.are);
    }

pub loop-group-preserved : goal.loop-group-preserved
loop-group-preserved c =
    let groups = c.args.groups.now in
    let group = c.group-item.result in
    let more : take (c.loop-group.group-index + 1) groups ≡ take c.loop-group.group-index groups ++ group ∷ [] =
    take_more groups c.loop-group.group-index group c.loop-group-test.true ∙ ap (λ (g : RawGroup). take c.loop-group.group-index groups ++ g ∷ []) (sym c.group-item.is) in
    let size : length c.as_slice.result.now ≡ length group.members = ap (λ (l : List RawTable). length l) c.as_slice.ensures in
    let some : 1 ≤ length group.members = (let no = eqb-false (length c.as_slice.result.now) 0 (sym c.if-is_empty.ensures) in omega (arith, size, no)) in
    let fits : group.number < 256 = search rules in
    record {
      size = length-set c.loop-group.served.items group.number true ∙ c.loop-group.invariant.size;
      are = subst (λ (l : List RawGroup). AreServed l (set c.loop-group.served.items group.number true)) (sym more)
          (served-mark (take c.loop-group.group-index groups) group c.loop-group.served.items some (omega (arith, fits, c.loop-group.invariant.size)) c.loop-group.invariant.are);
    }

pub returns : goal.returns
returns c = subst (λ (l : List RawGroup). AreServed l c.loop-group.served.items) (take_all c.loop-group.group-index c.args.groups.now c.loop-group-test.false) c.loop-group.invariant.are
