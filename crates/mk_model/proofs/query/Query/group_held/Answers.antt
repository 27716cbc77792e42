use Rattle.std.proofs.Common.{◌≡◌, ◌≤◌, ◌<◌, All, List, ℕ, arith, get_or, length, subst, sym}
use Rattle.std.specs.Prelude.{◌==◌, true, Contains}
use Rattle.std.proofs.lemmas.Bool.Decides.{nat_tests}
use Rattle.std.proofs.lemmas.List.{get_or_default}
use Rattle.mk_model.specs.declared.template.Slot.{Slot}
use Rattle.mk_model.specs.Labels.{bears_label, holds_member_of, site_labels, members_at}
use Rattle.mk_model.specs.QueryFits.{AreRisingLabels}
use Rattle.mk_model.specs.Queries.{QueryView}
use Rattle.mk_model.proofs.MembersLemmas.{held_by, held_by_only, member_of_one, none_held}
use Rattle.mk_model.proofs.NumbersLemmas.{contains_has}
use Rattle.mk_model.proofs.query.Query.group_held.Goals as goal

-- a label is the number of a group
label_few : (slot : Slot) (labels : List ℕ) (g : ℕ) → AreRisingLabels (site_labels slot) → labels ≡ site_labels slot → Contains labels g → g ≤ 32
label_few slot labels g rising are among =
    let there = subst (λ (l : List ℕ). Contains l g) are among in
    omega (arith, rising.in_range there.0 g there.1, there.2)

-- so is the first
first_few : (slot : Slot) (labels : List ℕ) → AreRisingLabels (site_labels slot) → labels ≡ site_labels slot → 0 < length labels → get_or labels 0 0 ≤ 32
first_few slot labels rising are some = (subst (λ (l : List ℕ). All (λ g. (1 ≤ g) × (g ≤ 32)) l) (sym are) rising.in_range 0 0 some).1

-- the first is one of them
first_held : (labels : List ℕ) → 0 < length labels → Contains labels (get_or labels 0 0)
first_held labels some = (0, some, get_or_default labels 0 (get_or labels 0 0) 0 some)

-- a label is one that the site bears
label_borne : (slot : Slot) (labels : List ℕ) (g : ℕ) → labels ≡ site_labels slot → Contains labels g → bears_label slot g ≡ true
label_borne slot labels g are among = contains_has (site_labels slot) g (subst (λ (l : List ℕ). Contains l g) are among)

-- a number behind those of the members fills nothing
held_past : (query : QueryView) (slot : Slot) (k : ℕ) → length (members_at query slot) < k → (g : ℕ) → 1 ≤ g → holds_member_of query slot k g ≡ (g == 0)
held_past query slot k past = none_held query slot k (grind (arith, nat_tests))

pub group_among-requires-clause-one : goal.group_among-requires-clause-one
group_among-requires-clause-one c =
    let most : c.args.k ≤ length (members_at c.args.self.now c.args.slot.now) = omega (arith, c.member_count.ensures.count, c.if-k-member_count.false) in
    rw (c.labels.ensures, c.member_at.ensures.member) (member_of_one c.args.self.now c.args.slot.now c.args.k c.requires.least most)

pub returns-in-len1-clause-held : goal.returns-in-len1-clause-held
returns-in-len1-clause-held c =
    held_by_only c.args.self.now c.member_count.ensures.kept c.args.slot.now c.labels.result.now c.args.k c.requires.labels c.labels.ensures (omega arith) (omega arith)
    c.requires.least (omega (arith, c.member_count.ensures.count, c.if-k-member_count.false))

pub returns-in_default-clause-held : goal.returns-in_default-clause-held
returns-in_default-clause-held c =
    let among : Contains (site_labels c.args.slot.now) c.group_among.result = subst (λ (labels : List ℕ). Contains labels c.group_among.result) c.labels.ensures c.group_among.ensures.among in
    held_by c.args.self.now c.member_count.ensures.kept c.args.slot.now c.args.k c.group_among.result c.member_at.result c.requires.labels
    (omega (arith, c.member_count.ensures.count, c.if-k-member_count.false)) c.member_at.ensures.member c.group_among.ensures.member among

pub returns-in-len1-clause-within : goal.returns-in-len1-clause-within
returns-in-len1-clause-within c = first_few c.args.slot.now c.labels.result.now c.requires.labels c.labels.ensures (omega arith)

pub returns-in_default-clause-within : goal.returns-in_default-clause-within
returns-in_default-clause-within c =
    let among = c.group_among.ensures.among in
    label_few c.args.slot.now c.labels.result.now c.group_among.result c.requires.labels c.labels.ensures among

pub returns-then-k-member_count : goal.returns-then-k-member_count
returns-then-k-member_count c =
    record {
      held = held_past c.args.self.now c.args.slot.now c.args.k (omega (arith, c.member_count.ensures.count, c.if-k-member_count.true));
      label = λ some. absurd (omega (arith, some));
      within = omega arith;
    }

pub returns-in-len1-clause-label : goal.returns-in-len1-clause-label
returns-in-len1-clause-label c = λ _. label_borne c.args.slot.now c.labels.result.now _ c.labels.ensures (first_held c.labels.result.now (omega arith))

pub returns-in_default-clause-label : goal.returns-in_default-clause-label
returns-in_default-clause-label c = λ _. label_borne c.args.slot.now c.labels.result.now c.group_among.result c.labels.ensures c.group_among.ensures.among
