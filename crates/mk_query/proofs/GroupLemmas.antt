-- The groups of a raw query: their members over all parts, and what the root says of them.
--     known_logic                     a root that passes has logic that there is
--     part_here, part_few, parts_all  the members of a group, part by part
--     logic_here, logic_on            the first `M  LOG` of a group
--     groups_none, groups_more, groups_all    all groups
use Rattle.std.proofs.Common.{◌≡◌, ◌≤◌, ◌<◌, ◌+◌, ◌-◌, ℕ, Bool, true, false, cond, eqb, List, [], ◌∷◌, ◌++◌, Option, Some, None, refl, ap, sym, ◌∙◌, length, get_or, drop, arith, ⊎_elim}
use Rattle.std.specs.Prelude.{All, IfNone, IsSome}
use Rattle.std.specs.List.{range_with_len}
use Rattle.std.proofs.lemmas.Bool.{cases_lt, eq-eqb}
use Rattle.std.proofs.lemmas.List.{append-nil, append_assoc, drop_all, drop_more, get_or_append_left, get_or_push, length_push}
use Rattle.std.proofs.lemmas.Option.{get_or_from_slice_get, slice_get-get_or, slice_get_within}
use Rattle.mk_props.specs.declared.property.LogicLine.{LogicLine}
use Rattle.mk_props.specs.declared.property.Property.{Property}
use Rattle.mk_props.specs.declared.property.Property.TheVariants as kinds
use Rattle.mk_model.specs.declared.group.Group.{Group}
use Rattle.mk_model.specs.declared.group.Interval.{Interval}
use Rattle.mk_tables.specs.declared.raw.RawTable.{RawTable}
use Rattle.mk_logic.specs.RangeTexts.{IsRangeText, above, blank_text}
use Rattle.mk_rgfile.specs.declared.raw_query.RawGroup.{RawGroup}
use Rattle.mk_rgfile.specs.declared.raw_query.RawQuery.{RawQuery}
use Rattle.mk_rgfile.specs.QueryFacts.{members_in}
use Rattle.mk_query.specs.Compiled.{AreGroupsOf, IsGroupOf, logic_for, logic_of, members_from}
use Rattle.mk_query.specs.FirstFault.{group_logic}
use Rattle.mk_query.specs.GroupMarks.{HasKnownLogic, logic_by, part_members}
use Rattle.mk_query.specs.LinkChecks.{IsLogical}
use Rattle.mk_query.specs.LogicSearch.{names_group}
use Rattle.mk_query.specs.Passed.{HasPassed}
use Rattle.mk_query.proofs.RangeLemmas.{range_from_more}

-- ---- logic

logic_known : (is_root : Bool) (behind : List Property) (p : Property) → IsLogical is_root behind p → HasKnownLogic p
logic_known is_root behind (kinds.Logic logic) right = record { then_group = right.then_group; range = right.range }
logic_known is_root behind p right = tt

-- a root that passes has logic that there is
pub known_logic : (table : RawTable) → HasPassed table → All HasKnownLogic table.props
known_logic table passed k d below =
    let place : k + 1 - 1 ≡ k = omega arith in
    let at = slice_get-get_or table.props k d below in
    logic_known passed.is_root (drop (k + 1) table.props) (get_or table.props k d) (passed.passes group_logic (k + 1) (get_or table.props k d) (omega arith) (rw place at))

of_here : (g : ℕ) (p : Property) (later : Option LogicLine) → names_group g p ≡ true → logic_of g p later ≡ logic_by p
of_here g (kinds.Logic logic) later names = ap (λ (b : Bool). cond b (Some logic) later) names
of_here g p later names = absurd cc

of_later : (g : ℕ) (p : Property) (later : Option LogicLine) → names_group g p ≡ false → logic_of g p later ≡ later
of_later g (kinds.Logic logic) later names = ap (λ (b : Bool). cond b (Some logic) later) names
of_later g p later names = refl

logic_at : (g i : ℕ) (props : List Property) (p : Property) → i < length props → p ≡ get_or props i p → logic_for g (drop i props) ≡ logic_of g p (logic_for g (drop (i + 1) props))
logic_at g i props p below is = ap (logic_for g) (drop_more props i p below) ∙ ap (λ (q : Property). logic_of g q (logic_for g (drop (i + 1) props))) (sym is)

-- the property at hand is the first `M  LOG` of the group
pub logic_here : (g i : ℕ) (props : List Property) (p : Property) → i < length props → p ≡ get_or props i p
    → names_group g p ≡ true → logic_for g (drop i props) ≡ logic_for g props → logic_by p ≡ logic_for g props
logic_here g i props p below is names before = sym (of_here g p (logic_for g (drop (i + 1) props)) names) ∙ sym (logic_at g i props p below is) ∙ before

-- it isn't
pub logic_on : (g i : ℕ) (props : List Property) (p : Property) → i < length props → p ≡ get_or props i p
    → names_group g p ≡ false → logic_for g (drop i props) ≡ logic_for g props
    → logic_for g (drop (i + 1) props) ≡ logic_for g props
logic_on g i props p below is names before = sym (of_later g p (logic_for g (drop (i + 1) props)) names) ∙ sym (logic_at g i props p below is) ∙ before

-- there is none
pub logic_none : (g i : ℕ) (props : List Property) → length props ≤ i → logic_for g (drop i props) ≡ logic_for g props → None ≡ logic_for g props
logic_none g i props all before = sym (ap (logic_for g) (drop_all i props all)) ∙ before

-- ---- ranges

-- a range was found, since there is one
pub some_range : (text : List ℕ) (found : Option (List Interval)) → ((range : List Interval) × IsRangeText text range)
    → IfNone found ((range : List Interval) → IsRangeText text range → ⊥) → IsSome found
some_range text None is none = absurd (none is.0 is.1)
some_range text (Some range) is none = refl

-- nothing is a range
pub blank_range : (range : List Interval) × IsRangeText [] range
blank_range = (above 0 ∷ [], blank_text refl refl)

-- ---- members

-- a part more
pub part_more : (parts : List RawGroup) (g i before : ℕ) (part : RawGroup) (old new : List ℕ) → i < length parts → part ≡ get_or parts i part → new ≡ old ++ part_members (before + 1) g part
    → old ++ members_from (before + 1) g (drop i parts) ≡ members_from 1 g parts → new ++ members_from (before + length part.members + 1) g (drop (i + 1) parts) ≡ members_from 1 g parts
part_more parts g i before part old new below is put are =
    let sum : before + 1 + length part.members ≡ before + length part.members + 1 = omega arith in
    let rest = members_from (before + 1 + length part.members) g (drop (i + 1) parts) in
    let next : members_from (before + 1) g (drop i parts) ≡ part_members (before + 1) g part ++ rest =
    ap (members_from (before + 1) g) (drop_more parts i part below
    ∙ ap (λ (p : RawGroup). p ∷ drop (i + 1) parts) (sym is))
    ∙ by_test (eqb part.number g) (range_with_len (before + 1) (length part.members)) rest in
    ap (λ (n : ℕ). new ++ members_from n g (drop (i + 1) parts)) (sym sum) ∙ ap (λ (l : List ℕ). l ++ rest) put
    ∙ append_assoc old (part_members (before + 1) g part) rest ∙ ap (λ (l : List ℕ). old ++ l) (sym next) ∙ are
  where
    by_test : (b : Bool) (here later : List ℕ) → cond b (here ++ later) later ≡ cond b here [] ++ later
    by_test true here later = refl
    by_test false here later = refl

-- how many members stand before a part
pub count_more : (parts : List RawGroup) (i before : ℕ) (part : RawGroup) → i < length parts → part ≡ get_or parts i part → before + members_in (drop i parts) ≡ members_in parts
    → before + length part.members + members_in (drop (i + 1) parts) ≡ members_in parts
count_more parts i before part below is sum =
    let next : members_in (drop i parts) ≡ length part.members + members_in (drop (i + 1) parts) =
    ap members_in (drop_more parts i part below ∙ ap (λ (p : RawGroup). p ∷ drop (i + 1) parts) (sym is)) in
    omega (arith, next, sum)

pub part_few : (parts : List RawGroup) (i before : ℕ) (part : RawGroup) → i < length parts → part ≡ get_or parts i part
    → before + members_in (drop i parts) ≡ members_in parts → before + length part.members ≤ members_in parts
part_few parts i before part below is sum = omega (arith, count_more parts i before part below is sum)

-- behind the last part
pub parts_all : (parts : List RawGroup) (g i before : ℕ) (members : List ℕ) → length parts ≤ i
    → members ++ members_from (before + 1) g (drop i parts) ≡ members_from 1 g parts → members ≡ members_from 1 g parts
parts_all parts g i before members all are = sym (append-nil members) ∙ ap (λ (l : List RawGroup). members ++ members_from (before + 1) g l) (sym (drop_all i parts all)) ∙ are

-- one member more
pub member_more : (start old : List ℕ) (from k n : ℕ) → n ≡ from + k → old ≡ start ++ range_with_len from k → old ++ n ∷ [] ≡ start ++ range_with_len from (k + 1)
member_more start old from k n is are =
    ap (λ (m : ℕ). old ++ m ∷ []) is ∙ ap (λ (l : List ℕ). l ++ (from + k) ∷ []) are
    ∙ append_assoc start (range_with_len from k) ((from + k) ∷ [])
    ∙ ap (λ (l : List ℕ). start ++ l) (sym (range_from_more from k))

-- all members of a part of the group
pub part_all : (start old : List ℕ) (next g k : ℕ) (part : RawGroup) → part.number ≡ g → k ≡ length part.members → old ≡ start ++ range_with_len next k → old ≡ start ++ part_members next g part
part_all start old next g k part is all are = are ∙ ap (λ (n : ℕ). start ++ range_with_len next n) all
    ∙ ap (λ (b : Bool). start ++ cond b (range_with_len next (length part.members)) []) (sym (eq-eqb part.number g is))

-- ---- all groups

-- the first k groups
pub record AreGroupsTo (raw : RawQuery) (k : ℕ) (groups : List Group) : Type 0 where
  pub size : length groups ≡ k
  pub each : (i : ℕ) (d : Group) → i < k → IsGroupOf raw (i + 1) (get_or groups i d)

pub groups_none : (raw : RawQuery) (groups : List Group) → groups ≡ [] → AreGroupsTo raw 0 groups
groups_none raw groups is = record { size = ap length is; each = λ i d below. absurd (omega arith) }

-- one group more
pub groups_more : (raw : RawQuery) (k : ℕ) (groups : List Group) (group : Group) → IsGroupOf raw (k + 1) group → AreGroupsTo raw k groups → AreGroupsTo raw (k + 1) (groups ++ group ∷ [])
groups_more raw k groups group made are = record {
  size = omega (arith, length_push groups group, are.size);
  each = λ i d below.
      ⊎_elim
      (λ earlier. rw (get_or_append_left groups (group ∷ []) d i (omega (arith, are.size))) (are.each i d earlier))
      (λ last.
      let here : i ≡ k = omega arith in
      rw (get_or_push groups group d i (are.size ∙ sym here), here) made)
      (cases_lt i k);
}

-- all 32
pub groups_all : (raw : RawQuery) (k : ℕ) (groups : List Group) → k ≡ 32 → AreGroupsTo raw k groups → AreGroupsOf raw groups
groups_all raw k groups all are = record {
  size = are.size ∙ all;
  each = λ i group at. (let here = are.each i group (omega (arith, are.size, slice_get_within groups i group at)) in rw (get_or_from_slice_get groups i group group at) at here);
}
