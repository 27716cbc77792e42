-- The last `M  LOG` of each group, and the demands by its number.
--     last-more      one property more
--     logical_by     the demand by these numbers is the demand; right_is, of a property at its place
--     range_found    a text that is read is a range
use Rattle.std.proofs.Common.{◌≡◌, ◌≤◌, ◌<◌, ◌+◌, ◌-◌, ℕ, Bool, true, false, cond, List, Option, None, Some, refl, ap, sym, subst, ◌∙◌, length, get_or, drop, replicate, arith, ⊎_elim}
use Rattle.std.specs.Prelude.{ℤ, pos, ◌==◌, ◌↔◌, All, slice_get, is_some, IfNone, IfSome, IsTrue}
use Rattle.std.proofs.lemmas.Bool.{cases_lt, eq-eqb, eqb-true}
use Rattle.std.proofs.lemmas.List.{get_or-drop, get_or-replicate, length-drop, length-replicate}
use Rattle.std.proofs.lemmas.Option.{get_or_from_slice_get, slice_get-get_or, slice_get_within}
use Rattle.mk_props.specs.declared.property.LogicLine.{LogicLine}
use Rattle.mk_props.specs.declared.property.Property.{Property}
use Rattle.mk_props.specs.declared.property.Property.TheVariants as kinds
use Rattle.mk_model.specs.declared.group.Interval.{Interval}
use Rattle.mk_demands.specs.Numbers.{IsWithin, natural}
use Rattle.mk_demands.proofs.ForCallers.{atom_is, atom_within}
use Rattle.mk_logic.specs.RangeTexts.{IsRangeText}
use Rattle.mk_query.specs.LinkChecks.{IsLogical, SpeaksOfSame}
use Rattle.mk_query.specs.LogicSearch.{AreLastLogics, IsLastLogic, IsLogicalBy, IsMarkedBy, NamesAt, names_group}

-- ---- the last of each group

pub last-none : (props : List Property) (last : List ℕ) → last ≡ replicate 33 0 → AreLastLogics props 0 last
last-none props last zeros = record {
  size = ap length zeros ∙ length-replicate {A = ℕ} 33 0;
  each = λ g below.
      let zero : get_or last g 0 ≡ 0 = ap (λ (l : List ℕ). get_or l g 0) zeros ∙ get_or-replicate 33 g 0 0 below in
      record { others = λ k early names. absurd (omega (arith, early)); here = λ some. absurd (omega (arith, some, zero)) };
}

last_one : (props : List Property) (k g old new : ℕ) (p : Property) → slice_get props k ≡ Some p
    → new ≡ cond (names_group g p) (k + 1) old → IsLastLogic props k g old → IsLastLogic props (k + 1) g new
last_one props k g old new p at is last = by_names (names_group g p) refl is
  where
    by_names : (b : Bool) → names_group g p ≡ b → new ≡ cond b (k + 1) old → IsLastLogic props (k + 1) g new
    by_names true names is = record {
      others = λ j below named. omega (arith, below, is);
      here = λ some. (
        omega (arith, is),
        (let place : new - 1 ≡ k = omega (arith, is) in record { property = p; at = ap (slice_get props) place ∙ at; names = names }),
      );
    }
    by_names false silent is = record {
      others = λ j below named.
          ⊎_elim
          (λ earlier. let early = last.others j earlier named in omega (arith, early, is))
          (λ here.
          let place : j ≡ k = omega (arith, here, below) in
          let same : Some named.property ≡ Some p = sym named.at ∙ ap (slice_get props) place ∙ at in
          let one : named.property ≡ p = cc in
          let names : names_group g p ≡ true = subst (λ (q : Property). names_group g q ≡ true) one named.names in
          absurd cc)
          (cases_lt j k);
      here = λ some. (
          let found = last.here (omega (arith, some, is)) in
          (omega (arith, found.0, is), subst (λ (m : ℕ). NamesAt props g (m - 1)) (sym is) found.1)
          );
    }

-- one property more
pub last-more : (props : List Property) (k : ℕ) (p : Property) (old new : List ℕ) → k < length props
    → p ≡ get_or props k p → IsMarkedBy p (k + 1) old new → AreLastLogics props k old → AreLastLogics props (k + 1) new
last-more props k p old new below is marked last = record {
  size = marked.size ∙ last.size;
  each = λ g within.
      last_one props k g (get_or old g 0) (get_or new g 0) p (slice_get-get_or props k p below ∙ ap Some (sym is)) (marked.marked g (omega (arith, within, last.size))) (last.each g within);
}

-- behind the last property
pub last-all : (props : List Property) (k : ℕ) (last : List ℕ) → k ≤ length props → length props ≤ k → AreLastLogics props k last → AreLastLogics props (length props) last
last-all props k last few all are = (let whole : k ≡ length props = omega arith in subst (λ (n : ℕ). AreLastLogics props n last) whole are)

-- ---- one property

-- an `M  LOG` of the same group
same_names : (logic : LogicLine) (later : Property) → SpeaksOfSame logic later → names_group (natural logic.group) later ≡ true
same_names logic (kinds.Logic later) same = eq-eqb (natural later.group) (natural logic.group) (ap natural same)
same_names logic other same = absurd same

-- is one that names the group
names_same : (logic : LogicLine) (later : Property) → IsWithin (pos 1) (pos 32) logic.group → names_group (natural logic.group) later ≡ true → SpeaksOfSame logic later
names_same logic (kinds.Logic later) group names =
    let number : natural later.group ≡ natural logic.group = eqb-true (natural later.group) (natural logic.group) names in
    let within = atom_within 32 logic.group group in
    pos_is later.group (omega (arith, number, within.0)) ∙ ap pos number ∙ sym (atom_is 32 logic.group group)
  where
    pos_is : (z : ℤ) → 1 ≤ natural z → z ≡ pos (natural z)
    pos_is (pos n) some = refl
    pos_is other some = absurd (omega (arith, some))
names_same logic other group names = absurd cc

module _ (props : List Property) (last : List ℕ) (are : AreLastLogics props (length props) last) (k : ℕ)
    (logic : LogicLine) (at : slice_get props k ≡ Some (kinds.Logic logic))
    (group : IsWithin (pos 1) (pos 32) logic.group) where
  of_group : IsLastLogic props (length props) (natural logic.group) (get_or last (natural logic.group) 0)
  of_group = are.each (natural logic.group) (omega (arith, atom_within 32 logic.group group))

  -- where it has the last number, none behind it is of the same group
  none_behind : (get_or last (natural logic.group) 0 == k + 1) ≡ true → All (λ later. ¬ (SpeaksOfSame logic later)) (drop (k + 1) props)
  none_behind is j d below same =
      let last_is : get_or last (natural logic.group) 0 ≡ k + 1 = eqb-true _ _ is in
      let there : get_or (drop (k + 1) props) j d ≡ get_or props (k + 1 + j) d = get_or-drop (k + 1) props j d in
      let inside : k + 1 + j < length props = omega (arith, below, length-drop (k + 1) props) in
      let named : NamesAt props (natural logic.group) (k + 1 + j) =
      record { property = get_or props (k + 1 + j) d; at = slice_get-get_or props (k + 1 + j) d inside; names = same_names logic (get_or props (k + 1 + j) d) (rw there at same) } in
      omega (arith, of_group.others (k + 1 + j) inside named, last_is)

  -- and where none is, it has the last number
  is_last : All (λ later. ¬ (SpeaksOfSame logic later)) (drop (k + 1) props) → (get_or last (natural logic.group) 0 == k + 1) ≡ true
  is_last none =
      let inside : k < length props = slice_get_within props k (kinds.Logic logic) at in
      let early : k < get_or last (natural logic.group) 0 =
      of_group.others k inside (record { property = kinds.Logic logic; at = at; names = eq-eqb (natural logic.group) (natural logic.group) refl }) in
      eq-eqb (get_or last (natural logic.group) 0) (k + 1)
      (⊎_elim
      (λ later. absurd (contradicts later early none))
      (λ not_later. omega (arith, not_later, early))
      (cases_lt (k + 1) (get_or last (natural logic.group) 0)))
    where
      contradicts : k + 1 < get_or last (natural logic.group) 0 → k < get_or last (natural logic.group) 0 → All (λ later. ¬ (SpeaksOfSame logic later)) (drop (k + 1) props) → ⊥
      contradicts later early none =
          let found = of_group.here (omega (arith, early)) in
          let named = found.1 in
          let m : ℕ = get_or last (natural logic.group) 0 - 1 in
          let place : k + 1 + (m - (k + 1)) ≡ m = omega (arith, later) in
          let below : m - (k + 1) < length (drop (k + 1) props) = omega (arith, later, found.0, length-drop (k + 1) props) in
          let is : get_or (drop (k + 1) props) (m - (k + 1)) named.property ≡ named.property =
          get_or-drop (k + 1) props (m - (k + 1)) named.property ∙ ap (λ (i : ℕ). get_or props i named.property) place ∙ get_or_from_slice_get props m named.property named.property named.at in
          none (m - (k + 1)) named.property below (names_same logic _ group (rw is named.names))

-- the demand by the numbers of the last ones is the demand
pub logical_by : (is_root : Bool) (props : List Property) (last : List ℕ) (k : ℕ) (p : Property) → AreLastLogics props (length props) last → slice_get props k ≡ Some p
    → IsLogicalBy is_root last (k + 1) p ↔ IsLogical is_root (drop (k + 1) props) p
logical_by is_root props last k (kinds.Logic logic) are at = (
  λ by. record {
    root = by.root;
    last = none_behind props last are k logic at by.group by.last;
    group = by.group;
    then_group = by.then_group;
    rest = by.rest;
    range = by.range;
  },
  λ right. record {
    root = right.root;
    last = is_last props last are k logic at right.group right.last;
    group = right.group;
    then_group = right.then_group;
    rest = right.rest;
    range = right.range;
  },
)
logical_by is_root props last k other are at = (λ t. t, λ t. t)

pub right_is : (is_root : Bool) (props : List Property) (last : List ℕ) (k : ℕ) (p : Property) (b : Bool) → AreLastLogics props (length props) last → k < length props → p ≡ get_or props k p
    → IsTrue b ↔ IsLogicalBy is_root last (k + 1) p → IsTrue b ↔ IsLogical is_root (drop (k + 1) props) p
right_is is_root props last k p b are below is by =
    let same = logical_by is_root props last k p are (slice_get-get_or props k p below ∙ ap Some (sym is)) in
    (λ t. same.0 (by.0 t), λ right. by.1 (same.1 right))

-- ---- ranges

-- where a range is found exactly where the text is one
pub range_found : (text : List ℕ) (found : Option (List Interval)) (b : Bool) → b ≡ is_some found
    → IfSome found (IsRangeText text) → IfNone found ((range : List Interval) → IsRangeText text range → ⊥)
    → IsTrue b ↔ ((range : List Interval) × IsRangeText text range)
range_found text None b is some none = (λ t. absurd cc, λ has. absurd (none has.0 has.1))
range_found text (Some range) b is some none = (λ t. (range, some), λ has. is)
