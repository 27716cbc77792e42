-- The labels of an atom, noted one by one, and the groups that they name.
--     label_in, in_label      a group that is named, and its label among the others
--     no_labels               the note on an atom without labels
--     label_unknown, label_known      one label more
--     groups_more, groups_same        the groups of which the bits are set are those that the labels name
--     groups_rise, groups_known       these rise, and are from 1 to 32
--     all_known               the labels that known properties give are known
use Rattle.std.proofs.Common.{◌≡◌, ◌≢◌, ℕ, suc, ◌+◌, ◌-◌, ◌<◌, ◌≤◌, ◌↔◌, inl, inr, ◌⊎◌, Bool, true, false, cond, eqb, not, ◌&&◌, ◌||◌, List, [], ◌∷◌, ◌++◌, length, get_or, refl, sym, ap, subst, ◌∙◌, arith, All}
use Rattle.std.specs.Prelude.{ℤ, pos, negsuc, AllPairs, Contains, IsTrue}
use Rattle.std.specs.List.{filter, range_with_len}
use Rattle.std.specs.Ordering.{int_eq}
use Rattle.std.proofs.lemmas.Bool.{cases_Bool, cases_eq, true≢false}
use Rattle.std.proofs.lemmas.Bool.Decides.{Decides-int_eq}
use Rattle.std.proofs.lemmas.Int.{ints}
use Rattle.std.proofs.lemmas.List.{append-nil, get_or_append_left, get_or_default, get_or_push, length-append}
use Rattle.std.proofs.lemmas.List.Elements.{All-append, All-cons, All-filter, All-nil}
use Rattle.std.proofs.lemmas.List.Folds.{list_any-append, list_any_at}
use Rattle.std.proofs.lemmas.List.FromFn.{get_or-range_with_len, length-range_with_len}
use Rattle.std.proofs.lemmas.List.Kept.{AllPairs-filter}
use Rattle.std.proofs.lemmas.List.Quantifiers.{all_pairs_push}
use Rattle.std.proofs.lemmas.Nat.Bits.{bit_at-zero}
use Rattle.std.proofs.lemmas.Option.{slice_get_within, get_or_from_slice_get}
use Rattle.mk_text.specs.Items.{OfItem}
use Rattle.mk_text.proofs.ForCallers.{all_of, both, and_true, not_true}
use Rattle.mk_props.specs.declared.property.Pair.{Pair}
use Rattle.mk_props.specs.declared.property.Property.{Property}
use Rattle.mk_props.specs.declared.property.Property.TheVariants as kinds
use Rattle.mk_model.specs.QueryFits.{AreRisingLabels}
use Rattle.mk_model.proofs.ForCallers.{or_false, some_passes}
use Rattle.mk_tables.specs.declared.raw.RawTable.{RawTable}
use Rattle.mk_demands.specs.Charges.{values_for}
use Rattle.mk_demands.specs.Numbers.{natural}
use Rattle.mk_query.specs.declared.drawn.Labels.{Labels}
use Rattle.mk_query.specs.Checks.{HasQueryValues, IsQueryProperty}
use Rattle.mk_query.specs.Compiled.{is_label, labelled_groups}
use Rattle.mk_query.specs.Drawn.{labels_at, label_pairs, pairs_by}
use Rattle.mk_query.specs.Marks.{AreOnce, HasKnownLabels, IsKnownLabel, IsLabels, has_group}
use Rattle.mk_query.specs.SlotMarks.{groups_in}
use Rattle.mk_query.proofs.RangeLemmas.{filter_more, filter_same}

-- ---- a group that labels name

-- a group that is named has its label among them
pub label_in : (those : List ℤ) (g : ℕ) → is_label those g ≡ true → Contains those (pos g)
label_in those g is =
    let found = some_passes (λ label. int_eq label (pos g)) those is in (
      found.place,
      slice_get_within those found.place found.item found.at,
      get_or_from_slice_get those found.place found.item (pos g) found.at ∙ (Decides-int_eq found.item (pos g)).0 found.passes,
    )

-- and the other way round
pub in_label : (those : List ℤ) (g : ℕ) → Contains those (pos g) → is_label those g ≡ true
in_label those g at = list_any_at (λ label. int_eq label (pos g)) those at.0 (pos g) at.1 ((Decides-int_eq (get_or those at.0 (pos g)) (pos g)).1 at.2)

-- one label more names what it is
named_more : (those : List ℤ) (v : ℤ) (g : ℕ) → is_label (those ++ v ∷ []) g ≡ (is_label those g || int_eq v (pos g))
named_more those v g =
    list_any-append (λ label. int_eq label (pos g)) those (v ∷ []) ∙ ap (λ (b : Bool). is_label those g || b) (or_false (int_eq v (pos g)))

-- a label that is known is the number of a group
pub known_number : (v : ℤ) → IsKnownLabel v → (g : ℕ) × (1 ≤ g) × (g ≤ 32) × (v ≡ pos g)
known_number (pos g) is = (g, omega (arith, ints, is.least), omega (arith, ints, is.most), refl)
known_number (negsuc n) is = absurd (omega (arith, ints, is.least))

-- the number of a group is known
number_known : (g : ℕ) → 1 ≤ g → g ≤ 32 → IsKnownLabel (pos g)
number_known g least most = record { least = omega (arith, ints, least); most = omega (arith, ints, most) }

-- ---- notes

-- no bit is set
pub no_bit : (g : ℕ) → has_group 0 g ≡ false
no_bit g = rw (bit_at-zero (g - 1)) refl

-- the note on an atom without labels
pub no_labels : (mark : Labels) → mark.some ≡ false → mark.once ≡ true → mark.groups ≡ 0 → IsLabels [] mark
no_labels mark some once none = record {
  some = (λ so. absurd (true≢false (sym so ∙ some)), λ is. absurd (is refl));
  once = (λ _. record { known = All-nil IsKnownLabel; apart = λ i j d less below. absurd (omega (arith, below)) }, λ _. once);
  groups = λ g least most. rw none (no_bit g);
}

module _ (those : List ℤ) (old new : Labels) (v : ℤ) (are : IsLabels those old) (some : new.some ≡ true) where
  -- there are labels
  still_some : IsTrue new.some ↔ (those ++ v ∷ [] ≢ [])
  still_some = (λ _ none. absurd (omega (arith, ap length none, length-append those (v ∷ []))), λ _. some)

  -- those so far are right where all are
  front : AreOnce (those ++ v ∷ []) → AreOnce those
  front all = record {
    known = λ k d below. rw (get_or_append_left those (v ∷ []) d k below) at (all.known k d (omega (arith, below, length-append those (v ∷ []))));
    apart = λ i j d less below.
        rw (get_or_append_left those (v ∷ []) d i (omega (arith, less, below)), get_or_append_left those (v ∷ []) d j below) at
        (all.apart i j d less (omega (arith, below, length-append those (v ∷ []))));
  }

  -- and so is the last
  last : AreOnce (those ++ v ∷ []) → IsKnownLabel v
  last all = rw (get_or_push those v v (length those) refl) at (all.known (length those) v (omega (arith, length-append those (v ∷ []))))

  -- which none of those before it is
  apart_from : AreOnce (those ++ v ∷ []) → Contains those v → ⊥
  apart_from all (k, below, is) =
      all.apart k (length those) v below (omega (arith, length-append those (v ∷ [])))
      (get_or_append_left those (v ∷ []) v k below ∙ is ∙ sym (get_or_push those v v (length those) refl))

  -- one label more that isn't known
  pub label_unknown : new.once ≡ false → new.groups ≡ old.groups → (IsKnownLabel v → ⊥) → IsLabels (those ++ v ∷ []) new
  label_unknown once same unknown = record {
    some = still_some;
    once = (λ so. absurd (true≢false (sym so ∙ once)), λ all. absurd (unknown (last all)));
    groups = λ g least most.
        ap (λ (n : ℕ). has_group n g) same ∙ are.groups g least most ∙ sym (or_false (is_label those g))
        ∙ ap (λ (b : Bool). is_label those g || b) (sym (other g least most)) ∙ sym (named_more those v g);
  }
    where
      other : (g : ℕ) → 1 ≤ g → g ≤ 32 → int_eq v (pos g) ≡ false
      other g least most =
          elim (cases_Bool (int_eq v (pos g))) [
            | inl same ↦ absurd (unknown (subst IsKnownLabel (sym ((Decides-int_eq v (pos g)).0 same)) (number_known g least most)))
            | inr fails ↦ fails
          ]

  -- one that is
  pub label_known : (g : ℕ) → v ≡ pos g → 1 ≤ g → g ≤ 32 → new.once ≡ (old.once && not (has_group old.groups g)) → has_group new.groups g ≡ true
      → ((h : ℕ) → 1 ≤ h → h ≢ g → has_group new.groups h ≡ has_group old.groups h) → IsLabels (those ++ v ∷ []) new
  label_known g is least most once set others = record {
    some = still_some;
    once = (λ so. all_once (both old.once (not (has_group old.groups g)) (sym once ∙ so)), λ all. once ∙ and_true old.once (not (has_group old.groups g)) (are.once.1 (front all)) (new_one all));
    groups = λ h some few. by_number h some few (cases_eq h g);
  }
    where
      here : has_group old.groups g ≡ is_label those g
      here = are.groups g least most

      all_once : (IsTrue old.once) × (not (has_group old.groups g) ≡ true) → AreOnce (those ++ v ∷ [])
      all_once (so_far, unset) =
          let before = are.once.0 so_far in
          let free : is_label those g ≡ false = sym here ∙ not_true (has_group old.groups g) unset in
          record {
            known = All-append IsKnownLabel those (v ∷ []) before.known (All-cons IsKnownLabel v [] (subst IsKnownLabel (sym is) (number_known g least most)) (All-nil IsKnownLabel));
            apart = all_pairs_push (λ label later. label ≢ later) those v before.apart
                (λ k d below same.
                let there : Contains those (pos g) = (k, below, get_or_default those k (pos g) d below ∙ same ∙ is) in
                absurd (true≢false (sym (in_label those g there) ∙ free)));
          }

      new_one : AreOnce (those ++ v ∷ []) → not (has_group old.groups g) ≡ true
      new_one all = by_test (has_group old.groups g) refl
        where
          by_test : (b : Bool) → has_group old.groups g ≡ b → not b ≡ true
          by_test false e = refl
          by_test true e = absurd (apart_from all (subst (Contains those) (sym is) (label_in those g (sym here ∙ e))))

      by_number : (h : ℕ) → 1 ≤ h → h ≤ 32 → (h ≡ g) ⊎ (h ≡ g → ⊥) → has_group new.groups h ≡ is_label (those ++ v ∷ []) h
      by_number h some few (inl same) =
          let at_end : Contains (those ++ v ∷ []) (pos h) =
          (length those, omega (arith, length-append those (v ∷ [])), get_or_push those v (pos h) (length those) refl ∙ is ∙ ap pos (sym same)) in
          ap (has_group new.groups) same ∙ set ∙ sym (in_label (those ++ v ∷ []) h at_end)
      by_number h some few (inr other) =
          others h some other ∙ are.groups h some few ∙ sym (or_false (is_label those h)) ∙ ap (λ (b : Bool). is_label those h || b) (sym no_more) ∙ sym (named_more those v h)
        where
          no_more : int_eq v (pos h) ≡ false
          no_more =
              elim (cases_Bool (int_eq v (pos h))) [
                | inl test ↦ absurd (other (let same : pos h ≡ pos g = sym ((Decides-int_eq v (pos h)).0 test) ∙ is in cc))
                | inr fails ↦ fails
              ]

-- ---- the groups of labels

-- the groups up to a number of which the bits are set
abbrev pub groups_to : ℕ → ℕ → List ℕ
groups_to groups n = filter (has_group groups) (range_with_len 1 n)

-- one group more
pub groups_set : (groups n : ℕ) → has_group groups (n + 1) ≡ true → groups_to groups (n + 1) ≡ groups_to groups n ++ (n + 1) ∷ []
groups_set groups n set = filter_more (has_group groups) n ∙ ap (λ (b : Bool). groups_to groups n ++ cond b ((n + 1) ∷ []) []) set

pub groups_unset : (groups n : ℕ) → has_group groups (n + 1) ≡ false → groups_to groups (n + 1) ≡ groups_to groups n
groups_unset groups n unset =
    filter_more (has_group groups) n ∙ ap (λ (b : Bool). groups_to groups n ++ cond b ((n + 1) ∷ []) []) unset ∙ append-nil (groups_to groups n)

-- all of them
pub groups_all : (groups n : ℕ) (numbers : List ℕ) → n ≡ 32 → numbers ≡ groups_to groups n → numbers ≡ groups_in groups
unfolding groups_in
groups_all groups n numbers all are = are ∙ ap (groups_to groups) all

-- the groups of which the bits are set are those that the labels name
pub groups_same : (groups : ℕ) (labels : List ℤ) → ((g : ℕ) → 1 ≤ g → g ≤ 32 → has_group groups g ≡ is_label labels g) → groups_in groups ≡ labelled_groups labels
unfolding groups_in labelled_groups
groups_same groups labels same = filter_same (has_group groups) (is_label labels) 32 same

range_between : (n : ℕ) → All (λ g. (1 ≤ g) × (g ≤ n)) (range_with_len 1 n)
range_between n k d below =
    let less : k < n = omega (arith, below, length-range_with_len 1 n) in
    let is = get_or-range_with_len 1 n k d less in (omega (arith, is), omega (arith, is, less))

range_rises : (n : ℕ) → AllPairs (λ g later. g < later) (range_with_len 1 n)
range_rises n i j d less below =
    let within : j < n = omega (arith, below, length-range_with_len 1 n) in
    let first = get_or-range_with_len 1 n i d (omega (arith, less, within)) in
    let second = get_or-range_with_len 1 n j d within in
    omega (arith, first, second, less)

-- they are from 1 to 32
pub groups_known : (labels : List ℤ) → All (λ g. (1 ≤ g) × (g ≤ 32)) (labelled_groups labels)
unfolding labelled_groups
groups_known labels = All-filter (is_label labels) (λ g. (1 ≤ g) × (g ≤ 32)) (range_with_len 1 32) (range_between 32)

-- and rise
pub groups_rise : (labels : List ℤ) → AreRisingLabels (labelled_groups labels)
unfolding labelled_groups
groups_rise labels = record {
  rise = AllPairs-filter (λ g later. g < later) (is_label labels) (range_with_len 1 32) (range_rises 32);
  in_range = All-filter (is_label labels) (λ g. (1 ≤ g) × (g ≤ 32)) (range_with_len 1 32) (range_between 32);
}

-- ---- labels of properties

values_all : (x : ℕ) (pairs : List Pair) → All (λ pair. IsKnownLabel pair.value) pairs → All IsKnownLabel (values_for x pairs)
values_all x [] all = All-nil IsKnownLabel
values_all x (pair ∷ pairs) all =
    let later = values_all x pairs (λ k d below. all (suc k) d (omega (arith, below))) in
    elim (eqb (natural pair.atom) x) as (λ t. All IsKnownLabel (cond t (pair.value ∷ values_for x pairs) (values_for x pairs)))
    [ true ↦ All-cons IsKnownLabel pair.value (values_for x pairs) (all 0 pair (omega arith)) later | false ↦ later ]

pairs_all : (props : List Property) → All HasKnownLabels props → All (λ (pair : Pair). IsKnownLabel pair.value) (pairs_by label_pairs props)
pairs_all [] all = All-nil (λ (pair : Pair). IsKnownLabel pair.value)
pairs_all (p ∷ props) all =
    All-append (λ (pair : Pair). IsKnownLabel pair.value) (label_pairs p) (pairs_by label_pairs props) (all 0 p (omega arith)) (pairs_all props (λ k d below. all (suc k) d (omega (arith, below))))

known_by_values : (p : Property) → HasQueryValues p → HasKnownLabels p
known_by_values (kinds.Label pairs) values = values
known_by_values p values = All-nil (λ (pair : Pair). IsKnownLabel pair.value)

-- properties that give known values give known labels
pub known_by_properties : (table : RawTable) → ((item : ℕ) → OfItem (IsQueryProperty (length table.atoms)) table.props item) → All HasKnownLabels table.props
known_by_properties table passes = λ k d below. known_by_values (get_or table.props k d) (all_of (IsQueryProperty (length table.atoms)) table.props passes k d below).values

-- the labels that known properties give are known
pub all_known : (table : RawTable) (x : ℕ) → All HasKnownLabels table.props → All IsKnownLabel (labels_at table x)
all_known table x all = values_all x (pairs_by label_pairs table.props) (pairs_all table.props all)
