-- The labels of each atom, noted pair by pair, and the numbers of the groups that have members.
use Rattle.std.proofs.Common.{◌≡◌, ℕ, ◌+◌, ◌<◌, ◌≤◌, ◌↔◌, ◌⊎◌, inl, inr, Bool, true, false, List, [], ◌∷◌, ◌++◌, length, get_or, replicate, set, not, ◌&&◌, ◌||◌, refl, sym, ap, subst, ◌∙◌, ⊎_elim, arith}
use Rattle.std.specs.Prelude.{ℤ, pos, negsuc, All, Contains, IsTrue}
use Rattle.std.proofs.lemmas.Bool.{cases_eq, cases_lt, true≢false}
use Rattle.std.proofs.lemmas.List.{append-nil, get_or_past, get_or-replicate, get_or-set_other, get_or-set_same, length-replicate}
use Rattle.std.proofs.lemmas.List.Elements.{All-nil, Contains-append_left, Contains-get_or, Contains-push, Contains-push_cases}
use Rattle.mk_tables.specs.declared.raw.RawAtom.{RawAtom}
use Rattle.mk_tables.specs.declared.raw.RawTable.{RawTable}
use Rattle.mk_rgfile.specs.declared.raw_query.RawGroup.{RawGroup}
use Rattle.mk_text.proofs.ForCallers.{both, and_true, not_true}
use Rattle.mk_props.specs.declared.property.Pair.{Pair}
use Rattle.mk_props.specs.declared.property.Property.{Property}
use Rattle.mk_demands.specs.Charges.{values_for}
use Rattle.mk_demands.proofs.ForCallers.{values_for-append}
use Rattle.mk_query.specs.declared.drawn.Labels.{Labels}
use Rattle.mk_query.specs.Drawn.{is_site, labels_at, label_pairs, pairs_by}
use Rattle.mk_query.specs.Marks.{AreAllServed, AreMarks, AreMore, AreServed, IsKnownLabel, IsLabels, has_group, is_served}
use Rattle.mk_query.specs.SiteChecks.{HasMember, IsLabelled}
use Rattle.mk_query.proofs.LabelMarkLemmas.{in_label, known_number, label_in}
use Rattle.mk_query.proofs.MarkLemmas.{TellsOn, more-same}
use Rattle.mk_query.proofs.ValueLemmas.{pairs_by-push}

-- the labels that some pairs give
abbrev pub labels_by : List Pair → ℕ → List ℤ
labels_by pairs x = values_for x pairs

-- the labels that some properties give
abbrev pub labels_in : List Property → ℕ → List ℤ
labels_in props x = values_for x (pairs_by label_pairs props)

pub pairs_told : TellsOn labels_by
pairs_told pairs pair x = values_for-append x pairs (pair ∷ [])

pub properties_told : TellsOn labels_in
properties_told props property x =
    ap (λ (l : List Pair). values_for x l) (pairs_by-push label_pairs props property)
    ∙ values_for-append x (pairs_by label_pairs props) (label_pairs property)
    ∙ ap (λ (l : List Pair). values_for x (pairs_by label_pairs props) ++ values_for x l) (sym (append-nil (label_pairs property)))

-- what one property gives
pub one_property : (property : Property) (old new : List Labels) → AreMore IsLabels (labels_by (label_pairs property)) old new → AreMore IsLabels (labels_in (property ∷ [])) old new
one_property property old new more =
    more-same IsLabels (labels_by (label_pairs property)) (labels_in (property ∷ [])) old new (λ x. ap (λ (l : List Pair). values_for x l) (sym (append-nil (label_pairs property)))) more

-- ---- what is demanded of labels

-- what is noted of the labels of the atom at a place
pub labels_at_place : (table : RawTable) (marks : List Labels) (i : ℕ) (l : Labels) → i < length marks
    → AreMarks (λ x. IsLabels (labels_at table x)) marks → l ≡ get_or marks i l → IsLabels (labels_at table (i + 1)) l
labels_at_place table marks i l below are is = rw (← is) at (are i l below)

-- what is demanded of the labels of atom x
abbrev pub HasLabels : List RawGroup → RawTable → ℕ → RawAtom → Type 0
HasLabels groups table x atom = IsLabelled groups (labels_at table x) atom

-- an atom without labels
no_labels_are : (those : List ℤ) (mark : Labels) → IsLabels those mark → mark.some ≡ false → those ≡ []
no_labels_are [] mark are none = refl
no_labels_are (v ∷ those) mark are none = absurd (true≢false (sym (are.some.1 (λ e. absurd cc)) ∙ none))

-- is labelled where it is no site
pub unlabelled_is : (groups : List RawGroup) (those : List ℤ) (mark : Labels) (atom : RawAtom) → IsLabels those mark → mark.some ≡ false → IsTrue (not (is_site atom)) ↔ IsLabelled groups those atom
unlabelled_is groups those mark atom are none = rw (no_labels_are those mark are none) (there, back (is_site atom) refl)
  where
    there : IsTrue (not (is_site atom)) → IsLabelled groups [] atom
    there no_site = record {
      word = (λ site. absurd (true≢false (sym site ∙ not_true (is_site atom) no_site)), λ some. absurd (some refl));
      once = λ i j d less below. absurd (omega (arith, below));
      members = All-nil (HasMember groups);
    }

    back : (b : Bool) → is_site atom ≡ b → IsLabelled groups [] atom → IsTrue (not b)
    back false e labelled = refl
    back true e labelled = absurd (labelled.word.0 e refl)

-- an atom with labels is labelled where it is a site, no label stands twice and each serves
pub labelled_is : (groups : List RawGroup) (served : List Bool) (those : List ℤ) (mark : Labels) (atom : RawAtom) (all : Bool) → AreServed groups served → All IsKnownLabel those → IsLabels those mark
    → mark.some ≡ true → IsTrue all ↔ AreAllServed served mark.groups → IsTrue (is_site atom && (mark.once && all)) ↔ IsLabelled groups those atom
labelled_is groups served those mark atom all served_are known are some tells = (there, back)
  where
    number_served : (label : ℤ) → IsKnownLabel label → Contains those label → AreAllServed served mark.groups → HasMember groups label
    number_served label is at serve =
        let number = known_number label is in
        let set : has_group mark.groups number.0 ≡ true = are.groups number.0 number.1 number.2 ∙ in_label those number.0 (subst (Contains those) number.3 at) in
        subst (HasMember groups) (sym number.3) ((served_are (pos number.0)).0 (serve number.0 number.1 number.2 set))

    there : IsTrue (is_site atom && (mark.once && all)) → IsLabelled groups those atom
    there passes =
        let first = both (is_site atom) (mark.once && all) passes in
        let second = both mark.once all first.1 in
        record {
          word = (λ _. are.some.0 some, λ _. first.0);
          once = (are.once.0 second.0).apart;
          members = λ k d below. number_served (get_or those k d) (known k d below) (Contains-get_or those k d below) (tells.0 second.1);
        }

    back : IsLabelled groups those atom → IsTrue (is_site atom && (mark.once && all))
    back labelled =
        and_true (is_site atom) (mark.once && all) (labelled.word.1 (are.some.0 some))
        (and_true mark.once all (are.once.1 (record { known = known; apart = labelled.once })) (tells.1 (λ g least most set. (served_are (pos g)).1 (member_of g least most set))))
      where
        member_of : (g : ℕ) → 1 ≤ g → g ≤ 32 → IsTrue (has_group mark.groups g) → HasMember groups (pos g)
        member_of g least most set =
            let at = label_in those g (sym (are.groups g least most) ∙ set) in
            subst (HasMember groups) at.2 (labelled.members at.0 (pos g) at.1)

-- what is tested of a group says that it is served where its bit is set
pub serves_is : (served : List Bool) (groups g : ℕ) → (not (has_group groups g) || is_served served (pos g)) ≡ true → IsTrue (has_group groups g) → IsTrue (is_served served (pos g))
serves_is served groups g test set = ap (λ (b : Bool). not b || is_served served (pos g)) (sym set) ∙ test

-- and where the test fails the bit is set and it isn't served
pub unserved_is : (served : List Bool) (groups g : ℕ) → (not (has_group groups g) || is_served served (pos g)) ≡ false → (IsTrue (has_group groups g) → IsTrue (is_served served (pos g))) → ⊥
unserved_is served groups g test all = by_bit (has_group groups g) refl test
  where
    by_bit : (b : Bool) → has_group groups g ≡ b → (not b || is_served served (pos g)) ≡ false → ⊥
    by_bit false e fails = true≢false fails
    by_bit true e fails = true≢false (sym (all e) ∙ fails)

-- one group more that is served, or isn't asked
pub served_more : (served : List Bool) (groups i : ℕ) → ((g : ℕ) → 1 ≤ g → g ≤ i → IsTrue (has_group groups g) → IsTrue (is_served served (pos g)))
    → (IsTrue (has_group groups (i + 1)) → IsTrue (is_served served (pos (i + 1))))
    → (g : ℕ) → 1 ≤ g → g ≤ i + 1 → IsTrue (has_group groups g) → IsTrue (is_served served (pos g))
served_more served groups i before here g least most set =
    ⊎_elim (λ earlier. before g least (omega (arith, earlier)) set)
    (λ last. let same : g ≡ i + 1 = omega (arith, most, last) in
    subst (λ (h : ℕ). IsTrue (is_served served (pos h))) (sym same) (here (subst (λ (h : ℕ). IsTrue (has_group groups h)) same set)))
    (cases_lt g (i + 1))

-- ---- numbers of groups

-- a group that serves a label
abbrev Serves : RawGroup → ℤ → Type 0
Serves group label = (pos group.number ≡ label) × (1 ≤ length group.members)

-- what some groups serve, one group more serves too
wider : (before : List RawGroup) (group : RawGroup) (label : ℤ) → HasMember before label → HasMember (before ++ group ∷ []) label
wider before group label has = (has.0, Contains-append_left before (group ∷ []) has.0 has.1, has.2, has.3)

-- and what it serves by itself
by_last : (before : List RawGroup) (group : RawGroup) (label : ℤ) → Serves group label → HasMember (before ++ group ∷ []) label
by_last before group label serves = (group, Contains-push before group, serves.0, serves.1)

-- what is served is served by one of those before, or by the last
split : (before : List RawGroup) (group : RawGroup) (label : ℤ) → HasMember (before ++ group ∷ []) label → HasMember before label ⊎ Serves group label
split before group label has =
    ⊎_elim (λ front. inl (has.0, front, has.2, has.3)) (λ last. inr (subst (λ (g : RawGroup). Serves g label) (sym last) (has.2, has.3))) (Contains-push_cases before group has.0 has.1)

-- nothing is marked in a list that was just made
unmarked : (n g : ℕ) → get_or (replicate n false) g false ≡ false
unmarked n g = ⊎_elim (λ below. get_or-replicate n g false false below) (λ above. get_or_past (replicate n false) g false (omega (arith, above, length-replicate n false))) (cases_lt g n)

-- no group serves a number yet
pub served-none : (n : ℕ) → AreServed [] (replicate n false)
served-none n (pos g) = (λ marked. absurd (true≢false (sym marked ∙ unmarked n g)), λ has. absurd (let below = has.1.1 in omega (arith, below)))
served-none n (negsuc g) = (λ marked. absurd (true≢false (sym marked)), λ has. absurd (let below = has.1.1 in omega (arith, below)))

-- a group without members serves none
pub served-skip : (before : List RawGroup) (group : RawGroup) (served : List Bool) → length group.members ≡ 0 → AreServed before served → AreServed (before ++ group ∷ []) served
served-skip before group served empty are label = (
  λ marked. wider before group label ((are label).0 marked),
  λ has. ⊎_elim (λ front. (are label).1 front) (λ serves. absurd (let some = serves.1 in omega (arith, empty, some))) (split before group label has),
)

-- one with members serves its number
pub served-mark : (before : List RawGroup) (group : RawGroup) (served : List Bool) → 1 ≤ length group.members → group.number < length served → AreServed before served
    → AreServed (before ++ group ∷ []) (set served group.number true)
served-mark before group served some within are (negsuc g) = (
  λ marked. absurd (true≢false (sym marked)),
  λ has. ⊎_elim (λ front. (are (negsuc g)).1 front) (λ serves. absurd (let same = serves.0 in cc)) (split before group (negsuc g) has),
)
served-mark before group served some within are (pos g) = ⊎_elim here elsewhere (cases_eq g group.number)
  where
    new : List Bool
    new = set served group.number true

    here : g ≡ group.number → IsTrue (get_or new g false) ↔ HasMember (before ++ group ∷ []) (pos g)
    here same = (
      λ marked. by_last before group (pos g) (ap pos (sym same), some),
      λ has. ap (λ (k : ℕ). get_or new k false) same ∙ get_or-set_same served group.number true false within,
    )

    elsewhere : (g ≡ group.number → ⊥) → IsTrue (get_or new g false) ↔ HasMember (before ++ group ∷ []) (pos g)
    elsewhere other =
        let at : get_or new g false ≡ get_or served g false = get_or-set_other served group.number g true false other in (
          λ marked. wider before group (pos g) ((are (pos g)).0 (sym at ∙ marked)),
          λ has. at ∙ ⊎_elim (λ front. (are (pos g)).1 front) (λ serves. absurd (other (let same = serves.0 in cc))) (split before group (pos g) has),
        )
