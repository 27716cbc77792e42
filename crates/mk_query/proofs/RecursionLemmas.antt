-- Which groups lead to which, and the tables that use themselves.
--     slots_at, members_at_place       a table's slots and a group's members, by their places
--     also_more, label_more            the bits of groups for one slot or label more
--     hold_more                        one more entry of a table of rows and columns
--     by_way_more                      all entries, where one group more may stand between
--     chain_leads, leads_chain         a table leads on to another exactly where one of its sites leads to its group
--     ranked                           where none uses itself, the groups to which a table leads rank it
use Rattle.std.proofs.Common.{◌≡◌, ℕ, zero, suc, ◌+◌, ◌-◌, ◌*◌, ◌<◌, ◌≤◌, Bool, true, false, cond, inl, inr, ◌⊎◌, ⊎_elim, Option, None, ◌&&◌, ◌||◌, List, [], ◌∷◌, ◌++◌, Some, refl, sym, ap, subst, ◌∙◌, arith, length, get_or, take, All}
use Rattle.std.specs.Prelude.{◌≢◌, ◌==◌, count_by, Contains, slice_get}
use Rattle.std.specs.List.{list_any, range_with_len}
use Rattle.std.proofs.lemmas.Bool.Decides.{nat_tests}
use Rattle.std.proofs.lemmas.Bool.{cases_lt, true≢false}
use Rattle.std.proofs.lemmas.List.{get_or_append_left, get_or_push, length-append, take_all, take_more}
use Rattle.std.proofs.lemmas.List.Elements.{Contains-append_cases}
use Rattle.std.proofs.lemmas.List.Folds.{list_any_at, list_any_more}
use Rattle.std.proofs.lemmas.List.FromFn.{get_or-range_with_len, length-range_with_len}
use Rattle.std.proofs.lemmas.List.Sums.{count_by-le-length, sum_by-cons}
use Rattle.std.proofs.lemmas.Option.{slice_get_within, get_or_from_slice_get}
use Rattle.mk_text.proofs.ForCallers.{both, and_true, or_left, or_right}
use Rattle.mk_model.specs.declared.group.Group.{Group}
use Rattle.mk_model.specs.declared.template.Slot.{Slot}
use Rattle.mk_model.specs.Labels.{IsChain, PutsIn, bears_label, site_labels, members_at}
use Rattle.mk_model.specs.Queries.{QueryView, members_of, slots_of}
use Rattle.mk_model.specs.Templates.{TemplateView}
use Rattle.mk_model.proofs.ForCallers.{IsOfLabel, IsRanked, all_at, at_place, is_joint, member_of_label, members_are, passes_some, some_passes}
use Rattle.mk_query.specs.CompileFaults.{IsNoCycle}
use Rattle.mk_query.specs.Draft.{IsDrafted}
use Rattle.mk_query.specs.Marks.{has_group}
use Rattle.mk_query.specs.Recursion.{ComesBack, HasAlso, HoldSoFar, Holds, MembersWithin, NamesGroups, asks_for, comes_back, entry, leads, leads_on}

-- ---- by places

-- the slots of the table at a place
pub slots_at : (query : QueryView) (u : ℕ) (x : TemplateView) → u < length query.templates → x ≡ get_or query.templates u x → slots_of query u ≡ x.slots
slots_at query u x below is = (let at : slice_get query.templates u ≡ Some x = at_place query.templates u x below ∙ ap Some (sym is) in rw at refl)

-- the members of the group at a place
pub members_at_place : (query : QueryView) (a : ℕ) (x : Group) → a < length query.groups → x ≡ get_or query.groups a x → members_of query (a + 1) ≡ x.members
members_at_place query a x below is =
    let at : slice_get query.groups a ≡ Some x = at_place query.groups a x below ∙ ap Some (sym is) in
    let place : a + 1 - 1 ≡ a = omega arith in
    rw (place, at) refl

-- an element that passes is in the list
in_list : {X : Type 0} (p : X → Bool) (xs : List X) → list_any p xs ≡ true → (x : X) × Contains xs x × (p x ≡ true)
in_list p xs any =
    let found = some_passes p xs any in
    (found.item, (found.place, slice_get_within xs found.place found.item found.at, get_or_from_slice_get xs found.place found.item found.item found.at), found.passes)

-- and one of the list that passes is enough
from_list : {X : Type 0} (p : X → Bool) (xs : List X) (x : X) → Contains xs x → p x ≡ true → list_any p xs ≡ true
from_list p xs x at passes = list_any_at p xs at.0 x at.1 (ap p at.2 ∙ passes)

-- numbers by their test
same_numbers : (n m : ℕ) → (n == m) ≡ true → n ≡ m
same_numbers n m e = grind (arith, nat_tests)

numbers_same : (n m : ℕ) → n ≡ m → (n == m) ≡ true
numbers_same n m e = grind (arith, nat_tests)

-- ---- tables of rows and columns

-- the first a rows, and b entries of the next, are those of f
pub record HoldTo (f : ℕ → ℕ → Bool) (list : List Bool) (a b : ℕ) : Type 0 where
  pub row : a < 32
  pub size : length list ≡ 32 * a + b
  pub column : b ≤ 32
  pub each : HoldSoFar f list

-- one entry more
pub hold_more : (f : ℕ → ℕ → Bool) (list : List Bool) (a b : ℕ) (x : Bool) (new : List Bool) → new ≡ list ++ x ∷ [] → b < 32 → x ≡ f (a + 1) (b + 1) → HoldTo f list a b
    → HoldTo f new a (b + 1)
hold_more f list a b x new pushed below is before =
    let size : length new ≡ length list + 1 = ap (λ (l : List Bool). length l) pushed ∙ length-append list (x ∷ []) in
    record {
      row = before.row;
      size = omega (arith, size, before.size);
      column = omega (arith, below);
      each = λ row column few within.
          rw pushed
          (⊎_elim
          (λ earlier. get_or_append_left list (x ∷ []) false (32 * row + column) earlier ∙ before.each row column few earlier)
          (λ last.
          let same_row : row ≡ a = omega (arith, last, within, size, before.size, few, below) in
          let same_column : column ≡ b = omega (arith, last, within, size, before.size, few, below) in
          get_or_push list x false (32 * row + column) (omega (arith, last, within, size)) ∙ is ∙ rw (same_row, same_column) refl)
          (cases_lt (32 * row + column) (length list)));
    }

-- ---- bits of groups

or_false : (b : Bool) → b ≡ (b || false)
or_false true = refl
or_false false = refl

or_both : (a b c : Bool) → ((a || b) || c) ≡ (a || (b || c))
or_both true b c = refl
or_both false b c = refl

module _ {X : Type 0} (test : ℕ → X → Bool) (xs : List X) (first : ℕ) where
  -- the bits of those so far, for which a test of numbers holds
  abbrev pub HaveAlso : ℕ → ℕ → Type 0
  HaveAlso i new = HasAlso new first (λ h. list_any (test h) (take i xs))

  pub also_none : HaveAlso 0 first
  also_none h some few = or_false (has_group first h)

  -- one more
  pub also_more : (i old new : ℕ) (d : X) → i < length xs → HasAlso new old (λ h. test h (get_or xs i d)) → HaveAlso i old → HaveAlso (i + 1) new
  also_more i old new d below here before h some few =
      here h some few ∙ rw (before h some few, list_any_more (test h) xs i d below) (or_both (has_group first h) (list_any (test h) (take i xs)) (test h (get_or xs i d)))

  pub also_all : (i new : ℕ) → length xs ≤ i → HaveAlso i new → HasAlso new first (λ h. list_any (test h) xs)
  also_all i new all have = subst (λ (l : List X). HasAlso new first (λ h. list_any (test h) l)) (take_all i xs all) have

-- one label more
pub label_more : (groups new g : ℕ) → 1 ≤ g → has_group new g ≡ true → ((h : ℕ) → 1 ≤ h → h ≢ g → has_group new h ≡ has_group groups h) → HasAlso new groups (λ h. g == h)
label_more groups new g least set others h some few = by_test (g == h) refl
  where
    by_test : (b : Bool) → (g == h) ≡ b → has_group new h ≡ (has_group groups h || (g == h))
    by_test true e = (let same : g ≡ h = same_numbers g h e in rw e (subst (λ (n : ℕ). has_group new n ≡ true) same set ∙ sym (or_right (has_group groups h) true refl)))
    by_test false e =
        rw e (others h some (λ same. true≢false (sym (numbers_same g h (sym same)) ∙ e)) ∙ or_false (has_group groups h))

-- ---- ways from group to group

-- group g asks for the first of the groups between, and so on, up to group h
abbrev Asks : QueryView → ℕ → List ℕ → ℕ → Type 0
Asks query g [] h = asks_for query g h ≡ true
Asks query g (v ∷ via) h = (asks_for query g v ≡ true) × Asks query v via h

-- two ways, one behind the other
joined : (query : QueryView) (g : ℕ) (via : List ℕ) (v : ℕ) (others : List ℕ) (h : ℕ) → Asks query g via v → Asks query v others h → Asks query g (via ++ v ∷ others) h
joined query g [] v others h first second = (first, second)
joined query g (w ∷ via) v others h first second = (first.0, joined query w via v others h first.1 second)

other_number : (n k : ℕ) → n ≤ suc k → (n == suc k) ≡ false → n ≤ k
other_number n k most e = grind (arith, nat_tests)

-- one of two tests
one_of : (a b : Bool) → (a || b) ≡ true → (a ≡ false → b ≡ true)
one_of true b holds e = absurd cc
one_of false b holds e = holds

-- what leads on is a way
way : (query : QueryView) (k g h : ℕ) → leads query k g h ≡ true → (via : List ℕ) × Asks query g via h
way query zero g h is = ([], is)
way query (suc k) g h is = by_first (leads query k g h) refl (way query k)
  where
    by_first : (b : Bool) → leads query k g h ≡ b → ((g h : ℕ) → leads query k g h ≡ true → (via : List ℕ) × Asks query g via h) → (via : List ℕ) × Asks query g via h
    by_first true e ways = ways g h e
    by_first false e ways =
        let two = both (leads query k g (suc k)) (leads query k (suc k) h) (one_of _ _ is e) in
        let first = ways g (suc k) two.0 in
        let second = ways (suc k) h two.1 in
        (first.0 ++ suc k ∷ second.0, joined query g first.0 (suc k) second.0 h first.1 second.1)

-- with more groups between no less
more_between : (query : QueryView) (k g h : ℕ) → leads query 0 g h ≡ true → leads query k g h ≡ true
more_between query zero g h is = is
more_between query (suc k) g h is = or_left (leads query k g h) _ (more_between query k g h is)

-- through one of the groups between
module _ (query : QueryView) where
  -- what leads on by one group more leads on to it, and from it
  last_to : (k g : ℕ) → leads query (suc k) g (suc k) ≡ true → leads query k g (suc k) ≡ true
  last_to k g is = by_first (leads query k g (suc k)) refl
    where
      by_first : (b : Bool) → leads query k g (suc k) ≡ b → leads query k g (suc k) ≡ true
      by_first true e = e
      by_first false e = (both (leads query k g (suc k)) _ (one_of _ _ is e)).0

  last_from : (k h : ℕ) → leads query (suc k) (suc k) h ≡ true → leads query k (suc k) h ≡ true
  last_from k h is = by_first (leads query k (suc k) h) refl
    where
      by_first : (b : Bool) → leads query k (suc k) h ≡ b → leads query k (suc k) h ≡ true
      by_first true e = e
      by_first false e = (both (leads query k (suc k) (suc k)) (leads query k (suc k) h) (one_of _ _ is e)).1

  -- by the last group
  by_last : (k g h : ℕ) → leads query k g (suc k) ≡ true → leads query k (suc k) h ≡ true → leads query (suc k) g h ≡ true
  by_last k g h first second = or_right (leads query k g h) _ (and_true _ _ first second)

  -- through a group is a way
  abbrev GoesThrough : ℕ → Type 0
  GoesThrough k = (g v h : ℕ) → 1 ≤ v → v ≤ k → leads query k g v ≡ true → leads query k v h ≡ true → leads query k g h ≡ true

  -- through one that isn't the last, where each of the two ways goes by the last or not
  inside : (k : ℕ) → GoesThrough k → (g v h : ℕ) → 1 ≤ v → v ≤ k → leads query (suc k) g v ≡ true → leads query (suc k) v h ≡ true
      → (a b : Bool) → leads query k g v ≡ a → leads query k v h ≡ b → leads query (suc k) g h ≡ true
  inside k goes g v h some low first second true true e e' = or_left (leads query k g h) _ (goes g v h some low e e')
  inside k goes g v h some low first second true false e e' =
      let two = both (leads query k v (suc k)) (leads query k (suc k) h) (one_of _ _ second e') in
      by_last k g h (goes g v (suc k) some low e two.0) two.1
  inside k goes g v h some low first second false true e e' =
      let two = both (leads query k g (suc k)) (leads query k (suc k) v) (one_of _ _ first e) in
      by_last k g h two.0 (goes (suc k) v h some low two.1 e')
  inside k goes g v h some low first second false false e e' =
      let two = both (leads query k g (suc k)) (leads query k (suc k) v) (one_of _ _ first e) in
      let other = both (leads query k v (suc k)) (leads query k (suc k) h) (one_of _ _ second e') in
      by_last k g h two.0 other.1

  pub through : (k : ℕ) → GoesThrough k
  through zero g v h some few first second = absurd (omega arith)
  through (suc k) g v h some few first second = by_place (v == suc k) refl (through k)
    where
      by_place : (b : Bool) → (v == suc k) ≡ b → GoesThrough k → leads query (suc k) g h ≡ true
      by_place true e goes =
          let same : v ≡ suc k = same_numbers v (suc k) e in
          by_last k g h (last_to k g (rw same at first)) (last_from k h (rw same at second))
      by_place false e goes = (let low : v ≤ k = other_number v k few e in inside k goes g v h some low first second _ _ refl refl)

-- ---- tables and groups

-- the labels of all sites are groups' numbers
abbrev pub HasGroups : QueryView → Type 0
HasGroups query = (t : ℕ) (slot : Slot) → Contains (slots_of query t) slot → NamesGroups slot

-- the label by which a slot puts a table in
label_of : (query : QueryView) (slot : Slot) (u : ℕ) → Contains (members_at query slot) u → IsOfLabel query (site_labels slot) u
label_of query slot u at = member_of_label query (site_labels slot) u (subst (λ (l : List ℕ). Contains l u) (members_are query slot) at)

-- a label at its place is borne
bears_at : (slot : Slot) (i h : ℕ) → slice_get (site_labels slot) i ≡ Some h → bears_label slot h ≡ true
bears_at slot i h at = passes_some (λ l. l == h) (site_labels slot) i h at (numbers_same h h refl)

-- a site leads to each of its labels, and to all groups to which one leads
leads_to : (f : ℕ → ℕ → Bool) (slot : Slot) (i h : ℕ) → slice_get (site_labels slot) i ≡ Some h → leads_on f h slot ≡ true
leads_to f slot i h at = passes_some (λ l. (l == h) || f l h) (site_labels slot) i h at (or_left (h == h) (f h h) (numbers_same h h refl))

leads_by : (f : ℕ → ℕ → Bool) (g : ℕ) (slot : Slot) (i h : ℕ) → slice_get (site_labels slot) i ≡ Some h → f h g ≡ true → leads_on f g slot ≡ true
leads_by f g slot i h at is = passes_some (λ l. (l == g) || f l g) (site_labels slot) i h at (or_right (h == g) (f h g) is)

-- a site that bears a group's label puts in each of its members
puts_in : (query : QueryView) → MembersWithin query → (t : ℕ) (slot : Slot) (h u : ℕ) → Contains (slots_of query t) slot → bears_label slot h ≡ true
    → Contains (members_of query h) u → PutsIn query t u
puts_in query within t slot h u at bears member =
    let found = some_passes (λ l. l == h) (site_labels slot) bears in
    let same : found.item ≡ h = same_numbers found.item h found.passes in
    record {
      slot = slot;
      at = at;
      fills = subst (λ (l : List ℕ). Contains l u) (sym (members_are query slot))
          (is_joint query (site_labels slot) u found.place h (within h u member) (found.at ∙ ap Some same) member);
    }

-- the group of a table asks for those of a site which leads on
on_from : (query : QueryView) (k : ℕ) → 32 ≤ k → (h v g : ℕ) (slot : Slot) → Contains (members_of query h) v → NamesGroups slot → Contains (slots_of query v) slot
    → leads_on (leads query k) g slot ≡ true → leads query k h g ≡ true
on_from query k enough h v g slot member has at on =
    let found = some_passes (λ l. (l == g) || leads query k l g) (site_labels slot) on in
    let asked : asks_for query h found.item ≡ true =
    from_list (λ u. list_any (λ slot. bears_label slot found.item) (slots_of query u)) (members_of query h) v member
    (from_list (λ slot. bears_label slot found.item) (slots_of query v) slot at (bears_at slot found.place found.item found.at)) in
    by_label found.item (all_at (λ (l : ℕ). (1 ≤ l) × (l ≤ 32)) (site_labels slot) found.place found.item has found.at) (found.item == g) refl found.passes (more_between query k h found.item asked)
  where
    by_label : (label : ℕ) → (1 ≤ label) × (label ≤ 32) → (b : Bool) → (label == g) ≡ b → ((label == g) || leads query k label g) ≡ true
        → leads query k h label ≡ true → leads query k h g ≡ true
    by_label label known true e passes here = (let same : label ≡ g = same_numbers label g e in rw same at here)
    by_label label known false e passes here = through query k h label g known.0 (omega (arith, known.1)) here (one_of _ _ passes e)

-- A table that puts in another leads to a group of the other, and to all groups to which the other leads.
pub record LeadsOn (query : QueryView) (k t u : ℕ) : Type 0 where
  pub group : ℕ
  pub some : 1 ≤ group
  pub few : group ≤ 32
  pub member : Contains (members_of query group) u
  pub here : comes_back (leads query k) group (slots_of query t) ≡ true
  pub on : (g : ℕ) → comes_back (leads query k) g (slots_of query u) ≡ true → comes_back (leads query k) g (slots_of query t) ≡ true

pub puts_leads : (query : QueryView) (k : ℕ) → 32 ≤ k → HasGroups query → (t u : ℕ) → PutsIn query t u → LeadsOn query k t u
puts_leads query k enough has t u puts =
    let found = label_of query puts.slot u puts.fills in
    let known = all_at (λ (l : ℕ). (1 ≤ l) × (l ≤ 32)) (site_labels puts.slot) found.place found.label (has t puts.slot puts.at) found.at in
    record {
      group = found.label;
      some = known.0;
      few = known.1;
      member = found.has;
      here = from_list (leads_on (leads query k) found.label) (slots_of query t) puts.slot puts.at (leads_to (leads query k) puts.slot found.place found.label found.at);
      on = λ g later.
          let on = in_list (leads_on (leads query k) g) (slots_of query u) later in
          from_list (leads_on (leads query k) g) (slots_of query t) puts.slot puts.at
          (leads_by (leads query k) g puts.slot found.place found.label found.at (on_from query k enough found.label u g on.0 found.has (has u on.0 on.1) on.1 on.2));
    }

-- a table that puts in one which leads on does so itself
pub chain_leads : (query : QueryView) (k : ℕ) → 32 ≤ k → HasGroups query → (t : ℕ) (via : List ℕ) (u : ℕ) → IsChain query t via u
    → (g : ℕ) × (1 ≤ g) × (g ≤ 32) × Contains (members_of query g) u × (comes_back (leads query k) g (slots_of query t) ≡ true)
chain_leads query k enough has t [] u chain = (let leads = puts_leads query k enough has t u chain in (leads.group, leads.some, leads.few, leads.member, leads.here))
chain_leads query k enough has t (v ∷ via) u chain =
    let later = chain_leads query k enough has v via u chain.1 in
    (later.0, later.1, later.2, later.3, (puts_leads query k enough has t v chain.0).on later.0 later.4)

-- the way from a site's group to another is a chain of tables, up to any member of it
ways_down : (query : QueryView) → MembersWithin query → (t : ℕ) (slot : Slot) (h : ℕ) (via : List ℕ) (g u : ℕ) → Contains (slots_of query t) slot → bears_label slot h ≡ true → Asks query h via g
    → Contains (members_of query g) u → (tables : List ℕ) × IsChain query t tables u
ways_down query within t slot h [] g u at bears asks member =
    let first = in_list (λ v. list_any (λ slot. bears_label slot g) (slots_of query v)) (members_of query h) asks in
    let second = in_list (λ slot. bears_label slot g) (slots_of query first.0) first.2 in
    (first.0 ∷ [], (puts_in query within t slot h first.0 at bears first.1, puts_in query within first.0 second.0 g u second.1 second.2 member))
ways_down query within t slot h (w ∷ via) g u at bears asks member =
    let first = in_list (λ v. list_any (λ slot. bears_label slot w) (slots_of query v)) (members_of query h) asks.0 in
    let second = in_list (λ slot. bears_label slot w) (slots_of query first.0) first.2 in
    let later = ways_down query within first.0 second.0 w via g u second.1 second.2 asks.1 member in
    (first.0 ∷ later.0, (puts_in query within t slot h first.0 at bears first.1, later.1))

-- a site that leads to a group puts in, directly or through others, every member of it
pub leads_chain : (query : QueryView) → MembersWithin query → (k t g u : ℕ) → Contains (members_of query g) u
    → comes_back (leads query k) g (slots_of query t) ≡ true → (via : List ℕ) × IsChain query t via u
leads_chain query within k t g u member back =
    let on = in_list (leads_on (leads query k) g) (slots_of query t) back in
    let found = some_passes (λ l. (l == g) || leads query k l g) (site_labels on.0) on.2 in
    by_label on.0 on.1 found.item (bears_at on.0 found.place found.item found.at) (found.item == g) refl found.passes
  where
    by_label : (slot : Slot) → Contains (slots_of query t) slot → (label : ℕ) → bears_label slot label ≡ true → (b : Bool) → (label == g) ≡ b
        → ((label == g) || leads query k label g) ≡ true → (via : List ℕ) × IsChain query t via u
    by_label slot at label bears true e passes =
        let same : label ≡ g = same_numbers label g e in
        ([], puts_in query within t slot g u at (subst (λ (h : ℕ). bears_label slot h ≡ true) same bears) member)
    by_label slot at label bears false e passes =
        let asks = way query k label g (one_of _ _ passes e) in
        ways_down query within t slot label asks.0 g u at bears asks.1 member

-- ---- the least member that comes back

-- one member more: it is in front of those, or it is the last
pub member_more : (xs : List ℕ) (i : ℕ) (x : ℕ) → i < length xs → Contains (take (i + 1) xs) x → Contains (take i xs) x ⊎ (x ≡ get_or xs i 0)
member_more xs i x below at =
    let more : Contains (take i xs ++ get_or xs i 0 ∷ []) x = rw (sym (take_more xs i 0 below)) at in
    ⊎_elim (λ first. inl first) (λ last. inr (alone (get_or xs i 0) x last)) (Contains-append_cases (take i xs) (get_or xs i 0 ∷ []) x more)
  where
    alone : (y x : ℕ) → Contains (y ∷ []) x → x ≡ y
    alone y x (zero, below, is) = sym is
    alone y x (suc k, below, is) = absurd (omega (arith, below))

module _ (query : QueryView) (list : List Bool) (members : List ℕ) (g i : ℕ) where
  -- what no member so far that comes back is above
  abbrev pub IsLow : ℕ → ℕ → Type 0
  IsLow n low = (u : ℕ) → ComesBack query list (take n members) g u → low ≤ u

  -- the next member comes back, and is below
  pub low_here : i < length members → (low : ℕ) → get_or members i 0 < low → IsLow i low → IsLow (i + 1) (get_or members i 0)
  low_here below low less before u back =
      ⊎_elim (λ first. omega (arith, less, before u (record { member = first; back = back.back }))) (λ last. omega (arith, last)) (member_more members i u below back.member)

  -- it isn't below
  pub low_above : i < length members → (low : ℕ) → low ≤ get_or members i 0 → IsLow i low → IsLow (i + 1) low
  low_above below low most before u back =
      ⊎_elim (λ first. before u (record { member = first; back = back.back })) (λ last. omega (arith, most, last)) (member_more members i u below back.member)

  -- it doesn't come back
  pub low_away : i < length members → (low : ℕ) → comes_back (entry list) g (slots_of query (get_or members i 0)) ≡ false → IsLow i low → IsLow (i + 1) low
  low_away below low away before u back =
      ⊎_elim (λ first. before u (record { member = first; back = back.back }))
      (λ last. absurd (true≢false (sym (rw last at back.back) ∙ away))) (member_more members i u below back.member)

-- ---- entries and what leads

-- a table that comes back by the entries does so by what leads, and the other way round
pub same_back : (f h : ℕ → ℕ → Bool) (g : ℕ) (slots : List Slot) → ((slot : Slot) → Contains slots slot → leads_on f g slot ≡ leads_on h g slot) → comes_back f g slots ≡ comes_back h g slots
same_back f h g [] same = refl
same_back f h g (slot ∷ slots) same =
    let others = same_back f h g slots (λ s at. same s (suc at.0, (let below = at.1 in omega arith), at.2)) in
    rw (same slot (0, omega arith, refl), others) refl

-- tests that agree on some numbers
any_same : (p q : ℕ → Bool) (xs : List ℕ) → All (λ x. p x ≡ q x) xs → list_any p xs ≡ list_any q xs
any_same p q [] same = refl
any_same p q (x ∷ xs) same =
    let here = same 0 x (omega arith) in
    let others = any_same p q xs (λ k d below. same (suc k) d (omega (arith, below))) in
    rw (here, others) refl

-- by the entries of groups in range
entry_is : (query : QueryView) (k : ℕ) (list : List Bool) → Holds (leads query k) list → (g h : ℕ) → 1 ≤ g → g ≤ 32 → 1 ≤ h → h ≤ 32 → entry list g h ≡ leads query k g h
entry_is query k list holds g h some few some' few' =
    let row : g - 1 + 1 ≡ g = omega arith in
    let column : h - 1 + 1 ≡ h = omega arith in
    rw (row, column) at (holds.each (g - 1) (h - 1) (omega arith) (omega (arith, holds.size)))

-- one group more
leads_step : (query : QueryView) (k g h : ℕ) → leads query (k + 1) g h ≡ (leads query k g h || (leads query k g (k + 1) && leads query k (k + 1) h))
leads_step query k g h =
    let same : suc k ≡ k + 1 = omega arith in
    subst (λ (n : ℕ). leads query n g h ≡ (leads query k g h || (leads query k g n && leads query k n h))) same refl

-- the entries by way of one group more
pub by_way_more : (query : QueryView) (k : ℕ) (old new : List Bool) → k < 32 → Holds (leads query k) old
    → Holds (λ g h. entry old g h || (entry old g (k + 1) && entry old (k + 1) h)) new → Holds (leads query (k + 1)) new
by_way_more query k old new few so one = record {
  size = one.size;
  each = λ a b column below.
      let few_rows : a < 32 = omega (arith, below, one.size) in
      let at = λ (g h : ℕ) (p : 1 ≤ g) (q : g ≤ 32) (p' : 1 ≤ h) (q' : h ≤ 32). entry_is query k old so g h p q p' q' in
      one.each a b column below
      ∙ rw (
        at (a + 1) (b + 1) (omega arith) (omega (arith, few_rows)) (omega arith) (omega (arith, column)),
        at (a + 1) (k + 1) (omega arith) (omega (arith, few_rows)) (omega arith) (omega (arith, few)),
        at (k + 1) (b + 1) (omega arith) (omega (arith, few)) (omega arith) (omega (arith, column)),
      ) (sym (leads_step query k (a + 1) (b + 1)));
}

pub entry_back : (query : QueryView) (k : ℕ) (list : List Bool) (g t : ℕ) → Holds (leads query k) list → HasGroups query → 1 ≤ g → g ≤ 32
    → comes_back (entry list) g (slots_of query t) ≡ comes_back (leads query k) g (slots_of query t)
entry_back query k list g t holds has some few =
    same_back (entry list) (leads query k) g (slots_of query t) (λ slot at. one slot (has t slot at))
  where
    one : (slot : Slot) → NamesGroups slot → leads_on (entry list) g slot ≡ leads_on (leads query k) g slot
    one slot known =
        any_same (λ l. (l == g) || entry list l g) (λ l. (l == g) || leads query k l g) (site_labels slot)
        (λ i d below. let label = get_or (site_labels slot) i d in let at = known i d below in
        ap (λ (b : Bool). (label == g) || b) (entry_is query k list holds label g at.0 at.1 some few))

-- ---- tables without recursion

-- the labels of all templates' sites are those of the tables
pub has_groups : (query : QueryView) → All IsDrafted query.templates → HasGroups query
has_groups query drafted t slot at = by_template (slice_get query.templates t) refl
  where
    by_template : (o : Option TemplateView) → slice_get query.templates t ≡ o → NamesGroups slot
    by_template None e = absurd (let none : Contains [] slot = rw e at at in (let below = none.1 in omega arith))
    by_template (Some template) e =
        let within : Contains template.slots slot = rw e at at in
        let each = (all_at IsDrafted query.templates t template drafted e).labels in
        subst NamesGroups within.2 (each within.0 slot within.1)

-- the members of groups are templates
pub all_within : (query : QueryView) → All (λ (group : Group). All (λ (u : ℕ). u < length query.templates) group.members) query.groups → MembersWithin query
all_within query within g t at = by_group (slice_get query.groups (g - 1)) refl
  where
    by_group : (o : Option Group) → slice_get query.groups (g - 1) ≡ o → t < length query.templates
    by_group None e = absurd (let none : Contains [] t = rw e at at in (let below = none.1 in omega arith))
    by_group (Some group) e =
        let member : Contains group.members t = rw e at at in
        let each = all_at (λ (group : Group). All (λ (u : ℕ). u < length query.templates) group.members) query.groups (g - 1) group within e in
        subst (λ (u : ℕ). u < length query.templates) member.2 (each member.0 t member.1)

module _ (query : QueryView) (k : ℕ) (list : List Bool) where
  -- some member of a group comes back
  abbrev pub IsBack : ℕ → Type 0
  IsBack t = (g : ℕ) × (1 ≤ g) × (g ≤ 32) × ComesBack query list (members_of query g) g t

  -- a member that comes back uses itself
  pub back_recurs : Holds (leads query k) list → HasGroups query → MembersWithin query → (t : ℕ) → IsBack t → IsNoCycle query t → ⊥
  back_recurs holds has within t back none =
      let chain = leads_chain query within k t back.0 t back.3.member (sym (entry_back query k list back.0 t holds has back.1 back.2) ∙ back.3.back) in
      none chain.0 chain.1

  -- and a table that uses itself is a member that comes back
  pub recurs_back : 32 ≤ k → Holds (leads query k) list → HasGroups query → (t : ℕ) (via : List ℕ) → IsChain query t via t → IsBack t
  recurs_back enough holds has t via chain =
      let back = chain_leads query k enough has t via t chain in
      (back.0, back.1, back.2, record { member = back.3; back = entry_back query k list back.0 t holds has back.1 back.2 ∙ back.4 })

  -- no member of the groups up to g comes back and is lower
  abbrev pub AreLow : ℕ → ℕ → Type 0
  AreLow g low = (h u : ℕ) → 1 ≤ h → h ≤ g → ComesBack query list (members_of query h) h u → low ≤ u

  -- one group more
  pub low_more : (g low new : ℕ) → new ≤ low → ((u : ℕ) → ComesBack query list (members_of query (g + 1)) (g + 1) u → new ≤ u) → AreLow g low → AreLow (g + 1) new
  low_more g low new most here before h u some few back =
      ⊎_elim (λ earlier. omega (arith, most, before h u some (omega (arith, earlier)) back))
      (λ last. let same : h ≡ g + 1 = omega (arith, few, last) in here u (rw same at back))
      (cases_lt h (g + 1))

  pub found_more : (g n low new : ℕ) → g < 32 → new ≤ low
      → (new < low → ComesBack query list (members_of query (g + 1)) (g + 1) new) → (low < n → IsBack low) → new < n → IsBack new
  found_more g n low new below most here before within =
      ⊎_elim (λ lower. (g + 1, omega arith, omega (arith, below), here lower))
      (λ same. let is : low ≡ new = omega (arith, most, same) in subst IsBack is (before (omega (arith, within, is))))
      (cases_lt new low)

-- ---- ranks

-- fewer pass where one does that doesn't pass here
count_more : (p q : ℕ → Bool) (xs : List ℕ) → ((x : ℕ) → p x ≡ true → q x ≡ true) → count_by p xs ≤ count_by q xs
count_more p q [] more = omega arith
count_more p q (x ∷ xs) more =
    let others = count_more p q xs more in
    let here : cond (p x) 1 0 ≤ cond (q x) 1 0 = by_test (p x) refl in
    omega (arith, others, here, sum_by-cons (λ y. cond (p y) 1 0) x xs, sum_by-cons (λ y. cond (q y) 1 0) x xs)
  where
    by_test : (b : Bool) → p x ≡ b → cond b 1 0 ≤ cond (q x) 1 0
    by_test true e = rw (more x e) (omega arith)
    by_test false e = omega arith

-- what an element counts
counted : (b c : Bool) → b ≡ c → ◌≡◌ {A = ℕ} (cond b 1 0) (cond c 1 0)
counted b c same = ap (λ (d : Bool). cond d 1 0) same

count_less : (p q : ℕ → Bool) (xs : List ℕ) → ((x : ℕ) → p x ≡ true → q x ≡ true) → (h : ℕ) → Contains xs h → p h ≡ false → q h ≡ true → count_by p xs < count_by q xs
count_less p q [] more h (k, below, is) not here = absurd (omega (arith, below))
count_less p q (x ∷ xs) more h (zero, below, is) not here =
    let same : x ≡ h = is in
    let others = count_more p q xs more in
    let none = counted (p x) false (rw same not) in
    let one = counted (q x) true (rw same here) in
    omega (arith, others, none, one, sum_by-cons (λ y. cond (p y) 1 0) x xs, sum_by-cons (λ y. cond (q y) 1 0) x xs)
count_less p q (x ∷ xs) more h (suc k, below, is) not here =
    let others = count_less p q xs more h (k, omega (arith, below), is) not here in
    let first : cond (p x) 1 0 ≤ cond (q x) 1 0 = by_test (p x) refl in
    omega (arith, others, first, sum_by-cons (λ y. cond (p y) 1 0) x xs, sum_by-cons (λ y. cond (q y) 1 0) x xs)
  where
    by_test : (b : Bool) → p x ≡ b → cond b 1 0 ≤ cond (q x) 1 0
    by_test true e = rw (more x e) (omega arith)
    by_test false e = omega arith

-- the number of groups to which a table leads
abbrev pub rank_of : QueryView → ℕ → ℕ → ℕ
rank_of query k t = count_by (λ g. comes_back (leads query k) g (slots_of query t)) (range_with_len 1 32)

pub few_ranks : (query : QueryView) (k t : ℕ) → rank_of query k t ≤ 32
few_ranks query k t = omega (arith, count_by-le-length (λ g. comes_back (leads query k) g (slots_of query t)) (range_with_len 1 32), length-range_with_len 1 32)

-- a number is one of those from 1 on
in_range : (n g : ℕ) → 1 ≤ g → g ≤ n → Contains (range_with_len 1 n) g
in_range n g some few = (g - 1, omega (arith, some, few, length-range_with_len 1 n), get_or-range_with_len 1 n (g - 1) g (omega (arith, some, few)) ∙ omega (arith, some))

pub ranked : (query : QueryView) (k : ℕ) → 32 ≤ k → HasGroups query → MembersWithin query → ((t : ℕ) → IsNoCycle query t) → IsRanked query (rank_of query k)
ranked query k enough has within none t u puts =
    let on = puts_leads query k enough has t u puts in
    count_less (λ g. comes_back (leads query k) g (slots_of query u)) (λ g. comes_back (leads query k) g (slots_of query t)) (range_with_len 1 32) on.on
    on.group (in_range 32 on.group on.some on.few) (by_test (comes_back (leads query k) on.group (slots_of query u)) refl) on.here
  where
    by_test : (b : Bool) → comes_back (leads query k) (puts_leads query k enough has t u puts).group (slots_of query u) ≡ b
        → comes_back (leads query k) (puts_leads query k enough has t u puts).group (slots_of query u) ≡ false
    by_test false e = e
    by_test true e =
        let on = puts_leads query k enough has t u puts in
        let chain = leads_chain query within k u on.group u on.member e in
        absurd (none u chain.0 chain.1)
