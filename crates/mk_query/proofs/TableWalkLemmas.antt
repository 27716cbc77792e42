-- The tables of a raw query, one after the other.
--     member_split        the members of a group, among those of all
--     pass_nested         what passes table by table passes group by group
--     templates_more      a template more
--     next_fault, walked_more     the next table fails or passes
--     next_among, first_in_tables     a fault among the first tables is that of all
use Rattle.std.proofs.Common.{◌≡◌, ℕ, zero, suc, ◌+◌, ◌<◌, ◌≤◌, false, true, List, [], ◌∷◌, ◌++◌, Some, refl, sym, ap, subst, ◌∙◌, ⊎_elim, arith, length, get_or, drop, take, All}
use Rattle.std.specs.Prelude.{◌==◌, slice_get}
use Rattle.std.proofs.lemmas.Bool.{cases_lt}
use Rattle.std.proofs.lemmas.Bool.Decides.{nat_tests}
use Rattle.std.proofs.lemmas.List.{append-nil, append_assoc, length-append, take-append-drop, take_more}
use Rattle.std.proofs.lemmas.List.Elements.{All-append}
use Rattle.std.proofs.lemmas.Option.{slice_get_within}
use Rattle.mk_model.specs.Templates.{TemplateView}
use Rattle.mk_model.proofs.ForCallers.{at_place}
use Rattle.mk_tables.specs.declared.raw.RawTable.{RawTable}
use Rattle.mk_rgfile.specs.declared.raw_query.RawGroup.{RawGroup}
use Rattle.mk_rgfile.specs.declared.raw_query.RawQuery.{RawQuery}
use Rattle.mk_rgfile.specs.QueryFacts.{members_in}
use Rattle.mk_query.specs.declared.checking.Fault.{Fault}
use Rattle.mk_query.specs.declared.compile_fault.FaultAt.{FaultAt}
use Rattle.mk_query.specs.Compiled.{AreTemplatesOf, IsTemplateOf, member_tables, query_tables}
use Rattle.mk_query.specs.CompileFaults.{IsFirstInTables, PassEach}
use Rattle.mk_query.specs.FirstFault.{IsFirstFault, PassesAll}
use Rattle.mk_query.specs.TableWalk.{IsNextFault, IsWalked}

-- ---- items of joined lists

-- an item of the first
in_first : {X : Type 0} (xs ys : List X) (k : ℕ) → k < length xs → slice_get (xs ++ ys) k ≡ slice_get xs k
in_first [] ys k below = absurd (omega (arith, below))
in_first (x ∷ xs) ys zero below = refl
in_first (x ∷ xs) ys (suc k) below = in_first xs ys k (omega (arith, below))

-- an item of the second
in_second : {X : Type 0} (xs ys : List X) (k : ℕ) → slice_get (xs ++ ys) (length xs + k) ≡ slice_get ys k
in_second [] ys k = (let place : 0 + k ≡ k = omega arith in ap (slice_get ys) place)
in_second (x ∷ xs) ys k = (let place : length (x ∷ xs) + k ≡ suc (length xs + k) = omega arith in rw place (in_second xs ys k))

-- ---- members

-- the members of all groups, and how many there are
pub members_count : (groups : List RawGroup) → length (member_tables groups) ≡ members_in groups
members_count [] = refl
members_count (group ∷ groups) = length-append group.members (member_tables groups) ∙ ap (λ (n : ℕ). length group.members + n) (members_count groups)

-- those of the first groups are no more
pub few_before : (groups : List RawGroup) (i : ℕ) (group : RawGroup) → slice_get groups i ≡ Some group → length (member_tables (take i groups)) + length group.members ≤ members_in groups
few_before [] i group at = absurd cc
few_before (g ∷ groups) zero group at = (let same : g ≡ group = cc in rw same (omega arith))
few_before (g ∷ groups) (suc i) group at =
    let later = few_before groups i group at in
    omega (arith, later, length-append g.members (member_tables (take i groups)))

-- the members of a group, among those of all
pub member_split : (groups : List RawGroup) (i : ℕ) (group : RawGroup) → slice_get groups i ≡ Some group
    → (rest : List RawTable) × (member_tables groups ≡ member_tables (take i groups) ++ (group.members ++ rest))
member_split [] i group at = absurd cc
member_split (g ∷ groups) zero group at = (let same : g ≡ group = cc in (member_tables groups, rw same refl))
member_split (g ∷ groups) (suc i) group at =
    let later = member_split groups i group at in
    (later.0, ap (λ (l : List RawTable). g.members ++ l) later.1 ∙ sym (append_assoc g.members (member_tables (take i groups)) (group.members ++ later.0)))

-- those of one group more
pub members_more : (groups : List RawGroup) (i : ℕ) (group : RawGroup) → slice_get groups i ≡ Some group → member_tables (take (i + 1) groups) ≡ member_tables (take i groups) ++ group.members
members_more [] i group at = absurd cc
members_more (g ∷ groups) zero group at = (let same : g ≡ group = cc in rw same (append-nil group.members))
members_more (g ∷ groups) (suc i) group at =
    let place : suc i + 1 ≡ suc (i + 1) = omega arith in
    ap (λ (n : ℕ). member_tables (take n (g ∷ groups))) place
    ∙ ap (λ (l : List RawTable). g.members ++ l) (members_more groups i group at) ∙ sym (append_assoc g.members (member_tables (take i groups)) group.members)

-- what holds of each member of each group holds of all members
pub all_members : (P : RawTable → Type 0) (groups : List RawGroup) → All (λ (group : RawGroup). All P group.members) groups → All P (member_tables groups)
all_members P [] each = λ k d below. absurd (omega (arith, below))
all_members P (group ∷ groups) each =
    All-append P group.members (member_tables groups) (each 0 group (omega arith)) (all_members P groups (λ k d below. each (suc k) d (omega (arith, below))))

-- ---- checks

-- the number of a member isn't the root's
no_root : (t : ℕ) → (suc t == 0) ≡ false
no_root t = grind (arith, nat_tests)

-- the root and each member of each group pass their checks
pub record PassNested (raw : RawQuery) : Type 0 where
  pub root : PassesAll raw.groups true raw.root
  pub members : All (λ group. All (PassesAll raw.groups false) group.members) raw.groups

-- what passes table by table passes group by group
pub pass_nested : (raw : RawQuery) → PassEach raw → PassNested raw
pass_nested raw passed = record {
  root = passed 0 raw.root refl;
  members = λ i d below k e inside.
      let group = get_or raw.groups i d in
      let member = get_or group.members k e in
      let front = member_tables (take i raw.groups) in
      let split = member_split raw.groups i group (at_place raw.groups i d below) in
      let there : slice_get (member_tables raw.groups) (length front + k) ≡ Some member =
      rw split.1 (in_second front (group.members ++ split.0) k ∙ in_first group.members split.0 k inside ∙ at_place group.members k e inside) in
      rw (no_root (length front + k)) at (passed (suc (length front + k)) member there);
}

-- ---- templates

-- one template more
pub templates_more : (tables : List RawTable) (templates : List TemplateView) (table : RawTable) (template : TemplateView) → IsTemplateOf table template → AreTemplatesOf tables templates
    → AreTemplatesOf (tables ++ table ∷ []) (templates ++ template ∷ [])
templates_more tables templates table template is are = record {
  size = length-append templates (template ∷ []) ∙ ap (λ (n : ℕ). n + 1) are.size ∙ sym (length-append tables (table ∷ []));
  each = λ t x y x_at y_at.
      ⊎_elim
      (λ first.
      are.each t x y (sym (in_first tables (table ∷ []) t first) ∙ x_at) (sym (in_first templates (template ∷ []) t (omega (arith, first, are.size))) ∙ y_at))
      (λ last. at_last t x y x_at y_at last)
      (cases_lt t (length tables));
}
  where
    at_last : (t : ℕ) (x : RawTable) (y : TemplateView) → slice_get (tables ++ table ∷ []) t ≡ Some x → slice_get (templates ++ template ∷ []) t ≡ Some y → length tables ≤ t → IsTemplateOf x y
    at_last t x y x_at y_at last =
        let within = slice_get_within (tables ++ table ∷ []) t x x_at in
        let place : t ≡ length tables + 0 = omega (arith, last, within, length-append tables (table ∷ [])) in
        let other : t ≡ length templates + 0 = omega (arith, place, are.size) in
        let x_is : Some table ≡ Some x = sym (in_second tables (table ∷ []) 0) ∙ rw place at x_at in
        let y_is : Some template ≡ Some y = sym (in_second templates (template ∷ []) 0) ∙ rw other at y_at in
        let same : table ≡ x = cc in
        let same' : template ≡ y = cc in
        subst (λ (v : TemplateView). IsTemplateOf x v) same' (subst (λ (v : RawTable). IsTemplateOf v template) same is)

-- ---- the walk

-- before the root
pub none_walked : (groups : List RawGroup) (templates : List TemplateView) → templates ≡ [] → IsWalked groups [] templates
none_walked groups templates none = record {
  passed = λ t table at. absurd cc;
  are = record { size = ap length none; each = λ t table template at got. absurd cc };
}

module _ (groups : List RawGroup) (done : List RawTable) (templates : List TemplateView) (table : RawTable) where
  -- the next table is the root where there is no template yet
  root_by : (n : ℕ) → n ≡ length templates → IsWalked groups done templates → n ≡ length done
  root_by n is walked = is ∙ walked.are.size

  -- it fails
  pub next_fault : (n : ℕ) (fault : Fault) → n ≡ length templates → IsWalked groups done templates → IsFirstFault groups (n == 0) table fault
      → IsNextFault groups (done ++ table ∷ []) (record { check = fault.check; table = n; item = fault.item })
  next_fault n fault is walked here = record { front = done; table = table; rest = []; split = refl; passed = walked.passed; numbered = root_by n is walked; here = here }

  -- or passes
  pub walked_more : (template : TemplateView) (n : ℕ) → n ≡ length templates → IsWalked groups done templates → PassesAll groups (n == 0) table → IsTemplateOf table template
      → IsWalked groups (done ++ table ∷ []) (templates ++ template ∷ [])
  walked_more template n is walked passes of = record {
    passed = λ t earlier at.
        ⊎_elim
        (λ first. walked.passed t earlier (sym (in_first done (table ∷ []) t first) ∙ at))
        (λ last.
        let within = slice_get_within (done ++ table ∷ []) t earlier at in
        let place : t ≡ length done + 0 = omega (arith, last, within, length-append done (table ∷ [])) in
        let number : n ≡ t = omega (arith, place, root_by n is walked) in
        let both : Some table ≡ Some earlier = sym (in_second done (table ∷ []) 0) ∙ rw place at at in
        let same : table ≡ earlier = cc in
        subst (λ (m : ℕ). PassesAll groups (m == 0) earlier) number (subst (λ (x : RawTable). PassesAll groups (n == 0) x) same passes))
        (cases_lt t (length done));
    are = templates_more done templates table template of walked.are;
  }

-- a fault among the first tables is that of all
pub next_among : (groups : List RawGroup) (done tables : List RawTable) {whole : List RawTable} (fault : FaultAt) → (rest : List RawTable) × (whole ≡ (done ++ tables) ++ rest)
    → IsNextFault groups (done ++ tables) fault → IsNextFault groups whole fault
next_among groups done tables fault among found = record {
  front = found.front;
  table = found.table;
  rest = found.rest ++ among.0;
  split = among.1 ∙ ap (λ (l : List RawTable). l ++ among.0) found.split ∙ append_assoc found.front (found.table ∷ found.rest) among.0;
  passed = found.passed;
  numbered = found.numbered;
  here = found.here;
}

-- a member more, and what stands behind it
pub take_next : (done members : List RawTable) (k : ℕ) (table : RawTable) → k < length members → table ≡ get_or members k table
    → (done ++ take k members) ++ table ∷ [] ≡ done ++ take (k + 1) members
take_next done members k table below is =
    append_assoc done (take k members) (table ∷ []) ∙ ap (λ (l : List RawTable). done ++ l) (sym (take_more members k table below ∙ ap (λ (t : RawTable). take k members ++ t ∷ []) (sym is)))

pub take_split : (done members : List RawTable) (k : ℕ) (table : RawTable) → k < length members → table ≡ get_or members k table
    → (rest : List RawTable) × (done ++ members ≡ ((done ++ take k members) ++ table ∷ []) ++ rest)
take_split done members k table below is = (
  drop (k + 1) members,
  ap (λ (l : List RawTable). done ++ l) (sym (take-append-drop (k + 1) members)) ∙ sym (append_assoc done (take (k + 1) members) (drop (k + 1) members))
      ∙ ap (λ (l : List RawTable). l ++ drop (k + 1) members) (sym (take_next done members k table below is)),
)

-- the first of all tables to fail
pub first_in_tables : (raw : RawQuery) (fault : FaultAt) → IsNextFault raw.groups (query_tables raw) fault → IsFirstInTables raw fault
first_in_tables raw fault found =
    let place : fault.table ≡ length found.front + 0 = omega (arith, found.numbered) in
    record {
      table = found.table;
      at = ap (λ (l : List RawTable). slice_get l fault.table) found.split ∙ ap (λ (n : ℕ). slice_get (found.front ++ found.table ∷ found.rest) n) place
          ∙ in_second found.front (found.table ∷ found.rest) 0;
      before = λ t earlier below at.
          found.passed t earlier (sym (in_first found.front (found.table ∷ found.rest) t (omega (arith, below, found.numbered))) ∙ ap (λ (l : List RawTable). slice_get l t) (sym found.split) ∙ at);
      here = found.here;
    }
