-- The checks in their order: those before, one more, and the first that fails.
use Rattle.std.proofs.Common.{◌≡◌, ◌≤◌, ◌+◌, ℕ, Bool, List, Option, Some, None, refl, sym, ap, subst, ◌∙◌, arith, ⊎_elim}
use Rattle.std.specs.Prelude.{if◌then◌else◌, ◌==◌}
use Rattle.std.proofs.lemmas.Bool.{cases_lt}
use Rattle.mk_text.specs.Items.{FindsLeast}
use Rattle.mk_tables.specs.declared.raw.RawTable.{RawTable}
use Rattle.mk_rgfile.specs.declared.raw_query.RawGroup.{RawGroup}
use Rattle.mk_query.specs.declared.checking.Fault.{Fault}
use Rattle.mk_query.specs.FirstFault.{QueryCheck, query_atoms, query_bonds, query_properties, element_lists, labelled_sites, site_places, site_orders, attachment_points, link_atoms, group_logic, query_check_number, QueryDemands, Passes, PassesAll, PassesBelow, IsFirstFault, FindsBelow}

-- the check of a number
abbrev check_at : ℕ → QueryCheck
check_at n =
    if n == 1 then query_atoms else (
    if n == 2 then query_bonds else (
    if n == 3 then query_properties else (
    if n == 4 then element_lists else (
    if n == 5 then labelled_sites else (
    if n == 6 then site_places else (
    if n == 7 then site_orders else (
    if n == 8 then attachment_points else (
    if n == 9 then link_atoms else group_logic))))))))

check_at-number : (c : QueryCheck) → check_at (query_check_number c) ≡ c
check_at-number query_atoms = refl
check_at-number query_bonds = refl
check_at-number query_properties = refl
check_at-number element_lists = refl
check_at-number labelled_sites = refl
check_at-number site_places = refl
check_at-number site_orders = refl
check_at-number attachment_points = refl
check_at-number link_atoms = refl
check_at-number group_logic = refl

-- no two checks have one number
pub number-once : (c d : QueryCheck) → query_check_number c ≡ query_check_number d → c ≡ d
number-once c d same = sym (check_at-number c) ∙ ap check_at same ∙ check_at-number d

-- they count from 1 to 10
number-within : (c : QueryCheck) → (1 ≤ query_check_number c) × (query_check_number c ≤ 10)
number-within query_atoms = (omega arith, omega arith)
number-within query_bonds = (omega arith, omega arith)
number-within query_properties = (omega arith, omega arith)
number-within element_lists = (omega arith, omega arith)
number-within labelled_sites = (omega arith, omega arith)
number-within site_places = (omega arith, omega arith)
number-within site_orders = (omega arith, omega arith)
number-within attachment_points = (omega arith, omega arith)
number-within link_atoms = (omega arith, omega arith)
number-within group_logic = (omega arith, omega arith)

module _ (groups : List RawGroup) (is_root : Bool) (table : RawTable) where
  -- none stands before the first
  pub below_none : PassesBelow groups is_root table 1
  below_none d below = absurd (omega (arith, (number-within d).0))

  -- one check more
  pub below_more : (c : QueryCheck) → Passes groups is_root table c → PassesBelow groups is_root table (query_check_number c) → PassesBelow groups is_root table (query_check_number c + 1)
  below_more c passes before d below =
      ⊎_elim (λ earlier. before d earlier)
      (λ here. let same : c ≡ d = number-once c d (omega arith) in let P : QueryCheck → Type 0 = λ x. Passes groups is_root table x in subst P same passes)
      (cases_lt (query_check_number d) (query_check_number c))

  -- all ten
  pub below_all : PassesBelow groups is_root table 11 → PassesAll groups is_root table
  below_all before d = before d (omega (arith, (number-within d).1))

  -- an item is found: the check is the first that fails
  pub fault : (c : QueryCheck) (found : Option ℕ) (item : ℕ) → found ≡ Some item
      → FindsLeast (QueryDemands groups is_root table c) found → PassesBelow groups is_root table (query_check_number c)
      → IsFirstFault groups is_root table (record { check = query_check_number c; item = item })
  fault c found item is finds before = record { check = c; numbered = refl; before = before; least = subst (FindsLeast (QueryDemands groups is_root table c)) is finds }

  -- none is found: the check passes too
  pub passed : (c : QueryCheck) (found : Option ℕ) → found ≡ None
      → FindsLeast (QueryDemands groups is_root table c) found → PassesBelow groups is_root table (query_check_number c)
      → PassesBelow groups is_root table (query_check_number c + 1)
  passed c found is finds before = below_more c (subst (FindsLeast (QueryDemands groups is_root table c)) is finds) before

  -- what was found below a check
  pub found_below : (n : ℕ) (found : Option Fault) (first : Fault) → found ≡ Some first → FindsBelow groups is_root table n found → IsFirstFault groups is_root table first
  found_below n found first is finds = subst (FindsBelow groups is_root table n) is finds

  pub passed_below : (n : ℕ) (found : Option Fault) → found ≡ None → FindsBelow groups is_root table n found → PassesBelow groups is_root table n
  passed_below n found is finds = subst (FindsBelow groups is_root table n) is finds
