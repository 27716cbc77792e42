-- What is asked of a raw query as a whole.
--     members_in-more        the members of one group more
--     whole_item, no_whole   what is asked by each item, and what fails
use Rattle.std.proofs.Common.{◌≡◌, ℕ, zero, suc, ◌+◌, ◌<◌, ◌≤◌, Bool, true, false, cond, List, [], ◌∷◌, Some, refl, ap, ⊎_elim, arith, length, take, All}
use Rattle.std.specs.Prelude.{◌≢◌, ◌==◌, slice_get}
use Rattle.std.proofs.lemmas.Bool.{cases_lt}
use Rattle.std.proofs.lemmas.Bool.Decides.{nat_tests}
use Rattle.std.proofs.lemmas.List.{length-append}
use Rattle.std.proofs.lemmas.List.Sums.{sum_by-cons}
use Rattle.mk_text.specs.Items.{IsLeastFailing}
use Rattle.mk_tables.specs.declared.raw.RawAtom.{RawAtom}
use Rattle.mk_tables.specs.declared.raw.RawTable.{RawTable}
use Rattle.mk_rgfile.specs.declared.raw_query.RawGroup.{RawGroup}
use Rattle.mk_rgfile.specs.declared.raw_query.RawQuery.{RawQuery}
use Rattle.mk_rgfile.specs.QueryFacts.{member_count, members_in}
use Rattle.mk_query.specs.Compiled.{member_tables}
use Rattle.mk_query.specs.CompileFaults.{IsWhole, groups_of_number}
use Rattle.mk_query.specs.InRange.{IsGroupInRange, IsQueryInRange}
use Rattle.mk_query.proofs.TableWalkLemmas.{members_count, members_more}

-- the members of one group more
pub members_in-more : (groups : List RawGroup) (i : ℕ) (group : RawGroup) → slice_get groups i ≡ Some group → members_in (take (i + 1) groups) ≡ members_in (take i groups) + length group.members
members_in-more groups i group at =
    omega (
      arith,
      members_count (take (i + 1) groups),
      members_count (take i groups),
      ap (λ (l : List RawTable). length l) (members_more groups i group at),
      length-append (member_tables (take i groups)) group.members,
    )

-- no group has a number above 32
no_number : (g n : ℕ) → n ≤ 32 → 32 < g → (n == g) ≡ false
no_number g n few above = grind (arith, nat_tests)

none_above : (groups : List RawGroup) (g : ℕ) → 32 < g → All IsGroupInRange groups → groups_of_number g groups ≡ 0
none_above [] g above raw = refl
none_above (group ∷ groups) g above raw =
    let others = none_above groups g above (λ k d below. raw (suc k) d (omega (arith, below))) in
    let here = counted (group.number == g) (no_number g group.number (raw 0 group (omega arith)).to_32 above) in
    omega (arith, others, here, sum_by-cons (λ (group : RawGroup). cond (group.number == g) 1 0) group groups)
  where
    counted : (b : Bool) → b ≡ false → ◌≡◌ {A = ℕ} (cond b 1 0) 0
    counted true e = absurd cc
    counted false e = refl

-- each number stands once, where those up to 32 do
module _ (raw : RawQuery) (is : IsQueryInRange raw) (some : length raw.root.atoms ≢ 0) (once : (g : ℕ) → 1 ≤ g → g ≤ 32 → groups_of_number g raw.groups ≤ 1) where
  root_has : raw.root.atoms ≢ []
  root_has none = some (ap (λ (l : List RawAtom). length l) none)

  all_once : (g : ℕ) → g ≢ 0 → groups_of_number g raw.groups ≤ 1
  all_once g other =
      ⊎_elim (λ low. once g (from_one g other) (omega (arith, low))) (λ high. omega (arith, none_above raw.groups g (omega (arith, high)) is.groups)) (cases_lt g 33)
    where
      from_one : (g : ℕ) → g ≢ 0 → 1 ≤ g
      from_one zero other = absurd (other refl)
      from_one (suc g) other = omega arith

  pub whole_item : (item : ℕ) → (item ≡ 4097 → member_count raw ≤ 4096) → IsWhole raw item
  whole_item item few = record { root = λ _. root_has; once = all_once item; few = few }

  pub many_fail : 4096 < member_count raw → IsLeastFailing (IsWhole raw) 4097
  many_fail many = record { lower = λ j below. whole_item j (λ at. absurd (omega (arith, below, at))); fails = λ whole. absurd (omega (arith, many, whole.few refl)) }

-- no root, and a number that stands twice
pub no_root_fails : (raw : RawQuery) → raw.root.atoms ≡ [] → IsLeastFailing (IsWhole raw) 0
no_root_fails raw none = record { lower = λ j below. absurd (omega (arith, below)); fails = λ whole. whole.root refl none }
