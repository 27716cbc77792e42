-- The counts, one number after another.
--     read_sites .. filled_same   another count of one group
--     stands_at, holds_at         what a slot counts for
--     completes_first, completes_last     one number more, as the first of the others or as the last of those chosen
--     completes_none      where nothing is left
use Rattle.std.proofs.Common.{◌≡◌, ℕ, ◌+◌, ◌-◌, ◌≤◌, Bool, true, false, cond, List, [], ◌∷◌, ◌++◌, length, get_or, set, Option, Some, None, refl, sym, ap, ◌∙◌, arith}
use Rattle.std.specs.Prelude.{◌==◌, nat_le, slice_get}
use Rattle.std.proofs.lemmas.Bool.Decides.{nat_tests}
use Rattle.std.proofs.lemmas.List.Sums.{sum_by-append}
use Rattle.std.proofs.lemmas.Option.{slice_get-get_or}
use Rattle.mk_model.specs.declared.query.Count.{Count}
use Rattle.mk_model.specs.declared.template.Slot.{Slot}
use Rattle.mk_model.specs.declared.template.Slot.TheVariants.{Link, Site}
use Rattle.mk_model.specs.Queries.{QueryView}
use Rattle.mk_model.specs.Logic.{IsAllowed, Standing, filled_of, sites_of}
use Rattle.mk_model.specs.Labels.{bears_label, holds_member_of}
use Rattle.mk_model.specs.OpenSlots.{most_at, opened, standing_at, standing_by}
use Rattle.mk_model.proofs.ForCallers.{allowed_same}
use Rattle.mk_logic.specs.Counts.{filled_at, sites_at}
use Rattle.mk_choice.specs.Search.{Completes, filled_with, sites_with}
use Rattle.mk_choice.proofs.LabelLemmas.{slice_get-set}

-- ---- the count of one group

-- the sites, and those filled, of a count that may be missing
abbrev sites_in : Option Count → ℕ
sites_in None = 0
sites_in (Some count) = count.sites

abbrev filled_in : Option Count → ℕ
filled_in None = 0
filled_in (Some count) = count.filled

-- what is counted of group h stands at its place
read_at : (counts : List Count) (h : ℕ) (d : Count) → 1 ≤ h → h ≤ length counts → slice_get counts (h - 1) ≡ Some (get_or counts (h - 1) d)
read_at counts h d least most = slice_get-get_or counts (h - 1) d (omega (arith, least, most))

pub read_sites : (counts : List Count) (h : ℕ) (d : Count) → 1 ≤ h → h ≤ length counts → sites_at counts h ≡ (get_or counts (h - 1) d).sites
read_sites counts h d least most = rw (read_at counts h d least most) refl

pub read_filled : (counts : List Count) (h : ℕ) (d : Count) → 1 ≤ h → h ≤ length counts → filled_at counts h ≡ (get_or counts (h - 1) d).filled
read_filled counts h d least most = rw (read_at counts h d least most) refl

module _ (counts : List Count) (h : ℕ) (one d : Count) (least : 1 ≤ h) (most : h ≤ length counts) where
  -- another count of group h is that of group h alone
  set_at : (g : ℕ) → 1 ≤ g → slice_get (set counts (h - 1) one) (g - 1) ≡ cond (h == g) (Some one) (slice_get counts (g - 1))
  set_at g low = slice_get-set counts (h - 1) (g - 1) one (omega (arith, least, most)) ∙ by_test (h == g) refl
    where
      by_test : (b : Bool) → (h == g) ≡ b → cond (h - 1 == g - 1) (Some one) (slice_get counts (g - 1)) ≡ cond b (Some one) (slice_get counts (g - 1))
      by_test true e = (let test : (h - 1 == g - 1) ≡ true = grind (arith, nat_tests) in rw test refl)
      by_test false e = (let test : (h - 1 == g - 1) ≡ false = grind (arith, nat_tests) in rw test refl)

  -- one site more
  pub site_more : one.sites ≡ (get_or counts (h - 1) d).sites + 1 → (g : ℕ) → 1 ≤ g → ◌≡◌ {A = ℕ} (sites_at (set counts (h - 1) one) g) (sites_at counts g + cond (h == g) 1 0)
  site_more is g low = rw (set_at g low) (by_test (h == g) refl)
    where
      by_test : (b : Bool) → (h == g) ≡ b → ◌≡◌ {A = ℕ} (sites_in (cond b (Some one) (slice_get counts (g - 1)))) (sites_at counts g + cond b 1 0)
      by_test true e =
          let same : h ≡ g = grind (arith, nat_tests) in
          omega (arith, is, read_sites counts h d least most, ap (sites_at counts) same)
      by_test false e = omega arith

  -- one site less
  pub site_less : one.sites ≡ (get_or counts (h - 1) d).sites - 1 → (g : ℕ) → 1 ≤ g → ◌≡◌ {A = ℕ} (sites_at (set counts (h - 1) one) g) (sites_at counts g - cond (h == g) 1 0)
  site_less is g low = rw (set_at g low) (by_test (h == g) refl)
    where
      by_test : (b : Bool) → (h == g) ≡ b → ◌≡◌ {A = ℕ} (sites_in (cond b (Some one) (slice_get counts (g - 1)))) (sites_at counts g - cond b 1 0)
      by_test true e =
          let same : h ≡ g = grind (arith, nat_tests) in
          omega (arith, is, read_sites counts h d least most, ap (sites_at counts) same)
      by_test false e = omega arith

  -- and as many filled
  pub filled_same : one.filled ≡ (get_or counts (h - 1) d).filled → (g : ℕ) → 1 ≤ g → ◌≡◌ {A = ℕ} (filled_at (set counts (h - 1) one) g) (filled_at counts g)
  filled_same is g low = rw (set_at g low) (by_test (h == g) refl)
    where
      by_test : (b : Bool) → (h == g) ≡ b → ◌≡◌ {A = ℕ} (filled_in (cond b (Some one) (slice_get counts (g - 1)))) (filled_at counts g)
      by_test true e =
          let same : h ≡ g = grind (arith, nat_tests) in
          omega (arith, is, read_filled counts h d least most, ap (filled_at counts) same)
      by_test false e = refl

-- ---- what a slot counts for

-- a slot stands as a site of each of its labels, whatever number is chosen there
pub stands_at : (slot : Slot) (k g : ℕ) → ◌≡◌ {A = ℕ} (sites_of (standing_at slot k) g) (cond (bears_label slot g) 1 0)
stands_at (Link atom most from to) k g = refl
stands_at (Site atom groups first second) k g = omega arith

-- and as a filled one of the group of which it holds a member
pub holds_at : (query : QueryView) (slot : Slot) (k g : ℕ) → 1 ≤ k → ◌≡◌ {A = ℕ} (filled_of query (standing_at slot k) g) (cond (holds_member_of query slot k g) 1 0)
holds_at query (Link atom most from to) k g least = (let fails : nat_le k 0 ≡ false = grind (arith, nat_tests) in rw fails refl)
holds_at query (Site atom groups first second) k g least = omega arith

-- the sites of two lists
pub sites_both : (standing others : List Standing) (g : ℕ) → sites_of (standing ++ others) g ≡ sites_of standing g + sites_of others g
sites_both standing others g = sum_by-append (λ one. cond (bears_label one.site g) 1 0) standing others

-- the filled sites of two lists
pub filled_both : (query : QueryView) (standing others : List Standing) (g : ℕ) → filled_of query (standing ++ others) g ≡ filled_of query standing g + filled_of query others g
filled_both query standing others g = sum_by-append (λ one. cond (holds_member_of query one.site one.number g) 1 0) standing others

module _ (query : QueryView) (counts next : List Count) (slot : Slot) (slots : List Slot) (number : ℕ)
    (sites : (g : ℕ) → 1 ≤ g → sites_at next g ≡ sites_with counts (standing_at slot number) g)
    (filled : (g : ℕ) → 1 ≤ g → filled_at next g ≡ filled_with query counts (standing_at slot number) g) where
  -- the sites behind the number and those of it, in all
  sites_next : (others : List ℕ) (g : ℕ) → 1 ≤ g
      → sites_with next (standing_by query (opened query slot number ++ slots) others) g ≡ sites_with counts (standing_by query (slot ∷ slots) (number ∷ others)) g
  sites_next others g least =
      omega (arith, sites g least, sites_both (standing_at slot number) (standing_by query (opened query slot number ++ slots) others) g)

  filled_next : (others : List ℕ) (g : ℕ) → 1 ≤ g
      → filled_with query next (standing_by query (opened query slot number ++ slots) others) g ≡ filled_with query counts (standing_by query (slot ∷ slots) (number ∷ others)) g
  filled_next others g least =
      omega (arith, filled g least, filled_both query (standing_at slot number) (standing_by query (opened query slot number ++ slots) others) g)

  -- one number more, as the first of the others
  pub completes_first : 1 ≤ number → number ≤ most_at query slot → (others : List ℕ)
      → Completes query next (opened query slot number ++ slots) others
      → Completes query counts (slot ∷ slots) (number ∷ others)
  completes_first least most others is = record {
    chooses = (least, most, is.chooses);
    logic = allowed_same query _ _ _ _ (sites_next others) (filled_next others) is.logic;
  }

  -- or as the last of those chosen
  pub completes_last : (others : List ℕ) → Completes query counts (slot ∷ slots) (number ∷ others) → Completes query next (opened query slot number ++ slots) others
  completes_last others is = record {
    chooses = is.chooses.2;
    logic = allowed_same query _ _ _ _ (λ g least. sym (sites_next others g least)) (λ g least. sym (filled_next others g least)) is.logic;
  }

-- where nothing is left the counts have to be allowed
pub completes_none : (query : QueryView) (counts : List Count) → IsAllowed query (sites_at counts) (filled_at counts) → Completes query counts [] []
completes_none query counts allowed = record {
  chooses = tt;
  logic = allowed_same query (sites_at counts) (filled_at counts) (sites_with counts []) (filled_with query counts []) (λ g least. omega arith) (λ g least. omega arith) allowed;
}

pub none_completes : (query : QueryView) (counts : List Count) → Completes query counts [] [] → IsAllowed query (sites_at counts) (filled_at counts)
none_completes query counts is =
    allowed_same query (sites_with counts []) (filled_with query counts []) (sites_at counts) (filled_at counts) (λ g least. omega arith) (λ g least. omega arith) is.logic

-- and no number more is chosen
pub nothing_completes : (query : QueryView) (counts : List Count) (others : List ℕ) → Completes query counts [] others → others ≡ []
nothing_completes query counts [] is = refl
nothing_completes query counts (number ∷ others) is = absurd is.chooses
