-- Valid codes are what completes nothing, where no site is counted.
--     valid_of, completes_of       the two ways of saying it
use Rattle.std.proofs.Common.{◌≡◌, ℕ, zero, suc, ◌-◌, ◌≤◌, List, replicate, Option, Some, None, refl, sym, ap, ◌∙◌, arith, All}
use Rattle.std.specs.Prelude.{slice_get}
use Rattle.mk_model.specs.declared.query.Count.{Count}
use Rattle.mk_model.specs.Queries.{QueryView, slots_of}
use Rattle.mk_model.specs.QueryFits.{QueryFits}
use Rattle.mk_model.specs.Logic.{IsValid, filled_of, sites_of, standing_sites}
use Rattle.mk_model.specs.OpenSlots.{standing_by}
use Rattle.mk_model.proofs.ForCallers.{code_is_short}
use Rattle.mk_model.proofs.ForCallers.{allowed_same, chooses_of, is_code_of, standing_is}
use Rattle.mk_logic.specs.Counts.{filled_at, sites_at}
use Rattle.mk_choice.specs.Search.{AreCounts, AreNone, Completes, LeavesRoom}

-- no sites
abbrev pub no_sites : Count
no_sites = record { sites = 0; filled = 0 }

-- what stands in a list of one thing
at_replicate : (n i : ℕ) → (slice_get (replicate n no_sites) i ≡ None → ⊥) → slice_get (replicate n no_sites) i ≡ Some no_sites
at_replicate zero i some = absurd (some refl)
at_replicate (suc n) zero some = refl
at_replicate (suc n) (suc i) some = at_replicate n i some

-- a list of them counts nothing
pub none_counted : (n : ℕ) → AreNone (replicate n no_sites)
none_counted n = record { sites = sites; filled = filled }
  where
    sites : (g : ℕ) → sites_at (replicate n no_sites) g ≡ 0
    sites g = by_place (slice_get (replicate n no_sites) (g - 1)) refl
      where
        by_place : (o : Option Count) → slice_get (replicate n no_sites) (g - 1) ≡ o → sites_at (replicate n no_sites) g ≡ 0
        by_place None e = rw e refl
        by_place (Some count) e =
            let is : slice_get (replicate n no_sites) (g - 1) ≡ Some no_sites = at_replicate n (g - 1) (λ none. cc) in
            rw is refl

    filled : (g : ℕ) → filled_at (replicate n no_sites) g ≡ 0
    filled g = by_place (slice_get (replicate n no_sites) (g - 1)) refl
      where
        by_place : (o : Option Count) → slice_get (replicate n no_sites) (g - 1) ≡ o → filled_at (replicate n no_sites) g ≡ 0
        by_place None e = rw e refl
        by_place (Some count) e =
            let is : slice_get (replicate n no_sites) (g - 1) ≡ Some no_sites = at_replicate n (g - 1) (λ none. cc) in
            rw is refl

module _ (query : QueryView) (counts : List Count) (none : AreNone counts) where
  -- what completes nothing is a valid code
  pub valid_of : (code : List ℕ) → Completes query counts (slots_of query 0) code → IsValid query code
  valid_of code is =
      let made = is_code_of query 0 code is.chooses in
      let stand : standing_by query (slots_of query 0) code ≡ standing_sites query (slots_of query 0) made.choice =
      ap (standing_by query (slots_of query 0)) (sym made.spelt) ∙ standing_is query (slots_of query 0) made.choice made.made in
      record {
        choice = made.choice;
        made = made.made;
        spelt = made.spelt;
        logic = allowed_same query _ _ _ _
            (λ g least. omega (arith, none.sites g, ap (λ sites. sites_of sites g) stand))
            (λ g least. omega (arith, none.filled g, ap (λ sites. filled_of query sites g) stand))
            is.logic;
      }

  -- and the other way round
  pub completes_of : (code : List ℕ) → IsValid query code → Completes query counts (slots_of query 0) code
  completes_of code is =
      let stand : standing_by query (slots_of query 0) code ≡ standing_sites query (slots_of query 0) is.choice =
      ap (standing_by query (slots_of query 0)) (sym is.spelt) ∙ standing_is query (slots_of query 0) is.choice is.made in
      record {
        chooses = chooses_of query 0 code (record { choice = is.choice; made = is.made; spelt = is.spelt });
        logic = allowed_same query _ _ _ _
            (λ g least. omega (arith, none.sites g, ap (λ sites. sites_of sites g) stand))
            (λ g least. omega (arith, none.filled g, ap (λ sites. filled_of query sites g) stand))
            is.logic;
      }

-- all codes of the root have room
pub root_room : (query : QueryView) → QueryFits query → LeavesRoom query (slots_of query 0) 0
root_room query fits others chooses =
    omega (arith, code_is_short query fits.small_root.size fits.small_root.adds_up fits.small_root.small others chooses)

-- a list of no sites has counts that are at most 0
none_above : (n : ℕ) → All (λ count. (count.sites ≤ 0) × (count.filled ≤ 0)) (replicate n no_sites)
none_above zero k d below = absurd (omega arith)
none_above (suc n) zero d below = (omega arith, omega arith)
none_above (suc n) (suc k) d below = none_above n k d (omega arith)

pub counts_none : AreCounts 0 (replicate 32 no_sites)
counts_none = record { all = refl; few = none_above 32 }
