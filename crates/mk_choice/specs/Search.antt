-- For the code: what is asked of the numbers that are chosen behind others.
--     IsKnown slot                    a slot as queries have them
--     borne labels g                  how often a group is among the labels: once, or not
--     Completes query counts slots others    the others choose at the open slots, and make the
--                                            counts allowed
--     CantComplete query counts slots        nothing does
--     AreCounts k counts              the counts of 32 groups, each at most k
--     AreNone counts                  counts of nothing
--     LeavesRoom query slots k        what can be chosen at the open slots has room behind k
--                                     numbers
use Rattle.std.specs.Prelude.{◌≡◌, ◌≤◌, ◌+◌, ◌==◌, ℕ, List, length, All, if◌then◌else◌}
use Rattle.std.specs.List.{list_any}
use Rattle.mk_model.specs.declared.query.Count.{Count}
use Rattle.mk_model.specs.declared.template.Slot.{Slot}
use Rattle.mk_model.specs.declared.template.Slot.TheVariants.{Link, Site}
use Rattle.mk_model.specs.Labels.{site_labels}
use Rattle.mk_model.specs.Queries.{QueryView}
use Rattle.mk_model.specs.QueryFits.{AreRisingLabels}
use Rattle.mk_model.specs.Logic.{IsAllowed, Standing, sites_of, filled_of}
use Rattle.mk_model.specs.OpenSlots.{Chooses, standing_by}
use Rattle.mk_logic.specs.Counts.{filled_at, sites_at}

-- a link may stand once; nothing is asked of a site here
abbrev pub MayStand : Slot → Type 0
MayStand (Link atom most from to) = 1 ≤ most
MayStand (Site atom groups first second) = Unit {0}

-- a link may stand once, and the labels of a site rise and are numbers of the 32 groups
pub record IsKnown (slot : Slot) : Type 0 where
  pub labels : AreRisingLabels (site_labels slot)
  pub stands : MayStand slot

-- 1 where group g is among the labels, and 0 where it isn't
abbrev pub borne : List ℕ → ℕ → ℕ
borne labels g = if list_any (λ h. h == g) labels then 1 else 0

-- the sites of group g that are counted, and those among some more
abbrev pub sites_with : List Count → List Standing → ℕ → ℕ
sites_with counts more g = sites_at counts g + sites_of more g

-- the filled sites of group g that are counted, and those among some more
abbrev pub filled_with : QueryView → List Count → List Standing → ℕ → ℕ
filled_with query counts more g = filled_at counts g + filled_of query more g

-- the numbers choose at the open slots, and together with the sites that stand there the counts are
-- allowed
pub record Completes (query : QueryView) (counts : List Count) (slots : List Slot) (others : List ℕ) : Type 0 where
  pub chooses : Chooses query slots others
  pub logic :
      let more = standing_by query slots others in
      IsAllowed query (sites_with counts more) (filled_with query counts more)

-- nothing that is chosen at the open slots makes the counts allowed
abbrev pub CantComplete : QueryView → List Count → List Slot → Type 0
CantComplete query counts slots = (others : List ℕ) → Completes query counts slots others → ⊥

-- the counts of the groups from 1 to 32, none above k
pub record AreCounts (k : ℕ) (counts : List Count) : Type 0 where
  pub all : length counts ≡ 32
  pub few : All (λ count. (count.sites ≤ k) × (count.filled ≤ k)) counts

-- counts of nothing
pub record AreNone (counts : List Count) : Type 0 where
  pub sites : (g : ℕ) → sites_at counts g ≡ 0
  pub filled : (g : ℕ) → filled_at counts g ≡ 0

-- what can be chosen at the open slots has room behind k numbers: all together are at most 512
abbrev pub LeavesRoom : QueryView → List Slot → ℕ → Type 0
LeavesRoom query slots k = (others : List ℕ) → Chooses query slots others → k + length others ≤ 512
