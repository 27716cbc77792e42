-- The drill: a search of drilled molecules page by page, with records removed behind the first
-- page.
--     HoldsDrilled start count n mol         the molecule is held under the number n at first
--     IsLeft start count n mol               it is held there behind the removal
--     AreHits start count query hits         the hits that are listed
--     fold hits                              a number that each hit's place and each number of its
--                                            key changes
--     drill_line count hits                  the line
--     IsDrill start count line               the line of the drill
--     AppendsDrill start count before after  the line is appended
--     OneDrill                               a start and a count have at most one line
use Rattle.std.specs.Prelude.{◌≡◌, ◌≢◌, ℕ, ◌+◌, ◌*◌, ◌%◌, ◌<◌, ◌≤◌, List, [], ◌∷◌, ◌++◌, length, sum, codes, decimal}
use Rattle.mk_text.specs.Rising.{AreFirst, IsRisingListOfAll, place_behind}
use Rattle.mk_model.specs.Keys.{Remains}
use Rattle.mk_model.specs.Molecules.{Molecule}
use Rattle.mk_model.specs.Queries.{QueryView}
use Rattle.mk_drill.specs.Draws.{IsDrilled}
use Rattle.mk_drill.specs.DrillQuery.{IsDrillQuery}

-- ---- what is held

-- the drill's molecules are held under the numbers from 1 to their count
pub record HoldsDrilled (start count n : ℕ) (mol : Molecule) : Type 0 where
  pub from_one : 1 ≤ n
  pub to_count : n ≤ count
  pub drilled : IsDrilled start n mol

-- behind the removal those are left whose number is no multiple of 5
pub record IsLeft (start count n : ℕ) (mol : Molecule) : Type 0 where
  pub held : HoldsDrilled start count n mol
  pub no_multiple : n % 5 ≢ 0

-- ---- the hits

-- A page of 100 from the opening place. Where it is full the records whose number is a multiple of
-- 5 are removed, and all keys follow that remain from the place behind the page.
pub record AreHits (start count : ℕ) (query : QueryView) (hits : List (List ℕ)) : Type 0 where
  pub page : List (List ℕ)
  pub others : List (List ℕ)
  pub whole : hits ≡ page ++ others
  pub first : AreFirst 100 (Remains (HoldsDrilled start count) query []) page
  pub ended : length page < 100 → others ≡ []
  pub behind : length page ≡ 100 → IsRisingListOfAll (Remains (IsLeft start count) query (place_behind [] page)) others

-- ---- the line

-- the number of each hit, where the first has the number i, times the sum of its key's numbers, all
-- together
abbrev pub weighed_from : ℕ → List (List ℕ) → ℕ
weighed_from i [] = 0
weighed_from i (key ∷ keys) = i * sum key + weighed_from (i + 1) keys

-- the number of each hit, from 1 on, times the sum of its key's numbers, all together modulo
-- 1,000,000
abbrev pub fold : List (List ℕ) → ℕ
fold hits = weighed_from 1 hits % 1000000

-- `drill COUNT hits H fold F`
abbrev pub drill_line : ℕ → List (List ℕ) → List ℕ
drill_line count hits =
    codes "drill " ++ (decimal count ++ (codes " hits " ++ (decimal (length hits) ++ (codes " fold " ++ (decimal (fold hits) ++ codes "\n")))))

-- the line of the hits of the drill's query
pub record IsDrill (start count : ℕ) (line : List ℕ) : Type 0 where
  pub query : QueryView
  pub is_query : IsDrillQuery query
  pub hits : List (List ℕ)
  pub are_hits : AreHits start count query hits
  pub whole : line ≡ drill_line count hits

-- behind what stood before stands the line of the drill
pub record AppendsDrill (start count : ℕ) (before after : List ℕ) : Type 0 where
  pub line : List ℕ
  pub is : IsDrill start count line
  pub whole : after ≡ before ++ line

-- ---- a law

-- two lines of the drill from one state and with one count are one
abbrev pub OneDrill : Type 0
OneDrill = (start count : ℕ) (line other : List ℕ) → IsDrill start count line → IsDrill start count other → line ≡ other
