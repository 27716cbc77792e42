-- How the block of a link is searched. For the code alone.
--     is_own link bond                       the bond leads from the link to one of its two
--                                            neighbours
--     others link bonds                      all other bonds
--     MayHold standing link y                a block may hold atom y
--     HasPlainBlock bonds standing link      the block holds no other
--     IsBlock bonds link block               for each atom whether the block holds it
--     AreNumbersOf bonds y numbers           the numbers of the bonds of atom y
--     IsReached bonds link reached queue     the atoms that were reached so far, as marks and in
--                                            their order
--     LeadsOn bonds link reached y           the other bonds of y lead to atoms that were reached
use Rattle.std.specs.Prelude.{◌≡◌, ◌≢◌, ◌≤◌, ◌<◌, ◌||◌, ℕ, Bool, true, false, not, List, All, Contains, count_by, length, slice_index, slice_index_or, IsTrue}
use Rattle.std.specs.List.{filter}
use Rattle.mk_model.specs.declared.template.QueryBond.{QueryBond}
use Rattle.mk_model.specs.Edges.{numbers_at}
use Rattle.mk_model.specs.Templates.{hang_together, joins, query_edges}
use Rattle.mk_query.specs.declared.atom_marks.Standing.{Standing}
use Rattle.mk_query.specs.declared.blocks.LinkEnds.{LinkEnds}
use Rattle.mk_query.specs.AtomMarks.{bears, is_link, is_marked_site}

-- ---- blocks

-- the bond leads from the link to one of its two neighbours
abbrev pub is_own : LinkEnds → QueryBond → Bool
is_own link bond = joins link.atom link.from bond || joins link.atom link.to bond

-- all bonds but those that lead from the link to its two neighbours
abbrev pub others : LinkEnds → List QueryBond → List QueryBond
others link bonds = filter (λ bond. not (is_own link bond)) bonds

-- the atom is neither of the two neighbours, no site and no other link, and it bears no point
pub record MayHold (standing : Standing) (link : LinkEnds) (y : ℕ) : Type 0 where
  pub not_from : y ≢ link.from
  pub not_to : y ≢ link.to
  pub no_site : is_marked_site standing y ≡ false
  pub no_link : y ≢ link.atom → is_link standing y ≡ false
  pub no_first : bears standing 1 y ≡ false
  pub no_second : bears standing 2 y ≡ false

-- the block of the link holds nothing but what a block may hold
abbrev pub HasPlainBlock : List QueryBond → Standing → LinkEnds → Type 0
HasPlainBlock bonds standing link = (y : ℕ) → IsTrue (hang_together (others link bonds) link.atom y) → MayHold standing link y

-- for each atom, whether the block of the link holds it
abbrev pub IsBlock : List QueryBond → LinkEnds → List Bool → Type 0
IsBlock bonds link block = (y : ℕ) → slice_index_or block y false ≡ hang_together (others link bonds) link.atom y

-- ---- the search

-- the numbers of the bonds of atom y, each of which is one of a bond
pub record AreNumbersOf (bonds : List QueryBond) (y : ℕ) (numbers : List ℕ) : Type 0 where
  pub are : numbers ≡ numbers_at (query_edges bonds) y
  pub within : All (λ number. (1 ≤ number) × (number ≤ length bonds)) numbers

-- atom y was reached
abbrev pub is_reached : List Bool → ℕ → Bool
is_reached reached y = slice_index_or reached y false

-- how many places weren't reached
abbrev pub unreached : List Bool → ℕ
unreached reached = count_by not reached

-- The link was reached. What stands in the queue hangs together with it, and whatever was reached
-- stands there.
pub record IsReached (bonds : List QueryBond) (link : LinkEnds) (reached : List Bool) (queue : List ℕ) : Type 0 where
  pub start : is_reached reached link.atom ≡ true
  pub least : (k : ℕ) → k < length queue → 1 ≤ slice_index queue k
  pub most : (k : ℕ) → k < length queue → slice_index queue k < length reached
  pub hang : (k : ℕ) → k < length queue → IsTrue (hang_together (others link bonds) link.atom (slice_index queue k))
  pub listed : (y : ℕ) → is_reached reached y ≡ true → (k : ℕ) × (k < length queue) × (slice_index queue k ≡ y)

-- what was reached stays so
abbrev pub KeepReached : List Bool → List Bool → Type 0
KeepReached old new = (y : ℕ) → is_reached old y ≡ true → is_reached new y ≡ true

-- the new list is the old one, or has more behind it
pub record IsLonger (old new : List ℕ) : Type 0 where
  pub size : length old ≤ length new
  pub same : (k : ℕ) → k < length old → slice_index new k ≡ slice_index old k

-- from y the bond leads to an atom that was reached
pub record IsLed (reached : List Bool) (y : ℕ) (bond : QueryBond) : Type 0 where
  pub forth : bond.first ≡ y → is_reached reached bond.second ≡ true
  pub back : bond.second ≡ y → is_reached reached bond.first ≡ true

-- each bond of y, but for those from the link to its two neighbours, leads to an atom that was
-- reached
abbrev pub LeadsOn : List QueryBond → LinkEnds → List Bool → ℕ → Type 0
LeadsOn bonds link reached y = (bond : QueryBond) → Contains (others link bonds) bond → IsLed reached y bond
