-- What a search keeps, and what is left of the hits from a place on. This file serves the code
-- alone.
--     IsSearch graph mol search          the search is one for the hits of the graph in the
--                                        molecule
--     IsLeft graph mol place search      the hits that it still has to give are those from the
--                                        place on
--     IsOwed place debt search           the place is below the nodes that it still has to come to,
--                                        or the first may be the place itself, and is owed for
use Rattle.std.specs.Prelude.{◌≡◌, ◌<◌, ◌⊎◌, ℕ, Bool, List, [], None, length}
use Rattle.mk_text.specs.Rising.{IsBelow, IsLeastFrom}
use Rattle.mk_model.specs.Molecules.{Molecule}
use Rattle.mk_model.specs.Graphs.{GraphView, IsGraph}
use Rattle.mk_model.specs.Hits.{IsHit}
use Rattle.mk_walk.specs.declared.hydrogens.PlainHydrogen.{PlainHydrogen}
use Rattle.mk_walk.specs.declared.search.Search.{Search}
use Rattle.mk_walk.specs.declared.search.Stage.{Stage}
use Rattle.mk_walk.specs.declared.search.Stage.TheVariants.{Walking, Once, Ended}
use Rattle.mk_walk.specs.Hydrogens.{ArePlain}
use Rattle.mk_walk.specs.Table.{IsTable}
use Rattle.mk_walk.specs.Walk.{IsWalk, SameFrom, place_of}

-- the table, the plain hydrogens and the walk are those of the graph and the molecule; a hit is given
-- once only for a graph without atoms
abbrev pub IsStage : GraphView → Molecule → Stage → List Bool → List PlainHydrogen → List ℕ → List ℕ → ℕ → ℕ → Type 0
IsStage graph mol Walking fits hydrogens images levels depth above = IsTable graph mol fits × ArePlain graph hydrogens × IsWalk graph mol images levels depth
IsStage graph mol Once fits hydrogens images levels depth above = IsGraph graph × (length graph.atoms ≡ 0) × (images ≡ [])
IsStage graph mol Ended fits hydrogens images levels depth above = Unit {0}

-- the search is one for the hits of the graph in the molecule
abbrev pub IsSearch : GraphView → Molecule → Search → Type 0
IsSearch graph mol search = IsStage graph mol search.stage search.fits.items search.hydrogens.items search.walk.images.items search.walk.levels.items search.walk.depth search.walk.above

-- the hits from the place on are those from where the walk stands; or the empty one; or there are
-- none
abbrev pub IsLeftAt : GraphView → Molecule → List ℕ → Stage → List ℕ → ℕ → ℕ → Type 0
IsLeftAt graph mol place Walking images depth above = SameFrom (IsHit graph mol) place (place_of images depth above)
IsLeftAt graph mol place Once images depth above = place ≡ []
IsLeftAt graph mol place Ended images depth above = IsLeastFrom place (IsHit graph mol) None

-- the hits that the search still has to give are those from the place on
abbrev pub IsLeft : GraphView → Molecule → List ℕ → Search → Type 0
IsLeft graph mol place search = IsLeftAt graph mol place search.stage search.walk.images.items search.walk.depth search.walk.above

-- No list from where the walk stands on is below the place; where nothing is owed, each is above
-- it. The one list of a graph without atoms is owed for.
abbrev pub IsOwedAt : List ℕ → ℕ → Stage → List ℕ → ℕ → ℕ → Type 0
IsOwedAt place debt Walking images depth above = (IsBelow (place_of images depth above) place → ⊥) × (debt ≡ 0 → IsBelow place (place_of images depth above))
IsOwedAt place debt Once images depth above = debt ≡ 1
IsOwedAt place debt Ended images depth above = Unit {0}

-- where so much is owed, the place isn't above the nodes that the search comes to; where nothing
-- is, it is below them
abbrev pub IsOwed : List ℕ → ℕ → Search → Type 0
IsOwed place debt search = IsOwedAt place debt search.stage search.walk.images.items search.walk.depth search.walk.above

-- what is owed at a place: 1, but nothing at the empty place of a graph that has an atom
abbrev pub IsDebt : GraphView → List ℕ → ℕ → Type 0
IsDebt graph place debt = (debt ≡ 1 × (0 < length place ⊎ length graph.atoms ≡ 0)) ⊎ (debt ≡ 0 × place ≡ [] × 0 < length graph.atoms)
