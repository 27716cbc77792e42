-- For the code: fronts that a search asks, and the place behind one that is passed over.
--     FrontsOf query fronts      the fronts, where some are asked, are the query's
--     KnowOf mol fronts          what they know is so in the molecule
--     IsBehindFront front place  the place is behind all codes that begin with the front
use Rattle.std.specs.Prelude.{◌≡◌, ℕ, List, [], ◌∷◌, ◌++◌, Option, IfSome}
use Rattle.mk_model.specs.Molecules.{Molecule}
use Rattle.mk_model.specs.Queries.{QueryView}
use Rattle.mk_fronts.specs.Fronts.{FrontsView, IsKnownOf}

-- the fronts, where some are asked, are those of the query
abbrev pub FrontsOf : QueryView → Option FrontsView → Type 0
FrontsOf query fronts = IfSome fronts (λ its. its.query ≡ query)

-- what they know is so in the molecule
abbrev pub KnowOf : Molecule → Option FrontsView → Type 0
KnowOf mol fronts = IfSome fronts (IsKnownOf mol)

-- the front, with the greatest number of all behind it
abbrev pub IsBehindFront : List ℕ → List ℕ → Type 0
IsBehindFront front place = place ≡ front ++ 4294967295 ∷ []
