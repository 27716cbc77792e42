-- For the code: where a search of a shelf stands, and the next key from there.
--     IsRecord rows front             the number of a record that is held, as a list
--     OccursIn rows query front back  an occurrence in its molecule
--     IsReady rows query place stage all      what isn't below the place is to come
--     IsReadyHere .. row all          and where the search stands in the record
--     IsStanding .. stage all         and what is kept beside is of the query
--     pairs_from, open_in             from which pair on matchers are to be begun, and whether one
--                                     is open
--     debt_at stage place all         what is owed where a search stands
--     FindsIn .. row more             what is found in one record
--     Finds .. found                  what is found in all
--     ComesTo .. came                 what a turn comes to
use Rattle.std.specs.Prelude.{◌≡◌, ◌≤◌, ◌⊎◌, ℕ, Bool, true, false, List, [], ◌∷◌, ◌++◌, Option, Some, None, IfSome, length}
use Rattle.mk_text.specs.Rising.{Holds, IsBelow, IsLeast, IsLeastFrom}
use Rattle.mk_model.specs.Keys.{IsKey, IsOccurrence}
use Rattle.mk_model.specs.Molecules.{Molecule}
use Rattle.mk_model.specs.Nodes.{IsNode, Pays, SameFrom}
use Rattle.mk_model.specs.Queries.{QueryView}
use Rattle.mk_model.specs.Screens.{IsScreenOf}
use Rattle.mk_model.specs.declared.screen.Screen.{Screen}
use Rattle.mk_rows.specs.declared.by_number.Numbered.{Numbered}
use Rattle.mk_search.specs.declared.occurrences.Occurrences.{Occurrences}
use Rattle.mk_search.specs.declared.stages.Came.{Came}
use Rattle.mk_search.specs.declared.stages.Came.TheVariants.{Out, On, Nowhere}
use Rattle.mk_search.specs.declared.stages.Row.{Row}
use Rattle.mk_search.specs.declared.stages.Stage.{Stage}
use Rattle.mk_search.specs.declared.stages.Stage.TheVariants.{From, In, Ended}
use Rattle.mk_search.specs.Begins.{IsLeftBy}
use Rattle.mk_search.specs.Begun.{Begun, IsPairLeft}
use Rattle.mk_search.specs.Levels.{AtBacks, AtFronts}
use Rattle.mk_expansions.specs.Starts.{rest_in}
use Rattle.mk_search.specs.Occurrences.{BelongsTo, Leaves, is_open, reached}
use Rattle.mk_search.specs.Pages.{IsHeldIn}
use Rattle.mk_search.specs.Passing.{KnowOf}
use Rattle.mk_search.specs.Turns.{IsHigher, StandsBy, debt_in}
use Rattle.mk_open_codes.specs.Fronts.{IsNeedOfAll}

-- the number of a record that is held, as a list
pub record IsRecord (rows : List (Numbered Molecule)) (front : List ℕ) : Type 0 where
  pub number : ℕ
  pub mol : Molecule
  pub held : IsHeldIn rows number mol
  pub is : front ≡ number ∷ []

-- an occurrence in the molecule of the record
pub record OccursIn (rows : List (Numbered Molecule)) (query : QueryView) (front back : List ℕ) : Type 0 where
  pub of : IsRecord rows front
  pub occurs : IsOccurrence query of.mol back

-- ---- where a search stands

-- a record is open: what isn't below the place is to come in it, and then in the later ones
pub record IsReadyIn (rows : List (Numbered Molecule)) (query : QueryView) (place : List ℕ) (row : Row)
    (all : Occurrences) : Type 0 where
  pub held : IsHeldIn rows row.number row.mol.now
  pub shows : IsScreenOf row.mol.now row.screen.now
  pub left : Leaves query row.mol.now (rest_in place row.number) all.codes all.open
  pub know : KnowOf row.mol.now all.fronts
  pub at : AtBacks (IsRecord rows) (OccursIn rows query) place (row.number ∷ []) (rest_in place row.number)
  pub from : IsLeftBy place (row.number ∷ [])

-- a record is open, the place begins with its number, and stands where the search does
pub record IsReadyHere (rows : List (Numbered Molecule)) (query : QueryView) (place : List ℕ) (row : Row)
    (all : Occurrences) : Type 0 where
  pub ready : IsReadyIn rows query place row all
  pub begins : place ≡ row.number ∷ rest_in place row.number
  pub by : StandsBy query (rest_in place row.number) all.codes all.owed all.open

-- what isn't below the place is to come
abbrev pub IsReady : List (Numbered Molecule) → QueryView → List ℕ → Stage → Occurrences → Type 0
IsReady rows query place (From n) all = AtFronts (IsRecord rows) (OccursIn rows query) place (n ∷ [])
IsReady rows query place (In row) all = IsReadyHere rows query place row all
IsReady rows query place Ended all = IsLeastFrom place (IsKey (IsHeldIn rows) query) None

-- what isn't below the place is to come, and what is kept beside is of the query
pub record IsStanding (rows : List (Numbered Molecule)) (place : List ℕ) (need : Option Screen) (stage : Stage)
    (all : Occurrences) : Type 0 where
  pub belongs : BelongsTo all.query.now all
  pub need_is : IfSome need (IsNeedOfAll all.query.now)
  pub ready : IsReady rows all.query.now place stage all

-- the list from which on pairs of a record and a code are still to be begun
abbrev pub pairs_from : Stage → Occurrences → List ℕ
pairs_from (From n) all = n ∷ []
pairs_from (In row) all = row.number ∷ all.codes.place
pairs_from Ended all = []

-- a matcher is open
abbrev pub open_in : Stage → Occurrences → Bool
open_in (From n) all = false
open_in (In row) all = is_open all.open
open_in Ended all = false

-- what is owed: all numbers of the place where no record is open
abbrev pub debt_at : Stage → List ℕ → Occurrences → ℕ
debt_at (From n) place all = length place
debt_at (In row) place all = debt_in all.codes all.owed all.open
debt_at Ended place all = 0

-- ---- what is found

-- the key begins with a pair for which a matcher was begun, now or before
pub record IsBegunKey (from : List ℕ) (opened : Bool) (to : List ℕ) (begun : List (List ℕ))
    (key : List ℕ) : Type 0 where
  pub number : ℕ
  pub code : List ℕ
  pub hit : List ℕ
  pub whole : key ≡ number ∷ (code ++ hit)
  pub placed : to ≡ number ∷ (code ++ 0 ∷ [])
  pub begun_for : Holds begun (number ∷ code) ⊎ ((opened ≡ true) × (from ≡ number ∷ (code ++ 0 ∷ [])))

-- the next key is found: the number of a record, and what was found in it
pub record FindsKey (rows : List (Numbered Molecule)) (query : QueryView) (place from : List ℕ)
    (opened : Bool) (before after : ℕ) (all : Occurrences) (row : Row) : Type 0 where
  pub least : IsLeast place (IsKey (IsHeldIn rows) query) (row.number ∷ all.numbers.items)
  pub ready : IsReadyHere rows query (row.number ∷ (all.numbers.items ++ 0 ∷ [])) row all
  pub begun : Begun (IsPairLeft rows query place) from (row.number ∷ all.codes.place) before after
  pub taken : IsBegunKey from opened (row.number ∷ all.codes.place) begun.begun (row.number ∷ all.numbers.items)

-- no more is found in the record
pub record FindsNone (rows : List (Numbered Molecule)) (query : QueryView) (place : List ℕ) (number : ℕ)
    (from : List ℕ) (before after : ℕ) : Type 0 where
  pub at : AtFronts (IsRecord rows) (OccursIn rows query) place (number ∷ 0 ∷ [])
  pub to : List ℕ
  pub begun : Begun (IsPairLeft rows query place) from (number ∷ to) before after

-- no key is left
pub record FindsNoKey (rows : List (Numbered Molecule)) (query : QueryView) (place from : List ℕ)
    (before after : ℕ) : Type 0 where
  pub none : IsLeastFrom place (IsKey (IsHeldIn rows) query) None
  pub to : List ℕ
  pub begun : Begun (IsPairLeft rows query place) from to before after

-- what is found in one record
abbrev pub FindsIn : List (Numbered Molecule) → QueryView → List ℕ → List ℕ → Bool → ℕ → ℕ → Occurrences → Row → Bool → Type 0
FindsIn rows query place from opened before after all row false = FindsNone rows query place row.number from before after
FindsIn rows query place from opened before after all row true = FindsKey rows query place from opened before after all row

-- what is found in all
abbrev pub Finds : List (Numbered Molecule) → QueryView → List ℕ → List ℕ → Bool → ℕ → ℕ → Occurrences → Option Row → Type 0
Finds rows query place from opened before after all None = FindsNoKey rows query place from before after
Finds rows query place from opened before after all (Some row) = FindsKey rows query place from opened before after all row

-- ---- what a turn comes to

-- what a turn passes, and owes before and behind it
abbrev pub IsPaidOf : List (Numbered Molecule) → QueryView → List ℕ → ℕ → List ℕ → Occurrences → Type 0
IsPaidOf rows query place owed to all = Pays (IsNode (IsHeldIn rows) query) place owed to (debt_in all.codes all.owed all.open)

-- a key is taken out: the number of a record, and an occurrence in it
pub record ComesOut (rows : List (Numbered Molecule)) (query : QueryView) (place : List ℕ) (owed : ℕ) (from : List ℕ)
    (opened : Bool) (before after : ℕ) (all : Occurrences) (row : Row) : Type 0 where
  pub numbers : List ℕ
  pub at : reached all.codes all.open ≡ numbers ++ 0 ∷ []
  pub least : IsLeast place (IsKey (IsHeldIn rows) query) (row.number ∷ numbers)
  pub ready : IsReadyHere rows query (row.number ∷ (numbers ++ 0 ∷ [])) row all
  pub begun : Begun (IsPairLeft rows query place) from (row.number ∷ all.codes.place) before after
  pub taken : IsBegunKey from opened (row.number ∷ all.codes.place) begun.begun (row.number ∷ numbers)
  pub pays : IsPaidOf rows query place owed (row.number ∷ (numbers ++ 0 ∷ [])) all

-- the matcher that is open was begun now, or was open before
abbrev pub IsOpenSinceThen : List ℕ → Bool → List ℕ → Bool → List (List ℕ) → Type 0
IsOpenSinceThen from opened to open' begun =
    open' ≡ true → (number : ℕ) (code : List ℕ) → to ≡ number ∷ (code ++ 0 ∷ [])
    → Holds begun (number ∷ code) ⊎ ((opened ≡ true) × (from ≡ number ∷ (code ++ 0 ∷ [])))

-- none is taken out: the place is further on in a record, where something above it is reached
pub record ComesOn (rows : List (Numbered Molecule)) (query : QueryView) (place : List ℕ) (owed : ℕ) (from : List ℕ)
    (opened : Bool) (before after : ℕ) (all : Occurrences) (row : Row) : Type 0 where
  pub to : List ℕ
  pub higher : IsHigher place (row.number ∷ reached all.codes all.open) to
  pub ready : IsReadyHere rows query to row all
  pub same : SameFrom (IsKey (IsHeldIn rows) query) place to
  pub short : length place ≤ 514 → length to ≤ 514
  pub begun : Begun (IsPairLeft rows query place) from (row.number ∷ all.codes.place) before after
  pub up_to : (pair : List ℕ) → Holds begun.begun pair → IsBelow to pair → ⊥
  pub since : IsOpenSinceThen from opened (row.number ∷ all.codes.place) (is_open all.open) begun.begun
  pub pays : IsPaidOf rows query place owed to all

-- all numbers of the place are owed, where it begins with a number from there on
abbrev pub OwesFrom : List ℕ → ℕ → ℕ → Type 0
OwesFrom place from owed = (number : ℕ) (rest : List ℕ) → place ≡ number ∷ rest → from ≤ number → length place ≤ owed

-- what it comes to
abbrev pub ComesTo : List (Numbered Molecule) → QueryView → List ℕ → ℕ → List ℕ → Bool → ℕ → ℕ → Occurrences → Came → Type 0
ComesTo rows query place owed from opened before after all (Out row) = ComesOut rows query place owed from opened before after all row
ComesTo rows query place owed from opened before after all (On row) = ComesOn rows query place owed from opened before after all row
ComesTo rows query place owed from opened before after all Nowhere = FindsNoKey rows query place from before after
