-- For the code: what is left of the occurrences of a query in one molecule, from a place on.
--     HitsBehind query mol code hit   the hit is one of the expansion by the code
--     IsCodeFrom query mol place code      a code whose need is covered, from the place on
--     IsOpenOf query open             what is kept of the code that is open
--     Leaves query mol place codes open    what isn't below the place is to come
--     BelongsTo query all             all that is kept is of the query
--     reached codes open              the list that the search came to
--     given more numbers              the numbers that were found, where some were
--     IsTakenHere .. found            the next one of the code that is open, or there is none
--     IsOpened .. more                the next code, or all codes behind a front that holds none,
--                                     are passed; or there is none
--     TakesNext .. found              the next occurrence is taken, or there is none
use Rattle.std.specs.Prelude.{◌≡◌, ◌⊎◌, ℕ, Bool, true, false, List, [], ◌∷◌, ◌++◌, Option, Some, None}
use Rattle.mk_text.specs.Rising.{Holds, IsBelow, IsLeast, IsLeastFrom}
use Rattle.mk_model.specs.Expansions.{IsExpansion}
use Rattle.mk_model.specs.Graphs.{GraphView}
use Rattle.mk_model.specs.Hits.{IsHit}
use Rattle.mk_model.specs.Keys.{IsOccurrence}
use Rattle.mk_model.specs.Logic.{IsValid}
use Rattle.mk_model.specs.Molecules.{Molecule}
use Rattle.mk_model.specs.Queries.{QueryView}
use Rattle.mk_choice.specs.Codes.{CodesLeft}
use Rattle.mk_search.specs.declared.occurrences.Occurrences.{Occurrences}
use Rattle.mk_search.specs.declared.occurrences.Open.{Open}
use Rattle.mk_search.specs.Begins.{IsLeftBy}
use Rattle.mk_search.specs.Begun.{Begun, IsCovered}
use Rattle.mk_expansions.specs.Kept.{AreKept, IsKept}
use Rattle.mk_search.specs.Levels.{AtBacks, AtFronts}
use Rattle.mk_search.specs.Passing.{FrontsOf}

-- the hit is one of the expansion by the code in the molecule
pub record HitsBehind (query : QueryView) (mol : Molecule) (code hit : List ℕ) : Type 0 where
  pub graph : GraphView
  pub expanded : IsExpansion query code graph
  pub hits : IsHit graph mol hit

-- a code whose need the molecule covers, that isn't below the place, or begins it
pub record IsCodeFrom (query : QueryView) (mol : Molecule) (place code : List ℕ) : Type 0 where
  pub covered : IsCovered query mol code
  pub from : IsLeftBy place code

-- ---- what is left

-- what is kept of the code that is open is its expansion
abbrev pub IsOpenOf : QueryView → Open → Type 0
IsOpenOf query open' =
    IsKept query (record { code = open'.code; graph = open'.maps.graph; asked = open'.asked; need = open'.need })

-- a code is open: its hits are left from where the matcher stands, and then the later codes
pub record LeavesOpen (query : QueryView) (mol : Molecule) (place : List ℕ) (codes : CodesLeft)
    (open' : Open) : Type 0 where
  pub placed : codes.place ≡ open'.code.items ++ 0 ∷ []
  pub of : IsOpenOf query open'
  pub mol_is : open'.maps.mol ≡ mol
  pub at : AtBacks (IsValid query) (HitsBehind query mol) place open'.code.items open'.maps.place

-- what isn't below the place is to come
abbrev pub LeavesBy : QueryView → Molecule → List ℕ → CodesLeft → Option Open → Type 0
LeavesBy query mol place codes None = AtFronts (IsValid query) (HitsBehind query mol) place codes.place
LeavesBy query mol place codes (Some open') = LeavesOpen query mol place codes open'

pub record Leaves (query : QueryView) (mol : Molecule) (place : List ℕ) (codes : CodesLeft)
    (open' : Option Open) : Type 0 where
  pub query_is : codes.query ≡ query
  pub by : LeavesBy query mol place codes open'

-- the codes, the fronts and the expansions that are kept are of the query
pub record BelongsTo (query : QueryView) (all : Occurrences) : Type 0 where
  pub query_is : all.query.now ≡ query
  pub codes_of : all.codes.query ≡ query
  pub fronts_of : FrontsOf query all.fronts
  pub kept_are : AreKept query all.kept

-- a code is open
abbrev pub is_open : Option Open → Bool
is_open None = false
is_open (Some open') = true

-- the list that the search came to: the place of the hits, behind their code, or that of the codes
abbrev pub reached : CodesLeft → Option Open → List ℕ
reached codes None = codes.place
reached codes (Some open') = open'.code.items ++ open'.maps.place

-- ---- the next one

-- the numbers that were found, where some were
abbrev pub given : Bool → List ℕ → Option (List ℕ)
given true numbers = Some numbers
given false numbers = None

-- the next occurrence of the open code
pub record TakesHere (query : QueryView) (mol : Molecule) (place : List ℕ) (codes : CodesLeft)
    (old new : Option Open) (numbers : List ℕ) : Type 0 where
  pub least : IsLeast place (IsOccurrence query mol) numbers
  pub left : Leaves query mol (numbers ++ 0 ∷ []) codes new
  pub code : List ℕ
  pub hit : List ℕ
  pub placed : codes.place ≡ code ++ 0 ∷ []
  pub whole : numbers ≡ code ++ hit
  pub was_open : is_open old ≡ true
  pub now_open : is_open new ≡ true
  pub at : reached codes new ≡ numbers ++ 0 ∷ []

-- the next occurrence of the open code is taken; or there is none, and none is open
abbrev pub IsTakenHere : QueryView → Molecule → List ℕ → CodesLeft → Option Open → Option Open
    → Option (List ℕ) → Type 0
IsTakenHere query mol place codes old new None = Leaves query mol place codes new × (new ≡ None)
IsTakenHere query mol place codes old new (Some numbers) = TakesHere query mol place codes old new numbers

-- the code is opened: it stands before the place, and a matcher was begun for it
pub record IsOpenFor (new : CodesLeft) (begun : List (List ℕ)) (code : List ℕ) : Type 0 where
  pub placed : new.place ≡ code ++ 0 ∷ []
  pub held : Holds begun code

-- the next code is passed, or all codes behind a front that holds none: a matcher is begun for the
-- code itself exactly where it is opened
pub record IsOpenedAt (query : QueryView) (mol : Molecule) (place : List ℕ) (old new : CodesLeft)
    (open' : Option Open) (before after : ℕ) : Type 0 where
  pub code : List ℕ
  pub least : IsLeast old.place (IsValid query) code
  pub passed : IsBelow code new.place
  pub left : Leaves query mol place new open'
  pub begun : Begun (IsCodeFrom query mol place) old.place new.place before after
  pub for_it : is_open open' ≡ true → IsOpenFor new begun.begun code

-- nothing is left, and no matcher is begun
pub record IsNoneOpened (query : QueryView) (mol : Molecule) (place : List ℕ) (old new : CodesLeft)
    (before after : ℕ) : Type 0 where
  pub none : IsLeastFrom place (IsOccurrence query mol) None
  pub begun : Begun (IsCodeFrom query mol place) old.place new.place before after

-- the next code, or all behind a front, are passed; or nothing is left
abbrev pub IsOpened : QueryView → Molecule → List ℕ → CodesLeft → CodesLeft → Option Open → ℕ → ℕ → Bool → Type 0
IsOpened query mol place old new open' before after true = IsOpenedAt query mol place old new open' before after
IsOpened query mol place old new open' before after false = IsNoneOpened query mol place old new before after

-- the code of what was taken is one for which a matcher was begun, or it was open before
pub record IsBegunFor (old : CodesLeft) (opened : Option Open) (new : CodesLeft) (begun : List (List ℕ))
    (numbers : List ℕ) : Type 0 where
  pub code : List ℕ
  pub hit : List ℕ
  pub whole : numbers ≡ code ++ hit
  pub placed : new.place ≡ code ++ 0 ∷ []
  pub begun_for : Holds begun code ⊎ ((is_open opened ≡ true) × (old.place ≡ code ++ 0 ∷ []))

-- the next occurrence is taken, or there is none
pub record TakesNext (query : QueryView) (mol : Molecule) (place : List ℕ) (old : CodesLeft)
    (opened : Option Open) (new : CodesLeft) (open' : Option Open) (before after : ℕ)
    (found : Option (List ℕ)) : Type 0 where
  pub least : IsLeastFrom place (IsOccurrence query mol) found
  pub begun : Begun (IsCodeFrom query mol place) old.place new.place before after
  pub left : (numbers : List ℕ) → found ≡ Some numbers → Leaves query mol (numbers ++ 0 ∷ []) new open'
  pub taken : (numbers : List ℕ) → found ≡ Some numbers → IsBegunFor old opened new begun.begun numbers
  pub now_open : (numbers : List ℕ) → found ≡ Some numbers → is_open open' ≡ true
  pub at : (numbers : List ℕ) → found ≡ Some numbers → reached new open' ≡ numbers ++ 0 ∷ []
