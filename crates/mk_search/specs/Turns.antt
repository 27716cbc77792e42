-- For the code: turns of a search in one molecule, from a place on.
--     IsHigher here to new            the higher of two lists, the first where they are one
--     IsInnerNode query mol node      what a structural code begins with, or a code and some atoms
--     debt_in codes owed open         what is owed where the search stands
--     IsShut query place codes owed   no code is open, and what is owed for one that is opened
--     StandsIn .. open                where a search stands, and what is left
--     OwesFew query place codes owed  what is owed where a search starts
--     IsTurnOpen, IsTurnHere          a turn of the code that is open
--     IsAtCode query place            a valid code was taken out last
--     IsCodeShown .. bare             the code is passed, by itself or with others, or it is opened
--     IsTurnIn .. turn                an occurrence is taken out, or the place moves, or none is left
use Rattle.std.specs.Prelude.{◌≡◌, ◌≤◌, ◌+◌, ◌==◌, ◌⊎◌, ℕ, Bool, true, false, List, [], ◌∷◌, ◌++◌, Option, Some, None, if◌then◌else◌, length, take}
use Rattle.mk_text.specs.Rising.{Holds, IsBelow, IsLeast, IsLeastFrom}
use Rattle.mk_model.specs.declared.screen.Screen.{Screen}
use Rattle.mk_model.specs.declared.turn.Turn.{Turn}
use Rattle.mk_model.specs.declared.turn.Turn.TheVariants.{Item, Moved, End}
use Rattle.mk_model.specs.Hits.{IsHit}
use Rattle.mk_model.specs.Keys.{IsOccurrence}
use Rattle.mk_model.specs.Logic.{IsValid}
use Rattle.mk_model.specs.Molecules.{Molecule}
use Rattle.mk_model.specs.Nodes.{BeginsCode, IsPartialHit, Pays, SameFrom}
use Rattle.mk_model.specs.Queries.{QueryView, slots_of}
use Rattle.mk_model.specs.Screens.{Covers, IsScreenOf}
use Rattle.mk_choice.specs.Codes.{CodesLeft, IsMadeFrom}
use Rattle.mk_counts.specs.Counts.{HasNoHit}
use Rattle.mk_match.specs.Maps.{MapsLeft, IsMadeFrom as AreMadeFrom, IsTurn as IsTurnOfMaps}
use Rattle.mk_fronts.specs.Fronts.{BeginsWithNone}
use Rattle.mk_expansions.specs.declared.expansions.Expansion.{Expansion}
use Rattle.mk_search.specs.declared.occurrences.Open.{Open}
use Rattle.mk_search.specs.Begun.{Begun}
use Rattle.mk_expansions.specs.Kept.{IsKept}
use Rattle.mk_expansions.specs.Starts.{IsBehind}
use Rattle.mk_search.specs.Occurrences.{IsBegunFor, IsCodeFrom, Leaves, is_open, reached}
use Rattle.mk_search.specs.Passing.{IsBehindFront}

-- the first list stays where the second is below it, and else it is the second
abbrev pub IsHigher : List ℕ → List ℕ → List ℕ → Type 0
IsHigher here to new = (IsBelow to here × (new ≡ here)) ⊎ ((IsBelow to here → ⊥) × (new ≡ to))

-- a structural code begins with the numbers, or they are such a code and some atoms
abbrev pub IsInnerNode : QueryView → Molecule → List ℕ → Type 0
IsInnerNode query mol node = BeginsCode query node ⊎ IsPartialHit query mol node

-- ---- where a search stands

-- what the codes owe and, beside, what is kept for one that is opened, or its hits owe
abbrev pub debt_in : CodesLeft → ℕ → Option Open → ℕ
debt_in codes owed None = owed + codes.debt
debt_in codes owed (Some open') = owed + codes.debt + open'.maps.debt

-- no code is open: what codes begin with, and stands above the codes' place, stands above the place;
-- and what the place has behind a code that is to come is owed
pub record IsShut (query : QueryView) (place : List ℕ) (codes : CodesLeft) (owed : ℕ) : Type 0 where
  pub over : (node : List ℕ) → BeginsCode query node → IsBelow codes.place node → IsBelow place node
  pub kept : (code back : List ℕ) → IsValid query code → (IsBelow code codes.place → ⊥) → place ≡ code ++ back → length back ≤ owed

-- no code is open; or the place is that of the hits, behind their code
abbrev pub StandsBy : QueryView → List ℕ → CodesLeft → ℕ → Option Open → Type 0
StandsBy query place codes owed None = IsShut query place codes owed
StandsBy query place codes owed (Some open') = place ≡ open'.code.items ++ open'.maps.place

-- what isn't below the place is to come, and the place is where the search stands
pub record StandsIn (query : QueryView) (mol : Molecule) (place : List ℕ) (codes : CodesLeft) (owed : ℕ)
    (open' : Option Open) : Type 0 where
  pub left : Leaves query mol place codes open'
  pub by : StandsBy query place codes owed open'

-- no more is owed than the place has numbers; where the root has no slots, it may be one more
abbrev pub OwesFew : QueryView → List ℕ → CodesLeft → ℕ → Type 0
OwesFew query place codes owed = owed + codes.debt ≤ length place + (if length (slots_of query 0) == 0 then 1 else 0)

-- ---- a turn of the code that is open

-- its matcher has gone on by a turn
pub record TurnsMaps (old : Open) (new : Option Open) (turn : Turn) : Type 0 where
  pub maps : MapsLeft
  pub is : new ≡ Some (record { maps = maps; code = old.code; asked = old.asked; need = old.need })
  pub turn_is : IsTurnOfMaps old.maps maps turn

-- its next hit is taken out, or the place moves; or none is left, and all is as it was
abbrev pub IsTurnOpen : Option Open → Option Open → Turn → Type 0
IsTurnOpen None new Item = ⊥
IsTurnOpen None new Moved = ⊥
IsTurnOpen None new End = new ≡ None
IsTurnOpen (Some old) new Item = TurnsMaps old new Item
IsTurnOpen (Some old) new Moved = TurnsMaps old new Moved
IsTurnOpen (Some old) new End = (new ≡ Some old) × IsLeastFrom old.maps.place (IsHit old.maps.graph old.maps.mol) None

-- the same, but where none is left none is open any more
abbrev pub IsTurnHere : Option Open → Option Open → Turn → Type 0
IsTurnHere None new Item = ⊥
IsTurnHere None new Moved = ⊥
IsTurnHere None new End = new ≡ None
IsTurnHere (Some old) new Item = TurnsMaps old new Item
IsTurnHere (Some old) new Moved = TurnsMaps old new Moved
IsTurnHere (Some old) new End = (new ≡ None) × IsLeastFrom old.maps.place (IsHit old.maps.graph old.maps.mol) None

-- ---- a code that is taken out

-- the place is that behind a valid code
pub record IsAtCode (query : QueryView) (place : List ℕ) : Type 0 where
  pub code : List ℕ
  pub valid : IsValid query code
  pub placed : place ≡ code ++ 0 ∷ []

-- it begins with a front with which no occurrence begins, and the codes are behind all that do
pub record IsRefused (query : QueryView) (mol : Molecule) (old new : CodesLeft) (open' : Option Open)
    (before after : ℕ) : Type 0 where
  pub code : List ℕ
  pub placed : old.place ≡ code ++ 0 ∷ []
  pub n : ℕ
  pub none : BeginsWithNone query mol code n
  pub at : List ℕ
  pub behind : IsBehindFront (take n code) at
  pub made : IsMadeFrom old.query at new
  pub shut : open' ≡ None
  pub same_count : after ≡ before

-- its expansion has no hit
pub record IsHitless (query : QueryView) (mol : Molecule) (old new : CodesLeft) (open' : Option Open)
    (before after : ℕ) : Type 0 where
  pub expansion : Expansion
  pub placed : old.place ≡ expansion.code.items ++ 0 ∷ []
  pub kept : IsKept query expansion
  pub none : HasNoHit expansion.graph mol
  pub same : new ≡ old
  pub shut : open' ≡ None
  pub same_count : after ≡ before

-- a matcher is begun for it, from what the place has behind it
pub record IsBegunAt (query : QueryView) (mol : Molecule) (place : List ℕ) (old new : CodesLeft)
    (open' : Option Open) (before after : ℕ) : Type 0 where
  pub expansion : Expansion
  pub placed : old.place ≡ expansion.code.items ++ 0 ∷ []
  pub kept : IsKept query expansion
  pub screen : Screen
  pub shows : IsScreenOf mol screen
  pub covers : Covers screen expansion.need
  pub back : List ℕ
  pub behind : IsBehind expansion.code.items place back
  pub maps : MapsLeft
  pub made : AreMadeFrom expansion.graph mol back maps
  pub same : new ≡ old
  pub opened : open' ≡ Some (record { maps = maps; code = expansion.code; asked = expansion.asked; need = expansion.need })
  pub one_more : after ≡ before + 1

-- it is passed, by itself or with all behind a front; or it is opened, and its graph has atoms; or
-- has none
abbrev pub IsCodeShown : QueryView → Molecule → List ℕ → CodesLeft → CodesLeft → Option Open → ℕ → ℕ → Bool → Type 0
IsCodeShown query mol place old new open' before after bare =
    ((bare ≡ false) × IsRefused query mol old new open' before after)
    ⊎ (((bare ≡ false) × IsHitless query mol old new open' before after)
    ⊎ ((begun : IsBegunAt query mol place old new open' before after) × (bare ≡ (length begun.expansion.graph.atoms == 0))))

-- ---- a turn

-- what a turn passes, and owes before and behind it
abbrev pub IsPaidIn : QueryView → Molecule → List ℕ → ℕ → List ℕ → ℕ → Type 0
IsPaidIn query mol place owed to owing = Pays (IsInnerNode query mol) place owed to owing

-- the matcher that is open was begun now, or was open before
abbrev pub IsOpenSince : CodesLeft → Option Open → CodesLeft → Option Open → List (List ℕ) → Type 0
IsOpenSince old opened new open' begun =
    is_open open' ≡ true → (code : List ℕ) → new.place ≡ code ++ 0 ∷ []
    → Holds begun code ⊎ ((is_open opened ≡ true) × (old.place ≡ code ++ 0 ∷ []))

-- the least occurrence is taken out, and the place is behind it
pub record TakesOut (query : QueryView) (mol : Molecule) (place : List ℕ) (old : CodesLeft) (owed : ℕ) (opened : Option Open)
    (new : CodesLeft) (owing : ℕ) (open' : Option Open) (before after : ℕ) : Type 0 where
  pub numbers : List ℕ
  pub at : reached new open' ≡ numbers ++ 0 ∷ []
  pub least : IsLeast place (IsOccurrence query mol) numbers
  pub stands : StandsIn query mol (numbers ++ 0 ∷ []) new owing open'
  pub begun : Begun (IsCodeFrom query mol place) old.place new.place before after
  pub for_it : IsBegunFor old opened new begun.begun numbers
  pub pays : IsPaidIn query mol place (debt_in old owed opened) (numbers ++ 0 ∷ []) (debt_in new owing open')

-- none is taken out: the place is further on, where something above it is reached
pub record MovesTo (query : QueryView) (mol : Molecule) (place : List ℕ) (old : CodesLeft) (owed : ℕ) (opened : Option Open)
    (new : CodesLeft) (owing : ℕ) (open' : Option Open) (before after : ℕ) : Type 0 where
  pub to : List ℕ
  pub higher : IsHigher place (reached new open') to
  pub stands : StandsIn query mol to new owing open'
  pub same : SameFrom (IsOccurrence query mol) place to
  pub short : length place ≤ 513 → length to ≤ 513
  pub begun : Begun (IsCodeFrom query mol place) old.place new.place before after
  pub up_to : (code : List ℕ) → Holds begun.begun code → IsBelow to code → ⊥
  pub since : IsOpenSince old opened new open' begun.begun
  pub pays : IsPaidIn query mol place (debt_in old owed opened) to (debt_in new owing open')

-- none is left
pub record LeavesNone (query : QueryView) (mol : Molecule) (place : List ℕ) (old new : CodesLeft)
    (before after : ℕ) : Type 0 where
  pub none : IsLeastFrom place (IsOccurrence query mol) None
  pub begun : Begun (IsCodeFrom query mol place) old.place new.place before after

-- the least is taken out, or the place moves, or none is left
abbrev pub IsTurnIn : QueryView → Molecule → List ℕ → CodesLeft → ℕ → Option Open → CodesLeft → ℕ → Option Open → ℕ → ℕ → Turn → Type 0
IsTurnIn query mol place old owed opened new owing open' before after Item = TakesOut query mol place old owed opened new owing open' before after
IsTurnIn query mol place old owed opened new owing open' before after Moved = MovesTo query mol place old owed opened new owing open' before after
IsTurnIn query mol place old owed opened new owing open' before after End = LeavesNone query mol place old new before after
