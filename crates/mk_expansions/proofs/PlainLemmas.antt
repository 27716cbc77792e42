-- The least occurrence in one molecule, code by code.
--     none_yet, none_more     no code below the place has one
--     one_found, none_left    the least, or none
use Rattle.std.proofs.Common.{ℕ, ◌++◌, ◌∷◌, [], List, map, Option, Some, None, arith}
use Rattle.std.specs.Prelude.{option_to_list}
use Rattle.mk_text.specs.Rising.{AreFirst, IsBelow, IsFrom, IsLeast, IsLeastFrom}
use Rattle.mk_text.proofs.ForCallers.{below_after, below_through, below_what_isnt}
use Rattle.mk_model.specs.Expansions.{IsExpansion}
use Rattle.mk_model.specs.Graphs.{GraphView}
use Rattle.mk_model.specs.Hits.{IsHit}
use Rattle.mk_model.specs.Keys.{IsOccurrence}
use Rattle.mk_model.specs.Logic.{IsValid}
use Rattle.mk_model.specs.Molecules.{Molecule}
use Rattle.mk_model.specs.Queries.{QueryView}
use Rattle.mk_expansions.specs.Starts.{IsBehind, IsStart}
use Rattle.mk_expansions.proofs.ListingLemmas.{HasListed, IsMade, first_of_least, first_same, least_of_first, listed_all, listed_front, listed_none}
use Rattle.mk_expansions.proofs.OccurrencesLemmas.{IsHitBehind, codes_apart, hits_of_code, is_made, made_is, none_before}

-- no code below the place has an occurrence from the rest on
pub record NoneFound (query : QueryView) (mol : Molecule) (rest start place : List ℕ) : Type 0 where
  pub listed : HasListed (IsValid query) (IsHitBehind query mol rest) 1 place []
  pub up : (xs : List ℕ) → IsBelow xs start → IsBelow xs place

module _ (query : QueryView) (mol : Molecule) (rest start : List ℕ) (starts : IsStart query rest start) where
  pub none_yet : NoneFound query mol rest start start
  none_yet = record { listed = listed_none (IsValid query) (IsHitBehind query mol rest) 1 start (none_before query mol rest start starts); up = λ xs below. below }

  module _ (place code from : List ℕ) (graph : GraphView) (h : NoneFound query mol rest start place) (least : IsLeast place (IsValid query) code) (behind : IsBehind code rest from)
      (expanded : IsExpansion query code graph) where
    -- what is listed with this code too
    one_code_more : (hits : List (List ℕ)) → AreFirst 1 (IsHitBehind query mol rest code) hits
        → HasListed (IsValid query) (IsHitBehind query mol rest) 1 (code ++ (0 ∷ [])) (map (λ back. code ++ back) hits)
    one_code_more hits first = listed_front (IsValid query) (IsHitBehind query mol rest) (codes_apart query mol rest) 1 place [] code hits h.listed (omega arith) least first

    hits_there : (found : Option (List ℕ)) → IsLeastFrom from (IsHit graph mol) found → AreFirst 1 (IsHitBehind query mol rest code) (option_to_list found)
    hits_there found is =
        hits_of_code query mol rest start code from graph 1 (option_to_list found) starts least.has (λ below. least.from (h.up code below)) behind expanded
        (first_of_least (IsHit graph mol) from found is)

    pub none_more : IsLeastFrom from (IsHit graph mol) None → NoneFound query mol rest start (code ++ (0 ∷ []))
    none_more none = record {
      listed = one_code_more [] (hits_there None none);
      up = λ xs below. below_through xs code (code ++ (0 ∷ [])) (below_what_isnt xs code place (h.up xs below) least.from) (below_after code);
    }

    pub one_found : (hit : List ℕ) → IsLeastFrom from (IsHit graph mol) (Some hit) → IsLeastFrom rest (IsOccurrence query mol) (Some (code ++ hit))
    one_found hit is =
        let listed = one_code_more (hit ∷ []) (hits_there (Some hit) is) in
        least_of_first (IsOccurrence query mol) rest (Some (code ++ hit))
        (first_same 1 (IsMade (IsValid query) (IsHitBehind query mol rest)) (IsFrom (IsOccurrence query mol) rest) ((code ++ hit) ∷ []) (made_is query mol rest)
        (is_made query mol rest) (listed.first (omega arith)))

-- no code is left
pub none_left : (query : QueryView) (mol : Molecule) (rest start place : List ℕ) → NoneFound query mol rest start place → IsLeastFrom place (IsValid query) None
    → IsLeastFrom rest (IsOccurrence query mol) None
none_left query mol rest start place h none =
    least_of_first (IsOccurrence query mol) rest None
    (first_same 1 (IsMade (IsValid query) (IsHitBehind query mol rest)) (IsFrom (IsOccurrence query mol) rest) [] (made_is query mol rest) (is_made query mol rest)
    (listed_all (IsValid query) (IsHitBehind query mol rest) 1 place [] h.listed (omega arith) none))
