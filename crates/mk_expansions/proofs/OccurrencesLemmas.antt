-- Occurrences of a query in one molecule, each a code with a hit behind it.
--     codes_apart            no valid code begins another
--     made_is, is_made       an occurrence from the rest on is a valid code, and a hit of its expansion behind it
--     none_before            none has a code below the start
--     hits_of_code           behind a code from the start on stand the hits of its graph
use Rattle.std.proofs.Common.{◌≡◌, ℕ, List, [], ◌++◌, sym, subst}
use Rattle.mk_text.specs.Rising.{AreFirst, IsBelow, IsFrom}
use Rattle.mk_model.specs.Expansions.{IsExpansion}
use Rattle.mk_model.specs.Graphs.{GraphView}
use Rattle.mk_model.specs.Hits.{IsHit}
use Rattle.mk_model.specs.Keys.{IsOccurrence}
use Rattle.mk_model.specs.Logic.{IsValid}
use Rattle.mk_model.specs.Molecules.{Molecule}
use Rattle.mk_model.specs.Queries.{QueryView}
use Rattle.mk_model.proofs.ForCallers.{code_of_valid}
use Rattle.mk_choice.proofs.ForCallers.{no_valid_begins_another}
use Rattle.mk_expand.proofs.ForCallers.{one_graph}
use Rattle.mk_expansions.specs.Starts.{IsBehind, IsStart}
use Rattle.mk_expansions.proofs.ListingLemmas.{IsMade, first_same}
use Rattle.mk_expansions.proofs.StartsLemmas.{above_is_back, back_is_above, none_below_start}

-- a hit of the expansion by the code, and both together aren't below the rest
pub record IsHitBehind (query : QueryView) (mol : Molecule) (rest code hit : List ℕ) : Type 0 where
  pub graph : GraphView
  pub expanded : IsExpansion query code graph
  pub hits : IsHit graph mol hit
  pub from : IsBelow (code ++ hit) rest → ⊥

module _ (query : QueryView) (mol : Molecule) (rest : List ℕ) where
  pub made_is : (xs : List ℕ) → IsMade (IsValid query) (IsHitBehind query mol rest) xs → IsFrom (IsOccurrence query mol) rest xs
  made_is xs made = (
    record { code = made.front; hit = made.back; graph = made.is_back.graph; valid = made.is_front; expanded = made.is_back.expanded; hits = made.is_back.hits; whole = made.whole },
    subst (λ (zs : List ℕ). IsBelow zs rest → ⊥) (sym made.whole) made.is_back.from,
  )

  pub is_made : (xs : List ℕ) → IsFrom (IsOccurrence query mol) rest xs → IsMade (IsValid query) (IsHitBehind query mol rest) xs
  is_made xs is =
      let occurs = is.0 in
      record {
        front = occurs.code;
        back = occurs.hit;
        is_front = occurs.valid;
        is_back = record { graph = occurs.graph; expanded = occurs.expanded; hits = occurs.hits; from = subst (λ (zs : List ℕ). IsBelow zs rest → ⊥) occurs.whole is.1 };
        whole = occurs.whole;
      }

  pub codes_apart : (front more : List ℕ) → IsValid query front → IsValid query (front ++ more) → more ≡ []
  codes_apart front more is longer = no_valid_begins_another query front more is longer

  -- none has a code below the start
  pub none_before : (start : List ℕ) → IsStart query rest start → (code hit : List ℕ) → IsValid query code → IsHitBehind query mol rest code hit → IsBelow code start → ⊥
  none_before start starts code hit valid behind below = behind.from (none_below_start query rest start code hit starts (code_of_valid query code valid) below)

  -- behind a code from the start on stand the hits of its graph
  pub hits_of_code : (start code from : List ℕ) (graph : GraphView) (n : ℕ) (hits : List (List ℕ)) → IsStart query rest start → IsValid query code → (IsBelow code start → ⊥)
      → IsBehind code rest from → IsExpansion query code graph
      → AreFirst n (IsFrom (IsHit graph mol) from) hits → AreFirst n (IsHitBehind query mol rest code) hits
  hits_of_code start code from graph n hits starts valid not behind expanded first =
      first_same n (IsFrom (IsHit graph mol) from) (IsHitBehind query mol rest code) hits
      (λ hit is. record { graph = graph; expanded = expanded; hits = is.0; from = back_is_above query rest start code hit from starts (code_of_valid query code valid) not behind is.1 })
      (λ hit is. (subst (λ (g : GraphView). IsHit g mol hit) (one_graph query code is.graph graph is.expanded expanded) is.hits, above_is_back code rest hit from behind is.from))
      first
