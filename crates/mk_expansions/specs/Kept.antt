-- For the code: expansions that are kept.
--     IsKept query expansion       the graph is the expansion of the query by the code, with what
--                                  it asks for in numbers, and what it needs of a screen
--     IsPlanOf query code plan     what is kept is that of the code
--     KeptView, AreKept query kept what is kept under codes is theirs
use Rattle.std.specs.Prelude.{ℕ, List, All}
use Rattle.std.specs.Global.{Vec}
use Rattle.mk_model.specs.Expansions.{IsExpansion}
use Rattle.mk_model.specs.Queries.{QueryView}
use Rattle.mk_model.specs.Screens.{IsNeedOf}
use Rattle.mk_counts.specs.Asked.{AreAsked}
use Rattle.mk_expansions.specs.declared.expansions.Expansion.{Expansion}
use Rattle.mk_expansions.specs.declared.kept.Plan.{Plan}

-- the graph is the expansion of the query by the code, its counts are what it asks for, and its
-- need is what it needs
pub record IsKept (query : QueryView) (expansion : Expansion) : Type 0 where
  pub is : IsExpansion query expansion.code.items expansion.graph
  pub asked : AreAsked expansion.graph expansion.asked
  pub need : IsNeedOf expansion.graph expansion.need

-- the same of what is kept under a code
pub record IsPlanOf (query : QueryView) (code : List ℕ) (plan : Plan) : Type 0 where
  pub is : IsExpansion query code plan.graph
  pub asked : AreAsked plan.graph plan.asked
  pub need : IsNeedOf plan.graph plan.need

-- what is kept under codes
pub record KeptView : Type 0 where
  pub young : List (Vec ℕ × Plan)
  pub elder : List (Vec ℕ × Plan)

-- each that is kept under a code is that of the code
abbrev pub ArePlansOf : QueryView → List (Vec ℕ × Plan) → Type 0
ArePlansOf query entries = All (λ entry. IsPlanOf query entry.0.items entry.1) entries

pub record AreKept (query : QueryView) (kept : KeptView) : Type 0 where
  pub young : ArePlansOf query kept.young
  pub elder : ArePlansOf query kept.elder
