-- The line of the drill is one.
use Rattle.std.proofs.Common.{[], ◌≡◌, ◌++◌, ℕ, ◌<◌, ◌≤◌, ◌⊎◌, inl, inr, List, length, arith, sym, ap, ◌∙◌, subst}
use Rattle.std.proofs.lemmas.Bool.{cases_lt}
use Rattle.mk_text.specs.Rising.{IsRisingListOfAll, place_behind}
use Rattle.mk_text.proofs.ForCallers.{one_list_is_first, one_of_all}
use Rattle.mk_model.specs.Keys.{Remains}
use Rattle.mk_model.specs.Queries.{QueryView}
use Rattle.mk_rgfile.specs.declared.raw_query.RawQuery.{RawQuery}
use Rattle.mk_query.specs.Compiled.{IsQueryOf}
use Rattle.mk_query.specs.Laws.{OneQuery}
use Rattle.mk_drill.specs.Drill.{AreHits, HoldsDrilled, IsLeft, OneDrill, drill_line}
use Rattle.mk_drill.specs.DrillQuery.{IsDrillQuery}
use Rattle.mk_drill.proofs.QueryFileLemmas.{one_raw}

one_meant : OneQuery → (a b : QueryView) → IsDrillQuery a → IsDrillQuery b → a ≡ b
one_meant one a b is other =
    one is.raw a b is.meant (subst (λ (raw : RawQuery). IsQueryOf raw b) (one_raw other.raw other.read ∙ sym (one_raw is.raw is.read)) other.meant)

module _ (start count : ℕ) (query : QueryView) (hits others : List (List ℕ)) (a : AreHits start count query hits) (b : AreHits start count query others) where
  same_page : a.page ≡ b.page
  same_page = one_list_is_first 100 (Remains (HoldsDrilled start count) query []) a.page b.page a.first b.first

  rest_of : (length a.page < 100) ⊎ (100 ≤ length a.page) → a.others ≡ b.others
  rest_of (inl less) = a.ended less ∙ sym (b.ended (subst (λ (page : List (List ℕ)). length page < 100) same_page less))
  rest_of (inr full) =
      let count_is : length a.page ≡ 100 = omega (arith, a.first.few) in
      let place : place_behind [] b.page ≡ place_behind [] a.page = ap (place_behind []) (sym same_page) in
      one_of_all (Remains (IsLeft start count) query (place_behind [] a.page)) a.others b.others (a.behind count_is)
      (subst (λ (p : List ℕ). IsRisingListOfAll (Remains (IsLeft start count) query p) b.others) place (b.behind (subst (λ (page : List (List ℕ)). length page ≡ 100) same_page count_is)))

  pub one_hits : hits ≡ others
  one_hits = a.whole ∙ ap (λ (page : List (List ℕ)). page ++ a.others) same_page ∙ ap (λ (rest : List (List ℕ)). b.page ++ rest) (rest_of (cases_lt (length a.page) 100)) ∙ sym b.whole

pub one_drill : OneQuery → OneDrill
one_drill one start count line other is is' =
    let query = one_meant one is.query is'.query is.is_query is'.is_query in
    let hits = one_hits start count is'.query is.hits is'.hits (subst (λ (q : QueryView). AreHits start count q is.hits) query is.are_hits) is'.are_hits in
    is.whole ∙ ap (drill_line count) hits ∙ sym is'.whole
