-- What all codes of a query need, code by code, and records without keys.
--     covers_through                       what covers a need covers what that need covers
--     need_none, need_taken, need_moved, need_all      turn by turn
--     next_by_screen, none_by_screen       a record whose screen doesn't cover the need has no keys
--     next_by_number, none_by_number       nor has a number that isn't held
use Rattle.std.proofs.Common.{◌≡◌, ◌∙◌, ℕ, inl, inr, List, [], ◌∷◌, ◌++◌, Some, None, sym, subst, arith}
use Rattle.std.specs.Prelude.{Option, IfNone, IfSome}
use Rattle.mk_text.specs.Rising.{IsBelow, IsLeast, IsLeastFrom}
use Rattle.mk_text.proofs.ForCallers.{below_or_not, between_none}
use Rattle.mk_model.specs.Expansions.{IsExpansion}
use Rattle.mk_model.specs.Graphs.{GraphView}
use Rattle.mk_model.specs.Logic.{IsValid}
use Rattle.mk_model.specs.Nodes.{SameFrom}
use Rattle.mk_model.specs.Queries.{QueryView}
use Rattle.mk_model.specs.Hits.{IsHit}
use Rattle.mk_model.specs.Molecules.{Molecule}
use Rattle.mk_model.specs.declared.screen.Screen.{Screen}
use Rattle.mk_model.specs.Screens.{Covers, IsNeedOf, IsScreenOf}
use Rattle.mk_screen.proofs.LossFreeLemmas.{covers_of_hit}
use Rattle.mk_rows.specs.declared.by_number.Numbered.{Numbered}
use Rattle.mk_rows.specs.Rows.{IsLeastFrom as IsLeastNumber, NoneFrom}
use Rattle.mk_choice.specs.Codes.{CodesLeft, IsNext}
use Rattle.mk_index.specs.Postings.{HaveScreens, IsCandidate, IsNextCandidate, NoCandidate}
use Rattle.mk_expand.proofs.ForCallers.{one_graph}
use Rattle.mk_expansions.proofs.StartsLemmas.{before_zero}
use Rattle.mk_open_codes.specs.Fronts.{IsNeedOfAll}
use Rattle.mk_search.specs.Records.{HasKeys, IsNextRecord, NoRecord}
use Rattle.mk_search.proofs.RecordsLemmas.{held_number}

-- ---- needs

pub covers_through : (a b c : Screen) → Covers a b → Covers b c → Covers a c
covers_through a b c first second = record {
  counts = λ i below. omega (arith, first.counts i below, second.counts i below);
  bits = λ i below set. first.bits i below (second.bits i below set);
}

-- a molecule with a hit of the expansion by a code below the place covers this need
pub IsNeedBelow : QueryView → List ℕ → Screen → Type 0
IsNeedBelow query place need =
    (code hit : List ℕ) (graph : GraphView) (mol : Molecule) (held : Screen) → IsValid query code → IsBelow code place → IsExpansion query code graph → IsHit graph mol hit → IsScreenOf mol held
    → Covers held need

module _ (query : QueryView) where
  -- a molecule with a hit of the expansion by this code covers what that needs
  of_code : (code other hit : List ℕ) (graph its : GraphView) (need held : Screen) (mol : Molecule) → code ≡ other
      → IsExpansion query code graph → IsNeedOf graph need → IsExpansion query other its → IsHit its mol hit
      → IsScreenOf mol held → Covers held need
  of_code code other hit graph its need held mol same expanded is other_expanded hits shows =
      let one : its ≡ graph = one_graph query code its graph (subst (λ (zs : List ℕ). IsExpansion query zs its) (sym same) other_expanded) expanded in
      covers_of_hit graph mol hit held need (subst (λ (g : GraphView). IsHit g mol hit) one hits) shows is

  -- no code is below the empty place
  pub need_none : (need : Screen) → IsNeedBelow query [] need
  unfolding IsNeedBelow
  need_none need code hit graph mol held valid below expanded hits shows = absurd below

  -- a place from which the same codes are left has the same below it
  pub need_moved : (place to : List ℕ) (need : Screen) → SameFrom (IsValid query) place to → IsNeedBelow query place need → IsNeedBelow query to need
  unfolding IsNeedBelow
  need_moved place to need same h code hit graph mol held valid below expanded hits shows =
      elim (below_or_not code place) [
        | inl early ↦ h code hit graph mol held valid early expanded hits shows
        | inr late ↦ absurd (same.on code valid late below)
      ]

  -- of two needs that all codes below the place and the least code from it on have, what both have in
  -- common is had by all below the place behind that code
  need_more : (place code : List ℕ) (graph : GraphView) (all need both : Screen)
      → IsLeast place (IsValid query) code → IsExpansion query code graph → IsNeedOf graph need → Covers all both
      → Covers need both
      → IsNeedBelow query place all → IsNeedBelow query (code ++ (0 ∷ [])) both
  unfolding IsNeedBelow
  need_more place code graph all need both least expanded is first second h other hit its mol held valid below other_expanded hits shows =
      elim (below_or_not other place) [
        | inl early ↦ covers_through held all both (h other hit its mol held valid early other_expanded hits shows) first
        | inr late ↦ covers_through held need both (of_code code other hit graph its need held mol
            (between_none code other (least.least other valid late) below) expanded is other_expanded hits shows) second
      ]

  -- so it is where a turn takes that code out
  pub need_taken : (old new : CodesLeft) (taken given : List ℕ) (graph : GraphView) (all need both : Screen)
      → old.query ≡ query → (code : List ℕ) × IsNext old new code → new.place ≡ taken ++ 0 ∷ []
      → given ≡ taken → IsExpansion query given graph → IsNeedOf graph need → Covers all both → Covers need both
      → IsNeedBelow query old.place all → IsNeedBelow query new.place both
  need_taken old new taken given graph all need both of next at spelt expanded is first second h =
      let code = next.0 in
      let least : IsLeast old.place (IsValid query) code = subst (λ (q : QueryView). IsLeast old.place (IsValid q) code) of next.1.least in
      let same : given ≡ code = spelt ∙ before_zero taken code (sym at ∙ next.1.place) in
      let its : IsExpansion query code graph = subst (λ (zs : List ℕ). IsExpansion query zs graph) same expanded in
      subst (λ (place : List ℕ). IsNeedBelow query place both) (sym next.1.place) (need_more old.place code graph all need both least its is first second h)

  pub need_all : (place : List ℕ) (need : Screen) → IsLeastFrom place (IsValid query) None → IsNeedBelow query place need → IsNeedOfAll query need
  unfolding IsNeedBelow
  need_all place need none h mol numbers held occurs shows =
      elim (below_or_not occurs.code place) [
        | inl early ↦ h occurs.code occurs.hit occurs.graph mol held occurs.valid early occurs.expanded occurs.hits shows
        | inr late ↦ absurd (none occurs.code occurs.valid late)
      ]

-- ---- records

module _ (rows : List (Numbered Molecule)) (query : QueryView) where
  module _ (need : Screen) (all : IsNeedOfAll query need) (screens : HaveScreens rows) where
    -- a record with keys is a candidate
    is_candidate : (n : ℕ) → HasKeys rows query n → IsCandidate rows need n
    is_candidate n keys =
        let screen = screens n keys.mol keys.held in
        record { mol = keys.mol; screen = screen.0; held = keys.held; is = screen.1; covers = all keys.mol keys.numbers screen.0 keys.occurs screen.1 }

    pub next_by_screen : (from n : ℕ) → IsNextCandidate rows need from n → IsNextRecord rows query from n
    next_by_screen from n next = record {
      held = held_number rows n next.is.mol next.is.held;
      not_below = next.not_below;
      least = λ other up keys. next.least other up (is_candidate other keys);
    }

    pub none_by_screen : (from : ℕ) → NoCandidate rows need from → NoRecord rows query from
    none_by_screen from none n up keys = none n up (is_candidate n keys)

  pub next_by_number : (from n : ℕ) → IsLeastNumber from rows n → IsNextRecord rows query from n
  next_by_number from n least = record {
    held = least.held;
    not_below = least.not_below;
    least = λ other up keys. least.least other up (held_number rows other keys.mol keys.held);
  }

  pub none_by_number : (from : ℕ) → NoneFrom from rows → NoRecord rows query from
  none_by_number from none n up keys = (let held = held_number rows n keys.mol keys.held in let not = none n up in absurd cc)

-- ---- as the code asks

module _ (rows : List (Numbered Molecule)) (query : QueryView) (from : ℕ) where
  pub some_by_screen : (need : Screen) (found : Option ℕ) → IsNeedOfAll query need → HaveScreens rows → IfSome found (IsNextCandidate rows need from) → IfSome found (IsNextRecord rows query from)
  some_by_screen need None all screens is = is
  some_by_screen need (Some n) all screens is = next_by_screen rows query need all screens from n is

  pub nothing_by_screen : (need : Screen) (found : Option ℕ) → IsNeedOfAll query need → HaveScreens rows → IfNone found (NoCandidate rows need from) → IfNone found (NoRecord rows query from)
  nothing_by_screen need None all screens is = none_by_screen rows query need all screens from is
  nothing_by_screen need (Some n) all screens is = is

  pub some_by_number : (found : Option ℕ) → IfSome found (IsLeastNumber from rows) → IfSome found (IsNextRecord rows query from)
  some_by_number None is = is
  some_by_number (Some n) is = next_by_number rows query from n is

  pub nothing_by_number : (found : Option ℕ) → IfNone found (NoneFrom from rows) → IfNone found (NoRecord rows query from)
  nothing_by_number None is = none_by_number rows query from is
  nothing_by_number (Some n) is = is
