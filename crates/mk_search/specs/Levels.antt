-- For the code: a search in two levels, fronts in order and behind each the backs that stand behind
-- it. What is to come is said of a place alone.
--     IsPair Front Behind xs          a front, and what stands behind it
--     BeginsUpTo Front place from     the place begins with no front above the list
--     AtFronts Front Behind place from        no front is open: those from a list on are to come
--     AtBacks Front Behind place front from   a front is open: what stands behind it from a list on,
--                                             and the later fronts
use Rattle.std.specs.Prelude.{◌≡◌, ℕ, List, ◌++◌}
use Rattle.mk_text.specs.Rising.{IsBelow}
use Rattle.mk_search.specs.Begins.{IsLeftBy}

-- a front, and what stands behind it
pub record IsPair (Front : List ℕ → Type 0) (Behind : List ℕ → List ℕ → Type 0) (xs : List ℕ) : Type 0 where
  pub front : List ℕ
  pub back : List ℕ
  pub is_front : Front front
  pub is_back : Behind front back
  pub whole : xs ≡ front ++ back

-- the place begins with no front above this list
abbrev pub BeginsUpTo : (List ℕ → Type 0) → List ℕ → List ℕ → Type 0
BeginsUpTo Front place from = (front behind : List ℕ) → Front front → place ≡ front ++ behind → IsBelow from front → ⊥

-- no front is open: what isn't below the place stands behind a front that isn't below the list; and
-- what stands behind such a front isn't below the place, but for the front with which it begins
pub record AtFronts (Front : List ℕ → Type 0) (Behind : List ℕ → List ℕ → Type 0) (place from : List ℕ) : Type 0 where
  pub below : (front back : List ℕ) → Front front → Behind front back → (IsBelow (front ++ back) place → ⊥)
      → IsBelow front from → ⊥
  pub above : (front back : List ℕ) → Front front → Behind front back → (IsBelow front from → ⊥)
      → ((behind : List ℕ) → place ≡ front ++ behind → ⊥) → IsBelow (front ++ back) place → ⊥
  pub first : BeginsUpTo Front place from
  pub fronts : (front : List ℕ) → Front front → (IsBelow front from → ⊥) → IsLeftBy place front

-- a front is open: what stands behind it isn't below the place exactly from a list on; what stands
-- behind lower fronts is below the place, and what stands behind higher ones isn't
pub record AtBacks (Front : List ℕ → Type 0) (Behind : List ℕ → List ℕ → Type 0)
    (place front from : List ℕ) : Type 0 where
  pub is : Front front
  pub here : (back : List ℕ) → Behind front back → (IsBelow (front ++ back) place → ⊥) → IsBelow back from → ⊥
  pub back : (back : List ℕ) → Behind front back → (IsBelow back from → ⊥) → IsBelow (front ++ back) place → ⊥
  pub below : (other back : List ℕ) → Front other → Behind other back → IsBelow other front
      → IsBelow (other ++ back) place
  pub above : (other back : List ℕ) → Front other → Behind other back → IsBelow front other
      → IsBelow (other ++ back) place → ⊥
  pub first : BeginsUpTo Front place front
  pub fronts : (other : List ℕ) → Front other → IsBelow front other → IsBelow other place → ⊥
