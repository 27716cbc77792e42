-- A search in two levels: fronts in order, and behind each the backs that stand behind it. What is to come is said of a place alone.
--     opens, takes, closes, ends     the next front, what stands next behind it, nothing more behind it, no front left
--     at_back                    where a front is open, at a list behind it
--     goes_up                    fronts behind which nothing stands are passed over
--     fronts_from, same_fronts   the place goes up to the list from which on fronts are to come
--     backs_same                 where a front is open, from another list on
--     same_backs                 and up to the list behind the front that is open
--     between_begins             what stands between a list and others behind it
use Rattle.std.proofs.Common.{◌≡◌, ℕ, ◌⊎◌, inl, inr, List, [], ◌∷◌, ◌++◌, None, refl, sym, ap, subst, ◌∙◌, append_assoc, append-nil}
use Rattle.mk_text.specs.Rising.{IsBelow, IsLeast, IsLeastFrom}
use Rattle.mk_text.proofs.ForCallers.{below_after, below_behind, below_joined, below_or_not, below_through, below_what_isnt, between_none, not_below_after, not_below_itself}
use Rattle.mk_model.specs.Nodes.{SameFrom}
use Rattle.mk_model.proofs.ForCallers.{not_below_front}
use Rattle.mk_expansions.specs.Starts.{IsBehind}
use Rattle.mk_search.specs.Levels.{AtBacks, AtFronts, IsPair}
use Rattle.mk_expansions.proofs.StartsLemmas.{behind_same, shorter_below}

-- ---- the order

-- nothing below a list is below what it isn't below either
pub over_not : (xs ys : List ℕ) → IsBelow xs ys → IsBelow ys xs → ⊥
over_not xs ys over under = not_below_itself xs (below_through xs ys xs over under)

-- of two lists neither of which is below the other
pub same_if_neither : (xs ys : List ℕ) → (IsBelow xs ys → ⊥) → (IsBelow ys xs → ⊥) → xs ≡ ys
same_if_neither xs ys not back =
    elim (below_or_not ys (xs ++ 0 ∷ [])) [
      | inl near ↦ between_none xs ys back near
      | inr far ↦ absurd (not (not_below_after xs ys far))
    ]

-- a list that isn't below another, and is below it with others behind it, begins with it
pub record BeginsBehind (xs front : List ℕ) : Type 0 where
  pub more : List ℕ
  pub whole : xs ≡ front ++ more

pub between_begins : (xs front tail : List ℕ) → (IsBelow xs front → ⊥) → IsBelow xs (front ++ tail) → BeginsBehind xs front
between_begins xs [] tail not below = record { more = xs; whole = refl }
between_begins [] (y ∷ front) tail not below = absurd (not tt)
between_begins (x ∷ xs) (y ∷ front) tail not (inl less) = absurd (not (inl less))
between_begins (x ∷ xs) (y ∷ front) tail not (inr h) =
    let rest = between_begins xs front tail (λ below. not (inr (h.0, below))) h.1 in
    let whole = rest.whole in
    let first = h.0 in
    record { more = rest.more; whole = cc }

-- of two lists with which one list begins, one begins the other
pub data Nested (a c : List ℕ) : Type 0 where
  longer : (more : List ℕ) → c ≡ a ++ more → Nested a c
  shorter : (more : List ℕ) → a ≡ c ++ more → Nested a c

nested_more : (x : ℕ) (a c : List ℕ) → Nested a c → Nested (x ∷ a) (x ∷ c)
nested_more x a c (longer more e) = longer more (ap (λ (zs : List ℕ). x ∷ zs) e)
nested_more x a c (shorter more e) = shorter more (ap (λ (zs : List ℕ). x ∷ zs) e)

pub nested : (a b c d : List ℕ) → a ++ b ≡ c ++ d → Nested a c
nested [] b c d e = longer c refl
nested (x ∷ a) b [] d e = shorter (x ∷ a) refl
nested (x ∷ a) b (y ∷ c) d e =
    let first : x ≡ y = cc in
    let rest : a ++ b ≡ c ++ d = cc in
    subst (λ (z : ℕ). Nested (x ∷ a) (z ∷ c)) first (nested_more x a c (nested a b c d rest))

module _ (Front : List ℕ → Type 0) (Behind : List ℕ → List ℕ → Type 0) where
  -- ---- the next front

  module _ (place from : List ℕ) (at : AtFronts Front Behind place from) where
    pub ends : IsLeastFrom from Front None → IsLeastFrom place (IsPair Front Behind) None
    ends none xs made not =
        none made.front made.is_front
        (at.below made.front made.back made.is_front made.is_back (subst (λ (zs : List ℕ). IsBelow zs place → ⊥) made.whole not))

    module _ (front start : List ℕ) (least : IsLeast from Front front) (behind : IsBehind front place start) where
      open_here : (back : List ℕ) → (IsBelow (front ++ back) place → ⊥) → IsBelow back start → ⊥
      open_here back not below =
          elim behind [
            | inl whole ↦ not (subst (λ (zs : List ℕ). IsBelow (front ++ back) zs) (sym whole) (below_behind front back start below))
            | inr apart ↦ subst (λ (zs : List ℕ). IsBelow back zs) apart.0 below
          ]

      back_here : (back : List ℕ) → Behind front back → (IsBelow back start → ⊥) → IsBelow (front ++ back) place → ⊥
      back_here back is not below =
          elim behind [
            | inl whole ↦ not (behind_same front back start (subst (λ (zs : List ℕ). IsBelow (front ++ back) zs) whole below))
            | inr apart ↦ at.above front back least.has is least.from apart.1 below
          ]

      lower_passed : (other back : List ℕ) → Front other → Behind other back → IsBelow other front → IsBelow (other ++ back) place
      lower_passed other back is its under =
          elim (below_or_not (other ++ back) place) [
            | inl below ↦ below
            | inr not ↦ absurd (least.least other is (at.below other back is its not) under)
          ]

      -- the front isn't below the list
      later_from : (other : List ℕ) → IsBelow front other → IsBelow other from → ⊥
      later_from other over below = least.from (below_through front other from over below)

      pub opens : AtBacks Front Behind place front start
      opens = record {
        is = least.has;
        here = λ back _ not below. open_here back not below;
        back = back_here;
        below = lower_passed;
        above = λ other back is its over.
            at.above other back is its (later_from other over)
            (λ behind' e. at.first other behind' is e (below_what_isnt_up other over));
        first = λ other behind' is e over. at.first other behind' is e (below_what_isnt_up other over);
        fronts = λ other is over below. elim (at.fronts other is (later_from other over)) [
          | inl not ↦ not below
          | inr begins ↦ at.first other begins.0 is begins.1 (below_what_isnt_up other over)
        ];
      }
        where
          -- a later front is above the list
          below_what_isnt_up : (other : List ℕ) → IsBelow front other → IsBelow from other
          below_what_isnt_up other over =
              elim (below_or_not from other) [
                | inl below ↦ below
                | inr not ↦ absurd (least.from (below_what_isnt front from other over not))
              ]

  -- ---- fronts that are passed over

  -- behind no front below the list stands anything that isn't below the place
  pub goes_up : (place from to : List ℕ) → AtFronts Front Behind place from → (IsBelow to from → ⊥)
      → ((front back : List ℕ) → Front front → Behind front back → (IsBelow front from → ⊥) → IsBelow front to → ⊥)
      → AtFronts Front Behind place to
  goes_up place from to at up none = record {
    below = λ front back is its not under. elim (below_or_not front from) [
      | inl early ↦ at.below front back is its not early
      | inr late ↦ none front back is its late under
    ];
    above = λ front back is its not apart. at.above front back is its (λ under. not (below_what_isnt front to from under up)) apart;
    first = λ front behind is e over. at.first front behind is e (over_from front over);
    fronts = λ front is not. at.fronts front is (λ under. not (below_what_isnt front to from under up));
  }
    where
      over_from : (front : List ℕ) → IsBelow to front → IsBelow from front
      over_from front over = elim (below_or_not from front) [
        | inl less ↦ less
        | inr not ↦ absurd (up (below_what_isnt to from front over not))
      ]

  -- the place goes up to the list from which on fronts are to come
  pub fronts_from : (place from : List ℕ) → AtFronts Front Behind place from → (IsBelow from place → ⊥) → AtFronts Front Behind from from
  fronts_from place from at up = record {
    below = λ front back is its not. at.below front back is its (λ under. not (below_what_isnt (front ++ back) from place under up));
    above = λ front back is its not apart below. not (shorter_below front back from below);
    first = λ front behind is e over. not_below_front front behind (subst (λ (zs : List ℕ). IsBelow zs front) e over);
    fronts = λ front is not. inl not;
  }

  -- and the same is left from there on
  pub same_fronts : (place from : List ℕ) → AtFronts Front Behind place from → (IsBelow from place → ⊥) → SameFrom (IsPair Front Behind) place from
  same_fronts place from at up = record {
    on = λ xs pair not below.
        at.below pair.front pair.back pair.is_front pair.is_back (subst (λ (zs : List ℕ). IsBelow zs place → ⊥) pair.whole not)
        (shorter_below pair.front pair.back from (subst (λ (zs : List ℕ). IsBelow zs from) pair.whole below));
    back = λ xs pair not below. not (below_what_isnt xs from place below up);
  }

  -- where a front is open, from a list on behind which the same stands
  pub backs_same : (place front from to : List ℕ) → AtBacks Front Behind place front from → SameFrom (Behind front) from to → AtBacks Front Behind place front to
  backs_same place front from to at same = record {
    is = at.is;
    here = λ back its not. same.on back its (at.here back its not);
    back = λ back its not. at.back back its (same.back back its not);
    below = at.below;
    above = at.above;
    first = at.first;
    fronts = at.fronts;
  }

  -- nothing is left behind any front
  pub none_behind : (place from : List ℕ) → AtFronts Front Behind place from → ((front back : List ℕ) → Front front → Behind front back → (IsBelow front from → ⊥) → ⊥)
      → IsLeastFrom place (IsPair Front Behind) None
  none_behind place from at none xs made not =
      none made.front made.back made.is_front made.is_back
      (at.below made.front made.back made.is_front made.is_back (subst (λ (zs : List ℕ). IsBelow zs place → ⊥) made.whole not))

  -- ---- behind a front

  module _ (apart : (front more : List ℕ) → Front front → Front (front ++ more) → more ≡ []) where
    -- what stands behind a lower front is lower
    made_below : (a b c d : List ℕ) → Front a → Front c → IsBelow a c → IsBelow (a ++ b) (c ++ d)
    made_below a b c d is its below =
        below_joined a c b d below
        (λ more e.
        let none : more ≡ [] = apart a more is (subst Front e its) in
        let same : c ≡ a = e ∙ ap (λ (zs : List ℕ). a ++ zs) none ∙ append-nil a in
        not_below_itself a (subst (λ (zs : List ℕ). IsBelow a zs) same below))

    -- a place that begins with a front begins with no other
    pub one_front : (front behind other behind' : List ℕ) → Front front → Front other → front ++ behind ≡ other ++ behind' → front ≡ other
    one_front front behind other behind' is its e =
        elim (nested front behind other behind' e) [
          | longer more whole ↦
              let none : more ≡ [] = apart front more is (subst Front whole its) in
              sym (append-nil front) ∙ ap (λ (zs : List ℕ). front ++ zs) (sym none) ∙ sym whole
          | shorter more whole ↦
              let none : more ≡ [] = apart other more its (subst Front whole is) in
              whole ∙ ap (λ (zs : List ℕ). other ++ zs) none ∙ append-nil other
        ]

    -- where a front is open, at a list behind it
    pub at_back : (front from : List ℕ) → Front front → AtBacks Front Behind (front ++ from) front from
    at_back front from is = record {
      is = is;
      here = λ back _ not below. not (below_behind front back from below);
      back = λ back _ not below. not (behind_same front back from below);
      below = λ other back its _ under. made_below other back front from its is under;
      above = λ other back its _ over below. over_not (front ++ from) (other ++ back) (made_below front from other back is its over) below;
      first = λ other behind its e over. (let same = one_front front from other behind is its e in not_below_itself front (subst (λ (zs : List ℕ). IsBelow front zs) (sym same) over));
      fronts = λ other its over below.
          (let above = subst (λ (zs : List ℕ). IsBelow (front ++ from) zs) (append-nil other) (made_below front from other [] is its over) in
          over_not (front ++ from) other above below);
    }

    module _ (place front from : List ℕ) (at : AtBacks Front Behind place front from) where
      -- what isn't below the place stands behind this front, or behind a later one
      pub left_here : (other back : List ℕ) → Front other → Behind other back → (IsBelow (other ++ back) place → ⊥) → (front ≡ other) ⊎ IsBelow front other
      left_here other back its is not =
          elim (below_or_not other front) [
            | inl under ↦ absurd (not (at.below other back its is under))
            | inr up ↦ elim (below_or_not other (front ++ (0 ∷ []))) [
              | inl near ↦ inl (between_none front other up near)
              | inr far ↦ inr (not_below_after front other far)
            ]
          ]

      -- what stands next behind the front is the least
      pub takes_least : (back : List ℕ) → IsLeast from (Behind front) back → IsLeast place (IsPair Front Behind) (front ++ back)
      takes_least back least = record {
        has = record { front = front; back = back; is_front = at.is; is_back = least.has; whole = refl };
        from = at.back back least.has least.from;
        least = λ other made not below. lower other made not (subst (λ (zs : List ℕ). IsBelow zs (front ++ back)) made.whole below);
      }
        where
          lower : (other : List ℕ) → (made : IsPair Front Behind other) → (IsBelow other place → ⊥) → IsBelow (made.front ++ made.back) (front ++ back) → ⊥
          lower other made not below =
              let not' : IsBelow (made.front ++ made.back) place → ⊥ = subst (λ (zs : List ℕ). IsBelow zs place → ⊥) made.whole not in
              elim (left_here made.front made.back made.is_front made.is_back not') [
                | inl same ↦
                    let is : Behind front made.back = subst (λ (f : List ℕ). Behind f made.back) (sym same) made.is_back in
                    let not'' : IsBelow (front ++ made.back) place → ⊥ = subst (λ (f : List ℕ). IsBelow (f ++ made.back) place → ⊥) (sym same) not' in
                    let below' : IsBelow (front ++ made.back) (front ++ back) = subst (λ (f : List ℕ). IsBelow (f ++ made.back) (front ++ back)) (sym same) below in
                    least.least made.back is (at.here made.back is not'') (behind_same front made.back back below')
                | inr over ↦ over_not (front ++ back) (made.front ++ made.back) (made_below front back made.front made.back at.is made.is_front over) below
              ]

      -- from the list behind the front on the same is left
      pub same_backs : (IsBelow (front ++ from) place → ⊥) → SameFrom (IsPair Front Behind) place (front ++ from)
      same_backs up = record {
        on = λ xs pair not below. here pair (subst (λ (zs : List ℕ). IsBelow zs place → ⊥) pair.whole not) (subst (λ (zs : List ℕ). IsBelow zs (front ++ from)) pair.whole below);
        back = λ xs pair not below. not (below_what_isnt xs (front ++ from) place below up);
      }
        where
          here : {xs : List ℕ} → (pair : IsPair Front Behind xs) → (IsBelow (pair.front ++ pair.back) place → ⊥) → IsBelow (pair.front ++ pair.back) (front ++ from) → ⊥
          here pair not below =
              elim (left_here pair.front pair.back pair.is_front pair.is_back not) [
                | inl same ↦
                    let is : Behind front pair.back = subst (λ (f : List ℕ). Behind f pair.back) (sym same) pair.is_back in
                    let not' : IsBelow (front ++ pair.back) place → ⊥ = subst (λ (f : List ℕ). IsBelow (f ++ pair.back) place → ⊥) (sym same) not in
                    let below' : IsBelow (front ++ pair.back) (front ++ from) = subst (λ (f : List ℕ). IsBelow (f ++ pair.back) (front ++ from)) (sym same) below in
                    at.here pair.back is not' (behind_same front pair.back from below')
                | inr over ↦ over_not (front ++ from) (pair.front ++ pair.back) (made_below front from pair.front pair.back at.is pair.is_front over) below
              ]

      pub takes : (back : List ℕ) → AtBacks Front Behind ((front ++ back) ++ (0 ∷ [])) front (back ++ (0 ∷ []))
      takes back = subst (λ (zs : List ℕ). AtBacks Front Behind zs front (back ++ (0 ∷ []))) (sym (append_assoc front back (0 ∷ []))) (at_back front (back ++ (0 ∷ [])) at.is)

      -- nothing more stands behind the front
      pub closes : IsLeastFrom from (Behind front) None → AtFronts Front Behind place (front ++ (0 ∷ []))
      closes none = record {
        below = λ other back its is not under. elim (left_here other back its is not) [
          | inl same ↦
              let is' : Behind front back = subst (λ (f : List ℕ). Behind f back) (sym same) is in
              none back is' (at.here back is' (subst (λ (f : List ℕ). IsBelow (f ++ back) place → ⊥) (sym same) not))
          | inr over ↦ over_not_after other over under
        ];
        above = λ other back its is not _. at.above other back its is (not_below_after front other not);
        first = λ other behind its e over. at.first other behind its e (below_through front (front ++ (0 ∷ [])) other (below_after front) over);
        fronts = λ other its not. inl (λ below. at.fronts other its (not_below_after front other not) below);
      }
        where
          over_not_after : (other : List ℕ) → IsBelow front other → IsBelow other (front ++ (0 ∷ [])) → ⊥
          over_not_after other over under =
              (let same = between_none front other (λ below. over_not front other over below) under in
              not_below_itself front (subst (λ (zs : List ℕ). IsBelow front zs) (sym same) over))
