-- Rising lists with rising lists behind them rise.
use Rattle.std.proofs.Common.{◌≡◌, ℕ, inl, inr, List, [], ◌∷◌, ◌++◌, map, refl, sym, ap, subst, ◌∙◌}
use Rattle.std.proofs.lemmas.List.{append-nil}
use Rattle.mk_text.specs.Rising.{IsBelow, Each, Rises, Holds, joined_with, IsJoined, NoneBeginsAnother, JoinedListsRise}
use Rattle.mk_text.proofs.RisingLemmas.{each_holds, holds_each, each_mapped, holds_append, holds_either, holds_mapped, holds_before_map, not_below_itself, rises_append, rises_mapped}

-- ---- the order

-- behind the same list
pub below_behind : (a b c : List ℕ) → IsBelow b c → IsBelow (a ++ b) (a ++ c)
below_behind [] b c below = below
below_behind (x ∷ a) b c below = inr (refl, below_behind a b c below)

-- behind a lower list that doesn't begin the higher one
pub below_joined : (a c b d : List ℕ) → IsBelow a c → ((more : List ℕ) → c ≡ a ++ more → ⊥) → IsBelow (a ++ b) (c ++ d)
below_joined a [] b d below apart = absurd below
below_joined [] (y ∷ c) b d below apart = absurd (apart (y ∷ c) refl)
below_joined (x ∷ a) (y ∷ c) b d (inl less) apart = inl less
below_joined (x ∷ a) (y ∷ c) b d (inr h) apart =
    inr (h.0, below_joined a c b d h.1 (λ more e. apart more (ap (λ (z : ℕ). z ∷ c) (sym h.0) ∙ ap (λ (zs : List ℕ). x ∷ zs) e)))

-- ---- members

module _ (behind : List ℕ → List (List ℕ)) where
  -- what is held is one of the lists with one that stands behind it
  is_joined : (lists : List (List ℕ)) (xs : List ℕ) → Holds (joined_with behind lists) xs → IsJoined behind lists xs
  is_joined [] xs is = absurd is
  is_joined (a ∷ lists) xs is =
      elim (holds_either (map (λ b. a ++ b) (behind a)) (joined_with behind lists) xs is) [
        | inl here ↦
            let m = holds_before_map (λ b. a ++ b) (behind a) xs here in
            record { front = a; back = m.0; is_front = inl refl; is_back = m.2; whole = sym m.1 }
        | inr later ↦
            let m = is_joined lists xs later in
            record { front = m.front; back = m.back; is_front = inr m.is_front; is_back = m.is_back; whole = m.whole }
      ]

  -- and each such is held
  holds_joined : (lists : List (List ℕ)) (front back : List ℕ) → Holds lists front → Holds (behind front) back → Holds (joined_with behind lists) (front ++ back)
  holds_joined [] front back is_front is_back = absurd is_front
  holds_joined (a ∷ lists) front back (inl same) is_back =
      let P : List ℕ → Type 0 = λ x. Holds (joined_with behind (a ∷ lists)) (x ++ back) in
      let here : Holds (behind a) back = subst (λ (x : List ℕ). Holds (behind x) back) (sym same) is_back in
      subst P same (holds_append (map (λ b. a ++ b) (behind a)) (joined_with behind lists) (a ++ back) (inl (holds_mapped (λ b. a ++ b) (behind a) back here)))
  holds_joined (a ∷ lists) front back (inr later) is_back =
      holds_append (map (λ b. a ++ b) (behind a)) (joined_with behind lists) (front ++ back) (inr (holds_joined lists front back later is_back))

  -- ---- in order

  -- those with the first of the lists stand below the others
  first_below : (a : List ℕ) (lists : List (List ℕ)) → Each (λ c. IsBelow a c) lists → NoneBeginsAnother (a ∷ lists) → (b xs : List ℕ) → IsJoined behind lists xs → IsBelow (a ++ b) xs
  first_below a lists above apart b xs j =
      let below : IsBelow a j.front = each_holds (λ c. IsBelow a c) lists j.front above j.is_front in
      subst (λ (x : List ℕ). IsBelow (a ++ b) x) (sym j.whole)
      (below_joined a j.front b j.back below
      (λ more e.
      let held : Holds (a ∷ lists) (a ++ more) = inr (subst (λ (x : List ℕ). Holds lists x) e j.is_front) in
      let same : j.front ≡ a = e ∙ ap (λ (x : List ℕ). a ++ x) (apart a more (inl refl) held) ∙ append-nil a in
      not_below_itself a (subst (λ (x : List ℕ). IsBelow a x) same below)))

  -- all rise
  joined_rise : (lists : List (List ℕ)) → Rises lists → NoneBeginsAnother lists → ((a : List ℕ) → Holds lists a → Rises (behind a)) → Rises (joined_with behind lists)
  joined_rise [] rises apart each = tt
  joined_rise (a ∷ lists) rises apart each =
      rises_append (map (λ b. a ++ b) (behind a)) (joined_with behind lists)
      (rises_mapped (λ b. a ++ b) (below_behind a) (behind a) (each a (inl refl)))
      (joined_rise lists rises.1 (λ front more first second. apart front more (inr first) (inr second)) (λ b is. each b (inr is)))
      (each_mapped (λ x. Each (λ y. IsBelow x y) (joined_with behind lists)) (λ b. a ++ b) (behind a)
      (λ b _. holds_each (λ y. IsBelow (a ++ b) y) (joined_with behind lists) (λ y is. first_below a lists rises.0 apart b y (is_joined lists y is))))

-- lists with others behind them rise, and are all
pub joined_lists_rise : JoinedListsRise
joined_lists_rise behind lists rises apart each = record {
  rises = joined_rise behind lists rises apart each;
  each = is_joined behind lists;
  all = λ xs j. subst (λ (x : List ℕ). Holds (joined_with behind lists) x) (sym j.whole) (holds_joined behind lists j.front j.back j.is_front j.is_back);
}
