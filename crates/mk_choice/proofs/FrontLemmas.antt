-- The lists from which what is left goes on, in order.
--     goes_on               what lies between numbers with a number behind them and the same with a greater one
--     same_through, least_through, none_through      what is left from one list on, and from a second and a third
--     past_up, past_same    past a number behind which nothing is
--     back_up, back_same    past all that goes on behind the last number
use Rattle.std.proofs.Common.{◌≡◌, ℕ, ◌+◌, ◌<◌, ◌≤◌, inl, inr, List, [], ◌∷◌, ◌++◌, None, refl, ap, subst, ◌∙◌, arith, append_assoc}
use Rattle.mk_text.specs.Rising.{IsBelow, IsLeast, IsLeastFrom}
use Rattle.mk_text.proofs.ForCallers.{below_through, not_below_itself}
use Rattle.mk_model.specs.Nodes.{SameFrom}
use Rattle.mk_model.proofs.ForCallers.{below_next}

-- ---- what lies between

-- a list that goes on behind some numbers with a number from a first one on and below a second, and,
-- where it is the first, with no less than a tail
pub record GoesOn (numbers : List ℕ) (a c : ℕ) (tail xs : List ℕ) : Type 0 where
  pub number : ℕ
  pub more : List ℕ
  pub whole : xs ≡ numbers ++ number ∷ more
  pub least : a ≤ number
  pub most : number < c
  pub over : number ≡ a → IsBelow more tail → ⊥

-- what isn't below the numbers with one number behind them, and is below them with another
pub goes_on : (numbers : List ℕ) (a c : ℕ) (tail xs : List ℕ) → (IsBelow xs (numbers ++ a ∷ tail) → ⊥) → IsBelow xs (numbers ++ c ∷ []) → GoesOn numbers a c tail xs
goes_on [] a c tail [] not below = absurd (not tt)
goes_on [] a c tail (x ∷ xs) not (inl less) = record {
  number = x;
  more = xs;
  whole = refl;
  least = omega (arith, λ (under : x < a). not (inl under));
  most = less;
  over = λ is below. not (inr (is, below));
}
goes_on [] a c tail (x ∷ xs) not (inr h) = absurd h.1
goes_on (y ∷ numbers) a c tail [] not below = absurd (not tt)
goes_on (y ∷ numbers) a c tail (x ∷ xs) not (inl less) = absurd (not (inl less))
goes_on (y ∷ numbers) a c tail (x ∷ xs) not (inr h) =
    let behind = goes_on numbers a c tail xs (λ below. not (inr (h.0, below))) h.1 in
    let whole = behind.whole in
    let first = h.0 in
    record { number = behind.number; more = behind.more; whole = cc; least = behind.least; most = behind.most; over = behind.over }

-- ---- from one list through another

module _ (P : List ℕ → Type 0) where
  pub same_here : (here : List ℕ) → SameFrom P here here
  same_here here = record { on = λ xs has not. not; back = λ xs has not. not }

  pub same_through : (here through there : List ℕ) → SameFrom P here through → SameFrom P through there → SameFrom P here there
  same_through here through there first last = record {
    on = λ xs has not. last.on xs has (first.on xs has not);
    back = λ xs has not. first.back xs has (last.back xs has not);
  }

  -- what is least from the second list on is least from the first on
  pub least_through : (here there found : List ℕ) → SameFrom P here there → IsLeast there P found → IsLeast here P found
  least_through here there found same least = record {
    has = least.has;
    from = same.back found least.has least.from;
    least = λ other has not. least.least other has (same.on other has not);
  }

  pub none_through : (here there : List ℕ) → SameFrom P here there → IsLeastFrom there P None → IsLeastFrom here P None
  none_through here there same none other has not = none other has (same.on other has not)

  -- what has P is the least from itself on
  pub least_itself : (xs : List ℕ) → P xs → IsLeast xs P xs
  least_itself xs has = record { has = has; from = not_below_itself xs; least = λ other has' not. not }

-- what has a property that implies another
pub same_of : (P Q : List ℕ → Type 0) → ((xs : List ℕ) → Q xs → P xs) → (here there : List ℕ) → SameFrom P here there → SameFrom Q here there
same_of P Q to here there same = record { on = λ xs has. same.on xs (to xs has); back = λ xs has. same.back xs (to xs has) }

-- ---- past a number

-- numbers with a greater number behind them aren't below
pub past_up : (numbers : List ℕ) (c : ℕ) (tail : List ℕ) → IsBelow (numbers ++ (c + 1) ∷ []) (numbers ++ c ∷ tail) → ⊥
past_up numbers c tail below =
    not_below_itself (numbers ++ c ∷ tail) (below_through (numbers ++ c ∷ tail) (numbers ++ (c + 1) ∷ []) (numbers ++ c ∷ tail) (below_next numbers c (c + 1) tail [] (omega arith)) below)

module _ (P : List ℕ → Type 0) (numbers : List ℕ) (c : ℕ) (tail : List ℕ) (none : (more : List ℕ) → P (numbers ++ c ∷ more) → (IsBelow more tail → ⊥) → ⊥) where
  -- where nothing from the tail on stands behind a number, what is left goes on above it
  pub past_same : SameFrom P (numbers ++ c ∷ tail) (numbers ++ (c + 1) ∷ [])
  past_same = record {
    on = λ xs has not below. between xs has not below;
    back = λ xs has not below.
        not (below_through xs (numbers ++ c ∷ tail) (numbers ++ (c + 1) ∷ []) below (below_next numbers c (c + 1) tail [] (omega arith)));
  }
    where
      between : (xs : List ℕ) → P xs → (IsBelow xs (numbers ++ c ∷ tail) → ⊥) → IsBelow xs (numbers ++ (c + 1) ∷ []) → ⊥
      between xs has not below =
          let behind = goes_on numbers c (c + 1) tail xs not below in
          let number_is : behind.number ≡ c = omega (arith, behind.least, behind.most) in
          let whole : xs ≡ numbers ++ c ∷ behind.more = behind.whole ∙ ap (λ (n : ℕ). numbers ++ n ∷ behind.more) number_is in
          none behind.more (subst P whole has) (behind.over number_is)

-- ---- back by one number

-- what goes on behind numbers that end with a last one
pub behind_last : (numbers : List ℕ) (last above : ℕ) → (numbers ++ last ∷ []) ++ (above + 1) ∷ [] ≡ numbers ++ last ∷ (above + 1) ∷ []
behind_last numbers last above = append_assoc numbers (last ∷ []) ((above + 1) ∷ [])
