-- Places in the order of lists, and what remains of the lists that have P from one place on and from another.
--     same_skip        first numbers from a on are passed up to c
--     same_deeper      what begins with all numbers of a place goes on from a tail on
--     same_past        what begins with b is passed
--     none_left        nothing is left
--     least_of, from_same      the least list from either place
use Rattle.std.proofs.Common.{◌≡◌, ℕ, ◌+◌, ◌<◌, ◌≤◌, inl, inr, List, [], ◌∷◌, ◌++◌, length, Option, Some, None, refl, sym, ap, subst, arith, append_assoc, append-nil}
use Rattle.std.proofs.lemmas.Bool.{cases_lt}
use Rattle.mk_text.specs.Rising.{IsBelow, IsLeast, IsLeastFrom}
use Rattle.mk_text.proofs.ForCallers.{not_below_itself}
use Rattle.mk_walk.specs.Walk.{SameFrom}

-- ---- two places that begin alike

-- a list that begins as a place does and goes on with a number from one to below another
record Between (p : List ℕ) (from to : ℕ) (xs : List ℕ) : Type 0 where
  b : ℕ
  more : List ℕ
  whole : xs ≡ p ++ b ∷ more
  least : from ≤ b
  most : b < to

between : (p : List ℕ) (a c : ℕ) (xs : List ℕ) → (IsBelow xs (p ++ a ∷ []) → ⊥) → IsBelow xs (p ++ c ∷ []) → Between p a c xs
between [] a c [] not below = absurd (not tt)
between [] a c (b ∷ more) not (inl less) =
    elim (cases_lt b a) [
      | inl under ↦ absurd (not (inl under))
      | inr up ↦ record { b = b; more = more; whole = refl; least = up; most = less }
    ]
between [] a c (b ∷ more) not (inr h) = absurd h.1
between (y ∷ p) a c [] not below = absurd (not tt)
between (y ∷ p) a c (z ∷ zs) not (inl less) = absurd (not (inl less))
between (y ∷ p) a c (z ∷ zs) not (inr h) =
    let r = between p a c zs (λ below. not (inr (h.0, below))) h.1 in
    let same = r.whole in
    let first = h.0 in
    record { b = r.b; more = r.more; whole = cc; least = r.least; most = r.most }

raised : (p : List ℕ) (a c : ℕ) → a ≤ c → (xs : List ℕ) → IsBelow xs (p ++ a ∷ []) → IsBelow xs (p ++ c ∷ [])
raised [] a c up [] below = tt
raised [] a c up (x ∷ xs) (inl less) = inl (omega arith)
raised [] a c up (x ∷ xs) (inr h) = absurd h.1
raised (y ∷ p) a c up [] below = tt
raised (y ∷ p) a c up (x ∷ xs) (inl less) = inl less
raised (y ∷ p) a c up (x ∷ xs) (inr h) = inr (h.0, raised p a c up xs h.1)

-- ---- a place and what goes on behind it

-- a list that begins with all of a place, and goes on below a tail
record Goes (q tail : List ℕ) (xs : List ℕ) : Type 0 where
  rest : List ℕ
  whole : xs ≡ q ++ rest
  below : IsBelow rest tail

goes : (q tail : List ℕ) (xs : List ℕ) → (IsBelow xs q → ⊥) → IsBelow xs (q ++ tail) → Goes q tail xs
goes [] tail xs not below = record { rest = xs; whole = refl; below = below }
goes (y ∷ q) tail [] not below = absurd (not tt)
goes (y ∷ q) tail (x ∷ xs) not (inl less) = absurd (not (inl less))
goes (y ∷ q) tail (x ∷ xs) not (inr h) =
    let r = goes q tail xs (λ below. not (inr (h.0, below))) h.1 in
    let same = r.whole in
    let first = h.0 in
    record { rest = r.rest; whole = cc; below = r.below }

longer : (q tail xs : List ℕ) → IsBelow xs q → IsBelow xs (q ++ tail)
longer [] tail xs below = absurd below
longer (y ∷ q) tail [] below = tt
longer (y ∷ q) tail (x ∷ xs) (inl less) = inl less
longer (y ∷ q) tail (x ∷ xs) (inr h) = inr (h.0, longer q tail xs h.1)

-- ---- a place and the next number at its end

-- a list that begins with all of a place and with b, and isn't below a tail behind them
record Past (p : List ℕ) (b : ℕ) (tail xs : List ℕ) : Type 0 where
  rest : List ℕ
  whole : xs ≡ p ++ b ∷ rest
  from : IsBelow rest tail → ⊥

past : (p : List ℕ) (b : ℕ) (tail xs : List ℕ) → (IsBelow xs (p ++ b ∷ tail) → ⊥) → IsBelow xs (p ++ (b + 1) ∷ []) → Past p b tail xs
past [] b tail [] not below = absurd (not tt)
past [] b tail (x ∷ xs) not (inl less) =
    elim (cases_lt x b) [
      | inl under ↦ absurd (not (inl under))
      | inr up ↦
          let same : x ≡ b = omega arith in
          record { rest = xs; whole = ap (λ (n : ℕ). n ∷ xs) same; from = λ below. not (inr (same, below)) }
    ]
past [] b tail (x ∷ xs) not (inr h) = absurd h.1
past (y ∷ p) b tail [] not below = absurd (not tt)
past (y ∷ p) b tail (x ∷ xs) not (inl less) = absurd (not (inl less))
past (y ∷ p) b tail (x ∷ xs) not (inr h) =
    let r = past p b tail xs (λ below. not (inr (h.0, below))) h.1 in
    let same = r.whole in
    let first = h.0 in
    record { rest = r.rest; whole = cc; from = r.from }

before : (p : List ℕ) (b : ℕ) (tail xs : List ℕ) → IsBelow xs (p ++ b ∷ tail) → IsBelow xs (p ++ (b + 1) ∷ [])
before [] b tail [] below = tt
before [] b tail (x ∷ xs) (inl less) = inl (omega arith)
before [] b tail (x ∷ xs) (inr h) = inl (omega (arith, h.0))
before (y ∷ p) b tail [] below = tt
before (y ∷ p) b tail (x ∷ xs) (inl less) = inl less
before (y ∷ p) b tail (x ∷ xs) (inr h) = inr (h.0, before p b tail xs h.1)

-- ---- what remains

module _ (P : List ℕ → Type 0) where
  pub same_here : (s : List ℕ) → SameFrom P s s
  same_here s = record { on = λ xs has not. not; back = λ xs has not. not }

  pub same_through : (s t u : List ℕ) → SameFrom P s t → SameFrom P t u → SameFrom P s u
  same_through s t u first second = record {
    on = λ xs has not. second.on xs has (first.on xs has not);
    back = λ xs has not. first.back xs has (second.back xs has not);
  }

  pub same_turned : (s t : List ℕ) → SameFrom P s t → SameFrom P t s
  same_turned s t same = record { on = same.back; back = same.on }

  -- where no list goes on with a number from a to below c, they are passed
  pub same_skip : (p : List ℕ) (a c : ℕ) → a ≤ c → ((b : ℕ) (more : List ℕ) → a ≤ b → b < c → P (p ++ b ∷ more) → ⊥) → SameFrom P (p ++ a ∷ []) (p ++ c ∷ [])
  same_skip p a c up none = record {
    on = λ xs has not below. (let r = between p a c xs not below in none r.b r.more r.least r.most (subst P r.whole has));
    back = λ xs has not below. not (raised p a c up xs below);
  }

  -- where what goes on behind a place isn't below a tail, the tail may stand there
  pub same_deeper : (q tail : List ℕ) → ((rest : List ℕ) → P (q ++ rest) → IsBelow rest tail → ⊥) → SameFrom P q (q ++ tail)
  same_deeper q tail none = record {
    on = λ xs has not below. (let r = goes q tail xs not below in none r.rest (subst P r.whole has) r.below);
    back = λ xs has not below. not (longer q tail xs below);
  }

  -- where nothing goes on with b from a tail on, b is passed
  pub same_past : (p : List ℕ) (b : ℕ) (tail : List ℕ) → ((rest : List ℕ) → P (p ++ b ∷ rest) → (IsBelow rest tail → ⊥) → ⊥) → SameFrom P (p ++ b ∷ tail) (p ++ (b + 1) ∷ [])
  same_past p b tail none = record {
    on = λ xs has not below. (let r = past p b tail xs not below in none r.rest (subst P r.whole has) r.from);
    back = λ xs has not below. not (before p b tail xs below);
  }

  -- where all lists that have P are longer, and no number is 0, the first number behind a place is 1
  pub same_in : (n : ℕ) → ((xs : List ℕ) → P xs → length xs ≡ n) → ((q more : List ℕ) (b : ℕ) → length q < n → P (q ++ b ∷ more) → 1 ≤ b) → (q : List ℕ) → length q < n → SameFrom P q (q ++ 1 ∷ [])
  same_in n long some q short = same_deeper q (1 ∷ []) none
    where
      none : (rest : List ℕ) → P (q ++ rest) → IsBelow rest (1 ∷ []) → ⊥
      none [] has below = omega (arith, long (q ++ []) has, ap (length {A = ℕ}) (append-nil q))
      none (b ∷ more) has (inl less) = omega (arith, some q more b short has)
      none (b ∷ more) has (inr h) = h.1

  -- where nothing goes on behind a last number from a on, that number is passed
  pub same_back : (p : List ℕ) (last a : ℕ) → ((b : ℕ) (more : List ℕ) → a ≤ b → P ((p ++ last ∷ []) ++ b ∷ more) → ⊥) → SameFrom P ((p ++ last ∷ []) ++ a ∷ []) (p ++ (last + 1) ∷ [])
  same_back p last a none =
      subst (λ (place : List ℕ). SameFrom P place (p ++ (last + 1) ∷ [])) (sym (append_assoc p (last ∷ []) (a ∷ [])))
      (same_past p last (a ∷ []) behind)
    where
      behind : (rest : List ℕ) → P (p ++ last ∷ rest) → (IsBelow rest (a ∷ []) → ⊥) → ⊥
      behind [] has not = not tt
      behind (b ∷ more) has not =
          elim (cases_lt b a) [
            | inl under ↦ not (inl under)
            | inr up ↦ none b more up (subst P (sym (append_assoc p (last ∷ []) (b ∷ more))) has)
          ]

  -- where nothing begins with a number from a on, nothing is left
  pub none_left : (a : ℕ) → (P [] → ⊥) → ((b : ℕ) (more : List ℕ) → a ≤ b → P (b ∷ more) → ⊥) → IsLeastFrom (a ∷ []) P None
  none_left a some none [] has not = some has
  none_left a some none (b ∷ more) has not =
      elim (cases_lt b a) [
        | inl under ↦ not (inl under)
        | inr up ↦ none b more up has
      ]

  -- a list that has P is the least from where what remains is what remains from itself on
  pub least_of : (s xs : List ℕ) → SameFrom P s xs → P xs → IsLeast s P xs
  least_of s xs same has = record {
    has = has;
    from = same.back xs has (not_below_itself xs);
    least = λ other has' not. same.on other has' not;
  }

  -- the least from one place is the least from the other
  pub from_same : (s t : List ℕ) (found : Option (List ℕ)) → SameFrom P s t → IsLeastFrom t P found → IsLeastFrom s P found
  from_same s t None same none = λ other has not. none other has (same.on other has not)
  from_same s t (Some found) same least = record {
    has = least.has;
    from = same.back found least.has least.from;
    least = λ other has not. least.least other has (same.on other has not);
  }
