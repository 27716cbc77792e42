-- For queries on literals: lists of few items, and bonds that join no pair twice.
--     all_1 .. all_4, all_same      each of a few items, of so many alike
--     pairs_none, pairs_one, pairs_two     each two of a few
--     once_by                       bonds of which no two join a pair name each pair by one place
use Rattle.std.proofs.Common.{◌≡◌, ℕ, zero, suc, ◌<◌, inl, inr, List, [], ◌∷◌, replicate, arith, All}
use Rattle.std.specs.Prelude.{AllPairs}
use Rattle.std.proofs.lemmas.Bool.{cases_eq, cases_lt}
use Rattle.std.proofs.lemmas.List.Elements.{All-cons, All-nil}
use Rattle.std.proofs.lemmas.List.Kept.{AllPairs-cons}
use Rattle.mk_model.specs.declared.edge.Edge.{Edge}
use Rattle.mk_model.specs.Edges.{HasEnds, Joins}
use Rattle.mk_model.proofs.PlaceLemmas.{place_is, place_within}

-- ---- lists

pub all_same : {X : Type 0} (P : X → Type 0) (x : X) (n : ℕ) → P x → All P (replicate n x)
all_same P x zero here = All-nil P
all_same P x (suc n) here = All-cons P x (replicate n x) here (all_same P x n here)

pub all_1 : {X : Type 0} (P : X → Type 0) (x : X) → P x → All P (x ∷ [])
all_1 P x a = All-cons P x [] a (All-nil P)

pub all_2 : {X : Type 0} (P : X → Type 0) (x y : X) → P x → P y → All P (x ∷ y ∷ [])
all_2 P x y a b = All-cons P x (y ∷ []) a (all_1 P y b)

pub all_3 : {X : Type 0} (P : X → Type 0) (x y z : X) → P x → P y → P z → All P (x ∷ y ∷ z ∷ [])
all_3 P x y z a b c = All-cons P x (y ∷ z ∷ []) a (all_2 P y z b c)

pub all_4 : {X : Type 0} (P : X → Type 0) (x y z w : X) → P x → P y → P z → P w → All P (x ∷ y ∷ z ∷ w ∷ [])
all_4 P x y z w a b c d = All-cons P x (y ∷ z ∷ w ∷ []) a (all_3 P y z w b c d)

pub pairs_none : {X : Type 0} (R : X → X → Type 0) → AllPairs R []
pairs_none R i j d less below = absurd (omega (arith, below))

pub pairs_one : {X : Type 0} (R : X → X → Type 0) (x : X) → AllPairs R (x ∷ [])
pairs_one R x = AllPairs-cons R x [] (All-nil (R x)) (pairs_none R)

pub pairs_two : {X : Type 0} (R : X → X → Type 0) (x y : X) → R x y → AllPairs R (x ∷ y ∷ [])
pairs_two R x y r = AllPairs-cons R x (y ∷ []) (all_1 (R x) y r) (pairs_one R y)

-- ---- no pair twice

-- two bonds join no pair both
abbrev pub NoPair : Edge → Edge → Type 0
NoPair e f = (x y : ℕ) → HasEnds e x y → HasEnds f x y → ⊥

module _ (edges : List Edge) (apart : AllPairs NoPair edges) where
  meet : (b c x y : ℕ) → Joins edges b x y → Joins edges c x y → b < c → ⊥
  meet b c x y j k less =
      let d : Edge = record { first = 0; second = 0; kind = 0 } in
      apart b c d less (place_within edges c k.edge k.at) x y
      (rw (place_is edges b j.edge d j.at) j.ends) (rw (place_is edges c k.edge d k.at) k.ends)

  pub once_by : (b c x y : ℕ) → Joins edges b x y → Joins edges c x y → b ≡ c
  once_by b c x y j k =
      elim (cases_eq b c) [
        | inl same ↦ same
        | inr other ↦ elim (cases_lt b c) [
          | inl less ↦ absurd (meet b c x y j k less)
          | inr more ↦ absurd (meet c b x y k j (omega (arith, more, other)))
        ]
      ]

-- a single bond between x and y
unfoldable pub edge : ℕ → ℕ → Edge
edge x y = record { first = x; second = y; kind = 1 }
