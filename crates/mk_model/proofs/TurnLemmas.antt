-- Turns: the order of what they come to, what is left behind them, and what they pay.
--     not_below_through                  the order through a list that isn't below
--     not_below_front, below_more        a list with others behind it
--     below_next, not_below_at           lists that go on with different numbers
--     same_to_between, same_from_between what is left from a place between two
--     pays_visit, pays_end               what is reached is paid for
use Rattle.std.proofs.Common.{◌≡◌, ℕ, ◌<◌, ◌≤◌, inl, inr, List, [], ◌∷◌, ◌++◌, refl, subst, arith}
use Rattle.std.proofs.lemmas.Bool.{cases_eq}
use Rattle.mk_text.specs.Rising.{IsBelow}
use Rattle.mk_text.proofs.ForCallers.{below_what_isnt}
use Rattle.mk_model.specs.Nodes.{Pays, SameFrom}

-- ---- the order

-- what isn't below a list that isn't below another isn't below that
pub not_below_through : (xs ys zs : List ℕ) → (IsBelow xs ys → ⊥) → (IsBelow ys zs → ⊥) → IsBelow xs zs → ⊥
not_below_through xs ys zs not over below = not (below_what_isnt xs ys zs below over)

-- a list with others behind it isn't below it
pub not_below_front : (xs more : List ℕ) → IsBelow (xs ++ more) xs → ⊥
not_below_front [] more below = below
not_below_front (x ∷ xs) more (inl less) = absurd (omega arith)
not_below_front (x ∷ xs) more (inr h) = not_below_front xs more h.1

-- a list is below what goes on behind it
pub below_more : (xs : List ℕ) (x : ℕ) (more : List ℕ) → IsBelow xs (xs ++ x ∷ more)
below_more [] x more = tt
below_more (y ∷ xs) x more = inr (refl, below_more xs x more)

-- what goes on with a lower number is below
pub below_next : (p : List ℕ) (a c : ℕ) (tail more : List ℕ) → a < c → IsBelow (p ++ a ∷ tail) (p ++ c ∷ more)
below_next [] a c tail more less = inl less
below_next (x ∷ p) a c tail more less = inr (refl, below_next p a c tail more less)

-- what goes on with no lower number isn't
pub not_below_at : (p : List ℕ) (a c : ℕ) → c ≤ a → IsBelow (p ++ a ∷ []) (p ++ c ∷ []) → ⊥
not_below_at [] a c up (inl less) = omega (arith, up, less)
not_below_at [] a c up (inr h) = h.1
not_below_at (x ∷ p) a c up (inl less) = absurd (omega arith)
not_below_at (x ∷ p) a c up (inr h) = not_below_at p a c up h.1

-- ---- what is left from a place between two

module _ (P : List ℕ → Type 0) (s t : List ℕ) (same : SameFrom P s t) (q : List ℕ) (from : IsBelow q s → ⊥) (to : IsBelow t q → ⊥) where
  up_to : (xs : List ℕ) → IsBelow xs q → IsBelow xs t
  up_to xs below = below_what_isnt xs t q below to

  pub same_to_between : SameFrom P s q
  same_to_between = record {
    on = λ xs has not below. same.on xs has not (up_to xs below);
    back = λ xs has not below. not (below_what_isnt xs q s below from);
  }

  pub same_from_between : SameFrom P q t
  same_from_between = record {
    on = λ xs has not below. same.on xs has (λ under. not (below_what_isnt xs q s under from)) below;
    back = λ xs has not below. not (up_to xs below);
  }

-- ---- what is paid

module _ (P : List ℕ → Type 0) (place from node to : List ℕ) (debt : ℕ) (has : P node) (up : IsBelow node from → ⊥)
    (on : IsBelow from place → ⊥) (owed : debt ≡ 0 → IsBelow place from) (behind : IsBelow to node → ⊥) where
  not_back : IsBelow to place → ⊥
  not_back below = not_below_through to node place behind (not_below_through node from place up on) below

  one_node : IsBelow place node → Pays P place debt to 0
  one_node above = record {
    passed = 1;
    stand = record {
      nodes = node ∷ [];
      rise = (tt, tt);
      each = λ xs held. elim held [ inl same ↦ subst P same has | inr none ↦ absurd none ];
      above = λ xs held. elim held [ inl same ↦ subst (IsBelow place) same above | inr none ↦ absurd none ];
      not_above = λ xs held. elim held [ inl same ↦ subst (λ (ys : List ℕ). IsBelow to ys → ⊥) same behind | inr none ↦ absurd none ];
      many = refl;
    };
    up = not_back;
    pays = omega arith;
  }

  no_node : 1 ≤ debt → Pays P place debt to 0
  no_node some = record {
    passed = 0;
    stand = record { nodes = []; rise = tt; each = λ xs held. absurd held; above = λ xs held. absurd held; not_above = λ xs held. absurd held; many = refl };
    up = not_back;
    pays = omega (arith, some);
  }

  -- a node that isn't below what is left is above the place, or owed for
  pub pays_visit : Pays P place debt to 0
  pays_visit =
      elim (cases_eq debt 0) [
        | inl none ↦ one_node (below_what_isnt place node from (owed none) up)
        | inr some ↦ no_node (omega (arith, some))
      ]

-- what is owed for where there is nothing to come to
pub pays_end : (P : List ℕ → Type 0) (debt : ℕ) → debt ≡ 1 → Pays P [] debt (0 ∷ []) 0
pays_end P debt is = record {
  passed = 0;
  stand = record { nodes = []; rise = tt; each = λ xs held. absurd held; above = λ xs held. absurd held; not_above = λ xs held. absurd held; many = refl };
  up = λ below. below;
  pays = omega (arith, is);
}
