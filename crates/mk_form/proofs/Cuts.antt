-- One list cut at two places.
use Rattle.std.proofs.Common.{◌≡◌, suc, List, [], ◌∷◌, ◌++◌, length, refl, sym, ap, ◌∙◌, append_assoc, inl, inr, arith}
use Rattle.std.proofs.lemmas.List.{length-append}
use Rattle.std.specs.Prelude.{◌⊎◌}

-- Where a and front begin one list, a ends no later than front.
pub record Before {L : Type 0} (a b front more : List L) : Type 0 where
  pub between : List L
  pub front_is : front ≡ a ++ between
  pub back_is : b ≡ between ++ more

-- Where a and front begin one list, a goes past front.
pub record Past {L : Type 0} (a b front : List L) (l : L) (more : List L) : Type 0 where
  pub between : List L
  pub front_is : a ≡ front ++ l ∷ between
  pub more_is : more ≡ between ++ b

-- one of the two, where a line l stands behind front
pub split_at : {L : Type 0} (a b front : List L) (l : L) (more : List L) → a ++ b ≡ front ++ l ∷ more → Before a b front (l ∷ more) ⊎ Past a b front l more
split_at [] b front l more e = inl (record { between = front; front_is = refl; back_is = e })
split_at (x ∷ a) b [] l more e = inr (record { between = a; front_is = cc; more_is = cc })
split_at (x ∷ a) b (y ∷ front) l more e =
    let tails : a ++ b ≡ front ++ l ∷ more = cc in
    let heads : x ≡ y = cc in
    elim (split_at a b front l more tails) [
      | inl h ↦ inl (record { between = h.between; front_is = rw (heads, h.front_is) refl; back_is = h.back_is })
      | inr h ↦ inr (record { between = h.between; front_is = rw (heads, h.front_is) refl; more_is = h.more_is })
    ]

-- one of the two orders, where anything stands behind front
pub split_two : {L : Type 0} (a b front more : List L) → a ++ b ≡ front ++ more → Before a b front more ⊎ Before front more a b
split_two [] b front more e = inl (record { between = front; front_is = refl; back_is = e })
split_two (x ∷ a) b [] more e = inr (record { between = x ∷ a; front_is = refl; back_is = sym e })
split_two (x ∷ a) b (y ∷ front) more e =
    let tails : a ++ b ≡ front ++ more = cc in
    let heads : x ≡ y = cc in
    elim (split_two a b front more tails) [
      | inl h ↦ inl (record { between = h.between; front_is = rw (heads, h.front_is) refl; back_is = h.back_is })
      | inr h ↦ inr (record { between = h.between; front_is = rw (heads, h.front_is) refl; back_is = h.back_is })
    ]

-- a list with a line in it has lines
pub no_line : {L : Type 0} (front : List L) (l : L) (rest : List L) → front ++ l ∷ rest ≡ [] → ⊥
no_line [] l rest e = cc
no_line (x ∷ front) l rest e = cc

-- a list that begins an empty one is empty
pub no_front : {L : Type 0} (front more : List L) → front ++ more ≡ [] → front ≡ []
no_front [] more e = refl
no_front (x ∷ front) more e = absurd cc

-- a line in a list of one line is that line
pub one_line : {L : Type 0} (front : List L) (l m : L) (more : List L) → front ++ l ∷ more ≡ m ∷ [] → (front ≡ []) × (l ≡ m) × (more ≡ [])
one_line [] l m more e = (refl, cc, cc)
one_line (x ∷ front) l m more e = absurd (no_line front l more (let k : front ++ l ∷ more ≡ [] = cc in k))

-- a list with its first part cut in two
pub regroup : {L : Type 0} (front a b rest : List L) → front ≡ a ++ b → front ++ rest ≡ a ++ (b ++ rest)
regroup front a b rest e = ap (λ x. x ++ rest) e ∙ append_assoc a b rest

-- lines with a line before them are not those lines
pub too_long : {L : Type 0} (front rest : List L) (l : L) → rest ≡ front ++ l ∷ rest → ⊥
too_long front rest l e = let k : length (l ∷ rest) ≡ suc (length rest) = refl in omega (arith, ap length e, length-append front (l ∷ rest))
