-- Ways over bonds: one behind another, and back.
--     Linked bonds without x y      some way leads from x to y, not over the bond `without`
use Rattle.std.proofs.Common.{◌≡◌, ◌≢◌, ℕ, Bool, List, [], ◌∷◌, ◌++◌, Some, refl, ap, sym, ◌∙◌, subst, inl, inr, ⊎_elim}
use Rattle.std.specs.Prelude.{◌⊎◌}
use Rattle.mk_model.specs.declared.edge.Edge.{Edge}
use Rattle.mk_model.specs.Edges.{Joins}
use Rattle.mk_model.specs.Rings.{Step, IsWay, IsRingBond}

-- some way leads from x to y, not over the bond `without`
pub record Linked (bonds : List Edge) (without x y : ℕ) : Type 0 where
  pub way : List Step
  pub leads : IsWay bonds without x way y

-- a bond joins its ends in either order
pub joins_back : {bonds : List Edge} {b x y : ℕ} → Joins bonds b x y → Joins bonds b y x
joins_back j = record { edge = j.edge; at = j.at; ends = ⊎_elim (λ e. inr e) (λ e. inl e) j.ends }

-- one bond joins one pair alone
pub same_ends : {bonds : List Edge} {b x y u v : ℕ} → Joins bonds b x y → Joins bonds b u v → ((x ≡ u) × (y ≡ v)) ⊎ ((x ≡ v) × (y ≡ u))
same_ends {bonds} {b} {x} {y} {u} {v} j k =
    let one : Some j.edge ≡ Some k.edge = sym j.at ∙ k.at in
    let same : j.edge ≡ k.edge = cc in
    let first : j.edge.first ≡ k.edge.first = ap (λ e. e.first) same in
    let second : j.edge.second ≡ k.edge.second = ap (λ e. e.second) same in
    ⊎_elim
    (λ p. ⊎_elim
    (λ q. inl (sym p.0 ∙ first ∙ q.0, sym p.1 ∙ second ∙ q.1))
    (λ q. inr (sym p.0 ∙ first ∙ q.0, sym p.1 ∙ second ∙ q.1))
    k.ends)
    (λ p. ⊎_elim
    (λ q. inr (sym p.1 ∙ second ∙ q.1, sym p.0 ∙ first ∙ q.0))
    (λ q. inl (sym p.1 ∙ second ∙ q.1, sym p.0 ∙ first ∙ q.0))
    k.ends)
    j.ends

-- an atom is linked with itself
pub linked_here : (bonds : List Edge) (without x : ℕ) → Linked bonds without x x
linked_here bonds without x = record { way = []; leads = refl }

-- a bond links its ends
pub linked_by : {bonds : List Edge} {b x y : ℕ} (without : ℕ) → Joins bonds b x y → b ≢ without → Linked bonds without x y
linked_by {bonds} {b} {x} {y} without j other = record { way = record { bond = b; to = y } ∷ []; leads = (j, other, refl) }

-- one way behind another
both_ways : (bonds : List Edge) (without x y z : ℕ) (first second : List Step) → IsWay bonds without x first y → IsWay bonds without y second z → IsWay bonds without x (first ++ second) z
both_ways bonds without x y z [] second p q = let P : ℕ → Type 0 = λ n. IsWay bonds without n second z in subst P (sym p) q
both_ways bonds without x y z (step ∷ first) second p q = (p.0, p.1, both_ways bonds without step.to y z first second p.2 q)

pub linked_on : {bonds : List Edge} {without x y z : ℕ} → Linked bonds without x y → Linked bonds without y z → Linked bonds without x z
linked_on {bonds} {without} {x} {y} {z} p q = record { way = p.way ++ q.way; leads = both_ways bonds without x y z p.way q.way p.leads q.leads }

-- a way back
way_back : (bonds : List Edge) (without x y : ℕ) (way : List Step) → IsWay bonds without x way y → Linked bonds without y x
way_back bonds without x y [] p = let P : ℕ → Type 0 = λ n. Linked bonds without n x in subst P p (linked_here bonds without x)
way_back bonds without x y (step ∷ way) p =
    linked_on (way_back bonds without step.to y way p.2) (linked_by without (joins_back p.0) p.1)

pub linked_back : {bonds : List Edge} {without x y : ℕ} → Linked bonds without x y → Linked bonds without y x
linked_back {bonds} {without} {x} {y} p = way_back bonds without x y p.way p.leads

-- a bond whose ends are linked without it is a ring bond
pub IsRingBond-linked : {bonds : List Edge} {b x y : ℕ} → Joins bonds b x y → Linked bonds b x y → IsRingBond bonds b
IsRingBond-linked {bonds} {b} {x} {y} j l =
    ⊎_elim
    (λ e.
    let from : x ≡ j.edge.first = sym e.0 in
    let to : y ≡ j.edge.second = sym e.1 in
    let P : ℕ → Type 0 = λ n. IsWay bonds b n l.way j.edge.second in
    let Q : ℕ → Type 0 = λ n. IsWay bonds b x l.way n in
    record { edge = j.edge; at = j.at; way = l.way; around = subst P from (subst Q to l.leads) })
    (λ e.
    let back = linked_back l in
    let from : y ≡ j.edge.first = sym e.0 in
    let to : x ≡ j.edge.second = sym e.1 in
    let P : ℕ → Type 0 = λ n. IsWay bonds b n back.way j.edge.second in
    let Q : ℕ → Type 0 = λ n. IsWay bonds b y back.way n in
    record { edge = j.edge; at = j.at; way = back.way; around = subst P from (subst Q to back.leads) })
    j.ends

-- what no other bond changes is the same at both ends of a way
pub same_along : (bonds : List Edge) (without : ℕ) (set : ℕ → Bool)
    → ((b x y : ℕ) → Joins bonds b x y → b ≢ without → set x ≡ set y) → (x y : ℕ) (way : List Step)
    → IsWay bonds without x way y → set x ≡ set y
same_along bonds without set stays x y [] p = ap set p
same_along bonds without set stays x y (step ∷ way) p = stays step.bond x step.to p.0 p.1 ∙ same_along bonds without set stays step.to y way p.2
