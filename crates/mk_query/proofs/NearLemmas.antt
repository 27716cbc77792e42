-- The neighbours of each atom, noted bond by bond.
use Rattle.std.proofs.Common.{◌≡◌, ◌≢◌, ℕ, Bool, true, false, cond, eqb, List, [], ◌∷◌, ◌++◌, refl, ap, ◌∙◌, arith}
use Rattle.std.proofs.lemmas.Bool.{ne_eqb}
use Rattle.std.proofs.lemmas.Bool.Decides.{nat_tests}
use Rattle.std.proofs.lemmas.List.{map_push}
use Rattle.mk_model.specs.declared.template.QueryBond.{QueryBond}
use Rattle.mk_tables.specs.declared.raw.RawBond.{RawBond}
use Rattle.mk_query.specs.declared.drawn.Near.{Near}
use Rattle.mk_query.specs.Drawn.{neighbours_at, query_bond, query_bonds}
use Rattle.mk_query.specs.Marks.{AreMore, IsNear}
use Rattle.mk_query.proofs.MarkLemmas.{TellsOn, more-both, more-same}

-- what a bond says at atom x
abbrev said : ℕ → ℕ → ℕ → List ℕ
said first second x = cond (eqb first x) (second ∷ []) (cond (eqb second x) (first ∷ []) [])

-- a bond whose ends are one atom
pub bond-once : (bond : RawBond) (first second : ℕ) (old new : List Near) → first ≡ (query_bond bond).first → second ≡ (query_bond bond).second → first ≡ second
    → AreMore IsNear (λ x. cond (eqb first x) (second ∷ []) []) old new → AreMore IsNear (neighbours_at (query_bond bond ∷ [])) old new
bond-once bond first second old new is_first is_second same more =
    more-same IsNear (λ x. cond (eqb first x) (second ∷ []) []) (neighbours_at (query_bond bond ∷ [])) old new (λ x. rw (← is_first, ← is_second) (by_end x (eqb first x) refl)) more
  where
    by_end : (x : ℕ) (b : Bool) → eqb first x ≡ b → cond (eqb first x) (second ∷ []) [] ≡ said first second x
    by_end x true e = rw e refl
    by_end x false e = (let other : eqb second x ≡ false = rw same at e in rw (e, other) refl)

-- a bond between two atoms
pub bond-twice : (bond : RawBond) (first second : ℕ) (old mid new : List Near) → first ≡ (query_bond bond).first → second ≡ (query_bond bond).second → second ≢ first
    → AreMore IsNear (λ x. cond (eqb first x) (second ∷ []) []) old mid
    → AreMore IsNear (λ x. cond (eqb second x) (first ∷ []) []) mid new
    → AreMore IsNear (neighbours_at (query_bond bond ∷ [])) old new
bond-twice bond first second old mid new is_first is_second differ p q =
    more-same IsNear (λ x. cond (eqb first x) (second ∷ []) [] ++ cond (eqb second x) (first ∷ []) []) (neighbours_at (query_bond bond ∷ [])) old new
    (λ x. rw (← is_first, ← is_second) (by_end x (eqb first x) refl))
    (more-both IsNear (λ x. cond (eqb first x) (second ∷ []) []) (λ x. cond (eqb second x) (first ∷ []) []) old mid new p q)
  where
    by_end : (x : ℕ) (b : Bool) → eqb first x ≡ b → cond (eqb first x) (second ∷ []) [] ++ cond (eqb second x) (first ∷ []) [] ≡ said first second x
    by_end x true e = (let other : eqb second x ≡ false = ne_eqb second x (λ s. differ (grind (arith, nat_tests))) in rw (e, other) refl)
    by_end x false e = rw e refl

-- the neighbours by one bond more
neighbours_at-push : (bonds : List QueryBond) (bond : QueryBond) (x : ℕ) → neighbours_at (bonds ++ bond ∷ []) x ≡ neighbours_at bonds x ++ neighbours_at (bond ∷ []) x
neighbours_at-push [] bond x = refl
neighbours_at-push (b ∷ bonds) bond x =
    let more = neighbours_at-push bonds bond x in
    elim (eqb b.first x) as (λ t. cond t (b.second ∷ neighbours_at (bonds ++ bond ∷ []) x)
    (cond (eqb b.second x) (b.first ∷ neighbours_at (bonds ++ bond ∷ []) x) (neighbours_at (bonds ++ bond ∷ []) x))
    ≡ cond t (b.second ∷ neighbours_at bonds x) (cond (eqb b.second x) (b.first ∷ neighbours_at bonds x)
    (neighbours_at bonds x)) ++ neighbours_at (bond ∷ []) x) [
      | true ↦ ap (λ (l : List ℕ). b.second ∷ l) more
      | false ↦
          elim (eqb b.second x) as (λ t. cond t (b.first ∷ neighbours_at (bonds ++ bond ∷ []) x)
          (neighbours_at (bonds ++ bond ∷ []) x) ≡ cond t (b.first ∷ neighbours_at bonds x)
          (neighbours_at bonds x) ++ neighbours_at (bond ∷ []) x)
          [ true ↦ ap (λ (l : List ℕ). b.first ∷ l) more | false ↦ more ]
    ]

-- the neighbours that some bonds give
abbrev pub neighbours_by : List RawBond → ℕ → List ℕ
neighbours_by bonds = neighbours_at (query_bonds bonds)

pub neighbours_told : TellsOn neighbours_by
neighbours_told bonds bond x =
    ap (λ (l : List QueryBond). neighbours_at l x) (map_push query_bond bonds bond) ∙ neighbours_at-push (query_bonds bonds) (query_bond bond) x
