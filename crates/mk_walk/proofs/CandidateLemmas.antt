-- The ends of an atom's bonds, and the least of them above a number.
--     least_end_more      one more end
--     no_end_between      no atom that is bonded lies between the number and the least end above it
--     no_end_above        and none lies above it where there is no such end
--     end_bonded          each end is bonded
--     among_at, at_among  an atom is among the first images where its level says
use Rattle.std.proofs.Common.{◌≡◌, ℕ, ◌+◌, ◌<◌, ◌≤◌, ◌-◌, ◌||◌, inl, inr, Bool, true, false, cond, eqb, min, List, [], ◌∷◌, ◌++◌, length, get_or, Option, Some, None, refl, sym, ap, subst, ◌∙◌, arith, All, Contains}
use Rattle.std.specs.Prelude.{IfNone, IfSome, slice_get, nat_le}
use Rattle.std.proofs.lemmas.Bool.Decides.{nat_tests}
use Rattle.std.proofs.lemmas.List.{length-map, get_or-map, get_or_default}
use Rattle.std.proofs.lemmas.List.Elements.{All-push}
use Rattle.mk_model.specs.declared.edge.Edge.{Edge}
use Rattle.mk_model.specs.declared.molecule.MolBond.{MolBond}
use Rattle.mk_model.specs.Edges.{HasEnds, numbers_at, touches}
use Rattle.mk_model.specs.Molecules.{Molecule, edge_of, edges}
use Rattle.mk_model.proofs.ForCallers.{IsNumberOf, at_place, numbers_at-all, touches-ends}
use Rattle.mk_walk.specs.Candidates.{AreBonded, IsCandidate, IsLeastEnd, end_numbered, lesser_end}

-- ---- one more end

-- the bound goes down
lower_bound : (bonds : List MolBond) (n above least lower : ℕ) (numbers : List ℕ) → lower ≤ least
    → All (λ number. above < end_numbered bonds number n → least ≤ end_numbered bonds number n) numbers
    → All (λ number. above < end_numbered bonds number n → lower ≤ end_numbered bonds number n) numbers
lower_bound bonds n above least lower numbers down all = λ k d below over. (let so_far = all k d below over in omega arith)

-- where no end is above the number so far, any bound holds
any_bound : (bonds : List MolBond) (n above lower : ℕ) (numbers : List ℕ)
    → All (λ number. end_numbered bonds number n ≤ above) numbers
    → All (λ number. above < end_numbered bonds number n → lower ≤ end_numbered bonds number n) numbers
any_bound bonds n above lower numbers all = λ k d below over. (let so_far = all k d below in absurd (omega arith))

module _ (bonds : List MolBond) (n : ℕ) (numbers : List ℕ) (above number : ℕ) where
  none_by : (b : Bool) → nat_le (end_numbered bonds number n) above ≡ b → IsLeastEnd bonds n numbers above None
      → IsLeastEnd bonds n (numbers ++ number ∷ []) above (cond b None (Some (end_numbered bonds number n)))
  none_by true e all = All-push (λ m. end_numbered bonds m n ≤ above) numbers number all (grind (arith, nat_tests))
  none_by false e all = (
    grind (arith, nat_tests),
    All-push (λ m. above < end_numbered bonds m n → end_numbered bonds number n ≤ end_numbered bonds m n) numbers number
        (any_bound bonds n above (end_numbered bonds number n) numbers all) (λ over. omega arith),
  )

  some_by : (least : ℕ) (b : Bool) → nat_le (end_numbered bonds number n) above ≡ b
      → IsLeastEnd bonds n numbers above (Some least) → IsLeastEnd bonds n (numbers ++ number ∷ []) above
      (cond b (Some least) (Some (min least (end_numbered bonds number n))))
  some_by least true e is = (is.0, All-push (λ m. above < end_numbered bonds m n → least ≤ end_numbered bonds m n) numbers number is.1 (λ over. absurd (grind (arith, nat_tests))))
  some_by least false e is = (
    (let over : above < end_numbered bonds number n = grind (arith, nat_tests) in omega (arith, is.0)),
    All-push (λ m. above < end_numbered bonds m n → min least (end_numbered bonds number n) ≤ end_numbered bonds m n) numbers number
        (lower_bound bonds n above least (min least (end_numbered bonds number n)) numbers (omega arith) is.1) (λ over. omega arith),
  )

  -- one more end
  pub least_end_more : (least : Option ℕ) → IsLeastEnd bonds n numbers above least → IsLeastEnd bonds n (numbers ++ number ∷ []) above (lesser_end least above (end_numbered bonds number n))
  least_end_more None is = none_by _ refl is
  least_end_more (Some least) is = some_by least _ refl is

-- ---- the ends are the atoms that are bonded

-- by which end comes first
other_by : (edge : Edge) (n b : ℕ) (t : Bool) → eqb edge.first n ≡ t → HasEnds edge n b → cond t edge.second edge.first ≡ b
other_by edge n b true e (inl h) = h.1
other_by edge n b true e (inr h) = (let same : edge.first ≡ n = grind (arith, nat_tests) in h.1 ∙ sym same ∙ h.0)
other_by edge n b false e (inl h) = absurd (grind (arith, nat_tests, h.0))
other_by edge n b false e (inr h) = h.0

-- the place of a bonded atom's bond in the list of an atom's bonds
pub record IsEndAt (mol : Molecule) (n b : ℕ) : Type 0 where
  pub place : ℕ
  pub within : place < length (numbers_at (edges mol.bonds) n)
  pub is : end_numbered mol.bonds (get_or (numbers_at (edges mol.bonds) n) place 0) n ≡ b

-- the end of a bond that stands at a place
end_is : (bonds : List MolBond) (bond : MolBond) (number k n b : ℕ) → k < length bonds → get_or bonds k bond ≡ bond → number ≡ k + 1 → HasEnds (edge_of bond) n b → end_numbered bonds number n ≡ b
end_is bonds bond number k n b below here is ends =
    let place : number - 1 ≡ k = omega arith in
    let at : slice_get bonds k ≡ Some bond = at_place bonds k bond below ∙ ap Some here in
    rw (place, at) (other_by (edge_of bond) n b _ refl ends)

-- each bonded atom is an end
pub bonded_end : (mol : Molecule) (n b : ℕ) → AreBonded mol n b → IsEndAt mol n b
bonded_end mol n b bonded =
    let bond = bonded.0 in
    let k = bonded.1.0.0 in
    let below : k < length mol.bonds = bonded.1.0.1 in
    let here : get_or mol.bonds k bond ≡ bond = bonded.1.0.2 in
    let ends : HasEnds (edge_of bond) n b = bonded.1.1 in
    let edge_is : get_or (edges mol.bonds) k (edge_of bond) ≡ edge_of bond = get_or-map edge_of mol.bonds k bond (edge_of bond) below ∙ ap edge_of here in
    let touched : touches n (get_or (edges mol.bonds) k (edge_of bond)) ≡ true = rw edge_is (touches-ends (edge_of bond) n b ends) in
    let at = numbers_at-all (edges mol.bonds) n k (edge_of bond) (omega (arith, length-map mol.bonds edge_of)) touched in
    record { place = at.0; within = at.1; is = end_is mol.bonds bond _ k n b below here at.2 ends }

-- the ends of a bond of an atom are the atom and its other end, by which comes first
pub ends_by : (edge : Edge) (n : ℕ) (t : Bool) → eqb edge.first n ≡ t → touches n edge ≡ true → HasEnds edge n (cond t edge.second edge.first)
ends_by edge n true e touched = inl (grind (arith, nat_tests), refl)
ends_by edge n false e touched = (let second : edge.second ≡ n = second_by e touched in inr (refl, second))
  where
    second_by : eqb edge.first n ≡ false → (eqb edge.first n || eqb edge.second n) ≡ true → edge.second ≡ n
    second_by other either = grind (arith, nat_tests)

-- each end is bonded
pub end_bonded : (mol : Molecule) (n number : ℕ) → IsNumberOf (edges mol.bonds) n number → AreBonded mol n (end_numbered mol.bonds number n)
end_bonded mol n number is =
    let none : MolBond = record { first = 0; second = 0; kind = 0; ring = false; aromatic = false } in
    let k = number - 1 in
    let below : k < length mol.bonds = omega (arith, is.least, is.most, length-map mol.bonds edge_of) in
    let bond : MolBond = get_or mol.bonds k none in
    let edge_is : get_or (edges mol.bonds) k (edge_of none) ≡ edge_of bond = get_or-map edge_of mol.bonds k none (edge_of none) below in
    let touched : touches n (edge_of bond) ≡ true = rw edge_is at (is.ends (edge_of none)) in
    let ends : HasEnds (edge_of bond) n (end_numbered mol.bonds number n) = rw (at_place mol.bonds k none below) (ends_by (edge_of bond) n _ refl touched) in
    (bond, ((k, below, get_or_default mol.bonds k bond none below), ends))

-- none lies between the number and the least end above it
pub no_end_between : (mol : Molecule) (n above least b : ℕ) → IsLeastEnd mol.bonds n (numbers_at (edges mol.bonds) n) above (Some least) → above < b → b < least → AreBonded mol n b → ⊥
no_end_between mol n above least b is over under bonded =
    let end = bonded_end mol n b bonded in
    let over' : above < end_numbered mol.bonds (get_or (numbers_at (edges mol.bonds) n) end.place 0) n = omega (arith, end.is) in
    let bound = is.1 end.place 0 end.within over' in
    omega (arith, end.is)

-- and none above it where there is no such end
pub no_end_above : (mol : Molecule) (n above b : ℕ) → IsLeastEnd mol.bonds n (numbers_at (edges mol.bonds) n) above None → above < b → AreBonded mol n b → ⊥
no_end_above mol n above b is over bonded =
    let end = bonded_end mol n b bonded in
    let bound = is end.place 0 end.within in
    omega (arith, end.is)

-- ---- for the answers of the code

-- the lesser of two ends has what both have
pub lesser_has : (P : ℕ → Type 0) (least : Option ℕ) (above end : ℕ) → IfSome least P → P end → IfSome (lesser_end least above end) P
lesser_has P None above end so_far has = none_has (nat_le end above)
  where
    none_has : (b : Bool) → IfSome (cond b None (Some end)) P
    none_has true = tt
    none_has false = has
lesser_has P (Some least) above end so_far has = some_has (nat_le end above)
  where
    least_of : (b : Bool) → nat_le least end ≡ b → P (min least end)
    least_of true e = (let same : least ≡ min least end = (let below : least ≤ end = grind (arith, nat_tests) in omega arith) in subst P same so_far)
    least_of false e = (let same : end ≡ min least end = (let below : end < least = grind (arith, nat_tests) in omega arith) in subst P same has)

    some_has : (b : Bool) → IfSome (cond b (Some least) (Some (min least end))) P
    some_has true = so_far
    some_has false = least_of (nat_le least end) refl

-- what the least end says of the atoms between
pub ends_between : (mol : Molecule) (n above : ℕ) (found : Option ℕ)
    → IsLeastEnd mol.bonds n (numbers_at (edges mol.bonds) n) above found
    → IfSome found (λ a. (b : ℕ) → above < b → b < a → IsCandidate mol (Some n) b → b ≤ length mol.atoms → ⊥)
ends_between mol n above None is = tt
ends_between mol n above (Some least) is = λ b over under bonded within. no_end_between mol n above least b is over under bonded

-- and of those above
pub ends_above : (mol : Molecule) (n above : ℕ) (found : Option ℕ)
    → IsLeastEnd mol.bonds n (numbers_at (edges mol.bonds) n) above found
    → IfNone found ((b : ℕ) → above < b → IsCandidate mol (Some n) b → b ≤ length mol.atoms → ⊥)
ends_above mol n above None is = λ b over bonded within. no_end_above mol n above b is over bonded
ends_above mol n above (Some least) is = tt

-- ---- the first images

-- the level that is kept for one of the first images is its place
pub among_at : (first levels : List ℕ) (a level : ℕ) → ((j : ℕ) → j < length first → get_or levels (get_or first j 0 - 1) 0 ≡ j) → level ≡ get_or levels (a - 1) 0
    → Contains first a → (level < length first) × (get_or first level 0 ≡ a)
among_at first levels a level stand is held =
    let k = held.0 in
    let within : k < length first = held.1 in
    let here : get_or first k 0 ≡ a = get_or_default first k 0 a within ∙ held.2 in
    let at : level ≡ k = is ∙ sym (ap (λ (n : ℕ). get_or levels (n - 1) 0) here) ∙ stand k within in
    (omega arith, ap (λ (n : ℕ). get_or first n 0) at ∙ here)

-- an atom at a level is one of the first
pub at_among : (first : List ℕ) (a level : ℕ) → level < length first → get_or first level 0 ≡ a → Contains first a
at_among first a level below here = (level, below, get_or_default first level a 0 below ∙ here)
