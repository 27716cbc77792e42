-- Stamps: who is reached from a start over two bonds and over three.
--     EachTo bonds set x label numbers n Q      the first n bonds of x that take the label lead to atoms of which Q holds
--     MaySkip-reached                           the stamps of a search tell which paths can't be closed
use Rattle.std.proofs.Common.{◌≡◌, ◌≢◌, ◌≤◌, ◌<◌, ◌+◌, ◌-◌, ℕ, zero, suc, Bool, List, ◌∷◌, refl, ap, sym, ◌∙◌, subst, ⊎_elim, arith, length, get_or, set}
use Rattle.std.specs.Prelude.{◌⊎◌}
use Rattle.std.proofs.lemmas.Bool.{cases_eq, cases_lt}
use Rattle.std.proofs.lemmas.List.{get_or-set_same, get_or-set_other, get_or_past, length-set}
use Rattle.mk_model.specs.declared.edge.Edge.{Edge}
use Rattle.mk_model.specs.Edges.{Joins, numbers_at}
use Rattle.mk_model.specs.Aromatic.{Takes}
use Rattle.mk_model.proofs.ForCallers.{numbers_at-all}
use Rattle.mk_marks.specs.SixRings.{CanClose}
use Rattle.mk_rings.specs.Reach.{Further, IsReached, KeepsStamps, LeadsToStamped, MaySkip, Tells}
use Rattle.mk_rings.specs.Rounds.{AllBelow}
use Rattle.mk_marks.proofs.WayLemmas.{joins_back, same_ends}
use Rattle.mk_marks.proofs.JoinLemmas.{joins_within}
use Rattle.mk_rings.proofs.GrowLemmas.{touches_joined}

-- ---- the bonds of an atom, one after another

-- what holds of each number in the list of an atom holds of each bond of the atom
pub each_bond : (P : ℕ → Type 0) (bonds : List Edge) (x : ℕ) (numbers : List ℕ) (n : ℕ) → numbers ≡ numbers_at bonds x
    → length numbers ≤ n → ((i : ℕ) → i < n → P (get_or numbers i 0 - 1)) → (b y : ℕ) → Joins bonds b x y → P b
each_bond P bonds x numbers n are all each b y joined =
    let d : Edge = record { first = 0; second = 0; kind = 0 } in
    let there = numbers_at-all bonds x b d (joins_within bonds b x y joined) (touches_joined bonds b x y d joined) in
    let number : get_or numbers there.0 0 - 1 ≡ b = omega (arith, ap (λ xs. get_or xs there.0 0) are, there.2) in
    subst P number (each there.0 (omega (arith, ap length are, there.1)))

-- the first n bonds of x that take the label lead to atoms of which Q holds
abbrev pub EachTo : List Edge → (ℕ → Bool) → ℕ → ℕ → List ℕ → ℕ → (ℕ → Type 0) → Type 0
EachTo bonds set x label numbers n Q = (i : ℕ) → i < n → (y : ℕ) → Joins bonds (get_or numbers i 0 - 1) x y → Takes bonds set (get_or numbers i 0 - 1) label → Q y

module _ (bonds : List Edge) (set' : ℕ → Bool) (x label : ℕ) (numbers : List ℕ) where
  -- before the first
  pub EachTo-none : (Q : ℕ → Type 0) → EachTo bonds set' x label numbers 0 Q
  EachTo-none Q = λ i below. absurd (omega arith)

  -- a bond that doesn't take the label is passed over
  pub EachTo-skip : (n b : ℕ) (Q : ℕ → Type 0) → b ≡ get_or numbers n 0 - 1 → (Takes bonds set' b label → ⊥) → EachTo bonds set' x label numbers n Q → EachTo bonds set' x label numbers (n + 1) Q
  EachTo-skip n b Q is not each = λ i below y joined takes.
      ⊎_elim
      (λ earlier. each i earlier y joined takes)
      (λ last.
      let here : n ≡ i = omega arith in
      let P : ℕ → Type 0 = λ k. Takes bonds set' k label in
      absurd (not (subst P (sym (is ∙ ap (λ k. get_or numbers k 0 - 1) here)) takes)))
      (cases_lt i n)

  -- one bond more, to an atom of which it holds
  pub EachTo-more : (n b y : ℕ) (Q Q' : ℕ → Type 0) → b ≡ get_or numbers n 0 - 1 → Joins bonds b x y
      → ((z : ℕ) → Q z → Q' z) → Q' y → EachTo bonds set' x label numbers n Q
      → EachTo bonds set' x label numbers (n + 1) Q'
  EachTo-more n b y Q Q' is joined more holds each = λ i below z there takes.
      ⊎_elim
      (λ earlier. more z (each i earlier z there takes))
      (λ last.
      let here : i ≡ n = omega arith in
      let P : ℕ → Type 0 = λ k. Joins bonds k x z in
      let same : y ≡ z = end_is (subst P (ap (λ k. get_or numbers k 0 - 1) here ∙ sym is) there) in
      subst Q' same holds)
      (cases_lt i n)
    where
      end_is : {z : ℕ} → Joins bonds b x z → y ≡ z
      end_is other = ⊎_elim (λ e. e.1) (λ e. e.1 ∙ e.0) (same_ends joined other)

  -- behind the last it holds of all
  pub EachTo-all : (n : ℕ) (Q : ℕ → Type 0) → numbers ≡ numbers_at bonds x → length numbers ≤ n → EachTo bonds set' x label numbers n Q → (b y : ℕ) → Joins bonds b x y → Takes bonds set' b label → Q y
  EachTo-all n Q are all each b y joined takes =
      each_bond (λ k. (z : ℕ) → Joins bonds k x z → Takes bonds set' k label → Q z) bonds x numbers n are all each b y joined y joined takes

-- ---- a stamp more

-- a stamp that is set
pub stamp-here : (table : List ℕ) (y stamp : ℕ) → y < length table → get_or (set table y stamp) y 0 ≡ stamp
stamp-here table y stamp below = get_or-set_same table y stamp 0 below

-- the others stay
pub stamps-kept : (table : List ℕ) (y stamp : ℕ) → y < length table → KeepsStamps stamp table (set table y stamp)
stamps-kept table y stamp below = λ z was.
    ⊎_elim
    (λ same. let P : ℕ → Type 0 = λ k. get_or (set table y stamp) k 0 ≡ stamp in subst P (sym same) (stamp-here table y stamp below))
    (λ other. get_or-set_other table y z stamp 0 other ∙ was)
    (cases_eq z y)

-- a stamp is below what all are to be below
pub below-set : (table : List ℕ) (y stamp bound : ℕ) → stamp < bound → AllBelow bound table → AllBelow bound (set table y stamp)
below-set table y stamp bound least all = λ i inside.
    ⊎_elim
    (λ same.
    let within : y < length table = omega (arith, length-set table y stamp, same, inside) in
    omega (arith, ap (λ k. get_or (set table y stamp) k 0) same, stamp-here table y stamp within, least))
    (λ other. omega (arith, get_or-set_other table y i stamp 0 other, all i (omega (arith, length-set table y stamp, inside))))
    (cases_eq i y)

-- where no stamp was, nobody leads further
pub Further-none : (bonds : List Edge) (s : ℕ → Bool) (label : ℕ) (two three : List ℕ) (stamp : ℕ) → 0 < stamp → AllBelow stamp two → Further bonds s label two three stamp
Further-none bonds s label two three stamp some below z is =
    absurd (⊎_elim (λ inside. omega (arith, below z inside, is)) (λ past. omega (arith, is, get_or_past two z 0 past)) (cases_lt z (length two)))

-- an atom more that leads to stamped ones
pub Further-more : (bonds : List Edge) (s : ℕ → Bool) (label : ℕ) (two old new : List ℕ) (stamp z : ℕ)
    → KeepsStamps stamp old new → LeadsToStamped bonds s label new stamp z → Further bonds s label two old stamp
    → Further bonds s label (set two z stamp) new stamp
Further-more bonds s label two old new stamp z kept led further y is =
    ⊎_elim
    (λ same. let P : ℕ → Type 0 = λ k. LeadsToStamped bonds s label new stamp k in subst P (sym same) led)
    (λ other b w joined takes. kept w (further y (sym (get_or-set_other two z y stamp 0 other) ∙ is) b w joined takes))
    (cases_eq y z)

-- ---- what the stamps tell

-- the stamps of a search tell which paths can't be closed
pub MaySkip-reached : (bonds : List Edge) (s : ℕ → Bool) (start label : ℕ) (two three : List ℕ) (stamp : ℕ)
    → (label ≡ 1) ⊎ (label ≡ 2) → IsReached bonds s start label two three stamp
    → MaySkip bonds s start two three stamp label 4
MaySkip-reached bonds s start label two three stamp one_or_two r = (
  λ path x can. let P : ℕ → Type 0 = λ l. Tells bonds s start l 2 three stamp in subst P (sym once) at_three path x can,
  λ path x can. let P : ℕ → Type 0 = λ l. Tells bonds s start l 1 two stamp in subst P (ap (λ l. 3 - l) (sym once)) at_two path x can,
)
  where
    once : 3 - (3 - label) ≡ label
    once = ⊎_elim (λ e. omega (arith, e)) (λ e. omega (arith, e)) one_or_two

    at_two : Tells bonds s start (3 - label) 1 two stamp
    at_two = λ path x can.
        let over = can.1 in
        let back = over.4 in
        let P : ℕ → Type 0 = λ l. Takes bonds s back.0 l in
        r.ends back.0 over.0 (joins_back back.1.0) (subst P once back.1.1) can.0 x (joins_back over.1) over.2

    at_three : Tells bonds s start label 2 three stamp
    at_three = λ path x can.
        let over = can.1 in
        let two_is = at_two (over.0 ∷ path) over.0 over.4 in
        r.further over.0 two_is can.0 x (joins_back over.1) over.2

-- what is known for a path is known for one that is an atom longer
pub MaySkip-less : (bonds : List Edge) (s : ℕ → Bool) (start : ℕ) (two three : List ℕ) (stamp label left : ℕ) → left ≢ 0
    → MaySkip bonds s start two three stamp label left → MaySkip bonds s start two three stamp (3 - label) (left - 1)
MaySkip-less bonds s start two three stamp label zero some skip = absurd (some refl)
MaySkip-less bonds s start two three stamp label (suc zero) some skip = let none : suc zero - 1 ≡ 0 = omega arith in subst (λ n. MaySkip bonds s start two three stamp (3 - label) n) (sym none) tt
MaySkip-less bonds s start two three stamp label (suc (suc zero)) some skip = let one : suc (suc zero) - 1 ≡ 1 =
    omega arith in subst (λ n. MaySkip bonds s start two three stamp (3 - label) n) (sym one) skip.1
MaySkip-less bonds s start two three stamp label (suc (suc (suc left))) some skip =
    let less : suc (suc (suc left)) - 1 ≡ suc (suc left) = omega arith in
    subst (λ n. MaySkip bonds s start two three stamp (3 - label) n) (sym less) skip

-- a path that the stamps rule out can't be closed
pub stamped_out : (bonds : List Edge) (s : ℕ → Bool) (start : ℕ) (two three : List ℕ) (stamp label left at : ℕ)
    (path : List ℕ) → MaySkip bonds s start two three stamp label left → ((left ≡ 1) × (get_or two at 0 ≢ stamp))
    ⊎ ((left ≡ 2) × (get_or three at 0 ≢ stamp)) → CanClose bonds s start path at label left → ⊥
stamped_out bonds s start two three stamp label left at path skip out can =
    ⊎_elim
    (λ one.
    let P : ℕ → Type 0 = λ n. MaySkip bonds s start two three stamp label n in
    let Q : ℕ → Type 0 = λ n. CanClose bonds s start path at label n in
    let tells : Tells bonds s start label 1 two stamp = subst P one.0 skip in
    one.1 (tells path at (subst Q one.0 can)))
    (λ both.
    let P : ℕ → Type 0 = λ n. MaySkip bonds s start two three stamp label n in
    let Q : ℕ → Type 0 = λ n. CanClose bonds s start path at label n in
    let tells : Tells bonds s start label 2 three stamp × Tells bonds s start (3 - label) 1 two stamp = subst P both.0 skip in
    both.1 (tells.0 path at (subst Q both.0 can)))
    out
