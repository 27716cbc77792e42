-- The least closed set, by marks to which the rule adds none.
--     closed_ring           a bond that closes a six-ring is in each closed set
--     unmarked-set          one mark more
--     nth_round             a cycle may be walked from any of its bonds on
--     Marks-done            marks to which the rule adds none are those of the aromatic set
--     kind_within           a bond with a type is in the list
use Rattle.std.proofs.Common.{◌≡◌, ◌<◌, ◌+◌, ◌-◌, ◌%◌, ℕ, zero, suc, Bool, true, false, cond, not, List, Some, refl, ap, sym, ◌∙◌, subst, inl, inr, ⊎_elim, arith, length, get_or, set}
use Rattle.std.specs.Prelude.{◌⊎◌, IsTrue}
use Rattle.std.proofs.lemmas.List.Sums.{sum_by-set}
use Rattle.mk_model.specs.declared.edge.Edge.{Edge}
use Rattle.mk_model.specs.Edges.{AreBetween, IsBetween, Joins, HasKind}
use Rattle.mk_model.specs.Aromatic.{Takes, IsClosed, IsAromatic}
use Rattle.mk_marks.specs.Marks.{IsMarked, Marks}
use Rattle.mk_marks.specs.SixRings.{ClosesRing, LieIn, set_of, unmarked}
use Rattle.mk_marks.proofs.JoinLemmas.{get_or-from_get, joins_within}
use Rattle.mk_marks.proofs.SixLemmas.{IsRound, round_of_rule, turned, reversed, CanClose-round, round_from, closed_round}

-- ---- a bond that closes a six-ring is in each closed set

pub closed_ring : (atoms : ℕ) (bonds : List Edge) (marks : List Bool) (set' : ℕ → Bool) (b : ℕ) → AreBetween atoms bonds
    → IsClosed bonds set' → LieIn set' marks → ClosesRing bonds (set_of marks) b → IsTrue (set' b)
closed_ring atoms bonds marks set' b ends closed lie c =
    let joined : Joins bonds b c.edge.first c.edge.second = record { edge = c.edge; at = c.at; ends = inl (refl, refl) } in
    let within = ends b c.edge (joins_within bonds b c.edge.first c.edge.second joined) in
    let at : get_or bonds b c.edge ≡ c.edge = get_or-from_get bonds b c.edge c.edge c.at in
    let between : IsBetween atoms c.edge = rw at at within in
    let takes : Takes bonds (set_of marks) b c.edge.kind = inr (record { edge = c.edge; at = c.at; is = refl }) in
    let round = round_from bonds (set_of marks) b c.edge.first c.edge.second c.edge.kind joined takes between.differ c.kind c.closes in
    let held = closed_round bonds (set_of marks) set' lie closed c.edge.kind round.0 round.1 c.kind round.2 in
    let P : ℕ → Type 0 = λ n. IsTrue (set' n) in
    subst P round.3 held

-- ---- marks that are added

-- one mark more
pub unmarked-set : (marks : List Bool) (n : ℕ) → n < length marks → get_or marks n false ≡ false → unmarked (set marks n true) + 1 ≡ unmarked marks
unmarked-set marks n below is =
    let all = sum_by-set (λ (t : Bool). cond (not t) 1 0) marks n true false below in
    let was : ◌≡◌ {A = ℕ} (cond (not (get_or marks n false)) 1 0) 1 = rw is refl in
    omega (arith, all, was)

-- ---- when a round adds nothing

-- a cycle may be walked from its n-th bond on
pub nth_round : (bonds : List Edge) (s : ℕ → Bool) (n l : ℕ) (x k : ℕ → ℕ) → (l ≡ 1) ⊎ (l ≡ 2) → IsRound bonds s l x k
    → (l' : ℕ) × (x' : ℕ → ℕ) × (k' : ℕ → ℕ) × ((l' ≡ 1) ⊎ (l' ≡ 2)) × IsRound bonds s l' x' k' × (k' 0 ≡ k (n % 6))
nth_round bonds s zero l x k one_or_two r = (l, x, k, one_or_two, r, refl)
nth_round bonds s (suc n) l x k one_or_two r =
    let other : (3 - l ≡ 1) ⊎ (3 - l ≡ 2) = ⊎_elim (λ e. inr (omega (arith, e))) (λ e. inl (omega (arith, e))) one_or_two in
    let there = nth_round bonds s n (3 - l) (λ i. x ((i + 1) % 6)) (λ i. k ((i + 1) % 6)) other (turned bonds s l x k one_or_two r) in
    let place : (n % 6 + 1) % 6 ≡ suc n % 6 = omega arith in
    (there.0, there.1, there.2, there.3, there.4, there.5 ∙ ap k place)

-- the first bond of a cycle that has the type of its label closes a six-ring
closes-round : (bonds : List Edge) (s : ℕ → Bool) (l : ℕ) (x k : ℕ → ℕ) → (l ≡ 1) ⊎ (l ≡ 2) → IsRound bonds s l x k → HasKind bonds (k 0) l → ClosesRing bonds s (k 0)
closes-round bonds s l x k one_or_two r kind = record {
  edge = kind.edge;
  at = kind.at;
  kind = ⊎_elim (λ e. inl (kind.is ∙ e)) (λ e. inr (kind.is ∙ e)) one_or_two;
  closes =
      let joined = r.joined 0 (omega arith) in
      let one : Some joined.edge ≡ Some kind.edge = sym joined.at ∙ kind.at in
      let same : joined.edge ≡ kind.edge = cc in
      ⊎_elim
      (λ e.
      let first : kind.edge.first ≡ x 0 = ap (λ m. m.first) (sym same) ∙ e.0 in
      let second : kind.edge.second ≡ x 1 = ap (λ m. m.second) (sym same) ∙ e.1 in
      rw (first, second, kind.is) (CanClose-round bonds s l x k one_or_two r))
      (λ e.
      let first : kind.edge.first ≡ x 1 = ap (λ m. m.first) (sym same) ∙ e.0 in
      let second : kind.edge.second ≡ x 0 = ap (λ m. m.second) (sym same) ∙ e.1 in
      rw (first, second, kind.is) (CanClose-round bonds s l (λ i. x ((7 - i) % 6)) (λ i. k ((6 - i) % 6)) one_or_two (reversed bonds s l x k r)))
      joined.ends;
}

-- marks to which a round adds nothing are closed
pub IsClosed-done : (bonds : List Edge) (marks : List Bool) → ((b : ℕ) → HasKind bonds b 4 → IsMarked marks b)
    → ((b : ℕ) → b < length bonds → IsMarked marks b ⊎ (ClosesRing bonds (set_of marks) b → ⊥))
    → IsClosed bonds (set_of marks)
IsClosed-done bonds marks four done = record {
  type_four = four;
  six_rings = λ x k cycle labels i below.
      let r = nth_round bonds (set_of marks) i 1 x k (inl refl) (round_of_rule bonds (set_of marks) x k cycle labels) in
      let here = r.4.joined 0 (omega arith) in
      let place : i % 6 ≡ i = mod_small i below in
      let at : r.2 0 ≡ k i = r.5 ∙ ap k place in
      let P : ℕ → Type 0 = λ b. IsMarked marks b in
      subst P at
      (⊎_elim
      (λ marked. marked)
      (λ opened. ⊎_elim
      (λ marked. marked)
      (λ kind. absurd (opened (closes-round bonds (set_of marks) r.0 r.1 r.2 r.3 r.4 kind)))
      (r.4.labels 0 (omega arith)))
      (done (r.2 0) (joins_within bonds (r.2 0) (r.1 0) (r.1 1) here)));
}
  where
    mod_small : (i : ℕ) → i < 6 → i % 6 ≡ i
    mod_small i h = omega arith

-- and they are the least closed set
pub Marks-done : (bonds : List Edge) (marks : List Bool) → length marks ≡ length bonds
    → ((b : ℕ) → HasKind bonds b 4 → IsMarked marks b) → ((s : ℕ → Bool) → IsClosed bonds s → LieIn s marks)
    → ((b : ℕ) → b < length bonds → IsMarked marks b ⊎ (ClosesRing bonds (set_of marks) b → ⊥))
    → Marks (IsAromatic bonds) bonds marks
Marks-done bonds marks size four within done = record {
  size = size;
  each = λ b below. (λ marked s closed. within s closed b marked, λ aromatic. aromatic (set_of marks) (IsClosed-done bonds marks four done));
}

-- a bond with a type is in the list
pub kind_within : (bonds : List Edge) (b l : ℕ) → HasKind bonds b l → b < length bonds
kind_within bonds b l kind = joins_within bonds b kind.edge.first kind.edge.second (record { edge = kind.edge; at = kind.at; ends = inl (refl, refl) })
