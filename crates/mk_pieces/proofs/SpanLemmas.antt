-- Room, and which atoms of the template the ends of a bond of its expansion belong to.
--     room_more, room_up, room_within     the room of one atom more, and of more atoms
--     IsOf template pieces x p     place p is one of the atoms that atom x becomes
--     one_atom                    of one atom alone
--     Spans template pieces u v b  the bond is between what u and what v become
use Rattle.std.proofs.Common.{◌≡◌, ◌≢◌, ◌∙◌, ℕ, zero, suc, ◌+◌, ◌-◌, ◌<◌, ◌≤◌, ◌⊎◌, inl, inr, true, false, ltb, List, refl, ap, subst, sum_by, arith}
use Rattle.std.proofs.lemmas.List.Sums.{sum_by_push}
use Rattle.std.proofs.lemmas.Bool.{cases_eq, cases_lt}
use Rattle.std.proofs.lemmas.Bool.Decides.{nat_tests}
use Rattle.mk_model.specs.Pieces.{Piece}
use Rattle.mk_model.specs.declared.template.QueryBond.{QueryBond}
use Rattle.mk_model.specs.Templates.{TemplateView}
use Rattle.mk_model.specs.Pieces.{numbers_to, piece, piece_numbered, room, taker, width}
use Rattle.mk_model.specs.Expansions.{bond_between}
use Rattle.mk_pieces.specs.Fragments.{HasRange}
use Rattle.mk_pieces.proofs.NumberLemmas.{numbers_more}

-- ---- room

pub room_none : (template : TemplateView) (pieces : List Piece) → room template pieces 0 ≡ 0
unfolding room
room_none template pieces = refl

pub room_more : (template : TemplateView) (pieces : List Piece) (i : ℕ) → room template pieces (i + 1) ≡ room template pieces i + width (piece_numbered pieces (taker template (i + 1)))
unfolding room
room_more template pieces i = ap (sum_by (λ x. width (piece_numbered pieces (taker template x)))) (numbers_more i)
    ∙ sum_by_push (λ x. width (piece_numbered pieces (taker template x))) (numbers_to i) (i + 1)

-- more atoms take no less room
pub room_up : (template : TemplateView) (pieces : List Piece) (i k : ℕ) → room template pieces i ≤ room template pieces (k + i)
room_up template pieces i zero = (let same : 0 + i ≡ i = omega arith in rw same (omega arith))
room_up template pieces i (suc k) = (let rest = room_up template pieces i k in let same : suc k + i ≡ k + i + 1 = omega arith in rw same (omega (arith, room_more template pieces (k + i), rest)))

pub room_within : (template : TemplateView) (pieces : List Piece) (i j : ℕ) → i ≤ j → room template pieces i ≤ room template pieces j
room_within template pieces i j below =
    let same : j - i + i ≡ j = omega arith in
    subst (λ (k : ℕ). room template pieces i ≤ room template pieces k) same (room_up template pieces i (j - i))

-- ---- places

-- place p is one of the atoms that atom x becomes
pub record IsOf (template : TemplateView) (pieces : List Piece) (x p : ℕ) : Type 0 where
  pub some : 1 ≤ x
  pub above : room template pieces (x - 1) < p
  pub upto : p ≤ room template pieces x

-- what comes behind, by the width of a piece
pub room_of : (template : TemplateView) (pieces : List Piece) (x : ℕ) → 1 ≤ x → room template pieces x ≡ room template pieces (x - 1) + width (piece template pieces x)
room_of template pieces x some =
    let same : x - 1 + 1 ≡ x = omega arith in
    let more = room_more template pieces (x - 1) in
    rw same at more

pub is_of : (template : TemplateView) (pieces : List Piece) (x j : ℕ) → 1 ≤ x → 1 ≤ j → j ≤ width (piece template pieces x) → IsOf template pieces x (room template pieces (x - 1) + j)
is_of template pieces x j some least most = record { some = some; above = omega arith; upto = omega (arith, room_of template pieces x some) }

-- a place is one of what one atom becomes
pub one_atom : (template : TemplateView) (pieces : List Piece) (x y p : ℕ) → IsOf template pieces x p → IsOf template pieces y p → x ≡ y
one_atom template pieces x y p first second =
    elim (cases_eq x y) [
      | inl same ↦ same
      | inr other ↦ elim (cases_lt x y) [
        | inl less ↦ absurd (let up = room_within template pieces x (y - 1) (omega arith) in omega (arith, first.upto, second.above))
        | inr more ↦ absurd (let less : y < x = omega arith in let up = room_within template pieces y (x - 1) (omega arith) in omega (arith, second.upto, first.above))
      ]
    ]

-- The bond is between what u and what v become, its lower end first, and its test is in range.
pub record Spans (template : TemplateView) (pieces : List Piece) (u v : ℕ) (bond : QueryBond) : Type 0 where
  pub less : bond.first < bond.second
  pub ends : (IsOf template pieces u bond.first × IsOf template pieces v bond.second) ⊎ (IsOf template pieces u bond.second × IsOf template pieces v bond.first)
  pub test : HasRange bond

-- two bonds of one pair are between the same
pub same_span : (template : TemplateView) (pieces : List Piece) (u v u' v' : ℕ) (b c : QueryBond) → Spans template pieces u v b → Spans template pieces u' v' c → b.first ≡ c.first
    → b.second ≡ c.second
    → ((u ≡ u') × (v ≡ v')) ⊎ ((u ≡ v') × (v ≡ u'))
same_span template pieces u v u' v' b c one other first second = by one.ends (rw (first, second) other.ends)
  where
    by : (IsOf template pieces u b.first × IsOf template pieces v b.second) ⊎ (IsOf template pieces u b.second × IsOf template pieces v b.first)
        → (IsOf template pieces u' b.first × IsOf template pieces v' b.second) ⊎ (IsOf template pieces u' b.second × IsOf template pieces v' b.first)
        → ((u ≡ u') × (v ≡ v')) ⊎ ((u ≡ v') × (v ≡ u'))
    by (inl p) (inl q) = inl (one_atom template pieces u u' _ p.0 q.0, one_atom template pieces v v' _ p.1 q.1)
    by (inl p) (inr q) = inr (one_atom template pieces u v' _ p.0 q.1, one_atom template pieces v u' _ p.1 q.0)
    by (inr p) (inl q) = inr (one_atom template pieces u v' _ p.0 q.1, one_atom template pieces v u' _ p.1 q.0)
    by (inr p) (inr q) = inl (one_atom template pieces u u' _ p.0 q.0, one_atom template pieces v v' _ p.1 q.1)

-- a bond between two different places
pub between_spans : (template : TemplateView) (pieces : List Piece) (u v x y kind topology : ℕ) → u ≢ v → IsOf template pieces u x → IsOf template pieces v y → (1 ≤ kind) × (kind ≤ 8)
    → topology ≤ 2 → Spans template pieces u v (bond_between x y kind topology)
between_spans template pieces u v x y kind topology differ first second kinds topologies =
    elim (cases_lt x y) [
      | inl less ↦ (let is : ltb x y ≡ true = grind (arith, nat_tests) in rw is (record { less = less; ends = inl (first, second); test = record { kind = kinds; topology = topologies } }))
      | inr more ↦
          (let is : ltb x y ≡ false = grind (arith, nat_tests) in
          let other : y ≢ x = λ same. differ (one_atom template pieces u v x first (subst (IsOf template pieces v) same second)) in
          let less : y < x = omega arith in
          rw is (record { less = less; ends = inr (first, second); test = record { kind = kinds; topology = topologies } }))
    ]
