-- The bonds of an expansion: what they join, and that no two join one pair.
--     drawn_inside, drawn_outside   what a bond becomes inside a block and elsewhere
--     copied_is                     a copy of a bond by its number
--     piece_ends                    the ends of what an atom becomes
--     ending_is_of                  the end of a bond is one of what its atom becomes
--     drawn_spans, drawn_apart      what a bond of the template becomes
use Rattle.std.proofs.Common.{◌≡◌, ◌∙◌, ℕ, zero, suc, ◌+◌, ◌<◌, ◌≤◌, inl, inr, Bool, true, false, cond, ◌&&◌, ◌||◌, not, eqb, ltb, min, List, [], ◌∷◌, length, get_or, refl, sym, ap, subst, arith}
use Rattle.std.specs.Prelude.{AllPairs, Contains}
use Rattle.std.proofs.lemmas.Bool.{cases_lt}
use Rattle.std.proofs.lemmas.Bool.Decides.{nat_tests}
use Rattle.mk_model.specs.Pieces.{Piece}
use Rattle.mk_model.specs.Pieces.Piece.{Copies}
use Rattle.mk_model.specs.declared.template.QueryBond.{QueryBond}
use Rattle.mk_model.specs.declared.template.Slot.{Slot}
use Rattle.mk_model.specs.declared.template.Slot.TheVariants.{Link}
use Rattle.mk_model.specs.Templates.{TemplateView}
use Rattle.mk_model.specs.Expansions.{bond_between, copied, drawn, is_hydrogens, is_inside, is_nothing, spanned}
use Rattle.mk_model.specs.Pieces.{before, end_of, ending, is_far_of, piece, piece_numbered, taker, width}
use Rattle.mk_pieces.specs.Fragments.{AreApart, HasRange}
use Rattle.mk_model.proofs.ForCallers.{at_place}
use Rattle.mk_pieces.specs.Rooms.{IsWithin}
use Rattle.mk_pieces.proofs.NumberLemmas.{mapped_at, mapped_length}
use Rattle.mk_pieces.proofs.PieceLemmas.{MayAllStand, stand_at, stand_end}
use Rattle.mk_pieces.proofs.SpanLemmas.{IsOf, Spans, between_spans, is_of}
use Rattle.mk_pieces.proofs.TakerLemmas.{taker_is_slot}

-- ---- a bond of the template

pub drawn_inside : (template : TemplateView) (pieces : List Piece) (bond : QueryBond) → is_inside template bond ≡ true
    → drawn template pieces bond ≡ copied bond (before template pieces bond.first) (before template pieces bond.second) (width (piece template pieces bond.first))
unfolding drawn
drawn_inside template pieces bond inside = rw inside refl

pub drawn_outside : (template : TemplateView) (pieces : List Piece) (bond : QueryBond) → is_inside template bond ≡ false
    → drawn template pieces bond ≡ spanned (piece template pieces bond.first) (piece template pieces bond.second) bond (ending template pieces bond.first bond.second)
    (ending template pieces bond.second bond.first)
unfolding drawn
drawn_outside template pieces bond outside = rw outside refl

-- ---- copies of a bond

pub record IsCopy (bond : QueryBond) (x y n : ℕ) (b : QueryBond) : Type 0 where
  pub j : ℕ
  pub least : 1 ≤ j
  pub most : j ≤ n
  pub is : b ≡ bond_between (x + j) (y + j) bond.kind bond.topology

pub copied_is : (bond : QueryBond) (x y n : ℕ) (b : QueryBond) → Contains (copied bond x y n) b → IsCopy bond x y n b
unfolding copied
copied_is bond x y n b (k, below, is) =
    let f : ℕ → QueryBond = λ j. bond_between (x + j) (y + j) bond.kind bond.topology in
    let inside : k < n = omega (arith, below, mapped_length f n) in
    record { j = 1 + k; least = omega arith; most = omega arith; is = sym is ∙ mapped_at f n k b inside }

copied_place : (bond : QueryBond) (x y n k : ℕ) (d : QueryBond) → k < length (copied bond x y n) → get_or (copied bond x y n) k d ≡ bond_between (x + (1 + k)) (y + (1 + k)) bond.kind bond.topology
unfolding copied
copied_place bond x y n k d below =
    let f : ℕ → QueryBond = λ j. bond_between (x + j) (y + j) bond.kind bond.topology in
    mapped_at f n k d (omega (arith, below, mapped_length f n))

-- the lower end of a copy
lower_end : (x y j kind topology : ℕ) → (bond_between (x + j) (y + j) kind topology).first ≡ min x y + j
lower_end x y j kind topology = elim (cases_lt x y) [
  | inl less ↦ (let is : ltb (x + j) (y + j) ≡ true = grind (arith, nat_tests) in rw is (omega arith))
  | inr more ↦ (let is : ltb (x + j) (y + j) ≡ false = grind (arith, nat_tests) in rw is (omega arith))
]

copied_apart : (bond : QueryBond) (x y n : ℕ) → AllPairs AreApart (copied bond x y n)
copied_apart bond x y n = λ i k d less below first second.
    let one = copied_place bond x y n i d (omega arith) in
    let other = copied_place bond x y n k d below in
    omega (arith, first, ap (λ (b : QueryBond). b.first) one, ap (λ (b : QueryBond). b.first) other, lower_end x y (1 + i) bond.kind bond.topology, lower_end x y (1 + k) bond.kind bond.topology)

-- ---- what a bond of the template becomes

no_slot : Slot
no_slot = Link 0 0 0 0

module _ (template : TemplateView) (pieces : List Piece) (stand : MayAllStand template.slots pieces) where
  -- the ends of what an atom becomes
  pub piece_ends : (x y : ℕ) → 1 ≤ y → is_nothing (piece template pieces x) ≡ false
      → (1 ≤ end_of (piece template pieces x) (is_far_of template.slots (taker template x) x y))
      × (end_of (piece template pieces x) (is_far_of template.slots (taker template x) x y) ≤ width (piece template pieces x))
  piece_ends x y least some = by (taker template x) refl some
    where
      by : (n : ℕ) → taker template x ≡ n → is_nothing (piece_numbered pieces n) ≡ false
          → (1 ≤ end_of (piece_numbered pieces n) (is_far_of template.slots n x y)) × (end_of (piece_numbered pieces n) (is_far_of template.slots n x y) ≤ width (piece_numbered pieces n))
      by zero is some' = (omega arith, omega arith)
      by (suc k) is some' =
          let found = taker_is_slot template x k is in
          rw (at_place template.slots k no_slot found.within)
          (stand_end (get_or template.slots k no_slot) (get_or pieces k (Copies 1)) x y least (stand_at template.slots pieces k no_slot (Copies 1) found.within stand) some')

  pub ending_is_of : (x y : ℕ) → 1 ≤ x → 1 ≤ y → is_nothing (piece template pieces x) ≡ false → IsOf template pieces x (ending template pieces x y)
  unfolding ending
  ending_is_of x y least least' some = (let ends = piece_ends x y least' some in is_of template pieces x _ least ends.0 ends.1)

  module _ (bond : QueryBond) (within : IsWithin template bond) (asked : HasRange bond) where
    copied_spans : is_inside template bond ≡ true → (b : QueryBond)
        → Contains (copied bond (before template pieces bond.first) (before template pieces bond.second) (width (piece template pieces bond.first))) b
        → Spans template pieces bond.first bond.second b
    copied_spans inside b at =
        let found = copied_is bond _ _ _ b at in
        let same : taker template bond.first ≡ taker template bond.second = same_taker (taker template bond.first) (taker template bond.second) inside in
        let wide : width (piece template pieces bond.first) ≡ width (piece template pieces bond.second) = ap (λ n. width (piece_numbered pieces n)) same in
        rw found.is (between_spans template pieces bond.first bond.second _ _ bond.kind bond.topology within.differ
        (is_of template pieces bond.first found.j within.first.0 found.least found.most)
        (is_of template pieces bond.second found.j within.second.0 found.least (omega (arith, found.most, wide))) asked.kind asked.topology)
      where
        same_taker : (s t : ℕ) → (not (eqb s 0) && eqb s t) ≡ true → s ≡ t
        same_taker s t is = by (eqb s 0) (eqb s t) refl is
          where
            by : (a c : Bool) → eqb s t ≡ c → (not a && c) ≡ true → s ≡ t
            by a true e is' = grind (arith, nat_tests)
            by true false e is' = absurd cc
            by false false e is' = absurd cc

    -- the bond between two pieces, or none
    one_bond : List QueryBond → Type 0
    one_bond bs = ((b : QueryBond) → Contains bs b → Spans template pieces bond.first bond.second b) × AllPairs AreApart bs

    none_at_all : ((b : QueryBond) → Contains [] b → Spans template pieces bond.first bond.second b) × AllPairs AreApart []
    none_at_all = (λ b at. absurd (omega (arith, at.1)), λ i j d less inside. absurd (omega arith))

    just_one : (b : QueryBond) → Spans template pieces bond.first bond.second b
        → ((c : QueryBond) → Contains (b ∷ []) c → Spans template pieces bond.first bond.second c) × AllPairs AreApart (b ∷ [])
    just_one b spans = (λ c at. subst (Spans template pieces bond.first bond.second) (alone b c at) spans, λ i j d less inside. absurd (omega arith))
      where
        alone : (b c : QueryBond) → Contains (b ∷ []) c → b ≡ c
        alone b c (zero, below, is) = is
        alone b c (suc k, below, is) = absurd (omega (arith, below))

    spanned_both : (p q : Piece) → piece template pieces bond.first ≡ p → piece template pieces bond.second ≡ q
        → ((b : QueryBond) → Contains (spanned p q bond (ending template pieces bond.first bond.second) (ending template pieces bond.second bond.first)) b
        → Spans template pieces bond.first bond.second b)
        × AllPairs AreApart (spanned p q bond (ending template pieces bond.first bond.second) (ending template pieces bond.second bond.first))
    spanned_both p q is is' = by (is_nothing p) (is_nothing q) (is_hydrogens p || is_hydrogens q) refl refl
      where
        x : ℕ
        x = ending template pieces bond.first bond.second

        y : ℕ
        y = ending template pieces bond.second bond.first

        by : (a b h : Bool) → is_nothing p ≡ a → is_nothing q ≡ b
            → ((c : QueryBond) → Contains (cond (a || b) []
            (cond h (bond_between (ending template pieces bond.first bond.second) (ending template pieces bond.second bond.first) 1 0 ∷ [])
            (bond_between (ending template pieces bond.first bond.second) (ending template pieces bond.second bond.first) bond.kind bond.topology ∷ []))) c
            → Spans template pieces bond.first bond.second c)
            × AllPairs AreApart (cond (a || b) [] (cond h (bond_between (ending template pieces bond.first bond.second) (ending template pieces bond.second bond.first) 1 0 ∷ [])
            (bond_between (ending template pieces bond.first bond.second) (ending template pieces bond.second bond.first) bond.kind bond.topology ∷ [])))
        by true b h e e' = none_at_all
        by false true h e e' = none_at_all
        by false false true e e' =
            just_one _ (between_spans template pieces bond.first bond.second _ _ 1 0 within.differ
            (ending_is_of bond.first bond.second within.first.0 within.second.0 (ap is_nothing is ∙ e))
            (ending_is_of bond.second bond.first within.second.0 within.first.0 (ap is_nothing is' ∙ e')) (omega arith, omega arith) (omega arith))
        by false false false e e' =
            just_one _ (between_spans template pieces bond.first bond.second _ _ bond.kind bond.topology within.differ
            (ending_is_of bond.first bond.second within.first.0 within.second.0 (ap is_nothing is ∙ e))
            (ending_is_of bond.second bond.first within.second.0 within.first.0 (ap is_nothing is' ∙ e')) asked.kind asked.topology)

    drawn_both : ((b : QueryBond) → Contains (drawn template pieces bond) b → Spans template pieces bond.first bond.second b) × AllPairs AreApart (drawn template pieces bond)
    drawn_both = by (is_inside template bond) refl
      where
        by : (inside : Bool) → is_inside template bond ≡ inside
            → ((b : QueryBond) → Contains (drawn template pieces bond) b → Spans template pieces bond.first bond.second b) × AllPairs AreApart (drawn template pieces bond)
        by true e = rw (drawn_inside template pieces bond e) (copied_spans e, copied_apart bond _ _ _)
        by false e = rw (drawn_outside template pieces bond e) (spanned_both _ _ refl refl)

    pub drawn_spans : (b : QueryBond) → Contains (drawn template pieces bond) b → Spans template pieces bond.first bond.second b
    drawn_spans = drawn_both.0

    pub drawn_apart : AllPairs AreApart (drawn template pieces bond)
    drawn_apart = drawn_both.1
