-- How much room the pieces take.
--     room_sum          the room is the sum of the widths
--     widths_within     each atom is plain, or of the width of a slot that takes it
--     room_caps         so the room is no more than plain atoms, and what the slots take
use Rattle.std.proofs.Common.{◌≡◌, ◌∙◌, ℕ, zero, suc, ◌+◌, ◌-◌, ◌*◌, ◌<◌, ◌≤◌, Bool, true, false, cond, ◌||◌, not, List, [], ◌∷◌, length, get_or, refl, ap, arith, sum_by}
use Rattle.std.specs.Prelude.{count_by}
use Rattle.std.specs.List.{list_any, range_with_len}
use Rattle.std.proofs.lemmas.List.Sums.{sum_by-cons}
use Rattle.mk_model.specs.Pieces.{Piece}
use Rattle.mk_model.specs.Pieces.Piece.{Copies}
use Rattle.mk_model.specs.declared.template.Slot.{Slot}
use Rattle.mk_model.specs.Templates.{TemplateView}
use Rattle.mk_model.specs.Pieces.{piece, piece_numbered, room, taker, taker_from, width}
use Rattle.mk_model.specs.Sizes.{is_fixed, takes_atom}

-- ---- the room as a sum

pub room_sum : (template : TemplateView) (pieces : List Piece) (n : ℕ) → room template pieces n ≡ sum_by (λ x. width (piece template pieces x)) (range_with_len 1 n)
unfolding room
room_sum template pieces n = refl

-- ---- what slots take of some atoms

-- for each slot its width as often as it takes one of the atoms
abbrev pub taken_room : TemplateView → List Slot → List Piece → List ℕ → ℕ
taken_room template [] ps xs = 0
taken_room template (slot ∷ slots) [] xs = 0
taken_room template (slot ∷ slots) (p ∷ ps) xs = width p * count_by (λ x. takes_atom template x slot) xs + taken_room template slots ps xs

-- of one atom
abbrev one_room : TemplateView → List Slot → List Piece → ℕ → ℕ
one_room template [] ps x = 0
one_room template (slot ∷ slots) [] x = 0
one_room template (slot ∷ slots) (p ∷ ps) x = width p * cond (takes_atom template x slot) 1 0 + one_room template slots ps x

room_none : (template : TemplateView) (slots : List Slot) (ps : List Piece) → taken_room template slots ps [] ≡ 0
room_none template [] ps = refl
room_none template (slot ∷ slots) [] = refl
room_none template (slot ∷ slots) (p ∷ ps) = omega (arith, room_none template slots ps)

times_more : (w a b c : ℕ) → c ≡ a + b → w * c ≡ w * a + w * b
times_more w a b c is = rw is (omega arith)

room_cons : (template : TemplateView) (slots : List Slot) (ps : List Piece) (x : ℕ) (xs : List ℕ)
    → taken_room template slots ps (x ∷ xs) ≡ one_room template slots ps x + taken_room template slots ps xs
room_cons template [] ps x xs = refl
room_cons template (slot ∷ slots) [] x xs = refl
room_cons template (slot ∷ slots) (p ∷ ps) x xs =
    let rest = room_cons template slots ps x xs in
    let count = sum_by-cons (λ (y : ℕ). cond (takes_atom template y slot) 1 0) x xs in
    let times = times_more (width p) (cond (takes_atom template x slot) 1 0) (count_by (λ y. takes_atom template y slot) xs) (count_by (λ y. takes_atom template y slot) (x ∷ xs)) count in
    omega (arith, rest, times)

-- an atom is plain, or has the width of the slot that takes it
atom_within : (template : TemplateView) (pieces : List Piece) (k : ℕ) (slots : List Slot) (ps : List Piece) (x : ℕ) → 1 ≤ k → length ps ≡ length slots
    → ((i : ℕ) → i < length ps → get_or pieces (k - 1 + i) (Copies 1) ≡ get_or ps i (Copies 1))
    → width (piece_numbered pieces (taker_from template k slots x)) ≤ cond (not (list_any (takes_atom template x) slots)) 1 0 + one_room template slots ps x
atom_within template pieces k [] ps x some size are = omega arith
atom_within template pieces k (slot ∷ slots) [] x some size are = absurd (omega arith)
atom_within template pieces k (slot ∷ slots) (p ∷ ps) x some size are =
    by (takes_atom template x slot) (atom_within template pieces (k + 1) slots ps x (omega arith) (omega arith)
    (λ i below. (let same : k + 1 - 1 + i ≡ k - 1 + suc i = omega arith in ap (λ n. get_or pieces n (Copies 1)) same ∙ are (suc i) (omega arith))))
  where
    here : width (piece_numbered pieces k) ≡ width p
    here = at k some (are 0 (omega arith))
      where
        at : (n : ℕ) → 1 ≤ n → get_or pieces (n - 1 + 0) (Copies 1) ≡ p → width (piece_numbered pieces n) ≡ width p
        at zero least is = absurd (omega arith)
        at (suc n) least is = (let same : n ≡ suc n - 1 + 0 = omega arith in ap width (ap (λ m. get_or pieces m (Copies 1)) same ∙ is))

    by : (b : Bool) → width (piece_numbered pieces (taker_from template (k + 1) slots x)) ≤ cond (not (list_any (takes_atom template x) slots)) 1 0 + one_room template slots ps x
        → width (piece_numbered pieces (cond b k (taker_from template (k + 1) slots x))) ≤ cond (not (b || list_any (takes_atom template x) slots)) 1 0 +
        (width p * cond b 1 0 + one_room template slots ps x)
    by true rest = omega (arith, here)
    by false rest = omega (arith, rest)

pub room_caps : (template : TemplateView) (pieces : List Piece) (xs : List ℕ) → length pieces ≡ length template.slots
    → sum_by (λ x. width (piece template pieces x)) xs ≤ count_by (is_fixed template) xs + taken_room template template.slots pieces xs
unfolding taker
room_caps template pieces [] size = omega arith
room_caps template pieces (x ∷ xs) size =
    let rest = room_caps template pieces xs size in
    let one = atom_within template pieces 1 template.slots pieces x (omega arith) size (λ i below. (let same : 1 - 1 + i ≡ i = omega arith in ap (λ n. get_or pieces n (Copies 1)) same)) in
    omega (arith, rest, one, room_cons template template.slots pieces x xs, sum_by-cons (λ (y : ℕ). width (piece template pieces y)) x xs, sum_by-cons (λ (y : ℕ). cond (is_fixed template y) 1 0) x xs)
