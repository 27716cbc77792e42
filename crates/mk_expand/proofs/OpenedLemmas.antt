-- The atoms of what a template becomes, one after another.
--     loosened_append, loosened_push     atoms with their loose ends, more of them
--     open_none, open_more               the atoms of one atom of the template more
use Rattle.std.proofs.Common.{◌≡◌, ◌∙◌, ℕ, zero, suc, ◌+◌, ◌-◌, ◌<◌, ◌≤◌, List, [], ◌∷◌, ◌++◌, length, get_or, take, refl, sym, ap, arith, append_assoc}
use Rattle.std.specs.List.{flat_map}
use Rattle.std.proofs.lemmas.List.{length-append, length-replicate}
use Rattle.mk_model.specs.declared.graph.GraphAtom.{GraphAtom}
use Rattle.mk_model.specs.Expansions.{anything, hydrogen}
use Rattle.mk_model.specs.Pieces.{Piece, numbers_to, piece, piece_numbered, room, taker, width}
use Rattle.mk_model.specs.Pieces.Piece.{Copies, Member, Hydrogens, Nothing}
use Rattle.mk_model.specs.Templates.{TemplateView}
use Rattle.mk_pieces.proofs.NumberLemmas.{flat_more}
use Rattle.mk_pieces.proofs.SpanLemmas.{room_more, room_none, room_within}
use Rattle.mk_layout.specs.Laid.{AreTakers}
use Rattle.mk_expand.specs.Opening.{AreLoose}
use Rattle.mk_expand.specs.OpenGraphs.{bare_atoms, bare_atoms_of, loose_ends, loosened}

pub loosened_append : (template : TemplateView) (pieces : List Piece) (p : ℕ) (xs ys : List GraphAtom)
    → loosened template pieces p (xs ++ ys) ≡ loosened template pieces p xs ++ loosened template pieces (p + length xs) ys
loosened_append template pieces p [] ys = (let same : p ≡ p + 0 = omega arith in ap (λ (q : ℕ). loosened template pieces q ys) same)
loosened_append template pieces p (x ∷ xs) ys =
    let same : p + 1 + length xs ≡ p + suc (length xs) = omega arith in
    ap (λ (zs : List GraphAtom). record { test = x.test; free = x.free + loose_ends template pieces p } ∷ zs)
    (loosened_append template pieces (p + 1) xs ys ∙ ap (λ (q : ℕ). loosened template pieces (p + 1) xs ++ loosened template pieces q ys) same)

pub loosened_size : (template : TemplateView) (pieces : List Piece) (p : ℕ) (xs : List GraphAtom) → length (loosened template pieces p xs) ≡ length xs
loosened_size template pieces p [] = refl
loosened_size template pieces p (x ∷ xs) = ap suc (loosened_size template pieces (p + 1) xs)

-- one atom more behind some
pub loosened_push : (template : TemplateView) (pieces : List Piece) (start out new : List GraphAtom) (xs : List GraphAtom) (x : GraphAtom)
    → out ≡ start ++ loosened template pieces (length start + 1) xs
    → new ≡ out ++ record { test = x.test; free = x.free + loose_ends template pieces (length out + 1) } ∷ []
    → new ≡ start ++ loosened template pieces (length start + 1) (xs ++ x ∷ [])
loosened_push template pieces start out new xs x is pushed =
    let long : length out + 1 ≡ length start + 1 + length xs =
    omega (arith, ap length is, length-append start (loosened template pieces (length start + 1) xs), loosened_size template pieces (length start + 1) xs) in
    pushed ∙ ap (λ (q : ℕ). out ++ record { test = x.test; free = x.free + loose_ends template pieces q } ∷ []) long
    ∙ ap (λ (zs : List GraphAtom). zs ++ record { test = x.test; free = x.free + loose_ends template pieces (length start + 1 + length xs) } ∷ []) is
    ∙ append_assoc start (loosened template pieces (length start + 1) xs) (record { test = x.test; free = x.free + loose_ends template pieces (length start + 1 + length xs) } ∷ [])
    ∙ ap (λ (zs : List GraphAtom). start ++ zs) (sym (loosened_append template pieces (length start + 1) xs (x ∷ [])))

-- how many stand there
pub pushed_size : (template : TemplateView) (pieces : List Piece) (start out : List GraphAtom) (xs : List GraphAtom) → out ≡ start ++ loosened template pieces (length start + 1) xs
    → length out ≡ length start + length xs
pushed_size template pieces start out xs is =
    omega (arith, ap length is, length-append start (loosened template pieces (length start + 1) xs), loosened_size template pieces (length start + 1) xs)

-- ---- one atom of the template more

pub bare_none : (template : TemplateView) (pieces : List Piece) → bare_atoms_of template pieces 0 ≡ []
unfolding bare_atoms_of
bare_none template pieces = refl

pub open_none : (template : TemplateView) (pieces : List Piece) → loosened template pieces 1 (bare_atoms_of template pieces 0) ≡ []
unfolding bare_atoms_of
open_none template pieces = refl

pub bare_more : (template : TemplateView) (pieces : List Piece) (i : ℕ)
    → bare_atoms_of template pieces (i + 1) ≡ bare_atoms_of template pieces i ++ bare_atoms template (i + 1) (piece template pieces (i + 1))
unfolding bare_atoms_of
bare_more template pieces i = flat_more (λ x. bare_atoms template x (piece template pieces x)) i

pub bare_length : (template : TemplateView) (x : ℕ) (p : Piece) → length (bare_atoms template x p) ≡ width p
bare_length template x (Copies n) = length-replicate {A = GraphAtom} n (record { test = get_or template.atoms (x - 1) anything; free = 0 })
bare_length template x (Member part) = refl
bare_length template x (Hydrogens n) = length-replicate {A = GraphAtom} n hydrogen
bare_length template x Nothing = refl

pub bare_size : (template : TemplateView) (pieces : List Piece) (i : ℕ) → length (bare_atoms_of template pieces i) ≡ room template pieces i
unfolding bare_atoms_of
bare_size template pieces zero = sym (room_none template pieces)
bare_size template pieces (suc i) =
    let next : suc i ≡ i + 1 = omega arith in
    let step : flat_map (λ x. bare_atoms template x (piece template pieces x)) (numbers_to (suc i))
    ≡ flat_map (λ x. bare_atoms template x (piece template pieces x)) (numbers_to i) ++ bare_atoms template (i + 1) (piece template pieces (i + 1)) =
    ap (λ (k : ℕ). flat_map (λ x. bare_atoms template x (piece template pieces x)) (numbers_to k)) next ∙ flat_more (λ x. bare_atoms template x (piece template pieces x)) i in
    omega (
      arith,
      ap length step,
      length-append (flat_map (λ x. bare_atoms template x (piece template pieces x)) (numbers_to i)) (bare_atoms template (i + 1) (piece template pieces (i + 1))),
      bare_size template pieces i,
      bare_length template (i + 1) (piece template pieces (i + 1)),
      room_more template pieces i,
      ap (room template pieces) next,
    )

pub open_size : (template : TemplateView) (pieces : List Piece) (i : ℕ) (out : List GraphAtom) → out ≡ loosened template pieces 1 (bare_atoms_of template pieces i)
    → length out ≡ room template pieces i
open_size template pieces i out is = ap length is ∙ loosened_size template pieces 1 (bare_atoms_of template pieces i) ∙ bare_size template pieces i

pub open_more : (template : TemplateView) (pieces : List Piece) (i : ℕ) (out new : List GraphAtom) → out ≡ loosened template pieces 1 (bare_atoms_of template pieces i)
    → new ≡ out ++ loosened template pieces (length out + 1) (bare_atoms template (i + 1) (piece template pieces (i + 1)))
    → new ≡ loosened template pieces 1 (bare_atoms_of template pieces (i + 1))
open_more template pieces i out new is pushed =
    let long : length out + 1 ≡ 1 + length (bare_atoms_of template pieces i) = omega (arith, open_size template pieces i out is, bare_size template pieces i) in
    pushed ∙ ap (λ (q : ℕ). out ++ loosened template pieces q (bare_atoms template (i + 1) (piece template pieces (i + 1)))) long
    ∙ ap (λ (zs : List GraphAtom). zs ++ loosened template pieces (1 + length (bare_atoms_of template pieces i)) (bare_atoms template (i + 1) (piece template pieces (i + 1)))) is
    ∙ sym (loosened_append template pieces 1 (bare_atoms_of template pieces i) (bare_atoms template (i + 1) (piece template pieces (i + 1))))
    ∙ ap (loosened template pieces 1) (sym (bare_more template pieces i))

-- a beginning has no more items than asked for
pub taken_size : (i : ℕ) (xs : List GraphAtom) → length (take i xs) ≤ i
taken_size zero xs = omega arith
taken_size (suc i) [] = omega arith
taken_size (suc i) (x ∷ xs) = (let rest = taken_size i xs in omega (arith, rest))

-- there is room for what the atom at a place becomes
pub fits_there : (template : TemplateView) (pieces : List Piece) (takers loose : List ℕ) (i n : ℕ) → AreTakers template takers → AreLoose template pieces loose → i < length template.atoms
    → n ≡ width (piece_numbered pieces (get_or takers i 0)) → room template pieces i + n ≤ length loose
fits_there template pieces takers loose i n taken are below is =
    let number = taken.each i (omega (arith, taken.size, below)) in
    let wide : n ≡ width (piece_numbered pieces (taker template (i + 1))) = is ∙ ap (λ (k : ℕ). width (piece_numbered pieces k)) number in
    let up = room_within template pieces (i + 1) (length template.atoms) (omega arith) in
    omega (arith, room_more template pieces i, wide, up, are.size)
