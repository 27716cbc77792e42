-- Pieces that fit their slots.
--     FitsSlot, FitSlots        a piece fits its slot, and each piece its slot
--     fit_at, fit_length        at a place
--     fit_end                   the ends of a piece are among its atoms
--     MayStand, MayAllStand     a piece fits its slot, or nothing stands there
--     stand_at, stand_length, stand_end      the same of these
use Rattle.std.proofs.Common.{◌≡◌, ◌⊎◌, inl, inr, ℕ, zero, suc, ◌<◌, ◌≤◌, Bool, true, false, cond, ◌&&◌, eqb, List, [], ◌∷◌, length, get_or, refl, ap, arith}
use Rattle.std.proofs.lemmas.Bool.Decides.{nat_tests}
use Rattle.mk_model.specs.Pieces.{Piece}
use Rattle.mk_model.specs.Pieces.Piece.{Copies, Member, Hydrogens, Nothing}
use Rattle.mk_model.specs.declared.template.Slot.{Slot}
use Rattle.mk_model.specs.declared.template.Slot.TheVariants.{Link, Site}
use Rattle.mk_model.specs.Pieces.{width, end_of, is_far}
use Rattle.mk_model.specs.Expansions.{is_nothing}
use Rattle.mk_pieces.specs.Fragments.{IsFragment}

-- how many neighbours a site has
abbrev pub neighbours : ℕ → ℕ
neighbours second = cond (eqb second 0) 1 2

-- a link becomes copies, a site a fragment with as many points as it has neighbours, as many hydrogens, or nothing
abbrev pub FitsSlot : Slot → Piece → Type 0
FitsSlot (Link atom most from to) (Copies n) = (1 ≤ n) × (n ≤ most)
FitsSlot (Link atom most from to) (Member part) = ⊥
FitsSlot (Link atom most from to) (Hydrogens n) = ⊥
FitsSlot (Link atom most from to) Nothing = ⊥
FitsSlot (Site atom groups first second) (Copies n) = ⊥
FitsSlot (Site atom groups first second) (Member part) = IsFragment part × (length part.points ≡ neighbours second)
FitsSlot (Site atom groups first second) (Hydrogens n) = n ≡ neighbours second
FitsSlot (Site atom groups first second) Nothing = Unit {0}

abbrev pub FitSlots : List Slot → List Piece → Type 0
FitSlots [] [] = Unit {0}
FitSlots [] (piece ∷ pieces) = ⊥
FitSlots (slot ∷ slots) [] = ⊥
FitSlots (slot ∷ slots) (piece ∷ pieces) = FitsSlot slot piece × FitSlots slots pieces

pub fit_length : (slots : List Slot) (pieces : List Piece) → FitSlots slots pieces → length pieces ≡ length slots
fit_length [] [] fit = refl
fit_length [] (piece ∷ pieces) fit = absurd fit
fit_length (slot ∷ slots) [] fit = absurd fit
fit_length (slot ∷ slots) (piece ∷ pieces) fit = ap suc (fit_length slots pieces fit.1)

pub fit_at : (slots : List Slot) (pieces : List Piece) (k : ℕ) (d : Slot) (e : Piece) → k < length slots → FitSlots slots pieces → FitsSlot (get_or slots k d) (get_or pieces k e)
fit_at [] pieces k d e below fit = absurd (omega arith)
fit_at (slot ∷ slots) [] k d e below fit = absurd fit
fit_at (slot ∷ slots) (piece ∷ pieces) zero d e below fit = fit.0
fit_at (slot ∷ slots) (piece ∷ pieces) (suc k) d e below fit = fit_at slots pieces k d e (omega arith) fit.1

-- a site has one neighbour at least, and two where it has a second
pub some_neighbours : (second : ℕ) → (1 ≤ neighbours second) × (neighbours second ≤ 2)
some_neighbours zero = (omega arith, omega arith)
some_neighbours (suc second) = (let other : eqb (suc second) 0 ≡ false = grind (arith, nat_tests) in rw other (omega arith, omega arith))

pub two_neighbours : (second y : ℕ) → 1 ≤ y → eqb second y ≡ true → neighbours second ≡ 2
two_neighbours zero y least is = absurd (let same : 0 ≡ y = grind (arith, nat_tests) in omega arith)
two_neighbours (suc second) y least is = (let other : eqb (suc second) 0 ≡ false = grind (arith, nat_tests) in rw other refl)

-- The ends of a piece are among its atoms.
record EndsWithin (piece : Piece) (far : Bool) : Type 0 where
  least : 1 ≤ end_of piece far
  most : end_of piece far ≤ width piece

pub far_second : (atom second x y : ℕ) → (eqb atom x && eqb second y) ≡ true → eqb second y ≡ true
far_second atom second x y is = by (eqb atom x) (eqb second y) is
  where
    by : (a b : Bool) → (a && b) ≡ true → b ≡ true
    by true b is = is
    by false b is = absurd cc

pub fit_end : (slot : Slot) (piece : Piece) (x y : ℕ) → 1 ≤ y → FitsSlot slot piece → is_nothing piece ≡ false → (1 ≤ end_of piece (is_far slot x y)) × (end_of piece (is_far slot x y) ≤ width piece)
fit_end (Link atom most from to) (Copies n) x y least fit some = by (eqb atom x && eqb to y)
  where
    by : (far : Bool) → (1 ≤ cond far n 1) × (cond far n 1 ≤ n)
    by true = (fit.0, omega arith)
    by false = (omega arith, fit.0)
fit_end (Link atom most from to) (Member part) x y least fit some = absurd fit
fit_end (Link atom most from to) (Hydrogens n) x y least fit some = absurd fit
fit_end (Link atom most from to) Nothing x y least fit some = absurd fit
fit_end (Site atom groups first second) (Copies n) x y least fit some = absurd fit
fit_end (Site atom groups first second) (Member part) x y least fit some = by (eqb atom x && eqb second y) refl
  where
    by : (far : Bool) → (eqb atom x && eqb second y) ≡ far → (1 ≤ get_or part.points (cond far 1 0) 0) × (get_or part.points (cond far 1 0) 0 ≤ length part.atoms)
    by true is = fit.0.points 1 0 (omega (arith, fit.1, two_neighbours second y least (far_second atom second x y is)))
    by false is = fit.0.points 0 0 (omega (arith, fit.1, some_neighbours second))
fit_end (Site atom groups first second) (Hydrogens n) x y least fit some = by (eqb atom x && eqb second y) refl
  where
    by : (far : Bool) → (eqb atom x && eqb second y) ≡ far → (1 ≤ cond far 2 1) × (cond far 2 1 ≤ n)
    by true is = (omega arith, omega (arith, fit, two_neighbours second y least (far_second atom second x y is)))
    by false is = (omega arith, omega (arith, fit, some_neighbours second))
fit_end (Site atom groups first second) Nothing x y least fit some = absurd cc

-- ---- slots where nothing may stand

-- the piece fits its slot, or nothing stands there, as where a slot is left open
abbrev pub MayStand : Slot → Piece → Type 0
MayStand slot piece = (piece ≡ Nothing) ⊎ FitsSlot slot piece

abbrev pub MayAllStand : List Slot → List Piece → Type 0
MayAllStand [] [] = Unit {0}
MayAllStand [] (piece ∷ pieces) = ⊥
MayAllStand (slot ∷ slots) [] = ⊥
MayAllStand (slot ∷ slots) (piece ∷ pieces) = MayStand slot piece × MayAllStand slots pieces

-- pieces that fit may stand
pub all_stand : (slots : List Slot) (pieces : List Piece) → FitSlots slots pieces → MayAllStand slots pieces
all_stand [] [] fit = tt
all_stand [] (piece ∷ pieces) fit = absurd fit
all_stand (slot ∷ slots) [] fit = absurd fit
all_stand (slot ∷ slots) (piece ∷ pieces) fit = (inr fit.0, all_stand slots pieces fit.1)

pub stand_length : (slots : List Slot) (pieces : List Piece) → MayAllStand slots pieces → length pieces ≡ length slots
stand_length [] [] stand = refl
stand_length [] (piece ∷ pieces) stand = absurd stand
stand_length (slot ∷ slots) [] stand = absurd stand
stand_length (slot ∷ slots) (piece ∷ pieces) stand = ap suc (stand_length slots pieces stand.1)

pub stand_at : (slots : List Slot) (pieces : List Piece) (k : ℕ) (d : Slot) (e : Piece) → k < length slots → MayAllStand slots pieces → MayStand (get_or slots k d) (get_or pieces k e)
stand_at [] pieces k d e below stand = absurd (omega arith)
stand_at (slot ∷ slots) [] k d e below stand = absurd stand
stand_at (slot ∷ slots) (piece ∷ pieces) zero d e below stand = stand.0
stand_at (slot ∷ slots) (piece ∷ pieces) (suc k) d e below stand = stand_at slots pieces k d e (omega arith) stand.1

pub stand_end : (slot : Slot) (piece : Piece) (x y : ℕ) → 1 ≤ y → MayStand slot piece → is_nothing piece ≡ false
    → (1 ≤ end_of piece (is_far slot x y)) × (end_of piece (is_far slot x y) ≤ width piece)
stand_end slot piece x y least (inl none) some = absurd (let is : is_nothing piece ≡ true = ap is_nothing none in cc)
stand_end slot piece x y least (inr fit) some = fit_end slot piece x y least fit some
