-- What a part shares with a whole.
--     moved places bond               the bond at the places where the whole has its ends
--     IsShared part whole places      the part's atoms stand at these places of the whole
--     GrowsBy piece whole places      a piece of a part, and of the whole
--     AllGrow                         each of some pieces
use Rattle.std.proofs.Common.{◌≡◌, ◌∙◌, ℕ, zero, suc, ◌+◌, ◌-◌, ◌<◌, ◌≤◌, Bool, false, List, [], ◌∷◌, length, get_or, map, refl, sym, ap, arith}
use Rattle.std.specs.Prelude.{count_by, Contains}
use Rattle.std.proofs.lemmas.List.{get_or-map, length-map}
use Rattle.mk_model.specs.declared.graph.GraphAtom.{GraphAtom}
use Rattle.mk_model.specs.declared.template.QueryBond.{QueryBond}
use Rattle.mk_model.specs.Expansions.{is_hydrogens, is_nothing}
use Rattle.mk_model.specs.Hits.{image}
use Rattle.mk_model.specs.Pieces.{Fragment, Piece, numbers_to, piece_numbered, width}
use Rattle.mk_model.specs.Pieces.Piece.{Copies, Member, Hydrogens, Nothing}
use Rattle.mk_pieces.specs.Rooms.{AreEndsWithin}
use Rattle.mk_pieces.proofs.NumberLemmas.{mapped_at, mapped_length}
use Rattle.mk_open_codes.proofs.SpokeLemmas.{spoke}

-- the bond at the places where the whole has its ends
abbrev pub moved : List ℕ → QueryBond → QueryBond
moved places bond = record { first = image places bond.first; second = image places bond.second; kind = bond.kind; topology = bond.topology }

-- The atoms of the part stand in the whole at these places, in order: with the same tests, and with
-- all bonds of the part. Where a bond of the whole leads away from the part the atom has one free end
-- more in the part than in the whole.
pub record IsShared (part whole : Fragment) (places : List ℕ) : Type 0 where
  pub size : length places ≡ length part.atoms
  pub rise : (i j : ℕ) → 1 ≤ i → i < j → j ≤ length part.atoms → image places i < image places j
  pub within : (i : ℕ) → 1 ≤ i → i ≤ length part.atoms → (1 ≤ image places i) × (image places i ≤ length whole.atoms)
  pub tests : (i : ℕ) (d : GraphAtom) → 1 ≤ i → i ≤ length part.atoms → (get_or part.atoms (i - 1) d).test ≡ (get_or whole.atoms (image places i - 1) d).test
  pub ends : (bond : QueryBond) → Contains part.bonds bond → AreEndsWithin (length part.atoms) bond
  pub bonds : (bond : QueryBond) → Contains part.bonds bond → Contains whole.bonds (moved places bond)
  pub spokes : (P : ℕ → Bool) (i : ℕ) (d : GraphAtom) → 1 ≤ i → i ≤ length part.atoms
      → count_by (spoke P (image places i)) whole.bonds + (get_or whole.atoms (image places i - 1) d).free
      ≤ count_by (spoke (λ q. P (image places q)) i) part.bonds + (get_or part.atoms (i - 1) d).free
  pub lower : (P : ℕ → Bool) (i : ℕ) → 1 ≤ i → i ≤ length part.atoms
      → count_by (spoke (λ q. P (image places q)) i) part.bonds ≤ count_by (spoke P (image places i)) whole.bonds
  pub as_many : length part.points ≡ length whole.points
  pub points : (k : ℕ) → k < length whole.points
      → (1 ≤ get_or part.points k 0) × (get_or part.points k 0 ≤ length part.atoms) × (image places (get_or part.points k 0) ≡ get_or whole.points k 0)

-- ---- pieces

-- A piece of a part stands in a piece of the whole at these places: copies and hydrogens stay, a
-- member is shared with a member, and where nothing stood anything may stand.
abbrev pub GrowsBy : Piece → Piece → List ℕ → Type 0
GrowsBy (Copies n) (Copies m) places = (n ≡ m) × (places ≡ numbers_to n)
GrowsBy (Copies n) (Member whole) places = ⊥
GrowsBy (Copies n) (Hydrogens m) places = ⊥
GrowsBy (Copies n) Nothing places = ⊥
GrowsBy (Member part) (Copies m) places = ⊥
GrowsBy (Member part) (Member whole) places = IsShared part whole places
GrowsBy (Member part) (Hydrogens m) places = ⊥
GrowsBy (Member part) Nothing places = ⊥
GrowsBy (Hydrogens n) (Copies m) places = ⊥
GrowsBy (Hydrogens n) (Member whole) places = ⊥
GrowsBy (Hydrogens n) (Hydrogens m) places = (n ≡ m) × (places ≡ numbers_to n)
GrowsBy (Hydrogens n) Nothing places = ⊥
GrowsBy Nothing q places = places ≡ []

-- each of some pieces
abbrev pub AllGrow : List Piece → List Piece → List (List ℕ) → Type 0
AllGrow [] [] [] = Unit {0}
AllGrow (p ∷ ps) (q ∷ qs) (places ∷ others) = GrowsBy p q places × AllGrow ps qs others
AllGrow ps qs others = ⊥

-- the places of what slot number k has become
abbrev pub places_numbered : List (List ℕ) → ℕ → List ℕ
places_numbered others zero = numbers_to 1
places_numbered others (suc k) = get_or others k (numbers_to 1)

grows_at : (ps qs : List Piece) (others : List (List ℕ)) (k : ℕ) → AllGrow ps qs others → GrowsBy (get_or ps k (Copies 1)) (get_or qs k (Copies 1)) (get_or others k (numbers_to 1))
grows_at [] [] [] k all = (refl, refl)
grows_at [] [] (o ∷ others) k all = absurd all
grows_at [] (q ∷ qs) others k all = absurd all
grows_at (p ∷ ps) [] others k all = absurd all
grows_at (p ∷ ps) (q ∷ qs) [] k all = absurd all
grows_at (p ∷ ps) (q ∷ qs) (o ∷ others) zero all = all.0
grows_at (p ∷ ps) (q ∷ qs) (o ∷ others) (suc k) all = grows_at ps qs others k all.1

pub grows_numbered : (ps qs : List Piece) (others : List (List ℕ)) (n : ℕ) → AllGrow ps qs others → GrowsBy (piece_numbered ps n) (piece_numbered qs n) (places_numbered others n)
grows_numbered ps qs others zero all = (refl, refl)
grows_numbered ps qs others (suc k) all = grows_at ps qs others k all

pub same_size : (ps qs : List Piece) (others : List (List ℕ)) → AllGrow ps qs others → length ps ≡ length qs
same_size [] [] [] all = refl
same_size [] [] (o ∷ others) all = absurd all
same_size [] (q ∷ qs) others all = absurd all
same_size (p ∷ ps) [] others all = absurd all
same_size (p ∷ ps) (q ∷ qs) [] all = absurd all
same_size (p ∷ ps) (q ∷ qs) (o ∷ others) all = ap suc (same_size ps qs others all.1)

-- ---- one piece

pub numbers_size : (n : ℕ) → length (numbers_to n) ≡ n
numbers_size n = sym (length-map (numbers_to n) (λ (j : ℕ). j)) ∙ mapped_length (λ j. j) n

pub numbers_image : (n j : ℕ) → 1 ≤ j → j ≤ n → image (numbers_to n) j ≡ j
numbers_image n j least most =
    let below : j - 1 < n = omega arith in
    let there : get_or (map (λ (i : ℕ). i) (numbers_to n)) (j - 1) 0 ≡ 1 + (j - 1) = mapped_at (λ i. i) n (j - 1) 0 below in
    let here : get_or (map (λ (i : ℕ). i) (numbers_to n)) (j - 1) 0 ≡ get_or (numbers_to n) (j - 1) 0 = get_or-map (λ (i : ℕ). i) (numbers_to n) (j - 1) 0 0 (omega (arith, numbers_size n)) in
    omega (arith, here, there)

pub grown_size : (p q : Piece) (places : List ℕ) → GrowsBy p q places → length places ≡ width p
grown_size (Copies n) (Copies m) places is = ap length is.1 ∙ numbers_size n
grown_size (Copies n) (Member whole) places is = absurd is
grown_size (Copies n) (Hydrogens m) places is = absurd is
grown_size (Copies n) Nothing places is = absurd is
grown_size (Member part) (Copies m) places is = absurd is
grown_size (Member part) (Member whole) places is = is.size
grown_size (Member part) (Hydrogens m) places is = absurd is
grown_size (Member part) Nothing places is = absurd is
grown_size (Hydrogens n) (Copies m) places is = absurd is
grown_size (Hydrogens n) (Member whole) places is = absurd is
grown_size (Hydrogens n) (Hydrogens m) places is = ap length is.1 ∙ numbers_size n
grown_size (Hydrogens n) Nothing places is = absurd is
grown_size Nothing q places is = ap length is

-- the places of a piece are among those of the whole's, and rise
pub record ArePlaces (wide whole : ℕ) (places : List ℕ) : Type 0 where
  pub within : (j : ℕ) → 1 ≤ j → j ≤ wide → (1 ≤ image places j) × (image places j ≤ whole)
  pub rise : (i j : ℕ) → 1 ≤ i → i < j → j ≤ wide → image places i < image places j

own_places : (n m : ℕ) (places : List ℕ) → n ≡ m → places ≡ numbers_to n → ArePlaces n m places
own_places n m places same is = record {
  within = λ j least most. rw (is, numbers_image n j least most) (least, omega (arith, same, most));
  rise = λ i j least less most. rw is (omega (arith, numbers_image n i least (omega (arith, less, most)), numbers_image n j (omega (arith, least, less)) most, less));
}

pub are_places : (p q : Piece) (places : List ℕ) → GrowsBy p q places → ArePlaces (width p) (width q) places
are_places (Copies n) (Copies m) places is = own_places n m places is.0 is.1
are_places (Copies n) (Member whole) places is = absurd is
are_places (Copies n) (Hydrogens m) places is = absurd is
are_places (Copies n) Nothing places is = absurd is
are_places (Member part) (Copies m) places is = absurd is
are_places (Member part) (Member whole) places is = record { within = is.within; rise = is.rise }
are_places (Member part) (Hydrogens m) places is = absurd is
are_places (Member part) Nothing places is = absurd is
are_places (Hydrogens n) (Copies m) places is = absurd is
are_places (Hydrogens n) (Member whole) places is = absurd is
are_places (Hydrogens n) (Hydrogens m) places is = own_places n m places is.0 is.1
are_places (Hydrogens n) Nothing places is = absurd is
are_places Nothing q places is = record { within = λ j least most. absurd (omega arith); rise = λ i j least less most. absurd (omega arith) }

-- what stands in the part stands in the whole, and is of its kind
pub still_stands : (p q : Piece) (places : List ℕ) → GrowsBy p q places → is_nothing p ≡ false → (is_nothing q ≡ false) × (is_hydrogens q ≡ is_hydrogens p)
still_stands (Copies n) (Copies m) places is some = (refl, refl)
still_stands (Copies n) (Member whole) places is some = absurd is
still_stands (Copies n) (Hydrogens m) places is some = absurd is
still_stands (Copies n) Nothing places is some = absurd is
still_stands (Member part) (Copies m) places is some = absurd is
still_stands (Member part) (Member whole) places is some = (refl, refl)
still_stands (Member part) (Hydrogens m) places is some = absurd is
still_stands (Member part) Nothing places is some = absurd is
still_stands (Hydrogens n) (Copies m) places is some = absurd is
still_stands (Hydrogens n) (Member whole) places is some = absurd is
still_stands (Hydrogens n) (Hydrogens m) places is some = (refl, refl)
still_stands (Hydrogens n) Nothing places is some = absurd is
still_stands Nothing q places is some = absurd cc
