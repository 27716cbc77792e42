-- Where the atoms of a part stand in the whole: one template.
--     laid_length, laid_at      a list made for each atom of a template
--     IsLevel                   a template whose slots have become pieces in a part and in the whole
--     level_places              the places of the part's atoms in the whole
--     IsPlaceOf x j p           place p is the j-th of what atom x becomes
--     owner                     each place is one of some atom
--     image_at                  the place in the whole
--     image_of, one_owner       what it belongs to there
--     level_rise, same_place    places rise, and differ where they differed
--     ending_moved              an end of a bond in the part, and in the whole
use Rattle.std.proofs.Common.{◌≡◌, ◌∙◌, ℕ, zero, suc, ◌+◌, ◌-◌, ◌<◌, ◌≤◌, inl, inr, Bool, true, false, cond, eqb, List, [], ◌∷◌, ◌++◌, length, get_or, map, refl, sym, ap, subst, arith}
use Rattle.std.specs.List.{flat_map}
use Rattle.std.proofs.lemmas.Bool.{cases_eq, cases_lt}
use Rattle.std.proofs.lemmas.Bool.Decides.{nat_tests}
use Rattle.std.proofs.lemmas.List.{get_or_append_left, get_or-append-add, get_or-map, length-append, length-map}
use Rattle.mk_model.specs.Expansions.{is_nothing}
use Rattle.mk_model.specs.Hits.{image}
use Rattle.mk_model.specs.Pieces.{Piece, before, end_of, ending, is_far_of, numbers_to, piece, room, taker, width}
use Rattle.mk_model.specs.Pieces.Piece.{Copies, Member, Hydrogens, Nothing}
use Rattle.mk_model.specs.QueryFits.{HasSitesApart, IsAtomOf}
use Rattle.mk_model.specs.Templates.{TemplateView}
use Rattle.mk_pieces.specs.Kept.{IsTemplate}
use Rattle.mk_pieces.proofs.DrawnLemmas.{piece_ends}
use Rattle.mk_pieces.proofs.NumberLemmas.{flat_more}
use Rattle.mk_pieces.proofs.PieceLemmas.{FitSlots, all_stand}
use Rattle.mk_pieces.proofs.SpanLemmas.{IsOf, is_of, room_more, room_none, room_of, room_within}
use Rattle.mk_open_codes.proofs.SharedLemmas.{AllGrow, ArePlaces, GrowsBy, are_places, grown_size, grows_numbered, numbers_image, places_numbered, still_stands}

-- ---- lists made for each atom

module _ (template : TemplateView) (pieces : List Piece) {A : Type 0} (f : ℕ → List A) (wide : (x : ℕ) → length (f x) ≡ width (piece template pieces x)) where
  flat_suc : (m : ℕ) → flat_map f (numbers_to (suc m)) ≡ flat_map f (numbers_to m) ++ f (m + 1)
  flat_suc m = (let next : suc m ≡ m + 1 = omega arith in ap (λ (k : ℕ). flat_map f (numbers_to k)) next ∙ flat_more f m)

  pub laid_length : (m : ℕ) → length (flat_map f (numbers_to m)) ≡ room template pieces m
  laid_length zero = sym (room_none template pieces)
  laid_length (suc m) =
      let next : suc m ≡ m + 1 = omega arith in
      let more : room template pieces (suc m) ≡ room template pieces (m + 1) = ap (room template pieces) next in
      omega (arith, ap length (flat_suc m), length-append (flat_map f (numbers_to m)) (f (m + 1)), laid_length m, wide (m + 1), room_more template pieces m, more)

  pub laid_at : (m x j : ℕ) (d : A) → 1 ≤ x → x ≤ m → j < width (piece template pieces x) → get_or (flat_map f (numbers_to m)) (before template pieces x + j) d ≡ get_or (f x) j d
  laid_at zero x j d least most below = absurd (omega arith)
  laid_at (suc m) x j d least most below =
      let long = laid_length m in
      ap (λ (xs : List A). get_or xs (before template pieces x + j) d) (flat_suc m) ∙ (elim (cases_lt m x) [
        | inl last ↦
            (let same : x ≡ m + 1 = omega arith in
            let end : x - 1 ≡ m = omega arith in
            let start : before template pieces x ≡ room template pieces m = ap (room template pieces) end in
            let place : before template pieces x + j ≡ length (flat_map f (numbers_to m)) + j = omega (arith, start, long) in
            ap (λ (i : ℕ). get_or (flat_map f (numbers_to m) ++ f (m + 1)) i d) place
            ∙ get_or-append-add (flat_map f (numbers_to m)) (f (m + 1)) j d ∙ ap (λ (z : ℕ). get_or (f z) j d) (sym same))
        | inr early ↦
            (let up = room_within template pieces x m early in
            get_or_append_left (flat_map f (numbers_to m)) (f (m + 1)) d (before template pieces x + j) (omega (arith, long, up, room_of template pieces x least, below))
            ∙ laid_at m x j d least early below)
      ])

-- ---- a template in a part and in the whole

-- the slots of a template have become pieces in a part and in the whole, and each piece of the part
-- stands in the whole's
pub record IsLevel (template : TemplateView) (ps qs : List Piece) (others : List (List ℕ)) : Type 0 where
  pub kept : IsTemplate template
  pub apart : HasSitesApart template
  pub fit : FitSlots template.slots qs
  pub grow : AllGrow ps qs others

-- the places of what atom x becomes, within what it becomes in the whole
abbrev pub own_places : TemplateView → List (List ℕ) → ℕ → List ℕ
own_places template others x = places_numbered others (taker template x)

-- the same in the whole
abbrev pub whole_places : TemplateView → List Piece → List (List ℕ) → ℕ → List ℕ
whole_places template qs others x = map (λ j. before template qs x + j) (own_places template others x)

-- the places of all atoms of the part
unfoldable pub level_places : TemplateView → List Piece → List (List ℕ) → List ℕ
level_places template qs others = flat_map (whole_places template qs others) (numbers_to (length template.atoms))

-- place p is the j-th of those that atom x becomes
pub record IsPlaceOf (template : TemplateView) (pieces : List Piece) (x j p : ℕ) : Type 0 where
  pub at : IsAtomOf template x
  pub least : 1 ≤ j
  pub most : j ≤ width (piece template pieces x)
  pub is : before template pieces x + j ≡ p

pub record IsOwned (template : TemplateView) (pieces : List Piece) (p : ℕ) : Type 0 where
  pub x : ℕ
  pub j : ℕ
  pub place : IsPlaceOf template pieces x j p

owner_among : (template : TemplateView) (pieces : List Piece) (n p : ℕ) → n ≤ length template.atoms → 1 ≤ p → p ≤ room template pieces n → IsOwned template pieces p
owner_among template pieces zero p up least most = absurd (omega (arith, room_none template pieces))
owner_among template pieces (suc n) p up least most = elim (cases_lt (room template pieces n) p) [
  | inl behind ↦
      (let same : suc n - 1 ≡ n = omega arith in
      let start : before template pieces (suc n) ≡ room template pieces n = ap (room template pieces) same in
      let wide = room_of template pieces (suc n) (omega arith) in
      record { x = suc n; j = p - room template pieces n; place = record { at = (omega arith, up); least = omega arith; most = omega (arith, wide, start, most); is = omega (arith, start, behind) } })
  | inr early ↦ owner_among template pieces n p (omega arith) least early
]

pub owner : (template : TemplateView) (pieces : List Piece) (p : ℕ) → 1 ≤ p → p ≤ room template pieces (length template.atoms) → IsOwned template pieces p
owner template pieces p least most = owner_among template pieces (length template.atoms) p (omega arith) least most

pub place_of : (template : TemplateView) (pieces : List Piece) (x j p : ℕ) → IsPlaceOf template pieces x j p → IsOf template pieces x p
place_of template pieces x j p place = subst (IsOf template pieces x) place.is (is_of template pieces x j place.at.0 place.least place.most)

-- it is one of all places
pub place_within : (template : TemplateView) (pieces : List Piece) (x j p : ℕ) → IsPlaceOf template pieces x j p → (1 ≤ p) × (p ≤ room template pieces (length template.atoms))
place_within template pieces x j p place =
    let up = room_within template pieces x (length template.atoms) place.at.1 in
    (omega (arith, place.is, place.least), omega (arith, place.is, place.most, up, room_of template pieces x place.at.0))

module _ (template : TemplateView) (ps qs : List Piece) (others : List (List ℕ)) (level : IsLevel template ps qs others) where
  pub grows : (x : ℕ) → GrowsBy (piece template ps x) (piece template qs x) (own_places template others x)
  grows x = grows_numbered ps qs others (taker template x) level.grow

  whole_size : (x : ℕ) → length (whole_places template qs others x) ≡ width (piece template ps x)
  whole_size x = length-map (own_places template others x) (λ j. before template qs x + j) ∙ grown_size (piece template ps x) (piece template qs x) (own_places template others x) (grows x)

  pub level_size : length (level_places template qs others) ≡ room template ps (length template.atoms)
  unfolding level_places
  level_size = laid_length template ps (whole_places template qs others) whole_size (length template.atoms)

  own : (x : ℕ) → ArePlaces (width (piece template ps x)) (width (piece template qs x)) (own_places template others x)
  own x = are_places (piece template ps x) (piece template qs x) (own_places template others x) (grows x)

  -- the place in the whole
  pub image_at : (x j p : ℕ) → IsPlaceOf template ps x j p → image (level_places template qs others) p ≡ before template qs x + image (own_places template others x) j
  unfolding level_places
  image_at x j p place =
      let start : p - 1 ≡ before template ps x + (j - 1) = omega (arith, place.is, place.least) in
      let below : j - 1 < length (own_places template others x) =
      omega (arith, place.least, place.most, grown_size (piece template ps x) (piece template qs x) (own_places template others x) (grows x)) in
      ap (λ (i : ℕ). get_or (flat_map (whole_places template qs others) (numbers_to (length template.atoms))) i 0) start
      ∙ laid_at template ps (whole_places template qs others) whole_size (length template.atoms) x (j - 1) 0 place.at.0 place.at.1 (omega (arith, place.least, place.most))
      ∙ get_or-map (λ j. before template qs x + j) (own_places template others x) (j - 1) 0 0 below

  pub image_place : (x j p : ℕ) → IsPlaceOf template ps x j p → IsPlaceOf template qs x (image (own_places template others x) j) (image (level_places template qs others) p)
  image_place x j p place =
      let there = (own x).within j place.least place.most in
      record { at = place.at; least = there.0; most = there.1; is = sym (image_at x j p place) }

  pub image_of : (x j p : ℕ) → IsPlaceOf template ps x j p → IsOf template qs x (image (level_places template qs others) p)
  image_of x j p place = place_of template qs x (image (own_places template others x) j) (image (level_places template qs others) p) (image_place x j p place)

  -- places rise
  pub level_rise : (p q : ℕ) → 1 ≤ p → p < q → q ≤ room template ps (length template.atoms) → image (level_places template qs others) p < image (level_places template qs others) q
  level_rise p q least less most = elim (cases_lt one.x other.x) [
    | inl early ↦ (let a = image_of one.x one.j p one.place in let b = image_of other.x other.j q other.place in
        let up = room_within template qs one.x (other.x - 1) (omega arith) in omega (arith, a.upto, up, b.above))
    | inr late ↦ (let same : one.x ≡ other.x = not_later late in
        let less' : one.j < other.j = omega (arith, one.place.is, other.place.is, ap (before template ps) same) in
        let wide : other.j ≤ width (piece template ps one.x) = subst (λ (x : ℕ). other.j ≤ width (piece template ps x)) (sym same) other.place.most in
        let up = (own one.x).rise one.j other.j one.place.least less' wide in
        let a = image_at one.x one.j p one.place in
        let b = image_at other.x other.j q other.place in
        let c : before template qs one.x + image (own_places template others one.x) other.j ≡ before template qs other.x + image (own_places template others other.x) other.j =
        ap (λ (x : ℕ). before template qs x + image (own_places template others x) other.j) same in
        omega (arith, a, b, c, up))
  ]
    where
      one : IsOwned template ps p
      one = owner template ps p least (omega arith)

      other : IsOwned template ps q
      other = owner template ps q (omega arith) most

      not_later : other.x ≤ one.x → one.x ≡ other.x
      not_later late =
          let a = place_of template ps one.x one.j p one.place in
          let b = place_of template ps other.x other.j q other.place in
          elim (cases_lt other.x one.x) [
            | inl later ↦ absurd (let up = room_within template ps other.x (one.x - 1) (omega arith) in omega (arith, b.upto, up, a.above))
            | inr upto ↦ omega arith
          ]

  -- and differ where they differed
  pub same_place : (p q : ℕ) → 1 ≤ p → p ≤ room template ps (length template.atoms) → 1 ≤ q → q ≤ room template ps (length template.atoms)
      → eqb (image (level_places template qs others) p) (image (level_places template qs others) q) ≡ eqb p q
  same_place p q least most least' most' = elim (cases_eq p q) [
    | inl same ↦ (let here : image (level_places template qs others) p ≡ image (level_places template qs others) q = ap (image (level_places template qs others)) same in grind (arith, nat_tests))
    | inr differ ↦ elim (cases_lt p q) [
      | inl less ↦ (let up = level_rise p q least less most' in grind (arith, nat_tests))
      | inr more ↦ (let up = level_rise q p least' (omega arith) most in grind (arith, nat_tests))
    ]
  ]

  -- ---- the ends of bonds

  -- an end of a piece in the part, and in the whole
  pub record IsEndMoved (x y : ℕ) : Type 0 where
    pub place : IsPlaceOf template ps x (end_of (piece template ps x) (is_far_of template.slots (taker template x) x y)) (ending template ps x y)
    pub is : image (level_places template qs others) (ending template ps x y) ≡ ending template qs x y

  end_moved : (p q : Piece) (places : List ℕ) (far : Bool) → GrowsBy p q places → is_nothing p ≡ false → 1 ≤ end_of q far → end_of q far ≤ width q
      → (1 ≤ end_of p far) × (end_of p far ≤ width p) × (image places (end_of p far) ≡ end_of q far)
  end_moved (Copies n) (Copies m) places far is some least most = same (cond far m 1) (cond far n 1) (by far) least most
    where
      by : (f : Bool) → cond f m 1 ≡ cond f n 1
      by true = sym is.0
      by false = refl

      same : (a b : ℕ) → a ≡ b → 1 ≤ a → a ≤ m → (1 ≤ b) × (b ≤ n) × (image places b ≡ a)
      same a b e low up = (omega (arith, e), omega (arith, e, is.0), rw is.1 (numbers_image n b (omega (arith, e)) (omega (arith, e, is.0)) ∙ sym e))
  end_moved (Copies n) (Member whole) places far is some least most = absurd is
  end_moved (Copies n) (Hydrogens m) places far is some least most = absurd is
  end_moved (Copies n) Nothing places far is some least most = absurd is
  end_moved (Member part) (Copies m) places far is some least most = absurd is
  end_moved (Member part) (Member whole) places far is some least most = by (cond far 1 0) least
    where
      by : (k : ℕ) → 1 ≤ get_or whole.points k 0 → (1 ≤ get_or part.points k 0) × (get_or part.points k 0 ≤ length part.atoms) × (image places (get_or part.points k 0) ≡ get_or whole.points k 0)
      by k low = elim (cases_lt k (length whole.points)) [
        | inl inside ↦ is.points k inside
        | inr past ↦ absurd (let none = past_points whole.points k past in omega (arith, none, low))
      ]
        where
          past_points : (xs : List ℕ) (i : ℕ) → length xs ≤ i → get_or xs i 0 ≡ 0
          past_points [] i over = refl
          past_points (x ∷ xs) zero over = absurd (omega arith)
          past_points (x ∷ xs) (suc i) over = past_points xs i (omega arith)
  end_moved (Member part) (Hydrogens m) places far is some least most = absurd is
  end_moved (Member part) Nothing places far is some least most = absurd is
  end_moved (Hydrogens n) (Copies m) places far is some least most = absurd is
  end_moved (Hydrogens n) (Member whole) places far is some least most = absurd is
  end_moved (Hydrogens n) (Hydrogens m) places far is some least most =
      (least, omega (arith, most, is.0), rw is.1 (numbers_image n (cond far 2 1) least (omega (arith, most, is.0))))
  end_moved (Hydrogens n) Nothing places far is some least most = absurd is
  end_moved Nothing q places far is some least most = absurd cc

  pub ending_moved : (x y : ℕ) → IsAtomOf template x → 1 ≤ y → is_nothing (piece template ps x) ≡ false → IsEndMoved x y
  unfolding ending
  ending_moved x y at least some =
      let far = is_far_of template.slots (taker template x) x y in
      let stands = still_stands (piece template ps x) (piece template qs x) (own_places template others x) (grows x) some in
      let ends = piece_ends template qs (all_stand template.slots qs level.fit) x y least stands.0 in
      let end = end_moved (piece template ps x) (piece template qs x) (own_places template others x) far (grows x) some ends.0 ends.1 in
      let place : IsPlaceOf template ps x (end_of (piece template ps x) far) (before template ps x + end_of (piece template ps x) far) = record { at = at; least = end.0; most = end.1; is = refl } in
      record {
        place = place;
        is = image_at x (end_of (piece template ps x) far) (before template ps x + end_of (piece template ps x) far) place ∙ ap (λ (e : ℕ). before template qs x + e) end.2;
      }
