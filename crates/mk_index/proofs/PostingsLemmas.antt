-- Rows by their numbers and by their places.
--     found_at, item_there        the row that holds a number, and what a number holds
--     next_found, none_found      the next candidate
--     have_screens                each molecule has a screen
--     looks_found                 the looks at screens are looks at eligible numbers
use Rattle.std.proofs.Common.{◌≡◌, ℕ, zero, suc, ◌+◌, ◌<◌, ◌≤◌, inl, inr, true, List, [], ◌∷◌, length, get_or, nat_eq, nat_lt, Some, None, refl, sym, ap, subst, ◌∙◌, arith}
use Rattle.std.specs.List.{AllByRecursion}
use Rattle.std.proofs.lemmas.Bool.{cases_Bool, cases_lt, eqb-true, eq-eqb, ltb-false, ltb-true, ne_eqb, or_right}
use Rattle.std.proofs.lemmas.Grind.{common_steps}
use Rattle.mk_model.specs.Molecules.{Molecule}
use Rattle.mk_model.specs.declared.screen.Screen.{Screen}
use Rattle.mk_model.specs.Screens.{Covers, IsScreen, IsScreenOf, Shown, shown_by_mol}
use Rattle.mk_rows.specs.declared.by_number.Numbered.{Numbered}
use Rattle.mk_rows.specs.Rows.{holds, item_at, IsRising, number_of, place_of}
use Rattle.mk_index.specs.Shelf.{AreScreens}
use Rattle.mk_index.specs.Looking.{IsFirstFrom, IsLookedAt, IsPostedAt, LooksTo, NoneCovers}
use Rattle.mk_index.specs.Postings.{HaveScreens, CountsEach, IsCandidate, IsEligible, IsNextCandidate, IsUpTo, LooksFor, NoCandidate}
use Rattle.mk_rows.proofs.ForCallers.{number_is}
use Rattle.mk_index.proofs.CountsLemmas.{counts_mapped}
use Rattle.mk_index.proofs.BesideLemmas.{beside_at, beside_size}

-- ---- two screens of one molecule

covers_other : (shown : Shown) (a b need : Screen) → IsScreen shown a → IsScreen shown b → Covers a need → Covers b need
covers_other shown a b need is_a is_b covers = record {
  counts = λ i below. (let same : a.counts ≡ b.counts = is_a.counts ∙ sym is_b.counts in let asked = covers.counts i below in rw same at asked);
  bits = λ bit below needed. (is_b.bits bit below).1 ((is_a.bits bit below).0 (covers.bits bit below needed));
}

-- ---- rows by places and by numbers

module _ {T : Type 0} where
  -- the row that holds a number
  pub record IsRowOf (rows : List (Numbered T)) (n : ℕ) (item : T) : Type 0 where
    pub place : ℕ
    pub within : place < length rows
    pub number : (d : Numbered T) → (get_or rows place d).number ≡ n
    pub item_is : (d : Numbered T) → (get_or rows place d).item ≡ item

  pub found_at : (rows : List (Numbered T)) (n : ℕ) (item : T) → item_at n rows ≡ Some item → IsRowOf rows n item
  found_at [] n item at = absurd cc
  found_at (row ∷ rows) n item at = elim (cases_Bool (nat_eq row.number n)) [
    | inl same ↦ (let here : Some row.item ≡ Some item = rw same at at
        in record {
          place = 0;
          within = omega arith;
          number = λ d. eqb-true row.number n same;
          item_is = λ d. (let e : row.item ≡ item = cc in e);
        })
    | inr differs ↦
        (let later : item_at n rows ≡ Some item = rw differs at at in
        let found = found_at rows n item later in
        record { place = suc found.place; within = (let below = found.within in omega arith); number = found.number; item_is = found.item_is })
  ]

  above_at : (n : ℕ) (rows : List (Numbered T)) → AllByRecursion (λ later. n < later.number) rows → (i : ℕ) (d : Numbered T) → i < length rows → n < (get_or rows i d).number
  above_at n [] h i d within = absurd (omega arith)
  above_at n (row ∷ rows) h zero d within = h.0
  above_at n (row ∷ rows) h (suc i) d within = above_at n rows h.1 i d (omega arith)

  -- what the number of a row holds
  pub item_there : (rows : List (Numbered T)) → IsRising rows → (i : ℕ) (d : Numbered T) → i < length rows → item_at (get_or rows i d).number rows ≡ Some (get_or rows i d).item
  item_there [] rising i d within = absurd (omega arith)
  item_there (row ∷ rows) rising zero d within = rw (eq-eqb row.number row.number refl) refl
  item_there (row ∷ rows) rising (suc i) d within =
      let over : row.number < (get_or rows i d).number = above_at row.number rows rising.0 i d (omega arith) in
      rw (ne_eqb row.number (get_or rows i d).number (λ same. absurd (omega arith))) (item_there rows rising.1 i d (omega arith))

  pub held_there : (rows : List (Numbered T)) (i : ℕ) (d : Numbered T) → i < length rows → holds (get_or rows i d).number rows ≡ true
  held_there [] i d within = absurd (omega arith)
  held_there (row ∷ rows) zero d within = rw (eq-eqb row.number row.number refl) refl
  held_there (row ∷ rows) (suc i) d within = or_right (nat_eq row.number (get_or rows i d).number) (holds (get_or rows i d).number rows) (held_there rows i d (omega arith))

  pub numbers_rise : (rows : List (Numbered T)) → IsRising rows → (i j : ℕ) (d : Numbered T) → i < j → j < length rows → (get_or rows i d).number < (get_or rows j d).number
  numbers_rise [] rising i j d order within = absurd (omega arith)
  numbers_rise (row ∷ rows) rising i zero d order within = absurd (omega arith)
  numbers_rise (row ∷ rows) rising zero (suc j) d order within = above_at row.number rows rising.0 j d (omega arith)
  numbers_rise (row ∷ rows) rising (suc i) (suc j) d order within = numbers_rise rows rising.1 i j d (omega arith) (omega arith)

  -- the rows from a number's place on aren't below it
  pub from_place : (rows : List (Numbered T)) (n : ℕ) → IsRising rows → (i : ℕ) (d : Numbered T) → place_of n rows ≤ i → i < length rows → n ≤ (get_or rows i d).number
  from_place [] n rising i d over within = absurd (omega arith)
  from_place (row ∷ rows) n rising zero d over within = elim (cases_Bool (nat_lt row.number n)) [
    | inl under ↦ absurd (let over' = rw under at over in omega arith)
    | inr not ↦ ltb-false row.number n not
  ]
  from_place (row ∷ rows) n rising (suc i) d over within = elim (cases_Bool (nat_lt row.number n)) [
    | inl under ↦ (let over' = rw under at over in from_place rows n rising.1 i d (omega arith) (omega arith))
    | inr not ↦ (let least : n ≤ row.number = ltb-false row.number n not in let above = above_at row.number rows rising.0 i d (omega arith) in omega arith)
  ]

  -- and those before it are
  pub before_place : (rows : List (Numbered T)) (n : ℕ) (i : ℕ) (d : Numbered T) → i < place_of n rows → (get_or rows i d).number < n
  before_place [] n i d before = absurd (omega arith)
  before_place (row ∷ rows) n zero d before = elim (cases_Bool (nat_lt row.number n)) [
    | inl under ↦ ltb-true row.number n under
    | inr not ↦ absurd (let none = rw not at before in omega arith)
  ]
  before_place (row ∷ rows) n (suc i) d before = elim (cases_Bool (nat_lt row.number n)) [
    | inl under ↦ (let before' = rw under at before in before_place rows n i d (omega arith))
    | inr not ↦ absurd (let none = rw not at before in omega arith)
  ]

  -- a number that is held has an item
  pub held_has : (rows : List (Numbered T)) (n : ℕ) → holds n rows ≡ true → item_at n rows ≡ None → ⊥
  held_has [] n held none = absurd cc
  held_has (row ∷ rows) n held none = elim (cases_Bool (nat_eq row.number n)) [
    | inl same ↦ (let some = rw same at none in absurd cc)
    | inr differs ↦ (let none' = rw differs at none in held_has rows n (grind (arith, common_steps, held, differs)) none')
  ]

-- ---- the next candidate

module _ (rows : List (Numbered Molecule)) (screens : List Screen) (need : Screen) (from : ℕ) (rising : IsRising rows) (beside : AreScreens rows screens) where
  -- the place of a candidate, and its screen
  record IsCandidateAt (n : ℕ) : Type 0 where
    place : ℕ
    within : place < length rows
    number : (d : Numbered Molecule) → (get_or rows place d).number ≡ n
    covers : (e : Screen) → Covers (get_or screens place e) need

  candidate_at : (n : ℕ) → IsCandidate rows need n → IsCandidateAt n
  candidate_at n is =
      let row = found_at rows n is.mol is.held in record {
        place = row.place;
        within = row.within;
        number = row.number;
        covers = λ e. (
            let d : Numbered Molecule = record { number = n; item = is.mol } in
            let of_mol : IsScreenOf is.mol (get_or screens row.place e) =
            subst (λ (m : Molecule). IsScreenOf m (get_or screens row.place e)) (row.item_is d)
            (beside_at rows screens beside row.place d e row.within) in
            covers_other (shown_by_mol is.mol) is.screen (get_or screens row.place e) need is.is of_mol is.covers);
      }

  none_below : (high n : ℕ) → from ≤ n → NoneCovers screens need (place_of from rows) high → (c : IsCandidateAt n) → high ≤ c.place
  none_below high n over none c =
      let e : Screen = need in
      elim (cases_lt c.place high) [
        | inl before ↦ elim (cases_lt c.place (place_of from rows)) [
          | inl early ↦ (let d = first_row c.within in let under = before_place rows from c.place d early in absurd (omega (arith, c.number d)))
          | inr late ↦ absurd (none c.place e late before (omega (arith, beside_size rows screens beside, c.within)) (c.covers e))
        ]
        | inr from' ↦ from'
      ]
    where
      first_row : {i : ℕ} → i < length rows → Numbered Molecule
      first_row within = pick rows within
        where
          pick : (xs : List (Numbered Molecule)) → {i : ℕ} → i < length xs → Numbered Molecule
          pick [] within' = absurd (omega arith)
          pick (x ∷ xs) within' = x

  next_at : (found : ℕ) (d : Numbered Molecule) → IsFirstFrom screens need (place_of from rows) found → IsNextCandidate rows need from (get_or rows found d).number
  next_at found d first =
      let within : found < length rows = omega (arith, beside_size rows screens beside, first.within) in
      record {
        is = record {
          mol = (get_or rows found d).item;
          screen = get_or screens found need;
          held = item_there rows rising found d within;
          is = beside_at rows screens beside found d need within;
          covers = first.covers need;
        };
        not_below = from_place rows from rising found d first.not_below within;
        least = λ other over is. (
            let c = candidate_at other is in
            let up = none_below found other over first.none c in
            elim (cases_lt found c.place) [
              | inl before ↦ (let more = numbers_rise rows rising found c.place d before c.within in omega (arith, c.number d))
              | inr at ↦ (let same : c.place ≡ found = omega arith in let is_number : (get_or rows found d).number ≡ other = rw same at (c.number d) in omega arith)
            ]);
      }

  -- the number of the first row that covers the need is the next candidate
  pub next_found : (found : ℕ) → IsFirstFrom screens need (place_of from rows) found → IsNextCandidate rows need from (number_of rows found)
  next_found found first =
      let within : found < length rows = omega (arith, beside_size rows screens beside, first.within) in
      let d : Numbered Molecule = record { number = 0; item = record { written = 0; atoms = []; bonds = [] } } in
      subst (IsNextCandidate rows need from) (sym (number_is rows found d within)) (next_at found d first)

  pub none_found : NoneCovers screens need (place_of from rows) (length screens) → NoCandidate rows need from
  none_found none n over is =
      let c = candidate_at n is in
      let past = none_below (length screens) n over none c in
      omega (arith, beside_size rows screens beside, c.within)

  -- ---- looks

  eligible_at : (i : ℕ) (d : Numbered Molecule) → place_of from rows ≤ i → IsPostedAt screens need i → IsEligible rows need from (get_or rows i d).number
  eligible_at i d over posted =
      let within : i < length rows = omega (arith, beside_size rows screens beside, posted.0) in
      record {
        held = held_there rows i d within;
        not_below = from_place rows from rising i d over within;
        posted = λ b below needed. ((get_or rows i d).item, item_there rows rising i d within, ((beside_at rows screens beside i d need within).bits b below).0 (posted.1 need b below needed));
      }

  looks_at : (found old new : ℕ) (d : Numbered Molecule) → found < length rows
      → LooksTo screens need (place_of from rows) (found + 1) old new → old < new
      → LooksFor rows need from (Some (get_or rows found d).number) old new
  looks_at found old new d within looks some = record {
    most = counts_mapped (λ i. (get_or rows i d).number) (IsLookedAt screens need (place_of from rows) (found + 1)) (λ n. IsEligible rows need from n × (n ≤ (get_or rows found d).number))
        (λ i is. (eligible_at i d is.0 is.2, up_to i is.1))
        (λ i j is_i is_j order. numbers_rise rows rising i j d order (omega (arith, beside_size rows screens beside, is_j.2.0)))
        old new looks;
    least = some;
  }
    where
      up_to : (i : ℕ) → i < found + 1 → (get_or rows i d).number ≤ (get_or rows found d).number
      up_to i below = elim (cases_lt i found) [
        | inl before ↦ (let less = numbers_rise rows rising i found d before within in omega arith)
        | inr at ↦ (let same : i ≡ found = omega arith in rw same (omega arith))
      ]

  pub looks_found : (found old new : ℕ) → IsFirstFrom screens need (place_of from rows) found
      → LooksTo screens need (place_of from rows) (found + 1) old new → old < new
      → LooksFor rows need from (Some (number_of rows found)) old new
  looks_found found old new first looks some =
      let within : found < length rows = omega (arith, beside_size rows screens beside, first.within) in
      let d : Numbered Molecule = record { number = 0; item = record { written = 0; atoms = []; bonds = [] } } in
      subst (λ (n : ℕ). LooksFor rows need from (Some n) old new) (sym (number_is rows found d within)) (looks_at found old new d within looks some)

  pub looks_none : (old new : ℕ) → LooksTo screens need (place_of from rows) (length screens) old new → LooksFor rows need from None old new
  looks_none old new looks = record { most = by_rows rows refl; least = tt }
    where
      eligible : (d : Numbered Molecule) → CountsEach (λ n. IsEligible rows need from n × IsUpTo None n) old new
      eligible d = counts_mapped (λ i. (get_or rows i d).number) (IsLookedAt screens need (place_of from rows) (length screens)) (λ n. IsEligible rows need from n × IsUpTo None n)
          (λ i is. (eligible_at i d is.0 is.2, tt))
          (λ i j is_i is_j order. numbers_rise rows rising i j d order (omega (arith, beside_size rows screens beside, is_j.2.0)))
          old new looks

      -- where there are no rows there are no looks
      no_looks : (numbers : List ℕ) → AllByRecursion (IsLookedAt screens need (place_of from rows) (length screens)) numbers → length rows ≡ 0 → length numbers ≡ 0
      no_looks [] each none = refl
      no_looks (i ∷ numbers) each none = absurd (omega (arith, beside_size rows screens beside, each.0.1))

      by_rows : (xs : List (Numbered Molecule)) → rows ≡ xs → CountsEach (λ n. IsEligible rows need from n × IsUpTo None n) old new
      by_rows [] same = record {
        numbers = [];
        rises = tt;
        each = tt;
        ticks = omega (arith, looks.ticks, no_looks looks.numbers looks.each (ap length same));
      }
      by_rows (x ∷ xs) same = eligible x

-- beside each row stands the screen of its molecule
pub have_screens : (rows : List (Numbered Molecule)) (screens : List Screen) → AreScreens rows screens → HaveScreens rows
have_screens rows screens beside n mol held =
    let row = found_at rows n mol held in
    let d : Numbered Molecule = record { number = n; item = mol } in
    let e : Screen = record { counts = []; bits = [] } in
    (get_or screens row.place e, subst (λ (m : Molecule). IsScreenOf m (get_or screens row.place e)) (row.item_is d) (beside_at rows screens beside row.place d e row.within))
