-- Looks at screens by their places.
--     left_first, left_next, left_found, left_past, left_none      within 64 screens
--     opens                                                        which of 64 are looked at
--     none_joined, first_joined                                    block by block
use Rattle.std.proofs.Common.{◌≡◌, ℕ, ◌+◌, ◌-◌, ◌*◌, ◌/◌, ◌%◌, ◌<◌, ◌≤◌, inl, inr, true, eqb, List, length, get_or, refl, sym, ap, subst, ◌∙◌, arith}
use Rattle.std.specs.Int.{bit_at}
use Rattle.std.proofs.lemmas.Bool.{cases_eq, cases_lt, eq-eqb, eqb-true, le-ltb, lt-ltb, ne_eqb}
use Rattle.std.proofs.lemmas.List.{get_or_default}
use Rattle.std.proofs.lemmas.Nat.Bits.{bit_at-zero}
use Rattle.mk_model.specs.declared.screen.Screen.{Screen}
use Rattle.mk_model.specs.Screens.{Covers, has_bit}
use Rattle.mk_index.specs.Words.{from_bit, without_bit}
use Rattle.mk_index.specs.Columns.{AreColumns, IsCommon, cell}
use Rattle.mk_index.specs.Looking.{HasBits, IsFirstFrom, IsLookedAt, IsOpen, IsPostedAt, LooksTo, NoneCovers}
use Rattle.mk_index.proofs.CountsLemmas.{counts_from, counts_join, counts_none, counts_one, counts_widen}

-- ---- among 64 screens

-- what is left are the rows from a place on; those before it don't cover the need, and the looks were at them
pub record AreLeft (screens : List Screen) (need : Screen) (low base rows left old new : ℕ) : Type 0 where
  pub place : ℕ
  pub within : place ≤ 64
  pub bits : (k : ℕ) → k < 64 → bit_at left k ≡ from_bit rows place k
  pub none : NoneCovers screens need low (base + place)
  pub looks : LooksTo screens need low (base + place) old new

module _ (screens : List Screen) (need : Screen) (low base rows : ℕ) (from_base : base ≤ low) (open' : IsOpen screens need low base rows) where
  -- at first all are left
  pub left_first : (old : ℕ) → AreLeft screens need low base rows rows old old
  left_first old = record {
    place = 0;
    within = omega arith;
    bits = λ k below. rw (le-ltb k 0 (omega arith)) refl;
    none = λ i d over under within covers. absurd (omega arith);
    looks = counts_none (IsLookedAt screens need low (base + 0)) old;
  }

  -- a screen without a bit that is left doesn't cover the need
  unset : (left old new : ℕ) → (are : AreLeft screens need low base rows left old new) → (k : ℕ) (d : Screen) → k < 64
      → are.place ≤ k → bit_at left k ≡ 0 → base + k < length screens → low ≤ base + k
      → Covers (get_or screens (base + k) d) need → ⊥
  unset left old new are k d below from none within over covers =
      let same : bit_at left k ≡ bit_at rows k = are.bits k below ∙ (rw (le-ltb k are.place from) refl) in
      let posted : IsPostedAt screens need (base + k) = (within, λ e. subst (λ (s : Screen). HasBits s need) (get_or_default screens (base + k) d e within) covers.bits) in
      let set = open'.all k below within over posted in
      omega (arith, same)

  none_to : (left old new : ℕ) → (are : AreLeft screens need low base rows left old new) → (to : ℕ) → to ≤ 64
      → ((k : ℕ) → are.place ≤ k → k < to → bit_at left k ≡ 0) → NoneCovers screens need low (base + to)
  none_to left old new are to top none i d over under within covers = elim (cases_lt i (base + are.place)) [
    | inl before ↦ are.none i d over before within covers
    | inr from ↦
        (let is : base + (i - base) ≡ i = omega arith in
        unset left old new are (i - base) d (omega arith) (omega arith) (none (i - base) (omega arith) (omega arith)) (rw is within) (rw is over) (rw is covers))
  ]

  module _ (left old new : ℕ) (are : AreLeft screens need low base rows left old new) where
    -- nothing is left
    pub left_none : left ≡ 0 → NoneCovers screens need low (base + 64) × LooksTo screens need low (base + 64) old new
    left_none none = (
      none_to left old new are 64 (omega arith) (λ k from below. ap (λ n. bit_at n k) none ∙ bit_at-zero k),
      counts_widen (IsPostedAt screens need) low (base + are.place) (base + 64) old new (let top = are.within in omega arith) are.looks,
    )

    module _ (k : ℕ) (below : k < 64) (set : bit_at left k ≡ 1) (least : (j : ℕ) → j < k → bit_at left j ≡ 0) where
      -- the lowest that is left is no lower than the place
      from_place : are.place ≤ k
      from_place = elim (cases_lt k are.place) [
        | inl before ↦ absurd (let none : from_bit rows are.place k ≡ 0 = rw (lt-ltb k are.place before) refl in omega (arith, are.bits k below))
        | inr from ↦ from
      ]

      set_there : bit_at rows k ≡ 1
      set_there = (let same : from_bit rows are.place k ≡ bit_at rows k = rw (le-ltb k are.place from_place) refl in omega (arith, are.bits k below))

      none_before : NoneCovers screens need low (base + k)
      none_before = none_to left old new are k (omega arith) (λ j from under. least j under)

      -- there is no such screen
      pub left_past : length screens ≤ base + k → NoneCovers screens need low (base + 64) × LooksTo screens need low (base + 64) old new
      left_past past = (
        (λ i d over under within covers. none_before i d over (omega arith) within covers),
        counts_widen (IsPostedAt screens need) low (base + are.place) (base + 64) old new (let top = are.within in omega arith) are.looks,
      )

      -- there is one, and it is looked at
      module _ (within : base + k < length screens) (next : ℕ) (look : next ≡ new + 1) where
        looked : LooksTo screens need low (base + k + 1) old next
        looked =
            let has = open'.have k below within set_there in
            counts_join (IsPostedAt screens need) low (base + k) (base + k + 1) old new next has.0 (omega arith)
            (counts_widen (IsPostedAt screens need) low (base + are.place) (base + k) old new (let from = from_place in omega arith) are.looks)
            (counts_one (IsLookedAt screens need (base + k) (base + k + 1)) (base + k) new next (omega arith, omega arith, has.1) look)

        -- it covers the need
        pub left_found : (d : Screen) → Covers (get_or screens (base + k) d) need → IsFirstFrom screens need low (base + k) × LooksTo screens need low (base + k + 1) old next
        left_found d covers = (
          record {
            not_below = (open'.have k below within set_there).0;
            within = within;
            covers = λ e. subst (λ (s : Screen). Covers s need) (get_or_default screens (base + k) d e within) covers;
            none = none_before;
          },
          looked,
        )

        -- it doesn't
        pub left_next : (rest : ℕ) (e : Screen) → (Covers (get_or screens (base + k) e) need → ⊥)
            → ((j : ℕ) → j < 64 → bit_at rest j ≡ without_bit left k j)
            → AreLeft screens need low base rows rest old next
        left_next rest e lacks bits = record {
          place = k + 1;
          within = omega arith;
          bits = λ j inside. bits j inside ∙ rest_bit j inside;
          none = λ i d over under short covers. (elim (cases_eq i (base + k)) [
            | inl same ↦ lacks (subst (λ (s : Screen). Covers s need) (get_or_default screens (base + k) d e within) (subst (λ (j : ℕ). Covers (get_or screens j d) need) same covers))
            | inr other ↦ none_before i d over (omega arith) short covers
          ]);
          looks = (let place : base + (k + 1) ≡ base + k + 1 = omega arith in rw place looked);
        }
          where
            rest_bit : (j : ℕ) → j < 64 → without_bit left k j ≡ from_bit rows (k + 1) j
            rest_bit j inside = elim (cases_eq j k) [
              | inl same ↦ rw (eq-eqb j k same, lt-ltb j (k + 1) (omega arith)) refl
              | inr other ↦ rw (ne_eqb j k other) (elim (cases_lt j k) [
                | inl before ↦ rw (lt-ltb j (k + 1) (omega arith)) (least j before)
                | inr after ↦ rw (le-ltb j (k + 1) (omega arith)) (are.bits j inside ∙ (let from : are.place ≤ j = (let p = from_place in omega arith) in rw (le-ltb j are.place from) refl))
              ])
            ]

-- ---- which of 64 screens are open

pub opens : (screens : List Screen) (columns : List ℕ) (need : Screen) (low block common rows : ℕ) → AreColumns screens columns → block ≡ low / 64
    → IsCommon columns (block * 512) need.bits common → ((k : ℕ) → k < 64 → bit_at rows k ≡ from_bit common (low % 64) k) → IsOpen screens need low (block * 64) rows
opens screens columns need low block common rows are place is bits = record {
  have = λ k below within set. (elim (cases_lt k (low % 64)) [
    | inl before ↦ absurd (let none : bit_at rows k ≡ 0 = bits k below ∙ (rw (lt-ltb k (low % 64) before) refl) in omega arith)
    | inr from ↦
        (let set' : bit_at common k ≡ 1 = sym (bits k below ∙ (rw (le-ltb k (low % 64) from) refl)) ∙ set in
        (omega arith, (within, λ d b bit needed. held k b d below within bit (is.have k b below set' bit needed))))
  ]);
  all = λ k below within over posted. (
      let from : low % 64 ≤ k = omega arith in
      bits k below ∙ (rw (le-ltb k (low % 64) from) (is.all k below (λ b bit needed. stands k b below within bit (posted.1 need b bit needed)))));
}
  where
    at : (k b : ℕ) → k < 64 → (512 * ((block * 64 + k) / 64) + b ≡ block * 512 + b) × ((block * 64 + k) % 64 ≡ k)
    at k b below = (omega arith, omega arith)

    held : (k b : ℕ) (d : Screen) → k < 64 → block * 64 + k < length screens → b < 512 → bit_at (get_or columns (block * 512 + b) 0) k ≡ 1 → has_bit (get_or screens (block * 64 + k) d).bits b ≡ true
    held k b d below within bit set =
        let place = at k b below in
        sym (are.cells (block * 64 + k) b d within bit) ∙ (rw (place.0, place.1) (eq-eqb _ 1 set))

    stands : (k b : ℕ) → k < 64 → block * 64 + k < length screens → b < 512 → has_bit (get_or screens (block * 64 + k) need).bits b ≡ true → bit_at (get_or columns (block * 512 + b) 0) k ≡ 1
    stands k b below within bit set =
        let place = at k b below in
        let here : eqb (cell columns (block * 64 + k) b) 1 ≡ true = are.cells (block * 64 + k) b need within bit ∙ set in
        eqb-true _ 1 (rw (place.0, place.1) at here)

-- ---- block by block

pub none_joined : (screens : List Screen) (need : Screen) (low mid high : ℕ) → NoneCovers screens need low mid → NoneCovers screens need mid high → NoneCovers screens need low high
none_joined screens need low mid high h k i d over under within covers = elim (cases_lt i mid) [
  | inl before ↦ h i d over before within covers
  | inr from ↦ k i d from under within covers
]

pub first_joined : (screens : List Screen) (need : Screen) (low mid i : ℕ) → low ≤ mid → NoneCovers screens need low mid → IsFirstFrom screens need mid i → IsFirstFrom screens need low i
first_joined screens need low mid i up h is = record {
  not_below = (let over = is.not_below in omega arith);
  within = is.within;
  covers = is.covers;
  none = none_joined screens need low mid i h is.none;
}

pub looks_joined : (screens : List Screen) (need : Screen) (low mid high old between new : ℕ) → low ≤ mid → mid ≤ high
    → LooksTo screens need low mid old between → LooksTo screens need mid high between new
    → LooksTo screens need low high old new
looks_joined screens need low mid high old between new up up' h k = counts_join (IsPostedAt screens need) low mid high old between new up up' h k

-- no look is behind the last screen
pub looks_within : (screens : List Screen) (need : Screen) (low high old new : ℕ) → LooksTo screens need low high old new → LooksTo screens need low (length screens) old new
looks_within screens need low high old new h =
    counts_from (IsLookedAt screens need low high) (IsLookedAt screens need low (length screens)) old new (λ i is. (is.0, is.2.0, is.2)) h
