-- Rows taken out, made and put, word by word.
--     closed_more, closed_all      a row is taken out
--     opened_none, opened_more, opened_all      a row is made
--     put_none, put_more, put_all               the bits of a row are put
--     closed_last, closed_behind, opened_behind      rows after the last
--     set_none, set_more                        the bits of one word are set
--     up_to_none, up_to_more, up_to_all         and those of a row
--     inserted_last, inserted_within            a row is put in
use Rattle.std.proofs.Common.{◌≡◌, ◌≢◌, ℕ, ◌+◌, ◌-◌, ◌*◌, ◌/◌, ◌%◌, ◌<◌, ◌≤◌, ◌⊎◌, inl, inr, cond, ltb, false, List, length, get_or, set, refl, sym, ap, ◌∙◌, arith}
use Rattle.std.specs.Int.{bit_at}
use Rattle.std.proofs.lemmas.Bool.{cases_eq, cases_lt, eq-eqb, le-ltb, lt-ltb, ne_eqb}
use Rattle.std.proofs.lemmas.Nat.Bits.{bit_at-lt, bit_at-zero}
use Rattle.std.proofs.lemmas.List.{get_or-set_other, get_or-set_same, length-set}
use Rattle.mk_index.specs.Words.{closed_bit, opened_bit, put_in_bit, set_bit, without_bit}
use Rattle.mk_index.specs.Columns.{ClosedTo, IsClear, IsClosed, IsInserted, IsOpened, IsPut, OpenedFrom, PutTo, SetTo, cell, low_at, next_word, word_before}

-- ---- a row is taken out

module _ (blocks at q : ℕ) (old new : List ℕ) (word : ℕ) (from : at / 64 * 512 ≤ q) (below : q < length new) (so_far : ClosedTo blocks at q old new) where
  -- the next word
  pub closed_more : ((j : ℕ) → j < 64 → bit_at word j ≡ closed_bit (get_or new q 0) (next_word new blocks q) (low_at at q) j) → ClosedTo blocks at (q + 1) old (set new q word)
  closed_more is = record {
    size = length-set new q word ∙ so_far.size;
    done = λ k j first up within. by_place k j first up within;
    rest = λ k other. (let differ : k ≢ q = elim other [ inl before ↦ (λ same. absurd (omega arith)) | inr behind ↦ (λ same. absurd (omega arith)) ] in
        get_or-set_other new q k word 0 differ ∙ so_far.rest k (elim other [ inl before ↦ inl before | inr behind ↦ inr (omega arith) ]));
  }
    where
      here : get_or new q 0 ≡ get_or old q 0
      here = so_far.rest q (inr (omega arith))

      next : next_word new blocks q ≡ next_word old blocks q
      next = ap (λ n. cond (ltb (q / 512 + 1) blocks) n 0) (so_far.rest (q + 512) (inr (omega arith)))

      by_place : (k j : ℕ) → at / 64 * 512 ≤ k → k < q + 1 → j < 64 → bit_at (get_or (set new q word) k 0) j ≡ closed_bit (get_or old k 0) (next_word old blocks k) (low_at at k) j
      by_place k j first up within = elim (cases_eq k q) [
        | inl same ↦ rw (same, get_or-set_same new q word 0 below)
            (is j within ∙ ap (λ n. closed_bit n (next_word new blocks q) (low_at at q) j) here
            ∙ ap (λ n. closed_bit (get_or old q 0) n (low_at at q) j) next)
        | inr other ↦ rw (get_or-set_other new q k word 0 other) (so_far.done k j first (omega arith) within)
      ]

-- where the row behind a row stands
module _ (i : ℕ) where
  next_inside : i % 64 < 63 → ((i + 1) / 64 ≡ i / 64) × ((i + 1) % 64 ≡ i % 64 + 1)
  next_inside inside = (omega arith, omega arith)

  next_block : 63 ≤ i % 64 → ((i + 1) / 64 ≡ i / 64 + 1) × ((i + 1) % 64 ≡ 0)
  next_block top = (omega arith, omega arith)

pub closed_all : (blocks at : ℕ) (old new : List ℕ) → ClosedTo blocks at (blocks * 512) old new → IsClosed blocks at old new
closed_all blocks at old new all i b within bit = elim (cases_lt (i / 64) (at / 64)) [
  | inl before ↦
      (let less : i < at = omega arith in
      rw (lt-ltb i at less) (ap (λ n. bit_at n (i % 64)) (all.rest (512 * (i / 64) + b) (inl (omega arith)))))
  | inr from ↦ all.done (512 * (i / 64) + b) (i % 64) (omega arith) (omega arith) (omega arith) ∙ moved from
]
  where
    k : ℕ
    k = 512 * (i / 64) + b

    -- in its own block, and behind it
    low_is : (low : ℕ) → (i < at → i % 64 < low) → (at ≤ i → low ≤ i % 64)
        → closed_bit (get_or old (512 * (i / 64) + b) 0) (next_word old blocks (512 * (i / 64) + b)) low (i % 64) ≡ cond
        (ltb i at) (cell old i b) (cell old (i + 1) b)
    low_is low under over = elim (cases_lt i at) [
      | inl less ↦ rw (lt-ltb i at less, lt-ltb (i % 64) low (under less)) refl
      | inr more ↦ rw (le-ltb i at more, le-ltb (i % 64) low (over more)) (elim (cases_lt (i % 64) 63) [
        | inl inside ↦ (let next = next_inside i inside in rw (lt-ltb (i % 64) 63 inside, next.0, next.1) refl)
        | inr top ↦
            (let next = next_block i top in
            let there : (512 * (i / 64) + b) / 512 + 1 < blocks = omega arith in
            let place : 512 * (i / 64) + b + 512 ≡ 512 * (i / 64 + 1) + b = omega arith in
            rw (le-ltb (i % 64) 63 top, lt-ltb ((512 * (i / 64) + b) / 512 + 1) blocks there, next.0, next.1, place) refl)
      ])
    ]

    moved : at / 64 ≤ i / 64 → closed_bit (get_or old (512 * (i / 64) + b) 0)
        (next_word old blocks (512 * (i / 64) + b)) (low_at at (512 * (i / 64) + b)) (i % 64) ≡ cond (ltb i at)
        (cell old i b) (cell old (i + 1) b)
    moved from =
        elim (cases_lt (at / 64) ((512 * (i / 64) + b) / 512)) [
          | inl later ↦ rw (lt-ltb (at / 64) ((512 * (i / 64) + b) / 512) later) (low_is 0 (λ less. absurd (omega arith)) (λ more. omega arith))
          | inr own ↦ rw (le-ltb (at / 64) ((512 * (i / 64) + b) / 512) own) (let same : i / 64 ≡ at / 64 = omega arith in low_is (at % 64) (λ less. omega arith) (λ more. omega arith))
        ]

-- ---- a row is made

pub opened_none : (blocks at : ℕ) (old : List ℕ) → OpenedFrom blocks at (blocks * 512) old old
opened_none blocks at old = record { size = refl; done = λ k j from below within. absurd (omega arith); rest = λ k other. refl }

module _ (blocks at q : ℕ) (old new : List ℕ) (word : ℕ) (below : q < length new) (up : q < blocks * 512) (so_far : OpenedFrom blocks at (q + 1) old new) where
  pub opened_more : ((j : ℕ) → j < 64 → bit_at word j ≡ opened_bit (get_or new q 0) (word_before new at q) (low_at at q) j) → OpenedFrom blocks at q old (set new q word)
  opened_more is = record {
    size = length-set new q word ∙ so_far.size;
    done = λ k j first last within. by_place k j first last within;
    rest = λ k other. (let differ : k ≢ q = elim other [ inl before ↦ (λ same. absurd (omega arith)) | inr behind ↦ (λ same. absurd (omega arith)) ] in
        get_or-set_other new q k word 0 differ ∙ so_far.rest k (elim other [ inl before ↦ inl (omega arith) | inr behind ↦ inr behind ]));
  }
    where
      here : get_or new q 0 ≡ get_or old q 0
      here = so_far.rest q (inl (omega arith))

      before : word_before new at q ≡ word_before old at q
      before = ap (λ n. cond (ltb (at / 64) (q / 512)) n 0) (so_far.rest (q - 512) (inl (omega arith)))

      by_place : (k j : ℕ) → q ≤ k → k < blocks * 512 → j < 64 → bit_at (get_or (set new q word) k 0) j ≡ opened_bit (get_or old k 0) (word_before old at k) (low_at at k) j
      by_place k j first last within = elim (cases_eq k q) [
        | inl same ↦ rw (same, get_or-set_same new q word 0 below)
            (is j within ∙ ap (λ n. opened_bit n (word_before new at q) (low_at at q) j) here
            ∙ ap (λ n. opened_bit (get_or old q 0) n (low_at at q) j) before)
        | inr other ↦ rw (get_or-set_other new q k word 0 other) (so_far.done k j (omega arith) last within)
      ]

-- where the row before a row stands
module _ (i : ℕ) (some : 1 ≤ i) where
  before_inside : 1 ≤ i % 64 → ((i - 1) / 64 ≡ i / 64) × ((i - 1) % 64 ≡ i % 64 - 1)
  before_inside inside = (omega arith, omega arith)

  before_block : i % 64 ≡ 0 → ((i - 1) / 64 + 1 ≡ i / 64) × ((i - 1) % 64 ≡ 63)
  before_block bottom = (omega arith, omega arith)

pub opened_all : (blocks at : ℕ) (old new : List ℕ) → OpenedFrom blocks at (at / 64 * 512) old new → IsOpened blocks at old new
opened_all blocks at old new all i b within bit other = elim (cases_lt (i / 64) (at / 64)) [
  | inl before ↦
      (let less : i < at = omega arith in
      rw (lt-ltb i at less) (ap (λ n. bit_at n (i % 64)) (all.rest (512 * (i / 64) + b) (inl (omega arith)))))
  | inr from ↦ all.done (512 * (i / 64) + b) (i % 64) (omega arith) (omega arith) (omega arith) ∙ moved from
]
  where
    -- in its own block
    own_block : i / 64 ≡ at / 64 → opened_bit (get_or old (512 * (i / 64) + b) 0) 0 (at % 64) (i % 64) ≡ cond (ltb i at) (cell old i b) (cell old (i - 1) b)
    own_block same = elim (cases_lt i at) [
      | inl less ↦ (let under : i % 64 < at % 64 = omega arith in rw (lt-ltb i at less, lt-ltb (i % 64) (at % 64) under) refl)
      | inr more ↦
          (let over : at % 64 ≤ i % 64 = omega arith in
          let differ : i % 64 ≢ at % 64 = λ e. other (omega arith) in
          let next = before_inside i (omega arith) (omega arith) in
          rw (le-ltb i at more, le-ltb (i % 64) (at % 64) over, ne_eqb (i % 64) (at % 64) differ, next.0, next.1) refl)
    ]

    -- and behind it
    later_block : at / 64 < i / 64 → opened_bit (get_or old (512 * (i / 64) + b) 0) (get_or old (512 * (i / 64) + b - 512) 0) 0 (i % 64) ≡ cond (ltb i at) (cell old i b) (cell old (i - 1) b)
    later_block later =
        let more : at ≤ i = omega arith in
        rw (le-ltb i at more, le-ltb (i % 64) 0 (omega arith)) (elim (cases_eq (i % 64) 0) [
          | inl bottom ↦
              (let next = before_block i (omega arith) bottom in
              let place : 512 * (i / 64) + b - 512 ≡ 512 * ((i - 1) / 64) + b = omega (arith, next.0) in
              rw (eq-eqb (i % 64) 0 bottom, next.1, place) refl)
          | inr inside ↦ (let next = before_inside i (omega arith) (omega arith) in rw (ne_eqb (i % 64) 0 inside, next.0, next.1) refl)
        ])

    moved : at / 64 ≤ i / 64 → opened_bit (get_or old (512 * (i / 64) + b) 0) (word_before old at (512 * (i / 64) + b))
        (low_at at (512 * (i / 64) + b)) (i % 64) ≡ cond (ltb i at) (cell old i b) (cell old (i - 1) b)
    moved from =
        let block : (512 * (i / 64) + b) / 512 ≡ i / 64 = omega arith in
        elim (cases_lt (at / 64) (i / 64)) [
          | inl later ↦ rw (block, lt-ltb (at / 64) (i / 64) later) (later_block later)
          | inr own ↦ rw (block, le-ltb (at / 64) (i / 64) own) (own_block (omega arith))
        ]

-- ---- a row is put

pub put_none : (at : ℕ) (bits old : List ℕ) → PutTo at 0 bits old old
put_none at bits old = record { size = refl; done = λ c j below within. absurd (omega arith); rest = λ k other. refl }

module _ (at b : ℕ) (bits old new : List ℕ) (word : ℕ) (below : at / 64 * 512 + b < length new) (so_far : PutTo at b bits old new) where
  pub put_more : ((j : ℕ) → j < 64 → bit_at word j ≡ put_in_bit (get_or new (at / 64 * 512 + b) 0) (at % 64)
      (get_or bits (b / 64) 0) (b % 64) j) → PutTo at (b + 1) bits old (set new (at / 64 * 512 + b) word)
  put_more is = record {
    size = length-set new (at / 64 * 512 + b) word ∙ so_far.size;
    done = λ c j up within. by_place c j up within;
    rest = λ k other. (let differ : k ≢ at / 64 * 512 + b = elim other [ inl before ↦ (λ same. absurd (omega arith)) | inr behind ↦ (λ same. absurd (omega arith)) ] in
        get_or-set_other new (at / 64 * 512 + b) k word 0 differ ∙ so_far.rest k (elim other [ inl before ↦ inl before | inr behind ↦ inr (omega arith) ]));
  }
    where
      here : get_or new (at / 64 * 512 + b) 0 ≡ get_or old (at / 64 * 512 + b) 0
      here = so_far.rest (at / 64 * 512 + b) (inr (omega arith))

      by_place : (c j : ℕ) → c < b + 1 → j < 64 → bit_at
          (get_or (set new (at / 64 * 512 + b) word) (at / 64 * 512 + c) 0) j ≡ put_in_bit
          (get_or old (at / 64 * 512 + c) 0) (at % 64) (get_or bits (c / 64) 0) (c % 64) j
      by_place c j up within = elim (cases_eq c b) [
        | inl same ↦ rw (same, get_or-set_same new (at / 64 * 512 + b) word 0 below) (is j within ∙ ap (λ n. put_in_bit n (at % 64) (get_or bits (b / 64) 0) (b % 64) j) here)
        | inr other ↦ rw (get_or-set_other new (at / 64 * 512 + b) (at / 64 * 512 + c) word 0 (λ e. other (omega arith))) (so_far.done c j (omega arith) within)
      ]

pub put_all : (at : ℕ) (bits old new : List ℕ) → PutTo at 512 bits old new → IsPut at bits old new
put_all at bits old new all i b bit = elim (cases_eq (i / 64) (at / 64)) [
  | inl same ↦
      (let place : 512 * (i / 64) + b ≡ at / 64 * 512 + b = omega arith in
      rw place (all.done b (i % 64) bit (omega arith) ∙ elim (cases_eq i at) [
        | inl is ↦ (let low : i % 64 ≡ at % 64 = omega arith in rw (eq-eqb i at is, eq-eqb (i % 64) (at % 64) low) refl)
        | inr other ↦ (let differ : i % 64 ≢ at % 64 = λ e. other (omega arith) in rw (ne_eqb i at other, ne_eqb (i % 64) (at % 64) differ) refl)
      ]))
  | inr differ ↦
      (let other : i ≢ at = λ e. differ (omega arith) in
      let apart : (512 * (i / 64) + b < at / 64 * 512) ⊎ (at / 64 * 512 + 512 ≤ 512 * (i / 64) + b) =
      elim (cases_lt (i / 64) (at / 64)) [ inl less ↦ inl (omega arith) | inr more ↦ inr (omega arith) ] in
      rw (ne_eqb i at other) (ap (λ n. bit_at n (i % 64)) (all.rest (512 * (i / 64) + b) apart)))
]

-- ---- rows after the last

low_most : (at q : ℕ) → low_at at q ≤ 63
low_most at q = elim (cases_lt (at / 64) (q / 512)) [
  | inl later ↦ rw (lt-ltb (at / 64) (q / 512) later) (omega arith)
  | inr own ↦ rw (le-ltb (at / 64) (q / 512) own) (omega arith)
]

-- nothing goes down into the last row
pub closed_last : (blocks at : ℕ) (old new : List ℕ) → at < 64 * blocks → ClosedTo blocks at (blocks * 512) old new → IsClear new (64 * blocks - 1)
closed_last blocks at old new within all b bit =
    let i = 64 * blocks - 1 in
    let k = 512 * (i / 64) + b in
    let top : i % 64 ≡ 63 = omega arith in
    let none : ltb (k / 512 + 1) blocks ≡ false = le-ltb (k / 512 + 1) blocks (omega arith) in
    let low : ltb 63 (low_at at k) ≡ false = le-ltb 63 (low_at at k) (low_most at k) in
    all.done k (i % 64) (omega arith) (omega arith) (omega arith)
    ∙ ap (λ n. closed_bit (get_or old k 0) (cond (ltb (k / 512 + 1) blocks) (get_or old (k + 512) 0) 0) (low_at at k) n) top
    ∙ rw (none, low) (bit_at-zero 0)

pub closed_behind : (blocks at : ℕ) (old new : List ℕ) → ClosedTo blocks at (blocks * 512) old new
    → (i b : ℕ) → 64 * blocks ≤ i → b < 512 → cell new i b ≡ cell old i b
closed_behind blocks at old new all i b behind bit = ap (λ n. bit_at n (i % 64)) (all.rest (512 * (i / 64) + b) (inr (omega arith)))

pub opened_behind : (blocks at : ℕ) (old new : List ℕ) → OpenedFrom blocks at (at / 64 * 512) old new
    → (i b : ℕ) → 64 * blocks ≤ i → b < 512 → cell new i b ≡ cell old i b
opened_behind blocks at old new all i b behind bit = ap (λ n. bit_at n (i % 64)) (all.rest (512 * (i / 64) + b) (inr (omega arith)))

-- ---- the bits of one word are set

pub set_none : (base low bits : ℕ) (old : List ℕ) → SetTo base low bits bits old old
set_none base low bits old = record {
  size = refl;
  among = λ b within set. set;
  done = λ b j within inside set unset. absurd (omega (arith, set, unset));
  same = λ b within is. refl;
  rest = λ k other. refl;
}

module _ (base low bits left place word next : ℕ) (old new : List ℕ) (within : place < 64) (room : base + 64 ≤ length new) (is : bit_at left place ≡ 1)
    (so_far : SetTo base low bits left old new) where
  pub set_more : ((j : ℕ) → j < 64 → bit_at word j ≡ set_bit (get_or new (base + place) 0) low j)
      → ((b : ℕ) → b < 64 → bit_at next b ≡ without_bit left place b) → SetTo base low bits next old (set new (base + place) word)
  set_more put less = record {
    size = length-set new (base + place) word ∙ so_far.size;
    among = λ b inside one. so_far.among b inside (elim (cases_eq b place) [
      | inl same ↦ absurd (let zero : bit_at next b ≡ 0 = less b inside ∙ rw (eq-eqb b place same) refl in omega (arith, one, zero))
      | inr other ↦ sym (before b inside other) ∙ one
    ]);
    done = λ b j inside there set none. (elim (cases_eq b place) [
      | inl same ↦ rw (same, get_or-set_same new (base + place) word 0 (omega arith)) (put j there ∙ ap (λ n. set_bit n low j) here)
      | inr other ↦ rw (get_or-set_other new (base + place) (base + b) word 0 (λ e. other (omega arith)))
          (so_far.done b j inside there set (sym (before b inside other) ∙ none))
    ]);
    same = λ b inside unset. (elim (cases_eq b place) [
      | inl same ↦ absurd (
          let zero : bit_at next b ≡ 0 = less b inside ∙ rw (eq-eqb b place same) refl in
          let one : bit_at bits b ≡ 1 = ap (bit_at bits) same ∙ so_far.among place within is in
          omega (arith, zero, one, unset))
      | inr other ↦ get_or-set_other new (base + place) (base + b) word 0 (λ e. other (omega arith)) ∙ so_far.same b inside (sym (before b inside other) ∙ unset)
    ]);
    rest = λ k other. (let differ : k ≢ base + place = elim other [ inl under ↦ (λ same. absurd (omega arith)) | inr behind ↦ (λ same. absurd (omega arith)) ] in
        get_or-set_other new (base + place) k word 0 differ ∙ so_far.rest k other);
  }
    where
      before : (b : ℕ) → b < 64 → b ≢ place → bit_at next b ≡ bit_at left b
      before b inside other = less b inside ∙ rw (ne_eqb b place other) refl

      here : get_or new (base + place) 0 ≡ get_or old (base + place) 0
      here = so_far.same place within (is ∙ sym (so_far.among place within is))

-- ---- and those of a row

-- the first w words of row `at` are set
pub record SetUpTo (at w : ℕ) (bits old new : List ℕ) : Type 0 where
  pub size : length new ≡ length old
  pub done : (c j : ℕ) → c < 64 * w → j < 64 → bit_at (get_or new (at / 64 * 512 + c) 0) j ≡ put_in_bit (get_or old (at / 64 * 512 + c) 0) (at % 64) (get_or bits (c / 64) 0) (c % 64) j
  pub rest : (k : ℕ) → (k < at / 64 * 512) ⊎ (at / 64 * 512 + 64 * w ≤ k) → get_or new k 0 ≡ get_or old k 0

pub up_to_none : (at : ℕ) (bits old : List ℕ) → SetUpTo at 0 bits old old
up_to_none at bits old = record { size = refl; done = λ c j below within. absurd (omega arith); rest = λ k other. refl }

module _ (at w bits_word : ℕ) (bits old mid new : List ℕ) (up : w < 8) (clear : IsClear old at) (so_far : SetUpTo at w bits old mid)
    (is : bits_word ≡ get_or bits w 0)
    (set_of : (b j : ℕ) → b < 64 → j < 64 → bit_at bits_word b ≡ 1 → bit_at (get_or new (at / 64 * 512 + 64 * w + b) 0) j ≡ set_bit (get_or mid (at / 64 * 512 + 64 * w + b) 0) (at % 64) j)
    (unset : (b : ℕ) → b < 64 → bit_at bits_word b ≡ 0 → get_or new (at / 64 * 512 + 64 * w + b) 0 ≡ get_or mid (at / 64 * 512 + 64 * w + b) 0)
    (others : (k : ℕ) → (k < at / 64 * 512 + 64 * w) ⊎ (at / 64 * 512 + 64 * w + 64 ≤ k) → get_or new k 0 ≡ get_or mid k 0)
    (size : length new ≡ length mid) where
  pub up_to_more : SetUpTo at (w + 1) bits old new
  up_to_more = record {
    size = size ∙ so_far.size;
    done = λ c j below within. (elim (cases_lt c (64 * w)) [
      | inl before ↦ ap (λ n. bit_at n j) (others (at / 64 * 512 + c) (inl (omega arith))) ∙ so_far.done c j before within
      | inr from ↦ in_word c j from below within
    ]);
    rest = λ k other. others k (elim other [ inl under ↦ inl (omega arith) | inr behind ↦ inr (omega arith) ])
        ∙ so_far.rest k (elim other [ inl under ↦ inl under | inr behind ↦ inr (omega arith) ]);
  }
    where
      in_word : (c j : ℕ) → 64 * w ≤ c → c < 64 * (w + 1) → j < 64 → bit_at (get_or new (at / 64 * 512 + c) 0) j ≡ put_in_bit
          (get_or old (at / 64 * 512 + c) 0) (at % 64) (get_or bits (c / 64) 0) (c % 64) j
      in_word c j from below within =
          let b = c % 64 in
          let place : at / 64 * 512 + c ≡ at / 64 * 512 + 64 * w + b = omega arith in
          let word : c / 64 ≡ w = omega arith in
          let was : get_or mid (at / 64 * 512 + 64 * w + b) 0 ≡ get_or old (at / 64 * 512 + 64 * w + b) 0 = so_far.rest (at / 64 * 512 + 64 * w + b) (inr (omega arith)) in
          rw (place, word, ← is) (elim (cases_eq (bit_at bits_word b) 1) [
            | inl one ↦ set_of b j (omega arith) within one ∙ ap (λ n. set_bit n (at % 64) j) was ∙ rw one refl
            | inr other ↦
                (let zero : bit_at bits_word b ≡ 0 = omega (arith, bit_at-lt bits_word b) in
                ap (λ n. bit_at n j) (unset b (omega arith) zero ∙ was) ∙ elim (cases_eq j (at % 64)) [
                  | inl same ↦
                      (let there : at / 64 * 512 + 64 * w + b ≡ 512 * (at / 64) + c = omega arith in
                      rw (eq-eqb j (at % 64) same, zero, same, there) (clear c (omega arith)))
                  | inr differ ↦ rw (ne_eqb j (at % 64) differ) refl
                ])
          ])

pub up_to_all : (at : ℕ) (bits old new : List ℕ) → SetUpTo at 8 bits old new → IsPut at bits old new
up_to_all at bits old new all = put_all at bits old new (record { size = all.size; done = all.done; rest = all.rest })

-- ---- a row is put in

pub inserted_last : (at : ℕ) (bits old new : List ℕ) → ((i : ℕ) → at ≤ i → IsClear old i) → IsPut at bits old new → IsInserted at bits old new
inserted_last at bits old new clear put i b bit = put i b bit ∙ elim (cases_lt i at) [
  | inl before ↦ rw (lt-ltb i at before, ne_eqb i at (λ same. absurd (omega arith))) refl
  | inr from ↦ rw (le-ltb i at from) (elim (cases_eq i at) [
    | inl same ↦ rw (eq-eqb i at same) refl
    | inr other ↦ rw (ne_eqb i at other) (clear i (omega arith) b bit ∙ sym (clear (i - 1) (omega arith) b bit))
  ])
]

pub inserted_within : (rows at : ℕ) (bits old mid new : List ℕ) → at < rows → ((i : ℕ) → rows ≤ i → IsClear old i) → IsOpened (rows / 64 + 1) at old mid
    → ((i b : ℕ) → 64 * (rows / 64 + 1) ≤ i → b < 512 → cell mid i b ≡ cell old i b) → IsPut at bits mid new → IsInserted at bits old new
inserted_within rows at bits old mid new within clear opened behind put i b bit = put i b bit ∙ elim (cases_eq i at) [
  | inl same ↦ rw (eq-eqb i at same, le-ltb i at (omega arith)) refl
  | inr other ↦ rw (ne_eqb i at other) (elim (cases_lt i (64 * (rows / 64 + 1))) [
    | inl own ↦ opened i b own bit other
    | inr later ↦ behind i b later bit ∙ rw (le-ltb i at (omega arith)) (clear i (omega arith) b bit ∙ sym (clear (i - 1) (omega arith) b bit))
  ])
]
