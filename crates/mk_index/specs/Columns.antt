-- For the code: bits of rows by columns.
--     cell columns i b               1 where bit b is set in row i, else 0
--     IsClosed, IsOpened, IsPut, IsInserted     a row is taken out, made, put, and put in
--     IsCommon columns base need word      the rows of a block in which all these bits are set
--     IsClear columns i              no bit is set in row i
--     AreColumns screens columns     the columns hold the bits of these screens, and no others
--     next_word, word_before, low_at      the words that a row which is taken out or made moves
--     ClosedTo, OpenedFrom, PutTo, SetTo  how far it has come
use Rattle.std.specs.Prelude.{◌≡◌, ◌≤◌, ◌<◌, ◌+◌, ◌-◌, ◌*◌, ◌/◌, ◌%◌, ◌==◌, nat_lt, ◌⊎◌, ℕ, List, length, slice_index, slice_index_or, IsTrue, if◌then◌else◌}
use Rattle.std.specs.Int.{bit_at}
use Rattle.mk_model.specs.declared.screen.Screen.{Screen}
use Rattle.mk_model.specs.Screens.{has_bit}
use Rattle.mk_index.specs.Words.{closed_bit, opened_bit, put_in_bit, set_bit}

-- 1 where bit b is set in row i, else 0
abbrev pub cell : List ℕ → ℕ → ℕ → ℕ
cell columns i b = bit_at (slice_index columns (512 * (i / 64) + b)) (i % 64)

-- row `at` is taken out, and those behind it have gone down by one
abbrev pub IsClosed : ℕ → ℕ → List ℕ → List ℕ → Type 0
IsClosed blocks at old new =
    (i b : ℕ) → i + 1 < 64 * blocks → b < 512 → cell new i b ≡ (if nat_lt i at then cell old i b else cell old (i + 1) b)

-- a row is made at `at`, and those from there on have gone up by one
abbrev pub IsOpened : ℕ → ℕ → List ℕ → List ℕ → Type 0
IsOpened blocks at old new =
    (i b : ℕ) → i < 64 * blocks → b < 512 → (i ≡ at → ⊥) → cell new i b ≡ (if nat_lt i at then cell old i b else cell old (i - 1) b)

-- row `at` has these bits, and all others have those that they had
abbrev pub IsPut : ℕ → List ℕ → List ℕ → List ℕ → Type 0
IsPut at bits old new =
    (i b : ℕ) → b < 512 → cell new i b ≡ (if i == at then bit_at (slice_index bits (b / 64)) (b % 64) else cell old i b)

-- a row with these bits is put in at `at`, and those from there on have gone up by one
abbrev pub IsInserted : ℕ → List ℕ → List ℕ → List ℕ → Type 0
IsInserted at bits old new =
    (i b : ℕ) → b < 512 → cell new i b ≡ (if nat_lt i at then cell old i b else (if i == at then bit_at (slice_index bits (b / 64)) (b % 64) else cell old (i - 1) b))

-- the rows of the block at this place in which all bits of the need are set
pub record IsCommon (columns : List ℕ) (base : ℕ) (need : List ℕ) (word : ℕ) : Type 0 where
  pub have : (k b : ℕ) → k < 64 → bit_at word k ≡ 1 → b < 512 → IsTrue (has_bit need b) → bit_at (slice_index columns (base + b)) k ≡ 1
  pub all : (k : ℕ) → k < 64 → ((b : ℕ) → b < 512 → IsTrue (has_bit need b) → bit_at (slice_index columns (base + b)) k ≡ 1) → bit_at word k ≡ 1

-- no bit is set in the row
abbrev pub IsClear : List ℕ → ℕ → Type 0
IsClear columns i = (b : ℕ) → b < 512 → cell columns i b ≡ 0

-- there are columns for each of the screens, they hold its bits, and rows after these have none
pub record AreColumns (screens : List Screen) (columns : List ℕ) : Type 0 where
  pub size : (i : ℕ) → i < length screens → 512 * (i / 64) + 512 ≤ length columns
  pub cells : (i b : ℕ) (d : Screen) → i < length screens → b < 512 → (cell columns i b == 1) ≡ has_bit (slice_index_or screens i d).bits b
  pub clear : (i : ℕ) → length screens ≤ i → IsClear columns i

-- ---- word by word

-- the word of the same bit in the next block, or 0 behind the last
abbrev pub next_word : List ℕ → ℕ → ℕ → ℕ
next_word columns blocks q = if nat_lt (q / 512 + 1) blocks then slice_index columns (q + 512) else 0

-- the word of the same bit in the block before, or 0 in the block of the row
abbrev pub word_before : List ℕ → ℕ → ℕ → ℕ
word_before columns at q = if nat_lt (at / 64) (q / 512) then slice_index columns (q - 512) else 0

-- the place from which on the bits of a word move
abbrev pub low_at : ℕ → ℕ → ℕ
low_at at q = if nat_lt (at / 64) (q / 512) then 0 else at % 64

-- from the block of row `at` up to word q the row is taken out
pub record ClosedTo (blocks at q : ℕ) (old new : List ℕ) : Type 0 where
  pub size : length new ≡ length old
  pub done : (k j : ℕ) → at / 64 * 512 ≤ k → k < q → j < 64 → bit_at (slice_index new k) j ≡ closed_bit (slice_index old k) (next_word old blocks k) (low_at at k) j
  pub rest : (k : ℕ) → (k < at / 64 * 512) ⊎ (q ≤ k) → slice_index new k ≡ slice_index old k

-- from word q on the row is made
pub record OpenedFrom (blocks at q : ℕ) (old new : List ℕ) : Type 0 where
  pub size : length new ≡ length old
  pub done : (k j : ℕ) → q ≤ k → k < blocks * 512 → j < 64 → bit_at (slice_index new k) j ≡ opened_bit (slice_index old k) (word_before old at k) (low_at at k) j
  pub rest : (k : ℕ) → (k < q) ⊎ (blocks * 512 ≤ k) → slice_index new k ≡ slice_index old k

-- the first b bits of row `at` are put
pub record PutTo (at b : ℕ) (bits old new : List ℕ) : Type 0 where
  pub size : length new ≡ length old
  pub done : (c j : ℕ) → c < b → j < 64 → bit_at (slice_index new (at / 64 * 512 + c)) j ≡ put_in_bit (slice_index old (at / 64 * 512 + c)) (at % 64) (slice_index bits (c / 64)) (c % 64) j
  pub rest : (k : ℕ) → (k < at / 64 * 512) ⊎ (at / 64 * 512 + b ≤ k) → slice_index new k ≡ slice_index old k

-- of the bits of one word all but those that are left are set in the column of each, in the row `low` of the block
pub record SetTo (base low bits left : ℕ) (old new : List ℕ) : Type 0 where
  pub size : length new ≡ length old
  pub among : (b : ℕ) → b < 64 → bit_at left b ≡ 1 → bit_at bits b ≡ 1
  pub done : (b j : ℕ) → b < 64 → j < 64 → bit_at bits b ≡ 1 → bit_at left b ≡ 0 → bit_at (slice_index new (base + b)) j ≡ set_bit (slice_index old (base + b)) low j
  pub same : (b : ℕ) → b < 64 → bit_at left b ≡ bit_at bits b → slice_index new (base + b) ≡ slice_index old (base + b)
  pub rest : (k : ℕ) → (k < base) ⊎ (base + 64 ≤ k) → slice_index new k ≡ slice_index old k
