-- For the code: the two halves of `Covers`.
--     CoversBits, CoversCounts      bits and counts
--     HasAll held need              one word has all bits of another
use Rattle.std.specs.Prelude.{◌≡◌, ◌<◌, ◌≤◌, ℕ, List, slice_index, IsTrue}
use Rattle.std.specs.Int.{bit_at}
use Rattle.mk_model.specs.Screens.{has_bit}

-- each bit of the need is set
abbrev pub CoversBits : List ℕ → List ℕ → Type 0
CoversBits held need = (b : ℕ) → b < 512 → IsTrue (has_bit need b) → IsTrue (has_bit held b)

-- each count is at least the need's
abbrev pub CoversCounts : List ℕ → List ℕ → Type 0
CoversCounts held need = (i : ℕ) → i < 16 → slice_index need i ≤ slice_index held i

-- each bit of the need is in the other word
abbrev pub HasAll : ℕ → ℕ → Type 0
HasAll held need = (i : ℕ) → i < 64 → bit_at need i ≡ 1 → bit_at held i ≡ 1
