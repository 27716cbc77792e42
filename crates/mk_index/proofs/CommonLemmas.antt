-- Which rows have all bits of a need.
--     so_far_none, so_far_more, so_far_all      the bits of one word, one after another
--     common_none, common_more, common_all, common_empty      word by word
use Rattle.std.proofs.Common.{◌≡◌, ℕ, ◌+◌, ◌-◌, ◌*◌, ◌/◌, ◌%◌, ◌^◌, ◌<◌, inl, inr, true, List, get_or, refl, sym, ap, ◌∙◌, arith}
use Rattle.std.specs.Int.{bit_at}
use Rattle.std.specs.Prelude.{bit_and}
use Rattle.std.proofs.lemmas.Bool.{cases_eq, cases_lt, eq-eqb, eqb-true, ne_eqb}
use Rattle.std.proofs.lemmas.Nat.Bits.{bit_at-lt, bit_at-zero, bit_at_and, bit_at_ones}
use Rattle.mk_model.specs.Screens.{has_bit}
use Rattle.mk_index.specs.Words.{without_bit}
use Rattle.mk_index.specs.Columns.{IsCommon}

-- the bits of the need that are no longer left have been looked at
pub record IsCommonSoFar (columns : List ℕ) (base need rows left common : ℕ) : Type 0 where
  pub part : (b : ℕ) → b < 64 → bit_at left b ≡ 1 → bit_at need b ≡ 1
  pub only : (k : ℕ) → k < 64 → bit_at common k ≡ 1 → bit_at rows k ≡ 1
  pub have : (k b : ℕ) → k < 64 → bit_at common k ≡ 1 → b < 64 → bit_at need b ≡ 1 → bit_at left b ≡ 0 → bit_at (get_or columns (base + b) 0) k ≡ 1
  pub all : (k : ℕ) → k < 64 → bit_at rows k ≡ 1 → ((b : ℕ) → b < 64 → bit_at need b ≡ 1 → bit_at (get_or columns (base + b) 0) k ≡ 1) → bit_at common k ≡ 1

module _ (columns : List ℕ) (base need rows : ℕ) where
  pub so_far_none : IsCommonSoFar columns base need rows need rows
  so_far_none = record {
    part = λ b below set. set;
    only = λ k below set. set;
    have = λ k b below set under needed none. absurd (omega arith);
    all = λ k below set each. set;
  }

  -- one bit more
  pub so_far_more : (left common b rest : ℕ) → b < 64 → bit_at left b ≡ 1 → ((k : ℕ) → k < 64 → bit_at rest k ≡ without_bit left b k) → IsCommonSoFar columns base need rows left common
      → IsCommonSoFar columns base need rows rest (bit_and common (get_or columns (base + b) 0))
  so_far_more left common b rest within set bits so_far = record {
    part = λ c below is. (elim (cases_eq c b) [
      | inl same ↦ absurd (let none : bit_at rest c ≡ 0 = bits c below ∙ (rw (eq-eqb c b same) refl) in omega arith)
      | inr other ↦ so_far.part c below (sym (bits c below ∙ (rw (ne_eqb c b other) refl)) ∙ is)
    ]);
    only = λ k below is. so_far.only k below (first k is);
    have = λ k c below is under needed none. (elim (cases_eq c b) [
      | inl same ↦ rw same (second k is)
      | inr other ↦ so_far.have k c below (first k is) under needed (sym (bits c under ∙ (rw (ne_eqb c b other) refl)) ∙ none)
    ]);
    all = λ k below is each. (let kept = so_far.all k below is each in
        let here = each b within (so_far.part b within set) in
        omega (arith, bit_at_and common (get_or columns (base + b) 0) k));
  }
    where
      first : (k : ℕ) → bit_at (bit_and common (get_or columns (base + b) 0)) k ≡ 1 → bit_at common k ≡ 1
      first k is = omega (arith, bit_at_and common (get_or columns (base + b) 0) k, bit_at-lt common k)

      second : (k : ℕ) → bit_at (bit_and common (get_or columns (base + b) 0)) k ≡ 1 → bit_at (get_or columns (base + b) 0) k ≡ 1
      second k is = omega (arith, bit_at_and common (get_or columns (base + b) 0) k, bit_at-lt (get_or columns (base + b) 0) k)

  -- all bits of the word
  pub so_far_have : (left common : ℕ) → left ≡ 0 → IsCommonSoFar columns base need rows left common
      → (k b : ℕ) → k < 64 → bit_at common k ≡ 1 → b < 64 → bit_at need b ≡ 1 → bit_at (get_or columns (base + b) 0) k ≡ 1
  so_far_have left common none so_far k b below set under needed = so_far.have k b below set under needed (ap (λ n. bit_at n b) none ∙ bit_at-zero b)

-- ---- word by word

-- of the first w words of the need, all bits are set in these rows
pub record IsCommonTo (columns : List ℕ) (base : ℕ) (need : List ℕ) (w common : ℕ) : Type 0 where
  pub have : (k b : ℕ) → k < 64 → bit_at common k ≡ 1 → b < 64 * w → has_bit need b ≡ true → bit_at (get_or columns (base + b) 0) k ≡ 1
  pub all : (k : ℕ) → k < 64 → ((b : ℕ) → b < 512 → has_bit need b ≡ true → bit_at (get_or columns (base + b) 0) k ≡ 1) → bit_at common k ≡ 1

module _ (columns : List ℕ) (base : ℕ) (need : List ℕ) where
  pub common_none : IsCommonTo columns base need 0 (2 ^ 64 - 1)
  common_none = record {
    have = λ k b below set under needed. absurd (omega arith);
    all = λ k below each. bit_at_ones 64 k below;
  }

  pub common_more : (w common next : ℕ) → w < 8 → IsCommonTo columns base need w common
      → ((k : ℕ) → k < 64 → bit_at next k ≡ 1 → bit_at common k ≡ 1)
      → ((k b : ℕ) → k < 64 → bit_at next k ≡ 1 → b < 64 → bit_at (get_or need w 0) b ≡ 1 → bit_at (get_or columns (base + 64 * w + b) 0) k ≡ 1)
      → ((k : ℕ) → k < 64 → bit_at common k ≡ 1 → ((b : ℕ) → b < 64 → bit_at (get_or need w 0) b ≡ 1 → bit_at (get_or columns (base + 64 * w + b) 0) k ≡ 1) → bit_at next k ≡ 1)
      → IsCommonTo columns base need (w + 1) next
  common_more w common next within so_far only have all = record {
    have = λ k b below set under needed. (elim (cases_lt b (64 * w)) [
      | inl before ↦ so_far.have k b below (only k below set) before needed
      | inr from ↦
          (let word : b / 64 ≡ w = omega arith in
          let place : base + b ≡ base + 64 * w + b % 64 = omega arith in
          let bit : bit_at (get_or need w 0) (b % 64) ≡ 1 = rw word at (eqb-true _ 1 needed) in
          rw place (have k (b % 64) below set (omega arith) bit))
    ]);
    all = λ k below each. all k below (so_far.all k below each) (λ b under needed. (
        let word : (64 * w + b) / 64 ≡ w = omega arith in
        let place : (64 * w + b) % 64 ≡ b = omega arith in
        let there : base + (64 * w + b) ≡ base + 64 * w + b = omega arith in
        let asked : has_bit need (64 * w + b) ≡ true = rw (word, place) (eq-eqb _ 1 needed) in
        rw there at (each (64 * w + b) (omega arith) asked)));
  }

  pub common_all : (common : ℕ) → IsCommonTo columns base need 8 common → IsCommon columns base need common
  common_all common so_far = record { have = λ k b below set under needed. so_far.have k b below set under needed; all = so_far.all }

  -- where no row is left, none has all bits
  pub common_empty : (w common : ℕ) → common ≡ 0 → IsCommonTo columns base need w common → IsCommon columns base need 0
  common_empty w common none so_far = record {
    have = λ k b below set under needed. absurd (omega (arith, bit_at-zero k));
    all = λ k below each. rw none at (so_far.all k below each);
  }
