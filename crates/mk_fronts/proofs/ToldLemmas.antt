-- What is known of the numbers that may stand at the slots of the root.
--     choices_none, choices_more, choices_all    the counts of the first slots, one slot more, all slots
use Rattle.std.proofs.Common.{◌≡◌, ℕ, ◌+◌, ◌<◌, Bool, true, false, List, [], ◌∷◌, ◌++◌, length, slice_index, ltb, refl, sym, ap, ◌∙◌, arith}
use Rattle.std.proofs.lemmas.Bool.{ltb-true, ltb-false}
use Rattle.std.proofs.lemmas.Grind.{common_steps}
use Rattle.mk_model.specs.OpenSlots.{most_at}
use Rattle.mk_model.specs.Queries.{QueryView, slots_of}
use Rattle.mk_open_codes.specs.Alone.{root_slot}
use Rattle.mk_fronts.specs.Told.{AreChoices}

-- for each of the first n slots how many numbers may stand for it
pub record AreChoicesTo (query : QueryView) (n : ℕ) (most : List ℕ) : Type 0 where
  pub size : length most ≡ n
  pub each : (s : ℕ) → s < length most → slice_index most s ≡ most_at query (root_slot query s)

pub choices_none : (query : QueryView) → AreChoicesTo query 0 []
choices_none query = record { size = refl; each = λ s within. absurd (omega (arith, within)) }

-- the number behind others, and one of those before it
last_is : (xs : List ℕ) (x s : ℕ) → s ≡ length xs → slice_index (xs ++ x ∷ []) s ≡ x
last_is xs x s at = rw at (grind (arith, common_steps))

earlier_is : (xs : List ℕ) (x s : ℕ) → s < length xs → slice_index (xs ++ x ∷ []) s ≡ slice_index xs s
earlier_is xs x s within = grind (arith, common_steps, within)

pub choices_more : (query : QueryView) (n : ℕ) (most : List ℕ) → AreChoicesTo query n most
    → AreChoicesTo query (n + 1) (most ++ most_at query (root_slot query n) ∷ [])
choices_more query n most are = record {
  size = grind (arith, common_steps, are.size);
  each = λ s within. by s (ltb s (length most)) refl within;
}
  where
    by : (s : ℕ) (b : Bool) → ltb s (length most) ≡ b → s < length (most ++ most_at query (root_slot query n) ∷ [])
        → slice_index (most ++ most_at query (root_slot query n) ∷ []) s ≡ most_at query (root_slot query s)
    by s true e within = earlier_is most _ s (ltb-true s (length most) e) ∙ are.each s (ltb-true s (length most) e)
    by s false e within =
        let past = ltb-false s (length most) e in
        let more : length (most ++ most_at query (root_slot query n) ∷ []) ≡ length most + 1 = grind (arith, common_steps) in
        let at : s ≡ length most = omega (arith, past, within, more) in
        last_is most _ s at ∙ ap (λ (i : ℕ). most_at query (root_slot query i)) (sym (at ∙ are.size))

pub choices_all : (query : QueryView) (n : ℕ) (most : List ℕ) → n ≡ length (slots_of query 0) → AreChoicesTo query n most → AreChoices query most
choices_all query n most all are = record { size = are.size ∙ all; each = are.each }
