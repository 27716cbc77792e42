-- Where the atoms of a template stand.
--     slot_at                         a slot that was read
--     befores_none, befores_more      the list of what stands before each atom grows
--     numbered_is                     a piece by the number of its slot
use Rattle.std.proofs.Common.{◌≡◌, ◌∙◌, ℕ, zero, suc, ◌+◌, ◌-◌, ◌<◌, ◌≤◌, ◌≢◌, List, [], ◌∷◌, ◌++◌, length, get_or, refl, sym, ap, arith, inl, inr}
use Rattle.std.proofs.lemmas.Bool.{cases_eq}
use Rattle.std.proofs.lemmas.List.{length_push, get_or_push, get_or_append_left, get_or_default}
use Rattle.mk_model.specs.Pieces.{Piece}
use Rattle.mk_model.specs.Pieces.Piece.{Copies}
use Rattle.mk_model.specs.declared.template.Slot.{Slot}
use Rattle.mk_model.specs.declared.template.Slot.TheVariants.{Link}
use Rattle.mk_model.specs.Templates.{TemplateView}
use Rattle.mk_model.specs.Pieces.{room, piece_numbered}
use Rattle.mk_pieces.proofs.ForCallers.{room_none}

-- ---- the slots that are read

-- a slot that was read at a place of the template's slots
pub slot_at : (read slots : List Slot) (k : ℕ) (slot : Slot) → read ≡ slots → k < length read → slot ≡ get_or read k slot → slot ≡ get_or slots k (Link 0 0 0 0)
slot_at read slots k slot same below is = is ∙ get_or_default read k slot (Link 0 0 0 0) below ∙ ap (λ (xs : List Slot). get_or xs k (Link 0 0 0 0)) same

-- ---- the list of what stands before

-- so far for the first k atoms
pub record AreBefores (template : TemplateView) (pieces : List Piece) (k : ℕ) (befores : List ℕ) : Type 0 where
  pub size : length befores ≡ k + 1
  pub each : (i : ℕ) → i < length befores → get_or befores i 0 ≡ room template pieces i

pub befores_none : (template : TemplateView) (pieces : List Piece) → AreBefores template pieces 0 (0 ∷ [])
befores_none template pieces = record { size = refl; each = λ i below. (let none : i ≡ 0 = omega arith in rw (none, room_none) refl) }

pub befores_more : (template : TemplateView) (pieces : List Piece) (k : ℕ) (befores : List ℕ) (total : ℕ) → AreBefores template pieces k befores → total ≡ room template pieces (k + 1)
    → AreBefores template pieces (k + 1) (befores ++ total ∷ [])
befores_more template pieces k befores total are is = record {
  size = length_push befores total ∙ ap (λ n. n + 1) are.size;
  each = λ i below.
      let long = length_push befores total in
      elim (cases_eq i (k + 1)) [
        | inl here ↦ (let at : length befores ≡ i = are.size ∙ sym here in get_or_push befores total 0 i at ∙ is ∙ ap (room template pieces) (sym here))
        | inr other ↦ (let early : i < length befores = omega (arith, are.size) in get_or_append_left befores (total ∷ []) 0 i early ∙ are.each i early)
      ];
}

-- ---- a piece by the number of its slot

pub numbered_is : (pieces : List Piece) (n : ℕ) (p : Piece) → n ≢ 0 → n ≤ length pieces → p ≡ get_or pieces (n - 1) p → p ≡ piece_numbered pieces n
numbered_is pieces zero p some within at = absurd (some refl)
numbered_is pieces (suc k) p some within at =
    let same : suc k - 1 ≡ k = omega arith in
    at ∙ ap (λ (j : ℕ). get_or pieces j p) same ∙ get_or_default pieces k p (Copies 1) (omega arith)
