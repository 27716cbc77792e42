-- Slots that become pieces, one after another.
--     Left                        some slots have become pieces, and the code goes on with a choice at the others
--     left_none, left_more, left_all
use Rattle.std.proofs.Common.{◌≡◌, ◌∙◌, ◌&&◌, ℕ, Bool, true, ◌+◌, ◌<◌, ◌≤◌, List, [], ◌∷◌, ◌++◌, length, get_or, drop, refl, sym, ap, append_assoc}
use Rattle.std.proofs.lemmas.List.{drop_more, drop_all, append-nil}
use Rattle.mk_model.specs.Pieces.{Piece}
use Rattle.mk_model.specs.declared.template.Slot.{Slot}
use Rattle.mk_expand.specs.OpenCodes.{OpenChoice, IsOpenChoice, open_spelling}
use Rattle.mk_expand.specs.OpenCodes.OpenChoice.{no_more, undecided, repeats, vacates, fills}
use Rattle.mk_expand.specs.OpenGraphs.{open_pieces, opens_one_ended}
use Rattle.mk_model.specs.Queries.{QueryView}
use Rattle.mk_expand.proofs.OneChoiceLemmas.{one_open_choice}
use Rattle.mk_expand.specs.Opening.{AreOpenChosen, OpenBegins}
use Rattle.mk_expand.proofs.OneChoiceLemmas.{IsOpenSplit, and_on, and_true, open_split}

-- The first k slots have become these pieces by the numbers between two places, and the code goes on with a choice at the
-- others; both together are a choice at all slots.
pub record Left (query : QueryView) (slots : List Slot) (k : ℕ) (code now : List ℕ) (pieces : List Piece) (one_ended : Bool) : Type 0 where
  pub others : OpenChoice
  pub rest : List ℕ
  pub whole : OpenChoice
  pub made_others : IsOpenChoice query (drop k slots) others
  pub spelt_others : open_spelling others ++ rest ≡ now
  pub made : IsOpenChoice query slots whole
  pub spelt : open_spelling whole ++ rest ≡ code
  pub are : pieces ++ open_pieces query (drop k slots) others ≡ open_pieces query slots whole
  pub ends : (one_ended && opens_one_ended query (drop k slots) others) ≡ opens_one_ended query slots whole

pub left_none : (query : QueryView) (slots : List Slot) (code : List ℕ) → OpenBegins query slots code → Left query slots 0 code code [] true
left_none query slots code begins = record {
  others = begins.choice;
  rest = begins.rest;
  whole = begins.choice;
  made_others = begins.made;
  spelt_others = begins.spelt;
  made = begins.made;
  spelt = begins.spelt;
  are = refl;
  ends = refl;
}

module _ (query : QueryView) (slots : List Slot) (k : ℕ) (code now : List ℕ) (pieces : List Piece) (one_ended : Bool) (d : Slot) (below : k < length slots)
    (left : Left query slots k code now pieces one_ended) where
  next : IsOpenSplit query (get_or slots k d ∷ []) (drop (k + 1) slots) left.others
  next = open_split query (get_or slots k d ∷ []) (drop (k + 1) slots) left.others (rw (drop_more slots k d below) at left.made_others)

  behind : open_spelling next.first ++ (open_spelling next.second ++ left.rest) ≡ now
  behind = sym (append_assoc (open_spelling next.first) (open_spelling next.second) left.rest) ∙ ap (λ s. s ++ left.rest) (sym next.spelt) ∙ left.spelt_others

  pub left_begins : OpenBegins query (get_or slots k d ∷ []) now
  left_begins = record { choice = next.first; rest = open_spelling next.second ++ left.rest; made = next.first_made; spelt = behind }

  pub left_more : (now' : List ℕ) (p : Piece) (ends : Bool) → AreOpenChosen query (get_or slots k d ∷ []) now now' (p ∷ []) ends
      → Left query slots (k + 1) code now' (pieces ++ p ∷ []) (one_ended && ends)
  left_more now' p ends chosen =
      let same = one_open_choice query (get_or slots k d ∷ []) next.first chosen.choice (open_spelling next.second ++ left.rest) now' next.first_made chosen.made (behind ∙ sym chosen.spelt) in
      let piece : p ∷ [] ≡ open_pieces query (get_or slots k d ∷ []) next.first = chosen.are ∙ ap (open_pieces query (get_or slots k d ∷ [])) (sym same.choices) in
      let all : pieces ++ open_pieces query (get_or slots k d ∷ drop (k + 1) slots) left.others ≡ open_pieces query slots left.whole = rw (drop_more slots k d below) at left.are in
      let own : ends ≡ opens_one_ended query (get_or slots k d ∷ []) next.first = chosen.ends ∙ ap (opens_one_ended query (get_or slots k d ∷ [])) (sym same.choices) in
      let all_ends : (one_ended && opens_one_ended query (get_or slots k d ∷ drop (k + 1) slots) left.others) ≡ opens_one_ended query slots left.whole = rw (drop_more slots k d below) at left.ends in
      record {
        others = next.second;
        rest = left.rest;
        whole = left.whole;
        made_others = next.second_made;
        spelt_others = same.rests;
        made = left.made;
        spelt = left.spelt;
        are = append_assoc pieces (p ∷ []) (open_pieces query (drop (k + 1) slots) next.second) ∙ ap (λ s. pieces ++ (s ++ open_pieces query (drop (k + 1) slots) next.second)) piece
            ∙ ap (λ s. pieces ++ s) (sym next.pieces) ∙ all;
        ends = sym (and_on one_ended ends (opens_one_ended query (drop (k + 1) slots) next.second))
            ∙ ap (λ (b : Bool). one_ended && (b && opens_one_ended query (drop (k + 1) slots) next.second)) own
            ∙ ap (λ (b : Bool). one_ended && b) (sym next.ends) ∙ all_ends;
      }

pub left_all : (query : QueryView) (slots : List Slot) (k : ℕ) (code now : List ℕ) (pieces : List Piece) (one_ended : Bool) → length slots ≤ k → Left query slots k code now pieces one_ended
    → AreOpenChosen query slots code now pieces one_ended
unfolding open_pieces
left_all query slots k code now pieces one_ended past left =
    by left.others (rw (drop_all k slots past) at left.made_others) left.spelt_others (rw (drop_all k slots past) at left.are) (rw (drop_all k slots past) at left.ends)
  where
    by : (others : OpenChoice) → IsOpenChoice query [] others → open_spelling others ++ left.rest ≡ now → pieces ++ open_pieces query [] others ≡ open_pieces query slots left.whole
        → (one_ended && opens_one_ended query [] others) ≡ opens_one_ended query slots left.whole → AreOpenChosen query slots code now pieces one_ended
    by no_more is spelt are ends = record {
      choice = left.whole;
      made = left.made;
      spelt = ap (λ s. open_spelling left.whole ++ s) (sym spelt) ∙ left.spelt;
      are = sym (append-nil pieces) ∙ are;
      ends = and_true one_ended ∙ ends;
    }
    by (undecided others) is spelt are ends = absurd is
    by (repeats n others) is spelt are ends = absurd is
    by (vacates n others) is spelt are ends = absurd is
    by (fills k' inside others) is spelt are ends = absurd is
