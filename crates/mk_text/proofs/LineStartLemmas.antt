-- From where a line begins to where the next one does.
use Rattle.std.proofs.Common.{◌≡◌, ℕ, zero, suc, ◌+◌, ◌≤◌, ◌<◌, List, [], ◌∷◌, ◌++◌, Some, length, get_or, drop, refl, sym, ap, subst, ◌∙◌, inl, inr, arith}
use Rattle.std.specs.Prelude.{◌⊎◌, slice_get, slice_range}
use Rattle.std.proofs.Math.Logic.{⊎_elim}
use Rattle.std.proofs.lemmas.Option.{slice_get-get_or, slice_get_within, get_or_from_slice_get}
use Rattle.std.proofs.lemmas.List.{append-nil, drop_at, drop_more, length-append, length-drop}
use Rattle.mk_text.specs.declared.cutting.Span.{Span}
use Rattle.mk_text.specs.declared.line_start.LineStart.{LineStart}
use Rattle.mk_text.specs.Lines.{without_cr, lines_of}
use Rattle.mk_text.specs.LineStart.{BeginLines, IsLineStart, NoLfBetween}
use Rattle.mk_text.specs.Spans.{parts}
use Rattle.mk_text.proofs.KeptLinesLemmas.{lines_few}
use Rattle.mk_text.proofs.SpanLemmas.{parts_length}
use Rattle.mk_text.proofs.PieceLemmas.{lines_at, lines_last, lines_none}

-- the first of the items behind n others
pub record IsHead {A : Type 0} (items : List A) (n : ℕ) (d x : A) (rest : List A) : Type 0 where
  pub there : n < length items
  pub is : get_or items n d ≡ x
  pub behind : drop (n + 1) items ≡ rest

-- where it is known what stands behind n items
head_is : {A : Type 0} (items : List A) (n : ℕ) (d x : A) (rest : List A) → drop n items ≡ x ∷ rest → IsHead items n d x rest
head_is items n d x rest h =
    let lt : n < length items = omega (arith, ap length h, length-drop n items) in
    let split = drop_more items n d lt in
    record { there = lt; is = cc; behind = cc }

-- The line from there on is this one, and the next begins there.
pub record IsNext (text : List ℕ) (start next : LineStart) (line : List ℕ) : Type 0 where
  pub there : start.line < length (lines_of text)
  pub is : get_or (lines_of text) start.line [] ≡ line
  pub start_is : IsLineStart text next

-- it ends before an LF
pub next_at : (text : List ℕ) (start : LineStart) (i : ℕ) → IsLineStart text start → start.byte ≤ i → i < length text
    → get_or text i 0 ≡ 10 → NoLfBetween text start.byte i
    → IsNext text start (record { line = start.line + 1; byte = i + 1 }) (without_cr (slice_range text start.byte i))
next_at text start i h le lt lf none =
    let head = head_is (lines_of text) start.line [] (without_cr (slice_range text start.byte i)) (lines_of (drop (i + 1) text)) (sym h.behind ∙ lines_at text start.byte i le lt lf none) in
    let few = h.few in
    let there = head.there in
    record { there = head.there; is = head.is; start_is = record { inside = omega arith; counted = omega arith; few = omega arith; behind = sym head.behind } }

-- or with the text
pub next_last : (text : List ℕ) (start : LineStart) → IsLineStart text start → start.byte < length text
    → NoLfBetween text start.byte (length text) → IsNext text start
    (record { line = start.line + 1; byte = length text }) (without_cr (slice_range text start.byte (length text)))
next_last text start h lt none =
    let head = head_is (lines_of text) start.line [] (without_cr (slice_range text start.byte (length text))) [] (sym h.behind ∙ lines_last text start.byte lt none) in
    let few = h.few in
    let there = head.there in
    record {
      there = head.there;
      is = head.is;
      start_is = record {
        inside = omega arith;
        counted = omega arith;
        few = omega arith;
        behind = lines_none text (length text) (omega arith) ∙ sym head.behind;
      };
    }

-- no line is left at the end of the text
pub none_left : (text : List ℕ) (start : LineStart) → IsLineStart text start → start.byte ≡ length text → start.line ≡ length (lines_of text)
none_left text start h last =
    let counted = h.counted in
    omega (arith, ap length (sym (lines_none text start.byte (omega arith)) ∙ h.behind), length-drop start.line (lines_of text))

-- where the next line begins, by how the line ends
pub next_by : (text : List ℕ) (start : LineStart) (lf to byte : ℕ) → IsLineStart text start
    → (start.byte ≡ length text → ⊥) → start.byte ≤ lf → lf ≤ length text → NoLfBetween text start.byte lf
    → (lf < length text → get_or text lf 0 ≡ 10)
    → slice_range text start.byte to ≡ without_cr (slice_range text start.byte lf)
    → ((lf < length text) × (byte ≡ lf + 1)) ⊎ ((length text ≤ lf) × (byte ≡ lf))
    → IsNext text start (record { line = start.line + 1; byte = byte }) (slice_range text start.byte to)
next_by text start lf to byte h more le within none found line (inl here) =
    let next = next_at text start lf h le here.0 (found here.0) none in
    subst (λ (b : ℕ). IsNext text start (record { line = start.line + 1; byte = b }) (slice_range text start.byte to))
    (sym here.1) (subst (IsNext text start (record { line = start.line + 1; byte = lf + 1 })) (sym line) next)
next_by text start lf to byte h more le within none found line (inr past) =
    let inside = h.inside in
    let last : lf ≡ length text = omega (arith, past.0) in
    let to_end = subst (NoLfBetween text start.byte) last none in
    let next = next_last text start h (omega (arith, more)) to_end in
    subst (λ (b : ℕ). IsNext text start (record { line = start.line + 1; byte = b }) (slice_range text start.byte to))
    (sym (past.1 ∙ last)) (subst (IsNext text start (record { line = start.line + 1; byte = length text }))
    (sym (line ∙ ap (λ (n : ℕ). without_cr (slice_range text start.byte n)) last)) next)

-- ---- where the lines of a list of places begin

-- an index among the places of lines is one among the lines
pub line_there : (text : List ℕ) (spans : List Span) (at : ℕ) → parts text spans ≡ lines_of text → at ≤ length spans → at ≤ length (lines_of text)
line_there text spans at are there = omega (arith, ap length are, parts_length text spans)

-- a line begins behind the lines so far
pub starts_here : (text : List ℕ) (spans : List Span) (from : ℕ)
    → parts text spans ++ lines_of (drop from text) ≡ lines_of text → from ≤ length text → length spans ≤ from
    → IsLineStart text (record { line = length spans; byte = from })
starts_here text spans from so_far inside few =
    let left = lines_of (drop from text) in
    let sum : length spans + length left ≡ length (lines_of text) = omega (arith, ap length so_far, length-append (parts text spans) left, parts_length text spans) in
    record {
      inside = inside;
      counted = omega (arith, sum);
      few = few;
      behind = sym (drop_at (parts text spans) left (length spans) (parts_length text spans)) ∙ ap (λ (lines : List (List ℕ)). drop (length spans) lines) so_far;
    }

-- behind all lines is the end of the text
pub starts_last : (text : List ℕ) (spans : List Span) → parts text spans ≡ lines_of text → IsLineStart text (record { line = length spans; byte = length text })
starts_last text spans are =
    let none : lines_of (drop (length text) text) ≡ [] = lines_none text (length text) (omega arith) in
    let all : length (lines_of text) ≡ length spans = sym (ap length are) ∙ parts_length text spans in
    starts_here text spans (length text) (ap (λ (left : List (List ℕ)). parts text spans ++ left) none ∙ append-nil (parts text spans) ∙ are) (omega arith) (omega (arith, all, lines_few text))

-- a place among places and one more
either_place : (spans : List Span) (s : Span) (k : ℕ) (span : Span) → slice_get (spans ++ s ∷ []) k ≡ Some span → (slice_get spans k ≡ Some span) ⊎ ((k ≡ length spans) × (s ≡ span))
either_place [] s zero span here = inr (refl, cc)
either_place [] s (suc k) span here = absurd cc
either_place (t ∷ spans) s zero span here = inl here
either_place (t ∷ spans) s (suc k) span here = ⊎_elim (λ before. inl before) (λ last. inr (omega (arith, last.0), last.1)) (either_place spans s k span here)

-- one more line begins at its place
pub begin_more : (text : List ℕ) (spans : List Span) (s : Span) → BeginLines text spans → IsLineStart text (record { line = length spans; byte = s.from }) → BeginLines text (spans ++ s ∷ [])
begin_more text spans s begin here k d below =
    let span = get_or (spans ++ s ∷ []) k d in
    ⊎_elim
    (λ before. subst (λ (t : Span). IsLineStart text (record { line = k; byte = t.from })) (get_or_from_slice_get spans k span d before) (begin k d (slice_get_within spans k span before)))
    (λ last.
    let same : IsLineStart text (record { line = length spans; byte = span.from }) = subst (λ (t : Span). IsLineStart text (record { line = length spans; byte = t.from })) last.1 here in
    subst (λ (n : ℕ). IsLineStart text (record { line = n; byte = span.from })) (sym last.0) same)
    (either_place spans s k span (slice_get-get_or (spans ++ s ∷ []) k d below))
