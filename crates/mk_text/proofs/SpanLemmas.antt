-- Parts of a text, by their places.
use Rattle.std.proofs.Common.{◌≡◌, ℕ, ◌-◌, ◌<◌, ◌≤◌, All, List, [], ◌∷◌, ◌++◌, length, take, drop, sym, ap, ◌∙◌, arith}
use Rattle.std.specs.Prelude.{slice_range}
use Rattle.std.proofs.lemmas.List.{length-map, length-drop, take_all, drop-map}
use Rattle.std.proofs.lemmas.List.Elements.{All-drop, All-push, All-take, All-weaker}
use Rattle.std.proofs.lemmas.List.Quantifiers.{all_pairs_push}
use Rattle.mk_text.specs.declared.cutting.Span.{Span}
use Rattle.mk_text.specs.Spans.{AreApart, AreWithin, parts}

-- as many parts as places
pub parts_length : (text : List ℕ) (spans : List Span) → length (parts text spans) ≡ length spans
parts_length text spans = length-map spans (λ (s : Span). slice_range text s.from s.to)

-- places behind the first so many lie in the text
pub behind_within : (text : List ℕ) (spans : List Span) (next count : ℕ) → AreWithin text spans → AreWithin text (take count (drop next spans))
behind_within text spans next count within = let P : Span → Type 0 = λ s. (s.from ≤ s.to) × (s.to ≤ length text) in All-take P count (drop next spans) (All-drop P next spans within)

-- and their parts are those behind the first so many
pub parts_behind : (text : List ℕ) (spans : List Span) (next : ℕ) → parts text (take (length spans - next) (drop next spans)) ≡ drop next (parts text spans)
parts_behind text spans next =
    ap (parts text) (take_all (length spans - next) (drop next spans) (omega (arith, length-drop next spans))) ∙ sym (drop-map (λ (s : Span). slice_range text s.from s.to) next spans)

-- one more place in the text
pub within_more : (text : List ℕ) (spans : List Span) (s : Span) → AreWithin text spans → s.from ≤ s.to → s.to ≤ length text → AreWithin text (spans ++ s ∷ [])
within_more text spans s within order ends = All-push (λ (a : Span). (a.from ≤ a.to) × (a.to ≤ length text)) spans s within (order, ends)

-- ---- places in order

-- each place ends before this one
abbrev pub AreBefore : List Span → ℕ → Type 0
AreBefore spans n = All (λ s. s.to < n) spans

-- one more place behind them
pub apart_more : (spans : List Span) (s : Span) → AreApart spans → AreBefore spans s.from → AreApart (spans ++ s ∷ [])
apart_more spans s apart before = all_pairs_push (λ (a b : Span). a.to < b.from) spans s apart (λ k d below. before k d below)

pub before_more : (spans : List Span) (s : Span) (n : ℕ) → AreBefore spans s.from → s.from ≤ n → s.to < n → AreBefore (spans ++ s ∷ []) n
before_more spans s n before order ends =
    All-push (λ (a : Span). a.to < n) spans s (All-weaker (λ (a : Span). a.to < s.from) (λ (a : Span). a.to < n) (λ a below. omega arith) spans before) ends

-- a later place
pub before_later : (spans : List Span) (m n : ℕ) → AreBefore spans m → m ≤ n → AreBefore spans n
before_later spans m n before order = All-weaker (λ (a : Span). a.to < m) (λ (a : Span). a.to < n) (λ a below. omega arith) spans before
