-- Parts of a text, named by where they begin and end.
--     parts text spans          the bytes of each part, in order
--     AreWithin text spans      each part lies in the text
--     AreApart spans            each part begins behind the end of every part before it
use Rattle.std.specs.Prelude.{ℕ, ◌<◌, ◌≤◌, List, All, AllPairs, length, map, slice_range}
use Rattle.mk_text.specs.declared.cutting.Span.{Span}

-- the bytes of each part, in order
abbrev pub parts : List ℕ → List Span → List (List ℕ)
parts text spans = map (λ s. slice_range text s.from s.to) spans

-- each part begins before it ends, and ends in the text
abbrev pub AreWithin : List ℕ → List Span → Type 0
AreWithin text spans = All (λ s. (s.from ≤ s.to) × (s.to ≤ length text)) spans

-- each part begins behind the end of every part before it: something stands between the two
abbrev pub AreApart : List Span → Type 0
AreApart spans = AllPairs (λ s t. s.to < t.from) spans
