-- A part with another value.
--     seen_as f p            the part p with its value seen as another
--     with_lines p           the part p with its lines beside its value
use Rattle.std.specs.Prelude.{◌≡◌, ◌-◌, List, length, take}
use Rattle.mk_form.specs.Reading.{Reading, Took, and_then}
use Rattle.mk_form.specs.Exact.{Part}

-- ---- a value seen as another

-- The lines are a text of the part, and its value is seen as this one.
pub record Seen {L X V : Type 0} (f : X → V) (P : List L → X → Type 0) (lines : List L) (value : V) : Type 0 where
  pub first : X
  pub is : P lines first
  pub seen : value ≡ f first

-- the part is read, and its value is seen through f
abbrev pub seen_as : {L X V : Type 0} → (X → V) → Part L X → Part L V
seen_as f p = record { is = Seen f p.is; live = p.live; due = p.due; read = λ lines. and_then (p.read lines) (λ x. Took (f x)) }

-- ---- a value with its lines

-- The lines are a text of the part, and the value has them beside it.
pub record WithItsLines {L V : Type 0} (P : List L → V → Type 0) (lines : List L) (value : V × List L) : Type 0 where
  pub is : P lines value.0
  pub lines_are : value.1 ≡ lines

-- what was read, and the lines that were read
abbrev pub with_taken : {L V : Type 0} → List L → V → List L → Reading L (V × List L)
with_taken lines v rest = Took (v, take (length lines - length rest) lines) rest

-- the part is read, and its lines are kept beside its value
abbrev pub with_lines : {L V : Type 0} → Part L V → Part L (V × List L)
with_lines p = record { is = WithItsLines p.is; live = p.live; due = p.due; read = λ lines. and_then (p.read lines) (with_taken lines) }
