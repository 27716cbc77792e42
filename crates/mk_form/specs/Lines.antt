-- The smallest parts: no line, and one line. A function f from a line to an optional value says
-- what a line spells.
--     give v                 no line, and this value
--     line f                 one line, which spells a value
--     counts_line says f     one line, which spells a value or may say its name
--     line_where b           one line that passes the test b
use Rattle.std.specs.Prelude.{◌≡◌, Bool, false, if◌then◌else◌, Option, Some, None, List, [], ◌∷◌, ◌⊎◌}
use Rattle.mk_form.specs.Reading.{Reading, Took, Stop}
use Rattle.mk_form.specs.Exact.{Part, Never, AtOnce}

-- ---- no line

-- no line, and this value
abbrev pub Nothing : {L V : Type 0} → V → List L → V → Type 0
Nothing v lines w = (lines ≡ []) × (w ≡ v)

-- no line is read, and this value is given
abbrev pub give : {L V : Type 0} → V → Part L V
give v = record { is = Nothing v; live = AtOnce; due = Never; read = Took v }

-- ---- one line

-- just one line, which spells this value
pub record OneLine {L V : Type 0} (f : L → Option V) (lines : List L) (value : V) : Type 0 where
  pub line : L
  pub whole : lines ≡ line ∷ []
  pub spells : f line ≡ Some value

-- the lines are none, or the one line of the part
abbrev pub UpToOneLine : {L V : Type 0} → (L → Option V) → List L → Type 0
UpToOneLine {L} {V} f lines = (lines ≡ []) ⊎ ((v : V) × OneLine f lines v)

-- what is read of a line l that spells a value or none
abbrev pub line_of : {L V : Type 0} → Option V → Bool → L → List L → Reading L V
line_of (Some v) named l lines = Took v lines
line_of None named l lines = Stop named (l ∷ lines)

-- one line is read; `names` says of which line a stop is named
abbrev pub read_line : {L V : Type 0} → (L → Bool) → (L → Option V) → List L → Reading L V
read_line names f [] = Stop false []
read_line names f (l ∷ lines) = line_of (f l) (names l) l lines

-- one line, whose name isn't asked for
abbrev pub line : {L V : Type 0} → (L → Option V) → Part L V
line f = record { is = OneLine f; live = UpToOneLine f; due = Never; read = read_line (λ _. false) f }

-- one line that may say its name, where it spells no value
abbrev pub counts_line : {L V : Type 0} → (L → Bool) → (L → Option V) → Part L V
counts_line says f = record { is = OneLine f; live = UpToOneLine f; due = AtOnce; read = read_line says f }

-- ---- one line that passes a test

-- a line that passes the test, which spells nothing further
abbrev pub passing : {L : Type 0} → (L → Bool) → L → Option (Unit {0})
passing b l = if b l then Some tt else None

-- one line that passes the test
abbrev pub line_where : {L : Type 0} → (L → Bool) → Part L (Unit {0})
line_where b = line (passing b)
