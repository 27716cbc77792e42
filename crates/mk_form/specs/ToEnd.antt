-- Parts that run to the end of the text.
--     lines_to_end b        lines that all pass the test b, to the end
--     up_to b p             lines up to one that passes the test b, and the part p behind it; or
--                           lines of which none does, to the end
use Rattle.std.specs.Prelude.{◌≡◌, Bool, true, false, if◌then◌else◌, List, [], ◌∷◌, ◌++◌, Option, Some, None, MatchOption, ◌⊎◌}
use Rattle.mk_form.specs.Reading.{Reading, Took, Stop, and_then}
use Rattle.mk_form.specs.Exact.{Part, Never}

-- ---- lines to the end

-- the test says t of each line
abbrev pub EachIs : {L : Type 0} → (L → Bool) → Bool → List L → Type 0
EachIs b t [] = Unit {0}
EachIs b t (l ∷ lines) = (b l ≡ t) × EachIs b t lines

-- each line passes the test
abbrev pub AllLines : {L : Type 0} → (L → Bool) → List L → Unit {0} → Type 0
AllLines b lines u = EachIs b true lines

-- lines are read as long as they pass
abbrev pub read_all : {L : Type 0} → (L → Bool) → List L → Reading L (Unit {0})
read_all b [] = Took tt []
read_all b (l ∷ lines) = if b l then read_all b lines else Stop false (l ∷ lines)

-- lines that all pass the test, to the end
abbrev pub lines_to_end : {L : Type 0} → (L → Bool) → Part L (Unit {0})
lines_to_end b = record { is = AllLines b; live = EachIs b true; due = Never; read = read_all b }

-- ---- lines up to a separator

-- The lines are those before, then a line that passes the test, and then a text of Q.
pub record Separated {L V : Type 0} (b : L → Bool) (Q : List L → V → Type 0) (lines before : List L) (v : V) : Type 0 where
  pub separator : L
  pub back : List L
  pub whole : lines ≡ before ++ separator ∷ back
  pub separates : b separator ≡ true
  pub after : Q back v

-- The first lines don't pass the test. They are all the lines, or a line that passes stands behind
-- them, and then a text of Q.
pub record UpTo {L V : Type 0} (b : L → Bool) (Q : List L → V → Type 0) (lines : List L) (d : List L × Option V) : Type 0 where
  pub none : EachIs b false d.0
  pub rest : MatchOption d.1 (lines ≡ d.0) (Separated b Q lines d.0)

-- The lines end behind the first that passes the test, where N holds.
pub record EndsBehind {L : Type 0} (b : L → Bool) (N : List L → Type 0) (lines : List L) : Type 0 where
  pub before : List L
  pub separator : L
  pub back : List L
  pub whole : lines ≡ before ++ separator ∷ back
  pub none : EachIs b false before
  pub separates : b separator ≡ true
  pub here : N back

-- lines are read up to one that passes the test, and behind that one the other reader goes on
abbrev pub read_up_to : {L V : Type 0} → (L → Bool) → (List L → Reading L V) → List L → Reading L (List L × Option V)
read_up_to b s [] = Took ([], None) []
read_up_to b s (l ∷ lines) = if b l then and_then (s lines) (λ v. Took ([], Some v)) else and_then (read_up_to b s lines) (λ d. Took (l ∷ d.0, d.1))

-- lines up to one that passes the test, and then the part p; or lines to the end
abbrev pub up_to : {L V : Type 0} → (L → Bool) → Part L V → Part L (List L × Option V)
up_to b p = record { is = UpTo b p.is; live = λ lines. EachIs b false lines ⊎ EndsBehind b p.live lines; due = EndsBehind b p.due; read = read_up_to b p.read }
