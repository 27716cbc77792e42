-- The same part a number of times, and a number of lines that aren't looked at.
--     Series P lines values      the lines are, in order, those of each value
--     rows n p                   the part p, n times
--     any_lines n                n lines, whatever they are
use Rattle.std.specs.Prelude.{◌≡◌, ℕ, zero, suc, ◌≤◌, nat_le, false, if◌then◌else◌, List, [], ◌∷◌, ◌++◌, length, drop}
use Rattle.mk_form.specs.Reading.{Reading, Took, Stop, and_then}
use Rattle.mk_form.specs.Exact.{Part, AtOnce, Never}
use Rattle.mk_form.specs.Sequence.{EndsIn}

-- the lines are, in order, those of each value
abbrev pub Series : {L X : Type 0} → (List L → X → Type 0) → List L → List X → Type 0
Series P lines [] = lines ≡ []
Series {L} P lines (x ∷ xs) = (front : List L) × (back : List L) × (lines ≡ front ++ back) × P front x × Series P back xs

-- The lines are n texts of the part, with these values.
pub record Times {L X : Type 0} (P : List L → X → Type 0) (n : ℕ) (lines : List L) (values : List X) : Type 0 where
  pub series : Series P lines values
  pub count : length values ≡ n

-- the lines end within one of n parts, where M holds, or behind the last, where Z holds
abbrev pub EndsInRows : {L X : Type 0} → (List L → Type 0) → (List L → Type 0) → (List L → X → Type 0) → ℕ → List L → Type 0
EndsInRows Z M P zero lines = Z lines
EndsInRows Z M P (suc n) lines = EndsIn M P (λ _. EndsInRows Z M P n) lines

-- the part is read n times
abbrev pub read_rows : {L X : Type 0} → ℕ → (List L → Reading L X) → List L → Reading L (List X)
read_rows zero r lines = Took [] lines
read_rows (suc n) r lines = and_then (r lines) (λ x mid. and_then (read_rows n r mid) (λ xs. Took (x ∷ xs)))

-- the part p, n times
abbrev pub rows : {L X : Type 0} → ℕ → Part L X → Part L (List X)
rows n p = record { is = Times p.is n; live = EndsInRows AtOnce p.live p.is n; due = EndsInRows Never p.due p.is n; read = read_rows n p.read }

-- ---- lines that aren't looked at

-- the lines are n, whatever stands on them
abbrev pub AnyLines : {L : Type 0} → ℕ → List L → Unit {0} → Type 0
AnyLines n lines u = length lines ≡ n

-- n lines are passed over, if there are as many
abbrev pub read_any : {L : Type 0} → ℕ → List L → Reading L (Unit {0})
read_any n lines = if nat_le n (length lines) then Took tt (drop n lines) else Stop false []

-- n lines, whatever stands on them
abbrev pub any_lines : {L : Type 0} → ℕ → Part L (Unit {0})
any_lines n = record { is = AnyLines n; live = λ lines. length lines ≤ n; due = Never; read = read_any n }
