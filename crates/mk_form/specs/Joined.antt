-- Several lines that are read as one: each but the last goes on.
--     joined goes_on closes f     lines that go on, and one that closes; f says what they spell
--                                 together
-- A text may be cut behind a line that goes on. Such lines are live even where no further line can
-- make them spell a value: here what is live is more than the fronts.
use Rattle.std.specs.Prelude.{◌≡◌, Bool, true, false, if◌then◌else◌, Option, Some, List, [], ◌∷◌, ◌++◌, ◌⊎◌}
use Rattle.mk_form.specs.Reading.{Reading, Stop}
use Rattle.mk_form.specs.Exact.{Part, Never}
use Rattle.mk_form.specs.Lines.{line_of}
use Rattle.mk_form.specs.ToEnd.{EachIs}

-- The lines all go on but for the last, which closes, and together they spell this value.
pub record Joined {L V : Type 0} (goes_on closes : L → Bool) (f : List L → Option V) (lines : List L) (value : V) : Type 0 where
  pub firsts : List L
  pub last : L
  pub whole : lines ≡ firsts ++ last ∷ []
  pub go_on : EachIs goes_on true firsts
  pub ends : goes_on last ≡ false
  pub closed : closes last ≡ true
  pub spells : f lines ≡ Some value

-- lines that go on, or a whole text
abbrev pub UpToJoined : {L V : Type 0} → (L → Bool) → (L → Bool) → (List L → Option V) → List L → Type 0
UpToJoined {L} {V} goes_on closes f lines = EachIs goes_on true lines ⊎ ((v : V) × Joined goes_on closes f lines v)

-- lines are read up to one that doesn't go on; f says what those still to come spell together with
-- those before
abbrev pub read_joined : {L V : Type 0} → (L → Bool) → (L → Bool) → (List L → Option V) → List L → Reading L V
read_joined goes_on closes f [] = Stop false []
read_joined goes_on closes f (l ∷ lines) =
    if goes_on l then read_joined goes_on closes (λ others. f (l ∷ others)) lines else (if closes l then line_of (f (l ∷ [])) false l lines else Stop false (l ∷ lines))

-- lines that go on, and one that closes
abbrev pub joined : {L V : Type 0} → (L → Bool) → (L → Bool) → (List L → Option V) → Part L V
joined goes_on closes f = record { is = Joined goes_on closes f; live = UpToJoined goes_on closes f; due = Never; read = read_joined goes_on closes f }
