-- One of two parts: the first line shows which.
--     Shows b t p        the first line of the part p shows in the test b that it is this part
--     choice b p q       where the first line passes the test b the part p, else the part q
use Rattle.std.specs.Prelude.{◌≡◌, Bool, false, if◌then◌else◌, List, [], ◌∷◌, ◌⊎◌}
use Rattle.mk_form.specs.Reading.{Reading, Stop}
use Rattle.mk_form.specs.Exact.{Part}

-- there is a first line, and the test says t of it
abbrev pub FirstIs : {L : Type 0} → (L → Bool) → Bool → List L → Type 0
FirstIs b t [] = ⊥
FirstIs b t (l ∷ lines) = b l ≡ t

-- the test says t of the first line, if there is one
abbrev pub FirstMayBe : {L : Type 0} → (L → Bool) → Bool → List L → Type 0
FirstMayBe b t [] = Unit {0}
FirstMayBe b t (l ∷ lines) = b l ≡ t

-- The first line of the part shows what stands here: the test says t of it, and no line is named
-- before it.
pub record Shows {L V : Type 0} (b : L → Bool) (t : Bool) (p : Part L V) : Type 0 where
  pub text : (lines : List L) (v : V) → p.is lines v → FirstIs b t lines
  pub live : (lines : List L) → p.live lines → FirstMayBe b t lines
  pub due : (lines : List L) → p.due lines → FirstIs b t lines

-- the lines are a text of P or of Q
abbrev pub OneOf : {L V : Type 0} → (List L → V → Type 0) → (List L → V → Type 0) → List L → V → Type 0
OneOf P Q lines v = P lines v ⊎ Q lines v

-- the first line is looked at, and then one of the two readers reads from it on
abbrev pub read_choice : {L V : Type 0} → (L → Bool) → (List L → Reading L V) → (List L → Reading L V) → List L → Reading L V
read_choice b r s [] = Stop false []
read_choice b r s (l ∷ lines) = if b l then r (l ∷ lines) else s (l ∷ lines)

-- where the first line passes the test the part p, else the part q
abbrev pub choice : {L V : Type 0} → (L → Bool) → Part L V → Part L V → Part L V
choice b p q = record { is = OneOf p.is q.is; live = λ lines. p.live lines ⊎ q.live lines; due = λ lines. p.due lines ⊎ q.due lines; read = read_choice b p.read q.read }
