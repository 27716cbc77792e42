-- Codes that complete an open code.
--     Agrees open choice                the choice is the open one where that is decided
--     Completes query code open         a structural code of the root completes an open code
--     OpenCodesAreReadOneWay            numbers spell at most one open choice
use Rattle.std.specs.Prelude.{◌≡◌, ℕ, List}
use Rattle.mk_model.specs.Codes.{Choice, IsChoice, spelling}
use Rattle.mk_model.specs.Codes.Choice.{done, repeated, unfilled, filled}
use Rattle.mk_model.specs.Queries.{QueryView, slots_of}
use Rattle.mk_expand.specs.OpenCodes.{IsOpenChoice, IsOpenCode, OpenChoice, open_spelling}
use Rattle.mk_expand.specs.OpenCodes.OpenChoice.{no_more, undecided, repeats, vacates, fills}

-- the choice is the open one at each slot that is decided there, inside members too; at a slot that
-- is left open it may be anything
abbrev pub Agrees : OpenChoice → Choice → Type 0
Agrees no_more done = Unit {0}
Agrees (undecided others) (repeated n more) = Agrees others more
Agrees (undecided others) (unfilled n more) = Agrees others more
Agrees (undecided others) (filled k inside more) = Agrees others more
Agrees (repeats m others) (repeated n more) = (m ≡ n) × Agrees others more
Agrees (vacates m others) (unfilled n more) = (m ≡ n) × Agrees others more
Agrees (fills m within others) (filled k inside more) = (m ≡ k) × Agrees within inside × Agrees others more
Agrees open_choice choice = ⊥

-- the numbers are a structural code of the root, whose choice agrees with the open one
pub record Completes (query : QueryView) (code open_code : List ℕ) : Type 0 where
  pub choice : Choice
  pub made : IsChoice query (slots_of query 0) choice
  pub spelt : spelling choice ≡ code
  pub open_choice : OpenChoice
  pub open_made : IsOpenChoice query (slots_of query 0) open_choice
  pub open_spelt : open_spelling open_choice ≡ open_code
  pub agrees : Agrees open_choice choice

-- ---- laws

-- numbers spell at most one open choice at the slots of a template
abbrev pub OpenCodesAreReadOneWay : Type 0
OpenCodesAreReadOneWay = (query : QueryView) (t : ℕ) (open_code : List ℕ) (one other : IsOpenCode query t open_code) → one.choice ≡ other.choice
