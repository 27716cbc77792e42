-- One form in other words: what parts make up is shown to be what a readable relation says.
--     form Is Due read      a form by its relation, what is live in it being its fronts
--     SameForm p Is Due     the part p is that form
--     InWords p q           the parts p and q are one
use Rattle.std.specs.Prelude.{◌≡◌, List}
use Rattle.mk_form.specs.Fronts.{IsFront}
use Rattle.mk_form.specs.Reading.{Reading}
use Rattle.mk_form.specs.Exact.{Part}

-- The form of this relation, with the places where a line is due that may say its name, and its
-- reader.
abbrev pub form : {L V : Type 0} → (List L → V → Type 0) → (List L → Type 0) → (List L → Reading L V) → Part L V
form Is Due read = record { is = Is; live = IsFront Is; due = Due; read = read }

-- the part with its fronts in place of what is live
abbrev pub plain : {L V : Type 0} → Part L V → Part L V
plain p = form p.is p.due p.read

-- The texts of the part are those of the relation, and a line that may say its name is due in it
-- where `Due` says so.
pub record SameForm {L V : Type 0} (p : Part L V) (Is : List L → V → Type 0) (Due : List L → Type 0) : Type 0 where
  pub is_to : (lines : List L) (v : V) → p.is lines v → Is lines v
  pub is_from : (lines : List L) (v : V) → Is lines v → p.is lines v
  pub due_to : (lines : List L) → p.due lines → Due lines
  pub due_from : (lines : List L) → Due lines → p.due lines

-- The two are one part, told in two ways.
pub record InWords {L V : Type 0} (p q : Part L V) : Type 0 where
  pub is_to : (lines : List L) (v : V) → p.is lines v → q.is lines v
  pub is_from : (lines : List L) (v : V) → q.is lines v → p.is lines v
  pub live_to : (lines : List L) → p.live lines → q.live lines
  pub live_from : (lines : List L) → q.live lines → p.live lines
  pub due_to : (lines : List L) → p.due lines → q.due lines
  pub due_from : (lines : List L) → q.due lines → p.due lines
  pub reads : (lines : List L) → p.read lines ≡ q.read lines
