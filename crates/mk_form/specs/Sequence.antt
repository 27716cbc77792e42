-- One part and then another.
--     Then P Q lines value      a text of P, and then a text of Q, which depends on the value of
--                               the first
--     sequence p q              the part p, and then a part that depends on its value
use Rattle.std.specs.Prelude.{◌≡◌, List, ◌++◌, ◌⊎◌}
use Rattle.mk_form.specs.Reading.{and_then}
use Rattle.mk_form.specs.Exact.{Part}

-- The lines are a text of the first, and then a text of the second, which depends on the value of
-- the first.
pub record Then {L X V : Type 0} (P : List L → X → Type 0) (Q : X → List L → V → Type 0) (lines : List L) (value : V) : Type 0 where
  pub front : List L
  pub back : List L
  pub middle : X
  pub whole : lines ≡ front ++ back
  pub first : P front middle
  pub second : Q middle back value

-- The lines are a text of the first, and then lines of the second of which N holds.
pub record Later {L X : Type 0} (P : List L → X → Type 0) (N : X → List L → Type 0) (lines : List L) : Type 0 where
  pub front : List L
  pub back : List L
  pub middle : X
  pub whole : lines ≡ front ++ back
  pub first : P front middle
  pub second : N middle back

-- the lines end within the first, where M holds, or within the second, where N holds
abbrev pub EndsIn : {L X : Type 0} → (List L → Type 0) → (List L → X → Type 0) → (X → List L → Type 0) → List L → Type 0
EndsIn M P N lines = M lines ⊎ Later P N lines

-- one part is read, and then the part that its value asks for
abbrev pub sequence : {L X V : Type 0} → Part L X → (X → Part L V) → Part L V
sequence p q = record {
  is = Then p.is (λ x. (q x).is);
  live = EndsIn p.live p.is (λ x. (q x).live);
  due = EndsIn p.due p.is (λ x. (q x).due);
  read = λ lines. and_then (p.read lines) (λ x. (q x).read);
}
