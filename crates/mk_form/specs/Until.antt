-- Parts one after the other, until an end that its first line shows.
--     Ended P E lines (xs, u)     the lines are those of each of xs, and then an end, with u
--     until b p e                 parts p until the end e, whose first line passes the test b
use Rattle.std.specs.Prelude.{◌≡◌, ℕ, zero, suc, Bool, List, [], ◌∷◌, ◌++◌, length, ◌⊎◌}
use Rattle.mk_form.specs.Exact.{Part}
use Rattle.mk_form.specs.Sequence.{sequence}
use Rattle.mk_form.specs.Seen.{seen_as}
use Rattle.mk_form.specs.Rows.{Series}
use Rattle.mk_form.specs.Choice.{choice}

-- The lines are some texts of P, and then an end.
pub record Ended {L X U : Type 0} (P : List L → X → Type 0) (E : List L → U → Type 0) (lines : List L) (value : List X × U) : Type 0 where
  pub front : List L
  pub back : List L
  pub whole : lines ≡ front ++ back
  pub items : Series P front value.0
  pub last : E back value.1

-- The lines are some texts of P, and then end within one more, where M holds, or within the end,
-- where N holds.
pub record EndsInUntil {L X : Type 0} (M : List L → Type 0) (P : List L → X → Type 0) (N : List L → Type 0) (lines : List L) : Type 0 where
  pub values : List X
  pub front : List L
  pub back : List L
  pub whole : lines ≡ front ++ back
  pub items : Series P front values
  pub last : M back ⊎ N back

-- no part, and the end
abbrev pub with_none : {X U : Type 0} → U → List X × U
with_none u = ([], u)

-- one more part before the others
abbrev pub with_first : {X U : Type 0} → X → List X × U → List X × U
with_first x v = (x ∷ v.0, v.1)

-- no more than n parts, and then the end
abbrev pub within : {L X U : Type 0} → ℕ → (L → Bool) → Part L X → Part L U → Part L (List X × U)
within zero b p e = seen_as with_none e
within (suc n) b p e = choice b (seen_as with_none e) (sequence p (λ x. seen_as (with_first x) (within n b p e)))

-- Each part has a line, so that as many parts as there are lines are enough.
abbrev pub until : {L X U : Type 0} → (L → Bool) → Part L X → Part L U → Part L (List X × U)
until b p e = record {
  is = Ended p.is e.is;
  live = EndsInUntil p.live p.is e.live;
  due = EndsInUntil p.due p.is e.due;
  read = λ lines. (within (length lines) b p e).read lines;
}
