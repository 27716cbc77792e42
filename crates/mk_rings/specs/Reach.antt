-- For the code alone: from which atoms a start is reached over two bonds and over three, told by
-- stamps.
--     Further bonds set label two three stamp             from an atom stamped in `two`, a bond
--                                                         that takes the label leads to one stamped
--                                                         in `three`
--     IsReached bonds set start label two three stamp     who is two steps from the start is
--                                                         stamped in `two`, and who is one step
--                                                         further in `three`
--     MaySkip bonds set start two three stamp label left  an atom without the stamp can't be the
--                                                         last of a path that is closed so many
--                                                         atoms further
use Rattle.std.specs.Prelude.{◌≡◌, ◌-◌, ℕ, zero, suc, Bool, List, ⊤, slice_index}
use Rattle.mk_model.specs.declared.edge.Edge.{Edge}
use Rattle.mk_model.specs.Edges.{Joins}
use Rattle.mk_model.specs.Aromatic.{Takes}
use Rattle.mk_marks.specs.SixRings.{CanClose}

-- the bonds from z that take the label lead to stamped atoms
abbrev pub LeadsToStamped : List Edge → (ℕ → Bool) → ℕ → List ℕ → ℕ → ℕ → Type 0
LeadsToStamped bonds set label table stamp z = (b w : ℕ) → Joins bonds b z w → Takes bonds set b label → slice_index table w ≡ stamp

-- from an atom stamped in `two`, a bond that takes the label leads to one stamped in `three`
abbrev pub Further : List Edge → (ℕ → Bool) → ℕ → List ℕ → List ℕ → ℕ → Type 0
Further bonds set label two three stamp = (z : ℕ) → slice_index two z ≡ stamp → LeadsToStamped bonds set label three stamp z

-- stamps stay
abbrev pub KeepsStamps : ℕ → List ℕ → List ℕ → Type 0
KeepsStamps stamp old new = (z : ℕ) → slice_index old z ≡ stamp → slice_index new z ≡ stamp

-- Over a bond that takes the label, and then one that takes the other label, the start leads to
-- atoms stamped in `two`; over one that takes the label once more these lead to atoms stamped in
-- `three`.
pub record IsReached (bonds : List Edge) (set : ℕ → Bool) (start label : ℕ) (two three : List ℕ) (stamp : ℕ) : Type 0 where
  pub ends : (b y : ℕ) → Joins bonds b start y → Takes bonds set b label → LeadsToStamped bonds set (3 - label) two stamp y
  pub further : Further bonds set label two three stamp

-- a path that can be closed so many atoms further ends at an atom with the stamp
abbrev pub Tells : List Edge → (ℕ → Bool) → ℕ → ℕ → ℕ → List ℕ → ℕ → Type 0
Tells bonds set start label left table stamp = (path : List ℕ) (x : ℕ) → CanClose bonds set start path x label left → slice_index table x ≡ stamp

-- the stamps of `two` tell so for one atom further, those of `three` for two
abbrev pub MaySkip : List Edge → (ℕ → Bool) → ℕ → List ℕ → List ℕ → ℕ → ℕ → ℕ → Type 0
MaySkip bonds set start two three stamp label zero = ⊤
MaySkip bonds set start two three stamp label (suc zero) = Tells bonds set start label 1 two stamp
MaySkip bonds set start two three stamp label (suc (suc zero)) = Tells bonds set start label 2 three stamp × Tells bonds set start (3 - label) 1 two stamp
MaySkip bonds set start two three stamp label (suc (suc (suc left))) = MaySkip bonds set start two three stamp (3 - label) (suc (suc left))
