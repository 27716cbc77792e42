-- What the code notes of the links that name an atom, in one pass over the properties. For the code
-- alone.
--     IsLinked links linked            what is noted where these links name an atom
--     AreLinked props list             what is noted of each atom
--     HasMoreLinks more old new        it was noted that more links name an atom
--     AreMoreLinks more old new        it was noted of each atom which more links name it
--     is_named linked                  some link names the atom
use Rattle.std.specs.Prelude.{◌≡◌, ◌≤◌, ◌<◌, ◌+◌, ℕ, Bool, true, false, List, [], ◌∷◌, ◌++◌, length, slice_index_or}
use Rattle.mk_props.specs.declared.property.LinkEntry.{LinkEntry}
use Rattle.mk_props.specs.declared.property.Property.{Property}
use Rattle.mk_query.specs.declared.linked_atoms.Linked.{Linked}
use Rattle.mk_query.specs.declared.linked_atoms.Linked.TheVariants as linked
use Rattle.mk_query.specs.Drawn.{links_for}
use Rattle.mk_query.specs.Marks.{AreMarks}

-- the links, told apart up to one
abbrev pub IsLinked : List LinkEntry → Linked → Type 0
IsLinked links linked.Nothing = links ≡ []
IsLinked links (linked.One link) = links ≡ link ∷ []
IsLinked links linked.More = 2 ≤ length links

-- what is noted of each atom is which links name it
abbrev pub AreLinked : List Property → List Linked → Type 0
AreLinked props list = AreMarks (λ x. IsLinked (links_for x props)) list

-- some link names the atom
abbrev pub is_named : Linked → Bool
is_named linked.Nothing = false
is_named other = true

-- it was noted that these links name an atom too, behind those that did
abbrev pub HasMoreLinks : List LinkEntry → Linked → Linked → Type 0
HasMoreLinks more old new = (links : List LinkEntry) → IsLinked links old → IsLinked (links ++ more) new

-- it was noted of each atom that these links name it too, behind those that did
pub record AreMoreLinks (more : ℕ → List LinkEntry) (old new : List Linked) : Type 0 where
  pub size : length new ≡ length old
  pub each : (k : ℕ) (d : Linked) → k < length old → HasMoreLinks (more (k + 1)) (slice_index_or old k d) (slice_index_or new k d)
