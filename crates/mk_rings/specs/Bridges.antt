-- For the code alone: the bonds where one that is no ring bond has no type that could take a label.
--     label_if ring edge               the bond, with its type where it is a ring bond or has type
--                                      4
--     AreWithoutBridges bonds rings edges      the bonds with their types so
use Rattle.std.specs.Prelude.{◌≡◌, ◌==◌, ◌||◌, ◌<◌, ℕ, Bool, false, List, length, slice_index_or, if◌then◌else◌}
use Rattle.mk_model.specs.declared.edge.Edge.{Edge}

-- the bond, with its type where it is a ring bond or has type 4
abbrev pub label_if : Bool → Edge → Edge
label_if ring edge = if ring || edge.kind == 4 then edge else record edge { kind = 0 }

-- the edges are the bonds, in order, with their types where they are ring bonds or have type 4
pub record AreWithoutBridges (bonds : List Edge) (rings : List Bool) (edges : List Edge) : Type 0 where
  pub size : length edges ≡ length bonds
  pub each : (b : ℕ) (d : Edge) → b < length edges → slice_index_or edges b d ≡ label_if (slice_index_or rings b false) (slice_index_or bonds b d)
