-- What the searches for a bad bond find. For the code alone.
--     IsEdge atoms bond edge            the edge of a bond whose ends are two atoms
--     IsNewAt edges b                   no edge before the one at place b joins the same atoms
--     HasEarlier edges b                one does
--     IsNewAmong edges numbers b        none of those numbered does
use Rattle.std.specs.Prelude.{◌≡◌, ◌<◌, ◌-◌, ℕ, List, length, slice_index, slice_index_or}
use Rattle.mk_model.specs.declared.edge.Edge.{Edge}
use Rattle.mk_model.specs.Edges.{HasEnds, IsBetween}
use Rattle.mk_tables.specs.declared.raw.RawBond.{RawBond}
use Rattle.mk_demands.specs.Bonds.{HasTwoEnds, raw_edge}

-- the edge of a bond whose ends are two atoms
pub record IsEdge (atoms : ℕ) (bond : RawBond) (edge : Edge) : Type 0 where
  pub ends : HasTwoEnds atoms bond
  pub is : edge ≡ raw_edge bond
  pub between : IsBetween atoms edge

-- no edge before the one at place b joins the same atoms
abbrev pub IsNewAt : List Edge → ℕ → Type 0
IsNewAt edges b =
    (j : ℕ) (d : Edge) → j < b → b < length edges → ¬ (HasEnds (slice_index_or edges j d) (slice_index_or edges b d).first (slice_index_or edges b d).second)

-- an edge before the one at place b joins the same atoms
pub record HasEarlier (edges : List Edge) (b : ℕ) : Type 0 where
  pub place : ℕ
  pub before : place < b
  pub same : (d : Edge) → HasEnds (slice_index_or edges place d) (slice_index_or edges b d).first (slice_index_or edges b d).second

-- none of the edges of these numbers that stand before place b joins the same atoms
abbrev pub IsNewAmong : List Edge → List ℕ → ℕ → Type 0
IsNewAmong edges numbers b =
    (i : ℕ) (d : Edge) → i < length numbers → slice_index numbers i - 1 < b
    → ¬ (HasEnds (slice_index_or edges (slice_index numbers i - 1) d) (slice_index_or edges b d).first
    (slice_index_or edges b d).second)
