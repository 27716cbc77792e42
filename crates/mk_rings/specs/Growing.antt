-- A forest while it grows: the atoms on the stack were reached, and their bonds are still to be
-- followed.
--     HasEndsInTree bonds nodes x       the ends of the bonds of atom x are in its tree
--     IsReaching bonds nodes stack top  what holds while the tree of an atom is grown
--     AllDone bonds nodes               every atom that was reached is done
use Rattle.std.specs.Prelude.{◌≡◌, ◌≢◌, ◌≤◌, ◌<◌, ◌⊎◌, ℕ, List, All, Contains, length}
use Rattle.mk_model.specs.declared.edge.Edge.{Edge}
use Rattle.mk_model.specs.Edges.{Joins}
use Rattle.mk_rings.specs.declared.node.Node.{Node}
use Rattle.mk_rings.specs.Forests.{node, IsGrown}

-- the ends of the bonds of atom x are in its tree
abbrev pub HasEndsInTree : List Edge → List Node → ℕ → Type 0
HasEndsInTree bonds nodes x = (b y : ℕ) → Joins bonds b x y → (node nodes y).root ≡ (node nodes x).root

-- atom x is in the tree of this top
abbrev pub IsInTree : List Node → ℕ → ℕ → Type 0
IsInTree nodes top x = (1 ≤ x) × (x < length nodes) × ((node nodes x).root ≡ top)

-- every atom that was reached is done
abbrev pub AllDone : List Edge → List Node → Type 0
AllDone bonds nodes = (x : ℕ) → (node nodes x).root ≢ 0 → HasEndsInTree bonds nodes x

-- The atoms on the stack are in the tree that is grown, and whoever was reached is done, on the
-- stack, or the atom that is followed just now (0 for none).
pub record IsReaching (bonds : List Edge) (nodes : List Node) (stack : List ℕ) (top now : ℕ) : Type 0 where
  pub grown : IsGrown bonds nodes
  pub waiting : All (IsInTree nodes top) stack
  pub others : (x : ℕ) → (node nodes x).root ≢ 0 → HasEndsInTree bonds nodes x ⊎ (Contains stack x ⊎ (x ≡ now))

-- who was reached before still is
abbrev pub StayReached : List Node → List Node → Type 0
StayReached old new = (x : ℕ) → (node old x).root ≢ 0 → (node new x).root ≢ 0
