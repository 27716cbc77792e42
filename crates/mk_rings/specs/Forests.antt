-- Spanning forests: each atom hangs on an atom above it by one of the bonds, or stands at the top
-- of its tree.
--     node nodes x                  the place of atom x
--     unreached nodes               how many places aren't reached
--     IsGrown bonds nodes           whoever hangs, hangs by a bond, one below the atom above, in
--                                   the same tree
--     IsForest atoms bonds nodes    besides, every atom was reached, and bonds stay within trees
--     is_over nodes x a             x is a or stands above a
use Rattle.std.specs.Prelude.{◌≡◌, ◌≢◌, ◌≤◌, ◌<◌, ◌+◌, ◌==◌, ◌||◌, ℕ, zero, suc, Bool, List, count_by, length, slice_index_or}
use Rattle.mk_model.specs.declared.edge.Edge.{Edge}
use Rattle.mk_model.specs.Edges.{Joins}
use Rattle.mk_rings.specs.declared.node.Node.{Node}

-- the place of an atom that wasn't reached
abbrev pub nowhere : Node
nowhere = record { parent = 0; via = 0; depth = 0; root = 0 }

-- the place of atom x; any other number has none
abbrev pub node : List Node → ℕ → Node
node nodes x = slice_index_or nodes x nowhere

-- atom x hangs on the atom above it
pub record Hangs (bonds : List Edge) (nodes : List Node) (x : ℕ) : Type 0 where
  pub joined : Joins bonds (node nodes x).via x (node nodes x).parent
  pub below : (node nodes (node nodes x).parent).depth + 1 ≡ (node nodes x).depth
  pub same_tree : (node nodes (node nodes x).parent).root ≡ (node nodes x).root
  pub reached : (node nodes x).root ≢ 0

-- how many places aren't reached
abbrev pub unreached : List Node → ℕ
unreached nodes = count_by (λ n. n.root == 0) nodes

-- whoever has atoms above hangs on one, and whoever has none is the top of its tree; no atom has
-- more above it than others were reached
pub record IsGrown (bonds : List Edge) (nodes : List Node) : Type 0 where
  pub hang : (x : ℕ) → 0 < (node nodes x).depth → Hangs bonds nodes x
  pub tops : (x : ℕ) → (node nodes x).root ≢ 0 → (node nodes x).depth ≡ 0 → (node nodes x).root ≡ x
  pub shallow : (x : ℕ) → (node nodes x).root ≢ 0 → (node nodes x).depth + unreached nodes < length nodes

-- every atom was reached, and the ends of each bond are in one tree
pub record IsForest (atoms : ℕ) (bonds : List Edge) (nodes : List Node) : Type 0 where
  pub grown : IsGrown bonds nodes
  pub size : length nodes ≡ atoms + 1
  pub one_tree : (b x y : ℕ) → Joins bonds b x y → (node nodes x).root ≡ (node nodes y).root
  pub reached : (x : ℕ) → 1 ≤ x → x ≤ atoms → (node nodes x).root ≢ 0

-- among the atom a and so many above it is x
abbrev pub is_among : List Node → ℕ → ℕ → ℕ → Bool
is_among nodes zero x a = x == a
is_among nodes (suc depth) x a = x == a || is_among nodes depth x (node nodes a).parent

-- x is a or stands above a
abbrev pub is_over : List Node → ℕ → ℕ → Bool
is_over nodes x a = is_among nodes (node nodes a).depth x a

-- atom x hangs by the bond at place b
abbrev pub HangsBy : List Node → ℕ → ℕ → Type 0
HangsBy nodes x b = (0 < (node nodes x).depth) × ((node nodes x).via ≡ b)
