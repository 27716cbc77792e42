-- A part that stands in a whole, where all else of the whole hangs on it by bridges. Atoms of the part
-- stand in the whole at given places. Beside them each atom of the whole has a home, the atom of the
-- part from which it hangs, and a root, the atom by which it hangs there.
--     SameKind part b whole c           two bonds are of one type
--     IsPartBond part whole places c u v      a bond of the whole is one of the part
--     IsBeyond home root u v            two atoms hang from one atom, by one bridge
--     IsBridge count places home root u v     v hangs from u, which is an atom of the part
--     HangsOn part whole count places   all else of the whole hangs on the part by bridges
--     RingBondsStay                     a bond of the part is a ring bond there where it is one in the
--                                       whole
--     NoRingBondLeadsAway               ring bonds of the whole don't lead away from the part
--     AromaticSetStays                  a bond of the part is aromatic there where it is in the whole
use Rattle.std.specs.Prelude.{◌≡◌, ◌≢◌, ◌≤◌, ◌⊎◌, ◌↔◌, ℕ, List}
use Rattle.mk_model.specs.declared.edge.Edge.{Edge}
use Rattle.mk_model.specs.Aromatic.{IsAromatic}
use Rattle.mk_model.specs.Edges.{HasKind, IsSimple, Joins}
use Rattle.mk_model.specs.Hits.{image}
use Rattle.mk_model.specs.Rings.{IsRingBond}

-- the bond at place b of the part and the bond at place c of the whole are of one type
abbrev pub SameKind : List Edge → ℕ → List Edge → ℕ → Type 0
SameKind part b whole c = (kind : ℕ) → HasKind part b kind ↔ HasKind whole c kind

-- a bond of the whole, from u to v, is a bond of the part: u and v are the places of its ends
pub record IsPartBond (part whole : List Edge) (places : List ℕ) (c u v : ℕ) : Type 0 where
  pub b : ℕ
  pub p : ℕ
  pub q : ℕ
  pub joined : Joins part b p q
  pub first : image places p ≡ u
  pub second : image places q ≡ v
  pub kind : SameKind part b whole c

-- neither u nor v is an atom of the part, and they hang from one atom by one bridge
pub record IsBeyond (home root : ℕ → ℕ) (u v : ℕ) : Type 0 where
  pub beyond : root u ≢ 0
  pub one_root : root u ≡ root v
  pub one_home : home u ≡ home v

-- v hangs by its own bridge from u, which is an atom of the part
pub record IsBridge (count : ℕ) (places : List ℕ) (home root : ℕ → ℕ) (u v : ℕ) : Type 0 where
  pub within : (1 ≤ home v) × (home v ≤ count)
  pub at : image places (home v) ≡ u
  pub own : root v ≡ v
  pub beyond : root v ≢ 0

-- a bond of the whole is one of the part, or lies beyond it, or leads away from it
abbrev pub LiesThere : List Edge → List Edge → ℕ → List ℕ → (ℕ → ℕ) → (ℕ → ℕ) → ℕ → ℕ → ℕ → Type 0
LiesThere part whole count places home root c u v =
    IsPartBond part whole places c u v
    ⊎ (IsBeyond home root u v ⊎ (IsBridge count places home root u v ⊎ IsBridge count places home root v u))

-- The atoms of the part, of which there are so many, stand at these places in the whole, where the
-- part has all its bonds. An atom of the part is its own home and has the root 0; and each bond of the
-- whole is one of the part, lies beyond it, or leads from an atom to the root of what hangs there.
pub record HangsOn (part whole : List Edge) (count : ℕ) (places : List ℕ) : Type 0 where
  pub home : ℕ → ℕ
  pub root : ℕ → ℕ
  pub own : (p : ℕ) → 1 ≤ p → p ≤ count → (home (image places p) ≡ p) × (root (image places p) ≡ 0)
  pub shared : (b p q : ℕ) → Joins part b p q → (c : ℕ) × Joins whole c (image places p) (image places q) × SameKind part b whole c
  pub bonds : (c u v : ℕ) → Joins whole c u v → LiesThere part whole count places home root c u v

-- ---- laws

-- Where all else of the whole hangs on the part by bridges, no ring crosses from one to the other: a
-- bond of the part is a ring bond there exactly where it is one in the whole.
abbrev pub RingBondsStay : Type 0
RingBondsStay =
    (part whole : List Edge) (count atoms : ℕ) (places : List ℕ) → IsSimple count part → IsSimple atoms whole
    → HangsOn part whole count places → (b c p q : ℕ) → Joins part b p q → Joins whole c (image places p) (image places q)
    → IsRingBond part b ↔ IsRingBond whole c

-- and a ring bond of the whole that ends at an atom of the part is a bond of the part
abbrev pub NoRingBondLeadsAway : Type 0
NoRingBondLeadsAway =
    (part whole : List Edge) (count atoms : ℕ) (places : List ℕ) → IsSimple count part → IsSimple atoms whole
    → HangsOn part whole count places → (c p v : ℕ) → 1 ≤ p → p ≤ count → Joins whole c (image places p) v → IsRingBond whole c
    → (b : ℕ) × (q : ℕ) × Joins part b p q × (image places q ≡ v)

-- Six-rings lie within ring bonds. So the aromatic set of the whole, cut to the part, is the part's.
abbrev pub AromaticSetStays : Type 0
AromaticSetStays =
    (part whole : List Edge) (count atoms : ℕ) (places : List ℕ) → IsSimple count part → IsSimple atoms whole
    → HangsOn part whole count places → (b c p q : ℕ) → Joins part b p q → Joins whole c (image places p) (image places q)
    → IsAromatic part b ↔ IsAromatic whole c
