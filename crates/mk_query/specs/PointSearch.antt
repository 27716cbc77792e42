-- How the first misplaced attachment point is found. For the code alone.
--     IsFirstBearer standing p atoms lowest      the lowest atom that bears point p, and 0 where
--                                                none does
--     IsPointedBy is_root standing first second x      the demand on atom x, by the lowest atoms
--                                                      that bear point 1 and 2
use Rattle.std.specs.Prelude.{◌≡◌, ◌≢◌, ◌≤◌, ◌<◌, ◌⊎◌, ℕ, Bool, true, false}
use Rattle.mk_query.specs.declared.atom_marks.Standing.{Standing}
use Rattle.mk_query.specs.AtomMarks.{bears, is_link, is_marked_site}

-- the lowest of so many atoms that bears point p, and 0 where none does
pub record IsFirstBearer (standing : Standing) (p atoms lowest : ℕ) : Type 0 where
  pub none : lowest ≡ 0 → (y : ℕ) → 1 ≤ y → y ≤ atoms → bears standing p y ≡ false
  pub some : lowest ≢ 0 → (lowest ≤ atoms) × (bears standing p lowest ≡ true)
  pub lower : (y : ℕ) → 1 ≤ y → y < lowest → bears standing p y ≡ false

-- Where the atom bears a point, it is no site, no link and no atom of the root, and it is the
-- lowest that bears it; and where it bears point 2, some atom bears point 1.
pub record IsPointedBy (is_root : Bool) (standing : Standing) (first second x : ℕ) : Type 0 where
  pub free : (bears standing 1 x ≡ true) ⊎ (bears standing 2 x ≡ true) → (is_root ≡ false) × (is_marked_site standing x ≡ false) × (is_link standing x ≡ false)
  pub one_alone : bears standing 1 x ≡ true → first ≡ x
  pub two_alone : bears standing 2 x ≡ true → second ≡ x
  pub has_first : bears standing 2 x ≡ true → first ≢ 0
