-- The table of the atoms of a graph and those of a molecule.
--     row_starts, row_goes_on, row_ends      a row that is put behind the others
--     none_lies                              an atom that may lie nowhere is in no hit
use Rattle.std.proofs.Common.{◌≡◌, ℕ, ◌+◌, ◌*◌, ◌-◌, ◌<◌, ◌≤◌, ◌↔◌, inl, inr, Bool, true, false, IsTrue, List, [], ◌∷◌, ◌++◌, length, get_or, sym, subst, ◌∙◌, arith, length-append}
use Rattle.std.proofs.Math.ListN.{get_or-append}
use Rattle.std.proofs.Math.Nat.{mul-le-mul_right}
use Rattle.std.proofs.Math.Seq.{get_or-append_seam}
use Rattle.std.proofs.lemmas.Bool.{cases_lt}
use Rattle.mk_model.specs.Molecules.{Molecule}
use Rattle.mk_model.specs.Graphs.{GraphView, IsGraph}
use Rattle.mk_model.specs.Molecules.{IsMolecule}
use Rattle.mk_model.specs.Hits.{image, IsHit}
use Rattle.mk_counts.specs.Counts.{HasNoHit}
use Rattle.mk_walk.specs.Table.{AreRows, IsLonely, MayLie, cell}
use Rattle.mk_walk.proofs.BondCountLemmas.{may_lie}

-- the rows before that of atom x, and the first m cells of its own
pub record IsRowTo (graph : GraphView) (mol : Molecule) (x m : ℕ) (fits : List Bool) : Type 0 where
  pub size : length fits ≡ (x - 1) * length mol.atoms + m
  pub rows : (y n : ℕ) → 1 ≤ y → y ≤ x - 1 → 1 ≤ n → n ≤ length mol.atoms → IsTrue (get_or fits (cell mol y n) false) ↔ MayLie graph mol y n
  pub row : (n : ℕ) → 1 ≤ n → n ≤ m → IsTrue (get_or fits (cell mol x n) false) ↔ MayLie graph mol x n

-- so far a row counts none only where the atom may lie on none
abbrev pub IsCounted : GraphView → Molecule → ℕ → ℕ → ℕ → Type 0
IsCounted graph mol x m count = count ≡ 0 → IsLonely graph mol x m

-- a cell of an earlier row stands before a later row
earlier_cell : (mol : Molecule) (x y n : ℕ) → 1 ≤ y → y ≤ x - 1 → n ≤ length mol.atoms → 1 ≤ n → cell mol y n < (x - 1) * length mol.atoms
earlier_cell mol x y n least up most some =
    let less : y - 1 + 1 ≤ x - 1 = omega arith in
    omega (arith, mul-le-mul_right (length mol.atoms) less)

module _ (graph : GraphView) (mol : Molecule) (x : ℕ) where
  pub row_starts : (fits : List Bool) → AreRows graph mol (x - 1) fits → IsRowTo graph mol x 0 fits
  row_starts fits rows = record { size = omega (arith, rows.size); rows = rows.says; row = λ n least most. absurd (omega arith) }

  pub row_goes_on : (m : ℕ) (fits : List Bool) (says : Bool) → IsRowTo graph mol x m fits → IsTrue says ↔ MayLie graph mol x (m + 1) → IsRowTo graph mol x (m + 1) (fits ++ says ∷ [])
  row_goes_on m fits says so_far tells = record {
    size = omega (arith, length-append fits (says ∷ []), so_far.size);
    rows = λ y n least up some most.
        (let below : cell mol y n < length fits = omega (arith, earlier_cell mol x y n least up most some, so_far.size) in
        let same = get_or-append fits (says ∷ []) false (cell mol y n) below in
        subst (λ (b : Bool). IsTrue b ↔ MayLie graph mol y n) (sym same) (so_far.rows y n least up some most));
    row = λ n some most.
        elim (cases_lt m n) [
          | inl last ↦
              let is : n ≡ m + 1 = omega arith in
              let place : cell mol x n ≡ length fits = omega (arith, so_far.size) in
              let same : get_or (fits ++ says ∷ []) (cell mol x n) false ≡ says = rw place (get_or-append_seam fits says [] false) in
              subst (λ (b : Bool). IsTrue b ↔ MayLie graph mol x n) (sym same) (subst (λ (k : ℕ). IsTrue says ↔ MayLie graph mol x k) (sym is) tells)
          | inr early ↦
              let below : cell mol x n < length fits = omega (arith, so_far.size) in
              let same = get_or-append fits (says ∷ []) false (cell mol x n) below in
              subst (λ (b : Bool). IsTrue b ↔ MayLie graph mol x n) (sym same) (so_far.row n some early)
        ];
  }

  pub row_ends : (fits : List Bool) → 1 ≤ x → IsRowTo graph mol x (length mol.atoms) fits → AreRows graph mol x fits
  row_ends fits least row = record {
    size = (let more : x - 1 + 1 ≡ x = omega arith in subst (λ (k : ℕ). length fits ≡ k * length mol.atoms) more (omega (arith, row.size)));
    says = λ y n some up from most.
        elim (cases_lt y x) [
          | inl early ↦ row.rows y n some (omega arith) from most
          | inr last ↦ (let same : x ≡ y = omega arith in subst (λ (k : ℕ). IsTrue (get_or fits (cell mol k n) false) ↔ MayLie graph mol k n) same (row.row n from most))
        ];
  }

  pub count_starts : IsCounted graph mol x 0 0
  count_starts none n least most = absurd (omega arith)

  -- one more cell is counted
  pub count_goes_on : (m count more : ℕ) (says : Bool) → IsCounted graph mol x m count → IsTrue says ↔ MayLie graph mol x (m + 1)
      → (more ≡ 0 → (count ≡ 0) × (says ≡ false)) → IsCounted graph mol x (m + 1) more
  count_goes_on m count more says so_far tells counts none n least most may =
      let both = counts none in
      elim (cases_lt m n) [
        | inl last ↦
            let is : n ≡ m + 1 = omega arith in
            let yes : IsTrue says = tells.1 (subst (λ (k : ℕ). MayLie graph mol x k) is may) in
            (let clash : true ≡ false = sym yes ∙ both.1 in absurd cc)
        | inr early ↦ so_far both.0 n least early may
      ]

  -- an atom that may lie nowhere is in no hit
  pub none_lies : IsGraph graph → IsMolecule mol → 1 ≤ x → x ≤ length graph.atoms → IsLonely graph mol x (length mol.atoms) → HasNoHit graph mol
  none_lies drawing molecule least most lonely hit is =
      let whole = is.one_each in
      let below : x - 1 < length hit = omega arith in
      let range : (1 ≤ image hit x) × (image hit x ≤ length mol.atoms) = is.within (x - 1) 0 below in
      lonely (image hit x) range.0 range.1 (may_lie graph mol hit x drawing molecule is least most)
