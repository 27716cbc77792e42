-- The filled molecule is a molecule.
use Rattle.std.proofs.Common.{◌≡◌, ◌≤◌, ◌<◌, ◌+◌, ◌^◌, ℕ, List, [], ◌∷◌, ◌++◌, Some, refl, ap, sym, ◌∙◌, length, get_or, replicate, arith, inl, inr, ⊎_elim}
use Rattle.std.specs.Prelude.{◌⊎◌, All, slice_get}
use Rattle.std.proofs.lemmas.Bool.{cases_lt}
use Rattle.std.proofs.lemmas.List.{append-nil, append_assoc, length-append, length-replicate, length-map, length_push, get_or_append_left, get_or_push}
use Rattle.std.proofs.lemmas.List.Elements.{All-append, All-push, All-replicate, All-weaker, All-head, All-tail, All-nil}
use Rattle.mk_model.specs.declared.edge.Edge.{Edge}
use Rattle.mk_model.specs.declared.molecule.Atom.{Atom}
use Rattle.mk_model.specs.declared.molecule.MolBond.{MolBond}
use Rattle.mk_model.specs.Edges.{IsBetween, IsSimple, HasEnds, Joins}
use Rattle.mk_model.specs.Molecules.{Molecule, IsElement, IsMolecule, HasMarks, edge_of, edges}
use Rattle.mk_tables.specs.declared.raw.RawTable.{RawTable}
use Rattle.mk_demands.specs.Bonds.{edges_of}
use Rattle.mk_mol.specs.Filled.{AreGains, AreWrittenAtoms, IsFilled, hydrogen_atom, hydrogen_bonds, owners}
use Rattle.mk_mol.specs.Putting.{IsSound}
use Rattle.std.proofs.lemmas.Option.{slice_get-get_or}
use Rattle.mk_demands.proofs.ForCallers.{graph}
use Rattle.mk_mol.proofs.HydrogenLemmas.{length-hydrogen_bonds}

-- ---- the graph with hydrogens

-- an edge is between more atoms too
between-more : (atoms : ℕ) (edge : Edge) → IsBetween atoms edge → IsBetween (atoms + 1) edge
between-more atoms edge is = record {
  first = (is.first.0, omega (arith, is.first.1));
  second = (is.second.0, omega (arith, is.second.1));
  differ = is.differ;
}

-- one hydrogen more
pub graph-more : (atoms : ℕ) (bonds : List Edge) (owner : ℕ) → IsSimple atoms bonds → 1 ≤ owner → owner ≤ atoms
    → IsSimple (atoms + 1) (bonds ++ record { first = owner; second = atoms + 1; kind = 1 } ∷ [])
graph-more atoms bonds owner is least most =
    graph (atoms + 1) (bonds ++ last ∷ [])
    (All-push (IsBetween (atoms + 1)) bonds last (All-weaker (IsBetween atoms) (IsBetween (atoms + 1)) (between-more atoms) bonds is.ends) last_between)
    (λ b j d before below ends. by_place b j d before (omega (arith, below, length_push bonds last)) ends (cases_lt b (length bonds)))
  where
    last : Edge
    last = record { first = owner; second = atoms + 1; kind = 1 }

    last_between : IsBetween (atoms + 1) last
    last_between = record { first = (least, omega arith); second = (omega arith, omega arith); differ = λ same. absurd (omega (arith, same)) }

    by_place : (b j : ℕ) (d : Edge) → j < b → b ≤ length bonds
        → HasEnds (get_or (bonds ++ last ∷ []) j d) (get_or (bonds ++ last ∷ []) b d).first
        (get_or (bonds ++ last ∷ []) b d).second → (b < length bonds) ⊎ (length bonds ≤ b) → ⊥
    by_place b j d before within ends (inl earlier) =
        let at_b = get_or_append_left bonds (last ∷ []) d b earlier in
        let at_j = get_or_append_left bonds (last ∷ []) d j (omega arith) in
        let ends' : HasEnds (get_or bonds j d) (get_or bonds b d).first (get_or bonds b d).second = rw (at_b, at_j) at ends in
        let joins_j : Joins bonds j (get_or bonds b d).first (get_or bonds b d).second = record { edge = get_or bonds j d; at = slice_get-get_or bonds j d (omega arith); ends = ends' } in
        let joins_b : Joins bonds b (get_or bonds b d).first (get_or bonds b d).second = record { edge = get_or bonds b d; at = slice_get-get_or bonds b d earlier; ends = inl (refl, refl) } in
        absurd (omega (arith, is.once j b _ _ joins_j joins_b))
    by_place b j d before within ends (inr past) =
        let here : length bonds ≡ b = omega arith in
        let at_b = get_or_push bonds last d b here in
        let at_j = get_or_append_left bonds (last ∷ []) d j (omega arith) in
        let between : IsBetween atoms (get_or bonds j d) = is.ends j d (omega arith) in
        let ends' : HasEnds (get_or bonds j d) owner (atoms + 1) = rw (at_b, at_j) at ends in
        ⊎_elim (λ e. absurd (omega (arith, e.1, between.second.1))) (λ e. absurd (omega (arith, e.0, between.first.1))) ends'

-- some hydrogens more
pub graph-filled : (atoms : ℕ) (bonds : List Edge) (os : List ℕ) → IsSimple atoms bonds → All (λ o. (1 ≤ o) × (o ≤ atoms)) os → IsSimple (atoms + length os) (bonds ++ hydrogen_bonds (atoms + 1) os)
graph-filled atoms bonds [] is within =
    let none : atoms + 0 ≡ atoms = omega arith in
    rw (none, append-nil bonds) is
graph-filled atoms bonds (o ∷ os) is within =
    let here = All-head (λ (x : ℕ). (1 ≤ x) × (x ≤ atoms)) o os within in
    let others = All-weaker (λ (x : ℕ). (1 ≤ x) × (x ≤ atoms)) (λ (x : ℕ). (1 ≤ x) × (x ≤ atoms + 1)) (λ x h. (h.0, omega (arith, h.1))) os (All-tail (λ (x : ℕ). (1 ≤ x) × (x ≤ atoms)) o os within) in
    let more = graph-filled (atoms + 1) (bonds ++ record { first = o; second = atoms + 1; kind = 1 } ∷ []) os (graph-more atoms bonds o is here.0 here.1) others in
    let many : atoms + length (o ∷ os) ≡ atoms + 1 + length os = omega arith in
    let joined : bonds ++ hydrogen_bonds (atoms + 1) (o ∷ os) ≡ (bonds ++ record { first = o; second = atoms + 1; kind = 1 } ∷ []) ++ hydrogen_bonds (atoms + 1 + 1) os =
    sym (append_assoc bonds (record { first = o; second = atoms + 1; kind = 1 } ∷ []) (hydrogen_bonds (atoms + 1 + 1) os)) in
    rw (many, joined) more

-- hydrogens are added to written atoms
pub owners-within : (n : ℕ) (gains : List ℕ) → All (λ o. (n ≤ o) × (o < n + length gains)) (owners n gains)
owners-within n [] = All-nil (λ (o : ℕ). (n ≤ o) × (o < n + 0))
owners-within n (gained ∷ gains) =
    All-append (λ (o : ℕ). (n ≤ o) × (o < n + length (gained ∷ gains))) (replicate gained n) (owners (n + 1) gains)
    (All-replicate (λ (o : ℕ). (n ≤ o) × (o < n + length (gained ∷ gains))) gained n (omega arith, omega arith))
    (All-weaker (λ (o : ℕ). (n + 1 ≤ o) × (o < n + 1 + length gains))
    (λ (o : ℕ). (n ≤ o) × (o < n + length (gained ∷ gains))) (λ o h. (omega (arith, h.0), omega (arith, h.1)))
    (owners (n + 1) gains) (owners-within (n + 1) gains))

-- the edges with those of all hydrogens are a graph over all atoms
pub filled_graph : (atoms new : List Atom) (old more : List Edge) (gains : List ℕ) → length gains ≡ length atoms
    → IsSimple (length atoms) old → new ≡ atoms ++ replicate (length (owners 1 gains)) hydrogen_atom
    → more ≡ old ++ hydrogen_bonds (length atoms + 1) (owners 1 gains) → IsSimple (length new) more
filled_graph atoms new old more gains size is filled bonded =
    let os = owners 1 gains in
    let many : length new ≡ length atoms + length os = ap length filled
    ∙ length-append atoms (replicate (length os) hydrogen_atom)
    ∙ ap (λ (k : ℕ). length atoms + k) (length-replicate (length os) hydrogen_atom) in
    rw (many, bonded)
    (graph-filled (length atoms) old os is
    (All-weaker (λ (o : ℕ). (1 ≤ o) × (o < 1 + length gains)) (λ (o : ℕ). (1 ≤ o) × (o ≤ length atoms)) (λ o h. (h.0, omega (arith, h.1, size))) os (owners-within 1 gains)))

-- there are few of them
pub few_filled : (atoms new : List Atom) (old plain : List Edge) (gains : List ℕ) → length old ≤ 999
    → length new < 2 ^ 20 → new ≡ atoms ++ replicate (length (owners 1 gains)) hydrogen_atom
    → plain ≡ old ++ hydrogen_bonds (length atoms + 1) (owners 1 gains) → length plain < 2 ^ 32
few_filled atoms new old plain gains few_old few filled bonded =
    let os = owners 1 gains in
    let many : length new ≡ length atoms + length os = ap length filled
    ∙ length-append atoms (replicate (length os) hydrogen_atom)
    ∙ ap (λ (k : ℕ). length atoms + k) (length-replicate (length os) hydrogen_atom) in
    let size : length plain ≡ length old + length os =
    ap length bonded ∙ length-append old (hydrogen_bonds (length atoms + 1) os) ∙ ap (λ (k : ℕ). length old + k) (length-hydrogen_bonds (length atoms + 1) os) in
    omega arith

-- ---- the molecule

-- the atoms, filled, and their marked bonds are a molecule
pub molecule : (atoms new : List Atom) (old plain : List Edge) (gains : List ℕ) (written : ℕ) (bonds : List MolBond)
    → written ≡ length atoms → length gains ≡ length atoms → length old ≤ 999 → length new < 2 ^ 20 → All IsSound atoms
    → IsSimple (length atoms) old → new ≡ atoms ++ replicate (length (owners 1 gains)) hydrogen_atom
    → plain ≡ old ++ hydrogen_bonds (length atoms + 1) (owners 1 gains) → edges bonds ≡ plain
    → ((b : ℕ) (bond : MolBond) → slice_get bonds b ≡ Some bond → HasMarks plain b bond)
    → IsMolecule (record { written = written; atoms = new; bonds = bonds })
molecule atoms new old plain gains written bonds is size few_old few sound old_graph filled bonded same marks =
    let os = owners 1 gains in
    let many : length new ≡ length atoms + length os = ap length filled
    ∙ length-append atoms (replicate (length os) hydrogen_atom)
    ∙ ap (λ (k : ℕ). length atoms + k) (length-replicate (length os) hydrogen_atom) in
    let many_bonds : length bonds ≡ length old + length os =
    sym (length-map bonds edge_of) ∙ ap length (same ∙ bonded)
    ∙ length-append old (hydrogen_bonds (length atoms + 1) os)
    ∙ ap (λ (k : ℕ). length old + k) (length-hydrogen_bonds (length atoms + 1) os) in
    let whole : edges bonds ≡ old ++ hydrogen_bonds (length atoms + 1) os = same ∙ bonded in
    record {
      written = omega (arith, is, many);
      few_atoms = omega (arith, few);
      few_bonds = omega (arith, many_bonds, many, few, few_old);
      elements = rw filled
          (All-append (λ (atom : Atom). IsElement atom.element) atoms (replicate (length os) hydrogen_atom)
          (All-weaker IsSound (λ (atom : Atom). IsElement atom.element) (λ atom h. h.element) atoms sound)
          (All-replicate (λ (atom : Atom). IsElement atom.element) (length os) hydrogen_atom (omega arith, omega arith)));
      graph = filled_graph atoms new old (edges bonds) gains size old_graph filled whole;
      marks = rw same marks;
    }

-- and they are the filled molecule of the table
pub is_filled : (table : RawTable) (mol : Molecule) (atoms new : List Atom) (old plain : List Edge) (gains : List ℕ)
    (written : ℕ) (bonds : List MolBond) → written ≡ length atoms → AreWrittenAtoms table atoms
    → AreGains table atoms gains → old ≡ edges_of table.bonds
    → new ≡ atoms ++ replicate (length (owners 1 gains)) hydrogen_atom
    → plain ≡ old ++ hydrogen_bonds (length atoms + 1) (owners 1 gains) → edges bonds ≡ plain
    → mol ≡ record { written = written; atoms = new; bonds = bonds } → IsFilled table mol
is_filled table mol atoms new old plain gains written bonds is are gained drawn filled bonded same made = record {
  atoms = atoms;
  gains = gains;
  written = ap (λ (m : Molecule). m.written) made ∙ is ∙ are.size;
  are_written = are;
  are_gains = gained;
  filled = ap (λ (m : Molecule). m.atoms) made ∙ filled;
  bonds = ap (λ (m : Molecule). edges m.bonds) made ∙ same ∙ bonded
      ∙ ap (λ (es : List Edge). es ++ hydrogen_bonds (length atoms + 1) (owners 1 gains)) drawn
      ∙ ap (λ (k : ℕ). edges_of table.bonds ++ hydrogen_bonds (k + 1) (owners 1 gains)) are.size;
}
