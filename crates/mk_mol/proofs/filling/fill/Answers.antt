use Rattle.std.proofs.Common.{◌≡◌, ◌∙◌, ◌+◌, ◌-◌, ◌++◌, ◌≤◌, ◌<◌, ◌^◌, List, Some, ap, drop, sym, length, replicate, arith, take, ℕ}
use Rattle.std.specs.Prelude.{map, slice_get}
use Rattle.std.proofs.lemmas.List.{length-map}
use Rattle.mk_model.specs.declared.edge.Edge.{Edge}
use Rattle.mk_model.specs.declared.molecule.MolBond.{MolBond}
use Rattle.mk_model.specs.Edges.{IsSimple, rows_of}
use Rattle.mk_model.specs.Molecules.{HasMarks, edges}
use Rattle.mk_demands.specs.Bonds.{raw_edge}
use Rattle.mk_mol.specs.Filled.{AreGains, hydrogen_atom, hydrogen_bonds, owners}
use Rattle.mk_mol.specs.Putting.{unmarked}
use Rattle.mk_mol.proofs.FilledLemmas.{few_filled, filled_graph, molecule, is_filled}
use Rattle.mk_mol.proofs.PendantLemmas.{filled_marks}
use Rattle.mk_mol.proofs.filling.fill.Goals as goal

pub overflow_cast-count : goal.overflow_cast-count
overflow_cast-count c =
    let few : c.len-count.result < 2 ^ 32 = omega (arith, c.len-count.ensures, c.add_hydrogens.new.atoms.ok.0, c.in_ok-add_hydrogens.ensures.few) in
    record { fits = few }

pub of-requires-clause-few : goal.of-requires-clause-few
of-requires-clause-few c =
    let atoms = c.in_ok-atoms.atoms.items in
    let gains = c.in_ok-gains.gains.items in
    let new = c.add_hydrogens.new.atoms.items in
    let plain = c.add_hydrogens.new.edges.items in
    let old = c.args.drawn.edges.items in
    let are : AreGains c.args.table.now atoms gains = rw c.deref.ensures.value at c.in_ok-gains.ensures in
    let size : length gains ≡ length atoms = are.size ∙ sym c.in_ok-atoms.ensures.written.size in
    let graph : IsSimple (length atoms) old = rw c.in_ok-atoms.ensures.written.size c.requires.drawn.graph in
    let filled : new ≡ atoms ++ replicate (length (owners 1 gains)) hydrogen_atom = rw c.deref-3.ensures.value at c.in_ok-add_hydrogens.ensures.atoms in
    let bonded : plain ≡ old ++ hydrogen_bonds (length atoms + 1) (owners 1 gains) = rw c.deref-3.ensures.value at c.in_ok-add_hydrogens.ensures.edges in
    let few : length old ≤ 999 = omega (arith, ap length c.requires.drawn.edges, length-map c.args.table.now.bonds raw_edge, c.requires.few_bonds) in
    rw c.deref-5.ensures.value (few_filled atoms new old plain gains few c.in_ok-add_hydrogens.ensures.few filled bonded)

pub of-requires-clause-ends : goal.of-requires-clause-ends
of-requires-clause-ends c =
    let atoms = c.in_ok-atoms.atoms.items in
    let gains = c.in_ok-gains.gains.items in
    let new = c.add_hydrogens.new.atoms.items in
    let plain = c.add_hydrogens.new.edges.items in
    let old = c.args.drawn.edges.items in
    let are : AreGains c.args.table.now atoms gains = rw c.deref.ensures.value at c.in_ok-gains.ensures in
    let size : length gains ≡ length atoms = are.size ∙ sym c.in_ok-atoms.ensures.written.size in
    let graph : IsSimple (length atoms) old = rw c.in_ok-atoms.ensures.written.size c.requires.drawn.graph in
    let filled : new ≡ atoms ++ replicate (length (owners 1 gains)) hydrogen_atom = rw c.deref-3.ensures.value at c.in_ok-add_hydrogens.ensures.atoms in
    let bonded : plain ≡ old ++ hydrogen_bonds (length atoms + 1) (owners 1 gains) = rw c.deref-3.ensures.value at c.in_ok-add_hydrogens.ensures.edges in
    let count : c.len-count.result ≡ length new = omega (arith, c.len-count.ensures, c.add_hydrogens.new.atoms.ok.0) in
    rw (count, c.deref-5.ensures.value) (filled_graph atoms new old plain gains size graph filled bonded).ends

pub over-requires-clause-molecule : goal.over-requires-clause-molecule
over-requires-clause-molecule c =
    let atoms = c.in_ok-atoms.atoms.items in
    let gains = c.in_ok-gains.gains.items in
    let new = c.add_hydrogens.new.atoms.items in
    let plain = c.add_hydrogens.new.edges.items in
    let old = c.args.drawn.edges.items in
    let are : AreGains c.args.table.now atoms gains = rw c.deref.ensures.value at c.in_ok-gains.ensures in
    let size : length gains ≡ length atoms = are.size ∙ sym c.in_ok-atoms.ensures.written.size in
    let graph : IsSimple (length atoms) old = rw c.in_ok-atoms.ensures.written.size c.requires.drawn.graph in
    let filled : new ≡ atoms ++ replicate (length (owners 1 gains)) hydrogen_atom = rw c.deref-3.ensures.value at c.in_ok-add_hydrogens.ensures.atoms in
    let bonded : plain ≡ old ++ hydrogen_bonds (length atoms + 1) (owners 1 gains) = rw c.deref-3.ensures.value at c.in_ok-add_hydrogens.ensures.edges in
    let few : length old ≤ 999 = omega (arith, ap length c.requires.drawn.edges, length-map c.args.table.now.bonds raw_edge, c.requires.few_bonds) in
    let same : edges c.in_ok-bonds.bonds.items ≡ old = c.in_ok-bonds.ensures.edges ∙ c.deref-2.ensures.value in
    let drawn : (b : ℕ) (bond : MolBond) → slice_get c.in_ok-bonds.bonds.items b ≡ Some bond → HasMarks old b bond = rw c.deref-2.ensures.value at c.in_ok-bonds.ensures.marks in
    let many : c.len-drawn_bonds.result ≡ length old = omega (arith, c.len-drawn_bonds.ensures, c.args.drawn.edges.ok.0) in
    let made : c.add_unmarked.new.bonds.items ≡ c.in_ok-bonds.bonds.items ++ map unmarked (take (length plain - length old) (drop (length old) plain)) =
    rw (many, c.deref-4.ensures.value) at c.in_ok-add_unmarked.ensures in
    let marks = filled_marks (length atoms) old plain gains c.in_ok-bonds.bonds.items c.add_unmarked.new.bonds.items size graph bonded same drawn made in
    molecule atoms new old plain gains c.len-written.result c.add_unmarked.new.bonds.items
    (omega (arith, c.len-written.ensures, c.in_ok-atoms.atoms.ok.0)) size few c.in_ok-add_hydrogens.ensures.few c.in_ok-atoms.ensures.sound graph filled bonded marks.0 marks.1

pub over-requires-clause-rows : goal.over-requires-clause-rows
over-requires-clause-rows c =
    let atoms = c.in_ok-atoms.atoms.items in
    let gains = c.in_ok-gains.gains.items in
    let new = c.add_hydrogens.new.atoms.items in
    let plain = c.add_hydrogens.new.edges.items in
    let old = c.args.drawn.edges.items in
    let are : AreGains c.args.table.now atoms gains = rw c.deref.ensures.value at c.in_ok-gains.ensures in
    let size : length gains ≡ length atoms = are.size ∙ sym c.in_ok-atoms.ensures.written.size in
    let graph : IsSimple (length atoms) old = rw c.in_ok-atoms.ensures.written.size c.requires.drawn.graph in
    let filled : new ≡ atoms ++ replicate (length (owners 1 gains)) hydrogen_atom = rw c.deref-3.ensures.value at c.in_ok-add_hydrogens.ensures.atoms in
    let bonded : plain ≡ old ++ hydrogen_bonds (length atoms + 1) (owners 1 gains) = rw c.deref-3.ensures.value at c.in_ok-add_hydrogens.ensures.edges in
    let same : edges c.in_ok-bonds.bonds.items ≡ old = c.in_ok-bonds.ensures.edges ∙ c.deref-2.ensures.value in
    let drawn : (b : ℕ) (bond : MolBond) → slice_get c.in_ok-bonds.bonds.items b ≡ Some bond → HasMarks old b bond = rw c.deref-2.ensures.value at c.in_ok-bonds.ensures.marks in
    let many : c.len-drawn_bonds.result ≡ length old = omega (arith, c.len-drawn_bonds.ensures, c.args.drawn.edges.ok.0) in
    let made : c.add_unmarked.new.bonds.items ≡ c.in_ok-bonds.bonds.items ++ map unmarked (take (length plain - length old) (drop (length old) plain)) =
    rw (many, c.deref-4.ensures.value) at c.in_ok-add_unmarked.ensures in
    let marks = filled_marks (length atoms) old plain gains c.in_ok-bonds.bonds.items c.add_unmarked.new.bonds.items size graph bonded same drawn made in
    let count : c.len-count.result ≡ length new = omega (arith, c.len-count.ensures, c.add_hydrogens.new.atoms.ok.0) in
    c.in_ok-neighbours.ensures.rows ∙ ap (λ (n : ℕ). rows_of n c.deref-5.result.now) count
    ∙ ap (λ (es : List Edge). rows_of (length new) es) (c.deref-5.ensures.value ∙ sym marks.0)

pub returns : goal.returns
returns c =
    let atoms = c.in_ok-atoms.atoms.items in
    let gains = c.in_ok-gains.gains.items in
    let new = c.add_hydrogens.new.atoms.items in
    let plain = c.add_hydrogens.new.edges.items in
    let old = c.args.drawn.edges.items in
    let are : AreGains c.args.table.now atoms gains = rw c.deref.ensures.value at c.in_ok-gains.ensures in
    let size : length gains ≡ length atoms = are.size ∙ sym c.in_ok-atoms.ensures.written.size in
    let graph : IsSimple (length atoms) old = rw c.in_ok-atoms.ensures.written.size c.requires.drawn.graph in
    let filled : new ≡ atoms ++ replicate (length (owners 1 gains)) hydrogen_atom = rw c.deref-3.ensures.value at c.in_ok-add_hydrogens.ensures.atoms in
    let bonded : plain ≡ old ++ hydrogen_bonds (length atoms + 1) (owners 1 gains) = rw c.deref-3.ensures.value at c.in_ok-add_hydrogens.ensures.edges in
    let same : edges c.in_ok-bonds.bonds.items ≡ old = c.in_ok-bonds.ensures.edges ∙ c.deref-2.ensures.value in
    let drawn : (b : ℕ) (bond : MolBond) → slice_get c.in_ok-bonds.bonds.items b ≡ Some bond → HasMarks old b bond = rw c.deref-2.ensures.value at c.in_ok-bonds.ensures.marks in
    let many : c.len-drawn_bonds.result ≡ length old = omega (arith, c.len-drawn_bonds.ensures, c.args.drawn.edges.ok.0) in
    let made : c.add_unmarked.new.bonds.items ≡ c.in_ok-bonds.bonds.items ++ map unmarked (take (length plain - length old) (drop (length old) plain)) =
    rw (many, c.deref-4.ensures.value) at c.in_ok-add_unmarked.ensures in
    let marks = filled_marks (length atoms) old plain gains c.in_ok-bonds.bonds.items c.add_unmarked.new.bonds.items size graph bonded same drawn made in
    is_filled c.args.table.now c.over.result atoms new old plain gains c.len-written.result c.add_unmarked.new.bonds.items
    (omega (arith, c.len-written.ensures, c.in_ok-atoms.atoms.ok.0)) c.in_ok-atoms.ensures.written are c.requires.drawn.edges filled bonded
    marks.0 c.over.ensures
