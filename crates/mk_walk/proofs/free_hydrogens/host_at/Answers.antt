use Rattle.std.proofs.Common.{◌≡◌, length, arith}
use Rattle.mk_model.specs.Edges.{HasEnds, touches}
use Rattle.mk_model.specs.Molecules.{edge_of}
use Rattle.std.specs.Prelude.{IsTrue}
use Rattle.mk_walk.proofs.HydrogensLemmas.{found_at, has_one_bond_at, is_single_at, only_bond}
use Rattle.mk_walk.proofs.free_hydrogens.host_at.Goals as goal

pub returns-then-numbers-ne1-clause-none : goal.returns-then-numbers-ne1-clause-none
returns-then-numbers-ne1-clause-none c = λ m is.
    c.if-numbers-ne1.true (has_one_bond_at c.args.mol.now m c.args.y is c.bonds_at-numbers.result.now c.bonds_at-numbers.ensures.numbers)

pub returns-then-bond-ne1-clause-none : goal.returns-then-bond-ne1-clause-none
returns-then-bond-ne1-clause-none c = λ m is.
    let single : length c.bonds_at-numbers.result.now ≡ 1 = omega (arith, c.if-numbers-ne1.false) in
    let only = only_bond edge_of c.args.mol.now.bonds c.args.y c.bond-bond.result c.bonds_at-numbers.result.now c.bonds_at-numbers.ensures.numbers single c.bond-bond.ensures.bond in
    c.if-bond-ne1.true (is_single_at c.args.mol.now m c.args.y is c.bond-bond.result only)

pub returns-clause-some : goal.returns-clause-some
returns-clause-some c =
    let mol = c.args.mol.now in
    let bond = c.bond-bond.result in
    let single : length c.bonds_at-numbers.result.now ≡ 1 = omega (arith, c.if-numbers-ne1.false) in
    let only = only_bond edge_of mol.bonds c.args.y bond c.bonds_at-numbers.result.now c.bonds_at-numbers.ensures.numbers single c.bond-bond.ensures.bond in
    let ends : IsTrue (touches c.args.y (edge_of bond)) → HasEnds (edge_of bond) c.args.y c.other_end.result = rw c.edge.ensures at c.other_end.ensures.ends in
    found_at mol c.other_end.result c.args.y bond only (ends only.touched) c.atom.result c.atom.ensures.atom (omega (arith, c.if-atom-ne1.false)) (omega (arith, c.if-bond-ne1.false))
