use Rattle.std.proofs.Common.{◌≡◌, ◌-◌, false, true, Some}
use Rattle.std.specs.Prelude.{slice_get, IsTrue}
use Rattle.mk_model.specs.Edges.{HasEnds, touches}
use Rattle.mk_model.specs.Graphs.{graph_edge}
use Rattle.mk_model.specs.Fitting.{is_drawn_hydrogen}
use Rattle.mk_walk.specs.Plain.{is_plain_bond, is_plain_test}
use Rattle.mk_walk.proofs.HydrogensLemmas.{bond_passes, has_one_bond, host_found, leads_elsewhere, only_bond}
use Rattle.mk_walk.proofs.hydrogens.host_of.Goals as goal

pub returns-then-numbers-ne1-clause-none : goal.returns-then-numbers-ne1-clause-none
returns-then-numbers-ne1-clause-none c = λ x is.
    c.if-numbers-ne1.true (has_one_bond c.args.graph.now x c.args.h is c.bonds_at-numbers.result.now c.bonds_at-numbers.ensures.numbers)

pub returns-then-not-is_plain_bond-clause-none : goal.returns-then-not-is_plain_bond-clause-none
returns-then-not-is_plain_bond-clause-none c = λ x is.
    let bond = c.bond-bond.result in
    let only = only_bond graph_edge c.args.graph.now.bonds c.args.h bond c.bonds_at-numbers.result.now c.bonds_at-numbers.ensures.numbers c.if-numbers-ne1.false c.bond-bond.ensures.bond in
    let passes : is_plain_bond bond ≡ true = bond_passes c.args.graph.now x c.args.h is bond only in
    absurd cc

pub returns-then-is_drawn_hydrogen-clause-none : goal.returns-then-is_drawn_hydrogen-clause-none
returns-then-is_drawn_hydrogen-clause-none c = λ x is.
    let graph = c.args.graph.now in
    let bond = c.bond-bond.result in
    let only = only_bond graph_edge graph.bonds c.args.h bond c.bonds_at-numbers.result.now c.bonds_at-numbers.ensures.numbers c.if-numbers-ne1.false c.bond-bond.ensures.bond in
    let ends : IsTrue (touches c.args.h (graph_edge bond)) → HasEnds (graph_edge bond) c.args.h c.other_end-host.result = rw c.edge.ensures at c.other_end-host.ensures.ends in
    let elsewhere : is_drawn_hydrogen graph.atoms c.other_end-host.result ≡ false = leads_elsewhere graph x c.args.h is bond only c.other_end-host.result (ends only.touched) in
    absurd cc

pub returns-clause-some : goal.returns-clause-some
returns-clause-some c =
    let graph = c.args.graph.now in
    let bond = c.bond-bond.result in
    let only = only_bond graph_edge graph.bonds c.args.h bond c.bonds_at-numbers.result.now c.bonds_at-numbers.ensures.numbers c.if-numbers-ne1.false c.bond-bond.ensures.bond in
    let ends : IsTrue (touches c.args.h (graph_edge bond)) → HasEnds (graph_edge bond) c.args.h c.other_end-host.result = rw c.edge.ensures at c.other_end-host.ensures.ends in
    let asked = c.atom_numbered.result.now in
    let asked_at : slice_get graph.atoms (c.args.h - 1) ≡ Some asked = rw c.atoms.ensures.list at c.atom_numbered.ensures in
    let passes : is_plain_test asked.test ≡ true = cc in
    let single : is_plain_bond bond ≡ true = cc in
    let elsewhere : is_drawn_hydrogen graph.atoms c.other_end-host.result ≡ false = cc in
    host_found graph c.other_end-host.result c.args.h bond only (ends only.touched) asked asked_at passes single elsewhere
