use Rattle.std.proofs.Common.{◌≡◌, ◌∙◌, ◌++◌, ℕ, Bool, List, ap, arith, drop, length, subst, sym, take}
use Rattle.std.proofs.Math.Seq.{take-append_seam}
use Rattle.mk_model.specs.declared.edge.Edge.{Edge}
use Rattle.mk_model.specs.Edges.{AreBetween, rows_of}
use Rattle.mk_model.proofs.ForCallers.{length-rows_of}
use Rattle.mk_model.specs.Aromatic.{IsAromatic}
use Rattle.mk_marks.specs.Marks.{Marks}
use Rattle.mk_rings.specs.Bridges.{AreWithoutBridges}
use Rattle.mk_rings.proofs.BridgeLemmas.{IsAromatic-rings, between_rings, rows_rings}
use Rattle.mk_rings.proofs.aromatic.aromatic_bonds_over.Goals as goal

pub mark_aromatic-requires-clause-atoms : goal.mark_aromatic-requires-clause-atoms
mark_aromatic-requires-clause-atoms c = sym (ap length c.requires.rows ∙ length-rows_of c.args.atoms c.args.bonds.now)

pub mark_aromatic-requires-clause-ends : goal.mark_aromatic-requires-clause-ends
mark_aromatic-requires-clause-ends c =
    let size : c.args.atoms ≡ length c.args.near.now = sym (ap length c.requires.rows ∙ length-rows_of c.args.atoms c.args.bonds.now) in
    let are : AreWithoutBridges c.args.bonds.now c.args.rings.now c.deref.result.now =
    subst (λ (es : List Edge). AreWithoutBridges c.args.bonds.now c.args.rings.now es) (sym c.deref.ensures.value)
    c.in_ok-ring_edges.ensures in
    let P : ℕ → Type 0 = λ n. AreBetween n c.deref.result.now in
    subst P size (between_rings c.args.bonds.now c.args.rings.now c.deref.result.now are c.args.atoms c.requires.simple.ends)

pub mark_aromatic-requires-clause-rows : goal.mark_aromatic-requires-clause-rows
mark_aromatic-requires-clause-rows c =
    let size : c.args.atoms ≡ length c.args.near.now = sym (ap length c.requires.rows ∙ length-rows_of c.args.atoms c.args.bonds.now) in
    let are : AreWithoutBridges c.args.bonds.now c.args.rings.now c.deref.result.now =
    subst (λ (es : List Edge). AreWithoutBridges c.args.bonds.now c.args.rings.now es) (sym c.deref.ensures.value)
    c.in_ok-ring_edges.ensures in
    c.requires.rows ∙ sym (rows_rings c.args.bonds.now c.args.rings.now c.deref.result.now c.args.atoms are) ∙ ap (λ n. rows_of n c.deref.result.now) size

pub mark_aromatic-requires-clause-two : goal.mark_aromatic-requires-clause-two
mark_aromatic-requires-clause-two c =
    let size : c.args.atoms ≡ length c.args.near.now = sym (ap length c.requires.rows ∙ length-rows_of c.args.atoms c.args.bonds.now) in
    omega (arith, size, c.in_ok-two.ensures.len, c.deref_mut-2.ensures.len, c.in_ok-two.two.ok)

pub mark_aromatic-requires-clause-three : goal.mark_aromatic-requires-clause-three
mark_aromatic-requires-clause-three c =
    let size : c.args.atoms ≡ length c.args.near.now = sym (ap length c.requires.rows ∙ length-rows_of c.args.atoms c.args.bonds.now) in
    omega (arith, size, c.in_ok-three.ensures.len, c.deref_mut-3.ensures.len, c.in_ok-three.three.ok)

pub returns : goal.returns
returns c =
    let are : AreWithoutBridges c.args.bonds.now c.args.rings.now c.deref.result.now =
    subst (λ (es : List Edge). AreWithoutBridges c.args.bonds.now c.args.rings.now es) (sym c.deref.ensures.value)
    c.in_ok-ring_edges.ensures in
    let size : c.in_ok-marks.marks.len ≡ length c.mark_aromatic.new.marks =
    omega (
      arith,
      c.mark_aromatic.auto.marks,
      c.deref_mut.ensures.len,
      c.in_ok-marks.marks.ok.0,
      ap length c.deref_mut.ensures.value,
    ) in
    let whole : take c.in_ok-marks.marks.len (c.mark_aromatic.new.marks ++ drop (length c.mark_aromatic.new.marks)
    c.in_ok-marks.marks.items) ≡ c.mark_aromatic.new.marks = rw size
    (take-append_seam c.mark_aromatic.new.marks (drop (length c.mark_aromatic.new.marks) c.in_ok-marks.marks.items))
    in
    let P : List Bool → Type 0 = λ marks. Marks (IsAromatic c.args.bonds.now) c.args.bonds.now marks in
    subst P (sym whole) (IsAromatic-rings c.args.bonds.now c.args.rings.now c.deref.result.now are c.requires.rings c.mark_aromatic.new.marks c.mark_aromatic.ensures)
