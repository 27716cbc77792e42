use Rattle.std.proofs.Common.{◌+◌, ◌%◌, ℕ, [], ◌∷◌, List, get_or}
use Rattle.mk_model.specs.Aromatic.{Takes}
use Rattle.mk_model.specs.Edges.{Joins}
use Rattle.mk_marks.specs.SixRings.{set_of}
use Rattle.mk_marks.proofs.SixLemmas.{below_six, label}
use Rattle.mk_rings.proofs.RoundLemmas.{Follows-round}
use Rattle.mk_rings.proofs.spreading.mark_ring.Goals as goal

pub mark_all-requires-clause-follow : goal.mark_all-requires-clause-follow
mark_all-requires-clause-follow c = λ i below.
    let bonds : List ℕ = c.in-Some.first ∷ c.in-Some-bond_over.second ∷ c.in-Some-bond_over-2.third ∷ c.in-Some-bond_over-3.fourth ∷ c.in-Some-bond_over-4.fifth ∷ c.in-Some-bond_over-5.sixth ∷ [] in
    let x : ℕ → ℕ = λ j. get_or c.args.ring j 0 in
    let k : ℕ → ℕ = λ j. get_or bonds j 0 in
    Follows-round c.args.bonds.now c.args.marks.now c.args.label x k c.requires.label
    (record {
      distinct = c.are_distinct.ensures c.if-not-are_distinct.false;
      joined = below_six (λ j. Joins c.args.bonds.now (k j) (x j) (x ((j + 1) % 6))) c.in-Some.ensures.joined
          c.in-Some-bond_over.ensures.joined c.in-Some-bond_over-2.ensures.joined c.in-Some-bond_over-3.ensures.joined
          c.in-Some-bond_over-4.ensures.joined c.in-Some-bond_over-5.ensures.joined;
      labels = below_six (λ j. Takes c.args.bonds.now (set_of c.args.marks.now) (k j) (label c.args.label j))
          c.in-Some.ensures.takes c.in-Some-bond_over.ensures.takes c.in-Some-bond_over-2.ensures.takes
          c.in-Some-bond_over-3.ensures.takes c.in-Some-bond_over-4.ensures.takes c.in-Some-bond_over-5.ensures.takes;
    }) i below
