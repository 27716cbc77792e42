-- How many atoms of an element there are, in a graph and in a molecule. This file serves the code
-- alone.
--     asks_for z atom, is_of z atom      the atom asks for this element alone; the atom is of this
--                                        element
--     HasNoHit graph mol                 there is no hit
use Rattle.std.specs.Prelude.{◌==◌, ℕ, Bool, false, List}
use Rattle.mk_model.specs.declared.atom_test.Kind.{Kind}
use Rattle.mk_model.specs.declared.atom_test.Kind.TheVariants.{Element}
use Rattle.mk_model.specs.declared.graph.GraphAtom.{GraphAtom}
use Rattle.mk_model.specs.declared.molecule.Atom.{Atom}
use Rattle.mk_model.specs.Molecules.{Molecule}
use Rattle.mk_model.specs.Graphs.{GraphView}
use Rattle.mk_model.specs.Hits.{IsHit}

-- the kind is this element
abbrev pub names : ℕ → Kind → Bool
names z (Element e) = e == z
names z _ = false

-- the atom asks for this element
abbrev pub asks_for : ℕ → GraphAtom → Bool
asks_for z atom = names z atom.test.kind

-- the atom is of this element
abbrev pub is_of : ℕ → Atom → Bool
is_of z atom = atom.element == z

-- no list of atoms is a hit
abbrev pub HasNoHit : GraphView → Molecule → Type 0
HasNoHit graph mol = (hit : List ℕ) → IsHit graph mol hit → ⊥
