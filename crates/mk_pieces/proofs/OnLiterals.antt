-- Small queries by hand: what each becomes by a code.
use Rattle.std.proofs.Common.{◌≡◌, ℕ, List, [], ◌∷◌, true, false, refl}
use Rattle.std.specs.Prelude.{Bool}
use Rattle.mk_model.specs.declared.atom_test.AtomTest.{AtomTest}
use Rattle.mk_model.specs.declared.atom_test.Kind.TheVariants.{Element}
use Rattle.mk_model.specs.declared.graph.GraphAtom.{GraphAtom}
use Rattle.mk_model.specs.declared.group.Group.{Group}
use Rattle.mk_model.specs.declared.template.QueryBond.{QueryBond}
use Rattle.mk_model.specs.declared.template.Slot.TheVariants.{Link, Site}
use Rattle.mk_model.specs.Codes.Choice.{done, repeated, unfilled, filled}
use Rattle.mk_model.specs.Expansions.{all_within, anything, atoms_of, chained, copied, copies, drawn, expansion, free_ends, joined, pieces_of}
use Rattle.mk_model.specs.Pieces.{ending, room, taker}
use Rattle.mk_model.specs.Labels.{joint_members}
use Rattle.mk_model.specs.Queries.{QueryView}
use Rattle.mk_model.specs.Templates.{TemplateView, hang_together}

-- the test for an element
abbrev of : ℕ → AtomTest
of z = record anything { kind = Element z }

abbrev bond : ℕ → ℕ → ℕ → QueryBond
bond x y kind = record { first = x; second = y; kind = kind; topology = 0 }

-- an atom of an expansion
abbrev atom : ℕ → ℕ → GraphAtom
atom z free = record { test = of z; free = free }

abbrev group : List ℕ → Bool → Group
group members rest = record { members = members; then_group = 0; rest_hydrogen = rest; range = [] }

-- a member of one atom
abbrev alone : ℕ → TemplateView
alone z = record { atoms = of z ∷ []; bonds = []; slots = []; points = 1 ∷ [] }

-- ---- sites

-- a carbon between two sites that chlorine may fill
carbon_between : QueryView
carbon_between = record {
  templates =
      record {
        atoms = record anything { kind = Element 6; hydrogens = 1 } ∷ anything ∷ anything ∷ [];
        bonds = bond 1 2 1 ∷ bond 1 3 1 ∷ [];
        slots = Site 2 (1 ∷ []) 1 0 ∷ Site 3 (1 ∷ []) 1 0 ∷ [];
        points = [];
      }
      ∷ alone 17 ∷ [];
  groups = group (1 ∷ []) false ∷ [];
}

-- the first is filled, and the second left open: the carbon has a free end
one_open : expansion carbon_between 0 (filled 1 done (unfilled 2 done))
    ≡ record {
      atoms = record { test = record anything { kind = Element 6; hydrogens = 1 }; free = 1 } ∷ atom 17 0 ∷ [];
      bonds = bond 1 2 1 ∷ [];
      points = [];
    }
unfolding carbon_between hang_together taker room ending copied drawn chained all_within free_ends copies atoms_of joined pieces_of expansion joint_members
one_open = refl

-- a site whose member, an oxygen, has a site of its own
oxygen_inside : QueryView
oxygen_inside = record {
  templates =
      record { atoms = of 6 ∷ anything ∷ []; bonds = bond 1 2 1 ∷ []; slots = Site 2 (1 ∷ []) 1 0 ∷ []; points = [] }
      ∷ record { atoms = of 8 ∷ anything ∷ []; bonds = bond 1 2 1 ∷ []; slots = Site 2 (2 ∷ []) 1 0 ∷ []; points = 1 ∷ [] }
      ∷ alone 9 ∷ [];
  groups = group (1 ∷ []) false ∷ group (2 ∷ []) true ∷ [];
}

-- the inner site becomes a hydrogen
inner_hydrogen : expansion oxygen_inside 0 (filled 1 (unfilled 2 done) done)
    ≡ record { atoms = atom 6 0 ∷ atom 8 0 ∷ atom 1 0 ∷ []; bonds = bond 1 2 1 ∷ bond 2 3 1 ∷ []; points = [] }
unfolding oxygen_inside hang_together taker room ending copied drawn chained all_within free_ends copies atoms_of joined pieces_of expansion joint_members
inner_hydrogen = refl

-- and where it is filled, the bond ends at the atom that bears the point
inner_fluorine : expansion oxygen_inside 0 (filled 1 (filled 1 done done) done)
    ≡ record { atoms = atom 6 0 ∷ atom 8 0 ∷ atom 9 0 ∷ []; bonds = bond 1 2 1 ∷ bond 2 3 1 ∷ []; points = [] }
unfolding oxygen_inside hang_together taker room ending copied drawn chained all_within free_ends copies atoms_of joined pieces_of expansion joint_members
inner_fluorine = refl

-- a site of two labels: the first has chlorine, the second fluorine and hydrogens where it isn't filled
two_labels : QueryView
two_labels = record {
  templates =
      record { atoms = of 6 ∷ anything ∷ []; bonds = bond 1 2 1 ∷ []; slots = Site 2 (1 ∷ 2 ∷ []) 1 0 ∷ []; points = [] }
      ∷ alone 9 ∷ alone 17 ∷ [];
  groups = group (2 ∷ []) false ∷ group (1 ∷ []) true ∷ [];
}

-- its first member is the fluorine, whose template has the lower number
first_of_both : expansion two_labels 0 (filled 1 done done) ≡ record { atoms = atom 6 0 ∷ atom 9 0 ∷ []; bonds = bond 1 2 1 ∷ []; points = [] }
unfolding two_labels hang_together taker room ending copied drawn chained all_within free_ends copies atoms_of joined pieces_of expansion joint_members
first_of_both = refl

second_of_both : expansion two_labels 0 (filled 2 done done) ≡ record { atoms = atom 6 0 ∷ atom 17 0 ∷ []; bonds = bond 1 2 1 ∷ []; points = [] }
unfolding two_labels hang_together taker room ending copied drawn chained all_within free_ends copies atoms_of joined pieces_of expansion joint_members
second_of_both = refl

-- left open it becomes a hydrogen, since one of its labels says so
hydrogen_of_one : expansion two_labels 0 (unfilled 3 done) ≡ record { atoms = atom 6 0 ∷ atom 1 0 ∷ []; bonds = bond 1 2 1 ∷ []; points = [] }
unfolding two_labels hang_together taker room ending copied drawn chained all_within free_ends copies atoms_of joined pieces_of expansion joint_members
hydrogen_of_one = refl

-- a site between two carbons, which a chain of three carbons closes to a six-ring
ring_closed : QueryView
ring_closed = record {
  templates =
      record {
        atoms = of 6 ∷ of 6 ∷ of 6 ∷ anything ∷ [];
        bonds = bond 1 2 2 ∷ bond 2 3 1 ∷ bond 1 4 1 ∷ bond 3 4 2 ∷ [];
        slots = Site 4 (1 ∷ []) 1 3 ∷ [];
        points = [];
      }
      ∷ record { atoms = of 6 ∷ of 6 ∷ of 6 ∷ []; bonds = bond 1 2 2 ∷ bond 2 3 1 ∷ []; slots = []; points = 1 ∷ 3 ∷ [] } ∷ [];
  groups = group (1 ∷ []) false ∷ [];
}

-- each bond of the site goes to the atom with its point
six_ring : expansion ring_closed 0 (filled 1 done done)
    ≡ record {
      atoms = atom 6 0 ∷ atom 6 0 ∷ atom 6 0 ∷ atom 6 0 ∷ atom 6 0 ∷ atom 6 0 ∷ [];
      bonds = bond 1 2 2 ∷ bond 2 3 1 ∷ bond 1 4 1 ∷ bond 3 6 2 ∷ bond 4 5 2 ∷ bond 5 6 1 ∷ [];
      points = [];
    }
unfolding ring_closed hang_together taker room ending copied drawn chained all_within free_ends copies atoms_of joined pieces_of expansion joint_members
six_ring = refl

-- a site between an oxygen and a carbon, in this order, joined to the carbon by a double bond
two_neighbours : QueryView
two_neighbours = record {
  templates =
      record {
        atoms = of 6 ∷ anything ∷ of 8 ∷ [];
        bonds = bond 1 2 2 ∷ bond 2 3 1 ∷ [];
        slots = Site 2 (1 ∷ []) 3 1 ∷ [];
        points = [];
      }
      ∷ record { atoms = of 7 ∷ []; bonds = []; slots = []; points = 1 ∷ 1 ∷ [] } ∷ [];
  groups = group (1 ∷ []) true ∷ [];
}

-- left open it becomes two hydrogens, the first at the oxygen, each by a single bond
two_hydrogens : expansion two_neighbours 0 (unfilled 2 done)
    ≡ record {
      atoms = atom 6 0 ∷ atom 1 0 ∷ atom 1 0 ∷ atom 8 0 ∷ [];
      bonds = bond 1 3 1 ∷ bond 2 4 1 ∷ [];
      points = [];
    }
unfolding two_neighbours hang_together taker room ending copied drawn chained all_within free_ends copies atoms_of joined pieces_of expansion joint_members
two_hydrogens = refl

-- one atom of a member may bear both points
both_points : expansion two_neighbours 0 (filled 1 done done)
    ≡ record { atoms = atom 6 0 ∷ atom 7 0 ∷ atom 8 0 ∷ []; bonds = bond 1 2 2 ∷ bond 2 3 1 ∷ []; points = [] }
unfolding two_neighbours hang_together taker room ending copied drawn chained all_within free_ends copies atoms_of joined pieces_of expansion joint_members
both_points = refl

-- ---- links

-- a carbon that bears an oxygen may stand up to three times, between a site and a nitrogen
link_with_oxygen : QueryView
link_with_oxygen = record {
  templates =
      record {
        atoms = anything ∷ of 6 ∷ of 8 ∷ of 7 ∷ [];
        bonds = bond 1 2 1 ∷ bond 2 3 1 ∷ bond 2 4 1 ∷ [];
        slots = Site 1 (1 ∷ []) 2 0 ∷ Link 2 3 1 4 ∷ [];
        points = [];
      }
      ∷ alone 17 ∷ [];
  groups = group (1 ∷ []) false ∷ [];
}

-- twice: each copy bears its own oxygen, and the chain is bonded last
stands_twice : expansion link_with_oxygen 0 (filled 1 done (repeated 2 done))
    ≡ record {
      atoms = atom 17 0 ∷ atom 6 0 ∷ atom 6 0 ∷ atom 8 0 ∷ atom 8 0 ∷ atom 7 0 ∷ [];
      bonds = bond 1 2 1 ∷ bond 2 4 1 ∷ bond 3 5 1 ∷ bond 3 6 1 ∷ bond 2 3 1 ∷ [];
      points = [];
    }
unfolding link_with_oxygen hang_together taker room ending copied drawn chained all_within free_ends copies atoms_of joined pieces_of expansion joint_members
stands_twice = refl

-- a nitrogen may stand up to three times, between two sites
link_between_sites : QueryView
link_between_sites = record {
  templates =
      record {
        atoms = anything ∷ of 7 ∷ anything ∷ [];
        bonds = bond 1 2 1 ∷ bond 2 3 1 ∷ [];
        slots = Site 1 (1 ∷ []) 2 0 ∷ Link 2 3 1 3 ∷ Site 3 (1 ∷ []) 2 0 ∷ [];
        points = [];
      }
      ∷ alone 17 ∷ [];
  groups = group (1 ∷ []) false ∷ [];
}

-- the first copy has the free end of the first site, and the last one is bonded to what fills the second
first_open : expansion link_between_sites 0 (unfilled 2 (repeated 3 (filled 1 done done)))
    ≡ record {
      atoms = atom 7 1 ∷ atom 7 0 ∷ atom 7 0 ∷ atom 17 0 ∷ [];
      bonds = bond 3 4 1 ∷ bond 1 2 1 ∷ bond 2 3 1 ∷ [];
      points = [];
    }
unfolding link_between_sites hang_together taker room ending copied drawn chained all_within free_ends copies atoms_of joined pieces_of expansion joint_members
first_open = refl

-- both are left open: each end of the chain has a free end
both_open : expansion link_between_sites 0 (unfilled 2 (repeated 2 (unfilled 2 done)))
    ≡ record { atoms = atom 7 1 ∷ atom 7 1 ∷ []; bonds = bond 1 2 1 ∷ []; points = [] }
unfolding link_between_sites hang_together taker room ending copied drawn chained all_within free_ends copies atoms_of joined pieces_of expansion joint_members
both_open = refl

-- and a single copy has both
both_open_once : expansion link_between_sites 0 (unfilled 2 (repeated 1 (unfilled 2 done)))
    ≡ record { atoms = atom 7 2 ∷ []; bonds = []; points = [] }
unfolding link_between_sites hang_together taker room ending copied drawn chained all_within free_ends copies atoms_of joined pieces_of expansion joint_members
both_open_once = refl
