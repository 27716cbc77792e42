-- Small queries by hand: the names of their atoms, and what they join.
use Rattle.std.proofs.Common.{ℕ, inl, inr, List, [], ◌∷◌, Bool, true, false, refl, arith}
use Rattle.mk_model.specs.declared.atom_test.AtomTest.{AtomTest}
use Rattle.mk_model.specs.declared.atom_test.Kind.TheVariants.{Element}
use Rattle.mk_model.specs.declared.group.Group.{Group}
use Rattle.mk_model.specs.declared.template.QueryBond.{QueryBond}
use Rattle.mk_model.specs.declared.template.Slot.TheVariants.{Link, Site}
use Rattle.mk_model.specs.Codes.{Choice}
use Rattle.mk_model.specs.Codes.Choice.{done, repeated, unfilled, filled}
use Rattle.mk_model.specs.Expansions.{anything, hydrogen}
use Rattle.mk_model.specs.Labels.{joint_members}
use Rattle.mk_model.specs.Queries.{QueryView}
use Rattle.mk_model.specs.Templates.{hang_together}
use Rattle.mk_pieces.specs.Names.{AreJoinedNames, IsAtomNamed, IsNameThere, IsNameBefore, stand, stands_of}
use Rattle.mk_pieces.specs.Names.AreJoinedHere.{AlongBlock, AlongChain, EndToEnd}
use Rattle.mk_pieces.specs.Names.Name.{CopyOf, HydrogenAt, InMember}

-- the test for an element
abbrev of : ℕ → AtomTest
of z = record anything { kind = Element z }

abbrev bond : ℕ → ℕ → ℕ → QueryBond
bond x y kind = record { first = x; second = y; kind = kind; topology = 0 }

abbrev group : List ℕ → Bool → Group
group members rest = record { members = members; then_group = 0; rest_hydrogen = rest; range = [] }

-- ---- a site with a member of two atoms

-- a carbon with a site, which N=O may fill by its nitrogen
nitroso : QueryView
nitroso = record {
  templates =
      record { atoms = of 6 ∷ anything ∷ []; bonds = bond 1 2 1 ∷ []; slots = Site 2 (1 ∷ []) 1 0 ∷ []; points = [] }
      ∷ record { atoms = of 7 ∷ of 8 ∷ []; bonds = bond 1 2 2 ∷ []; slots = []; points = 1 ∷ [] } ∷ [];
  groups = group (1 ∷ []) false ∷ [];
}

filled_site : Choice
filled_site = filled 1 done done

-- the carbon has a name, and the nitrogen and the oxygen by the way through the site
nitroso_names : IsNameThere nitroso 0 filled_site (CopyOf 1 1) × IsNameThere nitroso 0 filled_site (InMember 2 (CopyOf 1 1)) × IsNameThere nitroso 0 filled_site (InMember 2 (CopyOf 2 1))
unfolding nitroso filled_site hang_together stands_of stand joint_members
nitroso_names = (
  ((omega arith, omega arith), (omega arith, omega arith)),
  ((omega arith, omega arith), 1, done, refl, ((omega arith, omega arith), (omega arith, omega arith))),
  ((omega arith, omega arith), 1, done, refl, ((omega arith, omega arith), (omega arith, omega arith))),
)

-- the site itself has none
no_site : IsNameThere nitroso 0 filled_site (CopyOf 2 1) → ⊥
unfolding nitroso filled_site hang_together stands_of stand joint_members
no_site (at, there) = there

-- the carbon is joined to the nitrogen, which bears the point, by the site's single bond
carbon_nitrogen : AreJoinedNames nitroso 0 filled_site (CopyOf 1 1) (InMember 2 (CopyOf 1 1)) 1 0
unfolding nitroso filled_site hang_together stands_of stand joint_members
carbon_nitrogen = EndToEnd (bond 1 2 1) 1 2 (0, omega arith, refl) refl refl refl refl (record { kind_is = refl; topology_is = refl })

-- and the nitrogen to the oxygen by the member's double bond
nitrogen_oxygen : AreJoinedNames nitroso 0 filled_site (InMember 2 (CopyOf 1 1)) (InMember 2 (CopyOf 2 1)) 2 0
unfolding nitroso filled_site hang_together stands_of stand joint_members
nitrogen_oxygen = inr (refl, 1, done, refl, EndToEnd (bond 1 2 2) 1 2 (0, omega arith, refl) refl refl refl refl (record { kind_is = refl; topology_is = refl }))

-- ---- a link of two copies

-- a carbon that bears an oxygen may stand up to three times, joined to both neighbours by double bonds
chain : QueryView
chain = record {
  templates =
      record {
        atoms = of 7 ∷ of 6 ∷ of 8 ∷ anything ∷ [];
        bonds = bond 1 2 2 ∷ bond 2 3 1 ∷ bond 2 4 2 ∷ [];
        slots = Link 2 3 1 4 ∷ Site 4 (1 ∷ []) 2 0 ∷ [];
        points = [];
      } ∷ [];
  groups = group [] false ∷ [];
}

-- it stands twice, and the site at its far end is left open
twice : Choice
twice = repeated 2 (unfilled 1 done)

-- the second copy of the oxygen has a name
second_oxygen : IsNameThere chain 0 twice (CopyOf 3 2)
unfolding chain twice hang_together stands_of stand joint_members
second_oxygen = ((omega arith, omega arith), (omega arith, omega arith))

-- it stands behind both carbons
behind_carbons : IsNameBefore (CopyOf 2 2) (CopyOf 3 2)
behind_carbons = inl (omega arith)

-- the copies of the carbon are joined by a double bond, as the link is to the nitrogen
two_carbons : AreJoinedNames chain 0 twice (CopyOf 2 1) (CopyOf 2 2) 2 0
unfolding chain twice hang_together stands_of stand joint_members
two_carbons = AlongChain (bond 1 2 2) 2 3 1 4 1 (0, omega arith, refl) (0, omega arith, refl) refl refl refl (record { kind_is = refl; topology_is = refl })

-- the nitrogen is joined to the first copy
nitrogen_first : AreJoinedNames chain 0 twice (CopyOf 1 1) (CopyOf 2 1) 2 0
unfolding chain twice hang_together stands_of stand joint_members
nitrogen_first = EndToEnd (bond 1 2 2) 1 2 (0, omega arith, refl) refl refl refl refl (record { kind_is = refl; topology_is = refl })

-- each copy bears its own oxygen
own_oxygen : AreJoinedNames chain 0 twice (CopyOf 2 2) (CopyOf 3 2) 1 0
unfolding chain twice hang_together stands_of stand joint_members
own_oxygen = AlongBlock (bond 2 3 1) 2 3 2 (1, omega arith, refl) refl refl refl refl (record { kind_is = refl; topology_is = refl })

-- the last copy has the free end of the open site, and the first has none
free_ends_of_chain : IsAtomNamed chain 0 twice (CopyOf 2 2) (record { test = of 6; free = 1 }) × IsAtomNamed chain 0 twice (CopyOf 2 1) (record { test = of 6; free = 0 })
unfolding chain twice hang_together stands_of stand joint_members
free_ends_of_chain = ((refl, refl), (refl, refl))

-- ---- a nested site

-- a carbon with a site whose member, an oxygen, has a site of its own
nested : QueryView
nested = record {
  templates =
      record { atoms = of 6 ∷ anything ∷ []; bonds = bond 1 2 1 ∷ []; slots = Site 2 (1 ∷ []) 1 0 ∷ []; points = [] }
      ∷ record { atoms = of 8 ∷ anything ∷ []; bonds = bond 1 2 2 ∷ []; slots = Site 2 (2 ∷ []) 1 0 ∷ []; points = 1 ∷ [] } ∷ [];
  groups = group (1 ∷ []) false ∷ group [] true ∷ [];
}

-- the inner site is left open, where hydrogens are drawn
capped : Choice
capped = filled 1 (unfilled 1 done) done

-- its hydrogen has a name by the way through both sites
inner_hydrogen : IsNameThere nested 0 capped (InMember 2 (HydrogenAt 2 1)) × IsAtomNamed nested 0 capped (InMember 2 (HydrogenAt 2 1)) hydrogen
unfolding nested capped hang_together stands_of stand joint_members
inner_hydrogen = (
  ((omega arith, omega arith), 1, unfilled 1 done, refl, ((omega arith, omega arith), (omega arith, omega arith))),
  (1, unfilled 1 done, refl, refl),
)

-- and is joined to the oxygen by a single bond, whatever is drawn there
oxygen_hydrogen : AreJoinedNames nested 0 capped (InMember 2 (CopyOf 1 1)) (InMember 2 (HydrogenAt 2 1)) 1 0
unfolding nested capped hang_together stands_of stand joint_members
oxygen_hydrogen = inr (refl, 1, unfilled 1 done, refl, EndToEnd (bond 1 2 2) 1 2 (0, omega arith, refl) refl refl refl refl (record { kind_is = refl; topology_is = refl }))
