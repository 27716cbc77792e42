-- Small queries by hand: what each becomes by an open code.
use Rattle.std.proofs.Common.{◌≡◌, ℕ, negsuc, List, [], ◌∷◌, Bool, true, false, map, refl, arith}
use Rattle.mk_model.specs.declared.atom_test.AtomTest.{AtomTest}
use Rattle.mk_model.specs.declared.atom_test.Kind.TheVariants.{Element}
use Rattle.mk_model.specs.declared.graph.GraphAtom.{GraphAtom}
use Rattle.mk_model.specs.declared.group.Group.{Group}
use Rattle.mk_model.specs.declared.template.QueryBond.{QueryBond}
use Rattle.mk_model.specs.declared.template.Slot.TheVariants.{Link, Site}
use Rattle.mk_model.specs.Codes.Choice.{done, unfilled, filled}
use Rattle.mk_model.specs.Expansions.{all_within, anything, atoms_of, chained, copied, copies, drawn, expansion, free_ends, joined, pieces_of}
use Rattle.mk_model.specs.Pieces.{ending, room, taker}
use Rattle.mk_model.specs.Labels.{joint_members}
use Rattle.mk_model.specs.Queries.{QueryView, slots_of}
use Rattle.mk_model.specs.Templates.{TemplateView, hang_together}
use Rattle.mk_expand.specs.OpenCodes.{IsOpenChoice, open_spelling}
use Rattle.mk_open_codes.specs.Completions.{Agrees}
use Rattle.mk_expand.specs.OpenCodes.OpenChoice.{fills, no_more, repeats, undecided, vacates}
use Rattle.mk_expand.specs.OpenGraphs.{bare_atoms_of, loose_ends, open_expansion, open_pieces, opened, opens_one_ended, shared_atom, shared_bond}

-- the test for an element
abbrev of : ℕ → AtomTest
of z = record anything { kind = Element z }

abbrev bond : ℕ → ℕ → ℕ → QueryBond
bond x y kind = record { first = x; second = y; kind = kind; topology = 0 }

-- an atom of what a root has become
abbrev atom : ℕ → ℕ → GraphAtom
atom z free = record { test = of z; free = free }

abbrev group : List ℕ → Bool → Group
group members rest = record { members = members; then_group = 0; rest_hydrogen = rest; range = [] }

-- a member of one atom
abbrev alone : ℕ → List ℕ → TemplateView
alone z points = record { atoms = of z ∷ []; bonds = []; slots = []; points = points }

-- ---- a ring that closes through a site

-- five carbons in a row with double bonds in turn, whose ends a site joins: nitrogen there makes it
-- an aromatic ring of six
ring : QueryView
ring = record {
  templates =
      record {
        atoms = of 6 ∷ of 6 ∷ of 6 ∷ of 6 ∷ record anything { kind = Element 6; ring_bonds = negsuc 1 } ∷ anything ∷ [];
        bonds = bond 1 2 2 ∷ bond 2 3 1 ∷ bond 3 4 2 ∷ bond 4 5 1 ∷ bond 5 6 2 ∷ bond 6 1 1 ∷ [];
        slots = Site 6 (1 ∷ []) 1 5 ∷ [];
        points = [];
      }
      ∷ alone 7 (1 ∷ 1 ∷ []) ∷ [];
  groups = group (1 ∷ []) false ∷ [];
}

-- where the site is left open the row has a free end at each of its ends
open_row : open_expansion ring 0 (undecided no_more)
    ≡ record {
      atoms = atom 6 1 ∷ atom 6 0 ∷ atom 6 0 ∷ atom 6 0 ∷ record { test = record anything { kind = Element 6; ring_bonds = negsuc 1 }; free = 1 } ∷ [];
      bonds = bond 1 2 2 ∷ bond 2 3 1 ∷ bond 3 4 2 ∷ bond 4 5 1 ∷ [];
      points = [];
    }
unfolding ring hang_together taker room ending copied drawn chained all_within joined bare_atoms_of loose_ends opened open_pieces open_expansion joint_members
open_row = refl

-- a ring may close through the site, which has two neighbours
ring_closes : opens_one_ended ring (slots_of ring 0) (undecided no_more) ≡ false
unfolding ring
ring_closes = refl

-- so its bonds may be aromatic, and its last carbon may have more ring bonds than are drawn
asked_of_row : map (shared_bond false) (open_expansion ring 0 (undecided no_more)).bonds ≡ bond 1 2 7 ∷ bond 2 3 6 ∷ bond 3 4 7 ∷ bond 4 5 6 ∷ []
unfolding ring hang_together taker room ending copied drawn chained all_within joined bare_atoms_of loose_ends opened open_pieces open_expansion joint_members
asked_of_row = refl

asked_of_end : shared_atom false (record { test = record anything { kind = Element 6; ring_bonds = negsuc 1 }; free = 1 }) ≡ atom 6 1
asked_of_end = refl

-- the ring, for comparison
whole_ring : expansion ring 0 (filled 1 done done)
    ≡ record {
      atoms =
          atom 6 0 ∷ atom 6 0 ∷ atom 6 0 ∷ atom 6 0 ∷ record { test = record anything { kind = Element 6; ring_bonds = negsuc 1 }; free = 0 } ∷ atom 7 0 ∷ [];
      bonds = bond 1 2 2 ∷ bond 2 3 1 ∷ bond 3 4 2 ∷ bond 4 5 1 ∷ bond 5 6 2 ∷ bond 1 6 1 ∷ [];
      points = [];
    }
unfolding ring hang_together taker room ending copied drawn chained all_within free_ends copies atoms_of joined pieces_of expansion joint_members
whole_ring = refl

-- both choices agree with it, and are spelt by one number
of_ring : Agrees (undecided no_more) (filled 1 done done) × (open_spelling (undecided no_more) ≡ 0 ∷ [])
of_ring = (tt, refl)

-- ---- a link

-- nitrogen and a site, with carbons between them that each bear an oxygen
chain : QueryView
chain = record {
  templates =
      record {
        atoms = of 7 ∷ of 6 ∷ of 8 ∷ anything ∷ [];
        bonds = bond 1 2 1 ∷ bond 2 3 2 ∷ bond 2 4 1 ∷ [];
        slots = Link 2 3 1 4 ∷ Site 4 (1 ∷ []) 2 0 ∷ [];
        points = [];
      }
      ∷ record { atoms = of 17 ∷ of 9 ∷ []; bonds = bond 1 2 1 ∷ []; slots = []; points = 1 ∷ [] } ∷ [];
  groups = group (1 ∷ []) false ∷ [];
}

-- where the link is left open its oxygen is gone with it; the nitrogen has a free end, and so has the
-- member's atom at which the link's other bond would end
open_link : open_expansion chain 0 (undecided (fills 1 no_more no_more))
    ≡ record { atoms = atom 7 1 ∷ atom 17 1 ∷ atom 9 0 ∷ []; bonds = bond 2 3 1 ∷ []; points = [] }
unfolding chain hang_together taker room ending copied drawn chained all_within joined bare_atoms_of loose_ends opened open_pieces open_expansion joint_members
open_link = refl

-- where the site is left open the last carbon has its free end
open_end : open_expansion chain 0 (repeats 2 (undecided no_more))
    ≡ record {
      atoms = atom 7 0 ∷ atom 6 0 ∷ atom 6 1 ∷ atom 8 0 ∷ atom 8 0 ∷ [];
      bonds = bond 1 2 1 ∷ bond 2 4 2 ∷ bond 3 5 2 ∷ bond 2 3 1 ∷ [];
      points = [];
    }
unfolding chain hang_together taker room ending copied drawn chained all_within joined bare_atoms_of loose_ends opened open_pieces open_expansion joint_members
open_end = refl

-- a ring may close through the link, and none through the site, which has one neighbour
chain_closes : (opens_one_ended chain (slots_of chain 0) (undecided (fills 1 no_more no_more)) ≡ false)
    × (opens_one_ended chain (slots_of chain 0) (repeats 2 (undecided no_more)) ≡ true)
unfolding chain joint_members
chain_closes = (refl, refl)

-- so where the site alone is open, bonds and atoms are asked as they are drawn
asked_of_chain : map (shared_bond true) (open_expansion chain 0 (repeats 2 (undecided no_more))).bonds ≡ bond 1 2 1 ∷ bond 2 4 2 ∷ bond 3 5 2 ∷ bond 2 3 1 ∷ []
unfolding chain hang_together taker room ending copied drawn chained all_within joined bare_atoms_of loose_ends opened open_pieces open_expansion joint_members
asked_of_chain = refl

asked_as_drawn : shared_atom true (record { test = record anything { kind = Element 6; ring_bonds = negsuc 1 }; free = 1 })
    ≡ record { test = record anything { kind = Element 6; ring_bonds = negsuc 1 }; free = 1 }
asked_as_drawn = refl

-- where both are, the bond between them is nothing
both_open : open_expansion chain 0 (undecided (undecided no_more)) ≡ record { atoms = atom 7 1 ∷ []; bonds = []; points = [] }
unfolding chain hang_together taker room ending copied drawn chained all_within joined bare_atoms_of loose_ends opened open_pieces open_expansion joint_members
both_open = refl

-- ---- a site two deep

-- a carbon with a site whose member, an oxygen, has a site of its own
nested : QueryView
nested = record {
  templates =
      record { atoms = of 6 ∷ anything ∷ []; bonds = bond 1 2 1 ∷ []; slots = Site 2 (1 ∷ []) 1 0 ∷ []; points = [] }
      ∷ record { atoms = of 8 ∷ anything ∷ []; bonds = bond 1 2 1 ∷ []; slots = Site 2 (2 ∷ []) 1 0 ∷ []; points = 1 ∷ [] } ∷ [];
  groups = group (1 ∷ []) false ∷ group [] true ∷ [];
}

-- the outer site is filled, and the inner one left open: the oxygen has a free end
open_within : open_expansion nested 0 (fills 1 (undecided no_more) no_more)
    ≡ record { atoms = atom 6 0 ∷ atom 8 1 ∷ []; bonds = bond 1 2 1 ∷ []; points = [] }
unfolding nested hang_together taker room ending copied drawn chained all_within joined bare_atoms_of loose_ends opened open_pieces open_expansion joint_members
open_within = refl

-- which has one neighbour too
within_closes : opens_one_ended nested (slots_of nested 0) (fills 1 (undecided no_more) no_more) ≡ true
unfolding nested joint_members
within_closes = refl

-- where the inner site is decided as vacant, a hydrogen is drawn there, and none is free
vacant_within : open_expansion nested 0 (fills 1 (vacates 1 no_more) no_more)
    ≡ record { atoms = atom 6 0 ∷ atom 8 0 ∷ atom 1 0 ∷ []; bonds = bond 1 2 1 ∷ bond 2 3 1 ∷ []; points = [] }
unfolding nested hang_together taker room ending copied drawn chained all_within joined bare_atoms_of loose_ends opened open_pieces open_expansion joint_members
vacant_within = refl

-- the code of the inner choice is behind that of the outer
spelt_within : open_spelling (fills 1 (undecided no_more) no_more) ≡ 1 ∷ 0 ∷ []
spelt_within = refl

-- with a code that completes it
of_nested : IsOpenChoice nested (Site 2 (1 ∷ []) 1 0 ∷ []) (fills 1 (undecided no_more) no_more) × Agrees (fills 1 (undecided no_more) no_more) (filled 1 (unfilled 1 done) done)
unfolding nested joint_members
of_nested = ((omega arith, omega arith, tt, tt), (refl, tt, tt))
