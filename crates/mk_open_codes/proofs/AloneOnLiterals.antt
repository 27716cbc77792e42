-- Small queries by hand: the open codes of fronts and of choices alone, and the places of slots.
use Rattle.std.proofs.Common.{[], ◌∷◌, false, refl, arith}
use Rattle.mk_model.specs.declared.template.Slot.TheVariants.{Link, Site}
use Rattle.mk_model.specs.Codes.Choice.{done, repeated, filled}
use Rattle.mk_model.specs.Expansions.{anything}
use Rattle.mk_model.specs.Labels.{joint_members}
use Rattle.mk_model.specs.Queries.{QueryView}
use Rattle.mk_model.proofs.FitsOnLiterals.{query, root}
use Rattle.mk_model.proofs.OnLiterals.{group, plain_group, single}
use Rattle.mk_open_codes.specs.Alone.{ArePlaces, IsAloneCode, IsPlaceOf}
use Rattle.mk_open_codes.specs.Fronts.{IsFrontCode}
use Rattle.mk_expand.specs.OpenCodes.OpenChoice.{fills, no_more, repeats, undecided, vacates}

-- ---- a link, and a site of two labels with three members

-- no number: both slots are left open
empty_front : IsFrontCode query [] (0 ∷ 0 ∷ [])
unfolding query root
empty_front = record { left = 2; spelt = refl; is = record { choice = undecided (undecided no_more); made = tt; spelt = refl } }

-- the link stands twice
front_of_link : IsFrontCode query (2 ∷ []) (2 ∷ 0 ∷ [])
unfolding query root
front_of_link = record { left = 1; spelt = refl; is = record { choice = repeats 2 (undecided no_more); made = (omega arith, omega arith, tt); spelt = refl } }

-- the second member alone, and the vacant site alone, which has the number 4
member_alone : IsAloneCode query 1 2 (0 ∷ 2 ∷ [])
unfolding query root plain_group group single joint_members
member_alone = record { left = 0; spelt = refl; is = record { choice = undecided (fills 2 no_more no_more); made = (omega arith, omega arith, tt, tt); spelt = refl } }

vacant_alone : IsAloneCode query 1 4 (0 ∷ 4 ∷ [])
unfolding query root plain_group group single joint_members
vacant_alone = record { left = 0; spelt = refl; is = record { choice = undecided (vacates 4 no_more); made = (refl, tt); spelt = refl } }

-- ---- a member that has a slot of its own

-- a site and a link behind it; the one member of the site has a link
nested : QueryView
nested = record {
  templates =
      record { atoms = []; bonds = []; slots = Site 1 (1 ∷ []) 2 0 ∷ Link 3 3 2 4 ∷ []; points = [] }
      ∷ record { atoms = []; bonds = []; slots = Link 2 2 1 3 ∷ []; points = 1 ∷ [] } ∷ [];
  groups = record { members = 1 ∷ []; then_group = 0; rest_hydrogen = false; range = [] } ∷ [];
}

-- the member: its own link is left open, and so is that of the root
front_of_member : IsFrontCode nested (1 ∷ []) (1 ∷ 0 ∷ 0 ∷ [])
unfolding nested joint_members
front_of_member = record {
  left = 2;
  spelt = refl;
  is = record { choice = fills 1 (undecided no_more) (undecided no_more); made = (omega arith, omega arith, tt, tt); spelt = refl };
}

-- the vacant site: there is no slot inside
front_of_vacant : IsFrontCode nested (2 ∷ []) (2 ∷ 0 ∷ [])
unfolding nested joint_members
front_of_vacant = record { left = 1; spelt = refl; is = record { choice = vacates 2 (undecided no_more); made = (refl, tt); spelt = refl } }

-- the root's link alone stands behind the site that is left open
link_alone : IsAloneCode nested 1 3 (0 ∷ 3 ∷ [])
unfolding nested
link_alone = record { left = 0; spelt = refl; is = record { choice = undecided (repeats 3 no_more); made = (omega arith, omega arith, tt); spelt = refl } }

-- in the code 1 2 3 the number of the root's link stands at place 2, behind that of the inner link
behind_inner : IsPlaceOf nested 1 (1 ∷ 2 ∷ [])
unfolding nested joint_members
behind_inner = record { choice = filled 1 (repeated 2 done) done; made = (omega arith, omega arith, (omega arith, omega arith, tt), tt); spelt = refl }

-- ---- a root without slots

plain : QueryView
plain = record { templates = record { atoms = anything ∷ []; bonds = []; slots = []; points = [] } ∷ []; groups = [] }

no_slot : IsFrontCode plain [] []
unfolding plain
no_slot = record { left = 0; spelt = refl; is = record { choice = no_more; made = tt; spelt = refl } }

no_place : ArePlaces plain [] []
unfolding plain
no_place = record { size = refl; each = λ s below. absurd (omega (arith, below)) }
