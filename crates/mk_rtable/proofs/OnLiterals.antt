-- Members and texts, worked out by hand.
--     filled_and_unfilled, inside_a_member     the members of a choice
--     of_two_sites                             a code of the query of two sites, and its members
--     bromine_of_two_labels, no_member_of_two_labels     codes at a site of two labels
--     no_row                                   the text of no row
use Rattle.std.proofs.Common.{◌≡◌, [], ◌∷◌, refl, lit≤}
use Rattle.std.specs.Prelude.{codes}
use Rattle.mk_model.specs.Codes.{IsCode}
use Rattle.mk_model.specs.Codes.Choice.{done, repeated, unfilled, filled}
use Rattle.mk_model.proofs.OnLiterals.{group, plain_group, range, single, then_query, two_labels, two_sites}
use Rattle.mk_model.specs.Labels.{joint_members}
use Rattle.mk_rtable.specs.Members.{AreMembers, chosen_members}
use Rattle.mk_rtable.specs.Text.{table_text}

-- the first site is filled by its third member, and the second isn't filled
filled_and_unfilled : chosen_members (filled 3 done (unfilled 2 done)) ≡ 3 ∷ 0 ∷ []
filled_and_unfilled = refl

-- a link stands twice; the site behind it is filled by a member whose own site is filled
inside_a_member : chosen_members (repeated 2 (filled 1 (filled 4 done done) done)) ≡ 1 ∷ []
inside_a_member = refl

-- with the code 2 1 the first site of the query of two sites is unfilled
pub of_two_sites : IsCode then_query 0 (2 ∷ 1 ∷ [])
unfolding then_query two_sites plain_group group range single joint_members
of_two_sites = record { choice = unfilled 2 (filled 1 done done); made = (refl, (lit≤ tt, lit≤ tt, tt, tt)); spelt = refl }

its_members : AreMembers then_query (2 ∷ 1 ∷ []) (0 ∷ 1 ∷ [])
unfolding of_two_sites
its_members = record { of = of_two_sites; are = refl }

-- with the code 3 bromine stands at the site of two labels, the third of the members of both
bromine_of_two_labels : AreMembers (two_labels 0 [] 0 []) (3 ∷ []) (3 ∷ [])
unfolding two_labels plain_group group range single joint_members
bromine_of_two_labels = record { of = record { choice = filled 3 done done; made = (lit≤ tt, lit≤ tt, tt, tt); spelt = refl }; are = refl }

-- and with the code 4 it is unfilled
no_member_of_two_labels : AreMembers (two_labels 0 [] 0 []) (4 ∷ []) (0 ∷ [])
unfolding two_labels plain_group group range single joint_members
no_member_of_two_labels = record { of = record { choice = unfilled 4 done; made = (refl, tt); spelt = refl }; are = refl }

-- a query without sites has no column, and without hits no row
no_row : table_text (record { templates = []; groups = [] }) [] ≡ codes "record\nend\n"
no_row = refl
