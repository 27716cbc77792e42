-- The definitions on small queries, computed. A query is given as its tables, as docs/TESTING.md writes them, and its groups.
use Rattle.std.proofs.Common.{◌≡◌, ℕ, true, false, pos, List, [], ◌∷◌, replicate, refl, arith}
use Rattle.mk_model.specs.declared.atom_test.AtomTest.{AtomTest}
use Rattle.mk_model.specs.declared.atom_test.Kind.TheVariants.{Element, Anything}
use Rattle.mk_model.specs.declared.group.Group.{Group}
use Rattle.mk_model.specs.declared.group.Interval.{Interval}
use Rattle.mk_model.specs.declared.template.QueryBond.{QueryBond}
use Rattle.mk_model.specs.declared.template.Slot.TheVariants.{Link, Site}
use Rattle.mk_model.specs.Templates.{TemplateView, is_in_block, hang_together}
use Rattle.mk_model.specs.Queries.{QueryView, slots_of}
use Rattle.mk_model.specs.Labels.{draws_rest_hydrogens, holds_member_of, joint_members, members_at}
use Rattle.mk_model.specs.Sizes.{size_by}
use Rattle.mk_model.specs.Codes.{IsChoice, spelling}
use Rattle.mk_model.specs.Codes.Choice.{done, repeated, unfilled, filled}
use Rattle.mk_model.specs.Logic.{filled_of, sites_of, standing_sites}
use Rattle.mk_model.specs.PlainCodes.{codes_of, is_allowed_code, valid_codes}

-- ---- atoms, bonds, groups

unfoldable pub atom : ℕ → AtomTest
atom z = record { kind = Element z; charge = pos 0; radical = 0; hydrogens = 0; ring_bonds = pos 0; substitution = pos 0; unsaturated = false }

unfoldable pub site_atom : AtomTest
site_atom = record { kind = Anything; charge = pos 0; radical = 0; hydrogens = 0; ring_bonds = pos 0; substitution = pos 0; unsaturated = false }

unfoldable pub bond : ℕ → ℕ → QueryBond
bond x y = record { first = x; second = y; kind = 1; topology = 0 }

unfoldable pub range : ℕ → ℕ → List Interval
range least most = record { least = least; most = most } ∷ []

-- a group of these members, with this THEN group and this range
unfoldable pub group : List ℕ → ℕ → List Interval → Group
group members next many = record { members = members; then_group = next; rest_hydrogen = false; range = many }

-- a group without a line of its own: any number of sites but none
unfoldable pub plain_group : List ℕ → Group
plain_group members = group members 0 (range 1 999999)

-- a member of one atom, which bears the point
unfoldable pub single : ℕ → TemplateView
single z = record { atoms = atom z ∷ []; bonds = []; slots = []; points = 1 ∷ [] }

-- ---- a link: `[C C C | 1-2 2-3]` with `M  LIN  1   2   3   1   3`, and with 509 and 510 in place of 3

unfoldable pub chain : ℕ → TemplateView
chain most = record { atoms = atom 6 ∷ atom 6 ∷ atom 6 ∷ []; bonds = bond 1 2 ∷ bond 2 3 ∷ []; slots = Link 2 most 1 3 ∷ []; points = [] }

unfoldable pub chain_query : ℕ → QueryView
chain_query most = record { templates = chain most ∷ []; groups = replicate 32 (plain_group []) }

-- its codes are the lengths
chain_codes : codes_of 512 (chain_query 3) (slots_of (chain_query 3) 0) ≡ (1 ∷ []) ∷ (2 ∷ []) ∷ (3 ∷ []) ∷ []
unfolding chain_query chain
chain_codes = refl

-- its block is the link alone
chain_block : is_in_block (chain 3) (Link 2 3 1 3) 1 ≡ false
unfolding chain hang_together bond
chain_block = refl

-- two fixed atoms, and for the link 1 and its greatest length
chain_size : size_by (chain_query 509) (λ _. 0) (chain 509) ≡ 512
unfolding chain chain_query hang_together bond
chain_size = refl

chain_above : size_by (chain_query 510) (λ _. 0) (chain 510) ≡ 513
unfolding chain chain_query hang_together bond
chain_above = refl

-- ---- two sites of one group: `[C R# R# | 1-2 1-3]` with the group 1 at both, and `[F | ]` and `[Cl | ]`

unfoldable pub two_sites : ℕ → ℕ → TemplateView
two_sites g h = record { atoms = atom 6 ∷ site_atom ∷ site_atom ∷ []; bonds = bond 1 2 ∷ bond 1 3 ∷ []; slots = Site 2 (g ∷ []) 1 0 ∷ Site 3 (h ∷ []) 1 0 ∷ []; points = [] }

unfoldable pub two_members : QueryView
two_members = record { templates = two_sites 1 1 ∷ single 9 ∷ single 17 ∷ []; groups = plain_group (1 ∷ 2 ∷ []) ∷ replicate 31 (plain_group []) }

-- at each of them fluorine, chlorine or nothing
two_members_codes : codes_of 512 two_members (slots_of two_members 0)
    ≡ (1 ∷ 1 ∷ []) ∷ (1 ∷ 2 ∷ []) ∷ (1 ∷ 3 ∷ []) ∷ (2 ∷ 1 ∷ []) ∷ (2 ∷ 2 ∷ []) ∷ (2 ∷ 3 ∷ []) ∷ (3 ∷ 1 ∷ []) ∷ (3 ∷ 2 ∷ []) ∷ (3 ∷ 3 ∷ []) ∷ []
unfolding two_members two_sites plain_group group range single joint_members
two_members_codes = refl

-- the group may not stay unfilled
two_members_valid : is_allowed_code two_members (3 ∷ 3 ∷ []) ≡ false
unfolding two_members two_sites plain_group group range single is_allowed_code joint_members
two_members_valid = refl

-- ---- a nested member: `[C R# | 1-2]` with group 1, whose member `[O R# | 1-2]` has a site of group 2, whose member is `[F | ]`

unfoldable pub nested : QueryView
nested = record {
  templates =
      record { atoms = atom 6 ∷ site_atom ∷ []; bonds = bond 1 2 ∷ []; slots = Site 2 (1 ∷ []) 1 0 ∷ []; points = [] }
      ∷ record { atoms = atom 8 ∷ site_atom ∷ []; bonds = bond 1 2 ∷ []; slots = Site 2 (2 ∷ []) 1 0 ∷ []; points = 1 ∷ [] }
      ∷ single 9 ∷ [];
  groups = plain_group (1 ∷ []) ∷ plain_group (2 ∷ []) ∷ replicate 30 (plain_group []);
}

-- the member with the fluorine, the member with its site unfilled, and nothing
nested_codes : codes_of 512 nested (slots_of nested 0) ≡ (1 ∷ 1 ∷ []) ∷ (1 ∷ 2 ∷ []) ∷ (2 ∷ []) ∷ []
unfolding nested plain_group group range single joint_members
nested_codes = refl

-- the choice of the first of them
nested_choice : IsChoice nested (slots_of nested 0) (filled 1 (filled 1 done done) done)
unfolding nested plain_group group range single joint_members
nested_choice = (omega arith, omega arith, (omega arith, omega arith, tt, tt), tt)

nested_spelt : spelling (filled 1 (filled 1 done done) done) ≡ 1 ∷ 1 ∷ []
nested_spelt = refl

-- its sites: one of group 1 in the root and one of group 2 in the member, both filled
nested_sites : sites_of (standing_sites nested (slots_of nested 0) (filled 1 (filled 1 done done) done)) 2 ≡ 1
unfolding nested plain_group group range single joint_members
nested_sites = refl

nested_filled : filled_of nested (standing_sites nested (slots_of nested 0) (filled 1 (filled 1 done done) done)) 2 ≡ 1
unfolding nested plain_group group range single joint_members
nested_filled = refl

-- where nothing is put in, the member's site doesn't stand, and group 2 has no demand
nested_gone : sites_of (standing_sites nested (slots_of nested 0) (unfilled 2 done)) 2 ≡ 0
unfolding nested plain_group group range single joint_members
nested_gone = refl

-- the root's groups have to be filled, and so has the member's where it stands
nested_valid : valid_codes nested ≡ (1 ∷ 1 ∷ []) ∷ []
unfolding nested plain_group group range single valid_codes is_allowed_code joint_members
nested_valid = refl

-- ---- a THEN group: `[C R# R# | 1-2 1-3]` with the groups 1 and 2, `[F | ]` and `[Cl | ]`; IF R1 THEN R2, R1 `0-1`, R2 `1`

unfoldable pub then_query : QueryView
then_query = record {
  templates = two_sites 1 2 ∷ single 9 ∷ single 17 ∷ [];
  groups = group (1 ∷ []) 2 (range 0 1) ∷ group (2 ∷ []) 0 (range 1 1) ∷ replicate 30 (plain_group []);
}

then_codes : codes_of 512 then_query (slots_of then_query 0) ≡ (1 ∷ 1 ∷ []) ∷ (1 ∷ 2 ∷ []) ∷ (2 ∷ 1 ∷ []) ∷ (2 ∷ 2 ∷ []) ∷ []
unfolding then_query two_sites plain_group group range single joint_members
then_codes = refl

-- with the fluorine the chlorine has to stand; without it it may
then_valid : valid_codes then_query ≡ (1 ∷ 1 ∷ []) ∷ (2 ∷ 1 ∷ []) ∷ (2 ∷ 2 ∷ []) ∷ []
unfolding then_query two_sites plain_group group range single valid_codes is_allowed_code joint_members
then_valid = refl

-- ---- a group whose range is `0`: `[C R# | 1-2]`, `[F | ]`

unfoldable pub never_query : QueryView
never_query = record {
  templates = record { atoms = atom 6 ∷ site_atom ∷ []; bonds = bond 1 2 ∷ []; slots = Site 2 (1 ∷ []) 1 0 ∷ []; points = [] } ∷ single 9 ∷ [];
  groups = group (1 ∷ []) 0 (range 0 0) ∷ replicate 31 (plain_group []);
}

-- its site stays unfilled
never_valid : valid_codes never_query ≡ (2 ∷ []) ∷ []
unfolding never_query plain_group group range single valid_codes is_allowed_code joint_members
never_valid = refl

-- ---- a THEN group that is itself: `[C R# R# | 1-2 1-3]` with the group 1 at both, `[F | ]`; IF R1 THEN R1, range `2`

unfoldable pub self_query : QueryView
self_query = record {
  templates = two_sites 1 1 ∷ single 9 ∷ [];
  groups = group (1 ∷ []) 1 (range 2 2) ∷ replicate 31 (plain_group []);
}

-- both sites or none: one filled site asks for the range
self_valid : valid_codes self_query ≡ (1 ∷ 1 ∷ []) ∷ (2 ∷ 2 ∷ []) ∷ []
unfolding self_query two_sites plain_group group range single valid_codes is_allowed_code joint_members
self_valid = refl

-- ---- two labels at one site: `[C R# | 1-2]` with the labels 1 and 2, group 1 with `[F | ]` and `[Br | ]`, group 2 with `[Cl | ]`

-- the groups have these THEN groups and ranges
unfoldable pub two_labels : ℕ → List Interval → ℕ → List Interval → QueryView
two_labels next many next' many' = record {
  templates = record { atoms = atom 6 ∷ site_atom ∷ []; bonds = bond 1 2 ∷ []; slots = Site 2 (1 ∷ 2 ∷ []) 1 0 ∷ []; points = [] } ∷ single 9 ∷ single 17 ∷ single 35 ∷ [];
  groups = group (1 ∷ 3 ∷ []) next many ∷ group (2 ∷ []) next' many' ∷ replicate 30 (plain_group []);
}

-- its members are those of both by rising number
two_labels_members : members_at (two_labels 0 [] 0 []) (Site 2 (1 ∷ 2 ∷ []) 1 0) ≡ 1 ∷ 2 ∷ 3 ∷ []
unfolding two_labels plain_group group range single joint_members
two_labels_members = refl

-- number 2 puts in a member of group 2, and number 4 none
two_labels_second : holds_member_of (two_labels 0 [] 0 []) (Site 2 (1 ∷ 2 ∷ []) 1 0) 2 2 ≡ true
unfolding two_labels plain_group group range single joint_members
two_labels_second = refl

two_labels_not_first : holds_member_of (two_labels 0 [] 0 []) (Site 2 (1 ∷ 2 ∷ []) 1 0) 2 1 ≡ false
unfolding two_labels plain_group group range single joint_members
two_labels_not_first = refl

two_labels_last : holds_member_of (two_labels 0 [] 0 []) (Site 2 (1 ∷ 2 ∷ []) 1 0) 4 1 ≡ false
unfolding two_labels plain_group group range single joint_members
two_labels_last = refl

-- with the chlorine both groups have a site, and group 2 alone has a filled one
two_labels_sites : sites_of (standing_sites (two_labels 0 [] 0 []) (slots_of (two_labels 0 [] 0 []) 0) (filled 2 done done)) 1 ≡ 1
unfolding two_labels plain_group group range single joint_members
two_labels_sites = refl

two_labels_unfilled : filled_of (two_labels 0 [] 0 []) (standing_sites (two_labels 0 [] 0 []) (slots_of (two_labels 0 [] 0 []) 0) (filled 2 done done)) 1 ≡ 0
unfolding two_labels plain_group group range single joint_members
two_labels_unfilled = refl

two_labels_filled : filled_of (two_labels 0 [] 0 []) (standing_sites (two_labels 0 [] 0 []) (slots_of (two_labels 0 [] 0 []) 0) (filled 2 done done)) 2 ≡ 1
unfolding two_labels plain_group group range single joint_members
two_labels_filled = refl

-- no choice fills both groups, so none is valid where both have to be filled, and all where none has
two_labels_never : valid_codes (two_labels 0 (range 1 999999) 0 (range 1 999999)) ≡ []
unfolding two_labels plain_group group range single joint_members valid_codes is_allowed_code
two_labels_never = refl

two_labels_valid : valid_codes (two_labels 0 (range 0 1) 0 (range 0 1)) ≡ (1 ∷ []) ∷ (2 ∷ []) ∷ (3 ∷ []) ∷ (4 ∷ []) ∷ []
unfolding two_labels plain_group group range single joint_members valid_codes is_allowed_code
two_labels_valid = refl

-- IF R1 THEN R2, where R2 is filled once: a member of group 1 leaves group 2 unfilled, so none of them may stand
two_labels_then : valid_codes (two_labels 2 (range 0 1) 0 (range 1 1)) ≡ (2 ∷ []) ∷ (4 ∷ []) ∷ []
unfolding two_labels plain_group group range single joint_members valid_codes is_allowed_code
two_labels_then = refl

-- ---- a label that two sites share: `[C R# R# | 1-2 1-3]` with the labels 1 and 2 at atom 2 and 1 at atom 3, `[F | ]` and `[Cl | ]`

unfoldable pub shared_label : QueryView
shared_label = record {
  templates =
      record { atoms = atom 6 ∷ site_atom ∷ site_atom ∷ []; bonds = bond 1 2 ∷ bond 1 3 ∷ []; slots = Site 2 (1 ∷ 2 ∷ []) 1 0 ∷ Site 3 (1 ∷ []) 1 0 ∷ []; points = [] }
      ∷ single 9 ∷ single 17 ∷ [];
  groups = plain_group (1 ∷ []) ∷ plain_group (2 ∷ []) ∷ replicate 30 (plain_group []);
}

shared_codes : codes_of 512 shared_label (slots_of shared_label 0) ≡ (1 ∷ 1 ∷ []) ∷ (1 ∷ 2 ∷ []) ∷ (2 ∷ 1 ∷ []) ∷ (2 ∷ 2 ∷ []) ∷ (3 ∷ 1 ∷ []) ∷ (3 ∷ 2 ∷ []) ∷ []
unfolding shared_label plain_group group range single joint_members
shared_codes = refl

-- group 1 has two sites and group 2 one
shared_sites : sites_of (standing_sites shared_label (slots_of shared_label 0) (filled 2 done (filled 1 done done))) 1 ≡ 2
unfolding shared_label plain_group group range single joint_members
shared_sites = refl

-- both groups have to be filled, so the chlorine stands at the site that bears both
shared_valid : valid_codes shared_label ≡ (2 ∷ 1 ∷ []) ∷ []
unfolding shared_label plain_group group range single joint_members valid_codes is_allowed_code
shared_valid = refl

-- ---- hydrogens: of two labels one says that they stand in the place of the unfilled site

unfoldable pub one_rests : QueryView
one_rests = record {
  templates = [];
  groups = plain_group [] ∷ record { members = []; then_group = 0; rest_hydrogen = true; range = [] } ∷ replicate 30 (plain_group []);
}

rest_of_either : draws_rest_hydrogens one_rests (Site 2 (1 ∷ 2 ∷ []) 1 0) ≡ true
unfolding one_rests plain_group group range
rest_of_either = refl

rest_of_the_first : draws_rest_hydrogens one_rests (Site 2 (1 ∷ []) 1 0) ≡ false
unfolding one_rests plain_group group range
rest_of_the_first = refl

-- ---- a link with a substituent: `[R# C O N | 1-2 2-3 2-4]` with `M  LIN  1   2   3   1   4`, group 1 and `[Cl | ]`

unfoldable pub star : TemplateView
star = record { atoms = site_atom ∷ atom 6 ∷ atom 8 ∷ atom 7 ∷ []; bonds = bond 1 2 ∷ bond 2 3 ∷ bond 2 4 ∷ []; slots = Site 1 (1 ∷ []) 2 0 ∷ Link 2 3 1 4 ∷ []; points = [] }

unfoldable pub star_query : QueryView
star_query = record { templates = star ∷ single 17 ∷ []; groups = plain_group (1 ∷ []) ∷ replicate 31 (plain_group []) }

-- the oxygen is in the block, the nitrogen isn't
star_in_block : is_in_block star (Link 2 3 1 4) 3 ≡ true
unfolding star hang_together bond
star_in_block = refl

star_outside : is_in_block star (Link 2 3 1 4) 4 ≡ false
unfolding star hang_together bond
star_outside = refl

-- 1 for the nitrogen; 1 and 3 for each of two for the link; 1 and 1 for the site
star_size : size_by star_query (λ _. 1) star ≡ 10
unfolding star star_query hang_together bond plain_group group range joint_members
star_size = refl

star_codes : codes_of 512 star_query (slots_of star_query 0) ≡ (1 ∷ 1 ∷ []) ∷ (1 ∷ 2 ∷ []) ∷ (1 ∷ 3 ∷ []) ∷ (2 ∷ 1 ∷ []) ∷ (2 ∷ 2 ∷ []) ∷ (2 ∷ 3 ∷ []) ∷ []
unfolding star_query star plain_group group range single joint_members
star_codes = refl

star_choice : IsChoice star_query (slots_of star_query 0) (filled 1 done (repeated 2 done))
unfolding star_query star plain_group group range single joint_members
star_choice = (omega arith, omega arith, tt, (omega arith, omega arith, tt))

-- no hydrogens stand in the place of its site
star_rest : draws_rest_hydrogens star_query (Site 1 (1 ∷ []) 2 0) ≡ false
unfolding star_query plain_group group
star_rest = refl

-- ---- a site with two neighbours: `[C R# O | 1-2 2-3]`, group 1 and `[N | ]` with both points on its one atom

unfoldable pub bridge : TemplateView
bridge = record { atoms = atom 6 ∷ site_atom ∷ atom 8 ∷ []; bonds = bond 1 2 ∷ bond 2 3 ∷ []; slots = Site 2 (1 ∷ []) 1 3 ∷ []; points = [] }

unfoldable pub bridge_query : QueryView
bridge_query = record {
  templates = bridge ∷ record { atoms = atom 7 ∷ []; bonds = []; slots = []; points = 1 ∷ 1 ∷ [] } ∷ [];
  groups = plain_group (1 ∷ []) ∷ replicate 31 (plain_group []);
}

-- 2 fixed atoms; for the site 1, and 2 for its own neighbours, since its member is smaller
bridge_size : size_by bridge_query (λ _. 1) bridge ≡ 5
unfolding bridge bridge_query hang_together bond plain_group group range joint_members
bridge_size = refl

-- ---- the claim of docs/MEANING.md: benzene that bears chlorine or -O-R2, where R2 is methyl or ethyl

unfoldable pub ring : TemplateView
ring = record {
  atoms = atom 6 ∷ atom 6 ∷ atom 6 ∷ atom 6 ∷ atom 6 ∷ atom 6 ∷ site_atom ∷ [];
  bonds = bond 1 2 ∷ bond 2 3 ∷ bond 3 4 ∷ bond 4 5 ∷ bond 5 6 ∷ bond 1 6 ∷ bond 1 7 ∷ [];
  slots = Site 7 (1 ∷ []) 1 0 ∷ [];
  points = [];
}

unfoldable pub ether : TemplateView
ether = record { atoms = atom 8 ∷ site_atom ∷ []; bonds = bond 1 2 ∷ []; slots = Site 2 (2 ∷ []) 1 0 ∷ []; points = 1 ∷ [] }

unfoldable pub ethyl : TemplateView
ethyl = record { atoms = atom 6 ∷ atom 6 ∷ []; bonds = bond 1 2 ∷ []; slots = []; points = 1 ∷ [] }

-- group 2 has this range
unfoldable pub claim : List Interval → QueryView
claim many = record {
  templates = ring ∷ single 17 ∷ ether ∷ single 6 ∷ ethyl ∷ [];
  groups = plain_group (1 ∷ 2 ∷ []) ∷ group (3 ∷ 4 ∷ []) 0 many ∷ replicate 30 (plain_group []);
}

claim_codes : codes_of 512 (claim (range 1 999999)) (slots_of (claim (range 1 999999)) 0) ≡ (1 ∷ []) ∷ (2 ∷ 1 ∷ []) ∷ (2 ∷ 2 ∷ []) ∷ (2 ∷ 3 ∷ []) ∷ (3 ∷ []) ∷ []
unfolding claim ring ether ethyl plain_group group range single joint_members
claim_codes = refl

claim_valid : valid_codes (claim (range 1 999999)) ≡ (1 ∷ []) ∷ (2 ∷ 1 ∷ []) ∷ (2 ∷ 2 ∷ []) ∷ []
unfolding claim ring ether ethyl plain_group group range single valid_codes is_allowed_code joint_members
claim_valid = refl

claim_with_phenol : valid_codes (claim (range 0 1)) ≡ (1 ∷ []) ∷ (2 ∷ 1 ∷ []) ∷ (2 ∷ 2 ∷ []) ∷ (2 ∷ 3 ∷ []) ∷ []
unfolding claim ring ether ethyl plain_group group range single valid_codes is_allowed_code joint_members
claim_with_phenol = refl

-- the size of the ether, where ethyl has 2, and of the ring, where the ether has 4
ether_size : size_by (claim (range 1 999999)) (λ _. 2) ether ≡ 4
unfolding claim ring ether ethyl hang_together bond plain_group group range single joint_members
ether_size = refl

ring_size : size_by (claim (range 1 999999)) (λ _. 4) ring ≡ 11
unfolding claim ring ether ethyl hang_together bond plain_group group range single joint_members
ring_size = refl
