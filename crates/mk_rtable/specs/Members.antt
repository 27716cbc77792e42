-- The members that a code puts in at the root's sites.
--     chosen_members choice          at each site among the slots of a choice the number of the
--                                    member put in, and 0 where none is
--     AreMembers query code members  these numbers, of a structural code of the root
-- What follows serves code alone:
--     BearsRisingLabels slot         the labels of the slot rise
--     member_at query slot k         the same of one number at a slot
--     AreMembersOfFront query numbers members    of the code with which the numbers begin
--     PutsMembers .. old new         of the choice with which they begin, behind others
--     IsBehindChoice query slots numbers back    what stands behind that choice
use Rattle.std.specs.Prelude.{◌≡◌, ℕ, List, [], ◌∷◌, ◌++◌, if◌then◌else◌}
use Rattle.mk_model.specs.declared.template.Slot.{Slot}
use Rattle.mk_model.specs.declared.template.Slot.TheVariants.{Link, Site}
use Rattle.mk_model.specs.Codes.{Choice, IsChoice, IsCode, spelling}
use Rattle.mk_model.specs.Codes.Choice.{done, repeated, unfilled, filled}
use Rattle.mk_model.specs.Labels.{is_filled_by, site_labels}
use Rattle.mk_model.specs.Queries.{QueryView}
use Rattle.mk_model.specs.QueryFits.{AreRisingLabels}

-- at each site among the slots of a choice the number of the member that is put in there, from 1 on,
-- and 0 where the site is unfilled; links have no such number, and the sites inside a member aren't
-- among these slots
abbrev pub chosen_members : Choice → List ℕ
chosen_members done = []
chosen_members (repeated n others) = chosen_members others
chosen_members (unfilled n others) = 0 ∷ chosen_members others
chosen_members (filled k inside others) = k ∷ chosen_members others

-- the numbers are those of the members that a structural code puts in at the root's sites, which
-- stand by rising atom
pub record AreMembers (query : QueryView) (code members : List ℕ) : Type 0 where
  pub of : IsCode query 0 code
  pub are : members ≡ chosen_members of.choice

-- ---- for the code

-- the labels of the slot rise, and each is the number of a group
abbrev pub BearsRisingLabels : Slot → Type 0
BearsRisingLabels slot = AreRisingLabels (site_labels slot)

-- the member of a number at a site, 0 where it fills none, and nothing at a link
abbrev pub member_at : QueryView → Slot → ℕ → List ℕ
member_at query (Link atom most from to) k = []
member_at query (Site atom groups first second) k = (if is_filled_by query (Site atom groups first second) k then k else 0) ∷ []

-- the members of the structural code of the root with which the numbers begin
abbrev pub AreMembersOfFront : QueryView → List ℕ → List ℕ → Type 0
AreMembersOfFront query numbers members = (code back : List ℕ) → IsCode query 0 code → numbers ≡ code ++ back → AreMembers query code members

-- where the numbers begin with a choice at these slots, its members are put behind what stands there
abbrev pub PutsMembers : QueryView → List Slot → List ℕ → List ℕ → List ℕ → Type 0
PutsMembers query slots numbers old new =
    (choice : Choice) (back : List ℕ) → IsChoice query slots choice → numbers ≡ spelling choice ++ back → new ≡ old ++ chosen_members choice

-- where the numbers begin with a choice at these slots, this is what stands behind it
abbrev pub IsBehindChoice : QueryView → List Slot → List ℕ → List ℕ → Type 0
IsBehindChoice query slots numbers behind = (choice : Choice) (back : List ℕ) → IsChoice query slots choice → numbers ≡ spelling choice ++ back → behind ≡ back
