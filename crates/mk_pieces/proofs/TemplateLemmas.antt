-- What the conditions on a template say of its parts.
use Rattle.std.proofs.Common.{◌≡◌, ℕ, ◌≤◌, ◌⊎◌, inl, inr, Bool, true, false, ◌&&◌, ◌||◌, eqb, length, get_or, refl, subst, arith, All}
use Rattle.std.proofs.lemmas.Bool.Decides.{nat_tests}
use Rattle.mk_model.specs.declared.template.QueryBond.{QueryBond}
use Rattle.mk_model.specs.declared.template.Slot.{Slot}
use Rattle.mk_model.specs.declared.template.Slot.TheVariants.{Link, Site}
use Rattle.mk_model.specs.Edges.{IsBetween}
use Rattle.mk_model.specs.Templates.{TemplateView, query_edge, joins}
use Rattle.mk_model.specs.QueryFits.{AreNeighbours}
use Rattle.mk_pieces.specs.Kept.{IsSlotOf, IsTemplate}
use Rattle.mk_model.proofs.ForCallers.{all_mapped}
use Rattle.mk_pieces.specs.Rooms.{AreEndsWithin, IsWithin, StandsAt}

pub bonds_within : (template : TemplateView) → IsTemplate template → All (IsWithin template) template.bonds
bonds_within template is = λ k d below.
    let between : IsBetween (length template.atoms) (query_edge (get_or template.bonds k d)) = all_mapped query_edge (IsBetween (length template.atoms)) template.bonds is.graph.ends k d below in
    record { first = between.first; second = between.second; differ = between.differ }

slot_stands : (template : TemplateView) (slot : Slot) → IsSlotOf template slot → StandsAt template slot
slot_stands template (Link atom most from to) is = is.0
slot_stands template (Site atom groups first second) is = is.0

pub slots_stand : (template : TemplateView) → IsTemplate template → All (StandsAt template) template.slots
slots_stand template is = λ k d below. slot_stands template (get_or template.slots k d) (is.slots k d below)

-- an atom that is joined to another is one of the template
other_end : (x y : ℕ) (bond : QueryBond) → joins x y bond ≡ true → (bond.first ≡ y) ⊎ (bond.second ≡ y)
other_end x y bond is = by (eqb bond.first x) (eqb bond.second y) (eqb bond.first y) (eqb bond.second x) refl refl refl refl is
  where
    by : (a b c d : Bool) → eqb bond.first x ≡ a → eqb bond.second y ≡ b → eqb bond.first y ≡ c → eqb bond.second x ≡ d → ((a && b) || (c && d)) ≡ true → (bond.first ≡ y) ⊎ (bond.second ≡ y)
    by a true c d e f g h t = inr (grind (arith, nat_tests))
    by a false true d e f g h t = inl (grind (arith, nat_tests))
    by true false false d e f g h t = absurd cc
    by false false false d e f g h t = absurd cc

pub joined_within : (template : TemplateView) → IsTemplate template → (x y : ℕ) → AreNeighbours template x y → y ≤ length template.atoms
joined_within template is x y (bond, at, joins') =
    let k = at.0 in
    let within : IsWithin template bond = subst (IsWithin template) at.2 (bonds_within template is k bond at.1) in
    elim (other_end x y bond joins') [
      | inl here ↦ omega (arith, here, within.first)
      | inr here ↦ omega (arith, here, within.second)
    ]

-- both ends of each bond are atoms of the template
pub ends_within : (template : TemplateView) → IsTemplate template → All (AreEndsWithin (length template.atoms)) template.bonds
ends_within template is = λ k d below. (let within = bonds_within template is k d below in record { first = within.first; second = within.second })
