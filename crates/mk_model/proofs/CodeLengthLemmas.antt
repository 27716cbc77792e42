-- How long a code can be.
--     no_longer          a code at some slots has at most as many numbers as the sizes allow
--     code_is_short      a structural code of the root has at most 512 numbers
use Rattle.std.proofs.Common.{◌≡◌, ℕ, zero, suc, ◌+◌, ◌-◌, ◌<◌, ◌≤◌, Bool, true, false, cond, List, [], ◌∷◌, ◌++◌, length, get_or, Option, Some, None, refl, arith, sum_by}
use Rattle.std.specs.Prelude.{slice_get}
use Rattle.std.proofs.lemmas.Bool.Decides.{nat_tests}
use Rattle.std.proofs.lemmas.List.Sums.{sum_by-append, sum_by-cons}
use Rattle.mk_model.specs.declared.template.Slot.{Slot}
use Rattle.mk_model.specs.declared.template.Slot.TheVariants.{Link, Site}
use Rattle.mk_model.specs.Templates.{TemplateView}
use Rattle.mk_model.specs.Queries.{QueryView, slots_of}
use Rattle.mk_model.specs.Labels.{is_filled_by, members_at, member}
use Rattle.mk_model.specs.Sizes.{IsSizing, greatest, size_of_slot}
use Rattle.mk_model.specs.OpenSlots.{opened, Chooses}

-- the most numbers that a code has for a slot
abbrev pub most_numbers : QueryView → (ℕ → ℕ) → Slot → ℕ
most_numbers query size (Link atom most from to) = 1
most_numbers query size (Site atom groups first second) = 1 + greatest size (members_at query (Site atom groups first second))

-- a slot's size is no less
slot_size : (query : QueryView) (size : ℕ → ℕ) (template : TemplateView) (slot : Slot) → most_numbers query size slot ≤ size_of_slot query size template slot
slot_size query size template (Link atom most from to) = omega arith
slot_size query size template (Site atom groups first second) = omega arith

-- and so it is for several slots
slot_sizes : (query : QueryView) (size : ℕ → ℕ) (template : TemplateView) (slots : List Slot) → sum_by (most_numbers query size) slots ≤ sum_by (size_of_slot query size template) slots
slot_sizes query size template [] = omega arith
slot_sizes query size template (slot ∷ slots) =
    omega (arith, sum_by-cons (most_numbers query size) slot slots, sum_by-cons (size_of_slot query size template) slot slots, slot_size query size template slot, slot_sizes query size template slots)

-- the slots of a template have no more numbers than its size
template_size : (query : QueryView) (size : ℕ → ℕ) → IsSizing query size → (t : ℕ) → sum_by (most_numbers query size) (slots_of query t) ≤ size t
template_size query size adds t = by_template (slice_get query.templates t) refl
  where
    by_template : (o : Option TemplateView) → slice_get query.templates t ≡ o → sum_by (most_numbers query size) (slots_of query t) ≤ size t
    by_template None e = rw e (omega arith)
    by_template (Some template) e = rw e (omega (arith, adds t template e, slot_sizes query size template template.slots))

-- each of some templates has at most their greatest size
greatest_has : (size : ℕ → ℕ) (ts : List ℕ) (i : ℕ) → i < length ts → size (get_or ts i 0) ≤ greatest size ts
greatest_has size [] i below = absurd (omega arith)
greatest_has size (t ∷ ts) zero below = omega arith
greatest_has size (t ∷ ts) (suc i) below = omega (arith, greatest_has size ts i (omega arith))

-- what a number opens has fewer numbers than its slot
opened_size : (query : QueryView) (size : ℕ → ℕ) → IsSizing query size → (slot : Slot) (k : ℕ) → 1 ≤ k → sum_by (most_numbers query size) (opened query slot k) < most_numbers query size slot
opened_size query size adds (Link atom most from to) k least = omega arith
opened_size query size adds (Site atom groups first second) k least = by_member _ refl
  where
    by_member : (b : Bool) → is_filled_by query (Site atom groups first second) k ≡ b
        → sum_by (most_numbers query size) (cond b (slots_of query (member query (Site atom groups first second) k)) []) < 1 + greatest size (members_at query (Site atom groups first second))
    by_member true fills =
        let below : k - 1 < length (members_at query (Site atom groups first second)) = grind (arith, nat_tests) in
        omega (arith, template_size query size adds (member query (Site atom groups first second) k), greatest_has size (members_at query (Site atom groups first second)) (k - 1) below)
    by_member false fills = omega arith

-- a code at some slots has at most as many numbers as the sizes allow
pub no_longer : (query : QueryView) (size : ℕ → ℕ) → IsSizing query size → (slots : List Slot) (code : List ℕ) → Chooses query slots code → length code ≤ sum_by (most_numbers query size) slots
no_longer query size adds [] [] chooses = omega arith
no_longer query size adds (slot ∷ slots) [] chooses = absurd chooses
no_longer query size adds [] (k ∷ code) chooses = absurd chooses
no_longer query size adds (slot ∷ slots) (k ∷ code) chooses =
    omega (
      arith,
      sum_by-cons (most_numbers query size) slot slots,
      sum_by-append (most_numbers query size) (opened query slot k) slots,
      opened_size query size adds slot k chooses.0,
      no_longer query size adds (opened query slot k ++ slots) code chooses.2,
    )

-- a structural code of the root has at most 512 numbers
pub code_is_short : (query : QueryView) (size : ℕ → ℕ) → IsSizing query size → size 0 ≤ 512 → (code : List ℕ) → Chooses query (slots_of query 0) code → length code ≤ 512
code_is_short query size adds root code chooses = omega (arith, no_longer query size adds (slots_of query 0) code chooses, template_size query size adds 0)
