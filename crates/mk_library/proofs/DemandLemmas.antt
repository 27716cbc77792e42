-- Demands in their order.
--     one_demand            demands of one place are one
--     none_met, one_met     the demands before a place are met, one after another
use Rattle.std.proofs.Common.{◌≡◌, ◌≤◌, ◌<◌, ◌+◌, ℕ, zero, suc, refl, sym, ap, subst, ◌∙◌, arith, ⊎_elim}
use Rattle.std.proofs.lemmas.Bool.{cases_lt}
use Rattle.mk_library.specs.FirstRefusal.{Demand, held_number, kept_limits, molecules, one_record, demand_number, sdfile, short_file}

-- ---- places

-- the demand of a place
demand_at : ℕ → Demand
demand_at zero = held_number
demand_at (suc zero) = held_number
demand_at (suc (suc zero)) = short_file
demand_at (suc (suc (suc zero))) = sdfile
demand_at (suc (suc (suc (suc zero)))) = one_record
demand_at (suc (suc (suc (suc (suc zero))))) = molecules
demand_at (suc (suc (suc (suc (suc (suc n)))))) = kept_limits

at_order : (demand : Demand) → demand_at (demand_number demand) ≡ demand
unfolding demand_at
at_order held_number = refl
at_order short_file = refl
at_order sdfile = refl
at_order one_record = refl
at_order molecules = refl
at_order kept_limits = refl

-- demands of one place are one
pub one_demand : (a b : Demand) → demand_number a ≡ demand_number b → a ≡ b
one_demand a b same = sym (at_order a) ∙ ap demand_at same ∙ at_order b

-- places begin with 1, and end with 6
pub least_order : (demand : Demand) → 1 ≤ demand_number demand
least_order held_number = omega arith
least_order short_file = omega arith
least_order sdfile = omega arith
least_order one_record = omega arith
least_order molecules = omega arith
least_order kept_limits = omega arith

pub most_order : (demand : Demand) → demand_number demand ≤ 6
most_order held_number = omega arith
most_order short_file = omega arith
most_order sdfile = omega arith
most_order one_record = omega arith
most_order molecules = omega arith
most_order kept_limits = omega arith

-- ---- demands that are met

-- the demands before this place are met
abbrev pub MetBelow : (Demand → Type 0) → ℕ → Type 0
MetBelow Demands n = (demand : Demand) → demand_number demand < n → Demands demand

module _ (Demands : Demand → Type 0) where
  -- before the first place there is none
  pub none_met : MetBelow Demands 1
  none_met demand below = absurd (omega (arith, below, least_order demand))

  -- one more demand is met
  pub one_met : (demand : Demand) → Demands demand → MetBelow Demands (demand_number demand) → MetBelow Demands (demand_number demand + 1)
  one_met demand met before other below =
      ⊎_elim
      (λ earlier. before other earlier)
      (λ here. (let same : demand ≡ other = one_demand demand other (omega (arith, below, here)) in subst Demands same met))
      (cases_lt (demand_number other) (demand_number demand))
