-- What the refusal of a molecules' file is said of.
--     no_number        a number that is held isn't what is refused
--     refused_first    a line is said of the first demand that isn't met
use Rattle.std.proofs.Common.{◌≡◌, ◌≢◌, List, ℕ, subst}
use Rattle.std.specs.Prelude.{Err}
use Rattle.mk_library.specs.declared.refusal.LoadRefusal.{LoadRefusal}
use Rattle.mk_library.specs.declared.refusal.LoadRefusal.TheVariants as refusal
use Rattle.mk_library.specs.FirstRefusal.{Demand, IfRefused, IsFirstUnmet, IsSaidOf, held_number, kept_limits, molecules, one_record, sdfile, short_file}
use Rattle.mk_found.specs.MoleculeFiles.{IsFileLine}

module _ (Demands : Demand → Type 0) (text : List ℕ) where
  by_demand : (demand : Demand) → (Demands demand → ⊥) → IsSaidOf text demand refusal.NoRecord → Demands held_number → ⊥
  by_demand held_number fails says held = fails held
  by_demand short_file fails says held = cc
  by_demand sdfile fails says held = let e = says.2 in cc
  by_demand one_record fails says held = let e = says.2 in cc
  by_demand molecules fails says held = let e = says.5 in cc
  by_demand kept_limits fails says held = cc

  -- where the number is held, or none is asked for, it isn't what is refused
  pub no_number : (T : Type 0) (said : LoadRefusal) → Demands held_number → IfRefused {T = T} (Err said) (IsFirstUnmet Demands text) → said ≢ refusal.NoRecord
  no_number T said held refused e =
      let first : IsFirstUnmet Demands text refusal.NoRecord = subst (λ (s : LoadRefusal). IfRefused {T = T} (Err s) (IsFirstUnmet Demands text)) e refused in
      by_demand first.demand first.fails first.says held

-- what has a line is no want of memory
pub refused_first : (T : Type 0) (P : LoadRefusal → Type 0) (said : LoadRefusal) (line : List ℕ) → IsFileLine said line → IfRefused {T = T} (Err said) P → P said
refused_first T P refusal.NoRecord line is refused = absurd is
refused_first T P refusal.FileLarge line is refused = refused
refused_first T P (refusal.Layout k v3000) line is refused = refused
refused_first T P (refusal.NotOne count) line is refused = refused
refused_first T P (refusal.Meaning number check item) line is refused = refused
refused_first T P refusal.Full line is refused = refused
refused_first T P refusal.Memory line is refused = absurd is
