-- For code alone: the atoms that the slots of a template take, as lists of marks. Place x of a list
-- stands for atom x.
--     IsSized template            few atoms, and bonds and slots at them
--     takes bonds slot x          the slot takes atom x of a template with these bonds
--     Marks n p list              the list marks those of the first n atoms of which p holds
--     marked list n               how many of the first n atoms are marked
--     link_size_by list n slot    what a link adds that takes the marked atoms
--     is_taken template i x       one of the first i slots takes atom x
use Rattle.std.specs.Prelude.{◌≡◌, ◌≤◌, ◌+◌, ◌*◌, ℕ, Bool, false, List, [], All, count_by, length, slice_index_or, take}
use Rattle.std.specs.List.{list_any, range_with_len}
use Rattle.mk_model.specs.declared.template.QueryBond.{QueryBond}
use Rattle.mk_model.specs.declared.template.Slot.{Slot}
use Rattle.mk_model.specs.declared.template.Slot.TheVariants.{Link, Site}
use Rattle.mk_model.specs.Edges.{AreBetween}
use Rattle.mk_model.specs.Sizes.{takes_atom}
use Rattle.mk_model.specs.Templates.{TemplateView, query_edges, slot_atom}

-- a template has at most 999 atoms and bonds, each bond between two of them, and each slot at one
pub record IsSized (template : TemplateView) : Type 0 where
  pub few : length template.atoms ≤ 999
  pub few_bonds : length template.bonds ≤ 999
  pub ends : AreBetween (length template.atoms) (query_edges template.bonds)
  pub slots : All (λ slot. (1 ≤ slot_atom slot) × (slot_atom slot ≤ length template.atoms)) template.slots

-- the slot takes atom x of a template with these bonds
abbrev pub takes : List QueryBond → Slot → ℕ → Bool
takes bonds slot x = takes_atom (record { atoms = []; bonds = bonds; slots = []; points = [] }) x slot

-- the list marks those of the first n atoms of which p holds
pub record Marks (n : ℕ) (p : ℕ → Bool) (list : List Bool) : Type 0 where
  pub size : length list ≡ n + 1
  pub each : (x : ℕ) → 1 ≤ x → x ≤ n → slice_index_or list x false ≡ p x

-- how many of the first n atoms are marked
abbrev pub marked : List Bool → ℕ → ℕ
marked list n = count_by (λ x. slice_index_or list x false) (range_with_len 1 n)

-- what a link adds that takes the marked atoms
abbrev pub link_size_by : List Bool → ℕ → Slot → ℕ
link_size_by list n (Link atom most from to) = 1 + most * marked list n
link_size_by list n (Site atom groups first second) = 0

-- one of the first i slots takes the atom
abbrev pub is_taken : TemplateView → ℕ → ℕ → Bool
is_taken template i x = list_any (takes_atom template x) (take i template.slots)
