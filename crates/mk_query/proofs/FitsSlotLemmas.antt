-- The slots of a table that passes, as its template has them.
--     slots_rise         they stand by rising atom
--     each_slot          what holds of the slot of each atom holds of all
--     slots_labels_rise  the labels of sites rise, and are from 1 to 32
--     free_at, site_at   what stands at a slot
use Rattle.std.proofs.Common.{◌≡◌, ◌≢◌, ◌≤◌, ◌<◌, ◌+◌, ℕ, zero, suc, List, [], ◌∷◌, ◌++◌, Option, Some, None, refl, ap, sym, subst, ◌∙◌, length, arith}
use Rattle.std.specs.Prelude.{ℤ, All, AllPairs, IsTrue}
use Rattle.std.specs.List.{range_with_len}
use Rattle.std.proofs.lemmas.List.{append-nil}
use Rattle.std.proofs.lemmas.List.Elements.{All-append, All-cons, All-nil}
use Rattle.std.proofs.lemmas.List.Quantifiers.{all_pairs_push}
use Rattle.mk_props.specs.declared.property.LinkEntry.{LinkEntry}
use Rattle.mk_model.specs.declared.template.Slot.{Slot}
use Rattle.mk_model.specs.declared.template.Slot.TheVariants.{Link, Site}
use Rattle.mk_model.specs.Labels.{site_labels}
use Rattle.mk_model.specs.QueryFits.{AreRisingLabels}
use Rattle.mk_model.specs.Templates.{slot_atom}
use Rattle.mk_tables.specs.declared.raw.RawTable.{RawTable}
use Rattle.mk_demands.specs.Numbers.{natural}
use Rattle.mk_query.specs.Compiled.{labelled_groups, ordered_neighbours, slot_at, slot_with, slots_at, slots_in, table_slots}
use Rattle.mk_query.specs.Drawn.{is_site_at, labels_at, links_at}
use Rattle.mk_query.specs.FirstFault.{labelled_sites}
use Rattle.mk_query.specs.LinkChecks.{BearsSome}
use Rattle.mk_query.specs.Passed.{HasPassed}
use Rattle.mk_query.specs.SiteChecks.{IsLabelled}
use Rattle.mk_query.proofs.FitsPointLemmas.{atom_line, pointed_at}
use Rattle.mk_query.proofs.LabelMarkLemmas.{groups_rise}
use Rattle.mk_query.proofs.RangeLemmas.{numbers_more}
use Rattle.mk_query.proofs.SlotMarkLemmas.{slots_at-push}

-- ---- each slot

pub same_slot : (a b : Slot) → Some a ≡ Some b → a ≡ b
same_slot a b e = cc

in_slots : (P : Slot → Type 0) (found : Option Slot) → ((slot : Slot) → found ≡ Some slot → P slot) → All P (slots_in found)
in_slots P None each = All-nil P
in_slots P (Some slot) each = All-cons P slot [] (each slot refl) (All-nil P)

slots_to : (table : RawTable) (n : ℕ) → slots_at table (range_with_len 1 (suc n)) ≡ slots_at table (range_with_len 1 n) ++ slots_in (slot_at table (n + 1))
slots_to table n =
    let on : suc n ≡ n + 1 = omega arith in
    ap (λ (m : ℕ). slots_at table (range_with_len 1 m)) on ∙ ap (slots_at table) (numbers_more n) ∙ slots_at-push table (range_with_len 1 n) (n + 1)

each_to : (P : Slot → Type 0) (table : RawTable) (n : ℕ) → ((x : ℕ) (slot : Slot) → 1 ≤ x → x ≤ n → slot_at table x ≡ Some slot → P slot) → All P (slots_at table (range_with_len 1 n))
each_to P table zero each = All-nil P
each_to P table (suc n) each =
    subst (All P) (sym (slots_to table n))
    (All-append P (slots_at table (range_with_len 1 n)) (slots_in (slot_at table (n + 1)))
    (each_to P table n (λ x slot least most is. each x slot least (omega (arith, most)) is))
    (in_slots P (slot_at table (n + 1)) (λ slot is. each (n + 1) slot (omega arith) (omega arith) is)))

-- what holds of the slot of each atom holds of all
pub each_slot : (P : Slot → Type 0) (table : RawTable) → ((x : ℕ) (slot : Slot) → 1 ≤ x → x ≤ length table.atoms → slot_at table x ≡ Some slot → P slot) → All P (table_slots table)
each_slot P table each = each_to P table (length table.atoms) each

-- ---- atoms of slots

atom_with : (x : ℕ) (links : List LinkEntry) (labels : List ℤ) (both : ℕ × ℕ) (slot : Slot) → slot_with x links labels both ≡ Some slot → slot_atom slot ≡ x
atom_with x (link ∷ links) labels both slot is = sym (ap slot_atom (same_slot (Link x (natural link.most) (natural link.from) (natural link.to)) slot is))
atom_with x [] (label ∷ labels) both slot is = sym (ap slot_atom (same_slot (Site x (labelled_groups (label ∷ labels)) both.0 both.1) slot is))
atom_with x [] [] both slot is = absurd cc

pub atom_of_slot : (table : RawTable) (x : ℕ) (slot : Slot) → slot_at table x ≡ Some slot → slot_atom slot ≡ x
atom_of_slot table x slot is = atom_with x (links_at table x) (labels_at table x) (ordered_neighbours table x) slot is

abbrev Rises : Slot → Slot → Type 0
Rises slot later = slot_atom slot < slot_atom later

rise_push : (slots : List Slot) (n : ℕ) (found : Option Slot)
    → ((slot : Slot) → found ≡ Some slot → slot_atom slot ≡ n + 1) → All (λ slot. slot_atom slot ≤ n) slots
    → AllPairs Rises slots → AllPairs Rises (slots ++ slots_in found)
rise_push slots n None at few rise = rw (append-nil slots) rise
rise_push slots n (Some slot) at few rise = all_pairs_push Rises slots slot rise (λ k d below. omega (arith, few k d below, at slot refl))

rise_to : (table : RawTable) (n : ℕ) → AllPairs Rises (slots_at table (range_with_len 1 n))
rise_to table zero = λ i j d below within. absurd (omega (arith, within))
rise_to table (suc n) =
    subst (AllPairs Rises) (sym (slots_to table n))
    (rise_push (slots_at table (range_with_len 1 n)) n (slot_at table (n + 1)) (λ slot is. atom_of_slot table (n + 1) slot is)
    (each_to (λ (slot : Slot). slot_atom slot ≤ n) table n (λ x slot least most is. omega (arith, most, atom_of_slot table x slot is))) (rise_to table n))

-- they stand by rising atom
pub slots_rise : (table : RawTable) → AllPairs (λ slot later. slot_atom slot < slot_atom later) (table_slots table)
slots_rise table = rise_to table (length table.atoms)

-- each stands at an atom
pub slots_stand : (table : RawTable) → All (λ slot. (1 ≤ slot_atom slot) × (slot_atom slot ≤ length table.atoms)) (table_slots table)
slots_stand table =
    each_slot (λ (slot : Slot). (1 ≤ slot_atom slot) × (slot_atom slot ≤ length table.atoms)) table
    (λ x slot least most is. (let at = atom_of_slot table x slot is in (omega (arith, at, least), omega (arith, at, most))))

-- ---- labels

-- the labels of a slot rise, and are from 1 to 32
abbrev HasRising : Slot → Type 0
HasRising slot = AreRisingLabels (site_labels slot)

-- a link has none
none_rise : AreRisingLabels []
none_rise = record { rise = λ i j d less below. absurd (omega (arith, below)); in_range = λ k d below. absurd (omega (arith, below)) }

rising_with : (x : ℕ) (links : List LinkEntry) (labels : List ℤ) (both : ℕ × ℕ) (slot : Slot) → slot_with x links labels both ≡ Some slot → HasRising slot
rising_with x (link ∷ links) labels both slot is = subst HasRising (same_slot (Link x (natural link.most) (natural link.from) (natural link.to)) slot is) none_rise
rising_with x [] (label ∷ labels) both slot is = subst HasRising (same_slot (Site x (labelled_groups (label ∷ labels)) both.0 both.1) slot is) (groups_rise (label ∷ labels))
rising_with x [] [] both slot is = absurd cc

-- the labels of each slot rise, and are from 1 to 32
pub slots_labels_rise : (table : RawTable) → All (λ slot. AreRisingLabels (site_labels slot)) (table_slots table)
slots_labels_rise table = each_slot HasRising table (λ x slot least most is. rising_with x (links_at table x) (labels_at table x) (ordered_neighbours table x) slot is)

-- ---- what stands at a slot

-- a site where no link does
no_link_with : (x : ℕ) (labels : List ℤ) (both : ℕ × ℕ) (slot : Slot) → slot_with x [] labels both ≡ Some slot → labels ≢ []
no_link_with x [] both slot is none = absurd cc
no_link_with x (label ∷ labels) both slot is none = absurd cc

-- an atom that is labelled is a site
pub labelled_is_site : (table : RawTable) (x : ℕ) → (passed : HasPassed table) → 1 ≤ x → x ≤ length table.atoms → labels_at table x ≢ [] → IsTrue (is_site_at table x)
labelled_is_site table x passed least most some =
    let there = atom_line table x least most in
    let right : IsLabelled passed.groups (labels_at table x) there.0 = passed.passes labelled_sites x there.0 least there.1 in
    rw there.1 (right.word.1 some)

-- no slot is where neither a link nor a site stands
pub no_slot_at : (table : RawTable) (x : ℕ) (slot : Slot) → HasPassed table → 1 ≤ x → x ≤ length table.atoms → slot_at table x ≡ Some slot → links_at table x ≡ [] → ¬ (IsTrue (is_site_at table x)) → ⊥
no_slot_at table x slot passed least most is none no_site =
    let site : slot_with x [] (labels_at table x) (ordered_neighbours table x) ≡ Some slot =
    subst (λ (links : List LinkEntry). slot_with x links (labels_at table x) (ordered_neighbours table x) ≡ Some
    slot) none is in
    no_site (labelled_is_site table x passed least most (no_link_with x (labels_at table x) (ordered_neighbours table x) slot site))

-- no attachment point stands at a slot
pub free_at : (table : RawTable) (x : ℕ) (slot : Slot) → HasPassed table → 1 ≤ x → x ≤ length table.atoms → slot_at table x ≡ Some slot → BearsSome table x → ⊥
free_at table x slot passed least most is bears = (let right = pointed_at table x passed least most in no_slot_at table x slot passed least most is (right.no_link bears) (right.no_site bears))
