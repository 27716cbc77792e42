-- What the open slots can still add, slot by slot.
--     nothing_is      no slots add nothing
--     slot_ahead, behind_ahead    one slot more in front, and without it
--     most_next       how often a group can be filled at one of some slots more
--     ahead_next      the next of some slots, behind those before it
use Rattle.std.proofs.Common.{◌≡◌, ℕ, zero, suc, ◌+◌, ◌-◌, ◌*◌, ◌<◌, ◌≤◌, cond, List, [], ◌∷◌, ◌++◌, length, get_or, take, replicate, refl, ap, arith}
use Rattle.std.specs.Prelude.{slice_index}
use Rattle.std.proofs.lemmas.List.{take_more}
use Rattle.std.proofs.lemmas.List.Sums.{count_by-le-length, sum_by-append, sum_by-cons}
use Rattle.mk_model.specs.declared.template.Slot.{Slot}
use Rattle.mk_model.specs.Labels.{bears_label, site_labels}
use Rattle.mk_model.specs.Sizes.{greatest}
use Rattle.mk_choice.specs.declared.pending.Ahead.{Ahead}
use Rattle.mk_choice.specs.Ahead.{IsAhead, open_sites}
use Rattle.mk_choice.specs.Bounds.{bound_in, most_filled, most_filled_at}
use Rattle.mk_choice.specs.Search.{borne}

-- ---- sums over slots

pub open_first : (slot : Slot) (slots : List Slot) (g : ℕ) → open_sites (slot ∷ slots) g ≡ cond (bears_label slot g) 1 0 + open_sites slots g
open_first slot slots g = sum_by-cons (λ (s : Slot). cond (bears_label s g) 1 0) slot slots

pub open_both : (slots others : List Slot) (g : ℕ) → open_sites (slots ++ others) g ≡ open_sites slots g + open_sites others g
open_both slots others g = sum_by-append (λ (s : Slot). cond (bears_label s g) 1 0) slots others

filled_first : (bound : ℕ → ℕ → ℕ) (slot : Slot) (slots : List Slot) (g : ℕ) → most_filled bound (slot ∷ slots) g ≡ most_filled_at bound g slot + most_filled bound slots g
filled_first bound slot slots g = sum_by-cons (most_filled_at bound g) slot slots

filled_both : (bound : ℕ → ℕ → ℕ) (slots others : List Slot) (g : ℕ) → most_filled bound (slots ++ others) g ≡ most_filled bound slots g + most_filled bound others g
filled_both bound slots others g = sum_by-append (most_filled_at bound g) slots others

-- ---- how great they are

-- no more sites than slots
open_few : (slots : List Slot) (g : ℕ) → open_sites slots g ≤ length slots
open_few slots g = count_by-le-length (λ slot. bears_label slot g) slots

-- and a slot adds at most 513
module _ (most : List ℕ) (capped : (i : ℕ) → slice_index most i ≤ 513) where
  -- at any label
  at_labels : (labels : List ℕ) (g : ℕ) → greatest (λ h. bound_in most h g) labels ≤ 513
  at_labels [] g = omega arith
  at_labels (h ∷ labels) g = omega (arith, capped ((h - 1) * 32 + (g - 1)), at_labels labels g)

  filled_few : (slots : List Slot) (g : ℕ) → most_filled (bound_in most) slots g ≤ 513 * length slots
  filled_few [] g = omega arith
  filled_few (slot ∷ slots) g = omega (arith, filled_first (bound_in most) slot slots g, at_labels (site_labels slot) g, filled_few slots g)

-- ---- no slots

at_zero : (n i : ℕ) → slice_index (replicate n 0) i ≡ 0
at_zero zero i = refl
at_zero (suc n) zero = refl
at_zero (suc n) (suc i) = at_zero n i

pub nothing_is : (most : List ℕ) → IsAhead most [] (record { sites = replicate 32 0; filled = replicate 32 0 })
nothing_is most = record { sites = λ i below. at_zero 32 i; filled = λ i below. at_zero 32 i }

-- ---- a slot adds one of each of its labels, and of their bounds the greatest

module _ (most : List ℕ) (slot : Slot) (labels : List ℕ) (are : labels ≡ site_labels slot) (ahead : Ahead) (sites filled : List ℕ) (slots : List Slot) where
  sites_first : (g : ℕ) → open_sites (slot ∷ slots) g ≡ borne labels g + open_sites slots g
  sites_first g = (let same : borne labels g ≡ borne (site_labels slot) g = ap (λ (gs : List ℕ). borne gs g) are in omega (arith, open_first slot slots g, same))

  most_first : (g : ℕ) → most_filled (bound_in most) (slot ∷ slots) g ≡ greatest (λ h. bound_in most h g) labels + most_filled (bound_in most) slots g
  most_first g =
      let same : greatest (λ h. bound_in most h g) labels ≡ greatest (λ h. bound_in most h g) (site_labels slot) = ap (greatest (λ h. bound_in most h g)) are in
      omega (arith, filled_first (bound_in most) slot slots g, same)

  pub slot_ahead : ((i : ℕ) → slice_index most i ≤ 513)
      → ((i : ℕ) → i < 32 → slice_index ahead.sites i ≤ 511 → slice_index sites i ≡ slice_index ahead.sites i + borne labels (i + 1))
      → ((i : ℕ) → i < 32 → slice_index ahead.filled i + greatest (λ h. bound_in most h (i + 1)) labels ≤ 1000000
      → slice_index filled i ≡ slice_index ahead.filled i + greatest (λ h. bound_in most h (i + 1)) labels)
      → length slots ≤ 511 → IsAhead most slots ahead → IsAhead most (slot ∷ slots) (record { sites = sites; filled = filled })
  slot_ahead capped more raised few is = record {
    sites = λ i below.
        let here = is.sites i below in
        omega (arith, here, more i below (omega (arith, here, open_few slots (i + 1), few)), sites_first (i + 1));
    filled = λ i below.
        let here = is.filled i below in
        omega (
          arith,
          here,
          raised i below (omega (arith, here, filled_few most capped slots (i + 1), few, at_labels most capped labels (i + 1))),
          most_first (i + 1),
        );
  }

  -- and takes them away again
  pub behind_ahead : ((i : ℕ) → i < 32 → slice_index sites i ≡ slice_index ahead.sites i - borne labels (i + 1))
      → ((i : ℕ) → i < 32 → slice_index filled i ≡ slice_index ahead.filled i - greatest (λ h. bound_in most h (i + 1)) labels)
      → IsAhead most (slot ∷ slots) ahead → IsAhead most slots (record { sites = sites; filled = filled })
  behind_ahead less lowered is = record {
    sites = λ i below. omega (arith, is.sites i below, less i below, sites_first (i + 1));
    filled = λ i below. omega (arith, is.filled i below, lowered i below, most_first (i + 1));
  }

-- ---- the next of some slots

pub most_next : (bound : ℕ → ℕ → ℕ) (slots : List Slot) (i : ℕ) (d : Slot) (g : ℕ) → i < length slots
    → most_filled bound (take (i + 1) slots) g ≡ most_filled bound (take i slots) g + most_filled_at bound g (get_or slots i d)
most_next bound slots i d g below =
    let more : most_filled bound (take (i + 1) slots) g ≡ most_filled bound (take i slots ++ get_or slots i d ∷ []) g = ap (λ (xs : List Slot). most_filled bound xs g) (take_more slots i d below) in
    omega (arith, more, filled_both bound (take i slots) (get_or slots i d ∷ []) g, filled_first bound (get_or slots i d) [] g)

pub ahead_next : (most : List ℕ) (slots behind : List Slot) (i : ℕ) (d : Slot) (ahead : Ahead) → i < length slots
    → IsAhead most (get_or slots i d ∷ (take i slots ++ behind)) ahead → IsAhead most (take (i + 1) slots ++ behind) ahead
ahead_next most slots behind i d ahead below is =
    let more = take_more slots i d below in
    rw more (record {
      sites = λ j within.
          omega (
            arith,
            is.sites j within,
            open_first (get_or slots i d) (take i slots ++ behind) (j + 1),
            open_both (take i slots) behind (j + 1),
            open_both (take i slots ++ (get_or slots i d ∷ [])) behind (j + 1),
            open_both (take i slots) (get_or slots i d ∷ []) (j + 1),
            open_first (get_or slots i d) [] (j + 1),
          );
      filled = λ j within.
          omega (
            arith,
            is.filled j within,
            filled_first (bound_in most) (get_or slots i d) (take i slots ++ behind) (j + 1),
            filled_both (bound_in most) (take i slots) behind (j + 1),
            filled_both (bound_in most) (take i slots ++ (get_or slots i d ∷ [])) behind (j + 1),
            filled_both (bound_in most) (take i slots) (get_or slots i d ∷ []) (j + 1),
            filled_first (bound_in most) (get_or slots i d) [] (j + 1),
          );
    })
