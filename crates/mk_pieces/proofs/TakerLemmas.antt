-- The slots that take atoms.
--     taker_is_slot       a slot takes an atom only as its own or as one of its block
--     from_first          the first slot that takes an atom has its number
--     taker_of_slot       each slot takes its own atom
--     no_slot_at          and none an atom with a point
use Rattle.std.proofs.Common.{◌≡◌, ◌≢◌, ◌∙◌, ℕ, zero, suc, ◌+◌, ◌-◌, ◌<◌, ◌≤◌, inl, inr, Bool, true, false, cond, ◌||◌, eqb, List, [], ◌∷◌, length, get_or, refl, sym, subst, arith}
use Rattle.std.specs.Prelude.{Contains}
use Rattle.std.proofs.lemmas.Bool.Decides.{nat_tests}
use Rattle.std.proofs.lemmas.List.{get_or_default}
use Rattle.mk_model.specs.declared.template.Slot.{Slot}
use Rattle.mk_model.specs.declared.template.Slot.TheVariants.{Link, Site}
use Rattle.mk_model.specs.Templates.{TemplateView, is_in_block, slot_atom}
use Rattle.mk_model.specs.QueryFits.{HoldsItsBlock}
use Rattle.mk_pieces.specs.Kept.{IsTemplate}
use Rattle.mk_model.specs.Sizes.{takes_atom}
use Rattle.mk_model.specs.Pieces.{taker, taker_from}

-- the n-th of the slots is the first that takes the atom
pub record IsTakenBy (template : TemplateView) (slots : List Slot) (x n : ℕ) : Type 0 where
  pub within : n < length slots
  pub takes : (d : Slot) → takes_atom template x (get_or slots n d) ≡ true

from_is : (template : TemplateView) (k : ℕ) (slots : List Slot) (x n : ℕ) → 1 ≤ k → taker_from template k slots x ≡ n → n ≢ 0 → (k ≤ n) × IsTakenBy template slots x (n - k)
from_is template k [] x n some is other = absurd (other (sym is))
from_is template k (slot ∷ slots) x n some is other = by (takes_atom template x slot) refl is (λ later. from_is template (k + 1) slots x n (omega arith) later other)
  where
    by : (b : Bool) → takes_atom template x slot ≡ b → cond b k (taker_from template (k + 1) slots x) ≡ n
        → (taker_from template (k + 1) slots x ≡ n → (k + 1 ≤ n) × IsTakenBy template slots x (n - (k + 1))) → (k ≤ n) × IsTakenBy template (slot ∷ slots) x (n - k)
    by true takes here others = (let same : n - k ≡ 0 = omega (arith, here) in (omega (arith, here), rw same (record { within = omega arith; takes = λ d. takes })))
    by false takes later others =
        let rest = others later in
        let same : n - k ≡ suc (n - (k + 1)) = omega (arith, rest.0) in
        (omega (arith, rest.0), rw same (record { within = (let within = rest.1.within in omega arith); takes = λ d. rest.1.takes d }))

pub taker_is_slot : (template : TemplateView) (x k : ℕ) → taker template x ≡ suc k → IsTakenBy template template.slots x k
unfolding taker
taker_is_slot template x k is =
    let found = from_is template 1 template.slots x (suc k) (omega arith) is (λ e. absurd cc) in
    let same : suc k - 1 ≡ k = omega arith in
    rw same at found.1

-- the first that takes it
pub from_first : (template : TemplateView) (k : ℕ) (slots : List Slot) (x n : ℕ) (d : Slot) → n < length slots → takes_atom template x (get_or slots n d) ≡ true
    → ((i : ℕ) → i < n → takes_atom template x (get_or slots i d) ≡ false)
    → taker_from template k slots x ≡ k + n
from_first template k [] x n d below takes none = absurd (omega arith)
from_first template k (slot ∷ slots) x zero d below takes none = rw takes (omega arith)
from_first template k (slot ∷ slots) x (suc n) d below takes none =
    let first : takes_atom template x slot ≡ false = none 0 (omega arith) in
    let rest = from_first template (k + 1) slots x n d (omega arith) takes (λ i less. none (suc i) (omega arith)) in
    rw first (omega (arith, rest))

-- each slot takes its own atom: another in front of it stands at another atom, and has no slot but its own in its block
own_taken : (template : TemplateView) (slot : Slot) → takes_atom template (slot_atom slot) slot ≡ true
own_taken template slot = (let same : eqb (slot_atom slot) (slot_atom slot) ≡ true = grind (arith, nat_tests) in rw same refl)

not_taken : (template : TemplateView) (slot other : Slot) → HoldsItsBlock template slot → Contains template.slots other → slot_atom slot < slot_atom other
    → takes_atom template (slot_atom other) slot ≡ false
not_taken template (Site atom groups first second) other closed at less = (let differ : eqb atom (slot_atom other) ≡ false = grind (arith, nat_tests) in rw differ refl)
not_taken template (Link atom most from to) other closed at less =
    (let differ : eqb atom (slot_atom other) ≡ false = grind (arith, nat_tests) in rw differ (by (is_in_block template (Link atom most from to) (slot_atom other)) refl))
  where
    by : (b : Bool) → is_in_block template (Link atom most from to) (slot_atom other) ≡ b → b ≡ false
    by false is = refl
    by true is = absurd (let same = (closed (slot_atom other) is).2 (inr (other, at, refl)) in omega (arith, same))

pub taker_of_slot : (template : TemplateView) → IsTemplate template → (k : ℕ) (d : Slot) → k < length template.slots → taker template (slot_atom (get_or template.slots k d)) ≡ suc k
unfolding taker
taker_of_slot template kept k d below =
    let own = get_or template.slots k d in
    let first = from_first template 1 template.slots (slot_atom own) k d below (own_taken template own)
    (λ i less. not_taken template (get_or template.slots i d) own (kept.blocks_closed i d (omega arith)) (k, below, get_or_default template.slots k own d below)
    (kept.slots_rise i k d less below)) in
    first ∙ omega arith

-- an atom with a point is taken by no slot
pub no_slot_at : (template : TemplateView) → IsTemplate template → (p : ℕ) → Contains template.points p → (slot : Slot) → Contains template.slots slot → HoldsItsBlock template slot
    → takes_atom template p slot ≡ true → ⊥
no_slot_at template kept p at (Site atom groups first second) held closed takes = by (eqb atom p) refl takes
  where
    by : (b : Bool) → eqb atom p ≡ b → (b || false) ≡ true → ⊥
    by true e is = kept.points_free (Site atom groups first second) held (let same : atom ≡ p = grind (arith, nat_tests) in subst (Contains template.points) (sym same) at)
    by false e is = absurd cc
no_slot_at template kept p at (Link atom most from to) held closed takes = by (eqb atom p) (is_in_block template (Link atom most from to) p) refl refl takes
  where
    by : (b c : Bool) → eqb atom p ≡ b → is_in_block template (Link atom most from to) p ≡ c → (b || c) ≡ true → ⊥
    by true c e f is = kept.points_free (Link atom most from to) held (let same : atom ≡ p = grind (arith, nat_tests) in subst (Contains template.points) (sym same) at)
    by false true e f is = kept.points_free (Link atom most from to) held (subst (Contains template.points) ((closed p f).2 (inl at)) at)
    by false false e f is = absurd cc
