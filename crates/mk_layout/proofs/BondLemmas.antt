-- What bonds become.
use Rattle.std.proofs.Common.{◌≡◌, ◌∙◌, ℕ, ◌+◌, ◌<◌, ◌≤◌, List, [], ◌∷◌, ◌++◌, length, get_or, drop, refl, sym, ap, arith, append_assoc}
use Rattle.std.proofs.lemmas.List.{drop_more, drop_all, get_or_default}
use Rattle.mk_model.specs.Pieces.{Piece}
use Rattle.mk_model.specs.declared.template.QueryBond.{QueryBond}
use Rattle.mk_model.specs.declared.template.Slot.{Slot}
use Rattle.mk_model.specs.Templates.{TemplateView, slot_atom}
use Rattle.mk_model.specs.Pieces.{before}
use Rattle.mk_model.specs.Expansions.{copied, chained, bond_between, bonds_within, all_within}
use Rattle.mk_pieces.specs.Rooms.{HaveRoom}
use Rattle.mk_pieces.proofs.ForCallers.{mapped_more}

-- ---- rows of bonds

pub copied_none : (bond : QueryBond) (x y : ℕ) → copied bond x y 0 ≡ []
unfolding copied
copied_none bond x y = refl

pub copied_more : (bond : QueryBond) (x y n : ℕ) → copied bond x y (n + 1) ≡ copied bond x y n ++ bond_between (x + (n + 1)) (y + (n + 1)) bond.kind bond.topology ∷ []
unfolding copied
copied_more bond x y n = mapped_more (λ j. bond_between (x + j) (y + j) bond.kind bond.topology) n

pub chained_none : (bond : QueryBond) (x : ℕ) → chained bond x 0 ≡ []
unfolding chained
chained_none bond x = refl

pub chained_more : (bond : QueryBond) (x n : ℕ) → chained bond x (n + 1) ≡ chained bond x n ++ record { first = x + (n + 1); second = x + (n + 1) + 1; kind = bond.kind; topology = bond.topology } ∷ []
unfolding chained
chained_more bond x n = mapped_more (λ j. record { first = x + j; second = x + j + 1; kind = bond.kind; topology = bond.topology }) n

-- ---- slot after slot

pub within_more : (template : TemplateView) (pieces : List Piece) (slots : List Slot) (ps : List Piece) (k : ℕ) (slot : Slot) (p : Piece) → k < length slots → k < length ps
    → slot ≡ get_or slots k slot → p ≡ get_or ps k p
    → all_within template pieces (drop k slots) (drop k ps)
    ≡ bonds_within template.bonds (before template pieces (slot_atom slot)) slot p ++ all_within template pieces (drop (k + 1) slots) (drop (k + 1) ps)
unfolding all_within
within_more template pieces slots ps k slot p below below' at at' = rw (drop_more slots k slot below, drop_more ps k p below', ← at, ← at') refl

pub within_all : (template : TemplateView) (pieces : List Piece) (slots : List Slot) (ps : List Piece) (k : ℕ) → length slots ≤ k → all_within template pieces (drop k slots) (drop k ps) ≡ []
unfolding all_within
within_all template pieces slots ps k past = rw (drop_all k slots past) refl

-- ---- what is put behind what

pub grown : {X : Type 0} (new old base rows next : List X) (b : X) → new ≡ old ++ b ∷ [] → old ≡ base ++ rows → next ≡ rows ++ b ∷ [] → new ≡ base ++ next
grown new old base rows next b p q r = p ∙ ap (λ s. s ++ b ∷ []) q ∙ append_assoc base rows (b ∷ []) ∙ ap (λ t. base ++ t) (sym r)

-- state and rest, when a part of the rest was put behind the state
pub moved : {X : Type 0} (new old all part rest rest' : List X) → new ≡ old ++ part → rest ≡ part ++ rest' → old ++ rest ≡ all → new ++ rest' ≡ all
moved new old all part rest rest' p q r = ap (λ s. s ++ rest') p ∙ append_assoc old part rest' ∙ ap (λ s. old ++ s) (sym q) ∙ r

-- ---- one slot more

pub step_within : (template : TemplateView) (pieces : List Piece) → HaveRoom template pieces → (k : ℕ) → k < length template.slots → (d : Slot) (p : Piece) → p ≡ get_or pieces k p
    → (out new all : List QueryBond)
    → new ≡ out ++ bonds_within template.bonds (before template pieces (slot_atom (get_or template.slots k d))) (get_or template.slots k d) p
    → out ++ all_within template pieces (drop k template.slots) (drop k pieces) ≡ all
    → new ++ all_within template pieces (drop (k + 1) template.slots) (drop (k + 1) pieces) ≡ all
step_within template pieces fits k below d p at out new all is before_all =
    let slot = get_or template.slots k d in
    let here : slot ≡ get_or template.slots k slot = get_or_default template.slots k d slot below in
    moved new out all (bonds_within template.bonds (before template pieces (slot_atom slot)) slot p) _ _ is
    (within_more template pieces template.slots pieces k slot p below (omega (arith, fits.size)) here at) before_all
