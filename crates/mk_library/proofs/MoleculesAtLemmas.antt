-- The molecules of rows, as those of the records beside them.
--     item_is_at     what a row holds is the molecule of the record beside it
--     at_is_item     and the molecule of a record stands beside it
use Rattle.std.proofs.Common.{◌≡◌, ℕ, true, false, List, [], ◌∷◌, nat_eq, Some, refl, sym, ap, ◌∙◌, subst}
use Rattle.std.proofs.lemmas.Bool.{cond_both}
use Rattle.mk_rows.specs.declared.by_number.Numbered.{Numbered}
use Rattle.mk_rows.specs.Rows.{item_at}
use Rattle.mk_model.specs.Molecules.{Molecule}
use Rattle.mk_sdfile.specs.declared.raw_record.RawRecord.{RawRecord}
use Rattle.mk_sdfile.specs.Sdfile.{HasOneValue}
use Rattle.mk_mol.specs.Filled.{IsFilled}
use Rattle.mk_mol.specs.Laws.{OneFilledMolecule}
use Rattle.mk_outside.specs.declared.tables.RecordRow.{RecordRow}
use Rattle.mk_library.specs.Records.{AreHeld, IsMoleculeAt, IsMoleculeOf, text_under}

some_same : {A : Type 0} (a b : A) → Some a ≡ Some b → a ≡ b
some_same a b is = cc

one_raw : (a b : RawRecord) → a ∷ [] ≡ b ∷ [] → a ≡ b
one_raw a b is = cc

-- a text has one molecule
one_molecule : OneFilledMolecule → HasOneValue → (text : List ℕ) (a b : Molecule) → IsMoleculeOf text a → IsMoleculeOf text b → a ≡ b
one_molecule filled sdfile text a b p q =
    let same : q.is.raw ≡ p.is.raw = one_raw q.is.raw p.is.raw (sdfile _ (q.is.raw ∷ []) (p.is.raw ∷ []) q.is.read p.is.read) in
    filled p.is.raw.table a b p.kept q.kept p.filled (subst (λ (raw : RawRecord). IsFilled raw.table b) same q.filled)

-- what a row of molecules holds is the molecule of the record beside it
pub item_is_at : (records : List RecordRow) (rows : List (Numbered Molecule)) (n : ℕ) (mol : Molecule) → AreHeld records rows → item_at n rows ≡ Some mol → IsMoleculeAt records n mol
item_is_at [] [] n mol held is = cc
item_is_at [] (x ∷ rows) n mol held is = absurd held
item_is_at (r ∷ records) [] n mol held is = absurd held
item_is_at (r ∷ records) (x ∷ rows) n mol held is =
    cond_both (nat_eq x.number n) (Some x.item) (item_at n rows) (λ found. found ≡ Some mol → IsMoleculeAt (r ∷ records) n mol)
    (λ here. λ this.
    let there : nat_eq r.number n ≡ true = ap (λ k. nat_eq k n) held.0 ∙ here in
    record { text = r.text; held = rw there refl; is = subst (IsMoleculeOf r.text) (some_same x.item mol this) held.1 })
    (λ other. λ later.
    let there : nat_eq r.number n ≡ false = ap (λ k. nat_eq k n) held.0 ∙ other in
    let rest = item_is_at records rows n mol held.2 later in
    record { text = rest.text; held = rw there rest.held; is = rest.is })
    is

-- and the molecule of a record stands beside it
pub at_is_item : OneFilledMolecule → HasOneValue → (records : List RecordRow) (rows : List (Numbered Molecule)) (n : ℕ)
    (mol : Molecule) → AreHeld records rows → IsMoleculeAt records n mol → item_at n rows ≡ Some mol
at_is_item filled sdfile [] [] n mol held at = let h = at.held in cc
at_is_item filled sdfile [] (x ∷ rows) n mol held at = absurd held
at_is_item filled sdfile (r ∷ records) [] n mol held at = absurd held
at_is_item filled sdfile (r ∷ records) (x ∷ rows) n mol held at =
    cond_both (nat_eq r.number n) (Some r.text) (text_under n records) (λ found. found ≡ Some at.text → item_at n (x ∷ rows) ≡ Some mol)
    (λ here. λ this.
    let there : nat_eq x.number n ≡ true = ap (λ k. nat_eq k n) (sym held.0) ∙ here in
    let of_text : IsMoleculeOf r.text mol = subst (λ text. IsMoleculeOf text mol) (sym (some_same r.text at.text this)) at.is in
    rw there (ap Some (one_molecule filled sdfile r.text x.item mol held.1 of_text)))
    (λ other. λ later.
    let there : nat_eq x.number n ≡ false = ap (λ k. nat_eq k n) (sym held.0) ∙ other in
    rw there (at_is_item filled sdfile records rows n mol held.2 (record { text = at.text; held = later; is = at.is })))
    at.held
