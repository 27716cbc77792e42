-- The steps of an edit: the molecules of records, one after another.
use Rattle.std.proofs.Common.{[], ◌∷◌, ◌++◌, ◌≡◌, ℕ, ◌+◌, ◌<◌, List, length, All, arith, refl, sym, ap, ◌∙◌, subst, length-append}
use Rattle.std.proofs.lemmas.List.Elements.{All-cons, All-head, All-tail}
use Rattle.mk_model.specs.Molecules.{IsMolecule, Molecule}
use Rattle.mk_sdfile.specs.declared.raw_record.RawRecord.{RawRecord}
use Rattle.mk_mol.specs.Filled.{IsFilled}
use Rattle.mk_mol.specs.FirstFault.{IsFirstMoleculeFault, MeetsAllChecks}
use Rattle.mk_library.specs.Edits.{texts_of}
use Rattle.mk_library.specs.FirstRefusal.{IsFirstFailing, IsMoleculeRecord}
use Rattle.mk_library.specs.Steps.{AreMolecules}

-- the records before those that are left are prepared
pub record IsPart (all left : List RawRecord) (number : ℕ) (texts : List (List ℕ)) (mols : List Molecule) : Type 0 where
  pub done : List RawRecord
  pub whole : all ≡ done ++ left
  pub counted : number ≡ length done
  pub texts_are : texts ≡ texts_of done
  pub molecules : AreMolecules done mols

molecules_more : (done : List RawRecord) (mols : List Molecule) (raw : RawRecord) (mol : Molecule) → AreMolecules done mols → MeetsAllChecks raw.table → IsFilled raw.table mol
    → IsMolecule mol → AreMolecules (done ++ raw ∷ []) (mols ++ mol ∷ [])
molecules_more [] [] raw mol are passes filled kept = (passes, filled, kept, tt)
molecules_more [] (m ∷ mols) raw mol are passes filled kept = absurd are
molecules_more (r ∷ done) [] raw mol are passes filled kept = absurd are
molecules_more (r ∷ done) (m ∷ mols) raw mol are passes filled kept = (are.0, are.1, are.2, molecules_more done mols raw mol are.3 passes filled kept)

texts_more : (done : List RawRecord) (raw : RawRecord) → texts_of done ++ raw.text ∷ [] ≡ texts_of (done ++ raw ∷ [])
texts_more [] raw = refl
texts_more (r ∷ done) raw = ap (λ texts. r.text ∷ texts) (texts_more done raw)

behind : (done left : List RawRecord) (raw : RawRecord) → done ++ raw ∷ left ≡ (done ++ raw ∷ []) ++ left
behind [] left raw = refl
behind (r ∷ done) left raw = ap (λ xs. r ∷ xs) (behind done left raw)

pub part-more : (all left : List RawRecord) (raw : RawRecord) (number : ℕ) (texts : List (List ℕ)) (mols : List Molecule) (mol : Molecule) → IsPart all (raw ∷ left) number texts mols
    → MeetsAllChecks raw.table → IsFilled raw.table mol → IsMolecule mol → IsPart all left (number + 1) (texts ++ raw.text ∷ []) (mols ++ mol ∷ [])
part-more all left raw number texts mols mol part passes filled kept = record {
  done = part.done ++ raw ∷ [];
  whole = part.whole ∙ behind part.done left raw;
  counted = rw length-append (omega (arith, part.counted));
  texts_are = ap (λ ts. ts ++ raw.text ∷ []) part.texts_are ∙ texts_more part.done raw;
  molecules = molecules_more part.done mols raw mol part.molecules passes filled kept;
}

append_nothing : (xs : List RawRecord) → xs ++ [] ≡ xs
append_nothing [] = refl
append_nothing (x ∷ xs) = ap (λ ys. x ∷ ys) (append_nothing xs)

pub part-all : (all : List RawRecord) (number : ℕ) (texts : List (List ℕ)) (mols : List Molecule) → IsPart all [] number texts mols
    → (texts ≡ texts_of all) × AreMolecules all mols
part-all all number texts mols part =
    let whole : all ≡ part.done = part.whole ∙ append_nothing part.done in
    (part.texts_are ∙ ap texts_of (sym whole), subst (λ (xs : List RawRecord). AreMolecules xs mols) (sym whole) part.molecules)

pub all_pass : (raws : List RawRecord) (mols : List Molecule) → AreMolecules raws mols → All IsMoleculeRecord raws
all_pass [] mols are = λ k d below. absurd (omega arith)
all_pass (raw ∷ raws) [] are = absurd are
all_pass (raw ∷ raws) (mol ∷ mols) are = All-cons IsMoleculeRecord raw raws are.0 (all_pass raws mols are.3)

-- the next one is the first that fails
pub part-fails : (all left : List RawRecord) (raw : RawRecord) (number check item : ℕ) (texts : List (List ℕ)) (mols : List Molecule) → IsPart all (raw ∷ left) number texts mols
    → IsFirstMoleculeFault raw.table check item → IsFirstFailing all (number + 1) check item
part-fails all left raw number check item texts mols part fails = record {
  earlier = part.done;
  raw = raw;
  later = left;
  whole = part.whole;
  counted = omega (arith, part.counted);
  before = all_pass part.done mols part.molecules;
  fails = fails;
}

-- what each of all has, the next one has
pub of_next : (P : RawRecord → Type 0) (all left : List RawRecord) (raw : RawRecord) (number : ℕ) (texts : List (List ℕ)) (mols : List Molecule) → IsPart all (raw ∷ left) number texts mols
    → All P all → P raw
of_next P all left raw number texts mols part each = next_of part.done (subst (All P) part.whole each)
  where
    next_of : (done : List RawRecord) → All P (done ++ raw ∷ left) → P raw
    next_of [] h = All-head P raw left h
    next_of (r ∷ done) h = next_of done (All-tail P r (done ++ raw ∷ left) h)
