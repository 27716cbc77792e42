-- Pending changes: what they keep, and how they are made one after another.
use Rattle.std.proofs.Common.{[], ◌∷◌, List, All, arith, refl}
use Rattle.std.proofs.lemmas.List.Elements.{All-cons, All-head, All-tail}
use Rattle.mk_model.specs.Molecules.{Molecule}
use Rattle.mk_outside.specs.declared.tables.Change.{Change}
use Rattle.mk_outside.specs.declared.tables.Change.TheVariants.{PutRecord, DropRecord, PutQuery, DropQuery, PutCursor, DropCursor}
use Rattle.mk_outside.specs.Tables.{after_change, CanKeep}
use Rattle.mk_library.specs.Pending.{ArePrepared, IsOfRecords, RecordsChangeAlone}

none_left : (P : Change → Type 0) → All P []
none_left P = λ k d below. absurd (omega arith)

-- prepared changes can be kept
pub can_keep : (changes : List Change) (mols : List Molecule) → ArePrepared changes mols → All CanKeep changes
can_keep [] mols h = none_left CanKeep
can_keep (PutRecord number text ∷ changes) [] h = absurd h
can_keep (PutRecord number text ∷ changes) (mol ∷ mols) h = All-cons CanKeep (PutRecord number text) changes h.0 (can_keep changes mols h.2)
can_keep (DropRecord number ∷ changes) mols h = All-cons CanKeep (DropRecord number) changes tt (can_keep changes mols h)
can_keep (PutQuery number name text ∷ changes) mols h = absurd h
can_keep (DropQuery name ∷ changes) mols h = absurd h
can_keep (PutCursor number name place ∷ changes) mols h = absurd h
can_keep (DropCursor number ∷ changes) mols h = absurd h

-- and are of records
pub of_records : (changes : List Change) (mols : List Molecule) → ArePrepared changes mols → All IsOfRecords changes
of_records [] mols h = none_left IsOfRecords
of_records (PutRecord number text ∷ changes) [] h = absurd h
of_records (PutRecord number text ∷ changes) (mol ∷ mols) h = All-cons IsOfRecords (PutRecord number text) changes tt (of_records changes mols h.2)
of_records (DropRecord number ∷ changes) mols h = All-cons IsOfRecords (DropRecord number) changes tt (of_records changes mols h)
of_records (PutQuery number name text ∷ changes) mols h = absurd h
of_records (DropQuery name ∷ changes) mols h = absurd h
of_records (PutCursor number name place ∷ changes) mols h = absurd h
of_records (DropCursor number ∷ changes) mols h = absurd h

-- changes of records rest on the records and their next number alone
pub records_alone : RecordsChangeAlone
records_alone [] t h = refl
records_alone (PutRecord number text ∷ batch) t h = records_alone batch (after_change (PutRecord number text) t) (All-tail IsOfRecords (PutRecord number text) batch h)
records_alone (DropRecord number ∷ batch) t h = records_alone batch (after_change (DropRecord number) t) (All-tail IsOfRecords (DropRecord number) batch h)
records_alone (PutQuery number name text ∷ batch) t h = absurd (All-head IsOfRecords (PutQuery number name text) batch h)
records_alone (DropQuery name ∷ batch) t h = absurd (All-head IsOfRecords (DropQuery name) batch h)
records_alone (PutCursor number name place ∷ batch) t h = absurd (All-head IsOfRecords (PutCursor number name place) batch h)
records_alone (DropCursor number ∷ batch) t h = absurd (All-head IsOfRecords (DropCursor number) batch h)
