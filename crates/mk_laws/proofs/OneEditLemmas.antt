-- Over told files an edit of the library comes to at most one effect.
--     one_reading, long_not_read     a told file has one text, or is too long
--     one_by_file                    by a molecules' file a command comes to one effect, if by its bytes it does
--     one_refusal                    one thing is said of the first demand that isn't met
--     one_edited, one_replace        so `load` and `replace` come to one effect
use Rattle.std.proofs.Common.{◌≡◌, ℕ, suc, Bool, true, false, inl, inr, List, [], ◌∷◌, ◌++◌, Some, length, refl, sym, ap, subst, ◌∙◌, arith}
use Rattle.std.specs.Prelude.{◌↔◌, All, IsTrue}
use Rattle.std.proofs.lemmas.Bool.Decides.{leb_tells}
use Rattle.mk_text.specs.Lines.{lines_of}
use Rattle.mk_outside.specs.declared.tables.Change.{Change}
use Rattle.mk_outside.specs.declared.tables.Change.TheVariants.{PutRecord}
use Rattle.mk_outside.specs.declared.tables.RecordRow.{RecordRow}
use Rattle.mk_sdfile.specs.declared.raw_record.RawRecord.{RawRecord}
use Rattle.mk_sdfile.specs.Sdfile.{HasOneBadLine, HasOneValue, IsNamedV3000}
use Rattle.mk_mol.specs.FirstFault.{IsFirstMoleculeFault}
use Rattle.mk_mol.specs.Laws.{NoFaultWhereAllPass, OneFirstFault}
use Rattle.mk_library.specs.declared.refusal.LoadRefusal.{LoadRefusal}
use Rattle.mk_library.specs.declared.refusal.LoadRefusal.TheVariants as refusal
use Rattle.mk_library.specs.Edits.{AreChanges, Edit, Load, Remove, Replace, puts_from, texts_of}
use Rattle.mk_library.specs.FirstRefusal.{Demand, EditDemands, IsFirstFailing, IsFirstRefusal, IsFirstUnmet, IsMoleculeRecord, IsSaidOf, demand_number, text_of_edit}
use Rattle.mk_library.specs.FirstRefusal.{held_number, kept_limits, molecules, one_record, sdfile, short_file}
use Rattle.mk_library.specs.Limits.{file_bytes}
use Rattle.mk_library.proofs.ForCallers.{one_demand}
use Rattle.mk_found.specs.Effects.{Answers, Effect, Refuses}
use Rattle.mk_found.specs.Files.{IsLong, IsShort, Look}
use Rattle.mk_edits.specs.Loading.{IsEditMade, IsEdited, IsReplace, NoRecordReplaced, ReplacesHeld, replaced_text}
use Rattle.mk_found.specs.MoleculeFiles.{ComesByFile, GoesByMolecules, IsFileLine, MoleculesRefused, MoleculesTooLong}

-- ---- files

module _ (look : Look) (name : List ℕ) (most : ℕ) where
  -- a file that is read has one text
  pub one_reading : (bytes others : List ℕ) → IsShort (Some look) most name bytes → IsShort (Some look) most name others → bytes ≡ others
  one_reading bytes others p q = let f = p.told in let g = q.told in cc

  -- a file that is too long isn't read
  pub long_not_read : (bytes : List ℕ) → IsLong (Some look) most name → IsShort (Some look) most name bytes → ⊥
  long_not_read bytes p q =
      let same : p.bytes ≡ bytes = (let f = p.told in let g = q.told in cc) in
      omega (arith, p.long, q.short, ap length same)

-- ---- by a file

-- a refusal has one line
one_file_line : (said : LoadRefusal) (a b : List ℕ) → IsFileLine said a → IsFileLine said b → a ≡ b
one_file_line refusal.NoRecord a b p q = absurd p
one_file_line refusal.FileLarge a b p q = p ∙ sym q
one_file_line (refusal.Layout k v3000) a b p q = p ∙ sym q
one_file_line (refusal.NotOne count) a b p q = p ∙ sym q
one_file_line (refusal.Meaning number check item) a b p q = p ∙ sym q
one_file_line refusal.Full a b p q = p ∙ sym q
one_file_line refusal.Memory a b p q = absurd p

module _ (look : Look) (name : List ℕ) (First : List ℕ → LoadRefusal → Type 0) (Comes : List ℕ → Effect → Type 0)
    (one_first : (bytes : List ℕ) (a b : LoadRefusal) → First bytes a → First bytes b → a ≡ b)
    (not_both : (bytes : List ℕ) (said : LoadRefusal) (effect : Effect) → First bytes said → Comes bytes effect → ⊥)
    (one_comes : (bytes : List ℕ) (a b : Effect) → Comes bytes a → Comes bytes b → a ≡ b) where
  -- bytes that are read twice are the same
  same_bytes : (bytes others : List ℕ) → IsShort (Some look) file_bytes name bytes → IsShort (Some look) file_bytes name others → others ≡ bytes
  same_bytes bytes others read read' = one_reading look name file_bytes others bytes read' read

  -- a file that is too long isn't read
  long_or_read : (bytes : List ℕ) → IsLong (Some look) file_bytes name → IsShort (Some look) file_bytes name bytes → ⊥
  long_or_read bytes long read = long_not_read look name file_bytes bytes long read

  -- a file that is refused isn't gone by
  refused_or_not : (bytes others : List ℕ) (said : LoadRefusal) (effect : Effect) → others ≡ bytes → First bytes said → Comes others effect → ⊥
  refused_or_not bytes others said effect same first comes = not_both bytes said effect first (subst (λ (bs : List ℕ). Comes bs effect) same comes)

  -- by a file a command comes to one effect, where by its bytes it does
  pub one_by_file : (a b : Effect) → ComesByFile (Some look) name First Comes a → ComesByFile (Some look) name First Comes b → a ≡ b
  one_by_file a b (MoleculesTooLong long is) (MoleculesTooLong long' is') = is ∙ sym is'
  one_by_file a b (MoleculesTooLong long is) (MoleculesRefused bytes read said first line says is') = absurd (long_or_read bytes long read)
  one_by_file a b (MoleculesTooLong long is) (GoesByMolecules bytes read comes) = absurd (long_or_read bytes long read)
  one_by_file a b (MoleculesRefused bytes read said first line says is) (MoleculesTooLong long is') = absurd (long_or_read bytes long read)
  one_by_file a b (MoleculesRefused bytes read said first line says is) (MoleculesRefused others read' said' first' line' says' is') =
      let here = subst (λ (bs : List ℕ). First bs said') (same_bytes bytes others read read') first' in
      let same = one_first bytes said' said here first in
      is ∙ ap Refuses (one_file_line said line line' says (subst (λ (s : LoadRefusal). IsFileLine s line') same says')) ∙ sym is'
  one_by_file a b (MoleculesRefused bytes read said first line says is) (GoesByMolecules others read' comes) =
      absurd (refused_or_not bytes others said b (same_bytes bytes others read read') first comes)
  one_by_file a b (GoesByMolecules bytes read comes) (MoleculesTooLong long is') = absurd (long_or_read bytes long read)
  one_by_file a b (GoesByMolecules bytes read comes) (MoleculesRefused others read' said first line says is') =
      absurd (refused_or_not others bytes said a (same_bytes others bytes read' read) first comes)
  one_by_file a b (GoesByMolecules bytes read comes) (GoesByMolecules others read' comes') =
      one_comes bytes a b comes (subst (λ (bs : List ℕ). Comes bs b) (same_bytes bytes others read read') comes')

-- ---- what is said

-- two tests of one thing are one
one_test : (P : Type 0) (a b : Bool) → (IsTrue a ↔ P) → (IsTrue b ↔ P) → a ≡ b
one_test P true true p q = refl
one_test P false false p q = refl
one_test P true false p q = let is : IsTrue true = cc in let never = q.1 (p.0 is) in absurd cc
one_test P false true p q = let is : IsTrue true = cc in let never = p.1 (q.0 is) in absurd cc

module _ (one_value : HasOneValue) (one_bad : HasOneBadLine) (one_fault : OneFirstFault) (no_fault : NoFaultWhereAllPass) where
  -- the first of a list is a molecule where all are, and so are the others
  first_is : (raw : RawRecord) (raws : List RawRecord) → All IsMoleculeRecord (raw ∷ raws) → IsMoleculeRecord raw
  first_is raw raws all = all 0 raw (omega arith)

  others_are : (raw : RawRecord) (raws : List RawRecord) → All IsMoleculeRecord (raw ∷ raws) → All IsMoleculeRecord raws
  others_are raw raws all k d below = all (suc k) d (omega (arith, below))

  -- the first record that is no molecule is one
  one_front : (xs ys : List RawRecord) (x y : RawRecord) (later later' : List RawRecord) (check item check' item' : ℕ) → xs ++ x ∷ later ≡ ys ++ y ∷ later'
      → All IsMoleculeRecord xs → All IsMoleculeRecord ys → IsFirstMoleculeFault x.table check item → IsFirstMoleculeFault y.table check' item' → (length xs ≡ length ys) × (x ≡ y)
  one_front [] [] x y later later' check item check' item' whole all all' fault fault' = let same : x ≡ y = cc in (refl, same)
  one_front [] (z ∷ ys) x y later later' check item check' item' whole all all' fault fault' =
      let same : z ≡ x = cc in
      absurd (no_fault x.table check item (subst IsMoleculeRecord same (first_is z ys all')) fault)
  one_front (z ∷ xs) [] x y later later' check item check' item' whole all all' fault fault' =
      let same : z ≡ y = cc in
      absurd (no_fault y.table check' item' (subst IsMoleculeRecord same (first_is z xs all)) fault')
  one_front (z ∷ xs) (w ∷ ys) x y later later' check item check' item' whole all all' fault fault' =
      let rest : xs ++ x ∷ later ≡ ys ++ y ∷ later' = cc in
      let both = one_front xs ys x y later later' check item check' item' rest (others_are z xs all) (others_are w ys all') fault fault' in
      (ap suc both.0, both.1)

  -- and it fails in one way
  one_failing : (raws : List RawRecord) (n m check check' item item' : ℕ) → IsFirstFailing raws n check item → IsFirstFailing raws m check' item' → (n ≡ m) × (check ≡ check') × (item ≡ item')
  one_failing raws n m check check' item item' p q =
      let both = one_front p.earlier q.earlier p.raw q.raw p.later q.later check item check' item' (sym p.whole ∙ q.whole) p.before q.before p.fails q.fails in
      let fault = one_fault p.raw.table check item check' item' p.fails (subst (λ (raw : RawRecord). IsFirstMoleculeFault raw.table check' item') (sym both.1) q.fails) in
      (omega (arith, p.counted, q.counted, both.0), fault.0, fault.1)

  -- one thing is said of a demand
  pub one_said : (text : List ℕ) (demand : Demand) (a b : LoadRefusal) → IsSaidOf text demand a → IsSaidOf text demand b → a ≡ b
  one_said text held_number a b p q = p ∙ sym q
  one_said text short_file a b p q = p ∙ sym q
  one_said text sdfile a b p q =
      let line : p.0 ≡ q.0 = one_bad (lines_of text) p.0 q.0 p.3 q.3 in
      let test : p.1 ≡ q.1 = one_test (IsNamedV3000 (lines_of text) q.0) p.1 q.1 (subst (λ (k : ℕ). IsTrue p.1 ↔ IsNamedV3000 (lines_of text) k) line p.4) q.4 in
      p.2 ∙ ap (λ (k : ℕ). refusal.Layout k p.1) line ∙ ap (λ (v : Bool). refusal.Layout q.0 v) test ∙ sym q.2
  one_said text one_record a b p q = p.2 ∙ ap (λ (raws : List RawRecord). refusal.NotOne (length raws)) (one_value (lines_of text) p.0 q.0 p.1 q.1) ∙ sym q.2
  one_said text molecules a b p q =
      let raws : q.0 ≡ p.0 = one_value (lines_of text) q.0 p.0 q.4 p.4 in
      let same = one_failing p.0 p.1 q.1 p.2 q.2 p.3 q.3 p.6 (subst (λ (rs : List RawRecord). IsFirstFailing rs q.1 q.2 q.3) raws q.6) in
      p.5 ∙ ap (λ (n : ℕ). refusal.Meaning n p.2 p.3) same.0 ∙ ap (λ (n : ℕ). refusal.Meaning q.1 n p.3) same.1 ∙ ap (λ (n : ℕ). refusal.Meaning q.1 q.2 n) same.2 ∙ sym q.5
  one_said text kept_limits a b p q = p ∙ sym q

  -- one thing is said of the first of some demands that isn't met
  pub one_refusal : (Demands : Demand → Type 0) (text : List ℕ) (a b : LoadRefusal) → IsFirstUnmet Demands text a → IsFirstUnmet Demands text b → a ≡ b
  one_refusal Demands text a b p q = elim (leb_tells (suc (demand_number p.demand)) (demand_number q.demand)) [
    | inl below ↦ absurd (p.fails (q.before p.demand (omega (arith, below.1))))
    | inr above ↦ elim (leb_tells (suc (demand_number q.demand)) (demand_number p.demand)) [
      | inl below ↦ absurd (q.fails (p.before q.demand (omega (arith, below.1))))
      | inr other ↦
          let same : q.demand ≡ p.demand = one_demand q.demand p.demand (omega (arith, above.1, other.1)) in
          one_said text p.demand a b p.says (subst (λ (d : Demand). IsSaidOf text d b) same q.says)
    ]
  ]

  -- an edit makes one list of changes
  one_change : (next : ℕ) (edit : Edit) (a b : List Change) → AreChanges next edit a → AreChanges next edit b → a ≡ b
  one_change next (Load text) a b p q = p.2 ∙ ap (λ (raws : List RawRecord). puts_from next (texts_of raws)) (one_value (lines_of text) p.0 q.0 p.1 q.1) ∙ sym q.2
  one_change next (Replace number text) a b p q =
      let raws = one_value (lines_of text) (p.0 ∷ []) (q.0 ∷ []) p.1 q.1 in
      let same : p.0 ≡ q.0 = cc in
      p.2 ∙ ap (λ (raw : RawRecord). PutRecord number raw.text ∷ []) same ∙ sym q.2
  one_change next (Remove number) a b p q = p ∙ sym q

  -- ---- effects

  module _ (look : Look) (records : List RecordRow) (next : ℕ) (name : List ℕ) (edit : List ℕ → Edit) (answer : List Change → List ℕ) where
    -- an edit that is made isn't refused
    made_not_refused : (bytes : List ℕ) (said : LoadRefusal) (effect : Effect) → IsFirstRefusal records next (edit bytes) said → IsEditMade records next (edit bytes) answer effect → ⊥
    made_not_refused bytes said effect first made = first.fails (made.allowed.met first.demand)

    -- and it is made in one way
    one_made : (bytes : List ℕ) (a b : Effect) → IsEditMade records next (edit bytes) answer a → IsEditMade records next (edit bytes) answer b → a ≡ b
    one_made bytes a b p q =
        let same = one_change next (edit bytes) p.changes q.changes p.allowed.are q.allowed.are in
        p.answered ∙ ap (λ (cs : List Change). Answers cs (answer cs)) same ∙ sym q.answered

    pub one_edited : (a b : Effect) → IsEdited (Some look) records next name edit answer a → IsEdited (Some look) records next name edit answer b → a ≡ b
    one_edited =
        one_by_file look name (λ (bytes : List ℕ). IsFirstRefusal records next (edit bytes)) (λ (bytes : List ℕ). IsEditMade records next (edit bytes) answer)
        (λ bytes a b p q. one_refusal (EditDemands records next (edit bytes)) (text_of_edit (edit bytes)) a b p q) made_not_refused one_made

  pub one_replace : (look : Look) (records : List RecordRow) (next n : ℕ) (name : List ℕ) (a b : Effect) → IsReplace (Some look) records next n name a
      → IsReplace (Some look) records next n name b → a ≡ b
  one_replace look records next n name a b (NoRecordReplaced none is) (NoRecordReplaced none' is') = is ∙ sym is'
  one_replace look records next n name a b (NoRecordReplaced none is) (ReplacesHeld held is') = let h = sym none ∙ held in absurd cc
  one_replace look records next n name a b (ReplacesHeld held is) (NoRecordReplaced none is') = let h = sym none ∙ held in absurd cc
  one_replace look records next n name a b (ReplacesHeld held is) (ReplacesHeld held' is') = one_edited look records next name (Replace n) (λ changes. replaced_text n) a b is is'
