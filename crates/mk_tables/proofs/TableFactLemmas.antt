-- What the table of every text keeps.
use Rattle.std.proofs.Common.{◌≡◌, ℕ, zero, suc, ◌+◌, ◌-◌, ◌^◌, ◌≤◌, ◌<◌, not, ◌&&◌, eqb, leb, Option, Some, None, Result, Ok, Err, List, [], ◌∷◌, ◌++◌, length, take, drop, refl, sym, ap, subst, ◌∙◌, inl, inr, arith}
use Rattle.std.specs.Prelude.{ℤ, pos, negsuc, All, IfOk}
use Rattle.std.specs.Str.Parse.{digits_value}
use Rattle.std.proofs.Math.Nat.{pow-le-pow_right}
use Rattle.std.proofs.lemmas.Bool.{leb-true}
use Rattle.std.proofs.lemmas.Int.Digits.{digits_value-lt}
use Rattle.std.proofs.lemmas.List.{length-append, length-take, length-drop}
use Rattle.std.proofs.lemmas.List.Elements.{All-nil}
use Rattle.mk_form.specs.Lines.{OneLine}
use Rattle.mk_form.specs.Rows.{Series}
use Rattle.mk_text.specs.Columns.{columns}
use Rattle.mk_text.specs.Fields.{Sign, NoSign, Plus, Minus, signed, sign_text, IsField, field_of}
use Rattle.mk_text.proofs.ForCallers.{both, all_digits, both_read, test_passed, field_found}
use Rattle.mk_props.specs.declared.property.Property.{Property}
use Rattle.mk_props.specs.declared.property.Property.TheVariants as kinds
use Rattle.mk_props.specs.Property.{IsProperty}
use Rattle.mk_text.specs.Options.{◌>>=◌, count_in, not_negative, entries_of}
use Rattle.mk_tables.specs.declared.fault.TableFault.{TableFault}
use Rattle.mk_tables.specs.declared.raw.RawList.{RawList}
use Rattle.mk_tables.specs.declared.raw.RawTable.{RawTable}
use Rattle.mk_tables.specs.declared.table_lines.CountsLine.{CountsLine}
use Rattle.mk_tables.specs.Table.{IsKept, IsBlock, values_of, IsTable}
use Rattle.mk_tables.specs.TableFacts.{HasSymbols, IsRawTable}
use Rattle.mk_tables.specs.TableLaws.{IsTableFrom}
use Rattle.mk_tables.specs.TableLines.{Line, word_of, natural_of, is_v2000_or_none, counts_of, list_flag_of, list_count_of, list_numbers_of, list_of}

-- ---- numbers in three columns

-- a number with a sign that is none below 0 is no greater than without
not_above : (s : Sign) (m n : ℕ) → pos n ≡ signed s m → n ≤ m
not_above NoSign m n e = let same : n ≡ m = cc in omega (arith, same)
not_above Plus m n e = let same : n ≡ m = cc in omega (arith, same)
not_above Minus zero n e = let same : n ≡ 0 = cc in omega (arith, same)
not_above Minus (suc m) n e = absurd cc

-- three columns are at most three
three_columns : (line : Line) (a b : ℕ) → b ≤ a + 2 → length (columns line a b) ≤ 3
unfolding columns
three_columns line a b few = omega (arith, length-take {A = ℕ})

-- a field of at most three columns is at most 999
field_small : (line : Line) (a b n : ℕ) → b ≤ a + 2 → IsField (columns line a b) (pos n) → n ≤ 999
field_small line a b n few (inl blank) = let same : n ≡ 0 = (let e = blank.1 in cc) in omega (arith, same)
field_small line a b n few (inr field) =
    let ds = field.digits in
    let size : length (columns line a b) ≡ length field.before + (length (sign_text field.sign ++ ds) + length field.after) =
    ap length field.whole ∙ length-append field.before ((sign_text field.sign ++ ds) ++ field.after)
    ∙ ap (λ (k : ℕ). length field.before + k) (length-append (sign_text field.sign ++ ds) field.after) in
    let short : length ds ≤ 3 = omega (arith, three_columns line a b few, length-append (sign_text field.sign) ds) in
    let value = digits_value-lt 10 ds (all_digits ds field.are_digits) in
    let power : 10 ^ length ds ≤ 10 ^ 3 = pow-le-pow_right {n = 10} (omega arith) short in
    let below = not_above field.sign (digits_value 10 ds) n field.value in
    omega arith

-- a number that isn't below 0 is that number
not_negative_is : (z : ℤ) (n : ℕ) → not_negative z ≡ Some n → z ≡ pos n
not_negative_is (pos m) n e = cc
not_negative_is (negsuc m) n e = absurd cc

-- the number of at most three columns is at most 999
natural_small : (line : Line) (a b n : ℕ) → b ≤ a + 2 → natural_of line a b ≡ Some n → n ≤ 999
unfolding natural_of
natural_small line a b n few read =
    let field = both_read (field_of line a b) not_negative n read in
    field_small line a b n few (field_found line a b (pos n) (field.1 ∙ ap Some (not_negative_is field.0 n field.2)))

-- the counts are at most 999
record AreFew (n : CountsLine) : Type 0 where
  atoms : n.atoms ≤ 999
  bonds : n.bonds ≤ 999
  lists : n.lists ≤ 999

-- of every counts line
counts_few : (line : Line) (n : CountsLine) → counts_of line ≡ Some n → AreFew n
unfolding counts_of
counts_few line n read =
    let inside = test_passed (not (eqb (length (word_of line 1 3)) 0) && is_v2000_or_none line) _ n read in
    let a = both_read (natural_of line 1 3) _ n inside.1 in
    let b = both_read (natural_of line 4 6) _ n a.2 in
    let l = both_read (natural_of line 7 9) _ n b.2 in
    let f = both_read (field_of line 13 15) _ n l.2 in
    let s = both_read (natural_of line 16 18) _ n f.2 in
    let made : CountsLine = record { atoms = a.0; bonds = b.0; lists = l.0; stext = s.0 } in
    let same : made ≡ n = cc in
    subst AreFew same (record {
      atoms = natural_small line 1 3 a.0 (omega arith) a.1;
      bonds = natural_small line 4 6 b.0 (omega arith) b.1;
      lists = natural_small line 7 9 l.0 (omega arith) l.1;
    })

-- ---- lists

-- a count is from 1 to the most
count_between : (most n : ℕ) (z : ℤ) → count_in most z ≡ Some n → (1 ≤ n) × (n ≤ most)
count_between most n (pos m) read =
    let passed = test_passed (leb 1 m && leb m most) (Some m) n read in
    let h = both (leb 1 m) (leb m most) passed.0 in
    let same : m ≡ n = (let e = passed.1 in cc) in
    (omega (arith, leb-true 1 m h.0, same), omega (arith, leb-true m most h.1, same))
count_between most n (negsuc m) read = absurd cc

-- as many entries as were asked for
entries_count : {X : Type 0} (entry : ℕ → Option X) (n i : ℕ) (xs : List X) → entries_of entry n i ≡ Some xs → length xs ≡ n
entries_count entry zero i [] read = refl
entries_count entry zero i (x ∷ xs) read = absurd cc
entries_count entry (suc n) i [] read =
    let first = both_read (entry i) _ [] read in
    let others = both_read (entries_of entry n (i + 1)) _ [] first.2 in
    absurd (let e = others.2 in cc)
entries_count {X} entry (suc n) i (x ∷ xs) read =
    let first = both_read (entry i) (λ y. entries_of entry n (i + 1) >>= λ ys. Some (y ∷ ys)) (x ∷ xs) read in
    let others = both_read (entries_of entry n (i + 1)) (λ ys. Some (first.0 ∷ ys)) (x ∷ xs) first.2 in
    let same : others.0 ≡ xs = (let e = others.2 in cc) in
    ap suc (sym (ap length same) ∙ entries_count entry n (i + 1) others.0 others.1)

-- a list has 1 to 5 numbers
abbrev HasNumbers : RawList → Type 0
HasNumbers list = (1 ≤ length list.numbers) × (length list.numbers ≤ 5)

-- 1 to 5 numbers are read
list_numbers_few : (line : Line) (numbers : List ℤ) → list_numbers_of line ≡ Some numbers → (1 ≤ length numbers) × (length numbers ≤ 5)
unfolding list_numbers_of list_count_of
list_numbers_few line numbers read =
    let count = both_read (field_of line 10 10 >>= count_in 5) _ numbers read in
    let field = both_read (field_of line 10 10) (count_in 5) count.0 count.1 in
    let between = count_between 5 count.0 field.0 field.2 in
    let size = entries_count _ count.0 0 numbers count.2 in
    (omega (arith, between.0, size), omega (arith, between.1, size))

-- so each list has as many
list_few : (line : Line) (list : RawList) → list_of line ≡ Some list → HasNumbers list
unfolding list_of
list_few line list read =
    let a = both_read (field_of line 1 3) _ list read in
    let f = both_read (list_flag_of line) _ list a.2 in
    let n = both_read (list_numbers_of line) _ list f.2 in
    let made : RawList = record { atom = a.0; not = f.0; numbers = n.0 } in
    let same : made ≡ list = (let e = n.2 in cc) in
    subst HasNumbers same (list_numbers_few line n.0 n.1)

-- ---- all of a list

-- the first and the others
all_cons : {X : Type 0} (P : X → Type 0) (x : X) (xs : List X) → P x → All P xs → All P (x ∷ xs)
all_cons P x xs here there zero d lt = here
all_cons P x xs here there (suc k) d lt = there k d (omega arith)

-- what each line spells
all_spelled : {V : Type 0} (says : Line → Option V) (P : V → Type 0) → ((l : Line) (v : V) → says l ≡ Some v → P v) → (lines : List Line) (vs : List V) → Series (OneLine says) lines vs → All P vs
all_spelled says P each lines [] h = All-nil P
all_spelled says P each lines (v ∷ vs) h = all_cons P v vs (each h.3.line v h.3.spells) (all_spelled says P each h.1 vs h.4)

-- what each block keeps
all_kept : (P : Property → Type 0) → ((l : Line) (p : Property) → IsProperty l p → IsKept p → P p)
    → (lines : List Line) (blocks : List (Option Property)) → Series IsBlock lines blocks → All P (values_of blocks)
all_kept P each lines [] h = All-nil P
all_kept P each lines (Some p ∷ blocks) h = all_cons P p (values_of blocks) (each h.3.line p h.3.is h.3.kept) (all_kept P each h.1 blocks h.4)
all_kept P each lines (None ∷ blocks) h = all_kept P each h.1 blocks h.4

-- ---- properties

-- an `M  ALS` has 1 to 16 symbols
has_symbols : (l : Line) (p : Property) → IsProperty l p → IsKept p → HasSymbols p
has_symbols l (kinds.List list) is kept = (is.symbols.some, is.symbols.no_more)
has_symbols l p is kept = tt

-- no more properties than lines
few_kept : (lines : List Line) (blocks : List (Option Property)) → Series IsBlock lines blocks → length (values_of blocks) ≤ length lines
few_kept lines [] h = omega arith
few_kept lines (Some p ∷ blocks) h = omega (arith, few_kept h.1 blocks h.4, ap length h.2, length-append h.0 h.1, ap length h.3.whole)
few_kept lines (None ∷ blocks) h = omega (arith, few_kept h.1 blocks h.4, ap length h.2, length-append h.0 h.1)

-- ---- the whole

-- the table of every text keeps all of it
pub keeps : (lines : List Line) (t : RawTable) → IsTable lines t → IsRawTable t
keeps lines t table =
    let few = counts_few table.counts_line _ table.counted in
    let properties = table.properties in
    record {
      few_atoms = few.atoms;
      few_bonds = few.bonds;
      few_lists = few.lists;
      numbers = all_spelled list_of HasNumbers list_few table.list_lines t.lists table.lists;
      symbols = subst (All HasSymbols) (sym properties.kept) (all_kept HasSymbols has_symbols table.property_lines properties.blocks properties.each);
      kept = subst (All IsKept) (sym properties.kept) (all_kept IsKept (λ l p is kept. kept) table.property_lines properties.blocks properties.each);
    }

-- it has fewer properties than lines
pub few_properties : (lines : List Line) (t : RawTable) → IsTable lines t → length t.props < length lines
few_properties lines t table =
    let properties = table.properties in
    let end = table.property_lines ++ table.last_line ∷ [] in
    let stext = table.stext_lines ++ end in
    let lists = table.list_lines ++ stext in
    let bonds = table.bond_lines ++ lists in
    let kept = few_kept table.property_lines properties.blocks properties.each in
    omega (
      arith,
      kept,
      ap length properties.kept,
      ap length table.whole,
      length-append table.atom_lines bonds,
      length-append table.bond_lines lists,
      length-append table.list_lines stext,
      length-append table.stext_lines end,
      length-append table.property_lines (table.last_line ∷ []),
    )

-- by what was answered: what was read keeps all of it
pub keeps_by : (lines : List Line) (at : ℕ) (answer : Result (RawTable × ℕ) TableFault) → IfOk answer (λ r. IsTableFrom at lines r.1 r.0) → IfOk answer (λ r. IsRawTable r.0)
keeps_by lines at (Ok r) h = keeps (take (r.1 - at) (drop at lines)) r.0 h.part.is
keeps_by lines at (Err e) h = tt

-- and has fewer properties than the text has lines
pub fewer_by : (lines : List Line) (at : ℕ) (answer : Result (RawTable × ℕ) TableFault) → IfOk answer (λ r. IsTableFrom at lines r.1 r.0) → IfOk answer (λ r. length r.0.props < length lines)
fewer_by lines at (Ok r) h =
    let few = few_properties (take (r.1 - at) (drop at lines)) r.0 h.part.is in
    omega (arith, few, length-take (r.1 - at) (drop at lines), length-drop at lines)
fewer_by lines at (Err e) h = tt
