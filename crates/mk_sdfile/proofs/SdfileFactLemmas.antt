-- What the records of every SDfile keep.
use Rattle.std.proofs.Common.{ℕ, ◌≤◌, ◌<◌, max, inl, inr, true, All, Option, Some, None, Result, Ok, Err, List, [], ◌∷◌, ◌++◌, length, sym, ap, subst, arith}
use Rattle.std.specs.List.{AllByRecursion}
use Rattle.std.specs.Prelude.{IfOk, MatchOption, option_to_list}
use Rattle.std.proofs.lemmas.List.{length-append}
use Rattle.std.proofs.lemmas.List.Elements.{All-from_recursion}
use Rattle.mk_form.specs.Rows.{Series}
use Rattle.mk_form.specs.ToEnd.{EachIs}
use Rattle.mk_text.specs.Columns.{are_blank}
use Rattle.mk_tables.specs.declared.fault.TableFault.{TableFault}
use Rattle.mk_tables.specs.declared.fault.TableFault.TheVariants.{Bad, V3000, Memory}
use Rattle.mk_tables.specs.TableFacts.{IsRawTable}
use Rattle.mk_tables.specs.TableFaults.{IfV3000}
use Rattle.mk_tables.specs.TableLines.{Line}
use Rattle.mk_tables.specs.Table.{IsTable}
use Rattle.mk_tables.proofs.ForCallers as ctab
use Rattle.mk_v3000.specs.V3000Table.{IsV3000Table}
use Rattle.mk_v3000.proofs.ForCallers as v3000
use Rattle.mk_sdfile.specs.declared.raw_record.RawRecord.{RawRecord}
use Rattle.mk_sdfile.specs.Sdfile.{IsRecord, IsRecordBlock, IsSdfile, IsNamedV3000}

-- a fact of each record whose lines are no more than n and are all such that Q holds of them
abbrev pub OfEach : ℕ → (Line → Type 0) → (RawRecord → Type 0) → Type 0
OfEach n Q P = (lines : List Line) (r : RawRecord) → IsRecord lines r → length lines ≤ n → AllByRecursion Q lines → P r

-- of lines of which Q holds, it holds of the first ones and of the others
by_parts : (Q : Line → Type 0) (front back : List Line) → AllByRecursion Q (front ++ back) → AllByRecursion Q front × AllByRecursion Q back
by_parts Q [] back h = (tt, h)
by_parts Q (l ∷ front) back h = let others = by_parts Q front back h.1 in ((h.0, others.0), others.1)

module _ (n : ℕ) (Q : Line → Type 0) (P : RawRecord → Type 0) (each : OfEach n Q P) where
  -- holds of those in blocks
  of_blocks : (blocks : List RawRecord) (lines : List Line) → Series IsRecordBlock lines blocks → length lines ≤ n
      → AllByRecursion Q lines → (others : List RawRecord) → AllByRecursion P others
      → AllByRecursion P (blocks ++ others)
  of_blocks [] lines series few q others h = h
  of_blocks (r ∷ blocks) lines series few q others h =
      let block = series.3 in
      let size = length-append series.0 series.1 in
      let whole = length-append block.record_lines (block.separator ∷ []) in
      let two = by_parts Q series.0 series.1 (subst (AllByRecursion Q) series.2 q) in
      let first = by_parts Q block.record_lines (block.separator ∷ []) (subst (AllByRecursion Q) block.whole two.0) in (
        each block.record_lines r block.is (omega (arith, size, whole, ap length series.2, ap length block.whole)) first.0,
        of_blocks blocks series.1 series.4 (omega (arith, size, ap length series.2)) two.1 others h,
      )

  -- and of the last one
  of_last : (last : Option RawRecord) (lines : List Line)
      → MatchOption last (EachIs are_blank true lines) (IsRecord lines) → length lines ≤ n → AllByRecursion Q lines
      → AllByRecursion P (option_to_list last)
  of_last None lines ended few q = tt
  of_last (Some r) lines ended few q = (each lines r ended few q, tt)

-- so of all
pub of_all : (Q : Line → Type 0) (P : RawRecord → Type 0) (lines : List Line) (records : List RawRecord) → AllByRecursion Q lines → OfEach (length lines) Q P → IsSdfile lines records → All P records
of_all Q P lines records q each h =
    let size = length-append h.block_lines h.last_lines in
    let two = by_parts Q h.block_lines h.last_lines (subst (AllByRecursion Q) h.whole q) in
    let last = of_last (length lines) Q P each h.last h.last_lines h.ended (omega (arith, size, ap length h.whole)) two.1 in
    let all = of_blocks (length lines) Q P each h.blocks h.block_lines h.each (omega (arith, size, ap length h.whole)) two.0 (option_to_list h.last) last in
    All-from_recursion P records (subst (AllByRecursion P) (sym h.all) all)

-- nothing is asked of a line
abbrev AnyLine : Line → Type 0
AnyLine l = Unit {0}

any_lines : (lines : List Line) → AllByRecursion AnyLine lines
any_lines [] = tt
any_lines (l ∷ lines) = (tt, any_lines lines)

-- a table of either kind keeps what every table keeps that was read
record_keeps : (lines : List Line) (r : RawRecord) → IsRecord lines r → IsRawTable r.table
record_keeps lines r h = elim h.molfile.is [
  | inl is ↦ v3000.keeps h.molfile.table_lines r.table is
  | inr is ↦ ctab.keeps h.molfile.table_lines r.table is
]

-- a table of either kind has few properties, or fewer than it has lines
record_few : (n : ℕ) (lines : List Line) (r : RawRecord) → IsRecord lines r → length lines ≤ n → length r.table.props < max n 2998
record_few n lines r h few = elim h.molfile.is [
  | inl is ↦ let table = v3000.few_properties h.molfile.table_lines r.table is in omega (arith, table)
  | inr is ↦
      let table = ctab.few_properties h.molfile.table_lines r.table is in
      omega (arith, table, ap length h.whole, length-append h.molfile_lines h.data_lines, ap length h.molfile.whole, length-append h.molfile.header_lines h.molfile.table_lines)
]

-- by what was answered
pub keeps_by : {E : Type 0} (lines : List Line) (answer : Result (List RawRecord) E) → IfOk answer (IsSdfile lines) → IfOk answer (All (λ r. IsRawTable r.table))
keeps_by lines (Ok records) h = of_all AnyLine (λ r. IsRawTable r.table) lines records (any_lines lines) (λ ls r is few q. record_keeps ls r is) h
keeps_by lines (Err e) h = tt

pub fewer_by : {E : Type 0} (lines : List Line) (answer : Result (List RawRecord) E) → IfOk answer (IsSdfile lines) → IfOk answer (All (λ r. length r.table.props < max (length lines) 2998))
fewer_by lines (Ok records) h = of_all AnyLine (λ r. length r.table.props < max (length lines) 2998) lines records (any_lines lines) (λ ls r is few q. record_few (length lines) ls r is few) h
fewer_by lines (Err e) h = tt

-- no line is named
pub never_named : {T : Type 0} (lines : List Line) (answer : Result T TableFault) → IfV3000 answer (IsNamedV3000 lines) → IfV3000 answer (λ k. ⊥)
never_named lines (Ok v) h = tt
never_named lines (Err (Bad k)) h = tt
never_named lines (Err (V3000 k)) h = h.due
never_named lines (Err Memory) h = tt
