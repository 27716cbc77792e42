-- An SDfile is read block by block: what each answer says of what is left to read.
use Rattle.std.proofs.Common.{◌≡◌, ℕ, ◌+◌, ◌-◌, ◌≤◌, ◌<◌, max, true, false, ltb, Option, Some, None, Ok, List, [], ◌∷◌, ◌++◌, length, get_or, take, drop, refl, sym, ap, subst, ◌∙◌, inl, inr, arith}
use Rattle.std.specs.Prelude.{MatchOption, slice_range}
use Rattle.std.proofs.Math.Seq.{take-add}
use Rattle.std.proofs.lemmas.Bool.{cases_lt, le-ltb}
use Rattle.std.proofs.lemmas.List.{append-nil, length-append, length-drop, length-take-le, drop-drop, drop_more, take_all, take_at}
use Rattle.mk_form.specs.Either.{farther}
use Rattle.mk_form.specs.Exact.{Part}
use Rattle.mk_form.specs.Reading.{Reading, Took, Stop, and_then, TakesLines, StopsAtLine}
use Rattle.mk_form.specs.Seen.{with_lines, with_taken}
use Rattle.mk_form.specs.ToEnd.{EachIs, read_all, read_up_to}
use Rattle.mk_form.proofs.ByIndex.{farther_first, farther_second}
use Rattle.mk_form.proofs.RowLoops.{with_front, front_more}
use Rattle.mk_form.proofs.Stops.{part_found, stop_behind, named_from_is_due}
use Rattle.mk_form.proofs.ToEnd.{each-push, exact-lines_to_end}
use Rattle.mk_form.proofs.UpTo.{up_to_separator, up_to_end, put_twice}
use Rattle.mk_text.proofs.ForCallers.{range_item_more}
use Rattle.mk_text.specs.declared.line_start.LineStart.{LineStart}
use Rattle.mk_text.specs.Columns.{are_blank}
use Rattle.mk_text.specs.KeptLines.{kept_lines}
use Rattle.mk_text.specs.Lines.{lines_of}
use Rattle.mk_tables.specs.declared.fault.TableFault.{TableFault}
use Rattle.mk_tables.specs.declared.fault.TableFault.TheVariants.{Bad, V3000, Memory}
use Rattle.mk_tables.specs.declared.raw.RawTable.{RawTable}
use Rattle.mk_tables.specs.TableLines.{Line, is_v3000}
use Rattle.mk_tables.specs.TableReading.{Fails}
use Rattle.mk_tables.specs.TableWalk.{TakesTo}
use Rattle.mk_tables.proofs.ForCallers.{fails_first}
use Rattle.mk_sdfile.specs.declared.raw_record.RawRecord.{RawRecord}
use Rattle.mk_sdfile.specs.declared.sdfile.DataEnd.{DataEnd}
use Rattle.mk_sdfile.specs.MoleculeFile.{molecule_file, molecule_at}
use Rattle.mk_sdfile.specs.Sdfile.{is_separator}
use Rattle.mk_sdfile.specs.SdfileReading.{record_of, records_of, after_molfile, block_part, sdfile_part, sdfile_at, farther_fault}
use Rattle.mk_sdfile.specs.SdfileSteps.{AnswersFirst, IsSeparatorAt, IsDataEnd, AnswersBlock}
use Rattle.mk_sdfile.proofs.MoleculeFileLemmas.{exact-molecule}
use Rattle.mk_sdfile.proofs.SdfileLemmas.{not_blank, exact-sdfile_part, exact-block, exact-file, exact-sdfile, sdfile_is}

-- ---- ranges of lines

-- one range and the next are one
range_joined : (lines : List Line) (i j k : ℕ) → i ≤ j → j ≤ k → slice_range lines i j ++ slice_range lines j k ≡ slice_range lines i k
range_joined lines i j k first second =
    let through : (j - i) + (k - j) ≡ k - i = omega arith in
    let behind : drop (j - i) (drop i lines) ≡ drop j lines = drop-drop (j - i) i lines ∙ ap (λ (n : ℕ). drop n lines) (let e : i + (j - i) ≡ j = omega arith in e) in
    ap (λ (x : List Line). slice_range lines i j ++ take (k - j) x) (sym behind) ∙ sym (take-add (j - i) (k - j) (drop i lines)) ∙ ap (λ (n : ℕ). take n (drop i lines)) through

-- what stands from a line on is a range and what stands behind it
range_split : (lines : List Line) (i j : ℕ) → i ≤ j → j ≤ length lines → drop i lines ≡ slice_range lines i j ++ drop j lines
range_split lines i j order within =
    let n = length lines in
    let all : slice_range lines i n ≡ drop i lines = take_all (n - i) (drop i lines) (omega (arith, length-drop i lines)) in
    let rest : slice_range lines j n ≡ drop j lines = take_all (n - j) (drop j lines) (omega (arith, length-drop j lines)) in
    sym all ∙ sym (range_joined lines i j n order within) ∙ ap (λ (x : List Line). slice_range lines i j ++ x) rest

-- ---- data lines

-- one more data line
pub data_more : (lines : List Line) (from at : ℕ) → from ≤ at → at < length lines
    → EachIs is_separator false (slice_range lines from at) → is_separator (get_or lines at []) ≡ false
    → EachIs is_separator false (slice_range lines from (at + 1))
data_more lines from at order lt none goes = subst (EachIs is_separator false)
    (sym (range_item_more lines from at [] order lt)) (each-push is_separator false (slice_range lines from at)
    (get_or lines at []) none goes)

-- ---- a block

module _ (behind : Part Line (List RawRecord)) (lines : List Line) (at m end : ℕ) (t : RawTable) (first : at ≤ m)
    (second : m ≤ end) (takes : TakesLines lines m t (molecule_at (drop at lines)))
    (none : EachIs is_separator false (slice_range lines m end)) where
  -- the molfile is read with its lines
  molfile_read : (with_lines molecule_file).read (drop at lines) ≡ Took (t, slice_range lines at m) (drop m lines)
  molfile_read =
      let within = takes.within in
      let count : length (drop at lines) - length (drop m lines) ≡ m - at = omega (arith, length-drop at lines, length-drop m lines) in
      ap (λ (r : Reading Line RawTable). and_then r (with_taken (drop at lines))) takes.took
      ∙ ap (λ (n : ℕ). let w : Reading Line (RawTable × List Line) = Took (t, take n (drop at lines)) (drop m lines) in w) count

  -- and then what stands behind it
  after_read : (block_part behind).read (drop at lines) ≡ and_then (read_up_to is_separator behind.read (drop m lines)) (λ d. Took (records_of (t, slice_range lines at m) d))
  after_read = ap (λ (r : Reading Line (RawTable × List Line)). and_then r (λ x. (after_molfile behind x).read)) molfile_read

  -- the record that its lines make up
  made : record_of t (slice_range lines at m ++ slice_range lines m end) ≡ record_of t (slice_range lines at end)
  made = ap (record_of t) (range_joined lines at m end first second)

  -- the data lines run to the end
  pub block_ends : end ≡ length lines → (block_part behind).read (drop at lines) ≡ Took (record_of t (slice_range lines at end) ∷ []) []
  block_ends last =
      let rest : drop m lines ≡ slice_range lines m end = sym (take_all (end - m) (drop m lines) (omega (arith, length-drop m lines))) in
      let data_lines : read_up_to is_separator behind.read (drop m lines) ≡ Took (slice_range lines m end, None) [] =
      ap (read_up_to is_separator behind.read) rest
      ∙ up_to_end is_separator behind.read (slice_range lines m end) none in
      after_read
      ∙ ap (λ (x : Reading Line (List Line × Option (List RawRecord))). and_then x (λ d. Took (records_of (t, slice_range lines at m) d))) data_lines
      ∙ ap (λ (r : RawRecord). let w : Reading Line (List RawRecord) = Took (r ∷ []) [] in w) made

  -- a separator stands behind them
  pub block_next : end < length lines → is_separator (get_or lines end []) ≡ true
      → (block_part behind).read (drop at lines) ≡ and_then (behind.read (drop (end + 1) lines))
      (λ rs. Took (record_of t (slice_range lines at end) ∷ rs))
  block_next lt separates =
      let rest : drop m lines ≡ slice_range lines m end ++ get_or lines end [] ∷ drop (end + 1) lines =
      range_split lines m end second (omega arith) ∙ ap (λ (x : List Line). slice_range lines m end ++ x)
      (drop_more lines end [] lt) in
      let data_lines : read_up_to is_separator behind.read (drop m lines) ≡ and_then
      (behind.read (drop (end + 1) lines)) (λ v. Took (slice_range lines m end, Some v)) =
      ap (read_up_to is_separator behind.read) rest
      ∙ up_to_separator is_separator behind.read (slice_range lines m end) (drop (end + 1) lines)
      (get_or lines end []) none separates in
      after_read
      ∙ ap (λ (x : Reading Line (List Line × Option (List RawRecord))). and_then x (λ d. Took (records_of (t, slice_range lines at m) d))) data_lines
      ∙ put_twice (behind.read (drop (end + 1) lines)) (λ v. (slice_range lines m end, Some v)) (records_of (t, slice_range lines at m))
      ∙ ap (λ (r : RawRecord). and_then (behind.read (drop (end + 1) lines)) (λ rs. Took (r ∷ rs))) made

-- where the molfile fails, the block does
pub block_fails : (behind : Part Line (List RawRecord)) (lines : List Line) (at : ℕ) (fault : TableFault)
    → Fails lines fault (molecule_at (drop at lines)) → Fails lines fault ((block_part behind).read (drop at lines))
block_fails behind lines at fault h =
    fails_first lines fault ((with_lines molecule_file).read (drop at lines)) (λ x. (after_molfile behind x).read)
    (fails_first lines fault (molecule_at (drop at lines)) (with_taken (drop at lines)) h)

-- the first line that isn't blank stands no farther on than behind the molfile
pub blanks_before : (lines : List Line) (at m k : ℕ) (t : RawTable) → at ≤ length lines → at ≤ m
    → TakesLines lines m t (molecule_at (drop at lines))
    → StopsAtLine lines false k (read_all are_blank (drop at lines)) → k ≤ m
blanks_before lines at m k t inside order takes stops = elim (cases_lt m k) [
  | inr le ↦ le
  | inl lt ↦
      let counted = stops.counted in
      let is = (part_found exact-molecule at lines m t inside takes).part.is in
      let blank = (exact-lines_to_end {says = is_v3000} are_blank).fits (drop at lines) (drop (k - 1) lines) false stops.stop in
      let size : length blank.front ≡ (k - 1) - at = omega (
        arith,
        counted.0,
        counted.1,
        ap length blank.whole,
        length-append blank.front (drop (k - 1) lines),
        length-drop at lines,
        length-drop (k - 1) lines,
      ) in
      let cut : take ((k - 1) - at) (drop at lines) ≡ blank.front = ap (take ((k - 1) - at)) blank.whole ∙ take_at blank.front (drop (k - 1) lines) ((k - 1) - at) size in
      let through : (m - at) + ((k - 1) - m) ≡ (k - 1) - at = omega arith in
      let two : blank.front ≡ take (m - at) (drop at lines) ++ take ((k - 1) - m) (drop (m - at) (drop at lines)) =
      sym cut ∙ ap (λ (n : ℕ). take n (drop at lines)) (sym through)
      ∙ take-add (m - at) ((k - 1) - m) (drop at lines) in
      absurd (not_blank (take (m - at) (drop at lines)) (take ((k - 1) - m) (drop (m - at) (drop at lines))) t is (subst (EachIs are_blank true) two blank.live))
]

-- where no line is found that isn't blank, all are
pub none_first : (lines : List Line) (at : ℕ) (answer : Option ℕ) → AnswersFirst lines at answer → ((k : ℕ) → answer ≡ Some k → ⊥) → read_all are_blank (drop at lines) ≡ Took tt []
none_first lines at None h none = h
none_first lines at (Some k) h none = absurd (none k refl)

-- ---- an SDfile

-- by what blank lines give
by_blanks : (lines : List Line) (reading : Reading Line (Unit {0})) → read_all are_blank lines ≡ reading
    → sdfile_at lines ≡ farther (and_then reading (λ _. Took [])) ((block_part sdfile_part).read lines)
by_blanks lines reading e = sdfile_is lines ∙ ap (λ (r : Reading Line (Unit {0})). let w : Reading Line
    (List RawRecord) = farther (and_then r (λ _. Took [])) ((block_part sdfile_part).read lines) in w) e

-- blank lines alone
pub file_blank : (lines : List Line) → read_all are_blank lines ≡ Took tt [] → sdfile_at lines ≡ Took [] []
file_blank lines e = by_blanks lines (Took tt []) e

module _ (lines : List Line) (at k : ℕ) (stops : StopsAtLine lines false k (read_all are_blank (drop at lines))) where
  -- a last record
  pub file_last : (r : RawRecord) → (block_part sdfile_part).read (drop at lines) ≡ Took (r ∷ []) [] → sdfile_at (drop at lines) ≡ Took (r ∷ []) []
  file_last r took = by_blanks (drop at lines) (Stop false (drop (k - 1) lines)) stops.stop ∙ ap (farther (Stop false (drop (k - 1) lines))) took

  -- what stands behind a block stops behind it
  behind_farther : (next : ℕ) (r : RawRecord) (reading : Reading Line (List RawRecord)) → k ≤ next
      → sdfile_at (drop next lines) ≡ reading → farther (Stop false (drop (k - 1) lines))
      (and_then reading (λ rs. Took (r ∷ rs))) ≡ and_then reading (λ rs. Took (r ∷ rs))
  behind_farther next r (Took rs rest) le e = refl
  behind_farther next r (Stop n rest) le e =
      let text = exact-sdfile.fits (drop next lines) rest n e in
      let test : ltb (length (drop (k - 1) lines)) (length rest) ≡ false =
      le-ltb (length (drop (k - 1) lines)) (length rest)
      (omega (
        arith,
        ap length text.whole,
        length-append text.front rest,
        length-drop next lines,
        length-drop (k - 1) lines,
      )) in
      rw test refl

  -- a block, and an SDfile behind it
  pub file_next : (next : ℕ) (r : RawRecord) → k ≤ next
      → (block_part sdfile_part).read (drop at lines) ≡ and_then (sdfile_at (drop next lines)) (λ rs. Took (r ∷ rs))
      → sdfile_at (drop at lines) ≡ and_then (sdfile_at (drop next lines)) (λ rs. Took (r ∷ rs))
  file_next next r le took = by_blanks (drop at lines) (Stop false (drop (k - 1) lines)) stops.stop
      ∙ ap (farther (Stop false (drop (k - 1) lines))) took
      ∙ behind_farther next r (sdfile_at (drop next lines)) le refl

  -- a block that stops: the farther of the two stops
  bad_file : (j : ℕ) → StopsAtLine lines false j ((block_part sdfile_part).read (drop at lines)) → StopsAtLine lines false (max j k) (sdfile_at (drop at lines))
  bad_file j h =
      let whole = by_blanks (drop at lines) (Stop false (drop (k - 1) lines)) stops.stop ∙ ap (farther (Stop false (drop (k - 1) lines))) h.stop in
      elim (cases_lt j k) [
        | inl near ↦
            let same : k ≡ max j k = omega arith in
            subst (λ (n : ℕ). StopsAtLine lines false n (sdfile_at (drop at lines))) same
            (record {
              counted = stops.counted;
              stop = whole
                  ∙ farther_first lines k j false false stops.counted h.counted near;
            })
        | inr far ↦
            let same : j ≡ max j k = omega arith in
            subst (λ (n : ℕ). StopsAtLine lines false n (sdfile_at (drop at lines))) same
            (record {
              counted = h.counted;
              stop = whole
                  ∙ farther_second lines k j false false stops.counted h.counted far;
            })
      ]

  -- a line that is named in a block is named in the file
  v3000_file : (j : ℕ) → at ≤ length lines → StopsAtLine lines true j ((block_part sdfile_part).read (drop at lines)) → StopsAtLine lines true j (sdfile_at (drop at lines))
  v3000_file j inside h =
      let from = stop_behind (exact-block exact-sdfile_part) at lines j true inside h in
      let due = (named_from_is_due (exact-block exact-sdfile_part) at lines j inside).1 (from, h) in
      let there = ((named_from_is_due (exact-file exact-sdfile_part) at lines j inside).0 (record { from = due.from; named = due.named })).1 in
      record { counted = there.counted; stop = sdfile_is (drop at lines) ∙ there.stop }

  -- so where a block fails, the fault is that of the file
  pub file_fails : (fault : TableFault) → at ≤ length lines → Fails lines fault ((block_part sdfile_part).read (drop at lines)) → Fails lines (farther_fault k fault) (sdfile_at (drop at lines))
  file_fails (Bad j) inside h = bad_file j h
  file_fails (V3000 j) inside h = v3000_file j inside h
  file_fails Memory inside h = tt

-- ---- the answer for a block

-- the molfile ends behind the line where it begins
pub molfile_ahead : (lines : List Line) (at m : ℕ) (t : RawTable) → at ≤ length lines → TakesLines lines m t (molecule_at (drop at lines)) → at < m
molfile_ahead lines at m t inside takes =
    let part = part_found exact-molecule at lines m t inside takes in
    let is = part.part.is in
    let within = part.part.within in
    let from = part.from in
    omega (arith, is.three, ap length is.whole, length-append is.header_lines is.table_lines, length-take-le (m - at) (drop at lines) within)

module _ (text : List ℕ) (at : ℕ) (behind : LineStart) (t : RawTable) (inside : at ≤ length (lines_of text))
    (takes : TakesTo text behind t (molecule_at (drop at (lines_of text)))) (end : LineStart)
    (order : behind.line ≤ end.line) (none : EachIs is_separator false
    (slice_range (lines_of text) behind.line end.line)) where
  -- by whether a separator stands behind the block
  answer_by : (next : Option LineStart) → MatchOption next (end.line ≡ length (lines_of text))
      (IsSeparatorAt text end.line) → AnswersBlock text at
      (Ok (record_of t (slice_range (lines_of text) at end.line), next))
  unfolding sdfile_at
  answer_by None last = block_ends sdfile_part (lines_of text) at behind.line end.line t
      (let lt = molfile_ahead (lines_of text) at behind.line t inside takes.takes in omega arith) order takes.takes none
      last
  answer_by (Some next) at_separator =
      let lines = lines_of text in
      let lt = molfile_ahead lines at behind.line t inside takes.takes in
      let next_is = at_separator.behind in
      record {
        start = at_separator.start;
        ahead = omega arith;
        not_blank = λ k stops. let le = blanks_before lines at behind.line k t inside (omega arith) takes.takes stops in omega arith;
        took = rw next_is (block_next sdfile_part lines at behind.line end.line t (omega arith) order takes.takes none at_separator.there at_separator.separates);
      }

-- what was read is the answer
pub block_answer : (text : List ℕ) (at : ℕ) (behind : LineStart) (t : RawTable) (found : DataEnd) (kept : List ℕ)
    → at ≤ length (lines_of text) → TakesTo text behind t (molecule_at (drop at (lines_of text)))
    → IsDataEnd text behind.line found → kept ≡ kept_lines (slice_range (lines_of text) at found.end.line)
    → AnswersBlock text at (Ok (record { table = t; text = kept }, found.next))
block_answer text at behind t found kept inside takes is same =
    rw same (answer_by text at behind t inside takes found.end is.order is.no_separator found.next is.next)

-- ---- with the records before

module _ (lines : List Line) (front : List RawRecord) (at : ℕ) (so_far : with_front front (sdfile_at (drop at lines)) ≡ sdfile_at lines) where
  -- nothing more
  pub all_read : sdfile_at (drop at lines) ≡ Took [] [] → sdfile_at lines ≡ Took front []
  all_read e = sym so_far ∙ ap (with_front front) e ∙ ap (λ (x : List RawRecord). Took x []) (append-nil front)

  -- one last record
  pub last_read : (r : RawRecord) → sdfile_at (drop at lines) ≡ Took (r ∷ []) [] → sdfile_at lines ≡ Took (front ++ r ∷ []) []
  last_read r e = sym so_far ∙ ap (with_front front) e

  -- one record, and more
  pub next_read : (next : ℕ) (r : RawRecord) → sdfile_at (drop at lines) ≡ and_then (sdfile_at (drop next lines))
      (λ rs. Took (r ∷ rs)) → with_front (front ++ r ∷ []) (sdfile_at (drop next lines)) ≡ sdfile_at lines
  next_read next r e = sym (front_more front r (sdfile_at (drop next lines))) ∙ ap (with_front front) (sym e) ∙ so_far

  -- a fault
  pub fault_read : (fault : TableFault) → Fails lines fault (sdfile_at (drop at lines)) → Fails lines fault (sdfile_at lines)
  fault_read fault h = subst (Fails lines fault) so_far (fails_first lines fault (sdfile_at (drop at lines)) (λ rs. Took (front ++ rs)) h)
