-- What an answer that was computed says of any form that is read exactly, and how the faults of its parts become its own.
use Rattle.std.proofs.Common.{◌≡◌, ℕ, ◌≤◌, ◌<◌, Bool, true, false, Result, Ok, Err, List, length, get_or, drop, refl, sym, subst, ◌∙◌}
use Rattle.std.specs.Prelude.{IfOk}
use Rattle.mk_form.specs.Exact.{Part, Exact, Anything, NoLines}
use Rattle.mk_form.specs.Choice.{Shows}
use Rattle.mk_form.specs.Fronts.{IsBadLineWhere, IsNamed, IsPartFrom, IsBadLineFromWhere, IsNamedFrom}
use Rattle.mk_form.specs.Reading.{Reading, and_then, TakesLines}
use Rattle.mk_form.specs.Rows.{rows}
use Rattle.mk_form.specs.Sequence.{sequence}
use Rattle.mk_form.specs.Until.{until}
use Rattle.mk_form.proofs.ByIndex.{stops_first, takes_first}
use Rattle.mk_form.proofs.RowLoops.{RowsLeft, rows_left_stop}
use Rattle.mk_form.proofs.Stops.{text_is_taken, bad_line_is_stop, stop_is_named, part_found, bad_line_found, stop_behind, stop_from_is_named}
use Rattle.mk_form.proofs.UntilLoops.{UntilLeft, until_left_stop, until_left_end_stop}
use Rattle.mk_tables.specs.declared.fault.TableFault.{TableFault}
use Rattle.mk_tables.specs.declared.fault.TableFault.TheVariants.{Bad, V3000, Memory}
use Rattle.mk_tables.specs.TableFaults.{IfBad, IfV3000}
use Rattle.mk_tables.specs.TableLines.{Line, is_v3000}
use Rattle.mk_tables.specs.TableReading.{Fails, Answers, AnswersText}

-- ---- an answer for all lines

module _ {V : Type 0} {p : Part Line V} (e : Exact is_v3000 NoLines p) (lines : List Line) where
  -- what was read is a text of the form
  pub text_by : (answer : Result V TableFault) → AnswersText lines answer (p.read lines) → IfOk answer (p.is lines)
  text_by (Ok v) h = (text_is_taken e lines v).1 h
  text_by (Err fault) h = tt

  -- a bad line is one
  pub bad_by : (answer : Result V TableFault) → AnswersText lines answer (p.read lines) → IfBad answer (IsBadLineWhere p.live p.is lines)
  bad_by (Ok v) h = tt
  bad_by (Err (Bad k)) h = (bad_line_is_stop e lines k).1 (false, h)
  bad_by (Err (V3000 k)) h = tt
  bad_by (Err Memory) h = tt

  -- which isn't named
  pub unnamed_by : (answer : Result V TableFault) → AnswersText lines answer (p.read lines) → IfBad answer (λ k. ¬ (IsNamed p.due is_v3000 lines k))
  unnamed_by (Ok v) h = tt
  unnamed_by (Err (Bad k)) h = λ named. let i = (stop_is_named e lines k false h).1 named in cc
  unnamed_by (Err (V3000 k)) h = tt
  unnamed_by (Err Memory) h = tt

  -- a line that is named is bad
  pub v3000_by : (answer : Result V TableFault) → AnswersText lines answer (p.read lines) → IfV3000 answer (IsBadLineWhere p.live p.is lines)
  v3000_by (Ok v) h = tt
  v3000_by (Err (Bad k)) h = tt
  v3000_by (Err (V3000 k)) h = (bad_line_is_stop e lines k).1 (true, h)
  v3000_by (Err Memory) h = tt

  -- and says V3000 where a counts line is due
  pub named_by : (answer : Result V TableFault) → AnswersText lines answer (p.read lines) → IfV3000 answer (IsNamed p.due is_v3000 lines)
  named_by (Ok v) h = tt
  named_by (Err (Bad k)) h = tt
  named_by (Err (V3000 k)) h = (stop_is_named e lines k true h).0 refl
  named_by (Err Memory) h = tt

-- ---- an answer for the lines behind the first ones

module _ {V : Type 0} {p : Part Line V} (e : Exact is_v3000 Anything p) (lines : List Line) (at : ℕ) (inside : at ≤ length lines) where
  -- what was read is a text of the form
  pub part_by : (answer : Result (V × ℕ) TableFault) → Answers lines answer (p.read (drop at lines)) → IfOk answer (λ r. IsPartFrom p.is at lines r.1 r.0)
  part_by (Ok r) h = part_found e at lines r.1 r.0 inside h
  part_by (Err fault) h = tt

  -- a bad line is one
  pub bad_from_by : (answer : Result (V × ℕ) TableFault) → Answers lines answer (p.read (drop at lines)) → IfBad answer (IsBadLineFromWhere p.live p.is at lines)
  bad_from_by (Ok r) h = tt
  bad_from_by (Err (Bad k)) h = bad_line_found e at lines k false inside h
  bad_from_by (Err (V3000 k)) h = tt
  bad_from_by (Err Memory) h = tt

  -- which isn't named
  pub unnamed_from_by : (answer : Result (V × ℕ) TableFault) → Answers lines answer (p.read (drop at lines)) → IfBad answer (λ k. ¬ (IsNamedFrom p.due is_v3000 at lines k))
  unnamed_from_by (Ok r) h = tt
  unnamed_from_by (Err (Bad k)) h = λ named. let i = (stop_from_is_named e at lines k false inside (stop_behind e at lines k false inside h) h).1 named in cc
  unnamed_from_by (Err (V3000 k)) h = tt
  unnamed_from_by (Err Memory) h = tt

  -- a line that is named is bad
  pub v3000_from_by : (answer : Result (V × ℕ) TableFault) → Answers lines answer (p.read (drop at lines)) → IfV3000 answer (IsBadLineFromWhere p.live p.is at lines)
  v3000_from_by (Ok r) h = tt
  v3000_from_by (Err (Bad k)) h = tt
  v3000_from_by (Err (V3000 k)) h = bad_line_found e at lines k true inside h
  v3000_from_by (Err Memory) h = tt

  -- and says V3000 where a counts line is due
  pub named_from_by : (answer : Result (V × ℕ) TableFault) → Answers lines answer (p.read (drop at lines)) → IfV3000 answer (IsNamedFrom p.due is_v3000 at lines)
  named_from_by (Ok r) h = tt
  named_from_by (Err (Bad k)) h = tt
  named_from_by (Err (V3000 k)) h = (stop_from_is_named e at lines k true inside (stop_behind e at lines k true inside h) h).0 refl
  named_from_by (Err Memory) h = tt

-- ---- a fault of a part

-- where the first of two parts fails, both do
pub fails_first : {X V : Type 0} (lines : List Line) (fault : TableFault) (reading : Reading Line X)
    (f : X → List Line → Reading Line V) → Fails lines fault reading → Fails lines fault (and_then reading f)
fails_first lines (Bad k) reading f h = stops_first lines false k reading f h
fails_first lines (V3000 k) reading f h = stops_first lines true k reading f h
fails_first lines Memory reading f h = tt

-- where the first takes lines, both fail where the second does
pub fails_second : {X V : Type 0} (lines : List Line) (fault : TableFault) (count : ℕ) (x : X)
    (reading : Reading Line X) (f : X → List Line → Reading Line V) → TakesLines lines count x reading
    → Fails lines fault (f x (drop count lines)) → Fails lines fault (and_then reading f)
fails_second lines fault count x reading f takes h = subst (Fails lines fault) (sym (takes_first lines count x reading f takes)) h

-- where a row fails, the rows do
pub rows_fail : {X : Type 0} (p : Part Line X) (lines : List Line) (from count : ℕ) (front : List X) (i at : ℕ)
    (fault : TableFault) → i < count → RowsLeft p lines from count front i at
    → Fails lines fault (p.read (drop at lines)) → Fails lines fault ((rows count p).read (drop from lines))
rows_fail p lines from count front i at (Bad k) lt left h = rows_left_stop p lines from count front i at k false lt left h
rows_fail p lines from count front i at (V3000 k) lt left h = rows_left_stop p lines from count front i at k true lt left h
rows_fail p lines from count front i at Memory lt left h = tt

module _ {X U : Type 0} {says : Line → Bool} {Follows : List Line → Type 0} {b : Line → Bool} {p : Part Line X}
    {q : Part Line U} (e : Exact says Anything p) (f : Exact says Follows q) (s : Shows b false p) (t : Shows b true q)
    (lines : List Line) (from : ℕ) where
  -- where a part before an end fails, the parts do
  pub until_fails : (front : List X) (at : ℕ) (d : Line) (fault : TableFault) → at < length lines
      → b (get_or lines at d) ≡ false → UntilLeft b p q lines from front at → Fails lines fault (p.read (drop at lines))
      → Fails lines fault ((until b p q).read (drop from lines))
  until_fails front at d (Bad k) lt goes left h = until_left_stop e f s t lines from front at k d false lt goes left h
  until_fails front at d (V3000 k) lt goes left h = until_left_stop e f s t lines from front at k d true lt goes left h
  until_fails front at d Memory lt goes left h = tt

  -- and where the end fails, they do
  pub until_end_fails : (front : List X) (at : ℕ) (d : Line) (fault : TableFault) → at < length lines
      → b (get_or lines at d) ≡ true → UntilLeft b p q lines from front at → Fails lines fault (q.read (drop at lines))
      → Fails lines fault ((until b p q).read (drop from lines))
  until_end_fails front at d (Bad k) lt ends left h = until_left_end_stop e f s t lines from front at k d false lt ends left h
  until_end_fails front at d (V3000 k) lt ends left h = until_left_end_stop e f s t lines from front at k d true lt ends left h
  until_end_fails front at d Memory lt ends left h = tt

-- ---- a form of several parts, read part by part, where `whole` is what is to be read in all

module _ {X V : Type 0} (p : Part Line X) (q : X → Part Line V) (lines : List Line) (at : ℕ) {whole : Reading Line V} (left : whole ≡ (sequence p q).read (drop at lines)) where
  -- where the first of them is read, what stands behind it is left
  pub block_read : (next : ℕ) (x : X) → TakesLines lines next x (p.read (drop at lines)) → whole ≡ (q x).read (drop next lines)
  block_read next x takes = left ∙ takes_first lines next x (p.read (drop at lines)) (λ y. (q y).read) takes

  -- where it fails, the form does
  pub block_fails : (fault : TableFault) → Fails lines fault (p.read (drop at lines)) → Fails lines fault whole
  block_fails fault h = subst (Fails lines fault) (sym left) (fails_first lines fault (p.read (drop at lines)) (λ y. (q y).read) h)
