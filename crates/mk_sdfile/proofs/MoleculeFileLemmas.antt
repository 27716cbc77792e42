-- Molfiles of either kind are read exactly.
use Rattle.std.proofs.Common.{◌≡◌, ℕ, ◌+◌, ◌-◌, ◌≤◌, ◌<◌, Bool, true, false, Option, Some, None, List, [], ◌∷◌, ◌++◌, length, drop, refl, sym, ap, subst, ◌∙◌, append_assoc, append-nil, inl, inr, arith}
use Rattle.std.specs.Prelude.{codes, ◌⊎◌}
use Rattle.std.proofs.lemmas.List.{length-append, length-drop, drop-drop, drop_at}
use Rattle.mk_form.specs.Choice.{FirstIs, FirstMayBe, Shows}
use Rattle.mk_form.specs.Exact.{Part, Exact, Anything, Never, NamedAt}
use Rattle.mk_form.specs.Fronts.{IsFront}
use Rattle.mk_form.specs.Reading.{Reading, Took, Stop, and_then, TakesLines, StopsAtLine}
use Rattle.mk_form.specs.Rows.{any_lines, read_any}
use Rattle.mk_form.specs.Sequence.{EndsIn, sequence}
use Rattle.mk_form.proofs.Choice.{exact-choice, first_append, first_of_front}
use Rattle.mk_form.proofs.Fronts.{completes-form, front_is_live, goes_on}
use Rattle.mk_form.proofs.InWords.{exact-in_words}
use Rattle.mk_form.proofs.Readings.{took_both, stopped}
use Rattle.mk_form.proofs.Rows.{exact-any_lines}
use Rattle.mk_form.proofs.Sequence.{exact-sequence}
use Rattle.mk_tables.specs.declared.raw.RawTable.{RawTable}
use Rattle.mk_tables.specs.Molfile.{AreHeaders, molfile_at}
use Rattle.mk_tables.specs.Table.{IsTable}
use Rattle.mk_tables.specs.TableLaws.{table_form}
use Rattle.mk_tables.specs.TableLines.{Line, is_v3000}
use Rattle.mk_tables.specs.TableReading.{table_at}
use Rattle.mk_tables.proofs.ForCallers.{exact-table, exact-molfile, molfile_is}
use Rattle.mk_v3000.specs.V3000Form.{v3000_form}
use Rattle.mk_v3000.specs.V3000Table.{IsV3000Table, EndInside, IsV3000Front}
use Rattle.mk_v3000.proofs.ForCallers.{exact-v3000}
use Rattle.mk_sdfile.specs.MoleculeFile.{IsEitherTable, IsMoleculeFile, EndInTable, IsMoleculeFront, unnamed, quiet, either_table, v3000_molfile, molecule_part, molecule_at, molecule_file}

-- ---- a part of which no line is named

-- a value was read
unnamed_took : {V : Type 0} (r : Reading Line V) (v : V) (rest : List Line) → unnamed r ≡ Took v rest → r ≡ Took v rest
unnamed_took (Took w left) v rest h = h
unnamed_took (Stop n left) v rest h = absurd cc

-- a stop was named or wasn't
unnamed_stop : {V : Type 0} (r : Reading Line V) (n : Bool) (rest : List Line) → unnamed r ≡ Stop n rest → (m : Bool) × (r ≡ Stop m rest) × (n ≡ false)
unnamed_stop (Took w left) n rest h = absurd cc
unnamed_stop (Stop m left) n rest h = (m, cc, cc)

-- it is read exactly where the part is
exact-quiet : {V : Type 0} {Follows : List Line → Type 0} {p : Part Line V} → Exact is_v3000 Follows p → Exact is_v3000 Follows (quiet p)
exact-quiet {p} e = record {
  took = λ lines rest v h. e.took lines rest v (unnamed_took (p.read lines) v rest h);
  again = λ front rest v h f. ap unnamed (e.again front rest v h f);
  fits = λ lines rest n h. e.fits lines rest (unnamed_stop (p.read lines) n rest h).0 (unnamed_stop (p.read lines) n rest h).1;
  none = λ front rest l n h k. e.none front rest l (unnamed_stop (p.read (front ++ l ∷ rest)) n (l ∷ rest) h).0 (unnamed_stop (p.read (front ++ l ∷ rest)) n (l ∷ rest) h).1 k;
  due = λ front rest l d h. absurd d;
  named = λ lines rest h. absurd (let k = (unnamed_stop (p.read lines) true rest h).2 in cc);
  live = e.live;
  shorter = e.shorter;
  ends = e.ends;
}

-- ---- what the first line shows

-- a V3000 table begins with a line that says so
v3000_shows : Shows is_v3000 true v3000_form
v3000_shows = record {
  text = first;
  live = λ lines h. elim h [
    | inl h ↦ first_of_front is_v3000 true lines h.0 (first (lines ++ h.0) h.1 h.2)
    | inr h ↦ subst (FirstMayBe is_v3000 true) (sym h.whole) (first (h.counts_line ∷ ((h.before ++ h.next ∷ []) ++ h.front.0)) h.front.1 h.front.2)
  ];
  due = λ lines d. absurd d;
}
  where
    first : (lines : List Line) (t : RawTable) → IsV3000Table lines t → FirstIs is_v3000 true lines
    first lines t h = subst (FirstIs is_v3000 true) (sym h.whole) h.version

-- a line that says V3000 begins no other table
not_v3000 : (l : Line) (lines : List Line) (t : RawTable) (b : Bool) → is_v3000 l ≡ b → IsTable (l ∷ lines) t → is_v3000 l ≡ false
not_v3000 l lines t false e h = e
not_v3000 l lines t true e h =
    let stop : table_at (l ∷ (lines ++ [])) ≡ Stop true (l ∷ (lines ++ [])) = exact-table.due [] (lines ++ []) l refl e in
    let took : table_at ((l ∷ lines) ++ []) ≡ Took t [] = exact-table.again (l ∷ lines) [] t h tt in
    absurd cc

-- so no other table does
table_first : (lines : List Line) (t : RawTable) → IsTable lines t → FirstIs is_v3000 false lines
table_first [] t h = absurd (let w = h.whole in cc)
table_first (l ∷ lines) t h = not_v3000 l lines t (is_v3000 l) refl h

table_shows : Shows is_v3000 false (quiet table_form)
table_shows = record {
  text = table_first;
  live = λ lines h. first_of_front is_v3000 false lines h.0 (table_first (lines ++ h.0) h.1 h.2);
  due = λ lines d. absurd d;
}

-- ---- a table of either kind

exact-either_table : Exact is_v3000 Anything either_table
exact-either_table = exact-choice exact-v3000 (exact-quiet exact-table) v3000_shows table_shows

exact-molecule_part : Exact is_v3000 Anything molecule_part
exact-molecule_part = exact-sequence (exact-any_lines 3) (λ _. exact-either_table)

-- ---- in the words of the definition

to_molecule : (lines : List Line) (t : RawTable) → molecule_part.is lines t → IsMoleculeFile lines t
to_molecule lines t h = record { header_lines = h.front; table_lines = h.back; whole = h.whole; three = h.first; is = h.second }

from_molecule : (lines : List Line) (t : RawTable) → IsMoleculeFile lines t → molecule_part.is lines t
from_molecule lines t h = record { front = h.header_lines; back = h.table_lines; middle = tt; whole = h.whole; first = h.three; second = h.is }

-- headers, and a front of a table behind them
headers_front : (headers lines : List Line) → length headers ≡ 3 → either_table.live lines → IsMoleculeFront (headers ++ lines)
headers_front headers lines three h = elim h [
  | inl h ↦ elim h [
    | inl h ↦ inl (h.0, h.1, record { header_lines = headers; table_lines = lines ++ h.0; whole = append_assoc headers lines h.0; three = three; is = inl h.2 })
    | inr h ↦ inr (record { header_lines = headers; table_lines = lines; whole = refl; three = three; inside = h })
  ]
  | inr h ↦ inl (h.0, h.1, record { header_lines = headers; table_lines = lines ++ h.0; whole = append_assoc headers lines h.0; three = three; is = inr h.2 })
]

-- no more than three lines
few_front : (lines : List Line) → length lines ≤ 3 → IsMoleculeFront lines
few_front [] few = by_table (exact_start exact-table)
  where
    exact_start : Exact is_v3000 Anything table_form → IsFront IsTable []
    exact_start e = goes_on e

    by_table : IsFront IsTable [] → IsMoleculeFront []
    by_table h = inl ([] ∷ [] ∷ [] ∷ h.0, h.1, record { header_lines = [] ∷ [] ∷ [] ∷ []; table_lines = h.0; whole = refl; three = refl; is = inr h.2 })
few_front (a ∷ []) few = by_table (goes_on exact-table)
  where
    by_table : IsFront IsTable [] → IsMoleculeFront (a ∷ [])
    by_table h = inl ([] ∷ [] ∷ h.0, h.1, record { header_lines = a ∷ [] ∷ [] ∷ []; table_lines = h.0; whole = refl; three = refl; is = inr h.2 })
few_front (a ∷ b ∷ []) few = by_table (goes_on exact-table)
  where
    by_table : IsFront IsTable [] → IsMoleculeFront (a ∷ b ∷ [])
    by_table h = inl ([] ∷ h.0, h.1, record { header_lines = a ∷ b ∷ [] ∷ []; table_lines = h.0; whole = refl; three = refl; is = inr h.2 })
few_front (a ∷ b ∷ c ∷ []) few = by_table (goes_on exact-table)
  where
    by_table : IsFront IsTable [] → IsMoleculeFront (a ∷ b ∷ c ∷ [])
    by_table h = inl (h.0, h.1, record { header_lines = a ∷ b ∷ c ∷ []; table_lines = h.0; whole = refl; three = refl; is = inr h.2 })
few_front (a ∷ b ∷ c ∷ d ∷ lines) few = absurd (omega arith)

to_front : (lines : List Line) → molecule_part.live lines → IsMoleculeFront lines
to_front lines h = elim h [
  | inl h ↦ few_front lines h
  | inr h ↦ subst IsMoleculeFront (sym h.whole) (headers_front h.front h.back h.first h.second)
]

from_front : (lines : List Line) → IsMoleculeFront lines → molecule_part.live lines
from_front lines h = elim h [
  | inl h ↦ front_is_live exact-molecule_part lines (h.0, h.1, from_molecule (lines ++ h.0) h.1 h.2)
  | inr h ↦ inr (record { front = h.header_lines; back = h.table_lines; middle = tt; whole = h.whole; first = h.three; second = inl (inr h.inside) })
]

-- no line of one is named
never : (lines : List Line) → molecule_part.due lines → ⊥
never lines d = elim d [ inl d ↦ d | inr d ↦ elim d.second [ inl d ↦ d | inr d ↦ d ] ]

-- molfiles of either kind are read exactly
pub exact-molecule : Exact is_v3000 Anything molecule_file
unfolding molecule_at
exact-molecule = exact-in_words {p = molecule_part} (record {
  is_to = to_molecule;
  is_from = from_molecule;
  live_to = to_front;
  live_from = from_front;
  due_to = λ lines d. never lines d;
  due_from = λ lines d. absurd d;
  reads = λ lines. refl;
}) exact-molecule_part

-- ---- which of the two tables is read

-- nothing is no table
table_none : table_at [] ≡ Stop false []
unfolding table_at
table_none = refl

-- where the first line doesn't say V3000, a table of the format V2000 is read
other_read : (l : Line) (lines : List Line) → is_v3000 l ≡ false → either_table.read (l ∷ lines) ≡ unnamed (table_at (l ∷ lines))
other_read l lines e = rw e refl

-- and so it doesn't where such a table is read
took_other : (lines rest : List Line) (t : RawTable) → table_at lines ≡ Took t rest → either_table.read lines ≡ Took t rest
took_other [] rest t h = absurd (let both : Stop false [] ≡ Took t rest = sym table_none ∙ h in cc)
took_other (l ∷ lines) rest t h = by_test (is_v3000 l) refl
  where
    by_test : (b : Bool) → is_v3000 l ≡ b → either_table.read (l ∷ lines) ≡ Took t rest
    by_test false e = other_read l lines e ∙ ap unnamed h
    by_test true e = absurd (let stop = exact-table.due [] lines l refl e in let both : Stop true (l ∷ lines) ≡ Took t rest = sym stop ∙ h in cc)

-- nor where the reading stops and names no line
stop_other : (lines rest : List Line) → table_at lines ≡ Stop false rest → either_table.read lines ≡ Stop false rest
stop_other [] rest h = sym table_none ∙ h
stop_other (l ∷ lines) rest h = by_test (is_v3000 l) refl
  where
    by_test : (b : Bool) → is_v3000 l ≡ b → either_table.read (l ∷ lines) ≡ Stop false rest
    by_test false e = other_read l lines e ∙ ap unnamed h
    by_test true e = absurd (let stop = exact-table.due [] lines l refl e in let both : Stop true (l ∷ lines) ≡ Stop false rest = sym stop ∙ h in cc)

-- where it stops and names its first line, a V3000 table begins
v3000_first : (l : Line) (lines : List Line) → is_v3000 l ≡ true → either_table.read (l ∷ lines) ≡ v3000_form.read (l ∷ lines)
v3000_first l lines e = rw e refl

module _ (lines : List Line) (at : ℕ) where
  -- a molfile of the format V2000 was read
  pub molecule_takes : (next : ℕ) (t : RawTable) → TakesLines lines next t (molfile_at (drop at lines)) → TakesLines lines next t (molecule_at (drop at lines))
  unfolding molecule_at
  molecule_takes next t h =
      let both = took_both (read_any 3 (drop at lines)) (λ _. table_form.read) t (drop next lines) (sym (molfile_is (drop at lines)) ∙ h.took) in
      record { within = h.within; took = ap (λ (r : Reading Line (Unit {0})). and_then r (λ _. either_table.read)) both.first ∙ took_other both.left (drop next lines) t both.second }

  -- it stopped, and named no line
  pub molecule_stops : (k : ℕ) → StopsAtLine lines false k (molfile_at (drop at lines)) → StopsAtLine lines false k (molecule_at (drop at lines))
  unfolding molecule_at
  molecule_stops k h =
      let rest = drop (k - 1) lines in
      record {
        counted = h.counted;
        stop = elim (stopped (read_any 3 (drop at lines)) (λ _. table_form.read) false rest (sym (molfile_is (drop at lines)) ∙ h.stop)) [
          | inl first ↦ ap (λ (r : Reading Line (Unit {0})). and_then r (λ _. either_table.read)) first
          | inr later ↦ ap (λ (r : Reading Line (Unit {0})). and_then r (λ _. either_table.read)) later.first ∙ stop_other later.left rest later.second
        ];
      }

  module _ (k : ℕ) (h : StopsAtLine lines true k (molfile_at (drop at lines))) where
    -- the line that it named
    named : NamedAt is_v3000 AreHeaders (drop at lines) (drop (k - 1) lines)
    named = exact-molfile.named (drop at lines) (drop (k - 1) lines) h.stop

    -- behind three header lines a V3000 table is read
    pub v3000_same : v3000_molfile.read (drop at lines) ≡ molecule_at (drop at lines)
    unfolding molecule_at
    v3000_same =
        let rest = drop (k - 1) lines in
        let headers : read_any 3 (drop at lines) ≡ Took tt rest = ap (read_any 3) named.whole ∙ (exact-any_lines {says = is_v3000} 3).again named.front rest tt named.due tt in
        let first : either_table.read rest ≡ v3000_form.read rest = ap either_table.read named.rest_is ∙ v3000_first named.line named.behind named.says_so ∙ ap v3000_form.read (sym named.rest_is) in
        ap (λ (r : Reading Line (Unit {0})). and_then r (λ _. v3000_form.read)) headers ∙ sym first ∙ sym (ap (λ (r : Reading Line (Unit {0})). and_then r (λ _. either_table.read)) headers)
