-- SDfiles are read exactly, and so the laws of forms hold of them.
use Rattle.std.proofs.Common.{◌≡◌, ℕ, zero, suc, ◌≤◌, ◌<◌, true, false, Option, Some, None, List, [], ◌∷◌, ◌++◌, length, refl, sym, ap, subst, ◌∙◌, append_assoc, append-nil, inl, inr, arith}
use Rattle.std.specs.Prelude.{MatchOption, option_to_list}
use Rattle.std.proofs.lemmas.List.{length-append}
use Rattle.mk_form.specs.Either.{farther}
use Rattle.mk_form.specs.Exact.{Part, Exact, Never, NeverDue, NoLines}
use Rattle.mk_form.specs.Fronts.{IsFront}
use Rattle.mk_form.specs.Limit.{IsBelow, Grows, IsLimit}
use Rattle.mk_form.specs.Reading.{Reading, Took, and_then}
use Rattle.mk_form.specs.Rows.{Series}
use Rattle.mk_form.specs.Seen.{with_lines}
use Rattle.mk_form.specs.ToEnd.{EachIs, UpTo, read_up_to}
use Rattle.mk_form.proofs.Below.{below-sequence, below-seen_as, below-up_to, below-either, below-first}
use Rattle.mk_form.proofs.Either.{exact-either}
use Rattle.mk_form.proofs.Fronts.{front_is_live}
use Rattle.mk_form.proofs.InWords.{exact-in_words}
use Rattle.mk_form.proofs.Limit.{exact-limit, limit_of_steps}
use Rattle.mk_form.proofs.NeverDue.{never-lines_to_end, never-seen_as}
use Rattle.mk_form.proofs.Readings.{same_behind}
use Rattle.mk_form.proofs.Seen.{exact-seen_as, exact-with_lines}
use Rattle.mk_form.proofs.Sequence.{exact-sequence}
use Rattle.mk_form.proofs.Stops.{one_value, bad_is_no_text, one_bad_line}
use Rattle.mk_form.proofs.ToEnd.{each-at, exact-lines_to_end}
use Rattle.mk_form.proofs.UpTo.{exact-up_to, same_up_to}
use Rattle.mk_text.specs.Columns.{are_blank}
use Rattle.mk_text.specs.KeptLines.{kept_lines}
use Rattle.mk_tables.specs.declared.raw.RawTable.{RawTable}
use Rattle.mk_tables.specs.Table.{IsTable}
use Rattle.mk_tables.specs.TableLines.{Line, is_v3000}
use Rattle.mk_tables.proofs.ForCallers.{blank_is_no_counts_line}
use Rattle.mk_v3000.specs.V3000Table.{IsV3000Table}
use Rattle.mk_sdfile.specs.declared.raw_record.RawRecord.{RawRecord}
use Rattle.mk_sdfile.specs.MoleculeFile.{IsMoleculeFile, EndInTable, IsMoleculeFront, molecule_file}
use Rattle.mk_sdfile.specs.Sdfile.{is_separator, IsRecord, IsRecordBlock, IsSdfile, EndsInsideLine, IsSdfileFront, HasOneValue, HasBadLine, HasOneBadLine}
use Rattle.mk_sdfile.proofs.MoleculeFileLemmas.{exact-molecule}
use Rattle.mk_sdfile.specs.SdfileReading.{blanks_part, record_of, records_of, after_molfile, block_part, file_part, steps, sdfile_part, sdfile_at}

-- ---- a molfile isn't blank

-- a table isn't, whatever stands before and behind it
table_not_blank : (headers lines more : List Line) (t : RawTable) → IsTable lines t → EachIs are_blank true (headers ++ (lines ++ more)) → ⊥
table_not_blank headers lines more t table blank =
    let others = table.atom_lines ++ (table.bond_lines ++ (table.list_lines ++ (table.stext_lines ++ (table.property_lines ++ table.last_line ∷ [])))) in
    let whole : headers ++ (lines ++ more) ≡ headers ++ table.counts_line ∷ (others ++ more) = ap (λ (x : List Line). headers ++ (x ++ more)) table.whole in
    let none = (blank_is_no_counts_line table.counts_line (each-at are_blank true headers (others ++ more) table.counts_line (subst (EachIs are_blank true) whole blank))).0 in
    let some = table.counted in
    cc

-- nor is a V3000 table
v3000_not_blank : (headers lines more : List Line) (t : RawTable) → IsV3000Table lines t → EachIs are_blank true (headers ++ (lines ++ more)) → ⊥
v3000_not_blank headers lines more t table blank =
    let others = table.logical_lines ++ table.last_line ∷ [] in
    let whole : headers ++ (lines ++ more) ≡ headers ++ table.counts_line ∷ (others ++ more) = ap (λ (x : List Line). headers ++ (x ++ more)) table.whole in
    (blank_is_no_counts_line table.counts_line (each-at are_blank true headers (others ++ more) table.counts_line (subst (EachIs are_blank true) whole blank))).1 table.version

-- its counts line isn't, whatever stands behind the molfile
pub not_blank : (lines more : List Line) (t : RawTable) → IsMoleculeFile lines t → EachIs are_blank true (lines ++ more) → ⊥
not_blank lines more t h blank =
    let whole : lines ++ more ≡ h.header_lines ++ (h.table_lines ++ more) = ap (λ (x : List Line). x ++ more) h.whole ∙ append_assoc h.header_lines h.table_lines more in
    let all = subst (EachIs are_blank true) whole blank in
    elim h.is [
      | inl is ↦ v3000_not_blank h.header_lines h.table_lines more t is all
      | inr is ↦ table_not_blank h.header_lines h.table_lines more t is all
    ]

-- ---- the parts, in the order of the definition

-- blank lines are read exactly
exact-blanks : Exact is_v3000 NoLines blanks_part
exact-blanks = exact-seen_as (λ _. []) (exact-lines_to_end are_blank)

-- no line is named among them
never-blanks : NeverDue blanks_part
never-blanks = never-seen_as (λ _. []) (never-lines_to_end are_blank)

-- so is a block with what stands behind it
pub exact-block : {behind : Part Line (List RawRecord)} → Exact is_v3000 NoLines behind → Exact is_v3000 NoLines (block_part behind)
exact-block e = exact-sequence (exact-with_lines exact-molecule) (λ m. exact-seen_as (records_of m) (exact-up_to is_separator e))

-- no lines are both
apart : (behind : Part Line (List RawRecord)) (lines : List Line) (a b : List RawRecord) → blanks_part.is lines a → (block_part behind).is lines b → ⊥
apart behind lines a b blank block = not_blank block.front block.back block.middle.0 block.first.is (subst (EachIs are_blank true) block.whole blank.is)

-- a line that says V3000 isn't blank
unnamed : (front : List Line) (l : Line) → blanks_part.live (front ++ l ∷ []) → is_v3000 l ≡ true → ⊥
unnamed front l live says = (blank_is_no_counts_line l (each-at are_blank true front [] l live)).1 says

-- and so are blank lines, or a block with what stands behind it
pub exact-file : {behind : Part Line (List RawRecord)} → Exact is_v3000 NoLines behind → Exact is_v3000 NoLines (file_part behind)
exact-file {behind} e = exact-either exact-blanks (exact-block e) never-blanks (apart behind) unnamed

-- each step is read exactly
exact-steps : (n : ℕ) → Exact is_v3000 NoLines (steps n)
exact-steps zero = exact-blanks
exact-steps (suc n) = exact-file (exact-steps n)

-- ---- the steps grow

-- each is below the next
below-next : (n : ℕ) → IsBelow (steps n) (steps (suc n))
below-next zero = below-first (block_part blanks_part) never-blanks
below-next (suc n) = below-either blanks_part (below-sequence (with_lines molecule_file) (λ m. below-seen_as (records_of m) (below-up_to is_separator (below-next n))))

-- what stands behind a block is shorter, so that two readers of it which agree on shorter lines are one
pub same_block : (p q : Part Line (List RawRecord)) (lines : List Line)
    → ((rest : List Line) → length rest < length lines → p.read rest ≡ q.read rest)
    → (block_part p).read lines ≡ (block_part q).read lines
same_block p q lines same = same_behind ((with_lines molecule_file).read lines) (λ m. (after_molfile p m).read) (λ m. (after_molfile q m).read) (λ m rest took.
    let text = (exact-with_lines exact-molecule).took lines rest m took in
    let same_data : read_up_to is_separator p.read rest ≡ read_up_to is_separator q.read rest =
    same_up_to is_separator p.read q.read rest (λ left lt. same left
    (omega (arith, lt, ap length text.whole, length-append text.front rest))) in
    ap (λ (x : Reading Line (List Line × Option (List RawRecord))). and_then x (λ d. Took (records_of m d))) same_data)

-- as many steps as there are lines read alike
reads-next : (n : ℕ) (lines : List Line) → length lines ≤ n → (steps (suc n)).read lines ≡ (steps n).read lines
reads-next zero [] few = refl
reads-next zero (l ∷ lines) few = absurd (omega arith)
reads-next (suc n) lines few = ap (farther (blanks_part.read lines)) (same_block (steps (suc n)) (steps n) lines (λ rest lt. reads-next n rest (omega arith)))

grows : Grows steps
grows = record { more = below-next; reads = reads-next }

-- so SDfiles are what they come to
steps-limit : IsLimit steps sdfile_part
steps-limit = limit_of_steps grows

-- and are read exactly
pub exact-sdfile_part : Exact is_v3000 NoLines sdfile_part
exact-sdfile_part = exact-limit exact-steps steps-limit

-- reading one is reading blank lines, or a block and then an SDfile
pub sdfile_is : (lines : List Line) → sdfile_at lines ≡ (file_part sdfile_part).read lines
unfolding sdfile_at
sdfile_is [] = refl
sdfile_is (l ∷ lines) =
    ap (farther (blanks_part.read (l ∷ lines))) (same_block (steps (length lines)) sdfile_part (l ∷ lines)
    (λ rest lt. let few : length rest < suc (length lines) = lt
    in steps-limit.reads (length lines) rest (omega arith)))

-- ---- in the words of the definition

-- a molfile and the data lines behind it are a record
record_is : (lines front taken data_lines : List Line) (t : RawTable) → lines ≡ front ++ data_lines
    → IsMoleculeFile front t → taken ≡ front → EachIs is_separator false data_lines
    → IsRecord lines (record_of t (taken ++ data_lines))
record_is lines front taken data_lines t whole is same none =
    record { molfile_lines = front; data_lines = data_lines; whole = whole; molfile = is; no_separator = none; text = ap kept_lines (ap (λ (x : List Line). x ++ data_lines) same ∙ sym whole) }

-- blank lines are an SDfile
blanks_are : (lines : List Line) (records : List RawRecord) → EachIs are_blank true lines → records ≡ [] → IsSdfile lines records
blanks_are lines records blank none = record { blocks = []; block_lines = []; last = None; last_lines = lines; whole = refl; each = refl; ended = blank; all = none }

-- one more block in front of an SDfile
one_more : (lines record_lines back : List Line) (separator : Line) (r : RawRecord) (records : List RawRecord)
    → lines ≡ record_lines ++ separator ∷ back → is_separator separator ≡ true → IsRecord record_lines r
    → IsSdfile back records → IsSdfile lines (r ∷ records)
one_more lines record_lines back separator r records whole separates is h =
    let block = record_lines ++ separator ∷ [] in
    let regrouped : lines ≡ block ++ back = whole ∙ sym (append_assoc record_lines (separator ∷ []) back) in
    record {
      blocks = r ∷ h.blocks;
      block_lines = block ++ h.block_lines;
      last = h.last;
      last_lines = h.last_lines;
      whole = regrouped ∙ ap (λ (x : List Line). block ++ x) h.whole ∙ sym (append_assoc block h.block_lines h.last_lines);
      each = (block, h.block_lines, refl, record { record_lines = record_lines; separator = separator; whole = refl; is = is; separates = separates }, h.each);
      ended = h.ended;
      all = ap (λ (x : List RawRecord). r ∷ x) h.all;
    }

-- what a block and the lines behind it make up, by how its data lines end
block_is : (behind : Part Line (List RawRecord)) (lines front back taken : List Line) (t : RawTable)
    (data_lines : List Line) (o : Option (List RawRecord)) (records : List RawRecord) → lines ≡ front ++ back
    → IsMoleculeFile front t → taken ≡ front
    → UpTo is_separator behind.is back (data_lines, o) →
    ((ls : List Line) (rs : List RawRecord) → behind.is ls rs → IsSdfile ls rs)
    → records ≡ records_of (t, taken) (data_lines, o) → IsSdfile lines records
block_is behind lines front back taken t data_lines None records whole is same d on seen =
    let all : lines ≡ front ++ data_lines = whole ∙ ap (λ (x : List Line). front ++ x) d.rest in
    record {
      blocks = [];
      block_lines = [];
      last = Some (record_of t (taken ++ data_lines));
      last_lines = lines;
      whole = refl;
      each = refl;
      ended = record_is lines front taken data_lines t all is same d.none;
      all = seen;
    }
block_is behind lines front back taken t data_lines (Some others) records whole is same d on seen =
    let s = d.rest in
    let all : lines ≡ (front ++ data_lines) ++ s.separator ∷ s.back = whole ∙ ap (λ (x : List Line). front ++ x) s.whole ∙ sym (append_assoc front data_lines (s.separator ∷ s.back)) in
    subst (IsSdfile lines) (sym seen) (one_more lines (front ++ data_lines) s.back s.separator
    (record_of t (taken ++ data_lines)) others all s.separates
    (record_is (front ++ data_lines) front taken data_lines t refl is same d.none) (on s.back others s.after))

-- what the parts make up is an SDfile
to_words : (n : ℕ) (lines : List Line) (records : List RawRecord) → (steps n).is lines records → IsSdfile lines records
to_words zero lines records h = blanks_are lines records h.is h.seen
to_words (suc n) lines records h = elim h [
  | inl h ↦ blanks_are lines records h.is h.seen
  | inr h ↦
      let data_lines = h.second in
      block_is (steps n) lines h.front h.back h.middle.1 h.middle.0 data_lines.first.0 data_lines.first.1 records h.whole h.first.is h.first.lines_are data_lines.is (to_words n) data_lines.seen
]

-- a record is that of its table and lines
record_same : (r : RawRecord) (lines : List Line) → r.text ≡ kept_lines lines → r ≡ record_of r.table lines
record_same r lines same = ap (λ (x : List ℕ). let w : RawRecord = record { table = r.table; text = x } in w) same

-- a record without its separator is made up of the parts
last_is : (lines : List Line) (r : RawRecord) → IsRecord lines r → (steps 1).is lines (r ∷ [])
last_is lines r h = inr (record {
  front = h.molfile_lines;
  back = h.data_lines;
  middle = (r.table, h.molfile_lines);
  whole = h.whole;
  first = record { is = h.molfile; lines_are = refl };
  second = record {
    first = (h.data_lines, None);
    is = record { none = h.no_separator; rest = refl };
    seen = ap (λ (x : RawRecord). x ∷ []) (record_same r (h.molfile_lines ++ h.data_lines)
        (h.text ∙ ap kept_lines h.whole));
  };
})

-- and so is a block with what stands behind it
next_is : (n : ℕ) (lines block_lines back : List Line) (r : RawRecord) (records : List RawRecord)
    → lines ≡ block_lines ++ back → IsRecordBlock block_lines r → (steps n).is back records
    → (steps (suc n)).is lines (r ∷ records)
next_is n lines block_lines back r records whole block h =
    let is = block.is in
    let one : lines ≡ block.record_lines ++ block.separator ∷ back = whole ∙ ap (λ (x : List Line). x ++ back) block.whole ∙ append_assoc block.record_lines (block.separator ∷ []) back in
    let two : lines ≡ is.molfile_lines ++ (is.data_lines ++ block.separator ∷ back) = one
    ∙ ap (λ (x : List Line). x ++ block.separator ∷ back) is.whole
    ∙ append_assoc is.molfile_lines is.data_lines (block.separator ∷ back) in
    inr (record {
      front = is.molfile_lines;
      back = is.data_lines ++ block.separator ∷ back;
      middle = (r.table, is.molfile_lines);
      whole = two;
      first = record { is = is.molfile; lines_are = refl };
      second = record {
        first = (is.data_lines, Some records);
        is = record { none = is.no_separator; rest = record { separator = block.separator; back = back; whole = refl; separates = block.separates; after = h } };
        seen = ap (λ (x : RawRecord). x ∷ records) (record_same r (is.molfile_lines ++ is.data_lines) (is.text ∙ ap kept_lines is.whole));
      };
    })

-- the lines behind the blocks, by what they are
end_is : (last : Option RawRecord) (lines : List Line) → MatchOption last (EachIs are_blank true lines) (IsRecord lines) → (n : ℕ) × (steps n).is lines (option_to_list last)
end_is None lines ended = (0, record { first = tt; is = ended; seen = refl })
end_is (Some r) lines ended = (1, last_is lines r ended)

-- with the blocks before them
from_blocks : (blocks : List RawRecord) (lines block_lines last_lines : List Line) (last : Option RawRecord)
    → lines ≡ block_lines ++ last_lines → Series IsRecordBlock block_lines blocks
    → MatchOption last (EachIs are_blank true last_lines) (IsRecord last_lines)
    → (n : ℕ) × (steps n).is lines (blocks ++ option_to_list last)
from_blocks [] lines block_lines last_lines last whole each ended =
    let all : last_lines ≡ lines = sym (whole ∙ ap (λ (x : List Line). x ++ last_lines) each) in
    let end = end_is last last_lines ended in
    (end.0, subst (λ (x : List Line). (steps end.0).is x (option_to_list last)) all end.1)
from_blocks (b ∷ bs) lines block_lines last_lines last whole each ended =
    let back = each.1 ++ last_lines in
    let all : lines ≡ each.0 ++ back = whole ∙ ap (λ (x : List Line). x ++ last_lines) each.2 ∙ append_assoc each.0 each.1 last_lines in
    let others = from_blocks bs back each.1 last_lines last refl each.4 ended in
    (suc others.0, next_is others.0 lines each.0 back b (bs ++ option_to_list last) all each.3 others.1)

-- an SDfile is made up of the parts
from_words : (lines : List Line) (records : List RawRecord) → IsSdfile lines records → sdfile_part.is lines records
from_words lines records h =
    let parts = from_blocks h.blocks lines h.block_lines h.last_lines h.last h.whole h.each h.ended in
    (parts.0, subst ((steps parts.0).is lines) (sym h.all) parts.1)

-- ---- what is live is a front

-- a block in front of lines that end inside a logical line
block_inside : (block back : List Line) (r : RawRecord) → IsRecordBlock block r → EndsInsideLine back → EndsInsideLine (block ++ back)
block_inside block back r is h = record {
  blocks = r ∷ h.blocks;
  block_lines = block ++ h.block_lines;
  header_lines = h.header_lines;
  table_lines = h.table_lines;
  whole = ap (λ (x : List Line). block ++ x) h.whole ∙ sym (append_assoc block h.block_lines (h.header_lines ++ h.table_lines));
  each = (block, h.block_lines, refl, is, h.each);
  three = h.three;
  inside = h.inside;
}

-- a molfile's front is one
molfile_front : (lines : List Line) → IsMoleculeFront lines → IsSdfileFront lines
molfile_front lines h = elim h [
  | inl h ↦
      let r = record_of h.1 ((lines ++ h.0) ++ []) in
      inl (
        h.0,
        r ∷ [],
        record {
          blocks = [];
          block_lines = [];
          last = Some r;
          last_lines = lines ++ h.0;
          whole = refl;
          each = refl;
          ended = record_is (lines ++ h.0) (lines ++ h.0) (lines ++ h.0) [] h.1
              (sym (append-nil (lines ++ h.0))) h.2 refl tt;
          all = refl;
        },
      )
  | inr h ↦ inr (record { blocks = []; block_lines = []; header_lines = h.header_lines; table_lines = h.table_lines; whole = h.whole; each = refl; three = h.three; inside = h.inside })
]

-- a block in front of a front
block_front : (lines record_lines back : List Line) (separator : Line) (r : RawRecord)
    → lines ≡ record_lines ++ separator ∷ back → is_separator separator ≡ true → IsRecord record_lines r
    → IsSdfileFront back → IsSdfileFront lines
block_front lines record_lines back separator r whole separates is h = elim h [
  | inl h ↦
      let all : lines ++ h.0 ≡ record_lines ++ separator ∷ (back ++ h.0) = ap (λ (x : List Line). x ++ h.0) whole ∙ append_assoc record_lines (separator ∷ back) h.0 in
      inl (h.0, r ∷ h.1, one_more (lines ++ h.0) record_lines (back ++ h.0) separator r h.1 all separates is h.2)
  | inr h ↦
      let block = record_lines ++ separator ∷ [] in
      let all : block ++ back ≡ lines = append_assoc record_lines (separator ∷ []) back ∙ sym whole in
      inr (subst EndsInsideLine all (block_inside block back r (record { record_lines = record_lines; separator = separator; whole = refl; is = is; separates = separates }) h))
]

-- blank lines are one
blanks_front : (lines : List Line) → EachIs are_blank true lines → IsSdfileFront lines
blanks_front lines h = inl ([], [], blanks_are (lines ++ []) [] (subst (EachIs are_blank true) (sym (append-nil lines)) h) refl)

to_front : (n : ℕ) (lines : List Line) → (steps n).live lines → IsSdfileFront lines
to_front zero lines h = blanks_front lines h
to_front (suc n) lines h = elim h [
  | inl h ↦ blanks_front lines h
  | inr h ↦ elim h [
    | inl h ↦ molfile_front lines h
    | inr h ↦ elim h.second [
      | inl none ↦
          let r = record_of h.middle.0 (h.middle.1 ++ h.back) in
          inl (
            [],
            r ∷ [],
            subst (λ (x : List Line). IsSdfile x (r ∷ [])) (sym (append-nil lines))
                (record {
                  blocks = [];
                  block_lines = [];
                  last = Some r;
                  last_lines = lines;
                  whole = refl;
                  each = refl;
                  ended = record_is lines h.front h.middle.1 h.back h.middle.0 h.whole h.first.is h.first.lines_are none;
                  all = refl;
                }),
          )
      | inr s ↦
          let record_lines = h.front ++ s.before in
          let all : lines ≡ record_lines ++ s.separator ∷ s.back = h.whole ∙ ap (λ (x : List Line). h.front ++ x) s.whole ∙ sym (append_assoc h.front s.before (s.separator ∷ s.back)) in
          block_front lines record_lines s.back s.separator (record_of h.middle.0 (h.middle.1 ++ s.before)) all
          s.separates (record_is record_lines h.front h.middle.1 s.before h.middle.0 refl h.first.is
          h.first.lines_are s.none) (to_front n s.back s.here)
    ]
  ]
]

-- ---- a front is live

-- behind some blocks and three header lines
inside_from : (blocks : List RawRecord) (lines block_lines behind : List Line) → lines ≡ block_lines ++ behind
    → Series IsRecordBlock block_lines blocks → EndInTable behind → (n : ℕ) × (steps n).live lines
inside_from [] lines block_lines behind whole each end =
    let all : behind ≡ lines = sym (whole ∙ ap (λ (x : List Line). x ++ behind) each) in
    (1, subst (steps 1).live all (inr (inl (inr end))))
inside_from (b ∷ bs) lines block_lines behind whole each end =
    let block = each.3 in
    let is = block.is in
    let back = each.1 ++ behind in
    let one : lines ≡ each.0 ++ back = whole ∙ ap (λ (x : List Line). x ++ behind) each.2 ∙ append_assoc each.0 each.1 behind in
    let two : lines ≡ block.record_lines ++ block.separator ∷ back = one ∙ ap (λ (x : List Line). x ++ back) block.whole ∙ append_assoc block.record_lines (block.separator ∷ []) back in
    let all : lines ≡ is.molfile_lines ++ (is.data_lines ++ block.separator ∷ back) = two
    ∙ ap (λ (x : List Line). x ++ block.separator ∷ back) is.whole
    ∙ append_assoc is.molfile_lines is.data_lines (block.separator ∷ back) in
    let others = inside_from bs back each.1 behind refl each.4 end in (
      suc others.0,
      inr (inr (record {
        front = is.molfile_lines;
        back = is.data_lines ++ block.separator ∷ back;
        middle = (b.table, is.molfile_lines);
        whole = all;
        first = record { is = is.molfile; lines_are = refl };
        second = inr (record { before = is.data_lines; separator = block.separator; back = back; whole = refl; none = is.no_separator; separates = block.separates; here = others.1 });
      })),
    )

from_front : (lines : List Line) → IsSdfileFront lines → sdfile_part.live lines
from_front lines h = elim h [
  | inl h ↦ front_is_live exact-sdfile_part lines (h.0, h.1, from_words (lines ++ h.0) h.1 h.2)
  | inr h ↦ inside_from h.blocks lines h.block_lines (h.header_lines ++ h.table_lines) h.whole h.each
      (record {
        header_lines = h.header_lines;
        table_lines = h.table_lines;
        whole = refl;
        three = h.three;
        inside = h.inside;
      })
]

-- ---- no line is named

never : (n : ℕ) (lines : List Line) → (steps n).due lines → ⊥
never zero lines d = d
never (suc n) lines d = elim d [ inl d ↦ d | inr d ↦ never n d.second.back d.second.here ]

-- The form of SDfiles.
abbrev pub sdfile : Part Line (List RawRecord)
sdfile = record { is = IsSdfile; live = IsSdfileFront; due = Never; read = sdfile_at }

-- they are read exactly
pub exact-sdfile : Exact is_v3000 NoLines sdfile
unfolding sdfile_at
exact-sdfile = exact-in_words {p = sdfile_part}
    (record {
      is_to = λ lines records h. to_words h.0 lines records h.1;
      is_from = from_words;
      live_to = λ lines h. to_front h.0 lines h.1;
      live_from = from_front;
      due_to = λ lines d. never d.0 lines d.1;
      due_from = λ lines d. absurd d;
      reads = λ lines. refl;
    })
    exact-sdfile_part

-- ---- the laws

-- lines are one SDfile at most
pub one : HasOneValue
one = one_value exact-sdfile

-- a bad line exactly where they are none
pub bad_where_none : HasBadLine
bad_where_none = bad_is_no_text exact-sdfile

-- and only one
pub one_bad : HasOneBadLine
one_bad = one_bad_line exact-sdfile
