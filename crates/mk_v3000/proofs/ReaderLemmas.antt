-- What the readers know that go from one line to the next.
use Rattle.std.proofs.Common.{◌≡◌, ℕ, suc, ◌+◌, ◌-◌, ◌≤◌, ◌<◌, Bool, true, false, cond, Option, Some, None, List, [], ◌∷◌, ◌++◌, length, get_or, drop, refl, sym, ap, subst, ◌∙◌, append_assoc, append-nil, arith, drop-drop}
use Rattle.std.proofs.lemmas.List.{length-append, length-drop, drop_more, drop_all, drop_at}
use Rattle.mk_form.specs.Exact.{Anything, TakesText}
use Rattle.mk_form.specs.Joined.{Joined, read_joined}
use Rattle.mk_form.specs.Lines.{line_of, line_where}
use Rattle.mk_form.specs.Reading.{Reading, Took, Stop, TakesLines, StopsAtLine, and_then}
use Rattle.mk_form.specs.Sequence.{sequence}
use Rattle.mk_form.specs.ToEnd.{EachIs}
use Rattle.mk_form.proofs.Joined.{exact-joined}
use Rattle.mk_text.specs.Lines.{words_of}
use Rattle.mk_tables.specs.declared.fault.TableFault.{TableFault}
use Rattle.mk_tables.specs.declared.fault.TableFault.TheVariants.{Bad, V3000, Memory}
use Rattle.mk_tables.specs.declared.raw.RawTable.{RawTable}
use Rattle.mk_tables.specs.TableLines.{Line, is_v3000}
use Rattle.mk_tables.specs.TableReading.{Fails}
use Rattle.mk_tables.proofs.ForCallers.{fails_first, block_read}
use Rattle.mk_v3000.specs.declared.walk.Walk.{Walk}
use Rattle.mk_v3000.specs.LogicalLines.{is_logical, text_behind, ends_with_dash, piece_of, goes_on, closes, joined_text, words_in}
use Rattle.mk_v3000.specs.Walk.{first_walk, step, is_done}
use Rattle.mk_v3000.specs.V3000Table.{is_end_line}
use Rattle.mk_v3000.specs.Walking.{texts, one_step, walk_part, end_part, behind_counts, v3000_at}
use Rattle.mk_v3000.proofs.WalkingLemmas.{exact-step, walk_done, walk_goes}

-- ---- the text of a logical line

-- lines are read as one with the text before them
abbrev pub read_behind : List ℕ → List Line → Reading Line (List ℕ)
read_behind joint lines = read_joined goes_on closes (λ ls. Some (joint ++ joined_text ls)) lines

-- texts that agree on all lines are read alike, by what the first line is
same_texts_by : (f g : List Line → List ℕ) (l : Line) (lines : List Line) → f (l ∷ []) ≡ g (l ∷ [])
    → read_joined goes_on closes (λ ls. Some (f (l ∷ ls))) lines ≡ read_joined goes_on closes (λ ls. Some (g (l ∷ ls)))
    lines → (b c : Bool)
    → cond b (read_joined goes_on closes (λ ls. Some (f (l ∷ ls))) lines) (cond c (line_of (Some (f (l ∷ []))) false l lines) (Stop false (l ∷ lines)))
    ≡ cond b (read_joined goes_on closes (λ ls. Some (g (l ∷ ls))) lines) (cond c (line_of (Some (g (l ∷ []))) false l lines) (Stop false (l ∷ lines)))
same_texts_by f g l lines here others true c = others
same_texts_by f g l lines here others false true = ap (λ (t : List ℕ). let r : Reading Line (List ℕ) = Took t lines in r) here
same_texts_by f g l lines here others false false = refl

-- texts that agree on all lines are read alike
same_texts : (lines : List Line) (f g : List Line → List ℕ) → ((ls : List Line) → f ls ≡ g ls)
    → read_joined goes_on closes (λ ls. Some (f ls)) lines ≡ read_joined goes_on closes (λ ls. Some (g ls)) lines
same_texts [] f g same = refl
same_texts (l ∷ lines) f g same = same_texts_by f g l lines (same (l ∷ [])) (same_texts lines (λ ls. f (l ∷ ls)) (λ ls. g (l ∷ ls)) (λ ls. same (l ∷ ls))) (goes_on l) (closes l)

-- what the text of a line is in the joint text
abbrev pub piece : Line → List ℕ
piece line = piece_of (text_behind line)

module _ (joint : List ℕ) (lines : List Line) (at : ℕ) (d : Line) (lt : at < length lines) where
  -- a line that goes on
  pub texts_more : is_logical (get_or lines at d) ≡ true → ends_with_dash (text_behind (get_or lines at d)) ≡ true
      → read_behind joint (drop at lines) ≡ read_behind (joint ++ piece (get_or lines at d)) (drop (at + 1) lines)
  texts_more logical dash =
      let l = get_or lines at d in
      ap (read_behind joint) (drop_more lines at d lt)
      ∙ rw (logical, dash) (same_texts (drop (at + 1) lines) (λ ls. joint ++ joined_text (l ∷ ls))
      (λ ls. (joint ++ piece l) ++ joined_text ls) (λ ls. sym (append_assoc joint (piece l) (joined_text ls))))

  -- a line that closes
  pub texts_end : is_logical (get_or lines at d) ≡ true → ends_with_dash (text_behind (get_or lines at d)) ≡ false
      → TakesLines lines (at + 1) (joint ++ piece (get_or lines at d)) (read_behind joint (drop at lines))
  texts_end logical dash =
      let l = get_or lines at d in
      record {
        within = omega arith;
        took = ap (read_behind joint) (drop_more lines at d lt) ∙ rw (logical, dash) (ap (λ (t : List ℕ). Took (joint ++ t) (drop (at + 1) lines)) (append-nil (piece l)));
      }

  -- a line that doesn't begin `M  V30 `
  pub texts_stop : is_logical (get_or lines at d) ≡ false → StopsAtLine lines false (at + 1) (read_behind joint (drop at lines))
  texts_stop logical =
      let split = drop_more lines at d lt in
      let here : (at + 1) - 1 ≡ at = omega arith in
      record { counted = (omega arith, omega arith); stop = ap (read_behind joint) split ∙ rw logical (ap (Stop false) (sym (ap (λ (k : ℕ). drop k lines) here ∙ split))) }

-- a text that doesn't end with `-` is its own piece
whole_piece : (text : List ℕ) → ends_with_dash text ≡ false → piece_of text ≡ text
unfolding piece_of
whole_piece text dash = rw dash refl

-- a line that is a logical line of its own
pub one_line : (lines : List Line) (at : ℕ) (d : Line) → at < length lines → is_logical (get_or lines at d) ≡ true → ends_with_dash (text_behind (get_or lines at d)) ≡ false
    → TakesLines lines (at + 1) (text_behind (get_or lines at d)) (texts.read (drop at lines))
one_line lines at d lt logical dash =
    subst (λ (text : List ℕ). TakesLines lines (at + 1) text (texts.read (drop at lines))) (whole_piece (text_behind (get_or lines at d)) dash) (texts_end [] lines at d lt logical dash)

-- ---- one step

-- where no text is read, no step is made, at the same line, by what the first line is
stops_alike_by : (h : List Line → List ℕ) (f : List Line → Option Walk) (l : Line) (lines rest : List Line) (n : Bool)
    → (read_joined goes_on closes (λ ls. Some (h (l ∷ ls))) lines ≡ Stop n rest → read_joined goes_on closes (λ ls. f (l ∷ ls)) lines ≡ Stop n rest) → (b c : Bool)
    → cond b (read_joined goes_on closes (λ ls. Some (h (l ∷ ls))) lines) (cond c (Took (h (l ∷ [])) lines) (Stop false (l ∷ lines))) ≡ Stop n rest
    → cond b (read_joined goes_on closes (λ ls. f (l ∷ ls)) lines) (cond c (line_of (f (l ∷ [])) false l lines) (Stop false (l ∷ lines))) ≡ Stop n rest
stops_alike_by h f l lines rest n others true c e = others e
stops_alike_by h f l lines rest n others false true e = absurd cc
stops_alike_by h f l lines rest n others false false e = cc

-- where no text is read, no step is made, at the same line
stops_alike : (lines : List Line) (h : List Line → List ℕ) (f : List Line → Option Walk) (rest : List Line) (n : Bool)
    → read_joined goes_on closes (λ ls. Some (h ls)) lines ≡ Stop n rest
    → read_joined goes_on closes f lines ≡ Stop n rest
stops_alike [] h f rest n e = cc
stops_alike (l ∷ lines) h f rest n e = stops_alike_by h f l lines rest n (stops_alike lines (λ ls. h (l ∷ ls)) (λ ls. f (l ∷ ls)) rest n) (goes_on l) (closes l) e

pub step_fails : (w : Walk) (lines : List Line) (at : ℕ) (fault : TableFault) → Fails lines fault (texts.read (drop at lines)) → Fails lines fault ((one_step w).read (drop at lines))
step_fails w lines at (Bad k) h = record { counted = h.counted; stop = stops_alike (drop at lines) joined_text (λ ls. step w (words_in ls)) _ false h.stop }
step_fails w lines at (V3000 k) h = record { counted = h.counted; stop = stops_alike (drop at lines) joined_text (λ ls. step w (words_in ls)) _ true h.stop }
step_fails w lines at Memory h = tt

-- lines of which the last closes, and that spell nothing, stop at the last
joined_stops : (f : List Line → Option Walk) (firsts : List Line) (last : Line) (rest : List Line)
    → EachIs goes_on true firsts → goes_on last ≡ false → closes last ≡ true → f (firsts ++ last ∷ []) ≡ None
    → read_joined goes_on closes f (firsts ++ last ∷ rest) ≡ Stop false (last ∷ rest)
joined_stops f [] last rest go_on ends closed none = rw (ends, closed, none) refl
joined_stops f (y ∷ firsts) last rest go_on ends closed none = rw (go_on.0) (joined_stops (λ ls. f (y ∷ ls)) firsts last rest go_on.1 ends closed none)

module _ (w : Walk) (lines : List Line) (at next : ℕ) (joint : List ℕ) (inside : at ≤ length lines) (takes : TakesLines lines next joint (texts.read (drop at lines))) where
  -- the lines that were read
  read : TakesText Anything (Joined goes_on closes (λ ls. Some (joined_text ls))) (drop at lines) (drop next lines) joint
  read = (exact-joined {says = is_v3000} goes_on closes (λ ls. Some (joined_text ls))).took (drop at lines) (drop next lines) joint takes.took

  -- their text
  text_is : joined_text read.front ≡ joint
  text_is = let s = read.is.spells in cc

  -- the step is made
  pub step_read : (x : Walk) → step w (words_of joint) ≡ Some x → TakesLines lines next x ((one_step w).read (drop at lines))
  step_read x e =
      let j = read.is in
      record {
        within = takes.within;
        took = ap (one_step w).read read.whole ∙ (exact-step w).again read.front (drop next lines) x
            (record {
              firsts = j.firsts;
              last = j.last;
              whole = j.whole;
              go_on = j.go_on;
              ends = j.ends;
              closed = j.closed;
              spells = ap (λ (t : List ℕ). step w (words_of t)) text_is ∙ e;
            }) tt;
      }

  -- the text isn't due
  pub step_stops : step w (words_of joint) ≡ None → StopsAtLine lines false next ((one_step w).read (drop at lines))
  step_stops e =
      let j = read.is in
      let rest = drop next lines in
      let whole : drop at lines ≡ j.firsts ++ j.last ∷ rest = read.whole ∙ ap (λ (ls : List Line). ls ++ rest) j.whole ∙ append_assoc j.firsts (j.last ∷ []) rest in
      let none : step w (words_in (j.firsts ++ j.last ∷ [])) ≡ None = ap (λ (ls : List Line). step w (words_in ls)) (sym j.whole) ∙ ap (λ (t : List ℕ). step w (words_of t)) text_is ∙ e in
      let size : length (j.last ∷ rest) ≡ suc (length rest) = refl in
      let count : next - 1 ≡ length j.firsts + at = omega (arith, ap length whole, length-append j.firsts (j.last ∷ rest), size, length-drop at lines, length-drop next lines, takes.within) in
      let behind : drop (next - 1) lines ≡ j.last ∷ rest =
      ap (λ (k : ℕ). drop k lines) count ∙ behind_both (length j.firsts) ∙ ap (drop (length j.firsts)) whole ∙ drop_at j.firsts (j.last ∷ rest) (length j.firsts) refl in
      record {
        counted = (omega (arith, count, ap length whole, length-append j.firsts (j.last ∷ rest), size, length-drop at lines, length-drop next lines, takes.within), omega (arith, takes.within));
        stop = ap (one_step w).read whole ∙ joined_stops (λ ls. step w (words_in ls)) j.firsts j.last rest j.go_on j.ends j.closed none ∙ ap (Stop false) (sym behind);
      }
    where
      behind_both : (n : ℕ) → drop (n + at) lines ≡ drop n (drop at lines)
      behind_both n = ap (λ (k : ℕ). drop k lines) (let e : n + at ≡ at + n = omega arith in e) ∙ sym (drop-drop n at lines)

-- ---- all steps

module _ (lines : List Line) (from at : ℕ) (w : Walk) (left : (walk_part first_walk).read (drop from lines) ≡ (walk_part w).read (drop at lines)) where
  -- one more step
  pub walk_more : (next : ℕ) (x : Walk) → is_done w.phase ≡ false
      → TakesLines lines next x ((one_step w).read (drop at lines))
      → (walk_part first_walk).read (drop from lines) ≡ (walk_part x).read (drop next lines)
  walk_more next x goes takes = left ∙ walk_goes w (drop at lines) goes ∙ ap (λ (r : Reading Line Walk). and_then r (λ y. (walk_part y).read)) takes.took

  -- a step fails
  pub walk_fails : (fault : TableFault) → is_done w.phase ≡ false → Fails lines fault ((one_step w).read (drop at lines)) → Fails lines fault ((walk_part first_walk).read (drop from lines))
  walk_fails fault goes h = subst (Fails lines fault) (sym (left ∙ walk_goes w (drop at lines) goes)) (fails_first lines fault ((one_step w).read (drop at lines)) (λ y. (walk_part y).read) h)

  -- the end has been read
  pub walk_ends : at ≤ length lines → is_done w.phase ≡ true → TakesLines lines at w ((walk_part first_walk).read (drop from lines))
  walk_ends inside done = record { within = inside; took = left ∙ walk_done w (drop at lines) done }

-- ---- the table

-- what stands behind the counts line is left
pub v3000_is : (lines : List Line) → v3000_at lines ≡ (sequence (line_where is_v3000) (λ _. behind_counts)).read lines
unfolding v3000_at
v3000_is lines = refl

module _ (lines : List Line) (at next : ℕ) (takes : TakesLines lines next tt ((line_where is_v3000).read (drop at lines))) where
  -- behind the counts line
  pub body_left : v3000_at (drop at lines) ≡ behind_counts.read (drop next lines)
  body_left = block_read (line_where is_v3000) (λ _. behind_counts) lines at (v3000_is (drop at lines)) next tt takes

  module _ (behind : ℕ) (w : Walk) (body : TakesLines lines behind w ((walk_part first_walk).read (drop next lines))) where
    -- behind the logical lines
    pub end_left : v3000_at (drop at lines) ≡ (end_part w).read (drop behind lines)
    end_left = block_read (walk_part first_walk) end_part lines next body_left behind w body

    -- the last line is read
    pub table_read : (last : ℕ) → TakesLines lines last tt ((line_where is_end_line).read (drop behind lines)) → TakesLines lines last w.table (v3000_at (drop at lines))
    table_read last end = record { within = end.within; took = end_left ∙ ap (λ (r : Reading Line (Unit {0})). let x : Reading Line RawTable = and_then r (λ _. Took w.table) in x) end.took }

    -- or it isn't
    pub table_fails : (fault : TableFault) → Fails lines fault ((line_where is_end_line).read (drop behind lines)) → Fails lines fault (v3000_at (drop at lines))
    table_fails fault h = subst (Fails lines fault) (sym end_left) (fails_first lines fault ((line_where is_end_line).read (drop behind lines)) (λ _. Took w.table) h)
