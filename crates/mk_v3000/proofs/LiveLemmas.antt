-- What is live in a V3000 table is a front of one, or ends inside a logical line of one; and the other way round.
use Rattle.std.proofs.Common.{◌≡◌, ℕ, zero, suc, ◌<◌, eqb, get_or, eqb-true, lit≤, arith, Bool, true, false, not, ◌&&◌, Option, Some, None, List, [], ◌∷◌, ◌++◌, length, refl, sym, ap, subst, ◌∙◌, append_assoc, append-nil, inl, inr}
use Rattle.std.specs.Prelude.{codes, nat_eq, ◌⊎◌}
use Rattle.std.specs.List.{starts_with}
use Rattle.mk_form.specs.Exact.{Part, Exact, Anything, Never}
use Rattle.mk_form.specs.Fronts.{IsFront}
use Rattle.mk_form.specs.InWords.{InWords}
use Rattle.mk_form.specs.Joined.{Joined, UpToJoined}
use Rattle.mk_form.specs.Lines.{UpToOneLine, passing, line_where}
use Rattle.mk_form.specs.Rows.{Series}
use Rattle.mk_form.specs.Sequence.{EndsIn, Later, sequence}
use Rattle.mk_form.specs.ToEnd.{EachIs}
use Rattle.mk_form.proofs.Cuts.{no_line, no_front, split_two}
use Rattle.mk_form.proofs.Fronts.{front_is_live}
use Rattle.mk_form.proofs.InWords.{exact-in_words}
use Rattle.mk_form.proofs.Lines.{passes}
use Rattle.mk_form.proofs.ToEnd.{each-shorter}
use Rattle.mk_text.specs.Columns.{columns}
use Rattle.mk_text.proofs.ForCallers.{both}
use Rattle.mk_tables.specs.declared.raw.RawTable.{RawTable}
use Rattle.mk_tables.specs.TableLines.{Line, is_v3000}
use Rattle.mk_v3000.specs.declared.walk.Walk.{Walk}
use Rattle.mk_v3000.specs.LogicalLines.{Word, is_logical, text_behind, ends_with_dash, goes_on, closes, words_in, IsLogicalLine}
use Rattle.mk_v3000.specs.V3000Form.{v3000_form}
use Rattle.mk_v3000.specs.V3000Table.{IsV3000Table, EndInside, IsV3000Front, is_end_line}
use Rattle.mk_v3000.specs.Walk.{first_walk, step, is_done, IsFew}
use Rattle.mk_v3000.specs.Walking.{one_step, no_step, unless_done, walks, walk_part, behind_counts, v3000_part, v3000_at}
use Rattle.mk_v3000.proofs.FewLemmas.{first_few, step_few}
use Rattle.mk_v3000.proofs.FrontLemmas.{Completed, complete}
use Rattle.mk_v3000.proofs.RunLemmas.{Runs, AllRuns, walks_to}
use Rattle.mk_v3000.proofs.TableLemmas.{TableRun, table_to, to_table, from_table}
use Rattle.mk_v3000.proofs.WalkingLemmas.{exact-walk, exact-v3000_part}

-- ---- where lines that are live have got to

-- logical lines, by their words, take what has been read so far on
abbrev Steps : Walk → List (List Word) → Walk → Type 0
Steps w [] x = w ≡ x
Steps w (words ∷ others) x = (is_done w.phase ≡ false) × (y : Walk) × (step w words ≡ Some y) × Steps y others x

-- and then others to the end
steps_run : (words : List (List Word)) (w x : Walk) (more : List (List Word)) (t : RawTable) → Steps w words x → Runs x more t → Runs w (words ++ more) t
steps_run [] w x more t s r = subst (λ (y : Walk). Runs y more t) (sym s) r
steps_run (ws ∷ words) w x more t s r = (s.0, s.1, s.2, steps_run words s.1 x more t s.3 r)

-- the lines of some values, and those of others behind them
series_both : (xs ys : List (List Word)) (front back : List Line) → Series IsLogicalLine front xs → Series IsLogicalLine back ys → Series IsLogicalLine (front ++ back) (xs ++ ys)
series_both [] ys front back s h = subst (λ (f : List Line). Series IsLogicalLine (f ++ back) ys) (sym s) h
series_both (x ∷ xs) ys front back s h = (s.0, s.1 ++ back, ap (λ (f : List Line). f ++ back) s.2 ∙ append_assoc s.0 s.1 back, s.3, series_both xs ys s.1 back s.4 h)

-- whole logical lines have been read, and behind them lines that go on; none behind the end
record Reached (w : Walk) (lines : List Line) : Type 0 where
  front : List Line
  begun : List Line
  words : List (List Word)
  last : Walk
  whole : lines ≡ front ++ begun
  each : Series IsLogicalLine front words
  steps : Steps w words last
  go_on : EachIs goes_on true begun
  done : is_done last.phase ≡ true → begun ≡ []
  few : IsFew last

-- nothing has been read
here : (w : Walk) (lines : List Line) → IsFew w → EachIs goes_on true lines → (is_done w.phase ≡ true → lines ≡ []) → Reached w lines
here w lines few go_on done = record { front = []; begun = lines; words = []; last = w; whole = refl; each = refl; steps = refl; go_on = go_on; done = done; few = few }

-- at the end, and nothing
at_end : (w : Walk) (lines : List Line) → IsFew w → lines ≡ [] → Reached w lines
at_end w lines few none = here w lines few (subst (EachIs goes_on true) (sym none) tt) (λ _. none)

-- before the end
before_end : (w : Walk) (lines : List Line) → IsFew w → is_done w.phase ≡ false → EachIs goes_on true lines → Reached w lines
before_end w lines few goes go_on = here w lines few go_on (λ d. absurd cc)

-- a logical line, and what is reached behind it
behind_line : (w x : Walk) (front back : List Line) → is_done w.phase ≡ false → Joined goes_on closes (λ ls. step w (words_in ls)) front x → Reached x back → Reached w (front ++ back)
behind_line w x front back goes j r =
    let logical : IsLogicalLine front (words_in front) = record { firsts = j.firsts; last = j.last; whole = j.whole; go_on = j.go_on; ends = j.ends; closed = j.closed; spells = refl } in
    record {
      front = front ++ r.front;
      begun = r.begun;
      words = words_in front ∷ r.words;
      last = r.last;
      whole = ap (λ (b : List Line). front ++ b) r.whole ∙ sym (append_assoc front r.front r.begun);
      each = (front, r.front, refl, logical, r.each);
      steps = (goes, x, j.spells, r.steps);
      go_on = r.go_on;
      done = r.done;
      few = r.few;
    }

reach_none : (w : Walk) (lines : List Line) (b : Bool) → IsFew w → is_done w.phase ≡ b → (unless_done b w no_step).live lines → Reached w lines
reach_none w lines true few e h = at_end w lines few h
reach_none w lines false few e h = elim h [ inl h ↦ before_end w lines few e h | inr h ↦ absurd (let s = h.1.spells in cc) ]

reach_more : (w : Walk) (q : Walk → Part Line Walk) (others : (x : Walk) (back : List Line) → IsFew x → (q x).live back → Reached x back) (lines : List Line) (b : Bool)
    → IsFew w → is_done w.phase ≡ b → (unless_done b w (sequence (one_step w) q)).live lines → Reached w lines
reach_more w q others lines true few e h = at_end w lines few h
reach_more w q others lines false few e h = elim h [
  | inl h ↦ elim h [
    | inl h ↦ before_end w lines few e h
    | inr h ↦
        let next = step_few w (words_in lines) h.0 few h.1.spells in
        subst (Reached w) (append-nil lines) (behind_line w h.0 lines [] e h.1 (here h.0 [] next tt (λ _. refl)))
  ]
  | inr h ↦
      let next = step_few w (words_in h.front) h.middle few h.first.spells in
      subst (Reached w) (sym h.whole) (behind_line w h.middle h.front h.back e h.first (others h.middle h.back next h.second))
]

-- lines that are live have got somewhere
reach : (n : ℕ) (w : Walk) (lines : List Line) → IsFew w → (walks w n).live lines → Reached w lines
reach zero w lines few h = reach_none w lines (is_done w.phase) few refl h
reach (suc n) w lines few h = reach_more w (λ x. walks x n) (λ x back f l. reach n x back f l) lines (is_done w.phase) few refl h

-- ---- from there on

-- the last line
abbrev end_line : Line
end_line = codes "M  END"

ends : is_end_line end_line ≡ true
unfolding is_end_line
ends = refl

-- a table of these lines
table_of : (l : Line) (logical : List Line) (last : Line) (words : List (List Word)) (t : RawTable) → is_v3000 l ≡ true
    → Series IsLogicalLine logical words → Runs first_walk words t → is_end_line last ≡ true
    → IsV3000Table (l ∷ (logical ++ last ∷ [])) t
table_of l logical last words t version each runs ended =
    let run = table_to words t runs in
    record {
      counts_line = l;
      logical_lines = logical;
      last_line = last;
      whole = refl;
      version = version;
      words = words;
      each = each;
      atoms = run.atoms;
      bonds = run.bonds;
      are = run.are;
      ended = ended;
      twin = run.twin;
    }

-- logical lines that have got somewhere are a front
whole_front : (l : Line) (front : List Line) (words : List (List Word)) (x : Walk) → is_v3000 l ≡ true
    → Series IsLogicalLine front words → Steps first_walk words x → Completed x → IsFront IsV3000Table (l ∷ front)
whole_front l front words x version each steps c =
    let lines : (l ∷ front) ++ (c.lines ++ end_line ∷ []) ≡ l ∷ ((front ++ c.lines) ++ end_line ∷ []) = ap (λ (ls : List Line). l ∷ ls) (sym (append_assoc front c.lines (end_line ∷ []))) in (
      c.lines ++ end_line ∷ [],
      c.table,
      subst (λ (ls : List Line). IsV3000Table ls c.table) (sym lines)
          (table_of l (front ++ c.lines) end_line (words ++ c.words) c.table version
          (series_both words c.words front c.lines each c.each)
          (steps_run words first_walk x c.words c.table steps c.runs) ends),
    )

-- a logical line has a first line, which begins `M  V30 `
record FirstLine (lines : List Line) : Type 0 where
  first : Line
  others : List Line
  whole : lines ≡ first ∷ others
  logical : is_logical first ≡ true

first_of : (firsts : List Line) (last : Line) (lines : List Line) → lines ≡ firsts ++ last ∷ [] → EachIs goes_on true firsts → closes last ≡ true → FirstLine lines
first_of [] last lines whole go_on closed = record { first = last; others = []; whole = whole; logical = (both (is_logical last) (not (ends_with_dash (text_behind last))) closed).0 }
first_of (x ∷ firsts) last lines whole go_on closed = record { first = x; others = firsts ++ last ∷ []; whole = whole; logical = (both (is_logical x) (ends_with_dash (text_behind x)) go_on.0).0 }

-- before the end there is another line
next_line : (x : Walk) (lines : List Line) (words : List (List Word)) (t : RawTable) → is_done x.phase ≡ false → Series IsLogicalLine lines words → Runs x words t → FirstLine lines
next_line x lines [] t goes each runs = absurd (let d = runs.0 in cc)
next_line x lines (ws ∷ words) t goes each runs =
    let j = each.3 in
    let f = first_of j.firsts j.last each.0 j.whole j.go_on j.closed in
    record { first = f.first; others = f.others ++ each.1; whole = each.2 ∙ ap (λ (ls : List Line). ls ++ each.1) f.whole; logical = f.logical }

-- with the next line they are a front, too
inside : (l : Line) (r : List Line) (words : List (List Word)) (x : Walk) (begun : List Line) → is_v3000 l ≡ true
    → Series IsLogicalLine r words → Steps first_walk words x → Completed x → is_done x.phase ≡ false
    → EachIs goes_on true begun → EndInside (l ∷ (r ++ begun))
inside l r words x begun version each steps c goes go_on =
    let f = next_line x c.lines c.words c.table goes c.each c.runs in
    let more = f.others ++ end_line ∷ [] in
    let lines : (l ∷ (r ++ f.first ∷ [])) ++ more ≡ l ∷ ((r ++ c.lines) ++ end_line ∷ []) =
    ap (λ (ls : List Line). l ∷ ls)
    (append_assoc r (f.first ∷ []) more ∙ sym (ap (λ (ls : List Line). r ++ (ls ++ end_line ∷ [])) f.whole) ∙ sym (append_assoc r c.lines (end_line ∷ []))) in
    record {
      counts_line = l;
      before = r;
      begun = begun;
      next = f.first;
      whole = refl;
      go_on = go_on;
      logical = f.logical;
      front = (
        more,
        c.table,
        subst (λ (ls : List Line). IsV3000Table ls c.table) (sym lines)
            (table_of l (r ++ c.lines) end_line (words ++ c.words) c.table version
            (series_both words c.words r c.lines each c.each) (steps_run words first_walk x c.words c.table steps c.runs)
            ends),
      );
    }

-- so what has been reached is a front or ends inside a logical line
reached_front : (l : Line) (lines : List Line) → is_v3000 l ≡ true → Reached first_walk lines → IsV3000Front (l ∷ lines)
reached_front l lines version r = by_done (is_done r.last.phase) refl
  where
    by_done : (b : Bool) → is_done r.last.phase ≡ b → IsV3000Front (l ∷ lines)
    by_done true e =
        let same : lines ≡ r.front = r.whole ∙ ap (λ (ls : List Line). r.front ++ ls) (r.done e) ∙ append-nil r.front in
        inl (subst (λ (ls : List Line). IsFront IsV3000Table (l ∷ ls)) (sym same) (whole_front l r.front r.words r.last version r.each r.steps (complete r.last r.few)))
    by_done false e = inr (subst (λ (ls : List Line). EndInside (l ∷ ls)) (sym r.whole) (inside l r.front r.words r.last r.begun version r.each r.steps (complete r.last r.few) e r.go_on))

-- ---- what is live is a front

-- behind the last logical line
end_front : (l : Line) (front back : List Line) (n : ℕ) (x : Walk) → is_v3000 l ≡ true → (walks first_walk n).is front x → UpToOneLine (passing is_end_line) back → IsV3000Front (l ∷ (front ++ back))
end_front l front back n x version is h =
    let run = walks_to n first_walk front x is in
    elim h [
      | inl none ↦
          let lines : (l ∷ (front ++ back)) ++ (end_line ∷ []) ≡ l ∷ (front ++ end_line ∷ []) =
          ap (λ (ls : List Line). l ∷ (ls ++ end_line ∷ []))
          (ap (λ (b : List Line). front ++ b) none ∙ append-nil front) in
          inl (end_line ∷ [], x.table, subst (λ (ls : List Line). IsV3000Table ls x.table) (sym lines) (table_of l front end_line run.words x.table version run.each run.runs ends))
      | inr one ↦
          let ended = passes is_end_line one.1.line one.0 one.1.spells in
          let lines : (l ∷ (front ++ back)) ++ [] ≡ l ∷ (front ++ one.1.line ∷ []) = append-nil (l ∷ (front ++ back)) ∙ ap (λ (b : List Line). l ∷ (front ++ b)) one.1.whole in
          inl ([], x.table, subst (λ (ls : List Line). IsV3000Table ls x.table) (sym lines) (table_of l front one.1.line run.words x.table version run.each run.runs ended))
    ]

-- behind the counts line
behind_front : (l : Line) (back : List Line) → is_v3000 l ≡ true → behind_counts.live back → IsV3000Front (l ∷ back)
behind_front l back version h = elim h [
  | inl h ↦ reached_front l back version (reach h.0 first_walk back first_few h.1)
  | inr h ↦ subst (λ (ls : List Line). IsV3000Front (l ∷ ls)) (sym h.whole) (end_front l h.front h.back h.first.0 h.middle version h.first.1 h.second)
]

-- a line that says V3000
abbrev some_counts : Line
some_counts = codes "                                 V3000"

says : is_v3000 some_counts ≡ true
unfolding columns
says = refl

-- no line yet
no_lines : IsFront IsV3000Table []
no_lines =
    let c = complete first_walk first_few in
    (some_counts ∷ (c.lines ++ end_line ∷ []), c.table, table_of some_counts c.lines end_line c.words c.table says c.each c.runs ends)

pub to_front : (lines : List Line) → v3000_part.live lines → IsV3000Front lines
to_front lines h = elim h [
  | inl h ↦ elim h [
    | inl none ↦ inl (subst (IsFront IsV3000Table) (sym none) no_lines)
    | inr one ↦ inl (subst (IsFront IsV3000Table) (sym one.1.whole) (whole_front one.1.line [] [] first_walk (passes is_v3000 one.1.line one.0 one.1.spells) refl refl (complete first_walk first_few)))
  ]
  | inr h ↦
      let one = h.first in
      let version = passes is_v3000 one.line h.middle one.spells in
      subst IsV3000Front (sym (h.whole ∙ ap (λ (f : List Line). f ++ h.back) one.whole)) (behind_front one.line h.back version h.second)
]

-- ---- a front is live

-- lines of which each passes, and others
each_both : (b : Line → Bool) (xs ys : List Line) → EachIs b true xs → EachIs b true ys → EachIs b true (xs ++ ys)
each_both b [] ys h k = k
each_both b (x ∷ xs) ys h k = (h.0, each_both b xs ys h.1 k)

-- two lists with one line behind them
same_ends : (xs ys : List Line) (l m : Line) → xs ++ l ∷ [] ≡ ys ++ m ∷ [] → (xs ≡ ys) × (l ≡ m)
same_ends [] [] l m e = (refl, cc)
same_ends [] (y ∷ ys) l m e = absurd (no_line ys m [] (let k : ys ++ m ∷ [] ≡ [] = cc in k))
same_ends (x ∷ xs) [] l m e = absurd (no_line xs l [] (let k : xs ++ l ∷ [] ≡ [] = cc in k))
same_ends (x ∷ xs) (y ∷ ys) l m e =
    let more : xs ++ l ∷ [] ≡ ys ++ m ∷ [] = cc in
    let h = same_ends xs ys l m more in
    let first : x ≡ y = cc in
    (rw (first, h.0) refl, h.1)

-- a line that begins with a word has its bytes
begins_at : (word line : List ℕ) (k : ℕ) → starts_with nat_eq line word ≡ true → k < length word → get_or line k 0 ≡ get_or word k 0
begins_at [] line k h lt = absurd (omega arith)
begins_at (c ∷ word) [] k h lt = absurd cc
begins_at (c ∷ word) (x ∷ line) zero h lt = sym (eqb-true c x (both (eqb c x) (starts_with nat_eq line word) h).0)
begins_at (c ∷ word) (x ∷ line) (suc k) h lt = begins_at word line k (both (eqb c x) (starts_with nat_eq line word) h).1 (omega arith)

-- a line that begins `M  V30 ` doesn't begin `M  END`
other : (line : Line) → is_logical line ≡ true → is_end_line line ≡ true → ⊥
unfolding is_logical is_end_line
other line a b =
    let v : get_or line 3 0 ≡ 86 = begins_at (codes "M  V30 ") line 3 a (lit≤ tt) in
    let e : get_or line 3 0 ≡ 69 = begins_at (codes "M  END") line 3 b (lit≤ tt) in
    let same : 86 ≡ 69 = sym v ∙ e in
    omega (arith, same)

module _ (next : Line) (logical : is_logical next ≡ true) (begun : List Line) (go_on : EachIs goes_on true begun) where
  -- where a line may stand in a logical line, lines that go on may
  bend_joined : {f : List Line → Option Walk} (before : List Line) → UpToJoined goes_on closes f (before ++ next ∷ []) → EachIs goes_on true (before ++ begun)
  bend_joined before h = elim h [
    | inl h ↦ each_both goes_on before begun (each-shorter goes_on true before (next ∷ []) h) go_on
    | inr h ↦ each_both goes_on before begun (subst (EachIs goes_on true) (sym (same_ends before h.1.firsts next h.1.last h.1.whole).0) h.1.go_on) go_on
  ]

  bend_none : (w : Walk) (before : List Line) (b : Bool) → (unless_done b w no_step).live (before ++ next ∷ []) → (unless_done b w no_step).live (before ++ begun)
  bend_none w before true h = absurd (no_line before next [] h)
  bend_none w before false h = inl (bend_joined before h)

  bend_more : (w : Walk) (q : Walk → Part Line Walk) (others : (x : Walk) (between : List Line) → (q x).live (between ++ next ∷ []) → (q x).live (between ++ begun)) (before : List Line) (b : Bool)
      → (unless_done b w (sequence (one_step w) q)).live (before ++ next ∷ []) → (unless_done b w (sequence (one_step w) q)).live (before ++ begun)
  bend_more w q others before true h = absurd (no_line before next [] h)
  bend_more w q others before false h = elim h [
    | inl h ↦ inl (inl (bend_joined before h))
    | inr h ↦ by_back h.back h.front h.middle h.whole h.first h.second
  ]
    where
      by_back : (back front : List Line) (x : Walk) → before ++ next ∷ [] ≡ front ++ back → (one_step w).is front x → (q x).live back → (sequence (one_step w) q).live (before ++ begun)
      by_back back front x whole first second = elim (split_two before (next ∷ []) front back whole) [
        | inl s ↦ by_between s.between front back x s.front_is s.back_is first second
        | inr s ↦
            inr (record {
              front = front;
              back = s.between ++ begun;
              middle = x;
              whole = ap (λ (ls : List Line). ls ++ begun) s.front_is ∙ append_assoc front s.between begun;
              first =
                  first;
              second = others x s.between (subst (q x).live s.back_is second);
            })
      ]
        where
          by_between : (between front back : List Line) (x : Walk) → front ≡ before ++ between
              → next ∷ [] ≡ between ++ back → (one_step w).is front x → (q x).live back
              → (sequence (one_step w) q).live (before ++ begun)
          by_between [] front back x f_is b_is first second =
              let same : front ≡ before = f_is ∙ append-nil before in
              inr (record {
                front = front;
                back = begun;
                middle = x;
                whole = ap (λ (ls : List Line). ls ++ begun) (sym same);
                first = first;
                second =
                    others x [] (subst (q x).live (sym b_is) second);
              })
          by_between (y ∷ ys) front back x f_is b_is first second =
              let none : ys ≡ [] = no_front ys back (let k : ys ++ back ≡ [] = cc in k) in
              let same : y ≡ next = cc in
              let whole : front ≡ before ++ next ∷ [] = f_is ∙ rw (same, none) refl in
              inl (inl (bend_joined before (inr (x, subst (λ (ls : List Line). (one_step w).is ls x) whole first))))

  bend : (n : ℕ) (w : Walk) (before : List Line) → (walks w n).live (before ++ next ∷ []) → (walks w n).live (before ++ begun)
  bend zero w before h = bend_none w before (is_done w.phase) h
  bend (suc n) w before h = bend_more w (λ x. walks x n) (λ x between l. bend n x between l) before (is_done w.phase) h

  bend_walk : (w : Walk) (before : List Line) → (walk_part w).live (before ++ next ∷ []) → (walk_part w).live (before ++ begun)
  bend_walk w before h = (h.0, bend h.0 w before h.1)

  -- the line doesn't begin `M  END`
  no_end : is_end_line next ≡ true → ⊥
  no_end ended = other next logical ended

  bend_behind : (before : List Line) → behind_counts.live (before ++ next ∷ []) → behind_counts.live (before ++ begun)
  bend_behind before h = elim h [
    | inl h ↦ inl (bend_walk first_walk before h)
    | inr h ↦ elim h.second [
      | inl none ↦
          let whole : h.front ≡ before ++ next ∷ [] = sym (append-nil h.front) ∙ ap (λ (b : List Line). h.front ++ b) (sym none) ∙ sym h.whole in
          inl (bend_walk first_walk before (subst (walk_part first_walk).live whole ((exact-walk first_walk).live h.front h.middle h.first)))
      | inr one ↦
          let last = same_ends h.front before one.1.line next (ap (λ (b : List Line). h.front ++ b) (sym one.1.whole) ∙ sym h.whole) in
          let ended = passes is_end_line one.1.line one.0 one.1.spells in
          absurd (no_end (subst (λ (l : Line). is_end_line l ≡ true) last.1 ended))
    ]
  ]

  pub bend_table : (l : Line) (before : List Line) → v3000_part.live (l ∷ (before ++ next ∷ [])) → v3000_part.live (l ∷ (before ++ begun))
  bend_table l before h = elim h [
    | inl h ↦ elim h [
      | inl none ↦ absurd cc
      | inr one ↦ absurd (no_line before next [] (let w = one.1.whole in let k : before ++ next ∷ [] ≡ [] = cc in k))
    ]
    | inr h ↦
        let one = h.first in
        let whole : l ∷ (before ++ next ∷ []) ≡ one.line ∷ h.back = h.whole ∙ ap (λ (f : List Line). f ++ h.back) one.whole in
        let back : before ++ next ∷ [] ≡ h.back = cc in
        let same : l ≡ one.line = cc in
        inr (record {
          front = h.front;
          back = before ++ begun;
          middle = h.middle;
          whole = rw (same, one.whole) refl;
          first = one;
          second = bend_behind before (subst behind_counts.live (sym back) h.second);
        })
  ]

pub from_front : (lines : List Line) → IsV3000Front lines → v3000_part.live lines
from_front lines h = elim h [
  | inl h ↦ front_is_live exact-v3000_part lines (h.0, h.1, from_table (lines ++ h.0) h.1 h.2)
  | inr h ↦
      let front = h.front in
      let live = front_is_live exact-v3000_part (h.counts_line ∷ (h.before ++ h.next ∷ [])) (front.0, front.1, from_table _ front.1 front.2) in
      subst v3000_part.live (sym h.whole) (bend_table h.next h.logical h.begun h.go_on h.counts_line h.before live)
]

-- no line of a V3000 table is named
never_unless : (b : Bool) (w : Walk) (p : Part Line Walk) (lines : List Line) → (p.due lines → ⊥) → (unless_done b w p).due lines → ⊥
never_unless true w p lines none d = d
never_unless false w p lines none d = none d

never_walks : (n : ℕ) (w : Walk) (lines : List Line) → (walks w n).due lines → ⊥
never_walks zero w lines d = never_unless (is_done w.phase) w no_step lines (λ d. d) d
never_walks (suc n) w lines d = never_unless (is_done w.phase) w (sequence (one_step w) (λ x. walks x n)) lines (λ d. elim d [ inl d ↦ d | inr d ↦ never_walks n d.middle d.back d.second ]) d

never : (lines : List Line) → v3000_part.due lines → ⊥
never lines d = elim d [
  | inl d ↦ d
  | inr d ↦ elim d.second [ inl d ↦ never_walks d.0 first_walk _ d.1 | inr d ↦ d.second ]
]

-- V3000 tables are read exactly
pub exact-v3000 : Exact is_v3000 Anything v3000_form
unfolding v3000_at
exact-v3000 = exact-in_words {p = v3000_part} (record {
  is_to = to_table;
  is_from = from_table;
  live_to = to_front;
  live_from = from_front;
  due_to = λ lines d. never lines d;
  due_from = λ lines d. absurd d;
  reads = λ lines. refl;
})
    exact-v3000_part
