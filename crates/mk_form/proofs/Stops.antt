-- Where a reading stops is the bad line. A text has one value.
use Rattle.std.proofs.Common.{◌≡◌, ℕ, ◌+◌, ◌-◌, ◌≤◌, ◌<◌, Bool, true, List, [], ◌∷◌, ◌++◌, length, take, drop, refl, sym, ap, subst, ◌∙◌, append_assoc, inl, inr, arith}
use Rattle.std.specs.Prelude.{◌⊎◌}
use Rattle.std.proofs.lemmas.List.{append-nil, length-append, length-drop, drop-drop, drop_at, take-append-le, take_at, take-append-drop, append_cancel_right}
use Rattle.std.proofs.lemmas.Bool.{cases_lt}
use Rattle.mk_form.specs.Fronts.{IsStop, IsBadLineWhere, IsPart, IsPartFrom, IsBadLineOfPartWhere, IsBadLineFromWhere}
use Rattle.mk_form.specs.Reading.{Reading, Took, Stop, TakesLines, StopsAtLine}
use Rattle.mk_form.specs.Exact.{Part, Exact, Anything, NoLines}
use Rattle.mk_form.specs.StopLaws.{HasOneStop, HasOneValue, TextIsTaken, BadLineIsStop, IsTextOrBad, BadIsNoText, HasOneBadLine, HasOnePart, PartIsTaken, BadLineOfPartIsStop, IsPartOrBad, PartFromIsTaken, BadLineFromIsStop, HasOnePartFrom, BadFromIsNoPart, HasOneBadLineFrom, NamedIsDue, NamedFromIsDue, StopIsNamed, StopFromIsNamed}

-- ---- the first line with which the lines are no longer live

-- one first line isn't below another
not_below : {L : Type 0} (Live : List L → Type 0) (lines : List L) (j k : ℕ) → IsStop Live lines j → IsStop Live lines k → j < k → ⊥
not_below Live lines j k a b lt = a.here (let top = b.counted.1 in omega arith) (b.before j lt)

-- there is one first line
pub one_stop : {L : Type 0} (Live : List L → Type 0) → HasOneStop Live
one_stop Live lines j k a b =
    elim (cases_lt j k) [
      | inl lt ↦ absurd (not_below Live lines j k a b lt)
      | inr le ↦ elim (cases_lt k j) [
        | inl lt ↦ absurd (not_below Live lines k j b a lt)
        | inr ge ↦ omega arith
      ]
    ]

-- ---- a cut of the lines by its place

-- what stands before the line k, where the lines from it on are known
front_is : {L : Type 0} (lines front : List L) (i : ℕ) → lines ≡ front ++ drop i lines → front ≡ take i lines
front_is lines front i whole = append_cancel_right front (take i lines) (drop i lines) (sym whole ∙ sym (take-append-drop i lines))

-- lines end behind the first ones
drop_is : {L : Type 0} (lines front rest : List L) → lines ≡ front ++ rest → rest ≡ drop (length front) lines
drop_is lines front rest whole = sym (drop_at front rest (length front) refl) ∙ ap (drop (length front)) (sym whole)

-- ---- a place in a part, and in the whole text

-- a cut within lines that were cut before
drop_again : {L : Type 0} (at next : ℕ) (lines : List L) → at ≤ next → drop (next - at) (drop at lines) ≡ drop next lines
drop_again at next lines le = drop-drop (next - at) at lines ∙ ap (λ n. drop n lines) (let k : at + (next - at) ≡ next = omega arith in k)

-- the line of the whole text, and of the part
shifted : {L : Type 0} (at k : ℕ) (lines : List L) → at < k → drop (k - at - 1) (drop at lines) ≡ drop (k - 1) lines
shifted at k lines lt = ap (λ n. drop n (drop at lines)) (let i : k - at - 1 ≡ (k - 1) - at = omega arith in i) ∙ drop_again at (k - 1) lines (omega arith)

-- a stop in the part is a stop in the whole text
pub stop_in_text : {L V : Type 0} (at k : ℕ) (lines : List L) (named : Bool) (reading : Reading L V) → at ≤ length lines
    → at < k → StopsAtLine (drop at lines) named (k - at) reading → StopsAtLine lines named k reading
stop_in_text at k lines named reading inside from h =
    let c = h.counted in
    record { counted = (omega arith, omega (arith, c.1, length-drop at lines)); stop = h.stop ∙ ap (Stop named) (shifted at k lines from) }

-- and the other way
pub stop_in_part : {L V : Type 0} (at k : ℕ) (lines : List L) (named : Bool) (reading : Reading L V) → at ≤ length lines
    → at < k → StopsAtLine lines named k reading → StopsAtLine (drop at lines) named (k - at) reading
stop_in_part at k lines named reading inside from h =
    let c = h.counted in
    record { counted = (omega arith, omega (arith, c.1, length-drop at lines)); stop = h.stop ∙ ap (Stop named) (sym (shifted at k lines from)) }

-- ---- the stop of a reading

module _ {L V : Type 0} {says : L → Bool} {Follows : List L → Type 0} {p : Part L V} (e : Exact says Follows p) where
  -- with the line at the stop they are not live
  here_at : (lines front rest : List L) (n : Bool) (k : ℕ) → lines ≡ front ++ rest → p.read lines ≡ Stop n rest → k ≡ length front + 1 → k ≤ length lines → p.live (take k lines) → ⊥
  here_at lines front [] n k whole h count within live = omega (arith, ap length (whole ∙ append-nil front))
  here_at lines front (l ∷ rest) n k whole h count within live =
      let regrouped : lines ≡ (front ++ l ∷ []) ++ rest = whole ∙ sym (append_assoc front (l ∷ []) rest) in
      let taken : take k lines ≡ front ++ l ∷ [] = ap (take k) regrouped ∙ take_at (front ++ l ∷ []) rest k (omega (arith, length-append front (l ∷ []))) in
      e.none front rest l n (ap p.read (sym whole) ∙ h) (subst p.live taken live)

  -- fewer lines than those before the stop are live
  before_at : (lines front rest : List L) (k j : ℕ) → lines ≡ front ++ rest → p.live front → k ≡ length front + 1 → j < k → p.live (take j lines)
  before_at lines front rest k j whole h count lt =
      let same : take j lines ≡ take j front = ap (take j) whole ∙ take-append-le j front rest (omega arith) in
      subst p.live (sym same) (e.shorter (take j front) (drop j front) (subst p.live (sym (take-append-drop j front)) h))

  -- the line behind the front at which a reading stops
  stop_is : (lines front rest : List L) (n : Bool) (k : ℕ) → lines ≡ front ++ rest → p.live front → k ≡ length front + 1 → p.read lines ≡ Stop n rest → IsStop p.live lines k
  stop_is lines front rest n k whole live count h = record {
    counted = (omega arith, omega (arith, ap length whole, length-append front rest));
    before = λ j lt. before_at lines front rest k j whole live count lt;
    here = here_at lines front rest n k whole h count;
  }

  -- the reading stops at the first line with which the lines are no longer live
  pub line_is_stop : (lines : List L) (named : Bool) (k : ℕ) → StopsAtLine lines named k (p.read lines) → IsStop p.live lines k
  line_is_stop lines named k h =
      let f = e.fits lines (drop (k - 1) lines) named h.stop in
      let c = h.counted in
      stop_is lines f.front (drop (k - 1) lines) named k f.whole f.live (omega (arith, ap length f.whole, length-append f.front (drop (k - 1) lines), length-drop (k - 1) lines)) h.stop

  -- a stop is at some line
  pub stops_somewhere : (lines rest : List L) (named : Bool) → p.read lines ≡ Stop named rest → (k : ℕ) × StopsAtLine lines named k (p.read lines)
  stops_somewhere lines rest named h =
      let f = e.fits lines rest named h in
      let k : ℕ = length f.front + 1 in
      let i : k - 1 ≡ length f.front = omega arith in (
        k,
        record {
          counted = (omega arith, omega (arith, ap length f.whole, length-append f.front rest));
          stop = h ∙ ap (Stop named) (drop_is lines f.front rest f.whole ∙ ap (λ n. drop n lines) (sym i));
        },
      )

  -- where the reading stops and line k is the first with which the lines are no longer live, it stops at line k
  stops_there : (lines rest : List L) (named : Bool) (k : ℕ) → p.read lines ≡ Stop named rest → IsStop p.live lines k → StopsAtLine lines named k (p.read lines)
  stops_there lines rest named k h stop =
      let s = stops_somewhere lines rest named h in
      let same = one_stop p.live lines s.0 k (line_is_stop lines named s.0 s.1) stop in
      subst (λ i. StopsAtLine lines named i (p.read lines)) same s.1

  -- ---- the name of a line

  -- the reader names its stop exactly where a name is due and said
  pub named_is_due : NamedIsDue says p
  named_is_due lines k = (
    λ h.
        let i : k - 1 ≡ length h.before = omega (arith, h.place) in
        record {
          counted = (omega (arith, h.place), omega (arith, h.place, ap length h.whole, length-append h.before (h.line ∷ h.behind)));
          stop = ap p.read h.whole ∙ e.due h.before h.behind h.line h.due h.says_so ∙ ap (Stop true) (drop_is lines h.before (h.line ∷ h.behind) h.whole ∙ ap (λ n. drop n lines) (sym i));
        },
    λ h.
        let f = e.named lines (drop (k - 1) lines) h.stop in
        let c = h.counted in
        record {
          before = f.front;
          line = f.line;
          behind = f.behind;
          whole = f.whole ∙ ap (λ (x : List L). f.front ++ x) f.rest_is;
          place = omega (arith, ap length f.whole, length-append f.front (drop (k - 1) lines), length-drop (k - 1) lines);
          due = f.due;
          says_so = f.says_so;
        },
  )

  -- the same behind the first lines of a longer text
  pub named_from_is_due : NamedFromIsDue says p
  named_from_is_due at lines k inside = (
    λ h. (h.from, stop_in_text at k lines true (p.read (drop at lines)) inside h.from ((named_is_due (drop at lines) (k - at)).0 h.named)),
    λ h. record { from = h.0; named = (named_is_due (drop at lines) (k - at)).1 (stop_in_part at k lines true (p.read (drop at lines)) inside h.0 h.1) },
  )

  -- a stop is named exactly where a name is due and said
  pub stop_is_named : StopIsNamed says p
  stop_is_named lines k named h = (
    λ e. (named_is_due lines k).1 (subst (λ n. StopsAtLine lines n k (p.read lines)) e h),
    λ i. let a = ((named_is_due lines k).0 i).stop in let b = h.stop in cc,
  )

  -- the same behind the first lines of a longer text
  pub stop_from_is_named : StopFromIsNamed says p
  stop_from_is_named at lines k named inside from h = (
    λ e. (named_from_is_due at lines k inside).1 (from, subst (λ n. StopsAtLine lines n k (p.read (drop at lines))) e h),
    λ i. let a = ((named_from_is_due at lines k inside).0 i).1.stop in let b = h.stop in cc,
  )

  -- ---- behind the first lines of a longer text

  -- a stop lies behind the line where the reading begins
  pub stop_behind : (at : ℕ) (lines : List L) (k : ℕ) (named : Bool) → at ≤ length lines → StopsAtLine lines named k (p.read (drop at lines)) → at < k
  stop_behind at lines k named inside stops =
      let front = e.fits (drop at lines) (drop (k - 1) lines) named stops.stop in
      let counted = stops.counted in
      omega (arith, counted.0, counted.1, ap length front.whole, length-append front.front (drop (k - 1) lines), length-drop at lines, length-drop (k - 1) lines)

  -- and so do the lines that are taken
  pub taken_behind : (at : ℕ) (lines : List L) (next : ℕ) (v : V) → at ≤ length lines → TakesLines lines next v (p.read (drop at lines)) → at ≤ next
  taken_behind at lines next v inside takes =
      let text = e.took (drop at lines) (drop next lines) v takes.took in
      let within = takes.within in
      omega (arith, ap length text.whole, length-append text.front (drop next lines), length-drop at lines, length-drop next lines)

-- ---- whole texts

module _ {L V : Type 0} {says : L → Bool} {p : Part L V} (e : Exact says NoLines p) where
  -- a text is read to the last line
  taken : (lines : List L) (v : V) → p.is lines v → p.read lines ≡ Took v []
  taken lines v is = ap p.read (sym (append-nil lines)) ∙ e.again lines [] v is refl

  -- what is read is a text
  taken_is : (lines rest : List L) (v : V) → p.read lines ≡ Took v rest → p.is lines v
  taken_is lines rest v h =
      let t = e.took lines rest v h in
      let whole : t.front ≡ lines = sym (append-nil t.front) ∙ ap (λ (x : List L). t.front ++ x) (sym t.follows) ∙ sym t.whole in
      subst (λ (x : List L). p.is x v) whole t.is

  -- a text has one value
  pub one_value : HasOneValue p
  one_value lines v w h k = let a = taken lines v h in let b = taken lines w k in cc

  -- a text is what is read
  pub text_is_taken : TextIsTaken p
  text_is_taken lines v = (taken lines v, taken_is lines [] v)

  -- a stop is the bad line
  bad_of_stop : (lines : List L) (k : ℕ) (named : Bool) → StopsAtLine lines named k (p.read lines) → IsBadLineWhere p.live p.is lines k
  bad_of_stop lines k named h = record { no_text = λ v is. (let a = taken lines v is in let b = h.stop in cc); stop = line_is_stop e lines named k h }

  -- the bad line is a stop, by what is read
  stop_of_bad : (lines : List L) (k : ℕ) (reading : Reading L V) → p.read lines ≡ reading → IsBadLineWhere p.live p.is lines k → (named : Bool) × StopsAtLine lines named k (p.read lines)
  stop_of_bad lines k (Took v rest) h bad = absurd (bad.no_text v (taken_is lines rest v h))
  stop_of_bad lines k (Stop named rest) h bad = (named, stops_there e lines rest named k h bad.stop)

  -- where the reading stops is the bad line
  pub bad_line_is_stop : BadLineIsStop p
  bad_line_is_stop lines k = (λ bad. stop_of_bad lines k (p.read lines) refl bad, λ h. bad_of_stop lines k h.0 h.1)

  -- the same, by what is read
  text_or_bad_at : (lines : List L) (reading : Reading L V) → p.read lines ≡ reading → ((v : V) × p.is lines v) ⊎ ((k : ℕ) × IsBadLineWhere p.live p.is lines k)
  text_or_bad_at lines (Took v rest) h = inl (v, taken_is lines rest v h)
  text_or_bad_at lines (Stop named rest) h = let s = stops_somewhere e lines rest named h in inr (s.0, bad_of_stop lines s.0 named s.1)

  -- lines are a text or have a bad line
  pub text_or_bad : IsTextOrBad p
  text_or_bad lines = text_or_bad_at lines (p.read lines) refl

  -- lines have a bad line exactly where they are no text
  pub bad_is_no_text : BadIsNoText p
  bad_is_no_text lines = (
    λ h. h.1.no_text,
    λ none. elim (text_or_bad lines) [
      | inl h ↦ absurd (none h.0 h.1)
      | inr h ↦ h
    ],
  )

  -- lines have one bad line
  pub one_bad_line : HasOneBadLine p
  one_bad_line lines j k a b = one_stop p.live lines j k a.stop b.stop

-- ---- parts of a longer text

module _ {L V : Type 0} {says : L → Bool} {p : Part L V} (e : Exact says Anything p) where
  -- a part is read
  part_taken : (lines : List L) (count : ℕ) (v : V) → IsPart p.is lines count v → TakesLines lines count v (p.read lines)
  part_taken lines count v h = record { within = h.within; took = ap p.read (sym (take-append-drop count lines)) ∙ e.again (take count lines) (drop count lines) v h.is tt }

  -- what is read is a part
  taken_part : (lines : List L) (count : ℕ) (v : V) → TakesLines lines count v (p.read lines) → IsPart p.is lines count v
  taken_part lines count v h =
      let t = e.took lines (drop count lines) v h.took in
      record { within = h.within; is = subst (λ (x : List L). p.is x v) (front_is lines t.front count t.whole) t.is }

  -- a part is what is read
  pub part_is_taken : PartIsTaken p
  part_is_taken lines count v = (part_taken lines count v, taken_part lines count v)

  -- lines begin with one part
  pub one_part : HasOnePart p
  one_part lines m n v w h k =
      let a = part_taken lines m v h in
      let b = part_taken lines n w k in
      let one = a.took in
      let two = b.took in
      let rest : drop m lines ≡ drop n lines = cc in
      let below = a.within in
      let also = b.within in
      (omega (arith, ap length rest, length-drop m lines, length-drop n lines), cc)

  -- what is read is some part
  takes_somewhere : (lines rest : List L) (v : V) → p.read lines ≡ Took v rest → (count : ℕ) × IsPart p.is lines count v
  takes_somewhere lines rest v h =
      let t = e.took lines rest v h in (
        length t.front,
        taken_part lines (length t.front) v
            (record {
              within = omega (arith, ap length t.whole, length-append t.front rest);
              took = h
                  ∙ ap (Took v) (drop_is lines t.front rest t.whole);
            }),
      )

  -- a stop is the bad line
  bad_part_of_stop : (lines : List L) (k : ℕ) (named : Bool) → StopsAtLine lines named k (p.read lines) → IsBadLineOfPartWhere p.live p.is lines k
  bad_part_of_stop lines k named h = record { no_text = λ count v is. (let a = (part_taken lines count v is).took in let b = h.stop in cc); stop = line_is_stop e lines named k h }

  -- the bad line is a stop, by what is read
  stop_of_bad_part : (lines : List L) (k : ℕ) (reading : Reading L V) → p.read lines ≡ reading → IsBadLineOfPartWhere p.live p.is lines k → (named : Bool) × StopsAtLine lines named k (p.read lines)
  stop_of_bad_part lines k (Took v rest) h bad = let t = takes_somewhere lines rest v h in absurd (bad.no_text t.0 v t.1)
  stop_of_bad_part lines k (Stop named rest) h bad = (named, stops_there e lines rest named k h bad.stop)

  -- where the reading stops is the bad line
  pub bad_line_of_part_is_stop : BadLineOfPartIsStop p
  bad_line_of_part_is_stop lines k = (λ bad. stop_of_bad_part lines k (p.read lines) refl bad, λ h. bad_part_of_stop lines k h.0 h.1)

  -- the same, by what is read
  part_or_bad_at : (lines : List L) (reading : Reading L V) → p.read lines ≡ reading → ((count : ℕ) × (v : V) × IsPart p.is lines count v) ⊎ ((k : ℕ) × IsBadLineOfPartWhere p.live p.is lines k)
  part_or_bad_at lines (Took v rest) h = let t = takes_somewhere lines rest v h in inl (t.0, v, t.1)
  part_or_bad_at lines (Stop named rest) h = let s = stops_somewhere e lines rest named h in inr (s.0, bad_part_of_stop lines s.0 named s.1)

  -- lines begin with a part or have a bad line
  pub part_or_bad : IsPartOrBad p
  part_or_bad lines = part_or_bad_at lines (p.read lines) refl

  -- ---- at some line

  -- a part is what is read, behind the first lines of a longer text
  pub part_from_is_taken : PartFromIsTaken p
  part_from_is_taken at lines next v inside = (
    λ h.
        let t = part_taken (drop at lines) (next - at) v h.part in
        let le = h.from in
        (h.from, record { within = omega (arith, t.within, length-drop at lines); took = t.took ∙ ap (Took v) (drop_again at next lines h.from) }),
    λ h.
        let le = h.0 in
        let t = h.1 in
        let again : TakesLines (drop at lines) (next - at) v (p.read (drop at lines)) =
        record {
          within = omega (arith, t.within, length-drop at lines);
          took = t.took
              ∙ ap (Took v) (sym (drop_again at next lines h.0));
        } in
        record { from = h.0; part = taken_part (drop at lines) (next - at) v again },
  )

  -- where the reading stops is the bad line, behind the first lines of a longer text
  pub bad_line_from_is_stop : BadLineFromIsStop p
  bad_line_from_is_stop at lines k inside = (
    λ h. let s = stop_of_bad_part (drop at lines) (k - at) (p.read (drop at lines)) refl h.bad in (h.from, s.0, stop_in_text at k lines s.0 (p.read (drop at lines)) inside h.from s.1),
    λ h. record { from = h.0; bad = bad_part_of_stop (drop at lines) (k - at) h.1 (stop_in_part at k lines h.1 (p.read (drop at lines)) inside h.0 h.2) },
  )

  -- a text of the form that was read behind the first lines is one
  pub part_found : (at : ℕ) (lines : List L) (next : ℕ) (v : V) → at ≤ length lines → TakesLines lines next v (p.read (drop at lines)) → IsPartFrom p.is at lines next v
  part_found at lines next v inside takes = (part_from_is_taken at lines next v inside).1 (taken_behind e at lines next v inside takes, takes)

  -- and where the reading stopped is the bad line
  pub bad_line_found : (at : ℕ) (lines : List L) (k : ℕ) (named : Bool) → at ≤ length lines → StopsAtLine lines named k (p.read (drop at lines)) → IsBadLineFromWhere p.live p.is at lines k
  bad_line_found at lines k named inside stops = (bad_line_from_is_stop at lines k inside).1 (stop_behind e at lines k named inside stops, named, stops)

  -- at most one begins there, with one end and one value
  pub one_part_from : HasOnePartFrom p
  one_part_from at lines m n v w h k =
      let same = one_part (drop at lines) (m - at) (n - at) v w h.part k.part in
      let from_m = h.from in
      let from_n = k.from in
      (omega (arith, same.0), same.1)

  -- the part with which the lines from one on begin, in the whole text
  part_in_text : (at n : ℕ) (lines : List L) (v : V) → IsPart p.is (drop at lines) n v → IsPartFrom p.is at lines (at + n) v
  part_in_text at n lines v part =
      let same : n ≡ (at + n) - at = omega arith in
      record { from = omega arith; part = subst (λ (k : ℕ). IsPart p.is (drop at lines) k v) same part }

  -- the bad line of the lines from one on, in the whole text
  bad_in_text : (at k : ℕ) (lines : List L) → IsBadLineOfPartWhere p.live p.is (drop at lines) k → IsBadLineFromWhere p.live p.is at lines (at + k)
  bad_in_text at k lines bad =
      let counted = bad.stop.counted in
      let same : k ≡ (at + k) - at = omega arith in
      record { from = omega (arith, counted.0); bad = subst (IsBadLineOfPartWhere p.live p.is (drop at lines)) same bad }

  -- there is a bad line exactly where none begins
  pub bad_from_is_no_part : BadFromIsNoPart p
  bad_from_is_no_part at lines inside = (
    λ bad next v part. bad.1.bad.no_text (next - at) v part.part,
    λ none. elim (part_or_bad (drop at lines)) [
      | inl part ↦ absurd (none (at + part.0) part.1 (part_in_text at part.0 lines part.1 part.2))
      | inr bad ↦ (at + bad.0, bad_in_text at bad.0 lines bad.1)
    ],
  )

-- ---- one bad line behind the first lines

-- at most one line is bad there
pub one_bad_line_from : {L V : Type 0} (p : Part L V) → HasOneBadLineFrom p
one_bad_line_from p at lines j k first second =
    let same = one_stop p.live (drop at lines) (j - at) (k - at) first.bad.stop second.bad.stop in
    let from_j = first.from in
    let from_k = second.from in
    omega (arith, same)
