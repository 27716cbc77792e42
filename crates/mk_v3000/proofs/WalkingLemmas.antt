-- The parts of a V3000 table are read exactly.
use Rattle.std.proofs.Common.{◌≡◌, ℕ, zero, suc, ◌+◌, ◌≤◌, ◌<◌, Bool, true, false, Option, Some, None, List, [], ◌∷◌, ◌++◌, length, refl, sym, ap, subst, ◌∙◌, inl, inr, arith}
use Rattle.std.specs.Prelude.{◌⊎◌}
use Rattle.std.proofs.lemmas.List.{length-append}
use Rattle.mk_form.specs.Exact.{Part, Exact, Anything}
use Rattle.mk_form.specs.Joined.{Joined, joined}
use Rattle.mk_form.specs.Limit.{IsBelow, Grows, IsLimit}
use Rattle.mk_form.specs.Lines.{give}
use Rattle.mk_form.specs.Reading.{Reading, Took, Stop, and_then}
use Rattle.mk_form.specs.Sequence.{sequence}
use Rattle.mk_form.proofs.Below.{below-sequence}
use Rattle.mk_form.proofs.Joined.{exact-joined}
use Rattle.mk_form.proofs.Limit.{exact-limit, limit_of_steps}
use Rattle.mk_form.proofs.Lines.{exact-give, exact-line_where}
use Rattle.mk_form.proofs.Readings.{same_behind}
use Rattle.mk_form.proofs.Seen.{exact-seen_as}
use Rattle.mk_form.proofs.Sequence.{exact-sequence}
use Rattle.mk_tables.specs.declared.raw.RawTable.{RawTable}
use Rattle.mk_tables.specs.TableLines.{Line, is_v3000}
use Rattle.mk_v3000.specs.declared.walk.Walk.{Walk}
use Rattle.mk_v3000.specs.LogicalLines.{goes_on, closes, words_in}
use Rattle.mk_v3000.specs.V3000Table.{is_end_line}
use Rattle.mk_v3000.specs.Walk.{first_walk, step, is_done}
use Rattle.mk_v3000.specs.Walking.{one_step, no_step, unless_done, walks, walk_part, end_part, behind_counts, v3000_part}

-- ---- logical lines

-- nothing more or a part that is read exactly is read exactly
exact-unless : (b : Bool) (w : Walk) (p : Part Line Walk) → Exact is_v3000 Anything p → Exact is_v3000 Anything (unless_done b w p)
exact-unless true w p e = exact-give w
exact-unless false w p e = e

-- one logical line is read exactly
pub exact-step : (w : Walk) → Exact is_v3000 Anything (one_step w)
exact-step w = exact-joined goes_on closes (λ lines. step w (words_in lines))

-- so are no more than n of them
pub exact-walks : (n : ℕ) (w : Walk) → Exact is_v3000 Anything (walks w n)
exact-walks zero w = exact-unless (is_done w.phase) w no_step (exact-joined goes_on closes (λ lines. None))
exact-walks (suc n) w = exact-unless (is_done w.phase) w (sequence (one_step w) (λ x. walks x n)) (exact-sequence (exact-step w) (λ x. exact-walks n x))

-- ---- they grow

-- what holds of one part holds of another, unless nothing more is wanted
below-unless : (b : Bool) (w : Walk) {p q : Part Line Walk} → IsBelow p q → IsBelow (unless_done b w p) (unless_done b w q)
below-unless true w h = record { is = λ lines v i. i; live = λ lines l. l; due = λ lines d. d }
below-unless false w h = h

-- a line that is never due is below any logical line and what stands behind it
below-none : (w : Walk) (q : Walk → Part Line Walk) → IsBelow no_step (sequence (one_step w) q)
below-none w q = record {
  is = λ lines v h. absurd (let s = h.spells in cc);
  live = λ lines h. elim h [ inl h ↦ inl (inl h) | inr h ↦ absurd (let s = h.1.spells in cc) ];
  due = λ lines d. absurd d;
}

below-next : (n : ℕ) (w : Walk) → IsBelow (walks w n) (walks w (suc n))
below-next zero w = below-unless (is_done w.phase) w (below-none w (λ x. walks x 0))
below-next (suc n) w = below-unless (is_done w.phase) w (below-sequence (one_step w) (λ x. below-next n x))

-- what is left behind a logical line is shorter
pub left_shorter : (w x : Walk) (lines rest : List Line) → (one_step w).read lines ≡ Took x rest → length rest < length lines
left_shorter w x lines rest took =
    let t = (exact-step w).took lines rest x took in
    omega (arith, ap length t.whole, length-append t.front rest, ap length t.is.whole, length-append t.is.firsts (t.is.last ∷ []))

-- two ways to go on behind a logical line that agree on shorter lines are one
pub same_step : (w : Walk) (p q : Walk → Part Line Walk) (lines : List Line)
    → ((x : Walk) (rest : List Line) → length rest < length lines → (p x).read rest ≡ (q x).read rest)
    → (sequence (one_step w) p).read lines ≡ (sequence (one_step w) q).read lines
same_step w p q lines same = same_behind ((one_step w).read lines) (λ x. (p x).read) (λ x. (q x).read) (λ x rest took. same x rest (left_shorter w x lines rest took))

-- two parts that read alike do so unless nothing more is wanted
same-unless : (b : Bool) (w : Walk) (p q : Part Line Walk) (lines : List Line) → p.read lines ≡ q.read lines → (unless_done b w p).read lines ≡ (unless_done b w q).read lines
same-unless true w p q lines h = refl
same-unless false w p q lines h = h

reads-next : (n : ℕ) (w : Walk) (lines : List Line) → length lines ≤ n → (walks w (suc n)).read lines ≡ (walks w n).read lines
reads-next zero w [] few = same-unless (is_done w.phase) w (sequence (one_step w) (λ x. walks x 0)) no_step [] refl
reads-next zero w (l ∷ lines) few = absurd (omega arith)
reads-next (suc n) w lines few =
    same-unless (is_done w.phase) w (sequence (one_step w) (λ x. walks x (suc n))) (sequence (one_step w) (λ x. walks x n)) lines
    (same_step w (λ x. walks x (suc n)) (λ x. walks x n) lines (λ x rest lt. reads-next n x rest (omega arith)))

grows : (w : Walk) → Grows (walks w)
grows w = record { more = λ n. below-next n w; reads = λ n lines few. reads-next n w lines few }

-- so logical lines are what they come to
pub walk_limit : (w : Walk) → IsLimit (walks w) (walk_part w)
walk_limit w = limit_of_steps (grows w)

-- and are read exactly
pub exact-walk : (w : Walk) → Exact is_v3000 Anything (walk_part w)
exact-walk w = exact-limit (λ n. exact-walks n w) (walk_limit w)

-- ---- reading them one by one

-- where the end has been read, nothing more is
pub walk_done : (w : Walk) (lines : List Line) → is_done w.phase ≡ true → (walk_part w).read lines ≡ Took w lines
walk_done w lines done = by_count (length lines)
  where
    by_count : (n : ℕ) → (walks w n).read lines ≡ Took w lines
    by_count zero = rw done refl
    by_count (suc n) = rw done refl

-- else a logical line is, and then what stands behind it
pub walk_goes : (w : Walk) (lines : List Line) → is_done w.phase ≡ false → (walk_part w).read lines ≡ (sequence (one_step w) walk_part).read lines
walk_goes w [] goes = rw goes refl
walk_goes w (l ∷ lines) goes = rw goes (same_step w (λ x. walks x (length lines)) walk_part (l ∷ lines)
    (λ x rest lt. let few : length rest < suc (length lines) = lt
    in (walk_limit x).reads (length lines) rest (omega arith)))

-- ---- the table

-- what stands behind the counts line is read exactly
pub exact-behind_counts : Exact is_v3000 Anything behind_counts
exact-behind_counts = exact-sequence (exact-walk first_walk) (λ w. exact-seen_as (λ _. w.table) (exact-line_where is_end_line))

-- and so is a V3000 table
pub exact-v3000_part : Exact is_v3000 Anything v3000_part
exact-v3000_part = exact-sequence (exact-line_where is_v3000) (λ _. exact-behind_counts)
