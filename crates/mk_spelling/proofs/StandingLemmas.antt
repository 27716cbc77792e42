-- Where the parts of a line stand that is put together from them.
use Rattle.std.proofs.Common.{◌≡◌, ℕ, zero, suc, ◌+◌, ◌-◌, ◌*◌, ◌≤◌, List, [], ◌∷◌, ◌++◌, length, take, drop, replicate, refl, sym, ap, ◌∙◌, arith, Some, append_assoc, subst, lit≤}
use Rattle.std.specs.Prelude.{slice_get, ℤ}
use Rattle.std.specs.List.{flat_map, AllByRecursion}
use Rattle.std.proofs.lemmas.List.{take-append-le, drop-append-le, drop-drop, drop_at, length-append, length-drop, length-replicate, replicate-append-replicate, append-nil}
use Rattle.mk_text.specs.Columns.{columns, standing}
use Rattle.mk_text.specs.Fields.{IsField, field_of, field_in}
use Rattle.mk_text.proofs.ForCallers.{columns_between}
use Rattle.mk_props.specs.Entries.{IsSpacedNumber}
use Rattle.mk_spelling.specs.TableSpelling.{three, spaced, FitsThree}
use Rattle.mk_spelling.proofs.ThreeLemmas.{length-three, three_is_read, three_is_field}

-- ---- columns of parts

-- columns that end within the front are those of the front
pub standing_front : (front back : List ℕ) (a b : ℕ) → 1 ≤ a → a ≤ b → b ≤ length front → standing (front ++ back) a b ≡ standing front a b
standing_front front back a b first order within =
    let start : a - 1 ≤ length front = omega arith in
    let long : b - (a - 1) ≤ length (drop (a - 1) front) = omega (arith, length-drop (a - 1) front) in
    ap (take (b - (a - 1))) (drop-append-le (a - 1) front back start) ∙ take-append-le (b - (a - 1)) (drop (a - 1) front) back long

-- columns behind the front are those of the back
standing_past : (front back : List ℕ) (n a b : ℕ) → length front ≡ n → 1 ≤ a → a ≤ b → standing (front ++ back) (n + a) (n + b) ≡ standing back a b
standing_past front back n a b size first order =
    let start : n + a - 1 ≡ n + (a - 1) = omega arith in
    let many : n + b - (n + a - 1) ≡ b - (a - 1) = omega arith in
    let left : drop (n + a - 1) (front ++ back) ≡ drop (a - 1) back =
    ap (λ (k : ℕ). drop k (front ++ back)) start ∙ sym (drop-drop (a - 1) n (front ++ back)) ∙ ap (drop (a - 1)) (drop_at front back n size) in
    ap (take (n + b - (n + a - 1))) left ∙ ap (λ (k : ℕ). take k (drop (a - 1) back)) many

-- blanks behind the line are its columns
padded : (line : List ℕ) (n a b : ℕ) → 1 ≤ a → a ≤ b → standing (line ++ replicate (n + b) 32) a b ≡ columns line a b
unfolding columns
padded line n a b first order =
    let swapped : n + b ≡ b + n = omega arith in
    let pads : replicate (n + b) 32 ≡ replicate b 32 ++ replicate n 32 = ap (λ (k : ℕ). replicate k 32) swapped ∙ sym (replicate-append-replicate b n 32) in
    let size : b ≤ length (line ++ replicate b 32) = omega (arith, length-append line (replicate b 32), length-replicate {A = ℕ} b 32) in
    ap (λ (pad : List ℕ). standing (line ++ pad) a b) pads ∙ ap (λ (xs : List ℕ). standing xs a b) (sym (append_assoc line (replicate b 32) (replicate n 32)))
    ∙ standing_front (line ++ replicate b 32) (replicate n 32) a b first order size

-- blanks at a line's end change no columns
pub columns_padded : (line : List ℕ) (n a b : ℕ) → 1 ≤ a → a ≤ b → columns (line ++ replicate n 32) a b ≡ columns line a b
unfolding columns
columns_padded line n a b first order =
    ap (λ (xs : List ℕ). standing xs a b) (append_assoc line (replicate n 32) (replicate b 32) ∙ ap (λ (pad : List ℕ). line ++ pad) (replicate-append-replicate n b 32))
    ∙ padded line n a b first order

-- columns behind the front are those of the back, blank past its end
columns_past : (front back : List ℕ) (n a b : ℕ) → length front ≡ n → 1 ≤ a → a ≤ b → columns (front ++ back) (n + a) (n + b) ≡ columns back a b
unfolding columns
columns_past front back n a b size first order =
    ap (λ (xs : List ℕ). standing xs (n + a) (n + b)) (append_assoc front back (replicate (n + b) 32))
    ∙ standing_past front (back ++ replicate (n + b) 32) n a b size first order ∙ padded back n a b first order

-- columns that end within the front
columns_front : (front back : List ℕ) (a b : ℕ) → 1 ≤ a → a ≤ b → b ≤ length front → columns (front ++ back) a b ≡ columns front a b
unfolding columns
columns_front front back a b first order within =
    ap (λ (xs : List ℕ). standing xs a b) (append_assoc front back (replicate b 32)) ∙ standing_front front (back ++ replicate b 32) a b first order within
    ∙ sym (standing_front front (replicate b 32) a b first order within)

-- all columns of a text
pub columns_whole : (text : List ℕ) (n : ℕ) → length text ≡ n → columns text 1 n ≡ text
columns_whole text n size = ap (λ (xs : List ℕ). columns xs 1 n) (sym (append-nil text)) ∙ columns_between [] text [] 1 n refl (omega arith)

-- ---- parts

-- the columns behind the first n begin with those of the text
pub record StandsBehind (line : List ℕ) (n : ℕ) (text : List ℕ) : Type 0 where
  pub inside : n + length text ≤ length line
  pub same : (a b : ℕ) → 1 ≤ a → a ≤ b → b ≤ length text → columns line (n + a) (n + b) ≡ columns text a b

-- a text stands at the front of a line
pub first : (text after : List ℕ) → StandsBehind (text ++ after) 0 text
first text after =
    record {
      inside = omega (arith, length-append text after);
      same = λ a b one order within.
          let from : 0 + a ≡ a = omega arith in
          let to : 0 + b ≡ b = omega arith in
          ap (λ (k : ℕ). columns (text ++ after) k (0 + b)) from ∙ ap (columns (text ++ after) a) to ∙ columns_front text after a b one order within;
    }

-- or is the line
pub alone : (text : List ℕ) → StandsBehind text 0 text
alone text = subst (λ (line : List ℕ). StandsBehind line 0 text) (append-nil text) (first text [])

-- behind another text
pub behind : {back text : List ℕ} {n : ℕ} (front : List ℕ) (m : ℕ) → length front ≡ m → StandsBehind back n text → StandsBehind (front ++ back) (m + n) text
behind {back} {text} {n} front m size stands =
    record {
      inside = omega (arith, length-append front back, stands.inside);
      same = λ a b one order within.
          let from : m + n + a ≡ m + (n + a) = omega arith in
          let to : m + n + b ≡ m + (n + b) = omega arith in
          ap (λ (k : ℕ). columns (front ++ back) k (m + n + b)) from ∙ ap (columns (front ++ back) (m + (n + a))) to
          ∙ columns_past front back m (n + a) (n + b) size (omega arith) (omega arith) ∙ stands.same a b one order within;
    }

-- a part of a text that stands there
pub within : {line text part : List ℕ} {n : ℕ} (m : ℕ) → StandsBehind line n text → StandsBehind text m part → StandsBehind line (n + m) part
within {line} {text} {part} {n} m stands has =
    record {
      inside = omega (arith, stands.inside, has.inside);
      same = λ a b one order fits.
          let from : n + m + a ≡ n + (m + a) = omega arith in
          let to : n + m + b ≡ n + (m + b) = omega arith in
          let long : m + b ≤ length text = omega (arith, has.inside) in
          ap (λ (k : ℕ). columns line k (n + m + b)) from ∙ ap (columns line (n + (m + a))) to
          ∙ stands.same (m + a) (m + b) (omega arith) (omega arith) long ∙ has.same a b one order fits;
    }

-- the text that stands there
pub text_at : {line text : List ℕ} {n : ℕ} (size a b : ℕ) → StandsBehind line n text → length text ≡ size → 1 ≤ size → a ≡ n + 1 → b ≡ n + size → columns line a b ≡ text
text_at {line} {text} {n} size a b stands is some from to =
    ap (λ (k : ℕ). columns line k b) from ∙ ap (columns line (n + 1)) to
    ∙ stands.same 1 size (lit≤ tt) some (omega arith) ∙ columns_whole text size is

-- ---- numbers

-- a number in three columns
pub field_at : {line : List ℕ} {n : ℕ} (z : ℤ) (a b : ℕ) → FitsThree z → StandsBehind line n (three z) → a ≡ n + 1 → b ≡ n + 3 → IsField (columns line a b) z
field_at {line} z a b fits stands from to =
    subst (λ (cells : List ℕ). IsField cells z) (sym (text_at 3 a b stands (length-three z fits) (lit≤ tt) from to)) (three_is_field z fits)

-- it is read
pub read_at : {line : List ℕ} {n : ℕ} (z : ℤ) (a b : ℕ) → FitsThree z → StandsBehind line n (three z) → a ≡ n + 1 → b ≡ n + 3 → field_of line a b ≡ Some z
unfolding field_of
read_at {line} z a b fits stands from to = ap field_in (text_at 3 a b stands (length-three z fits) (lit≤ tt) from to) ∙ three_is_read z fits

-- a blank and a number are four columns
pub length-spaced : (z : ℤ) → FitsThree z → length (spaced z) ≡ 4
length-spaced z fits = ap suc (length-three z fits)

-- the number behind the blank
number_in_spaced : {line : List ℕ} {n : ℕ} (z : ℤ) → StandsBehind line n (spaced z) → StandsBehind line (n + 1) (three z)
number_in_spaced z stands = within 1 stands (behind (32 ∷ []) 1 refl (alone (three z)))

-- a number behind a blank is read
pub spaced_read_at : {line : List ℕ} {n : ℕ} (z : ℤ) (a b : ℕ) → FitsThree z → StandsBehind line n (spaced z) → a ≡ n + 2 → b ≡ n + 4 → field_of line a b ≡ Some z
spaced_read_at z a b fits stands from to = read_at z a b fits (number_in_spaced z stands) (omega arith) (omega arith)

-- and stands behind the blank
pub spaced_at : {line : List ℕ} {n : ℕ} (z : ℤ) (at : ℕ) → FitsThree z → StandsBehind line n (spaced z) → at ≡ n + 1 → IsSpacedNumber line at z
spaced_at {line} {n} z at fits stands from =
    record {
      space = text_at 1 at at (within 0 stands (first (32 ∷ []) (three z))) refl (lit≤ tt) (omega arith) (omega arith);
      number = field_at z (at + 1) (at + 3) fits (number_in_spaced z stands) (omega arith) (omega arith);
    }

-- ---- entries

-- each of some entries of one width
pub entry_at : {X : Type 0} (width : ℕ) (text : X → List ℕ) (xs : List X) → AllByRecursion (λ x. length (text x) ≡ width) xs
    → (i : ℕ) (x : X) → slice_get xs i ≡ Some x → StandsBehind (flat_map text xs) (width * i) (text x)
entry_at width text [] wide i x is = absurd cc
entry_at {X} width text (y ∷ ys) wide zero x is =
    let same : y ≡ x = cc in
    let none : 0 ≡ width * 0 = omega arith in
    subst (λ (k : ℕ). StandsBehind (text y ++ flat_map text ys) k (text x)) none
    (subst (λ (z : X). StandsBehind (text y ++ flat_map text ys) 0 (text z)) same (first (text y) (flat_map text ys)))
entry_at width text (y ∷ ys) wide (suc i) x is =
    let more : width + width * i ≡ width * suc i = omega arith in
    subst (λ (k : ℕ). StandsBehind (text y ++ flat_map text ys) k (text x)) more
    (behind (text y) width wide.0 (entry_at width text ys wide.1 i x is))
