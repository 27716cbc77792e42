-- Lines that are kept as far as they are looked at.
--     kept_orders      what is kept of lines asks for what the lines ask for
--     lines_more       a piece more
use Rattle.std.proofs.Common.{◌≡◌, ℕ, zero, suc, ◌+◌, ◌<◌, ◌≤◌, Bool, true, false, List, [], ◌∷◌, ◌++◌, length, take, drop, get_or, refl, sym, ap, ◌∙◌, arith, append-nil, length-append, add-one}
use Rattle.std.specs.Prelude.{◌==◌, nat_le, nat_lt, if◌then◌else◌, None}
use Rattle.std.specs.List.{flat_map}
use Rattle.std.proofs.lemmas.List.{length-take, take-append-le, take-append-drop, take_all}
use Rattle.std.proofs.lemmas.Grind.{flat_map-append}
use Rattle.std.proofs.lemmas.Bool.{leb-false, leb-true, lt-ltb}
use Rattle.std.proofs.Math.Seq.{take-suc}
use Rattle.mk_text.specs.Lines.{without_cr}
use Rattle.mk_session.specs.Orders.{Order, orders_of_line}
use Rattle.mk_talk.specs.Cutting.{cut_from, kept_more, left_from}
use Rattle.mk_talk.specs.Lines.{all_lines, last_line, orders_of_all, orders_of_raw, orders_within, rest_from, rest_of, whole_from, whole_lines}

-- ---- a text in two parts

cut_if : (b : Bool) (m : ℕ) (line one two ys : List ℕ) (p p' q q' : List (List ℕ)) → p ≡ p' ++ cut_from m one ys → q ≡ q' ++ cut_from m two ys
    → (if b then line ∷ p else q) ≡ (if b then line ∷ p' else q') ++ cut_from m (if b then one else two) ys
cut_if true m line one two ys p p' q q' e f = ap (λ (t : List (List ℕ)). line ∷ t) e
cut_if false m line one two ys p p' q q' e f = f

left_if : (b : Bool) (m : ℕ) (one two ys p q : List ℕ) → p ≡ left_from m one ys → q ≡ left_from m two ys
    → (if b then p else q) ≡ left_from m (if b then one else two) ys
left_if true m one two ys p q e f = e
left_if false m one two ys p q e f = f

pub left_append : (m : ℕ) (line xs ys : List ℕ) → left_from m line (xs ++ ys) ≡ left_from m (left_from m line xs) ys
left_append m line [] ys = refl
left_append m line (c ∷ xs) ys =
    left_if (c == 10) m (left_from m [] xs) (left_from m (kept_more m line c) xs) ys _ _ (left_append m [] xs ys) (left_append m (kept_more m line c) xs ys)

pub cut_append : (m : ℕ) (line xs ys : List ℕ) → cut_from m line (xs ++ ys) ≡ cut_from m line xs ++ cut_from m (left_from m line xs) ys
cut_append m line [] ys = refl
cut_append m line (c ∷ xs) ys =
    cut_if (c == 10) m line (left_from m [] xs) (left_from m (kept_more m line c) xs) ys _ _ _ _ (cut_append m [] xs ys) (cut_append m (kept_more m line c) xs ys)

-- ---- what is kept of a line

abbrev nothing : List ℕ
nothing = []

take_none : (n : ℕ) → nothing ≡ take n nothing
take_none zero = refl
take_none (suc n) = refl

kept_if : (b : Bool) (m : ℕ) (kept l : List ℕ) (c : ℕ) → nat_le (length kept) m ≡ b → kept ≡ take (m + 1) l
    → (if b then kept ++ c ∷ [] else kept) ≡ take (m + 1) (l ++ c ∷ [])
kept_if true m kept l c test is =
    let few = leb-true (length kept) m test in
    let short : length l ≤ m = omega (arith, few, ap length is, length-take (m + 1) l) in
    let same : kept ≡ l = is ∙ take_all (m + 1) l (omega arith) in
    ap (λ (x : List ℕ). x ++ c ∷ []) same ∙ sym (take_all (m + 1) (l ++ c ∷ []) (omega (arith, length-append l (c ∷ []))))
kept_if false m kept l c test is =
    let many = leb-false (length kept) m test in
    let long : m + 1 ≤ length l = omega (arith, many, ap length is, length-take (m + 1) l) in
    is ∙ sym (take-append-le (m + 1) l (c ∷ []) long)

kept_is : (m : ℕ) (kept l : List ℕ) (c : ℕ) → kept ≡ take (m + 1) l → kept_more m kept c ≡ take (m + 1) (l ++ c ∷ [])
kept_is m kept l c is = kept_if (nat_le (length kept) m) m kept l c refl is

-- a longer line is no command
long_line : (b : Bool) (line : List ℕ) → b ≡ true → (if b then None ∷ [] else orders_of_line (without_cr line)) ≡ None ∷ []
long_line true line is = refl
long_line false line is = absurd cc

orders_if : (b : Bool) (m : ℕ) (kept l : List ℕ) → nat_le (length l) m ≡ b → kept ≡ take (m + 1) l → orders_within m kept ≡ orders_within m l
orders_if true m kept l test is =
    ap (orders_within m) (is ∙ take_all (m + 1) l (let le = leb-true (length l) m test in omega (arith, le)))
orders_if false m kept l test is =
    let long = leb-false (length l) m test in
    let size : length kept ≡ m + 1 = omega (arith, ap length is, length-take (m + 1) l, long) in
    long_line (nat_lt m (length kept)) kept (lt-ltb m (length kept) (omega (arith, size)))
    ∙ sym (long_line (nat_lt m (length l)) l (lt-ltb m (length l) long))

pub kept_orders : (m : ℕ) (kept l : List ℕ) → kept ≡ take (m + 1) l → orders_within m kept ≡ orders_within m l
kept_orders m kept l is = orders_if (nat_le (length l) m) m kept l refl is

-- ---- what is kept of all lines

module _ (m : ℕ) where
  asked_if : (b : Bool) (kept line : List ℕ) (p p' q q' : List (List ℕ)) → orders_within m kept ≡ orders_within m line
      → flat_map (orders_within m) p ≡ flat_map (orders_within m) p' → flat_map (orders_within m) q ≡ flat_map (orders_within m) q'
      → flat_map (orders_within m) (if b then kept ∷ p else q) ≡ flat_map (orders_within m) (if b then line ∷ p' else q')
  asked_if true kept line p p' q q' e f h =
      ap (λ (x : List Order). x ++ flat_map (orders_within m) p) e ∙ ap (λ (x : List Order). orders_within m line ++ x) f
  asked_if false kept line p p' q q' e f h = h

  cut_orders : (kept line cs : List ℕ) → kept ≡ take (m + 1) line
      → flat_map (orders_within m) (cut_from m kept cs) ≡ flat_map (orders_within m) (whole_from line cs)
  cut_orders kept line [] is = refl
  cut_orders kept line (c ∷ cs) is =
      asked_if (c == 10) kept line _ _ _ _ (kept_orders m kept line is) (cut_orders [] [] cs (take_none (m + 1)))
      (cut_orders (kept_more m kept c) (line ++ c ∷ []) cs (kept_is m kept line c is))

  rest_if : (b : Bool) (p p' q q' : List ℕ) → p ≡ take (m + 1) p' → q ≡ take (m + 1) q' → (if b then p else q) ≡ take (m + 1) (if b then p' else q')
  rest_if true p p' q q' e f = e
  rest_if false p p' q q' e f = f

  left_rest : (kept line cs : List ℕ) → kept ≡ take (m + 1) line → left_from m kept cs ≡ take (m + 1) (rest_from line cs)
  left_rest kept line [] is = is
  left_rest kept line (c ∷ cs) is =
      rest_if (c == 10) _ _ _ _ (left_rest [] [] cs (take_none (m + 1))) (left_rest (kept_more m kept c) (line ++ c ∷ []) cs (kept_is m kept line c is))

-- ---- a piece more

-- the lines of what was read, and those that end in the next piece
pub lines_more : (front line piece : List ℕ) → line ≡ left_from 65536 [] front
    → orders_of_all (whole_lines (front ++ piece)) ≡ orders_of_all (whole_lines front) ++ orders_of_all (cut_from 65536 line piece)
lines_more front line piece is =
    sym (cut_orders 65536 [] [] (front ++ piece) (take_none 65537))
    ∙ ap orders_of_all (cut_append 65536 [] front piece)
    ∙ flat_map-append orders_of_raw (cut_from 65536 [] front) (cut_from 65536 (left_from 65536 [] front) piece)
    ∙ ap (λ (x : List Order). x ++ orders_of_all (cut_from 65536 (left_from 65536 [] front) piece)) (cut_orders 65536 [] [] front (take_none 65537))
    ∙ ap (λ (x : List ℕ). orders_of_all (whole_lines front) ++ orders_of_all (cut_from 65536 x piece)) (sym is)

pub left_more : (front line piece : List ℕ) → line ≡ left_from 65536 [] front → left_from 65536 [] (front ++ piece) ≡ left_from 65536 line piece
left_more front line piece is = left_append 65536 [] front piece ∙ ap (λ (x : List ℕ). left_from 65536 x piece) (sym is)

last_orders : (rest : List ℕ) → orders_of_raw rest ≡ orders_of_all (last_line rest)
last_orders [] = refl
last_orders (c ∷ cs) = sym (append-nil (orders_of_raw (c ∷ cs)))

-- the last line, which may lack its LF
pub lines_all : (text line : List ℕ) → line ≡ left_from 65536 [] text → orders_of_all (all_lines text) ≡ orders_of_all (whole_lines text) ++ orders_of_raw line
lines_all text line is =
    flat_map-append orders_of_raw (whole_lines text) (last_line (rest_of text))
    ∙ ap (λ (x : List Order). orders_of_all (whole_lines text) ++ x)
    (sym (kept_orders 65536 line (rest_of text) (is ∙ left_rest 65536 [] [] text (take_none 65537)) ∙ last_orders (rest_of text)))

-- ---- the bytes of a piece, one after the other

module _ (line piece : List ℕ) (i d : ℕ) (short : i < length piece) where
  next : take (i + 1) piece ≡ take i piece ++ get_or piece i d ∷ []
  next = rw add-one (take-suc piece i d short)

  pub orders_next : orders_of_all (cut_from 65536 line (take (i + 1) piece))
      ≡ orders_of_all (cut_from 65536 line (take i piece)) ++ orders_of_all (cut_from 65536 (left_from 65536 line (take i piece)) (get_or piece i d ∷ []))
  orders_next =
      ap (λ (x : List ℕ). orders_of_all (cut_from 65536 line x)) next
      ∙ ap orders_of_all (cut_append 65536 line (take i piece) (get_or piece i d ∷ []))
      ∙ flat_map-append orders_of_raw (cut_from 65536 line (take i piece)) (cut_from 65536 (left_from 65536 line (take i piece)) (get_or piece i d ∷ []))

  pub left_next : left_from 65536 line (take (i + 1) piece) ≡ left_from 65536 (left_from 65536 line (take i piece)) (get_or piece i d ∷ [])
  left_next = ap (left_from 65536 line) next ∙ left_append 65536 line (take i piece) (get_or piece i d ∷ [])

  -- the orders of the piece, from those of its first bytes
  pub orders_behind : (more : List Order) × (orders_of_all (cut_from 65536 line piece) ≡ orders_of_all (cut_from 65536 line (take (i + 1) piece)) ++ more)
  orders_behind = (
    orders_of_all (cut_from 65536 (left_from 65536 line (take (i + 1) piece)) (drop (i + 1) piece)),
    ap (λ (x : List ℕ). orders_of_all (cut_from 65536 line x)) (sym (take-append-drop (i + 1) piece))
        ∙ ap orders_of_all (cut_append 65536 line (take (i + 1) piece) (drop (i + 1) piece))
        ∙ flat_map-append orders_of_raw (cut_from 65536 line (take (i + 1) piece)) (cut_from 65536 (left_from 65536 line (take (i + 1) piece)) (drop (i + 1) piece)),
  )
