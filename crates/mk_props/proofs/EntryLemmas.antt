-- Numbers behind a blank, and entries behind their count: what is computed is what the columns hold.
use Rattle.std.proofs.Common.{◌≡◌, ℕ, zero, suc, ◌+◌, ◌*◌, ◌≤◌, ◌&&◌, eqb, leb, List, [], ◌∷◌, length, Option, Some, refl, sym, ap, ◌∙◌, subst, arith}
use Rattle.std.specs.Prelude.{ℤ, pos, negsuc, slice_get}
use Rattle.std.proofs.lemmas.Bool.{leb-true, le-leb}
use Rattle.mk_text.specs.Columns.{columns}
use Rattle.mk_text.specs.Fields.{IsField, field_of}
use Rattle.mk_text.proofs.ForCallers.{both, both_read, test_passed, field_found, field_given}
use Rattle.mk_props.specs.declared.property.Pair.{Pair}
use Rattle.mk_props.specs.declared.property.LinkEntry.{LinkEntry}
use Rattle.mk_props.specs.Entries.{IsSpacedNumber, AreCounted, IsPairAt, ArePairs, IsLinkAt}
use Rattle.mk_text.specs.Options.{◌>>=◌, count_in, entries_of}
use Rattle.mk_props.specs.Reading.{cell_of, number_of, count_of, pair_of, pairs_of, link_of, links_of}
use Rattle.mk_props.proofs.ColumnLemmas.{blank_column, column_blank}

-- ---- numbers

-- a number behind a blank, as it was read
pub number_found : (line : List ℕ) (at : ℕ) (n : ℤ) → 1 ≤ at → number_of line at ≡ Some n → IsSpacedNumber line at n
unfolding number_of
number_found line at n first read =
    let passed = test_passed (eqb (cell_of line at) 32) (field_of line (at + 1) (at + 3)) n read in
    record { space = blank_column line at first passed.0; number = field_found line (at + 1) (at + 3) n passed.1 }

-- and back
pub number_given : (line : List ℕ) (at : ℕ) (n : ℤ) → 1 ≤ at → IsSpacedNumber line at n → number_of line at ≡ Some n
unfolding number_of
number_given line at n first is = rw (column_blank line at first is.space) (field_given line (at + 1) (at + 3) n is.number)

-- a column behind another
later : (at k : ℕ) → 1 ≤ at → 1 ≤ at + k
later at k first = omega arith

-- ---- counts

-- a number from 1 to most
record IsCount (most : ℕ) (cells : List ℕ) (n : ℕ) : Type 0 where
  some : 1 ≤ n
  no_more : n ≤ most
  count : IsField cells (pos n)

-- a number that passed is one from 1 to most
counted_in : (most : ℕ) (z : ℤ) (n : ℕ) → count_in most z ≡ Some n → (z ≡ pos n) × (1 ≤ n) × (n ≤ most)
counted_in most (pos m) n read =
    let passed = test_passed (leb 1 m && leb m most) (Some m) n read in
    let both = both (leb 1 m) (leb m most) passed.0 in
    let same : m ≡ n = cc in
    (ap pos same, subst (λ (k : ℕ). 1 ≤ k) same (leb-true 1 m both.0), subst (λ (k : ℕ). k ≤ most) same (leb-true m most both.1))
counted_in most (negsuc m) n read = absurd cc

-- a count that was read stands in its columns
count_found : (most : ℕ) (line : List ℕ) (at n : ℕ) → count_of most line at ≡ Some n → IsCount most (columns line at (at + 2)) n
unfolding count_of
count_found most line at n read =
    let steps = both_read (field_of line at (at + 2)) (count_in most) n read in
    let is = counted_in most steps.0 n steps.2 in
    record { some = is.1; no_more = is.2; count = field_found line at (at + 2) (pos n) (steps.1 ∙ ap Some is.0) }

-- and one that stands there is read
count_given : (most : ℕ) (line : List ℕ) (at n : ℕ) → IsCount most (columns line at (at + 2)) n → count_of most line at ≡ Some n
unfolding count_of
count_given most line at n is =
    rw (field_given line at (at + 2) (pos n) is.count, le-leb 1 n is.some, le-leb n most is.no_more) refl

-- the number 1 is a count up to 1
pub one_found : (line : List ℕ) (at n : ℕ) → count_of 1 line at ≡ Some n → IsField (columns line at (at + 2)) (pos 1)
one_found line at n read =
    let is = count_found 1 line at n read in
    let one : n ≡ 1 = omega arith in
    subst (λ (k : ℕ). IsField (columns line at (at + 2)) (pos k)) one is.count

-- and back
pub one_given : (line : List ℕ) (at : ℕ) → IsField (columns line at (at + 2)) (pos 1) → count_of 1 line at ≡ Some 1
one_given line at is = count_given 1 line at 1 (record { some = omega arith; no_more = omega arith; count = is })

-- ---- entries

-- each entry stands in its place, counted from one on
abbrev Stand : {X : Type 0} → (ℕ → Option X) → ℕ → List X → Type 0
Stand {X} entry i xs = (k : ℕ) (x : X) → slice_get xs k ≡ Some x → entry (i + k) ≡ Some x

-- with one more at the front
stand_more : {X : Type 0} (entry : ℕ → Option X) (i : ℕ) (x : X) (xs : List X)
    → entry i ≡ Some x → Stand entry (i + 1) xs → Stand entry i (x ∷ xs)
stand_more entry i x xs first others zero y is =
    let here : i + 0 ≡ i = omega arith in
    ap entry here ∙ first ∙ is
stand_more entry i x xs first others (suc k) y is =
    let there : i + suc k ≡ i + 1 + k = omega arith in
    ap entry there ∙ others k y is

-- entries that were read stand in their places
entries_found : {X : Type 0} (entry : ℕ → Option X) (n i : ℕ) (xs : List X)
    → entries_of entry n i ≡ Some xs → (length xs ≡ n) × Stand entry i xs
entries_found entry zero i [] read = (refl, λ k x is. absurd cc)
entries_found entry zero i (x ∷ xs) read = absurd cc
entries_found {X} entry (suc n) i xs read =
    let first = both_read (entry i) (λ x. entries_of entry n (i + 1) >>= λ ys. Some (x ∷ ys)) xs read in
    let others = both_read (entries_of entry n (i + 1)) (λ ys. Some (first.0 ∷ ys)) xs first.2 in
    let are = entries_found entry n (i + 1) others.0 others.1 in
    let whole : first.0 ∷ others.0 ≡ xs = cc in
    subst (λ (ys : List X). (length ys ≡ suc n) × Stand entry i ys) whole (ap suc are.0, stand_more entry i first.0 others.0 first.1 are.1)

-- and those that stand there are read
entries_given : {X : Type 0} (entry : ℕ → Option X) (i : ℕ) (xs : List X)
    → Stand entry i xs → entries_of entry (length xs) i ≡ Some xs
entries_given entry i [] each = refl
entries_given {X} entry i (x ∷ xs) each =
    let here : i ≡ i + 0 = omega arith in
    let first : entry i ≡ Some x = ap entry here ∙ each 0 x refl in
    let others : Stand entry (i + 1) xs = λ k y is. let there : i + 1 + k ≡ i + suc k = omega arith in ap entry there ∙ each (suc k) y is in
    rw (first, entries_given entry (i + 1) xs others) refl

-- entries behind their count, where reading one gives what it is
pub counted_found : {X : Type 0} (most : ℕ) (line : List ℕ) (at : ℕ) (entry : ℕ → Option X) (Is : ℕ → X → Type 0) (xs : List X)
    → ((i : ℕ) (x : X) → entry i ≡ Some x → Is i x) → (count_of most line at >>= λ n. entries_of entry n 0) ≡ Some xs
    → AreCounted most (columns line at (at + 2)) Is xs
counted_found most line at entry Is xs found read =
    let steps = both_read (count_of most line at) (λ n. entries_of entry n 0) xs read in
    let counted = count_found most line at steps.0 steps.1 in
    let are = entries_found entry steps.0 0 xs steps.2 in
    record {
      some = omega (arith, counted.some);
      no_more = omega (arith, counted.no_more);
      count = subst (λ (n : ℕ). IsField (columns line at (at + 2)) (pos n)) (sym are.0) counted.count;
      each = λ i x is. let here : i ≡ 0 + i = omega arith in found i x (ap entry here ∙ are.1 i x is);
    }

-- and where what an entry is gives the reading of it
pub counted_given : {X : Type 0} (most : ℕ) (line : List ℕ) (at : ℕ) (entry : ℕ → Option X) (Is : ℕ → X → Type 0) (xs : List X)
    → ((i : ℕ) (x : X) → Is i x → entry i ≡ Some x) → AreCounted most (columns line at (at + 2)) Is xs
    → (count_of most line at >>= λ n. entries_of entry n 0) ≡ Some xs
counted_given most line at entry Is xs given are =
    let counted = count_given most line at (length xs) (record { some = are.some; no_more = are.no_more; count = are.count }) in
    rw counted (entries_given entry 0 xs (λ k x is. let there : 0 + k ≡ k = omega arith in ap entry there ∙ given k x (are.each k x is)))

-- ---- pairs

-- a pair that was read stands there
pub pair_found : (line : List ℕ) (at : ℕ) (pair : Pair) → 1 ≤ at → pair_of line at ≡ Some pair → IsPairAt line at pair
unfolding pair_of
pair_found line at pair first read =
    let atom = both_read _ _ pair read in
    let value = both_read _ _ pair atom.2 in
    let whole : record { atom = atom.0; value = value.0 } ≡ pair = cc in
    record {
      atom = number_found line at pair.atom first (atom.1 ∙ ap (λ (p : Pair). Some p.atom) whole);
      value = number_found line (at + 4) pair.value (later at 4 first) (value.1 ∙ ap (λ (p : Pair). Some p.value) whole);
    }

-- and one that stands there is read
pub pair_given : (line : List ℕ) (at : ℕ) (pair : Pair) → 1 ≤ at → IsPairAt line at pair → pair_of line at ≡ Some pair
unfolding pair_of
pair_given line at pair first is =
    rw (number_given line at pair.atom first is.atom, number_given line (at + 4) pair.value (later at 4 first) is.value) refl

-- the pairs behind a count
pub pairs_found : (most : ℕ) (line : List ℕ) (at : ℕ) (pairs : List Pair) → 1 ≤ at
    → pairs_of most line at ≡ Some pairs → ArePairs most line at pairs
unfolding pairs_of
pairs_found most line at pairs first read =
    counted_found most line at (λ i. pair_of line (at + 3 + 8 * i)) (λ i pair. IsPairAt line (at + 3 + 8 * i) pair) pairs
    (λ i pair. pair_found line (at + 3 + 8 * i) pair (omega arith)) read

-- and back
pub pairs_given : (most : ℕ) (line : List ℕ) (at : ℕ) (pairs : List Pair) → 1 ≤ at
    → ArePairs most line at pairs → pairs_of most line at ≡ Some pairs
unfolding pairs_of
pairs_given most line at pairs first are =
    counted_given most line at (λ i. pair_of line (at + 3 + 8 * i)) (λ i pair. IsPairAt line (at + 3 + 8 * i) pair) pairs
    (λ i pair. pair_given line (at + 3 + 8 * i) pair (omega arith)) are

-- ---- links

-- a link entry that was read stands there
link_found : (line : List ℕ) (at : ℕ) (link : LinkEntry) → 1 ≤ at → link_of line at ≡ Some link → IsLinkAt line at link
unfolding link_of
link_found line at link first read =
    let atom = both_read _ _ link read in
    let most = both_read _ _ link atom.2 in
    let from = both_read _ _ link most.2 in
    let to = both_read _ _ link from.2 in
    let whole : record { atom = atom.0; most = most.0; from = from.0; to = to.0 } ≡ link = cc in
    record {
      atom = number_found line at link.atom first (atom.1 ∙ ap (λ (l : LinkEntry). Some l.atom) whole);
      most = number_found line (at + 4) link.most (later at 4 first) (most.1 ∙ ap (λ (l : LinkEntry). Some l.most) whole);
      from = number_found line (at + 8) link.from (later at 8 first) (from.1 ∙ ap (λ (l : LinkEntry). Some l.from) whole);
      to = number_found line (at + 12) link.to (later at 12 first) (to.1 ∙ ap (λ (l : LinkEntry). Some l.to) whole);
    }

-- and one that stands there is read
link_given : (line : List ℕ) (at : ℕ) (link : LinkEntry) → 1 ≤ at → IsLinkAt line at link → link_of line at ≡ Some link
unfolding link_of
link_given line at link first is =
    rw (
      number_given line at link.atom first is.atom,
      number_given line (at + 4) link.most (later at 4 first) is.most,
      number_given line (at + 8) link.from (later at 8 first) is.from,
      number_given line (at + 12) link.to (later at 12 first) is.to,
    ) refl

-- the link entries of a line
abbrev AreLinks : List ℕ → List LinkEntry → Type 0
AreLinks line links = AreCounted 4 (columns line 7 9) (λ i link. IsLinkAt line (10 + 16 * i) link) links

-- those that were read
pub links_found : (line : List ℕ) (links : List LinkEntry) → links_of line ≡ Some links → AreLinks line links
unfolding links_of
links_found line links read =
    counted_found 4 line 7 (λ i. link_of line (10 + 16 * i)) (λ i link. IsLinkAt line (10 + 16 * i) link) links
    (λ i link. link_found line (10 + 16 * i) link (omega arith)) read

-- and back
pub links_given : (line : List ℕ) (links : List LinkEntry) → AreLinks line links → links_of line ≡ Some links
unfolding links_of
links_given line links are =
    counted_given 4 line 7 (λ i. link_of line (10 + 16 * i)) (λ i link. IsLinkAt line (10 + 16 * i) link) links
    (λ i link. link_given line (10 + 16 * i) link (omega arith)) are
