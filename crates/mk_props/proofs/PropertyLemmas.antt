-- The property that is computed for a line is the property that the line is.
use Rattle.std.proofs.Common.{◌≡◌, ℕ, zero, suc, ◌<◌, ◌⊎◌, inl, inr, Bool, true, false, cond, ◌&&◌, ◌||◌, List, [], ◌∷◌, ◌++◌, length, get_or, Option, Some, None, Result, Ok, Err, refl, sym, ap, ◌∙◌, subst, arith, lit≤, lit<}
use Rattle.std.specs.Prelude.{codes, option_map, IfOk}
use Rattle.std.specs.List.{AllByRecursion}
use Rattle.mk_text.specs.Columns.{columns, is_space}
use Rattle.mk_text.specs.Fields.{field_of}
use Rattle.mk_props.specs.declared.fault.LineFault.{LineFault}
use Rattle.mk_props.specs.declared.fault.LineFault.TheVariants.{Bad, Memory}
use Rattle.mk_props.specs.declared.property.Pair.{Pair}
use Rattle.mk_props.specs.declared.property.Property.{Property}
use Rattle.mk_props.specs.declared.property.Property.TheVariants as kinds
use Rattle.mk_props.specs.Entries.{IsPairLine}
use Rattle.mk_props.specs.Property.{known_words, IsOtherLine, IsSkipLine, IsPassed, IsProperty}
use Rattle.mk_text.specs.Options.{◌>>=◌, not_negative}
use Rattle.mk_props.specs.Reading.{Gives, cell_of, spells, pairs_of, links_of, list_of, order_of, logic_of, m_line_of, skip_of, letter_line_of, property_of, PropertiesAreRead}
use Rattle.mk_props.proofs.ColumnLemmas.{GoesOnWith, begins_from, begins_to, word_from, letter_found, word_found, word_spelled}
use Rattle.mk_text.proofs.ForCallers.{test_passed}
use Rattle.mk_props.proofs.EntryLemmas.{pairs_found, pairs_given, links_found, links_given}
use Rattle.mk_props.proofs.KindLemmas.{order_found, order_given, list_found, list_given, logic_found, logic_given, skip_found, skip_given}

-- ---- what the computation finds

-- what is read by a test is read on one side of it
by_test : {X R : Type 0} (test : Bool) (this other : Option X) (x : X) → cond test this other ≡ Some x
    → (test ≡ true → this ≡ Some x → R) → (test ≡ false → other ≡ Some x → R) → R
by_test true this other x read on_true on_false = on_true refl read
by_test false this other x read on_true on_false = on_false refl read

-- what is read as one kind is that kind of what was read
one_kind : {X : Type 0} (line : List ℕ) (kind : X → Property) (o : Option X) (property : Property)
    → ((x : X) → o ≡ Some x → IsProperty line (kind x)) → option_map kind o ≡ Some property → IsProperty line property
one_kind line kind (Some x) property is read = let same : kind x ≡ property = cc in subst (IsProperty line) same (is x refl)
one_kind line kind None property is read = absurd cc

-- what isn't one of some words is in no place among them
not_among : (word : List ℕ) (words : List (List ℕ)) → AllByRecursion (λ other. word ≡ other → ⊥) words
    → (k : ℕ) → k < length words → get_or words k word ≡ word → ⊥
not_among word [] none k within is = absurd (omega arith)
not_among word (w ∷ words) none zero within is = none.0 (sym is)
not_among word (w ∷ words) none (suc k) within is = not_among word words none.1 k (omega arith) is

module _ (line : List ℕ) (begins : columns line 1 3 ≡ codes "M  ") where
  -- the word that begins with `M  ` and goes on so
  m_word : (word : List ℕ) → length word ≡ 3 → spells line 4 word ≡ true → columns line 1 6 ≡ codes "M  " ++ word
  m_word word three spelled = word_found line (codes "M  ") word begins three spelled

  -- where the columns 4 to 6 don't spell a word, the line doesn't begin with it
  absent : {d e f : ℕ} → spells line 4 (d ∷ e ∷ f ∷ []) ≡ false → columns line 1 6 ≡ 77 ∷ 32 ∷ 32 ∷ d ∷ e ∷ f ∷ [] → ⊥
  absent not_spelled is = let spelled = word_spelled line is in cc

  -- a line of pairs
  pairs_found_as : (word : List ℕ) (most : ℕ) (kind : List Pair → Property) (property : Property) → length word ≡ 3
      → ((pairs : List Pair) → IsPairLine (codes "M  " ++ word) most line pairs → IsProperty line (kind pairs))
      → spells line 4 word ≡ true → option_map kind (pairs_of most line 7) ≡ Some property → IsProperty line property
  pairs_found_as word most kind property three is spelled read =
      one_kind line kind (pairs_of most line 7) property
      (λ pairs found. is pairs (record { begins = m_word word three spelled; entries = pairs_found most line 7 pairs (lit≤ tt) found })) read

  -- what is read of it by the columns 4 to 6
  m_line_found : (property : Property) → m_line_of line ≡ Some property → IsProperty line property
  unfolding m_line_of
  m_line_found p read =
      by_test _ _ _ p read (λ is this. let same : kinds.End ≡ p = cc in subst (IsProperty line) same (m_word (codes "END") refl is)) (λ no_end read.
      by_test _ _ _ p read (pairs_found_as (codes "CHG") 8 kinds.Charge p refl (λ pairs is. is)) (λ no_charge read.
      by_test _ _ _ p read (pairs_found_as (codes "RAD") 8 kinds.Radical p refl (λ pairs is. is)) (λ no_radical read.
      by_test _ _ _ p read (pairs_found_as (codes "ISO") 8 kinds.Isotope p refl (λ pairs is. is)) (λ no_isotope read.
      by_test _ _ _ p read (pairs_found_as (codes "RBC") 8 kinds.RingBonds p refl (λ pairs is. is)) (λ no_ring_bonds read.
      by_test _ _ _ p read (pairs_found_as (codes "SUB") 8 kinds.Substitution p refl (λ pairs is. is)) (λ no_substitution read.
      by_test _ _ _ p read (pairs_found_as (codes "UNS") 8 kinds.Unsaturation p refl (λ pairs is. is)) (λ no_unsaturation read.
      by_test _ _ _ p read (pairs_found_as (codes "RGP") 8 kinds.Label p refl (λ pairs is. is)) (λ no_label read.
      by_test _ _ _ p read (pairs_found_as (codes "APO") 2 kinds.Points p refl (λ pairs is. is)) (λ no_points read.
      by_test _ _ _ p read (λ is this.
      one_kind line kinds.Link (links_of line) p (λ links found. record { begins = m_word (codes "LIN") refl is; entries = links_found line links found }) this) (λ no_link read.
      by_test _ _ _ p read (λ is this.
      one_kind line kinds.List (list_of line) p (λ list found. list_found line list (m_word (codes "ALS") refl is) found) this) (λ no_list read.
      by_test _ _ _ p read (λ is this.
      one_kind line kinds.Order (order_of line) p (λ order found. order_found line order (m_word (codes "AAL") refl is) found) this) (λ no_order read.
      by_test _ _ _ p read (λ is this.
      one_kind line kinds.Logic (logic_of line) p (λ logic found. logic_found line logic (m_word (codes "LOG") refl is) found) this) (λ no_logic read.
      let same : kinds.Passed 0 ≡ p = cc in
      let none : AllByRecursion (λ (word : List ℕ). columns line 1 6 ≡ word → ⊥) known_words = (
        absent no_end,
        (
          absent no_charge,
          (
            absent no_radical,
            (
              absent no_isotope,
              (
                absent no_ring_bonds,
                (
                  absent no_substitution,
                  (
                    absent no_unsaturation,
                    (
                      absent no_label,
                      (
                        absent no_points,
                        (absent no_link, (absent no_list, (absent no_order, (absent no_logic, tt)))),
                      ),
                    ),
                  ),
                ),
              ),
            ),
          ),
        ),
      ) in
      let other : IsOtherLine line 0 = record { begins = begins; other = λ is. not_among (columns line 1 6) known_words none is.0 is.1 is.2; alone = refl } in
      subst (IsProperty line) same (inl other))))))))))))))

-- one of two tests
or_true : (a b : Bool) → (a || b) ≡ true → (a ≡ true) ⊎ (b ≡ true)
or_true true b either = inl refl
or_true false b either = inr either

-- a line that is passed over together with so many
passed : (line : List ℕ) (n : ℕ) (property : Property)
    → IsPassed line n → Some (kinds.Passed n) ≡ Some property → IsProperty line property
passed line n property is read = let same : kinds.Passed n ≡ property = cc in subst (IsProperty line) same is

-- a skip that was read
skip_line_found : (line : List ℕ) (n : ℕ) → columns line 1 3 ≡ codes "S  " → skip_of line ≡ Some n → IsSkipLine line n
unfolding skip_of
skip_line_found line n begins read =
    let inside = test_passed (spells line 4 (codes "SKP")) (field_of line 7 9 >>= not_negative) n read in
    record { begins = word_found line (codes "S  ") (codes "SKP") begins refl inside.0; count = skip_found line n inside.1 }

-- what was read of a line is the property that it is
found : (line : List ℕ) (property : Property) → property_of line ≡ Some property → IsProperty line property
unfolding property_of letter_line_of
found line p read =
    let inside = test_passed (is_space (cell_of line 2) && is_space (cell_of line 3)) _ p read in
    let begins : (letter : List ℕ) → length letter ≡ 1 → spells line 1 letter ≡ true → columns line 1 3 ≡ letter ++ codes "  " = λ letter one spelled. letter_found line letter one spelled inside.0 in
    by_test _ _ _ p inside.1 (λ is this. m_line_found line (begins (codes "M") refl is) p this) (λ no_m read.
    by_test _ _ _ p read (λ is this.
    let which : (columns line 1 3 ≡ codes "A  ") ⊎ (columns line 1 3 ≡ codes "G  ") =
    elim (or_true (spells line 1 (codes "A")) (spells line 1 (codes "G")) is) [ inl a ↦ inl (begins (codes "A") refl a) | inr g ↦ inr (begins (codes "G") refl g) ] in
    passed line 1 p (inr (inl (record { begins = which; with_text = refl }))) this) (λ no_text read.
    by_test _ _ _ p read (λ is this. passed line 0 p (inr (inr (inl (record { begins = begins (codes "V") refl is; alone = refl })))) this) (λ no_value read.
    by_test _ _ _ p read (λ is this. one_kind line kinds.Passed (skip_of line) p (λ n skips. inr (inr (inr (skip_line_found line n (begins (codes "S") refl is) skips)))) this) (λ no_skip read.
    absurd cc))))

-- ---- what a line that is a property gives

-- a line that begins with `M  ` is read by the columns 4 to 6
m_line : (line : List ℕ) → columns line 1 3 ≡ codes "M  " → property_of line ≡ m_line_of line
unfolding property_of letter_line_of
m_line line is = let begins = begins_from is in rw (begins.at_1, begins.at_2, begins.at_3) refl

-- a line with such a word
record HasWord (line : List ℕ) (a b c : ℕ) : Type 0 where
  is_read : property_of line ≡ m_line_of line
  goes_on : GoesOnWith line a b c

-- where the line begins with it
with_word : {line : List ℕ} {a b c : ℕ} → columns line 1 6 ≡ 77 ∷ 32 ∷ 32 ∷ a ∷ b ∷ c ∷ [] → HasWord line a b c
with_word {line} is = let both = word_from is in record { is_read = m_line line (begins_to both.0); goes_on = both.1 }

-- where no known word begins the line, the test of each fails: here of the k-th
fails_by : (line word : List ℕ) (k : ℕ) (test : Bool) → IsOtherLine line 0 → length word ≡ 3 → k < 13
    → get_or known_words k (columns line 1 6) ≡ codes "M  " ++ word → spells line 4 word ≡ test → spells line 4 word ≡ false
fails_by line word k true is three within at spelled = absurd (is.other (k, within, at ∙ sym (word_found line (codes "M  ") word is.begins three spelled)))
fails_by line word k false is three within at spelled = spelled

-- so such a line is passed over alone
m_other : (line : List ℕ) → IsOtherLine line 0 → m_line_of line ≡ Some (kinds.Passed 0)
unfolding m_line_of
m_other line is =
    let fails : (word : List ℕ) (k : ℕ) → length word ≡ 3 → k < 13
    → get_or known_words k (columns line 1 6) ≡ codes "M  " ++ word → spells line 4 word ≡ false =
    λ word k three within at. fails_by line word k (spells line 4 word) is three within at refl in
    rw (
      fails (codes "END") 0 refl (lit< tt) refl,
      fails (codes "CHG") 1 refl (lit< tt) refl,
      fails (codes "RAD") 2 refl (lit< tt) refl,
      fails (codes "ISO") 3 refl (lit< tt) refl,
      fails (codes "RBC") 4 refl (lit< tt) refl,
      fails (codes "SUB") 5 refl (lit< tt) refl,
      fails (codes "UNS") 6 refl (lit< tt) refl,
      fails (codes "RGP") 7 refl (lit< tt) refl,
      fails (codes "APO") 8 refl (lit< tt) refl,
      fails (codes "LIN") 9 refl (lit< tt) refl,
      fails (codes "ALS") 10 refl (lit< tt) refl,
      fails (codes "AAL") 11 refl (lit< tt) refl,
      fails (codes "LOG") 12 refl (lit< tt) refl,
    ) refl

-- lines passed over
passed_given : (line : List ℕ) (n : ℕ) → IsPassed line n → property_of line ≡ Some (kinds.Passed n)
unfolding property_of letter_line_of skip_of
passed_given line n (inl other) =
    let alone : IsOtherLine line 0 = record { begins = other.begins; other = other.other; alone = refl } in
    m_line line other.begins ∙ m_other line alone ∙ ap (λ (k : ℕ). Some (kinds.Passed k)) (sym other.alone)
passed_given line n (inr (inl text)) =
    let same : Some (kinds.Passed 1) ≡ Some (kinds.Passed n) = ap (λ (k : ℕ). Some (kinds.Passed k)) (sym text.with_text) in
    elim text.begins [
      | inl is ↦ let begins = begins_from is in rw (begins.at_1, begins.at_2, begins.at_3) same
      | inr is ↦ let begins = begins_from is in rw (begins.at_1, begins.at_2, begins.at_3) same
    ]
passed_given line n (inr (inr (inl value))) =
    let begins = begins_from value.begins in
    rw (begins.at_1, begins.at_2, begins.at_3) (ap (λ (k : ℕ). Some (kinds.Passed k)) (sym value.alone))
passed_given line n (inr (inr (inr skip))) =
    let word = word_from skip.begins in
    rw (word.0.at_1, word.0.at_2, word.0.at_3, word.1.at_4, word.1.at_5, word.1.at_6, skip_given line n skip.count) refl

-- a line that is a property is read as it
given : (line : List ℕ) (property : Property) → IsProperty line property → property_of line ≡ Some property
unfolding m_line_of
given line (kinds.Charge pairs) is = let word = with_word is.begins in word.is_read ∙ rw (word.goes_on.at_4, word.goes_on.at_5, word.goes_on.at_6, pairs_given 8 line 7 pairs (lit≤ tt) is.entries) refl
given line (kinds.Radical pairs) is = let word = with_word is.begins in word.is_read
    ∙ rw (word.goes_on.at_4, word.goes_on.at_5, word.goes_on.at_6, pairs_given 8 line 7 pairs (lit≤ tt) is.entries) refl
given line (kinds.Isotope pairs) is = let word = with_word is.begins in word.is_read
    ∙ rw (word.goes_on.at_4, word.goes_on.at_5, word.goes_on.at_6, pairs_given 8 line 7 pairs (lit≤ tt) is.entries) refl
given line (kinds.RingBonds pairs) is = let word = with_word is.begins in word.is_read
    ∙ rw (word.goes_on.at_4, word.goes_on.at_5, word.goes_on.at_6, pairs_given 8 line 7 pairs (lit≤ tt) is.entries) refl
given line (kinds.Substitution pairs) is = let word = with_word is.begins in word.is_read
    ∙ rw (word.goes_on.at_4, word.goes_on.at_5, word.goes_on.at_6, pairs_given 8 line 7 pairs (lit≤ tt) is.entries) refl
given line (kinds.Unsaturation pairs) is = let word = with_word is.begins in word.is_read
    ∙ rw (word.goes_on.at_4, word.goes_on.at_5, word.goes_on.at_6, pairs_given 8 line 7 pairs (lit≤ tt) is.entries) refl
given line (kinds.Label pairs) is = let word = with_word is.begins in word.is_read ∙ rw (word.goes_on.at_4, word.goes_on.at_5, word.goes_on.at_6, pairs_given 8 line 7 pairs (lit≤ tt) is.entries) refl
given line (kinds.Points pairs) is = let word = with_word is.begins in word.is_read ∙ rw (word.goes_on.at_4, word.goes_on.at_5, word.goes_on.at_6, pairs_given 2 line 7 pairs (lit≤ tt) is.entries) refl
given line (kinds.Link links) is = let word = with_word is.begins in word.is_read ∙ rw (word.goes_on.at_4, word.goes_on.at_5, word.goes_on.at_6, links_given line links is.entries) refl
given line (kinds.List list) is = let word = with_word is.begins in word.is_read ∙ rw (word.goes_on.at_4, word.goes_on.at_5, word.goes_on.at_6, list_given line list is) refl
given line (kinds.Order order) is = let word = with_word is.begins in word.is_read ∙ rw (word.goes_on.at_4, word.goes_on.at_5, word.goes_on.at_6, order_given line order is) refl
given line (kinds.Logic logic) is = let word = with_word is.begins in word.is_read ∙ rw (word.goes_on.at_4, word.goes_on.at_5, word.goes_on.at_6, logic_given line logic is) refl
given line (kinds.Passed n) is = passed_given line n is
given line kinds.End is = let word = with_word is in word.is_read ∙ rw (word.goes_on.at_4, word.goes_on.at_5, word.goes_on.at_6) refl

-- so the reading is exact
pub properties_are_read : PropertiesAreRead
properties_are_read line property = (found line property, given line property)

-- ---- for the answers of a reader

-- a property that was read is one that the line is
pub read_is_property : (line : List ℕ) (answer : Result Property LineFault)
    → Gives answer (property_of line) → IfOk answer (IsProperty line)
read_is_property line (Ok property) gives = found line property gives
read_is_property line (Err fault) gives = tt

-- where Bad was answered, the line is none
pub bad_is_none : (line : List ℕ) (answer : Result Property LineFault) → Gives answer (property_of line)
    → answer ≡ Err Bad → (property : Property) → IsProperty line property → ⊥
bad_is_none line (Ok property) gives bad other is = absurd cc
bad_is_none line (Err Bad) gives bad property is = let some = given line property is in cc
bad_is_none line (Err Memory) gives bad property is = absurd cc
