-- A property line without the CR bytes at its end is the same property, where its texts don't end with CR.
use Rattle.std.proofs.Common.{◌≡◌, ℕ, zero, suc, ◌+◌, ◌*◌, ◌-◌, ◌≤◌, Bool, true, false, not, eqb, All, List, [], ◌∷◌, length, get_or, refl, sym, ap, subst, ◌∙◌, inl, inr, arith, lit≤}
use Rattle.std.specs.Prelude.{ℤ, pos, codes, Contains}
use Rattle.std.specs.List.{list_all}
use Rattle.std.proofs.lemmas.Bool.{true≢false}
use Rattle.std.proofs.lemmas.Option.{get_or_from_slice_get, slice_get_within}
use Rattle.mk_text.specs.Columns.{columns, trimmed}
use Rattle.mk_text.specs.Fields.{IsField}
use Rattle.mk_text.specs.KeptLines.{without_crs}
use Rattle.mk_text.specs.Lines.{EndsWith}
use Rattle.mk_text.proofs.ForCallers.{both, columns_left, columns_core, word_left, field_left, drop_left}
use Rattle.mk_props.specs.declared.property.Pair.{Pair}
use Rattle.mk_props.specs.declared.property.LinkEntry.{LinkEntry}
use Rattle.mk_props.specs.declared.property.AtomList.{AtomList}
use Rattle.mk_props.specs.declared.property.SiteOrder.{SiteOrder}
use Rattle.mk_props.specs.declared.property.LogicLine.{LogicLine}
use Rattle.mk_props.specs.declared.property.Property.{Property}
use Rattle.mk_props.specs.declared.property.Property.TheVariants as kinds
use Rattle.mk_props.specs.Entries.{IsBlankAt, IsSpacedNumber, ArePairs, IsPairLine, IsLinkLine, IsOrderLine}
use Rattle.mk_props.specs.Lists.{IsListLine, flag_text, symbol_of}
use Rattle.mk_props.specs.Logic.{IsLogicLine}
use Rattle.mk_props.specs.Property.{IsPassed, IsProperty, known_words}
use Rattle.mk_tables.specs.KeptTables.{EndsWithoutCr}

-- ---- words that name a kind

-- each ends with a letter
ends_with_letter : List ℕ → Bool
ends_with_letter word = not (eqb (get_or word 5 0) 32)

-- what the lists of a list pass, one that is held passes
held_passes : (p : List ℕ → Bool) (words : List (List ℕ)) (word : List ℕ) → list_all p words ≡ true → Contains words word → p word ≡ true
held_passes p [] word all held = absurd (omega (arith, held.1))
held_passes p (w ∷ words) word all (zero, within, same) = ap p (sym same) ∙ (both (p w) (list_all p words) all).0
held_passes p (w ∷ words) word all (suc k, within, same) = held_passes p words word (both (p w) (list_all p words) all).1 (k, omega arith, same)

words_end : list_all ends_with_letter known_words ≡ true
unfolding ends_with_letter
words_end = refl

-- so the last of their columns isn't blank
last_not_blank : (word : List ℕ) → Contains known_words word → get_or word 5 0 ≡ 32 → ⊥
unfolding ends_with_letter
last_not_blank word held blank =
    let test : not (eqb (get_or word 5 0) 32) ≡ true = held_passes ends_with_letter known_words word words_end held in
    let denied : not (eqb (get_or word 5 0) 32) ≡ false = ap (λ (c : ℕ). not (eqb c 32)) blank in
    true≢false (sym test ∙ denied)

module _ (line : List ℕ) where
  -- ---- columns

  word : (b : ℕ) (text : List ℕ) → 1 ≤ b → eqb (get_or (trimmed text) (length (trimmed text) - 1) 0) 13 ≡ false → columns line 1 b ≡ text → columns (without_crs line) 1 b ≡ text
  word b text order other is = word_left line 1 b text (lit≤ tt) order other is

  blank_left : (at : ℕ) → 1 ≤ at → IsBlankAt line at → IsBlankAt (without_crs line) at
  blank_left at first is = word_left line at at (codes " ") first (omega arith) refl is

  number_left : (a b : ℕ) (z : ℤ) → 1 ≤ a → a ≤ b → IsField (columns line a b) z → IsField (columns (without_crs line) a b) z
  number_left a b z first order is = field_left line a b z first order is

  spaced_left : (at : ℕ) (z : ℤ) → 1 ≤ at → IsSpacedNumber line at z → IsSpacedNumber (without_crs line) at z
  spaced_left at z first is = record { space = blank_left at first is.space; number = number_left (at + 1) (at + 3) z (omega arith) (omega arith) is.number }

  pairs_left : (most at : ℕ) (pairs : List Pair) → 1 ≤ at → ArePairs most line at pairs → ArePairs most (without_crs line) at pairs
  pairs_left most at pairs first is = record {
    some = is.some;
    no_more = is.no_more;
    count = number_left at (at + 2) (pos (length pairs)) first (omega arith) is.count;
    each = λ i pair here.
        let p = is.each i pair here in
        record { atom = spaced_left (at + 3 + 8 * i) pair.atom (omega arith) p.atom; value = spaced_left (at + 3 + 8 * i + 4) pair.value (omega arith) p.value };
  }

  -- ---- kinds

  pair_line_left : (text : List ℕ) (most : ℕ) (pairs : List Pair)
      → eqb (get_or (trimmed text) (length (trimmed text) - 1) 0) 13 ≡ false → IsPairLine text most line pairs
      → IsPairLine text most (without_crs line) pairs
  pair_line_left text most pairs other is = record { begins = word 6 text (lit≤ tt) other is.begins; entries = pairs_left most 7 pairs (lit≤ tt) is.entries }

  link_line_left : (links : List LinkEntry) → IsLinkLine line links → IsLinkLine (without_crs line) links
  link_line_left links is = record {
    begins = word 6 (codes "M  LIN") (lit≤ tt) refl is.begins;
    entries = record {
      some = is.entries.some;
      no_more = is.entries.no_more;
      count = number_left 7 9 (pos (length links)) (lit≤ tt) (lit≤ tt) is.entries.count;
      each = λ i link here.
          let l = is.entries.each i link here in
          record {
            atom = spaced_left (10 + 16 * i) link.atom (omega arith) l.atom;
            most = spaced_left (10 + 16 * i + 4) link.most (omega arith) l.most;
            from = spaced_left (10 + 16 * i + 8) link.from (omega arith) l.from;
            to = spaced_left (10 + 16 * i + 12) link.to (omega arith) l.to;
          };
    };
  }

  order_line_left : (order : SiteOrder) → IsOrderLine line order → IsOrderLine (without_crs line) order
  order_line_left order is = record {
    begins = word 6 (codes "M  AAL") (lit≤ tt) refl is.begins;
    atom = spaced_left 7 order.atom (lit≤ tt) is.atom;
    entries = pairs_left 2 11 order.entries (lit≤ tt) is.entries;
  }

  -- a flag
  flag_left : (flag : Bool) → columns line 15 15 ≡ flag_text flag → columns (without_crs line) 15 15 ≡ flag_text flag
  flag_left true is = word_left line 15 15 (codes "T") (lit≤ tt) (lit≤ tt) refl is
  flag_left false is = word_left line 15 15 (codes "F") (lit≤ tt) (lit≤ tt) refl is

  list_line_left : (list : AtomList) → All (λ symbol. EndsWith 13 symbol → ⊥) list.symbols → IsListLine line list → IsListLine (without_crs line) list
  list_line_left list ends is = record {
    begins = word 6 (codes "M  ALS") (lit≤ tt) refl is.begins;
    atom = spaced_left 7 list.atom (lit≤ tt) is.atom;
    space_before = blank_left 14 (lit≤ tt) is.space_before;
    flag = flag_left list.not is.flag;
    space_after = blank_left 16 (lit≤ tt) is.space_after;
    symbols = record {
      some = is.symbols.some;
      no_more = is.symbols.no_more;
      count = number_left 11 13 (pos (length list.symbols)) (lit≤ tt) (lit≤ tt) is.symbols.count;
      each = λ i symbol here.
          let s : symbol ≡ symbol_of line i = is.symbols.each i symbol here in
          let end : EndsWith 13 symbol → ⊥ = rw (get_or_from_slice_get list.symbols i symbol symbol here) at (ends i symbol (slice_get_within list.symbols i symbol here)) in
          let P : List ℕ → Type 0 = λ text. EndsWith 13 text → ⊥ in
          s ∙ ap trimmed (sym (columns_left line (17 + 4 * i) (20 + 4 * i) (omega arith) (omega arith) (subst P s end)));
    };
  }

  logic_line_left : (logic : LogicLine) → (EndsWith 13 logic.range → ⊥) → IsLogicLine line logic → IsLogicLine (without_crs line) logic
  logic_line_left logic end is = record {
    begins = word 6 (codes "M  LOG") (lit≤ tt) refl is.begins;
    one = number_left 7 9 (pos 1) (lit≤ tt) (lit≤ tt) is.one;
    group = spaced_left 10 logic.group (lit≤ tt) is.group;
    then_group = spaced_left 14 logic.then_group (lit≤ tt) is.then_group;
    rest = spaced_left 18 logic.rest (lit≤ tt) is.rest;
    space = blank_left 22 (lit≤ tt) is.space;
    range = (let P : List ℕ → Type 0 = λ text. EndsWith 13 text → ⊥ in is.range ∙ sym (drop_left line 22 (subst P is.range end)));
  }

  -- lines passed over
  passed_left : (after : ℕ) → IsPassed line after → IsPassed (without_crs line) after
  passed_left after (inl is) =
      inl (record {
        begins = word 3 (codes "M  ") (lit≤ tt) refl is.begins;
        other = λ held.
            let same = columns_core line 1 6 (lit≤ tt) (lit≤ tt) (last_not_blank (columns (without_crs line) 1 6) held) in
            let P : List ℕ → Type 0 = λ text. Contains known_words text in
            is.other (subst P same held);
        alone = is.alone;
      })
  passed_left after (inr (inl is)) =
      inr (inl (record {
        begins = elim is.begins [ inl a ↦ inl (word 3 (codes "A  ") (lit≤ tt) refl a) | inr g ↦ inr (word 3 (codes "G  ") (lit≤ tt) refl g) ];
        with_text = is.with_text;
      }))
  passed_left after (inr (inr (inl is))) = inr (inr (inl (record { begins = word 3 (codes "V  ") (lit≤ tt) refl is.begins; alone = is.alone })))
  passed_left after (inr (inr (inr is))) =
      inr (inr (inr (record { begins = word 6 (codes "S  SKP") (lit≤ tt) refl is.begins; count = number_left 7 9 (pos after) (lit≤ tt) (lit≤ tt) is.count })))

  -- all kinds
  pub property_left : (property : Property) → EndsWithoutCr property → IsProperty line property → IsProperty (without_crs line) property
  property_left (kinds.Charge pairs) end is = pair_line_left (codes "M  CHG") 8 pairs refl is
  property_left (kinds.Radical pairs) end is = pair_line_left (codes "M  RAD") 8 pairs refl is
  property_left (kinds.Isotope pairs) end is = pair_line_left (codes "M  ISO") 8 pairs refl is
  property_left (kinds.RingBonds pairs) end is = pair_line_left (codes "M  RBC") 8 pairs refl is
  property_left (kinds.Substitution pairs) end is = pair_line_left (codes "M  SUB") 8 pairs refl is
  property_left (kinds.Unsaturation pairs) end is = pair_line_left (codes "M  UNS") 8 pairs refl is
  property_left (kinds.Label pairs) end is = pair_line_left (codes "M  RGP") 8 pairs refl is
  property_left (kinds.Points pairs) end is = pair_line_left (codes "M  APO") 2 pairs refl is
  property_left (kinds.Link links) end is = link_line_left links is
  property_left (kinds.List list) end is = list_line_left list end is
  property_left (kinds.Order order) end is = order_line_left order is
  property_left (kinds.Logic logic) end is = logic_line_left logic end is
  property_left (kinds.Passed after) end is = passed_left after is
  property_left kinds.End end is = word 6 (codes "M  END") (lit≤ tt) refl is
