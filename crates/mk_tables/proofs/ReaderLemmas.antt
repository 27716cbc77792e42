-- What the readers of a table know that go through its lines by an index.
use Rattle.std.proofs.Common.{◌≡◌, ℕ, ◌+◌, ◌≤◌, ◌<◌, true, false, Option, Some, None, Err, List, [], ◌∷◌, ◌++◌, length, get_or, drop, refl, sym, ap, subst, ◌∙◌}
use Rattle.mk_form.specs.Lines.{line_where, passing, read_line}
use Rattle.mk_form.specs.Reading.{Reading, Took, and_then, TakesLines, StopsAtLine}
use Rattle.mk_form.specs.Rows.{any_lines}
use Rattle.mk_form.proofs.ByIndex.{line_yes, line_no, stops_first, takes_first}
use Rattle.mk_form.proofs.Lines.{does_pass}
use Rattle.mk_form.proofs.UntilLoops.{UntilLeft, until_left_start, until_left_item, until_left_past, until_left_end}
use Rattle.mk_props.specs.declared.property.Property.{Property}
use Rattle.mk_props.specs.declared.property.Property.TheVariants as kinds
use Rattle.mk_props.specs.Reading.{property_of}
use Rattle.mk_tables.specs.declared.fault.TableFault.{TableFault}
use Rattle.mk_tables.specs.declared.fault.TableFault.TheVariants.{Bad, V3000, Memory}
use Rattle.mk_tables.specs.Table.{IsKept, values_of}
use Rattle.mk_tables.specs.TableLines.{Line}
use Rattle.mk_tables.specs.TableReading.{AnswersProperty, Fails, is_end_line, property_before_end, after_property, block, blocks_part, kept_in, properties_part}
use Rattle.mk_tables.proofs.FaultLemmas.{fails_first, fails_second, until_fails}
use Rattle.mk_tables.proofs.BlockLemmas.{before_kept, kept_is_no_end, exact-block, exact-end, shows-block, shows-end}

-- ---- property lines

-- a property that is neither is kept
pub kept_by : (p : Property) → ((n : ℕ) → p ≡ kinds.Passed n → ⊥) → (p ≡ kinds.End → ⊥) → IsKept p
kept_by (kinds.Passed n) passed end = passed n refl
kept_by kinds.End passed end = end refl
kept_by p passed end = tt

-- behind it no line is read
nothing_read : (p : Property) → IsKept p → (rest : List Line) → (after_property p).read rest ≡ Took (Some p) rest
nothing_read (kinds.Passed n) kept rest = absurd kept
nothing_read kinds.End kept rest = absurd kept
nothing_read p kept rest = refl

-- no property is read before the end
none_before : (o : Option Property) (l : Line) → property_of l ≡ None → property_before_end l ≡ None
none_before o l none = rw none refl

module _ (lines : List Line) (at : ℕ) (lt : at < length lines) where
  abbrev here : Line
  here = get_or lines at []

  -- a line that is kept
  block_kept : (p : Property) → property_of here ≡ Some p → IsKept p → TakesLines lines (at + 1) (Some p) (block.read (drop at lines))
  block_kept p is kept =
      let one = line_yes (λ _. false) property_before_end lines at [] p lt (rw is (before_kept p kept)) in
      record {
        within = one.within;
        took = takes_first lines (at + 1) p
            (read_line (λ _. false) property_before_end (drop at lines)) (λ q. (after_property q).read) one
            ∙ nothing_read p kept (drop (at + 1) lines);
      }

  -- a line that is passed over
  line_passed : (n : ℕ) → property_of here ≡ Some (kinds.Passed n) → TakesLines lines (at + 1) (kinds.Passed n) (read_line (λ _. false) property_before_end (drop at lines))
  line_passed n is = line_yes (λ _. false) property_before_end lines at [] (kinds.Passed n) lt (rw is refl)

  -- with the lines after it
  block_passed : (n next : ℕ) → property_of here ≡ Some (kinds.Passed n) → TakesLines lines next tt ((any_lines n).read (drop (at + 1) lines)) → TakesLines lines next None (block.read (drop at lines))
  block_passed n next is takes =
      record {
        within = takes.within;
        took = takes_first lines (at + 1) (kinds.Passed n)
            (read_line (λ _. false) property_before_end (drop at lines)) (λ q. (after_property q).read) (line_passed n is)
            ∙ ap (λ (r : Reading Line (Unit {0})). let w : Reading Line (Option Property) = and_then r (λ _. Took None)
            in w) takes.took;
      }

  -- or without them
  block_cut : (n : ℕ) (e : TableFault) → property_of here ≡ Some (kinds.Passed n) → Fails lines e ((any_lines n).read (drop (at + 1) lines)) → Fails lines e (block.read (drop at lines))
  block_cut n e is h = fails_second lines e (at + 1) (kinds.Passed n)
      (read_line (λ _. false) property_before_end (drop at lines)) (λ q. (after_property q).read) (line_passed n is)
      (fails_first lines e ((any_lines n).read (drop (at + 1) lines)) (λ _. Took None) h)

  -- a line that is no property
  block_bad : property_of here ≡ None → StopsAtLine lines false (at + 1) (block.read (drop at lines))
  block_bad none = stops_first lines false (at + 1) (read_line (λ _. false) property_before_end (drop at lines))
      (λ q. (after_property q).read) (line_no (λ _. false) property_before_end lines at [] false lt
      (none_before (property_of here) here none) refl)

-- the values of blocks and one more
values_push : (blocks : List (Option Property)) (x : Option Property) → values_of (blocks ++ x ∷ []) ≡ values_of blocks ++ values_of (x ∷ [])
values_push [] x = refl
values_push (Some p ∷ blocks) x = ap (λ (ps : List Property). p ∷ ps) (values_push blocks x)
values_push (None ∷ blocks) x = values_push blocks x

-- nothing more
append_none : (ps : List Property) → ps ++ [] ≡ ps
append_none [] = refl
append_none (p ∷ ps) = ap (λ (qs : List Property). p ∷ qs) (append_none ps)

-- Of the property lines from the line of index `from` on those before the line of index `at` are read, with these properties.
pub record PropertiesLeft (lines : List Line) (from : ℕ) (props : List Property) (at : ℕ) : Type 0 where
  pub blocks : List (Option Property)
  pub kept : props ≡ values_of blocks
  pub left : UntilLeft is_end_line block (line_where is_end_line) lines from blocks at

module _ (lines : List Line) (from : ℕ) where
  -- before the first
  pub properties_start : from ≤ length lines → PropertiesLeft lines from [] from
  properties_start le = record { blocks = []; kept = refl; left = until_left_start exact-block exact-end shows-block shows-end lines from le }

  module _ (props : List Property) (at : ℕ) (so_far : PropertiesLeft lines from props at) where
    -- no line is left
    pub properties_past : at ≡ length lines → StopsAtLine lines false (at + 1) (properties_part.read (drop from lines))
    properties_past last = stops_first lines false (at + 1) (blocks_part.read (drop from lines)) (λ v. Took (kept_in v))
        (until_left_past exact-block exact-end shows-block shows-end lines from so_far.blocks at last so_far.left)

    module _ (lt : at < length lines) where
      -- a property that is kept
      pub properties_kept : (p : Property) → property_of (get_or lines at []) ≡ Some p → IsKept p → PropertiesLeft lines from (props ++ p ∷ []) (at + 1)
      properties_kept p is kept =
          let goes : is_end_line (get_or lines at []) ≡ false = rw is (kept_is_no_end p kept) in
          record {
            blocks = so_far.blocks ++ Some p ∷ [];
            kept = ap (λ (ps : List Property). ps ++ p ∷ []) so_far.kept ∙ sym (values_push so_far.blocks (Some p));
            left = until_left_item exact-block exact-end shows-block shows-end lines from so_far.blocks at (at + 1) [] (Some p) lt goes so_far.left (block_kept lines at lt p is kept);
          }

      -- a line that is passed over
      pub properties_passed : (n next : ℕ) → property_of (get_or lines at []) ≡ Some (kinds.Passed n)
          → TakesLines lines next tt ((any_lines n).read (drop (at + 1) lines)) → PropertiesLeft lines from props next
      properties_passed n next is takes =
          let goes : is_end_line (get_or lines at []) ≡ false = rw is refl in
          record {
            blocks = so_far.blocks ++ None ∷ [];
            kept = so_far.kept ∙ sym (append_none (values_of so_far.blocks)) ∙ sym (values_push so_far.blocks None);
            left = until_left_item exact-block exact-end shows-block shows-end lines from so_far.blocks at next [] None lt goes so_far.left (block_passed lines at lt n next is takes);
          }

      -- the end
      pub properties_end : property_of (get_or lines at []) ≡ Some kinds.End → TakesLines lines (at + 1) props (properties_part.read (drop from lines))
      properties_end is =
          let ends : is_end_line (get_or lines at []) ≡ true = rw is refl in
          let last = line_yes (λ _. false) (passing is_end_line) lines at [] tt lt (does_pass is_end_line (get_or lines at []) ends) in
          let blocks = until_left_end exact-block exact-end shows-block shows-end lines from so_far.blocks at (at + 1) [] tt lt ends so_far.left last in
          record {
            within = blocks.within;
            took = takes_first lines (at + 1) (so_far.blocks, tt) (blocks_part.read (drop from lines))
                (λ v. Took (kept_in v)) blocks ∙ ap (λ (ps : List Property). Took ps (drop (at + 1) lines))
                (sym so_far.kept);
          }

      -- a block that fails
      properties_stop : (e : TableFault) → is_end_line (get_or lines at []) ≡ false → Fails lines e (block.read (drop at lines)) → Fails lines e (properties_part.read (drop from lines))
      properties_stop e goes h = fails_first lines e (blocks_part.read (drop from lines)) (λ v. Took (kept_in v))
          (until_fails exact-block exact-end shows-block shows-end lines from so_far.blocks at [] e lt goes so_far.left
          h)

      -- a line that is passed over, and not the lines after it
      pub properties_cut : (n : ℕ) (e : TableFault) → property_of (get_or lines at []) ≡ Some (kinds.Passed n)
          → Fails lines e ((any_lines n).read (drop (at + 1) lines))
          → Fails lines e (properties_part.read (drop from lines))
      properties_cut n e is h = properties_stop e (rw is refl) (block_cut lines at lt n e is h)

      -- a line that is no property
      pub properties_fail : (e : TableFault) → AnswersProperty at (Err e) (property_of (get_or lines at [])) → Fails lines e (properties_part.read (drop from lines))
      properties_fail (Bad k) h = subst (λ (n : ℕ). StopsAtLine lines false n (properties_part.read (drop from lines)))
          (sym h.0) (properties_stop (Bad (at + 1)) (rw h.1 refl) (block_bad lines at lt h.1))
      properties_fail (V3000 k) h = absurd h
      properties_fail Memory h = tt
