-- The property lines of a table are read exactly.
use Rattle.std.proofs.Common.{◌≡◌, ℕ, true, false, Option, Some, None, List, [], ◌∷◌, ◌++◌, length, refl, sym, ap, subst, ◌∙◌}
use Rattle.std.specs.Prelude.{codes}
use Rattle.mk_form.specs.Exact.{Exact, Completes, NeverDue, Anything}
use Rattle.mk_form.specs.Lines.{OneLine, Nothing, line_where}
use Rattle.mk_form.specs.Rows.{Series}
use Rattle.mk_form.specs.Choice.{Shows}
use Rattle.mk_form.proofs.Lines.{exact-give, exact-line, exact-line_where}
use Rattle.mk_form.proofs.Sequence.{exact-sequence}
use Rattle.mk_form.proofs.Seen.{exact-seen_as}
use Rattle.mk_form.proofs.Rows.{exact-any_lines}
use Rattle.mk_form.proofs.Choice.{shows-line, shows-line_where, shows-sequence}
use Rattle.mk_form.proofs.Until.{exact-until}
use Rattle.mk_form.proofs.NeverDue.{never-give, never-line, never-sequence, never-seen_as, never-any_lines, never-until}
use Rattle.mk_form.proofs.Fronts.{completes-give, completes-line, completes-line_where, completes-sequence, completes-seen_as, completes-any_lines, completes-until}
use Rattle.mk_props.specs.declared.property.Property.{Property}
use Rattle.mk_props.specs.declared.property.Property.TheVariants as kinds
use Rattle.mk_props.specs.Property.{IsProperty}
use Rattle.mk_text.specs.Options.{◌>>=◌}
use Rattle.mk_props.specs.Reading.{cell_of, property_of, letter_line_of, m_line_of}
use Rattle.mk_props.proofs.ForCallers.{properties_are_read}
use Rattle.mk_tables.specs.TableLines.{Line, is_v3000}
use Rattle.mk_tables.specs.Table.{IsKept, IsKeptLine, IsPassedOver, IsBlock}
use Rattle.mk_tables.specs.TableReading.{is_end, is_some_end, is_end_line, before_end, property_before_end, after_property, block, kept_in, properties_part}

-- ---- one property

-- what is read before the end is not the end
not_end : (p q : Property) → before_end p ≡ Some q → is_end p ≡ false
not_end kinds.End q h = absurd cc
not_end p q h = refl

-- it is the property itself
same_property : (p q : Property) → before_end p ≡ Some q → p ≡ q
same_property kinds.End q h = absurd cc
same_property p q h = cc

-- and so no end
never_end : (p : Property) → before_end p ≡ Some kinds.End → ⊥
never_end kinds.End h = cc
never_end p h = cc

-- the end is read as such
the_end : (p : Property) → is_end p ≡ true → p ≡ kinds.End
the_end kinds.End h = refl
the_end p h = absurd cc

-- what a table keeps is no end
pub before_kept : (p : Property) → IsKept p → before_end p ≡ Some p
before_kept (kinds.Passed n) h = absurd h
before_kept kinds.End h = absurd h
before_kept p h = refl

-- and is no end
pub kept_is_no_end : (p : Property) → IsKept p → is_end p ≡ false
kept_is_no_end (kinds.Passed n) h = absurd h
kept_is_no_end kinds.End h = absurd h
kept_is_no_end p h = refl

-- ---- of a line

-- a line before the end doesn't show the end
before_shows : (o : Option Property) (q : Property) → o >>= before_end ≡ Some q → is_some_end o ≡ false
before_shows None q h = absurd cc
before_shows (Some p) q h = not_end p q h

-- and is what is read
before_is : (o : Option Property) (q : Property) → o >>= before_end ≡ Some q → o ≡ Some q
before_is None q h = absurd cc
before_is (Some p) q h = ap Some (same_property p q h)

-- which is no end
before_never : (o : Option Property) → o >>= before_end ≡ Some kinds.End → ⊥
before_never None h = cc
before_never (Some p) h = never_end p h

-- a line that shows the end is the end
shows_is : (o : Option Property) → is_some_end o ≡ true → o ≡ Some kinds.End
shows_is None h = absurd cc
shows_is (Some p) h = ap Some (the_end p h)

-- ---- the parts

-- what stands behind a property line is read exactly
exact-after : (p : Property) → Exact is_v3000 Anything (after_property p)
exact-after (kinds.Passed n) = exact-seen_as (λ _. None) (exact-any_lines n)
exact-after kinds.End = exact-give None
exact-after p = exact-give (Some p)

-- none of it says V3000 for a table
never-after : (p : Property) → NeverDue (after_property p)
never-after (kinds.Passed n) = never-seen_as (λ _. None) (never-any_lines n)
never-after kinds.End = never-give None
never-after p = never-give (Some p)

-- its beginning can be completed
completes-after : (p : Property) → Completes (after_property p)
completes-after (kinds.Passed n) = completes-seen_as (λ _. None) (completes-any_lines [] n)
completes-after kinds.End = completes-give None
completes-after p = completes-give (Some p)

-- a property line with what it passes over is read exactly
pub exact-block : Exact is_v3000 Anything block
exact-block = exact-sequence (exact-line property_before_end) exact-after

-- so is the end
pub exact-end : Exact is_v3000 Anything (line_where is_end_line)
exact-end = exact-line_where is_end_line

-- its first line shows that it isn't the end
pub shows-block : Shows is_end_line false block
shows-block = shows-sequence after_property (shows-line is_end_line false property_before_end (λ l p h. before_shows (property_of l) p h))

-- and the end shows that it is
pub shows-end : Shows is_end_line true (line_where is_end_line)
shows-end = shows-line_where is_end_line true is_end_line (λ l h. h)

-- property lines up to the end are read exactly
pub exact-properties : Exact is_v3000 Anything properties_part
exact-properties = exact-seen_as kept_in (exact-until exact-block exact-end shows-block shows-end)

-- none of them says V3000 for a table
pub never-properties : NeverDue properties_part
never-properties = never-seen_as kept_in (never-until is_end_line (never-sequence (never-line property_before_end) never-after) (never-line _))

-- `M  ` alone is a line that is passed over
some_line : property_before_end (codes "M  ") ≡ Some (kinds.Passed 0)
unfolding property_of letter_line_of m_line_of cell_of
some_line = refl

-- `M  END` is the end
some_end : is_end_line (codes "M  END") ≡ true
unfolding property_of letter_line_of m_line_of cell_of
some_end = refl

-- their beginnings can be completed
pub completes-properties : Completes properties_part
completes-properties = completes-seen_as kept_in (completes-until is_end_line
    (completes-sequence (completes-line property_before_end (codes "M  ") (kinds.Passed 0) some_line) completes-after)
    (completes-line_where is_end_line (codes "M  END") some_end))

-- ---- in the words of the definition

-- a line that is kept
to_kept : (p : Property) (lines front back : List Line) (v : Option Property) → IsKept p → lines ≡ front ++ back → OneLine property_before_end front p → Nothing (Some p) back v → IsBlock lines v
to_kept p lines front back v kept whole one after =
    let made : IsKeptLine lines p = record {
      line = one.line;
      whole = whole ∙ ap (λ (x : List Line). x ++ back) one.whole ∙ ap (λ (x : List Line). one.line ∷ x) after.0;
      is = (properties_are_read one.line p).0 (before_is (property_of one.line) p one.spells);
      kept = kept;
    } in
    subst (IsBlock lines) (sym after.1) made

-- by what the line is
to_block_by : (p : Property) (lines front back : List Line) (v : Option Property) → lines ≡ front ++ back → OneLine property_before_end front p → (after_property p).is back v → IsBlock lines v
to_block_by (kinds.Passed n) lines front back v whole one after =
    let made : IsPassedOver lines = record {
      line = one.line;
      after = back;
      whole = whole ∙ ap (λ (x : List Line). x ++ back) one.whole;
      is = (properties_are_read one.line (kinds.Passed (length back))).0 (before_is (property_of one.line) (kinds.Passed n) one.spells ∙ ap (λ (k : ℕ). Some (kinds.Passed k)) (sym after.is));
    } in
    subst (IsBlock lines) (sym after.seen) made
to_block_by kinds.End lines front back v whole one after = absurd (before_never (property_of one.line) one.spells)
to_block_by p lines front back v whole one after = to_kept p lines front back v tt whole one after

-- what the parts make up is a block
to_block : (lines : List Line) (v : Option Property) → block.is lines v → IsBlock lines v
to_block lines v h = to_block_by h.middle lines h.front h.back v h.whole h.first h.second

-- what a line that is a property says
line_says : (l : Line) (p q : Property) → IsProperty l p → before_end p ≡ Some q → property_before_end l ≡ Some q
line_says l p q is before = rw ((properties_are_read l p).1 is) before

-- what stands behind a property that is kept
nothing_behind : (p : Property) → IsKept p → (after_property p).is [] (Some p)
nothing_behind (kinds.Passed n) h = absurd h
nothing_behind kinds.End h = absurd h
nothing_behind p h = (refl, refl)

-- and a block is made up of the parts
from_block : (lines : List Line) (v : Option Property) → IsBlock lines v → block.is lines v
from_block lines (Some p) h = record {
  front = h.line ∷ [];
  back = [];
  middle = p;
  whole = h.whole;
  first = record { line = h.line; whole = refl; spells = line_says h.line p p h.is (before_kept p h.kept) };
  second = nothing_behind p h.kept;
}
from_block lines None h = record {
  front = h.line ∷ [];
  back = h.after;
  middle = kinds.Passed (length h.after);
  whole = h.whole;
  first = record { line = h.line; whole = refl; spells = line_says h.line (kinds.Passed (length h.after)) (kinds.Passed (length h.after)) h.is refl };
  second = record { first = tt; is = refl; seen = refl };
}

-- a series of one kind is a series of another
series_map : {X : Type 0} (P Q : List Line → X → Type 0) → ((lines : List Line) (x : X) → P lines x → Q lines x) → (lines : List Line) (xs : List X) → Series P lines xs → Series Q lines xs
series_map P Q f lines [] h = h
series_map P Q f lines (x ∷ xs) h = (h.0, h.1, h.2, f h.0 x h.3, series_map P Q f h.1 xs h.4)

-- the parts as blocks
pub to_blocks : (lines : List Line) (vs : List (Option Property)) → Series block.is lines vs → Series IsBlock lines vs
to_blocks = series_map block.is IsBlock to_block

-- and blocks as the parts
pub from_blocks : (lines : List Line) (vs : List (Option Property)) → Series IsBlock lines vs → Series block.is lines vs
from_blocks = series_map IsBlock block.is from_block

-- a line that passes the test of the end is the end
pub end_found : (l : Line) → is_end_line l ≡ true → IsProperty l kinds.End
end_found l h = (properties_are_read l kinds.End).0 (shows_is (property_of l) h)

-- and the end passes it
pub end_given : (l : Line) → IsProperty l kinds.End → is_end_line l ≡ true
end_given l is = rw ((properties_are_read l kinds.End).1 is) refl
