-- The lines of a table without the CR bytes at their ends are the same table.
use Rattle.std.proofs.Common.{◌≡◌, ◌-◌, List, [], ◌∷◌, ◌++◌, length, map, take, drop, Option, Some, None, ap, subst, ◌∙◌}
use Rattle.std.specs.List.{AllByRecursion}
use Rattle.std.proofs.lemmas.List.{length-map, map-append, take-map, drop-map}
use Rattle.std.proofs.lemmas.List.Elements.{recursion_from_All}
use Rattle.mk_text.specs.KeptLines.{without_crs}
use Rattle.mk_text.specs.Lines.{EndsWith}
use Rattle.mk_form.specs.Rows.{Series}
use Rattle.mk_props.specs.declared.property.Property.{Property}
use Rattle.mk_props.specs.declared.property.Property.TheVariants as kinds
use Rattle.mk_tables.specs.declared.raw.RawAtom.{RawAtom}
use Rattle.mk_tables.specs.KeptTables.{EndsWithoutCr, KeptLinesAreTheTable, KeptLinesAreTheTableFrom}
use Rattle.mk_tables.specs.Table.{IsBlock, Spell, values_of}
use Rattle.mk_tables.specs.TableLines.{Line, raw_atom_of}
use Rattle.mk_tables.proofs.KeptLineLemmas.{counts_left, atom_left, bond_left, list_left}
use Rattle.mk_tables.proofs.KeptPropertyLemmas.{property_left}

-- the lines of some texts, one after the other
abbrev left : List Line → List Line
left lines = map without_crs lines

-- ---- lines that spell values

-- each line spells the same without
spell_left : {V : Type 0} (says : Line → Option V) (P : V → Type 0) → ((line : Line) (value : V) → P value → says line ≡ Some value → says (without_crs line) ≡ Some value)
    → (values : List V) (lines : List Line) → AllByRecursion P values → Spell says lines values → Spell says (left lines) values
spell_left says P keeps [] lines each is = ap left is
spell_left says P keeps (value ∷ values) lines each (front, back, whole, one, rest) = (
  left front,
  left back,
  ap left whole ∙ map-append without_crs front back,
  record { line = without_crs one.line; whole = ap left one.whole; spells = keeps one.line value each.0 one.spells },
  spell_left says P keeps values back each.1 rest,
)

-- what always holds
always : {V : Type 0} (values : List V) → AllByRecursion (λ _. Unit {0}) values
always [] = tt
always (value ∷ values) = (tt, always values)

-- ---- properties

-- one block
block_left : (block : Option Property) (lines : List Line) → AllByRecursion EndsWithoutCr (values_of (block ∷ [])) → IsBlock lines block → IsBlock (left lines) block
block_left (Some property) lines ends is = record { line = without_crs is.line; whole = ap left is.whole; is = property_left is.line property ends.0 is.is; kept = is.kept }
block_left None lines ends is =
    let count : length (left is.after) ≡ length is.after = length-map is.after without_crs in
    record { line = without_crs is.line; after = left is.after; whole = ap left is.whole; is = rw count (property_left is.line (kinds.Passed (length is.after)) tt is.is) }

-- the first of some blocks, and the others
first_ends : (block : Option Property) (blocks : List (Option Property))
    → AllByRecursion EndsWithoutCr (values_of (block ∷ blocks)) → AllByRecursion EndsWithoutCr (values_of (block ∷ []))
    × AllByRecursion EndsWithoutCr (values_of blocks)
first_ends (Some property) blocks ends = ((ends.0, tt), ends.1)
first_ends None blocks ends = (tt, ends)

-- all blocks
blocks_left : (blocks : List (Option Property)) (lines : List Line) → AllByRecursion EndsWithoutCr (values_of blocks) → Series IsBlock lines blocks → Series IsBlock (left lines) blocks
blocks_left [] lines ends is = ap left is
blocks_left (block ∷ blocks) lines ends (front, back, whole, one, rest) =
    let e = first_ends block blocks ends in (
      left front,
      left back,
      ap left whole ∙ map-append without_crs front back,
      block_left block front e.0 one,
      blocks_left blocks back e.1 rest,
    )

-- ---- the table

-- six parts behind the counts line
parts_left : (counts : Line) (a b c d e f : List Line) → left (counts ∷ (a ++ (b ++ (c ++ (d ++ (e ++ f)))))) ≡ without_crs counts ∷ (left a ++ (left b ++ (left c ++ (left d ++ (left e ++ left f)))))
parts_left counts a b c d e f =
    ap (λ (l : List Line). without_crs counts ∷ l)
    (map-append without_crs a (b ++ (c ++ (d ++ (e ++ f))))
    ∙ ap (λ (l : List Line). left a ++ l) (map-append without_crs b (c ++ (d ++ (e ++ f)))
    ∙ ap (λ (l : List Line). left b ++ l) (map-append without_crs c (d ++ (e ++ f))
    ∙ ap (λ (l : List Line). left c ++ l) (map-append without_crs d (e ++ f)
    ∙ ap (λ (l : List Line). left d ++ l) (map-append without_crs e f)))))

-- the lines are the same table
pub whole_is_table : KeptLinesAreTheTable
whole_is_table lines table is keeps = record {
  counts_line = without_crs is.counts_line;
  atom_lines = left is.atom_lines;
  bond_lines = left is.bond_lines;
  list_lines = left is.list_lines;
  stext_lines = left is.stext_lines;
  property_lines = left is.property_lines;
  last_line = without_crs is.last_line;
  whole = ap left is.whole ∙ parts_left is.counts_line is.atom_lines is.bond_lines is.list_lines is.stext_lines is.property_lines (is.last_line ∷ []);
  stext = is.stext;
  counted = counts_left is.counts_line _ is.counted;
  atoms = spell_left raw_atom_of (λ atom. EndsWith 13 atom.symbol → ⊥) atom_left table.atoms is.atom_lines
      (recursion_from_All (λ (atom : RawAtom). EndsWith 13 atom.symbol → ⊥) table.atoms keeps.symbols) is.atoms;
  bonds = spell_left _ (λ _. Unit {0}) (λ line bond _ read. bond_left line bond read) table.bonds is.bond_lines (always table.bonds) is.bonds;
  lists = spell_left _ (λ _. Unit {0}) (λ line list _ read. list_left line list read) table.lists is.list_lines (always table.lists) is.lists;
  two_each = length-map is.stext_lines without_crs ∙ is.two_each;
  properties = record {
    blocks = is.properties.blocks;
    each = blocks_left is.properties.blocks is.property_lines
        (subst (λ (ps : List Property). AllByRecursion EndsWithoutCr ps) is.properties.kept
        (recursion_from_All EndsWithoutCr table.props keeps.properties)) is.properties.each;
    kept = is.properties.kept;
  };
  ended = property_left is.last_line kinds.End tt is.ended;
}

-- and so are those from a line on
pub part_is_table : KeptLinesAreTheTableFrom
part_is_table at lines next table is keeps =
    let behind : drop at (left lines) ≡ left (drop at lines) = drop-map without_crs at lines in
    let front : take (next - at) (drop at (left lines)) ≡ left (take (next - at) (drop at lines)) = ap (take (next - at)) behind ∙ take-map without_crs (next - at) (drop at lines) in
    let size : length (drop at (left lines)) ≡ length (drop at lines) = ap length behind ∙ length-map (drop at lines) without_crs in
    record {
      from = is.from;
      part = record {
        within = rw size is.part.within;
        is = rw front (whole_is_table (take (next - at) (drop at lines)) table is.part.is keeps);
      };
    }
