-- A raw query has at most one query.
--     one_template         a table has at most one template
--     one_query            the law
use Rattle.std.proofs.Common.{◌≡◌, ◌+◌, ◌-◌, ℕ, zero, suc, Bool, true, false, cond, List, [], ◌∷◌, Option, Some, None, refl, sym, ap, subst, ◌∙◌, arith, inl, inr, get_or}
use Rattle.std.specs.Prelude.{ℤ, pos, codes, bytes_eq, slice_get}
use Rattle.std.specs.List.{list_all}
use Rattle.std.proofs.lemmas.List.{same_lists}
use Rattle.std.proofs.lemmas.Option.{slice_get-get_or}
use Rattle.mk_elements.specs.Symbols.{NamesElement, symbols}
use Rattle.mk_elements.proofs.ForCallers.{one_element}
use Rattle.mk_text.proofs.ForCallers.{both}
use Rattle.mk_props.specs.declared.property.LogicLine.{LogicLine}
use Rattle.mk_model.specs.declared.atom_test.AtomTest.{AtomTest}
use Rattle.mk_model.specs.declared.atom_test.Kind.{Kind}
use Rattle.mk_model.specs.declared.atom_test.Kind.TheVariants.{Element, NotHydrogen, Hetero, Anything}
use Rattle.mk_model.specs.declared.group.Group.{Group}
use Rattle.mk_model.specs.declared.group.Interval.{Interval}
use Rattle.mk_model.specs.declared.template.QueryBond.{QueryBond}
use Rattle.mk_model.specs.declared.template.Slot.{Slot}
use Rattle.mk_model.specs.Templates.{TemplateView}
use Rattle.mk_tables.specs.declared.raw.RawAtom.{RawAtom}
use Rattle.mk_tables.specs.declared.raw.RawTable.{RawTable}
use Rattle.mk_logic.specs.RangeTexts.{OneRange}
use Rattle.mk_rgfile.specs.declared.raw_query.RawQuery.{RawQuery}
use Rattle.mk_query.specs.Compiled.{AreGroupsOf, AreTemplatesOf, AreTestsOf, HasElements, IsKindOf, IsLogicOf, IsTemplateOf, IsTestBy, NameElements, kind_by, logic_for, of_any, of_any_heavy, of_element, of_hetero, of_list, query_tables}
use Rattle.mk_query.specs.Drawn.{ElementList, by_numbers, by_symbols, is_site, list_in_force}
use Rattle.mk_query.specs.Laws.{OneQuery}

-- ---- kinds

-- what a symbol is: an element's, or one of the words
data Word : Type 0 where
  named : Word
  listed : Word
  any_heavy : Word
  hetero : Word
  any : Word

word_of : List ℕ → Word
word_of symbol =
    cond (bytes_eq symbol (codes "L")) listed (cond (bytes_eq symbol (codes "A")) any_heavy (cond (bytes_eq symbol (codes "Q")) hetero (cond (bytes_eq symbol (codes "*")) any named)))

is_named : Word → Bool
is_named named = true
is_named other = false

-- no element's symbol is a word
names_one : List ℕ → Bool
names_one symbol = is_named (word_of symbol)

symbols-named : list_all names_one symbols ≡ true
unfolding symbols names_one is_named word_of
symbols-named = refl

all_at : (xs : List (List ℕ)) (k : ℕ) (x : List ℕ) → list_all names_one xs ≡ true → slice_get xs k ≡ Some x → names_one x ≡ true
all_at [] k x all at = absurd cc
all_at (y ∷ ys) zero x all at = (let same : y ≡ x = cc in ap names_one (sym same) ∙ (both (names_one y) (list_all names_one ys) all).0)
all_at (y ∷ ys) (suc k) x all at = all_at ys k x (both (names_one y) (list_all names_one ys) all).1 at

by_word : (w : Word) → is_named w ≡ true → w ≡ named
unfolding is_named
by_word named e = refl
by_word other e = absurd cc

word_of-named : (symbol : List ℕ) (z : ℕ) → NamesElement symbol z → word_of symbol ≡ named
unfolding names_one word_of
word_of-named symbol z (inl is) = by_word (word_of symbol) (all_at symbols (z - 1) symbol symbols-named is.1)
word_of-named symbol z (inr (one, inl d)) = ap word_of d
word_of-named symbol z (inr (one, inr t)) = ap word_of t

-- the kind that a symbol stands for, by what it is
KindBy : Option ElementList → List ℕ → Kind → Word → Type 0
KindBy in_force symbol kind named = (z : ℕ) × NamesElement symbol z × (kind ≡ Element z)
KindBy in_force symbol kind listed = (list : ElementList) × (in_force ≡ Some list) × (elements : List ℕ) × HasElements list elements × (kind ≡ kind_by list elements)
KindBy in_force symbol kind any_heavy = kind ≡ NotHydrogen
KindBy in_force symbol kind hetero = kind ≡ Hetero
KindBy in_force symbol kind any = kind ≡ Anything

kind_found : (in_force : Option ElementList) (symbol : List ℕ) (kind : Kind) → IsKindOf in_force symbol kind → KindBy in_force symbol kind (word_of symbol)
unfolding word_of KindBy
kind_found in_force symbol kind (of_element z names is) = subst (KindBy in_force symbol kind) (sym (word_of-named symbol z names)) (z, names, is)
kind_found in_force symbol kind (of_list word list force elements has is) = subst (KindBy in_force symbol kind) (sym (ap word_of word)) (list, force, elements, has, is)
kind_found in_force symbol kind (of_any_heavy word is) = subst (KindBy in_force symbol kind) (sym (ap word_of word)) is
kind_found in_force symbol kind (of_hetero word is) = subst (KindBy in_force symbol kind) (sym (ap word_of word)) is
kind_found in_force symbol kind (of_any word is) = subst (KindBy in_force symbol kind) (sym (ap word_of word)) is

-- a list has one list of elements
one_names : (names : List (List ℕ)) (xs ys : List ℕ) → NameElements names xs → NameElements names ys → xs ≡ ys
one_names [] [] [] p q = refl
one_names [] [] (y ∷ ys) p q = absurd q
one_names [] (x ∷ xs) ys p q = absurd p
one_names (symbol ∷ names) [] ys p q = absurd p
one_names (symbol ∷ names) (x ∷ xs) [] p q = absurd q
one_names (symbol ∷ names) (x ∷ xs) (y ∷ ys) p q =
    ap (λ (z : ℕ). z ∷ xs) (one_element symbol x y p.0 q.0) ∙ ap (λ (zs : List ℕ). y ∷ zs) (one_names names xs ys p.1 q.1)

one_elements : (list : ElementList) (xs ys : List ℕ) → HasElements list xs → HasElements list ys → xs ≡ ys
one_elements (by_numbers list) xs ys p q = p ∙ sym q
one_elements (by_symbols list) xs ys p q = one_names list.symbols xs ys p q

some_same : (a b : ElementList) → Some a ≡ Some b → a ≡ b
some_same a b e = cc

one_by_word : (in_force : Option ElementList) (symbol : List ℕ) (a b : Kind) (w : Word) → KindBy in_force symbol a w → KindBy in_force symbol b w → a ≡ b
unfolding KindBy
one_by_word in_force symbol a b named (y, is_y, p) (z, is_z, q) = p ∙ ap (λ (n : ℕ). Element n) (one_element symbol y z is_y is_z) ∙ sym q
one_by_word in_force symbol a b listed (list, in_a, xs, has_x, p) (other, in_b, ys, has_y, q) =
    let same : list ≡ other = some_same list other (sym in_a ∙ in_b) in
    let elements : xs ≡ ys = one_elements other xs ys (subst (λ (l : ElementList). HasElements l xs) same has_x) has_y in
    p ∙ ap (λ (l : ElementList). kind_by l xs) same ∙ ap (kind_by other) elements ∙ sym q
one_by_word in_force symbol a b any_heavy p q = p ∙ sym q
one_by_word in_force symbol a b hetero p q = p ∙ sym q
one_by_word in_force symbol a b any p q = p ∙ sym q

-- a symbol stands for one kind
one_kind : (in_force : Option ElementList) (symbol : List ℕ) (a b : Kind) → IsKindOf in_force symbol a → IsKindOf in_force symbol b → a ≡ b
one_kind in_force symbol a b p q = one_by_word in_force symbol a b (word_of symbol) (kind_found in_force symbol a p) (kind_found in_force symbol b q)

-- ---- tests

same_test : (a b : AtomTest) → a.kind ≡ b.kind → a.charge ≡ b.charge → a.radical ≡ b.radical → a.hydrogens ≡ b.hydrogens
    → a.ring_bonds ≡ b.ring_bonds → a.substitution ≡ b.substitution → a.unsaturated ≡ b.unsaturated
    → a ≡ b
same_test a b p q r s t u v =
    ap (λ (x : Kind). record { kind = x; charge = a.charge; radical = a.radical; hydrogens = a.hydrogens; ring_bonds = a.ring_bonds; substitution = a.substitution; unsaturated = a.unsaturated }) p
    ∙ ap (λ (x : ℤ). record { kind = b.kind; charge = x; radical = a.radical; hydrogens = a.hydrogens; ring_bonds = a.ring_bonds; substitution = a.substitution; unsaturated = a.unsaturated }) q
    ∙ ap (λ (x : ℕ). record { kind = b.kind; charge = b.charge; radical = x; hydrogens = a.hydrogens; ring_bonds = a.ring_bonds; substitution = a.substitution; unsaturated = a.unsaturated }) r
    ∙ ap (λ (x : ℕ). record { kind = b.kind; charge = b.charge; radical = b.radical; hydrogens = x; ring_bonds = a.ring_bonds; substitution = a.substitution; unsaturated = a.unsaturated }) s
    ∙ ap (λ (x : ℤ). record { kind = b.kind; charge = b.charge; radical = b.radical; hydrogens = b.hydrogens; ring_bonds = x; substitution = a.substitution; unsaturated = a.unsaturated }) t
    ∙ ap (λ (x : ℤ). record { kind = b.kind; charge = b.charge; radical = b.radical; hydrogens = b.hydrogens; ring_bonds = b.ring_bonds; substitution = x; unsaturated = a.unsaturated }) u
    ∙ ap (λ (x : Bool). record { kind = b.kind; charge = b.charge; radical = b.radical; hydrogens = b.hydrogens; ring_bonds = b.ring_bonds; substitution = b.substitution; unsaturated = x }) v

-- numbers that are one as integers
one_pos : (m n : ℕ) (z : ℤ) → pos m ≡ z → pos n ≡ z → m ≡ n
one_pos m n z p q = (let same : pos m ≡ pos n = p ∙ sym q in cc)

one_test : (is : Bool) (table : RawTable) (x : ℕ) (line : RawAtom) (a b : AtomTest) → IsTestBy is table x line a → IsTestBy is table x line b → a ≡ b
one_test true table x line a b p q = p ∙ sym q
one_test false table x line a b p q =
    same_test a b
    (one_kind (list_in_force table x) line.symbol a.kind b.kind p.kind q.kind)
    (p.charge ∙ sym q.charge)
    (one_pos a.radical b.radical _ p.radical q.radical)
    (one_pos a.hydrogens b.hydrogens _ p.hydrogens q.hydrogens)
    (p.ring_bonds ∙ sym q.ring_bonds)
    (p.substitution ∙ sym q.substitution)
    (p.unsaturated ∙ sym q.unsaturated)

one_tests : (table : RawTable) (xs ys : List AtomTest) → AreTestsOf table xs → AreTestsOf table ys → xs ≡ ys
one_tests table xs ys p q =
    same_lists xs ys (p.size ∙ sym q.size)
    (λ k d below.
    let none : RawAtom = record { symbol = []; charge = pos 0; hydrogens = pos 0; valence = pos 0 } in
    let line = get_or table.atoms k none in
    let line_at = slice_get-get_or table.atoms k none (omega (arith, below, p.size)) in
    one_test (is_site line) table (k + 1) line (get_or xs k d) (get_or ys k d)
    (p.each k line (get_or xs k d) line_at (slice_get-get_or xs k d below))
    (q.each k line (get_or ys k d) line_at (slice_get-get_or ys k d (omega (arith, below, p.size, q.size)))))

-- ---- templates

same_template : (a b : TemplateView) → a.atoms ≡ b.atoms → a.bonds ≡ b.bonds → a.slots ≡ b.slots → a.points ≡ b.points → a ≡ b
same_template a b p q r s =
    ap (λ (x : List AtomTest). record { atoms = x; bonds = a.bonds; slots = a.slots; points = a.points }) p
    ∙ ap (λ (x : List QueryBond). record { atoms = b.atoms; bonds = x; slots = a.slots; points = a.points }) q
    ∙ ap (λ (x : List Slot). record { atoms = b.atoms; bonds = b.bonds; slots = x; points = a.points }) r
    ∙ ap (λ (x : List ℕ). record { atoms = b.atoms; bonds = b.bonds; slots = b.slots; points = x }) s

pub one_template : (table : RawTable) (a b : TemplateView) → IsTemplateOf table a → IsTemplateOf table b → a ≡ b
one_template table a b p q = same_template a b (one_tests table a.atoms b.atoms p.atoms q.atoms) (p.bonds ∙ sym q.bonds) (p.slots ∙ sym q.slots) (p.points ∙ sym q.points)

one_templates : (tables : List RawTable) (none : RawTable) (xs ys : List TemplateView) → AreTemplatesOf tables xs → AreTemplatesOf tables ys → xs ≡ ys
one_templates tables none xs ys p q =
    same_lists xs ys (p.size ∙ sym q.size)
    (λ k d below.
    let table_at = slice_get-get_or tables k none (omega (arith, below, p.size)) in
    one_template (get_or tables k none) (get_or xs k d) (get_or ys k d)
    (p.each k (get_or tables k none) (get_or xs k d) table_at (slice_get-get_or xs k d below))
    (q.each k (get_or tables k none) (get_or ys k d) table_at (slice_get-get_or ys k d (omega (arith, below, p.size, q.size)))))

-- ---- groups

same_group : (a b : Group) → a.members ≡ b.members → a.then_group ≡ b.then_group → a.rest_hydrogen ≡ b.rest_hydrogen → a.range ≡ b.range → a ≡ b
same_group a b p q r s =
    ap (λ (x : List ℕ). record { members = x; then_group = a.then_group; rest_hydrogen = a.rest_hydrogen; range = a.range }) p
    ∙ ap (λ (x : ℕ). record { members = b.members; then_group = x; rest_hydrogen = a.rest_hydrogen; range = a.range }) q
    ∙ ap (λ (x : Bool). record { members = b.members; then_group = b.then_group; rest_hydrogen = x; range = a.range }) r
    ∙ ap (λ (x : List Interval). record { members = b.members; then_group = b.then_group; rest_hydrogen = b.rest_hydrogen; range = x }) s

module _ (one_range : OneRange) where
  one_group : (logic : Option LogicLine) (a b : Group) → a.members ≡ b.members → IsLogicOf logic a → IsLogicOf logic b → a ≡ b
  one_group None a b members (p, (q, r)) (s, (t, u)) = same_group a b members (p ∙ sym s) (q ∙ sym t) (one_range [] a.range b.range r u)
  one_group (Some logic) a b members (p, (q, r)) (s, (t, u)) =
      same_group a b members (one_pos a.then_group b.then_group logic.then_group p s) (q ∙ sym t) (one_range logic.range a.range b.range r u)

  one_groups : (raw : RawQuery) (xs ys : List Group) → AreGroupsOf raw xs → AreGroupsOf raw ys → xs ≡ ys
  one_groups raw xs ys p q =
      same_lists xs ys (p.size ∙ sym q.size)
      (λ k d below.
      let one = p.each k (get_or xs k d) (slice_get-get_or xs k d below) in
      let other = q.each k (get_or ys k d) (slice_get-get_or ys k d (omega (arith, below, p.size, q.size))) in
      one_group (logic_for (k + 1) raw.root.props) (get_or xs k d) (get_or ys k d) (one.members ∙ sym other.members) one.logic other.logic)

  -- ---- the query

  pub one_query : OneQuery
  one_query raw a b p q =
      ap (λ (x : List TemplateView). record { templates = x; groups = a.groups }) (one_templates (query_tables raw) raw.root a.templates b.templates p.templates q.templates)
      ∙ ap (λ (x : List Group). record { templates = b.templates; groups = x }) (one_groups raw a.groups b.groups p.groups q.groups)
