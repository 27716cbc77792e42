-- Each table of the drill's query passes the checks of its own.
use Rattle.std.proofs.Common.{[], ◌∷◌, ◌≡◌, ℕ, zero, suc, ◌≤◌, Bool, true, false, List, length, take, drop, arith, refl, sym, ◌∙◌, subst, inl, inr, lit<, lit≤, All, eqb, ◌||◌}
use Rattle.std.specs.Prelude.{codes, pos, IsTrue}
use Rattle.std.proofs.lemmas.Bool.{false≢true}
use Rattle.std.proofs.lemmas.Bool.Decides.{nat_tests}
use Rattle.std.proofs.lemmas.Int.{ints}
use Rattle.std.proofs.lemmas.List.{length-map, length-take}
use Rattle.std.proofs.lemmas.List.Elements.{All-cons, All-nil}
use Rattle.std.proofs.lemmas.List.Sums.{count_by-le-length}
use Rattle.mk_elements.specs.Symbols.{symbols}
use Rattle.mk_props.specs.declared.property.Pair.{Pair}
use Rattle.mk_props.specs.declared.property.Property.TheVariants as kinds
use Rattle.mk_model.specs.Edges.{touches}
use Rattle.mk_tables.specs.declared.raw.RawAtom.{RawAtom}
use Rattle.mk_tables.specs.declared.raw.RawBond.{RawBond}
use Rattle.mk_tables.specs.declared.raw.RawList.{RawList}
use Rattle.mk_tables.specs.declared.raw.RawTable.{RawTable}
use Rattle.mk_demands.specs.Bonds.{raw_edge, edges_of}
use Rattle.mk_demands.specs.Numbers.{IsAtom, IsWithin}
use Rattle.mk_logic.specs.RangeTexts.{above, blank_text}
use Rattle.mk_rgfile.specs.declared.raw_query.RawGroup.{RawGroup}
use Rattle.mk_query.specs.Checks.{HasQueryType, IsElementName, IsQueryAtom, IsQueryProperty, LeavesFewBonds}
use Rattle.mk_query.specs.CompileFaults.{PassEach}
use Rattle.mk_query.specs.Drawn.{bears_point, drawn_neighbours, is_site, is_site_at, labels_at, links_at, lists_at}
use Rattle.mk_query.specs.FirstFault.{QueryCheck, Passes, PassesAll, attachment_points, element_lists, group_logic, link_atoms, query_atoms, query_bonds, query_properties, labelled_sites, site_orders, site_places}
use Rattle.mk_query.specs.LinkChecks.{AreRightLinks, IsLogical, IsPointed, SpeaksOfSame}
use Rattle.mk_query.specs.SiteChecks.{ArePlaced, HasKnownMembers, HasMember, IsLabelled, IsListed, IsOrdered}
use Rattle.mk_drill.specs.Draws.{plain_atom, plain_bond}
use Rattle.mk_drill.proofs.BondLemmas.{AreNew, new_at, new_behind, ring, ring_is_new}
use Rattle.mk_drill.proofs.QueryItemLemmas.{EachFrom, each_item}
use Rattle.mk_drill.proofs.QueryTables.{methoxy, pair, point, query_groups, query_raw, root_logic, root_table, single}

within : (low high n : ℕ) → low ≤ n → n ≤ high → IsWithin (pos low) (pos high) (pos n)
within low high n least most = record { least = omega (arith, ints); most = omega (arith, ints) }

-- ---- atoms

element : (symbol : List ℕ) → IsElementName symbol → IsQueryAtom (plain_atom symbol)
element symbol named = record { symbol = inl named; charge = within 0 7 0 (lit≤ tt) (lit≤ tt); hydrogens = within 0 5 0 (lit≤ tt) (lit≤ tt) }

carbon_named : IsElementName (codes "C")
unfolding symbols
carbon_named = record { element = 6; names = inl (lit≤ tt, refl) }

oxygen_named : IsElementName (codes "O")
unfolding symbols
oxygen_named = record { element = 8; names = inl (lit≤ tt, refl) }

chlorine_named : IsElementName (codes "Cl")
unfolding symbols
chlorine_named = record { element = 17; names = inl (lit≤ tt, refl) }

bromine_named : IsElementName (codes "Br")
unfolding symbols
bromine_named = record { element = 35; names = inl (lit≤ tt, refl) }

site : IsQueryAtom (plain_atom (codes "R#"))
site = record { symbol = inr (inr (inr (inr (inr refl)))); charge = within 0 7 0 (lit≤ tt) (lit≤ tt); hydrogens = within 0 5 0 (lit≤ tt) (lit≤ tt) }

-- ---- bonds

typed : (x y kind : ℕ) → 1 ≤ kind → kind ≤ 8 → HasQueryType (plain_bond x y kind)
typed x y kind least most = record { kind = within 1 8 kind least most; topology = within 0 2 0 (lit≤ tt) (lit≤ tt) }

-- few bonds leave few at each atom
leaves_few : (atoms : ℕ) (bonds : List RawBond) (item : ℕ) → length bonds ≤ 20 → LeavesFewBonds atoms bonds item
leaves_few atoms bonds item few n least most =
    omega (arith, count_by-le-length (touches n) (edges_of (take item bonds)), length-map (take item bonds) raw_edge, length-take item bonds)

bonds_pass : (groups : List RawGroup) (is_root : Bool) (table : RawTable) → AreNew (length table.atoms) [] table.bonds → EachFrom (λ item. HasQueryType) 1 table.bonds → length table.bonds ≤ 20
    → Passes groups is_root table query_bonds
bonds_pass groups is_root table new types few item = record {
  new = new_at (length table.atoms) table.bonds new item;
  columns = each_item (λ (n : ℕ). HasQueryType) table.bonds types item;
  few = leaves_few (length table.atoms) table.bonds item few;
}

-- ---- lists of elements

unlisted : (c : ℕ) (text : List ℕ) → (c ≡ 76 → ⊥) → IsListed [] (plain_atom (c ∷ text))
unlisted c text other = record {
  members = All-nil HasKnownMembers;
  word = (λ same. absurd (other (cc)), λ some. absurd (some refl));
}

-- ---- properties

pair_of_atom : (atoms x value : ℕ) → 1 ≤ x → x ≤ atoms → All (λ (p : Pair). IsAtom atoms p.atom) (pair x value ∷ [])
pair_of_atom atoms x value least most = All-cons (λ (p : Pair). IsAtom atoms p.atom) (pair x value) [] (within 1 atoms x least most) (All-nil (λ (p : Pair). IsAtom atoms p.atom))

pair_of_value : (low high x value : ℕ) → low ≤ value → value ≤ high → All (λ (p : Pair). IsWithin (pos low) (pos high) p.value) (pair x value ∷ [])
pair_of_value low high x value least most =
    All-cons (λ (p : Pair). IsWithin (pos low) (pos high) p.value) (pair x value) [] (within low high value least most) (All-nil (λ (p : Pair). IsWithin (pos low) (pos high) p.value))

known_point : (atoms : ℕ) → 1 ≤ atoms → IsQueryProperty atoms (point 1)
known_point atoms some = record { named = pair_of_atom atoms 1 1 (lit≤ tt) some; values = pair_of_value 1 3 1 1 (lit≤ tt) (lit≤ tt) }

-- ---- labels, sites

unlabelled : (groups : List RawGroup) (symbol : List ℕ) → is_site (plain_atom symbol) ≡ false → IsLabelled groups [] (plain_atom symbol)
unlabelled groups symbol other = record {
  word = (λ test. absurd (false≢true (sym other ∙ test)), λ some. absurd (some refl));
  once = λ i j d less below. absurd (omega (arith, below));
  members = All-nil (HasMember groups);
}

labelled : IsLabelled query_groups (pos 1 ∷ []) (plain_atom (codes "R#"))
labelled = record {
  word = (λ test none. cc, λ some. refl);
  once = λ i j d less below. absurd (omega (arith, less, below));
  members = All-cons (HasMember query_groups) (pos 1) [] (
    record { number = 1; members = single (codes "Cl") ∷ single (codes "Br") ∷ methoxy ∷ [] },
    (0, lit< tt, refl),
    refl,
    lit≤ tt,
  ) (All-nil (HasMember query_groups));
}

-- an atom that is no site needs no place
unplaced : (table : RawTable) (symbol : List ℕ) (neighbours : List ℕ) → is_site (plain_atom symbol) ≡ false → IsTrue (is_site (plain_atom symbol)) → ArePlaced table neighbours
unplaced table symbol neighbours other test = absurd (false≢true (sym other ∙ test))

placed : ArePlaced root_table (1 ∷ [])
placed = record {
  some = lit≤ tt;
  two = lit≤ tt;
  apart = All-cons (λ y. IsTrue (is_site_at root_table y) → ⊥) 1 [] (λ test. false≢true test) (All-nil (λ y. IsTrue (is_site_at root_table y) → ⊥));
}

-- ---- attachment points

zero_gives : (p : ℕ) → 1 ≤ p → (eqb 0 p || false) ≡ true → ⊥
zero_gives p least test = grind (arith, nat_tests)

-- no point stands at the atom
pointless : (is_root : Bool) (table : RawTable) (x : ℕ) → ((p : ℕ) → 1 ≤ p → bears_point table p x ≡ true → ⊥) → IsPointed is_root table x
pointless is_root table x none = record {
  member = λ bears. absurd (none bears.0 bears.1 bears.3);
  no_site = λ bears. absurd (none bears.0 bears.1 bears.3);
  no_link = λ bears. absurd (none bears.0 bears.1 bears.3);
  alone = λ p y least most first below bears other. none p least bears;
  first = λ bears. absurd (none 2 (lit≤ tt) bears);
}

pointed : (symbol : List ℕ) → is_site (plain_atom symbol) ≡ false → IsPointed false (single symbol) 1
pointed symbol other = record {
  member = λ bears. refl;
  no_site = λ bears test. false≢true (sym other ∙ test);
  no_link = λ bears. refl;
  alone = λ p y least most first below bears twice. omega (arith, first, below);
  first = λ bears. absurd (false≢true bears);
}

-- ---- the root

right_logic : IsLogical true (drop 1 root_table.props) (kinds.Logic root_logic)
right_logic = record {
  root = refl;
  last = All-cons (λ later. SpeaksOfSame root_logic later → ⊥) (kinds.Label (pair 7 1 ∷ [])) [] (λ same. same) (All-nil (λ later. SpeaksOfSame root_logic later → ⊥));
  group = within 1 32 1 (lit≤ tt) (lit≤ tt);
  then_group = within 0 32 0 (lit≤ tt) (lit≤ tt);
  rest = within 0 1 1 (lit≤ tt) (lit≤ tt);
  range = (above 0 ∷ [], blank_text refl refl);
}

root_passes : (check : QueryCheck) → Passes query_groups true root_table check
root_passes query_atoms =
    let c = element (codes "C") carbon_named in
    each_item (λ (n : ℕ). IsQueryAtom) root_table.atoms (c, (c, (c, (c, (c, (c, (site, tt)))))))
root_passes query_bonds =
    bonds_pass query_groups true root_table (new_behind 6 1 1 ring (lit≤ tt) (lit≤ tt) ring_is_new) (
      typed 1 2 2 (lit≤ tt) (lit≤ tt),
      (
        typed 2 3 1 (lit≤ tt) (lit≤ tt),
        (
          typed 3 4 2 (lit≤ tt) (lit≤ tt),
          (
            typed 4 5 1 (lit≤ tt) (lit≤ tt),
            (typed 5 6 2 (lit≤ tt) (lit≤ tt), (typed 1 6 1 (lit≤ tt) (lit≤ tt), (typed 1 7 1 (lit≤ tt) (lit≤ tt), tt))),
          ),
        ),
      ),
    ) (lit≤ tt)
root_passes query_properties =
    each_item (λ (n : ℕ). IsQueryProperty 7) root_table.props
    (record { named = tt; values = tt }, (record { named = pair_of_atom 7 7 1 (lit≤ tt) (lit≤ tt); values = pair_of_value 1 32 7 1 (lit≤ tt) (lit≤ tt) }, tt))
root_passes element_lists = λ item.
    let c = unlisted 67 [] (λ same. omega (arith, same)) in
    let r = unlisted 82 (35 ∷ []) (λ same. omega (arith, same)) in
    (λ first. All-nil (λ (list : RawList). IsAtom 7 list.atom), each_item (λ (n : ℕ). IsListed (lists_at root_table n)) root_table.atoms (c, (c, (c, (c, (c, (c, (r, tt))))))) item)
root_passes labelled_sites =
    let c = unlabelled query_groups (codes "C") refl in
    each_item (λ (n : ℕ). IsLabelled query_groups (labels_at root_table n)) root_table.atoms (c, (c, (c, (c, (c, (c, (labelled, tt)))))))
root_passes site_places =
    let c = λ (n : ℕ). unplaced root_table (codes "C") (drawn_neighbours root_table n) refl in
    each_item (λ (n : ℕ) (atom : RawAtom). IsTrue (is_site atom) → ArePlaced root_table (drawn_neighbours root_table n)) root_table.atoms
    (c 1, (c 2, (c 3, (c 4, (c 5, (c 6, (λ test. placed, tt)))))))
root_passes site_orders = each_item (λ (n : ℕ). IsOrdered root_table (drop n root_table.props)) root_table.props (tt, (tt, tt))
root_passes attachment_points =
    let none = λ (n : ℕ). pointless true root_table n zero_gives in
    each_item (λ (n : ℕ) (atom : RawAtom). IsPointed true root_table n) root_table.atoms (none 1, (none 2, (none 3, (none 4, (none 5, (none 6, (none 7, tt)))))))
root_passes link_atoms =
    each_item (λ (n : ℕ) (atom : RawAtom). AreRightLinks root_table n (links_at root_table n)) root_table.atoms (tt, (tt, (tt, (tt, (tt, (tt, (tt, tt)))))))
root_passes group_logic = each_item (λ (n : ℕ). IsLogical true (drop n root_table.props)) root_table.props (right_logic, (tt, tt))

-- ---- the members

single_passes : (c : ℕ) (text : List ℕ) → IsElementName (c ∷ text) → (c ≡ 76 → ⊥) → is_site (plain_atom (c ∷ text)) ≡ false → (check : QueryCheck) → Passes query_groups false (single (c ∷ text)) check
single_passes c text named no_list no_site query_atoms = each_item (λ (n : ℕ). IsQueryAtom) (single (c ∷ text)).atoms (element (c ∷ text) named, tt)
single_passes c text named no_list no_site query_bonds = bonds_pass query_groups false (single (c ∷ text)) tt tt (lit≤ tt)
single_passes c text named no_list no_site query_properties = each_item (λ (n : ℕ). IsQueryProperty 1) (single (c ∷ text)).props (known_point 1 (lit≤ tt), tt)
single_passes c text named no_list no_site element_lists = λ item.
    (λ first. All-nil (λ (list : RawList). IsAtom 1 list.atom), each_item (λ (n : ℕ). IsListed (lists_at (single (c ∷ text)) n)) (single (c ∷ text)).atoms (unlisted c text no_list, tt) item)
single_passes c text named no_list no_site labelled_sites =
    each_item (λ (n : ℕ). IsLabelled query_groups (labels_at (single (c ∷ text)) n)) (single (c ∷ text)).atoms (unlabelled query_groups (c ∷ text) no_site, tt)
single_passes c text named no_list no_site site_places =
    each_item (λ (n : ℕ) (atom : RawAtom). IsTrue (is_site atom) → ArePlaced (single (c ∷ text)) (drawn_neighbours (single (c ∷ text)) n)) (single (c ∷ text)).atoms
    (unplaced (single (c ∷ text)) (c ∷ text) (drawn_neighbours (single (c ∷ text)) 1) no_site, tt)
single_passes c text named no_list no_site site_orders = each_item (λ (n : ℕ). IsOrdered (single (c ∷ text)) (drop n (single (c ∷ text)).props)) (single (c ∷ text)).props (tt, tt)
single_passes c text named no_list no_site attachment_points =
    each_item (λ (n : ℕ) (atom : RawAtom). IsPointed false (single (c ∷ text)) n) (single (c ∷ text)).atoms (pointed (c ∷ text) no_site, tt)
single_passes c text named no_list no_site link_atoms =
    each_item (λ (n : ℕ) (atom : RawAtom). AreRightLinks (single (c ∷ text)) n (links_at (single (c ∷ text)) n)) (single (c ∷ text)).atoms (tt, tt)
single_passes c text named no_list no_site group_logic = each_item (λ (n : ℕ). IsLogical false (drop n (single (c ∷ text)).props)) (single (c ∷ text)).props (tt, tt)

methoxy_pointed : IsPointed false methoxy 1
methoxy_pointed = record {
  member = λ bears. refl;
  no_site = λ bears test. false≢true test;
  no_link = λ bears. refl;
  alone = λ p y least most first below bears twice. omega (arith, first, below);
  first = λ bears. absurd (false≢true bears);
}

methoxy_passes : (check : QueryCheck) → Passes query_groups false methoxy check
methoxy_passes query_atoms = each_item (λ (n : ℕ). IsQueryAtom) methoxy.atoms (element (codes "O") oxygen_named, (element (codes "C") carbon_named, tt))
methoxy_passes query_bonds = bonds_pass query_groups false methoxy (new_behind 1 1 1 [] (lit≤ tt) (lit≤ tt) tt) (typed 1 2 1 (lit≤ tt) (lit≤ tt), tt) (lit≤ tt)
methoxy_passes query_properties = each_item (λ (n : ℕ). IsQueryProperty 2) methoxy.props (known_point 2 (lit≤ tt), tt)
methoxy_passes element_lists = λ item. (
  λ first. All-nil (λ (list : RawList). IsAtom 2 list.atom),
  each_item (λ (n : ℕ). IsListed (lists_at methoxy n)) methoxy.atoms
      (unlisted 79 [] (λ same. omega (arith, same)), (unlisted 67 [] (λ same. omega (arith, same)), tt)) item,
)
methoxy_passes labelled_sites =
    each_item (λ (n : ℕ). IsLabelled query_groups (labels_at methoxy n)) methoxy.atoms (unlabelled query_groups (codes "O") refl, (unlabelled query_groups (codes "C") refl, tt))
methoxy_passes site_places =
    each_item (λ (n : ℕ) (atom : RawAtom). IsTrue (is_site atom) → ArePlaced methoxy (drawn_neighbours methoxy n)) methoxy.atoms
    (unplaced methoxy (codes "O") (drawn_neighbours methoxy 1) refl, (unplaced methoxy (codes "C") (drawn_neighbours methoxy 2) refl, tt))
methoxy_passes site_orders = each_item (λ (n : ℕ). IsOrdered methoxy (drop n methoxy.props)) methoxy.props (tt, tt)
methoxy_passes attachment_points =
    each_item (λ (n : ℕ) (atom : RawAtom). IsPointed false methoxy n) methoxy.atoms (methoxy_pointed, (pointless false methoxy 2 zero_gives, tt))
methoxy_passes link_atoms = each_item (λ (n : ℕ) (atom : RawAtom). AreRightLinks methoxy n (links_at methoxy n)) methoxy.atoms (tt, (tt, tt))
methoxy_passes group_logic = each_item (λ (n : ℕ). IsLogical false (drop n methoxy.props)) methoxy.props (tt, tt)

-- ---- all tables

passing : (is_root : Bool) (a b : RawTable) → a ≡ b → PassesAll query_groups is_root a → PassesAll query_groups is_root b
passing is_root a b same passes = subst (λ (t : RawTable). PassesAll query_groups is_root t) same passes

chlorine_passes : PassesAll query_groups false (single (codes "Cl"))
chlorine_passes = single_passes 67 (108 ∷ []) chlorine_named (λ same. omega (arith, same)) refl

bromine_passes : PassesAll query_groups false (single (codes "Br"))
bromine_passes = single_passes 66 (114 ∷ []) bromine_named (λ same. omega (arith, same)) refl

pub tables_pass : PassEach query_raw
tables_pass zero table at = passing true root_table table (cc) root_passes
tables_pass (suc zero) table at = passing false (single (codes "Cl")) table (cc) chlorine_passes
tables_pass (suc (suc zero)) table at = passing false (single (codes "Br")) table (cc) bromine_passes
tables_pass (suc (suc (suc zero))) table at = passing false methoxy table (cc) methoxy_passes
tables_pass (suc (suc (suc (suc k)))) table at = absurd cc
