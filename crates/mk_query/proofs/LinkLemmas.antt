-- Links that can stand where they are named.
--     NoneOf, none-more, none-all, some_at     a search among the bonds of an atom
--     right_link_last                          a link is right where the last test says so
--     right_links                              what the code tests of an atom is the demand
--     between                                  bonds that pass their check are between atoms
use Rattle.std.proofs.Common.{◌≡◌, ◌≤◌, ◌<◌, ◌+◌, ◌-◌, ℕ, Bool, true, false, eqb, ◌&&◌, ◌||◌, List, [], ◌∷◌, refl, ap, sym, subst, ◌∙◌, length, get_or, arith, ⊎_elim, inl, inr, Result, Ok, Err}
use Rattle.std.specs.Prelude.{◌⊎◌, ◌↔◌, All, Contains, IfOk, not, IsTrue}
use Rattle.std.proofs.lemmas.Bool.{cases_eq, cases_lt, eqb-true, true≢false}
use Rattle.std.proofs.lemmas.List.{get_or_default, length-map}
use Rattle.std.proofs.lemmas.List.Elements.{All-map, Contains-get_or}
use Rattle.mk_text.proofs.ForCallers.{all_of, both}
use Rattle.mk_props.specs.declared.property.LinkEntry.{LinkEntry}
use Rattle.mk_model.specs.declared.template.QueryBond.{QueryBond}
use Rattle.mk_model.specs.Edges.{AreBetween, IsBetween}
use Rattle.mk_model.specs.Templates.{hang_together, joins, query_edge, query_edges}
use Rattle.mk_model.proofs.ForCallers.{hangs, hangs_closed, kept_within}
use Rattle.mk_tables.specs.declared.raw.RawBond.{RawBond}
use Rattle.mk_tables.specs.declared.raw.RawTable.{RawTable}
use Rattle.mk_demands.specs.Bonds.{HasTwoEnds}
use Rattle.mk_demands.specs.Numbers.{natural}
use Rattle.mk_demands.proofs.ForCallers.{atom_within, atoms_differ}
use Rattle.mk_query.specs.declared.atom_marks.Standing.{Standing}
use Rattle.mk_query.specs.declared.blocks.LinkEnds.{LinkEnds}
use Rattle.mk_query.specs.declared.linked_atoms.Linked.{Linked}
use Rattle.mk_query.specs.declared.linked_atoms.Linked.TheVariants as linked
use Rattle.mk_query.specs.AtomMarks.{AreStanding}
use Rattle.mk_query.specs.BlockSearch.{AreNumbersOf, HasPlainBlock, MayHold, is_own, others}
use Rattle.mk_query.specs.Checks.{IsQueryBond}
use Rattle.mk_query.specs.Drawn.{bears_point, is_site_at, links_at, query_bond, query_bonds}
use Rattle.mk_query.specs.LinkChecks.{AreRightLinks, BearsSome, IsInBlock, CanBeLink}
use Rattle.mk_query.specs.LinkMarks.{IsLinked}
use Rattle.mk_query.specs.LinkSearch.{AreAlikeBonds, AreRightBy, IsLinkable, IsRightLinkBy, IsRightLink, ends_of}
use Rattle.mk_query.proofs.FollowLemmas.{bond_number, edge_at, number_bond}
use Rattle.mk_query.proofs.AtomMarkLemmas.{bears_is, link_none, links_are, none_link, site_is}

-- ---- among the bonds of an atom

-- none of the bonds of the first i numbers has P
abbrev pub NoneOf : (QueryBond → Type 0) → List QueryBond → List ℕ → ℕ → Type 0
NoneOf P bonds numbers i = (k : ℕ) (d : QueryBond) → k < i → ¬ (P (get_or bonds (get_or numbers k 0 - 1) d))

pub none-more : (P : QueryBond → Type 0) (bonds : List QueryBond) (y : ℕ) (numbers : List ℕ) (i : ℕ) (d : QueryBond) → AreNumbersOf bonds y numbers → i < length numbers
    → ¬ (P (get_or bonds (get_or numbers i 0 - 1) d)) → NoneOf P bonds numbers i → NoneOf P bonds numbers (i + 1)
none-more P bonds y numbers i d are inside not before k e below =
    ⊎_elim
    (λ earlier. before k e earlier)
    (λ here.
    let same : i ≡ k = omega (arith, here, below) in
    let first : ¬ (P (get_or bonds (get_or numbers i 0 - 1) e)) =
    subst (λ (b : QueryBond). ¬ (P b)) (get_or_default bonds (get_or numbers i 0 - 1) d e
    (number_bond bonds y numbers i d are inside).0) not in
    subst (λ (j : ℕ). ¬ (P (get_or bonds (get_or numbers j 0 - 1) e))) same first)
    (cases_lt k i)

-- a bond of a number is one of the bonds
pub some_at : (bonds : List QueryBond) (y : ℕ) (numbers : List ℕ) (i : ℕ) (d : QueryBond) → AreNumbersOf bonds y numbers → i < length numbers → Contains bonds (get_or bonds (get_or numbers i 0 - 1) d)
some_at bonds y numbers i d are inside = Contains-get_or bonds (get_or numbers i 0 - 1) d (number_bond bonds y numbers i d are inside).0

-- a bond that joins y to another has y at an end
joined_end : (y z : ℕ) (bond : QueryBond) → joins y z bond ≡ true → (bond.first ≡ y) ⊎ (bond.second ≡ y)
joined_end y z bond is = by_first (eqb bond.first y) refl is
  where
    by_first : (b : Bool) → eqb bond.first y ≡ b → ((b && eqb bond.second z) || (eqb bond.first z && eqb bond.second y)) ≡ true → (bond.first ≡ y) ⊎ (bond.second ≡ y)
    by_first true e is = inl (eqb-true bond.first y e)
    by_first false e is = inr (eqb-true bond.second y (both (eqb bond.first z) (eqb bond.second y) is).1)

-- behind the last number no bond of atom y has P
pub none-all : (P : QueryBond → Type 0) (bonds : List QueryBond) (y z : ℕ) (numbers : List ℕ) (i : ℕ) (bond : QueryBond) → AreNumbersOf bonds y numbers → length numbers ≤ i → NoneOf P bonds numbers i
    → Contains bonds bond → joins y z bond ≡ true → ¬ (P bond)
none-all P bonds y z numbers i bond are all none at joined =
    let found = bond_number bonds y numbers bond are at (joined_end y z bond joined) in
    subst (λ (b : QueryBond). ¬ (P b)) (found.2 bond) (none found.0 bond (omega (arith, found.1, all)))

-- ---- the last test

pub right_link_last : {E : Type 0} (answer : Result Bool E) (atoms : ℕ) (bonds : List QueryBond) (standing : Standing) (x : ℕ) (link : LinkEntry)
    → IsLinkable atoms standing x link → AreAlikeBonds bonds (ends_of x link) → IfOk answer (λ plain. IsTrue plain ↔ HasPlainBlock bonds standing (ends_of x link))
    → IfOk answer (λ right. IsTrue right ↔ IsRightLink atoms bonds standing x link)
right_link_last (Ok plain) atoms bonds standing x link linkable alike tells =
    (λ yes. record { linkable = linkable; alike = alike; plain = tells.0 yes }, λ right. tells.1 right.plain)
right_link_last (Err none) atoms bonds standing x link linkable alike tells = tt

-- ---- bonds between atoms

two_ends : (atoms : ℕ) (bond : RawBond) → HasTwoEnds atoms bond → IsBetween atoms (query_edge (query_bond bond))
two_ends atoms bond ends = record {
  first = atom_within atoms bond.first ends.first;
  second = atom_within atoms bond.second ends.second;
  differ = λ same. ends.differ (atoms_differ atoms bond.first bond.second ends.first ends.second same);
}

pub between : (atoms : ℕ) (bonds : List RawBond) → ((item : ℕ) → IsQueryBond atoms bonds item) → AreBetween atoms (query_edges (query_bonds bonds))
between atoms bonds pass =
    let ends : All (HasTwoEnds atoms) bonds = all_of (HasTwoEnds atoms) bonds (λ item x least at. ((pass item).new x least at).ends) in
    All-map (IsBetween atoms) query_edge (query_bonds bonds)
    (All-map (λ (bond : QueryBond). IsBetween atoms (query_edge bond)) query_bond bonds (λ k d below. two_ends atoms (get_or bonds k d) (ends k d below)))

-- what hangs together with an atom is one
module _ (atoms : ℕ) (bonds : List QueryBond) (link : LinkEnds) (ends : AreBetween atoms (query_edges bonds)) where
  bond_within : (bond : QueryBond) → Contains (others link bonds) bond → IsBetween atoms (query_edge bond)
  bond_within bond at =
      let found = (kept_within (λ (c : QueryBond). not (is_own link c)) bonds bond at).0 in
      subst (IsBetween atoms) (edge_at bonds found.0 bond found.1 ∙ ap query_edge found.2) (ends found.0 (query_edge bond) (let below = found.1 in omega (arith, below, length-map bonds query_edge)))

  pub in_block_within : (y : ℕ) → 1 ≤ link.atom → link.atom ≤ atoms → IsTrue (hang_together (others link bonds) link.atom y) → (1 ≤ y) × (y ≤ atoms)
  in_block_within y least most is =
      hangs_closed (λ (x : ℕ). (1 ≤ x) × (x ≤ atoms)) (others link bonds) link.atom y
      (record { forth = λ bond at here. (bond_within bond at).second; back = λ bond at here. (bond_within bond at).first })
      (hangs (others link bonds) link.atom y is) (least, most)

-- ---- one link

module _ (table : RawTable) (standing : Standing) (are : AreStanding table standing)
    (ends : AreBetween (length table.atoms) (query_edges (query_bonds table.bonds))) (x : ℕ) (link : LinkEntry)
    (least : 1 ≤ x) (most : x ≤ length table.atoms) where
  not_true : (b : Bool) → ¬ (b ≡ true) → b ≡ false
  not_true true not = absurd (not refl)
  not_true false not = refl

  to_table : IsRightLink (length table.atoms) (query_bonds table.bonds) standing x link → CanBeLink table x link
  to_table by = record {
    no_site = λ site. true≢false (sym (site_is table standing x are ∙ site) ∙ by.linkable.no_site);
    twice = by.linkable.twice;
    from = by.linkable.from;
    to = by.linkable.to;
    differ = by.linkable.differ;
    alike = record {
      one = by.alike.one;
      one_at = by.alike.at;
      one_joins = by.alike.joined;
      other = by.alike.like.other;
      other_at = by.alike.like.at;
      other_joins = by.alike.like.like.joined;
      kind = by.alike.like.like.kind;
      topology = by.alike.like.like.topology;
    };
    not_from = λ is. (by.plain (natural link.from) is).not_from refl;
    not_to = λ is. (by.plain (natural link.to) is).not_to refl;
    plain = λ y y_least y_most is.
        let may = by.plain y is in
        record {
          no_site = λ site. true≢false (sym (site_is table standing y are ∙ site) ∙ may.no_site);
          no_link = λ other. link_none table standing y are y_least y_most (may.no_link other);
          no_point = λ some. no_point y y_least y_most may some;
        };
  }
    where
      no_point : (y : ℕ) → 1 ≤ y → y ≤ length table.atoms → MayHold standing (ends_of x link) y → ¬ (BearsSome table y)
      no_point y y_least y_most may (p, from, to, is) =
          ⊎_elim
          (λ same. true≢false (sym (bears_is table standing 1 y are y_least y_most ∙ subst (λ (q : ℕ). bears_point table q y ≡ true) same is) ∙ may.no_first))
          (λ other.
          let same : p ≡ 2 = omega (arith, other, from, to) in
          true≢false (sym (bears_is table standing 2 y are y_least y_most ∙ subst (λ (q : ℕ). bears_point table q y ≡ true) same is) ∙ may.no_second))
          (cases_eq p 1)

  to_search : CanBeLink table x link → IsRightLink (length table.atoms) (query_bonds table.bonds) standing x link
  to_search right = record {
    linkable = record {
      no_site = site_is table standing x are ∙ not_true (is_site_at table x) right.no_site;
      twice = right.twice;
      from = right.from;
      to = right.to;
      differ = right.differ;
    };
    alike = record {
      one = right.alike.one;
      at = right.alike.one_at;
      joined = right.alike.one_joins;
      like = record {
        other = right.alike.other;
        at = right.alike.other_at;
        like = record { joined = right.alike.other_joins; kind = right.alike.kind; topology = right.alike.topology };
      };
    };
    plain = λ y is.
        let inside = in_block_within (length table.atoms) (query_bonds table.bonds) (ends_of x link) ends y least most is in
        let plain = right.plain y inside.0 inside.1 is in
        record {
          not_from = λ same. right.not_from (subst (IsInBlock table x link) same is);
          not_to = λ same. right.not_to (subst (IsInBlock table x link) same is);
          no_site = site_is table standing y are ∙ not_true (is_site_at table y) plain.no_site;
          no_link = λ other. none_link table standing y are inside.0 inside.1 (plain.no_link other);
          no_first = bears_is table standing 1 y are inside.0 inside.1 ∙ not_true (bears_point table 1 y) (λ is. plain.no_point (1, omega arith, omega arith, is));
          no_second = bears_is table standing 2 y are inside.0 inside.1 ∙ not_true (bears_point table 2 y) (λ is. plain.no_point (2, omega arith, omega arith, is));
        };
  }

-- ---- the links of an atom

by_links : (table : RawTable) (standing : Standing) (x : ℕ) (links : List LinkEntry) (noted : Linked)
    → AreStanding table standing → AreBetween (length table.atoms) (query_edges (query_bonds table.bonds)) → 1 ≤ x
    → x ≤ length table.atoms
    → IsLinked links noted → IsRightLinkBy (length table.atoms) (query_bonds table.bonds) standing x noted ↔ AreRightLinks table x links
by_links table standing x links linked.Nothing are ends least most is = rw is (λ t. tt, λ t. tt)
by_links table standing x links (linked.One link) are ends least most is = rw is (to_table table standing are ends x link least most, to_search table standing are ends x link least most)
by_links table standing x [] linked.More are ends least most is = absurd (omega (arith, is))
by_links table standing x (link ∷ []) linked.More are ends least most is = absurd (omega (arith, is))
by_links table standing x (link ∷ second ∷ others) linked.More are ends least most is = (λ never. never, λ never. never)

pub right_links : (table : RawTable) (standing : Standing) (x : ℕ) → AreStanding table standing
    → AreBetween (length table.atoms) (query_edges (query_bonds table.bonds)) → 1 ≤ x → x ≤ length table.atoms
    → AreRightBy (length table.atoms) (query_bonds table.bonds) standing x ↔ AreRightLinks table x (links_at table x)
right_links table standing x are ends least most =
    by_links table standing x (links_at table x) (get_or standing.links.items (x - 1) linked.Nothing) are ends least most (links_are table standing x are least most)
