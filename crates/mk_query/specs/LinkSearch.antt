-- How the first link that isn't right is found. For the code alone.
--     ends_of x link                                  the atom of a link and its two neighbours
--     AreAlikeBonds bonds link                        two bonds that are alike lead to the two
--                                                     neighbours
--     IsRightLink atoms bonds standing x link         the link can stand at atom x
--     AreRightBy atoms bonds standing x               no link names atom x, or one that can stand
--                                                     there
use Rattle.std.specs.Prelude.{◌≡◌, ◌≢◌, ◌≤ℤ◌, ◌-◌, ℕ, pos, false, List, Contains, slice_index_or, IsTrue}
use Rattle.mk_props.specs.declared.property.LinkEntry.{LinkEntry}
use Rattle.mk_model.specs.declared.template.QueryBond.{QueryBond}
use Rattle.mk_model.specs.Templates.{joins}
use Rattle.mk_demands.specs.Numbers.{IsAtom, natural}
use Rattle.mk_query.specs.declared.atom_marks.Standing.{Standing}
use Rattle.mk_query.specs.declared.blocks.LinkEnds.{LinkEnds}
use Rattle.mk_query.specs.declared.linked_atoms.Linked.{Linked}
use Rattle.mk_query.specs.declared.linked_atoms.Linked.TheVariants as linked
use Rattle.mk_query.specs.AtomMarks.{is_marked_site}
use Rattle.mk_query.specs.BlockSearch.{HasPlainBlock}

-- the atom of a link and its two neighbours
abbrev pub ends_of : ℕ → LinkEntry → LinkEnds
ends_of x link = record { atom = x; from = natural link.from; to = natural link.to }

-- a bond leads to the second neighbour, and is like another
pub record IsLike (link : LinkEnds) (one other : QueryBond) : Type 0 where
  pub joined : IsTrue (joins link.atom link.to other)
  pub kind : one.kind ≡ other.kind
  pub topology : one.topology ≡ other.topology

-- some bond to the second neighbour is like this one
pub record HasLike (bonds : List QueryBond) (link : LinkEnds) (one : QueryBond) : Type 0 where
  pub other : QueryBond
  pub at : Contains bonds other
  pub like : IsLike link one other

-- two bonds that are alike lead to the two neighbours
pub record AreAlikeBonds (bonds : List QueryBond) (link : LinkEnds) : Type 0 where
  pub one : QueryBond
  pub at : Contains bonds one
  pub joined : IsTrue (joins link.atom link.from one)
  pub like : HasLike bonds link one

-- the atom is no site, the link stands at least up to twice, and its two neighbours are atoms and
-- differ
pub record IsLinkable (atoms : ℕ) (standing : Standing) (x : ℕ) (link : LinkEntry) : Type 0 where
  pub no_site : is_marked_site standing x ≡ false
  pub twice : pos 2 ≤ℤ link.most
  pub from : IsAtom atoms link.from
  pub to : IsAtom atoms link.to
  pub differ : link.from ≢ link.to

-- the link can stand at atom x
pub record IsRightLink (atoms : ℕ) (bonds : List QueryBond) (standing : Standing) (x : ℕ) (link : LinkEntry) : Type 0 where
  pub linkable : IsLinkable atoms standing x link
  pub alike : AreAlikeBonds bonds (ends_of x link)
  pub plain : HasPlainBlock bonds standing (ends_of x link)

-- where this is noted of an atom, no link names it, or one that can stand there
abbrev pub IsRightLinkBy : ℕ → List QueryBond → Standing → ℕ → Linked → Type 0
IsRightLinkBy atoms bonds standing x linked.Nothing = Unit {0}
IsRightLinkBy atoms bonds standing x (linked.One link) = IsRightLink atoms bonds standing x link
IsRightLinkBy atoms bonds standing x linked.More = ⊥

-- no link names atom x, or one that can stand there, by what is noted of it
abbrev pub AreRightBy : ℕ → List QueryBond → Standing → ℕ → Type 0
AreRightBy atoms bonds standing x = IsRightLinkBy atoms bonds standing x (slice_index_or standing.links.items (x - 1) linked.Nothing)
