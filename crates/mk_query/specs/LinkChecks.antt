-- What the checks demand of the attachment points, the links and the logic of one table of a query.
-- Atoms and properties count from 1.
--     HasPoint is_root table item    no point in the root, at a slot, at a second atom, nor point 2
--                                    alone
--     HasLink table item             a link stands between two neighbours, with a block that is
--                                    closed
--     HasLogic is_root table item    an `M  LOG` in the root alone, one a group, with numbers and a
--                                    range that there are
use Rattle.std.specs.Prelude.{◌≡◌, ◌≢◌, ◌≤◌, ◌<◌, ◌≤ℤ◌, ℕ, pos, Bool, true, false, List, [], ◌∷◌, All, Contains, length, drop, IsTrue}
use Rattle.mk_text.specs.Items.{OfItem}
use Rattle.mk_props.specs.declared.property.LinkEntry.{LinkEntry}
use Rattle.mk_props.specs.declared.property.LogicLine.{LogicLine}
use Rattle.mk_props.specs.declared.property.Property.{Property}
use Rattle.mk_props.specs.declared.property.Property.TheVariants as kinds
use Rattle.mk_model.specs.declared.group.Interval.{Interval}
use Rattle.mk_model.specs.declared.template.QueryBond.{QueryBond}
use Rattle.mk_model.specs.declared.template.Slot.TheVariants.{Link}
use Rattle.mk_model.specs.Templates.{bonds_without, hang_together, joins}
use Rattle.mk_tables.specs.declared.raw.RawAtom.{RawAtom}
use Rattle.mk_tables.specs.declared.raw.RawTable.{RawTable}
use Rattle.mk_demands.specs.Numbers.{IsAtom, IsWithin, natural}
use Rattle.mk_logic.specs.RangeTexts.{IsRangeText}
use Rattle.mk_query.specs.Drawn.{bears_point, is_site_at, links_at, query_bonds}

-- ---- attachment points

-- atom x bears a point
abbrev pub BearsSome : RawTable → ℕ → Type 0
BearsSome table x = (p : ℕ) × (1 ≤ p) × (p ≤ 2) × IsTrue (bears_point table p x)

-- Where atom x bears a point, it is an atom of a member, neither a site nor a link, and no lower
-- atom bears the same point; and where it bears point 2, some atom bears point 1.
pub record IsPointed (is_root : Bool) (table : RawTable) (x : ℕ) : Type 0 where
  pub member : BearsSome table x → is_root ≡ false
  pub no_site : BearsSome table x → ¬ (IsTrue (is_site_at table x))
  pub no_link : BearsSome table x → links_at table x ≡ []
  pub alone : (p y : ℕ) → 1 ≤ p → p ≤ 2 → 1 ≤ y → y < x → IsTrue (bears_point table p x) → ¬ (IsTrue (bears_point table p y))
  pub first : IsTrue (bears_point table 2 x) → (y : ℕ) × (1 ≤ y) × (y ≤ length table.atoms) × IsTrue (bears_point table 1 y)

-- where there is an atom of this number, the points that it bears stand right
abbrev pub HasPoint : Bool → RawTable → ℕ → Type 0
HasPoint is_root table item = OfItem (λ (atom : RawAtom). IsPointed is_root table item) table.atoms item

-- ---- links

-- two bonds of a table lead from atom x to two others, alike in type and topology
pub record LeadAlike (table : RawTable) (x from to : ℕ) : Type 0 where
  pub one : QueryBond
  pub one_at : Contains (query_bonds table.bonds) one
  pub one_joins : IsTrue (joins x from one)
  pub other : QueryBond
  pub other_at : Contains (query_bonds table.bonds) other
  pub other_joins : IsTrue (joins x to other)
  pub kind : one.kind ≡ other.kind
  pub topology : one.topology ≡ other.topology

-- atom y is in the block of the link at atom x: it hangs together with it without the bonds to the
-- two neighbours
abbrev pub IsInBlock : RawTable → ℕ → LinkEntry → ℕ → Type 0
IsInBlock table x link y =
    IsTrue (hang_together (bonds_without (Link x (natural link.most) (natural link.from) (natural link.to)) (query_bonds table.bonds)) x y)

-- nothing but the link itself stands at an atom of its block: no site, no other link, no point
pub record IsPlainBut (table : RawTable) (x y : ℕ) : Type 0 where
  pub no_site : ¬ (IsTrue (is_site_at table y))
  pub no_link : y ≢ x → links_at table y ≡ []
  pub no_point : ¬ (BearsSome table y)

-- A link stands at least up to twice, between two of its neighbours, with bonds that are alike; and
-- its block holds neither of them, no other slot and no point.
pub record CanBeLink (table : RawTable) (x : ℕ) (link : LinkEntry) : Type 0 where
  pub no_site : ¬ (IsTrue (is_site_at table x))
  pub twice : pos 2 ≤ℤ link.most
  pub from : IsAtom (length table.atoms) link.from
  pub to : IsAtom (length table.atoms) link.to
  pub differ : link.from ≢ link.to
  pub alike : LeadAlike table x (natural link.from) (natural link.to)
  pub not_from : ¬ (IsInBlock table x link (natural link.from))
  pub not_to : ¬ (IsInBlock table x link (natural link.to))
  pub plain : (y : ℕ) → 1 ≤ y → y ≤ length table.atoms → IsInBlock table x link y → IsPlainBut table x y

-- no link stands at an atom, or one that is right and no second
abbrev pub AreRightLinks : RawTable → ℕ → List LinkEntry → Type 0
AreRightLinks table x [] = Unit {0}
AreRightLinks table x (link ∷ []) = CanBeLink table x link
AreRightLinks table x (link ∷ second ∷ others) = ⊥

-- where there is an atom of this number, no link stands there, or one that is right and no second
abbrev pub HasLink : RawTable → ℕ → Type 0
HasLink table item = OfItem (λ (atom : RawAtom). AreRightLinks table item (links_at table item)) table.atoms item

-- ---- logic

-- the property is an `M  LOG`, of the same group as this one
abbrev pub SpeaksOfSame : LogicLine → Property → Type 0
SpeaksOfSame logic (kinds.Logic later) = later.group ≡ logic.group
SpeaksOfSame logic other = ⊥

-- The `M  LOG` stands in the root, the properties behind it hold none of the same group, its group
-- is 1 to 32, its THEN group 0 to 32, RestH 0 or 1, and its range text is a range.
pub record IsRightLogic (is_root : Bool) (behind : List Property) (logic : LogicLine) : Type 0 where
  pub root : is_root ≡ true
  pub last : All (λ later. ¬ (SpeaksOfSame logic later)) behind
  pub group : IsWithin (pos 1) (pos 32) logic.group
  pub then_group : IsWithin (pos 0) (pos 32) logic.then_group
  pub rest : IsWithin (pos 0) (pos 1) logic.rest
  pub range : (range : List Interval) × IsRangeText logic.range range

-- a property is right where it is an `M  LOG` that is right, or anything else
abbrev pub IsLogical : Bool → List Property → Property → Type 0
IsLogical is_root behind (kinds.Logic logic) = IsRightLogic is_root behind logic
IsLogical is_root behind other = Unit {0}

-- Where the property of this number is an `M  LOG`, it stands in the root as the last of its group,
-- and its numbers and its range are right.
abbrev pub HasLogic : Bool → RawTable → ℕ → Type 0
HasLogic is_root table item = OfItem (IsLogical is_root (drop item table.props)) table.props item
