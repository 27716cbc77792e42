-- The bonds within what slots become.
--     within_both         between what the slot's atom becomes, and no two of one pair
--     all_within_one, all_within_apart      slot after slot
use Rattle.std.proofs.Common.{◌≡◌, ◌∙◌, ℕ, zero, suc, ◌+◌, ◌-◌, ◌<◌, ◌≤◌, inl, inr, Bool, true, false, cond, List, [], ◌∷◌, length, get_or, map, refl, sym, ap, subst, arith, All}
use Rattle.std.specs.Prelude.{AllPairs, Contains}
use Rattle.std.proofs.lemmas.List.{get_or-map, length-map}
use Rattle.std.proofs.lemmas.List.Elements.{Contains-append_cases, All-contains}
use Rattle.mk_model.specs.Pieces.{Piece}
use Rattle.mk_model.specs.Pieces.Piece.{Copies, Member, Hydrogens, Nothing}
use Rattle.mk_model.specs.declared.template.QueryBond.{QueryBond}
use Rattle.mk_model.specs.declared.template.Slot.{Slot}
use Rattle.mk_model.specs.declared.template.Slot.TheVariants.{Link, Site}
use Rattle.mk_model.specs.Templates.{TemplateView, joins, slot_atom}
use Rattle.mk_model.specs.Expansions.{all_within, bond_joining, bonds_within, chained, shifted}
use Rattle.mk_model.specs.Pieces.{before, piece, width}
use Rattle.mk_model.specs.Pieces.{Fragment}
use Rattle.mk_pieces.specs.Fragments.{AreApart, HasRange, IsFragment, IsLowerFirst}
use Rattle.mk_pieces.proofs.NumberLemmas.{mapped_at, mapped_length}
use Rattle.mk_pieces.proofs.PairLemmas.{pairs_append}
use Rattle.mk_pieces.proofs.PieceLemmas.{MayStand}
use Rattle.mk_pieces.proofs.SpanLemmas.{IsOf, Spans, is_of}

-- ---- chains

pub record IsStep (bond : QueryBond) (x n : ℕ) (b : QueryBond) : Type 0 where
  pub j : ℕ
  pub least : 1 ≤ j
  pub most : j ≤ n
  pub first : b.first ≡ x + j
  pub second : b.second ≡ x + j + 1
  pub kind : b.kind ≡ bond.kind
  pub topology : b.topology ≡ bond.topology

chained_place : (bond : QueryBond) (x n k : ℕ) (d : QueryBond) → k < length (chained bond x n)
    → get_or (chained bond x n) k d ≡ record { first = x + (1 + k); second = x + (1 + k) + 1; kind = bond.kind; topology = bond.topology }
unfolding chained
chained_place bond x n k d below =
    let f : ℕ → QueryBond = λ j. record { first = x + j; second = x + j + 1; kind = bond.kind; topology = bond.topology } in
    mapped_at f n k d (omega (arith, below, mapped_length f n))

pub chained_is : (bond : QueryBond) (x n : ℕ) (b : QueryBond) → Contains (chained bond x n) b → IsStep bond x n b
unfolding chained
chained_is bond x n b (k, below, is) =
    let f : ℕ → QueryBond = λ j. record { first = x + j; second = x + j + 1; kind = bond.kind; topology = bond.topology } in
    let inside : k < n = omega (arith, below, mapped_length f n) in
    let here : b ≡ f (1 + k) = sym is ∙ mapped_at f n k b inside in
    record {
      j = 1 + k;
      least = omega arith;
      most = omega arith;
      first = ap (λ (c : QueryBond). c.first) here;
      second = ap (λ (c : QueryBond). c.second) here;
      kind = ap (λ (c : QueryBond). c.kind) here;
      topology = ap (λ (c : QueryBond). c.topology) here;
    }

chained_apart : (bond : QueryBond) (x n : ℕ) → AllPairs AreApart (chained bond x n)
chained_apart bond x n = λ i k d less below first second.
    let one = chained_place bond x n i d (omega arith) in
    let other = chained_place bond x n k d below in
    omega (arith, first, ap (λ (b : QueryBond). b.first) one, ap (λ (b : QueryBond). b.first) other)

-- a bond that is found is in range
joining_asked : (bonds : List QueryBond) (x y : ℕ) → All HasRange bonds → HasRange (bond_joining bonds x y)
joining_asked [] x y all = record { kind = (omega arith, omega arith); topology = omega arith }
joining_asked (bond ∷ bonds) x y all = by (joins x y bond) (joining_asked bonds x y (λ k d below. all (suc k) d (omega arith)))
  where
    by : (b : Bool) → HasRange (bond_joining bonds x y) → HasRange (cond b bond (bond_joining bonds x y))
    by true later = all 0 bond (omega arith)
    by false later = later

-- ---- members

shifted_apart : (by : ℕ) (bonds : List QueryBond) → AllPairs AreApart bonds → AllPairs AreApart (map (shifted by) bonds)
shifted_apart by bonds apart = λ i j d less within first second.
    let long = length-map bonds (shifted by) in
    let j_in : j < length bonds = omega arith in
    let i_in : i < length bonds = omega arith in
    let one : (get_or (map (shifted by) bonds) i d).first ≡ by + (get_or bonds i d).first = ap (λ (b : QueryBond). b.first) (get_or-map (shifted by) bonds i d d i_in) in
    let two : (get_or (map (shifted by) bonds) j d).first ≡ by + (get_or bonds j d).first = ap (λ (b : QueryBond). b.first) (get_or-map (shifted by) bonds j d d j_in) in
    let three : (get_or (map (shifted by) bonds) i d).second ≡ by + (get_or bonds i d).second = ap (λ (b : QueryBond). b.second) (get_or-map (shifted by) bonds i d d i_in) in
    let four : (get_or (map (shifted by) bonds) j d).second ≡ by + (get_or bonds j d).second = ap (λ (b : QueryBond). b.second) (get_or-map (shifted by) bonds j d d j_in) in
    apart i j d less j_in (omega arith) (omega arith)

-- one of a mapped list
pub record IsImage (by : ℕ) (bonds : List QueryBond) (b : QueryBond) : Type 0 where
  pub from : QueryBond
  pub at : Contains bonds from
  pub is : shifted by from ≡ b

pub image_of : (by : ℕ) (bonds : List QueryBond) (b : QueryBond) → Contains (map (shifted by) bonds) b → IsImage by bonds b
image_of by [] b (k, below, is) = absurd (omega (arith, below))
image_of by (c ∷ bonds) b (zero, below, is) = record { from = c; at = (0, omega arith, refl); is = is }
image_of by (c ∷ bonds) b (suc k, below, is) =
    (let found = image_of by bonds b (k, omega (arith, below), is) in record { from = found.from; at = (suc found.at.0, (let below' = found.at.1 in omega arith), found.at.2); is = found.is })

-- ---- one slot

module _ (template : TemplateView) (pieces : List Piece) (asked : All HasRange template.bonds) where
  abbrev Both : ℕ → List QueryBond → Type 0
  Both a bs = ((b : QueryBond) → Contains bs b → Spans template pieces a a b) × AllPairs AreApart bs

  no_bonds : (a : ℕ) → Both a []
  no_bonds a = (λ b at. absurd (omega (arith, at.1)), λ i j d less inside. absurd (omega arith))

  chain_both : (a x y n : ℕ) → 1 ≤ a → width (piece template pieces a) ≡ n → Both a (chained (bond_joining template.bonds x y) (before template pieces a) (n - 1))
  chain_both a x y n least wide =
      let like = joining_asked template.bonds x y asked in (
        λ b at.
            let found = chained_is (bond_joining template.bonds x y) _ (n - 1) b at in
            let next : before template pieces a + (found.j + 1) ≡ b.second = omega (arith, found.second) in
            record {
              less = omega (arith, found.first, found.second);
              ends = inl (
                rw found.first (is_of template pieces a found.j least found.least (omega (arith, found.most, wide))),
                subst (IsOf template pieces a) next
                    (is_of template pieces a (found.j + 1) least (omega arith) (omega (arith, found.least, found.most, wide))),
              );
              test = record { kind = (omega (arith, found.kind, like.kind), omega (arith, found.kind, like.kind)); topology = omega (arith, found.topology, like.topology) };
            },
        chained_apart _ _ _,
      )

  member_both : (a : ℕ) (part : Fragment) → 1 ≤ a → IsFragment part → width (piece template pieces a) ≡ length part.atoms → Both a (map (shifted (before template pieces a)) part.bonds)
  member_both a part least fragment wide = (
    λ b at.
        let found = image_of (before template pieces a) part.bonds b at in
        let ends : IsLowerFirst (length part.atoms) found.from = All-contains (IsLowerFirst (length part.atoms)) part.bonds found.from fragment.ends found.at in
        let test : HasRange found.from = All-contains HasRange part.bonds found.from fragment.bond_tests found.at in
        subst (Spans template pieces a a) found.is (record {
          less = omega (arith, ends.less);
          ends = inl (
            is_of template pieces a found.from.first least ends.least (omega (arith, ends.less, ends.most, wide)),
            is_of template pieces a found.from.second least
                (omega (arith, ends.least, ends.less)) (omega (arith, ends.most, wide)),
          );
          test = record { kind = test.kind; topology = test.topology };
        }),
    shifted_apart _ part.bonds fragment.apart,
  )

  pub within_both : (slot : Slot) (p : Piece) → 1 ≤ slot_atom slot → piece template pieces (slot_atom slot) ≡ p → MayStand slot p
      → ((b : QueryBond) → Contains (bonds_within template.bonds (before template pieces (slot_atom slot)) slot p) b → Spans template pieces (slot_atom slot) (slot_atom slot) b)
      × AllPairs AreApart (bonds_within template.bonds (before template pieces (slot_atom slot)) slot p)
  within_both (Link atom most from to) (Copies n) least is fit = chain_both atom atom from n least (ap width is)
  within_both (Link atom most from to) (Member part) least is fit = no_bonds atom
  within_both (Link atom most from to) (Hydrogens n) least is fit = no_bonds atom
  within_both (Link atom most from to) Nothing least is fit = no_bonds atom
  within_both (Site atom groups first second) (Copies n) least is fit = no_bonds atom
  within_both (Site atom groups first second) (Member part) least is fit = member_both atom part least (member_fragment fit) (ap width is)
    where
      member_fragment : MayStand (Site atom groups first second) (Member part) → IsFragment part
      member_fragment (inl none) = absurd cc
      member_fragment (inr fits) = fits.0
  within_both (Site atom groups first second) (Hydrogens n) least is fit = no_bonds atom
  within_both (Site atom groups first second) Nothing least is fit = no_bonds atom

-- ---- slot after slot

module _ (template : TemplateView) (pieces : List Piece) where
  -- the bonds within what the slot at a place has become
  abbrev pub within_at : List Slot → List Piece → ℕ → List QueryBond
  within_at slots ps k =
      bonds_within template.bonds (before template pieces (slot_atom (get_or slots k (Link 0 0 0 0)))) (get_or slots k (Link 0 0 0 0)) (get_or ps k (Copies 1))

  pub all_within_one : (slots : List Slot) (ps : List Piece) (b : QueryBond) → Contains (all_within template pieces slots ps) b → (k : ℕ) × (k < length slots) × Contains (within_at slots ps k) b
  unfolding all_within
  all_within_one [] ps b (k, below, is) = absurd (omega (arith, below))
  all_within_one (slot ∷ slots) [] b (k, below, is) = absurd (omega (arith, below))
  all_within_one (slot ∷ slots) (p ∷ ps) b at = elim (Contains-append_cases (bonds_within template.bonds (before template pieces (slot_atom slot)) slot p) (all_within template pieces slots ps) b at) [
    | inl here ↦ (0, omega arith, here)
    | inr later ↦ (let found = all_within_one slots ps b later in (suc found.0, (let below = found.1 in omega arith), found.2))
  ]

  pub all_within_apart : (slots : List Slot) (ps : List Piece) → ((k : ℕ) → k < length slots → AllPairs AreApart (within_at slots ps k))
      → ((j k : ℕ) → j < k → k < length slots → (b c : QueryBond) → Contains (within_at slots ps j) b → Contains (within_at slots ps k) c → AreApart b c)
      → AllPairs AreApart (all_within template pieces slots ps)
  unfolding all_within
  all_within_apart [] ps each cross = λ i j d less within. absurd (omega arith)
  all_within_apart (slot ∷ slots) [] each cross = λ i j d less within. absurd (omega arith)
  all_within_apart (slot ∷ slots) (p ∷ ps) each cross =
      pairs_append AreApart (bonds_within template.bonds (before template pieces (slot_atom slot)) slot p) (all_within template pieces slots ps) (each 0 (omega arith))
      (all_within_apart slots ps (λ k below. each (suc k) (omega arith)) (λ j k less below. cross (suc j) (suc k) (omega arith) (omega arith)))
      (λ b c here later. (let found = all_within_one slots ps c later in cross 0 (suc found.0) (omega arith) (let below = found.1 in omega arith) b c here found.2))
