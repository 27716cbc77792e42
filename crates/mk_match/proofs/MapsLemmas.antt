-- The hits that are left, one after another.
--     next_is_first       a hit that is taken is the first of those left, and the others are left behind it
--     none_is_left        where none is taken none was left
use Rattle.std.proofs.Common.{ℕ, inl, inr, List, [], ◌∷◌, ◌++◌, sym, subst}
use Rattle.mk_text.specs.Rising.{Holds, IsBelow}
use Rattle.mk_text.proofs.ForCallers.{below_or_not, below_through, between_none, holds_each, not_below_after}
use Rattle.mk_model.specs.Molecules.{Molecule}
use Rattle.mk_model.specs.Graphs.{GraphView}
use Rattle.mk_model.specs.Hits.{IsHit}
use Rattle.mk_match.specs.Maps.{NextIsFirst, NoneIsLeft}

-- ---- the hits

pub next_is_first : NextIsFirst
next_is_first old new hit hits next left = record {
  rises = (holds_each (λ ys. IsBelow hit ys) hits (λ ys held. above ys (left.each ys held).1), left.rises);
  each = λ xs held. each xs held;
  all = λ xs is. all xs is;
}
  where
    above : (ys : List ℕ) → (IsBelow ys new.place → ⊥) → IsBelow hit ys
    above ys not = not_below_after hit ys (subst (λ (place : List ℕ). IsBelow ys place → ⊥) next.place not)

    each : (xs : List ℕ) → Holds (hit ∷ hits) xs → IsHit old.graph old.mol xs × (IsBelow xs old.place → ⊥)
    each xs (inl same) = (subst (IsHit old.graph old.mol) same next.least.has, subst (λ (ys : List ℕ). IsBelow ys old.place → ⊥) same next.least.from)
    each xs (inr held) =
        let is = left.each xs held in (
          subst (λ (m : Molecule). IsHit old.graph m xs) next.mol
              (subst (λ (g : GraphView). IsHit g new.mol xs) next.graph is.0),
          λ below.
              next.least.from (below_through hit xs old.place (above xs is.1) below),
        )

    all : (xs : List ℕ) → IsHit old.graph old.mol xs × (IsBelow xs old.place → ⊥) → Holds (hit ∷ hits) xs
    all xs is =
        elim (below_or_not xs (hit ++ (0 ∷ []))) [
          | inl below ↦ inl (between_none hit xs (next.least.least xs is.0 is.1) below)
          | inr not ↦ inr (left.all xs (
            subst (λ (m : Molecule). IsHit new.graph m xs) (sym next.mol)
                (subst (λ (g : GraphView). IsHit g old.mol xs) (sym next.graph) is.0),
            subst (λ (place : List ℕ). IsBelow xs place → ⊥) (sym next.place) not,
          ))
        ]

pub none_is_left : NoneIsLeft
none_is_left old none = record {
  rises = tt;
  each = λ xs held. absurd held;
  all = λ xs is. absurd (none xs is.0 is.1);
}
