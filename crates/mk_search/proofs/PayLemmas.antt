-- What turns pay.
--     PaysFor                         so many turns pay, from a place to another
--     pays_nothing, pays_on           no turn, and some with others behind them
--     for_one, as_one                 one turn
--     stand_lifted, stand_fewer       nodes with a list before each, and fewer of them
use Rattle.std.proofs.Common.{◌≡◌, ℕ, ◌+◌, ◌≤◌, inl, inr, List, [], ◌∷◌, ◌++◌, map, take, length, refl, subst, arith, length-append}
use Rattle.std.proofs.lemmas.List.{length-map, length-take-le}
use Rattle.mk_text.specs.Rising.{Holds, IsBelow}
use Rattle.mk_text.proofs.ForCallers.{below_behind, below_or_not, below_what_isnt, holds_before_map, holds_each, holds_either, not_below_itself, rises_append, rises_mapped}
use Rattle.mk_text.proofs.RisingLemmas.{take_holds, take_rises}
use Rattle.mk_model.specs.Nodes.{Pays, StandBetween}
use Rattle.mk_model.proofs.ForCallers.{not_below_through}

-- so many turns pay: with what is owed before them, they pass as many of the things that have P more
-- than are owed behind them
pub record PaysFor (P : List ℕ → Type 0) (from : List ℕ) (owed : ℕ) (to : List ℕ) (owing turns : ℕ) : Type 0 where
  pub passed : ℕ
  pub stand : StandBetween P from to passed
  pub up : IsBelow to from → ⊥
  pub pays : owing + turns ≤ owed + passed

-- what isn't below a list is below all that this is below
pub below_later : (xs ys zs : List ℕ) → (IsBelow ys xs → ⊥) → IsBelow ys zs → IsBelow xs zs
below_later xs ys zs not below =
    elim (below_or_not xs zs) [
      | inl under ↦ under
      | inr over ↦ absurd (not (below_what_isnt ys xs zs below over))
    ]

-- ---- nodes

module _ (P : List ℕ → Type 0) where
  pub stand_none : (from to : List ℕ) → StandBetween P from to 0
  stand_none from to = record {
    nodes = [];
    rise = tt;
    each = λ xs held. absurd held;
    above = λ xs held. absurd held;
    not_above = λ xs held. absurd held;
    many = refl;
  }

  pub stand_one : (from to node : List ℕ) → P node → IsBelow from node → (IsBelow to node → ⊥) → StandBetween P from to 1
  stand_one from to node has over up = record {
    nodes = node ∷ [];
    rise = (tt, tt);
    each = λ xs held. elim held [ inl same ↦ subst P same has | inr none ↦ absurd none ];
    above = λ xs held. elim held [ inl same ↦ subst (IsBelow from) same over | inr none ↦ absurd none ];
    not_above = λ xs held. elim held [ inl same ↦ subst (λ (ys : List ℕ). IsBelow to ys → ⊥) same up | inr none ↦ absurd none ];
    many = refl;
  }

  stand_append : (a b c : List ℕ) (j k : ℕ) → (IsBelow b a → ⊥) → (IsBelow c b → ⊥) → StandBetween P a b j → StandBetween P b c k → StandBetween P a c (j + k)
  stand_append a b c j k up on one two = record {
    nodes = one.nodes ++ two.nodes;
    rise = rises_append one.nodes two.nodes one.rise two.rise
        (holds_each _ one.nodes (λ xs here. holds_each _ two.nodes (λ ys there. below_later xs b ys (one.not_above xs here) (two.above ys there))));
    each = λ xs held. elim (holds_either one.nodes two.nodes xs held) [ inl here ↦ one.each xs here | inr there ↦ two.each xs there ];
    above = λ xs held. elim (holds_either one.nodes two.nodes xs held) [ inl here ↦ one.above xs here | inr there ↦ below_later a b xs up (two.above xs there) ];
    not_above = λ xs held over. elim (holds_either one.nodes two.nodes xs held) [ inl here ↦ one.not_above xs here (below_later b c xs on over) | inr there ↦ two.not_above xs there over ];
    many = omega (arith, length-append one.nodes two.nodes, one.many, two.many);
  }

  -- the first so many of them
  pub stand_fewer : (from to : List ℕ) (j k : ℕ) → j ≤ k → StandBetween P from to k → StandBetween P from to j
  stand_fewer from to j k few stand = record {
    nodes = take j stand.nodes;
    rise = take_rises j stand.nodes stand.rise;
    each = λ xs held. stand.each xs (take_holds j stand.nodes xs held);
    above = λ xs held. stand.above xs (take_holds j stand.nodes xs held);
    not_above = λ xs held. stand.not_above xs (take_holds j stand.nodes xs held);
    many = length-take-le j stand.nodes (omega (arith, few, stand.many));
  }

-- with a list before each of them
pub stand_lifted : (P Q : List ℕ → Type 0) (front from to low high : List ℕ) (k : ℕ) → StandBetween P from to k → ((xs : List ℕ) → P xs → Q (front ++ xs))
    → ((xs : List ℕ) → P xs → IsBelow from xs → IsBelow low (front ++ xs)) → ((xs : List ℕ) → P xs → (IsBelow to xs → ⊥) → IsBelow high (front ++ xs) → ⊥)
    → StandBetween Q low high k
stand_lifted P Q front from to low high k stand has over under = record {
  nodes = map (λ xs. front ++ xs) stand.nodes;
  rise = rises_mapped (λ xs. front ++ xs) (λ xs ys below. below_behind front xs ys below) stand.nodes stand.rise;
  each = λ ys held. (let m = holds_before_map (λ xs. front ++ xs) stand.nodes ys held in subst Q m.1 (has m.0 (stand.each m.0 m.2)));
  above = λ ys held. (let m = holds_before_map (λ xs. front ++ xs) stand.nodes ys held in subst (IsBelow low) m.1 (over m.0 (stand.each m.0 m.2) (stand.above m.0 m.2)));
  not_above = λ ys held. (let m = holds_before_map (λ xs. front ++ xs) stand.nodes ys held in
      subst (λ (zs : List ℕ). IsBelow high zs → ⊥) m.1 (under m.0 (stand.each m.0 m.2) (stand.not_above m.0 m.2)));
  many = omega (arith, length-map stand.nodes (λ xs. front ++ xs), stand.many);
}

-- ---- turns

module _ (P : List ℕ → Type 0) where
  -- at the same place no more may be owed
  pub pays_nothing : (place : List ℕ) (owed owing : ℕ) → owing ≤ owed → PaysFor P place owed place owing 0
  pays_nothing place owed owing fewer = record {
    passed = 0;
    stand = stand_none P place place;
    up = not_below_itself place;
    pays = omega (arith, fewer);
  }

  pub pays_on : (a b c : List ℕ) (d e f j k : ℕ) → PaysFor P a d b e j → PaysFor P b e c f k → PaysFor P a d c f (j + k)
  pays_on a b c d e f j k one two = record {
    passed = one.passed + two.passed;
    stand = stand_append P a b c one.passed two.passed one.up two.up one.stand two.stand;
    up = not_below_through c b a two.up one.up;
    pays = omega (arith, one.pays, two.pays);
  }

  pub for_one : (from to : List ℕ) (owed owing : ℕ) → Pays P from owed to owing → PaysFor P from owed to owing 1
  for_one from to owed owing p = record { passed = p.passed; stand = p.stand; up = p.up; pays = p.pays }

  pub as_one : (from to : List ℕ) (owed owing turns : ℕ) → turns ≡ 1 → PaysFor P from owed to owing turns → Pays P from owed to owing
  as_one from to owed owing turns is p = record { passed = p.passed; stand = p.stand; up = p.up; pays = omega (arith, is, p.pays) }

-- with a list before each
pub pays_lifted : (P Q : List ℕ → Type 0) (front from to low high : List ℕ) (owed owing turns : ℕ) → PaysFor P from owed to owing turns → ((xs : List ℕ) → P xs → Q (front ++ xs))
    → ((xs : List ℕ) → P xs → IsBelow from xs → IsBelow low (front ++ xs)) → ((xs : List ℕ) → P xs → (IsBelow to xs → ⊥) → IsBelow high (front ++ xs) → ⊥)
    → (IsBelow high low → ⊥) → PaysFor Q low owed high owing turns
pays_lifted P Q front from to low high owed owing turns p has over under up = record {
  passed = p.passed;
  stand = stand_lifted P Q front from to low high p.passed p.stand has over under;
  up = up;
  pays = p.pays;
}
