-- Lists for which a matcher was begun, from one list up to another.
--     begun_none, begun_one, begun_over     none, one, and none while the place goes up
--     begun_append                          some, and others behind them
--     begun_same                            what they have, in other words
use Rattle.std.proofs.Common.{◌≡◌, ℕ, ◌+◌, inl, inr, List, [], ◌∷◌, ◌++◌, sym, subst, arith, length-append}
use Rattle.mk_text.specs.Rising.{Each, Holds, IsBelow}
use Rattle.mk_text.proofs.ForCallers.{below_after, below_through, below_what_isnt, holds_each, holds_either, not_below_itself, rises_append}
use Rattle.mk_model.proofs.ForCallers.{not_below_through}
use Rattle.mk_search.specs.Begun.{Begun}

-- behind a list that isn't below another there is one that isn't either
pub not_after : (from next to : List ℕ) → (IsBelow next from → ⊥) → to ≡ next ++ 0 ∷ [] → IsBelow to from → ⊥
not_after from next to not at below = not (below_through next (next ++ 0 ∷ []) from (below_after next) (subst (λ (zs : List ℕ). IsBelow zs from) at below))

module _ (P : List ℕ → Type 0) where
  unfoldable pub begun_none : (from : List ℕ) (before after : ℕ) → after ≡ before → Begun P from from before after
  begun_none from before after same = record {
    begun = [];
    rise = tt;
    each = λ xs held. absurd held;
    from_is = λ xs held. absurd held;
    to_is = λ xs held. absurd held;
    up = not_below_itself from;
    ticked = omega (arith, same);
  }

  -- none, while the place goes up
  unfoldable pub begun_over : (from to : List ℕ) (before after : ℕ) → (IsBelow to from → ⊥) → after ≡ before → Begun P from to before after
  begun_over from to before after up same = record {
    begun = [];
    rise = tt;
    each = λ xs held. absurd held;
    from_is = λ xs held. absurd held;
    to_is = λ xs held. absurd held;
    up = up;
    ticked = omega (arith, same);
  }

  -- one is begun
  unfoldable pub begun_one : (from next to : List ℕ) (before after : ℕ) → P next → (IsBelow next from → ⊥) → to ≡ next ++ 0 ∷ [] → after ≡ before + 1 → Begun P from to before after
  begun_one from next to before after has not at more = record {
    begun = next ∷ [];
    rise = (tt, tt);
    each = λ xs held. elim held [ inl same ↦ subst P same has | inr none ↦ absurd none ];
    from_is = λ xs held below. elim held [ inl same ↦ not (subst (λ (zs : List ℕ). IsBelow zs from) (sym same) below) | inr none ↦ none ];
    to_is = λ xs held. elim held [ inl same ↦ subst (λ (zs : List ℕ). IsBelow zs to) same (subst (λ (zs : List ℕ). IsBelow next zs) (sym at) (below_after next)) | inr none ↦ absurd none ];
    up = not_after from next to not at;
    ticked = omega (arith, more);
  }

  -- some, and others behind them
  unfoldable pub begun_append : (a b c d : List ℕ) (before now after : ℕ) → Begun P a b before now → (IsBelow c b → ⊥) → Begun P c d now after → Begun P a d before after
  begun_append a b c d before now after one on two = record {
    begun = one.begun ++ two.begun;
    rise = rises_append one.begun two.begun one.rise two.rise (holds_each (λ xs. Each (λ ys. IsBelow xs ys) two.begun) one.begun
        (λ xs here. holds_each (λ ys. IsBelow xs ys) two.begun (λ ys there. across xs ys here there)));
    each = λ xs held. elim (holds_either one.begun two.begun xs held) [ inl here ↦ one.each xs here | inr there ↦ two.each xs there ];
    from_is = λ xs held below. elim (holds_either one.begun two.begun xs held) [
      | inl here ↦ one.from_is xs here below
      | inr there ↦ not_below_through xs c a (two.from_is xs there) (not_below_through c b a on one.up) below
    ];
    to_is = λ xs held. elim (holds_either one.begun two.begun xs held) [
      | inl here ↦ below_what_isnt xs d b (one.to_is xs here) (not_below_through d c b two.up on)
      | inr there ↦ two.to_is xs there
    ];
    up = not_below_through d c a two.up (not_below_through c b a on one.up);
    ticked = omega (arith, length-append one.begun two.begun, one.ticked, two.ticked);
  }
    where
      across : (xs ys : List ℕ) → Holds one.begun xs → Holds two.begun ys → IsBelow xs ys
      across xs ys here there = below_what_isnt xs ys b (one.to_is xs here) (not_below_through ys c b (two.from_is ys there) on)

-- what they have, in other words
unfoldable pub begun_same : (P Q : List ℕ → Type 0) (from to : List ℕ) (before after : ℕ) → (b : Begun P from to before after) → ((xs : List ℕ) → Holds b.begun xs → P xs → Q xs)
    → Begun Q from to before after
begun_same P Q from to before after b means = record {
  begun = b.begun;
  rise = b.rise;
  each = λ xs held. means xs held (b.each xs held);
  from_is = b.from_is;
  to_is = b.to_is;
  up = b.up;
  ticked = b.ticked;
}
