-- The codes that are left, one after another.
--     next_is_first, none_is_left     the code that is taken is the first of those left
--     none_between                    no valid code stands between one that is taken and the next
--     no_valid_begins_another         and none begins another
use Rattle.std.proofs.Common.{ℕ, inl, inr, List, [], ◌∷◌, ◌++◌, sym, subst}
use Rattle.mk_text.specs.Rising.{Holds, IsBelow}
use Rattle.mk_text.proofs.ForCallers.{below_or_not, below_through, between_none, holds_each, none_before_place_behind, not_below_after}
use Rattle.mk_model.specs.Logic.{IsValid}
use Rattle.mk_model.specs.Queries.{slots_of}
use Rattle.mk_model.proofs.ForCallers.{chooses_of, code_of_valid, enough}
use Rattle.mk_choice.specs.Codes.{NextIsFirst, NoValidBeginsAnother, NoneBetween, NoneIsLeft}

-- ---- the codes

pub next_is_first : NextIsFirst
next_is_first old new code codes next left = record {
  rises = (holds_each (λ ys. IsBelow code ys) codes (λ ys held. above ys (left.each ys held).1), left.rises);
  each = λ xs held. each xs held;
  all = λ xs is. all xs is;
}
  where
    above : (ys : List ℕ) → (IsBelow ys new.place → ⊥) → IsBelow code ys
    above ys not = not_below_after code ys (subst (λ (place : List ℕ). IsBelow ys place → ⊥) next.place not)

    each : (xs : List ℕ) → Holds (code ∷ codes) xs → IsValid old.query xs × (IsBelow xs old.place → ⊥)
    each xs (inl same) = (subst (IsValid old.query) same next.least.has, subst (λ (ys : List ℕ). IsBelow ys old.place → ⊥) same next.least.from)
    each xs (inr held) =
        let is = left.each xs held in
        (subst (λ query. IsValid query xs) next.query is.0, λ below. next.least.from (below_through code xs old.place (above xs is.1) below))

    all : (xs : List ℕ) → IsValid old.query xs × (IsBelow xs old.place → ⊥) → Holds (code ∷ codes) xs
    all xs is =
        elim (below_or_not xs (code ++ (0 ∷ []))) [
          | inl below ↦ inl (between_none code xs (next.least.least xs is.0 is.1) below)
          | inr not ↦ inr (left.all xs (subst (λ query. IsValid query xs) (sym next.query) is.0, subst (λ (place : List ℕ). IsBelow xs place → ⊥) (sym next.place) not))
        ]

pub none_is_left : NoneIsLeft
none_is_left old none = record {
  rises = tt;
  each = λ xs held. absurd held;
  all = λ xs is. absurd (none xs is.0 is.1);
}

-- ---- between two codes

-- what is above a list and below another that isn't below the place behind the first
pub none_between : NoneBetween
none_between old middle new code later one next = (above later from, λ other is over under. none other is over under)
  where
    from : IsBelow later (code ++ (0 ∷ [])) → ⊥
    from = subst (λ (place : List ℕ). IsBelow later place → ⊥) one.place next.least.from

    above : (ys : List ℕ) → (IsBelow ys (code ++ (0 ∷ [])) → ⊥) → IsBelow code ys
    above ys not = not_below_after code ys not

    none : (other : List ℕ) → IsValid old.query other → IsBelow code other → IsBelow other later → ⊥
    none other is over under =
        next.least.least other (subst (λ query. IsValid query other) (sym one.query) is)
        (subst (λ (place : List ℕ). IsBelow other place → ⊥) (sym one.place) (none_before_place_behind code other over)) under

-- ---- prefixes

pub no_valid_begins_another : NoValidBeginsAnother
no_valid_begins_another query code more is longer =
    enough query (slots_of query 0) code more (chooses_of query 0 code (code_of_valid query code is)) (chooses_of query 0 (code ++ more) (code_of_valid query (code ++ more) longer))
