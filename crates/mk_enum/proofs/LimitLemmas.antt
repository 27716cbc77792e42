-- How many bonds each atom has.
--     few_none, few_more, few_fails     atom by atom
use Rattle.std.proofs.Common.{◌≡◌, ◌<◌, ◌≤◌, ◌+◌, ℕ, List, length, sym, ap, ◌∙◌, subst, arith, inl, inr}
use Rattle.std.proofs.lemmas.Bool.{cases_eq}
use Rattle.mk_model.specs.declared.graph.GraphBond.{GraphBond}
use Rattle.mk_model.specs.Edges.{degree, numbers_at}
use Rattle.mk_model.specs.Graphs.{graph_edges}
use Rattle.mk_model.proofs.ForCallers.{length-numbers_from}
use Rattle.mk_enum.specs.Writable.{HasFewEach}

-- no atom
pub few_none : (bonds : List GraphBond) → HasFewEach 0 bonds
few_none bonds x least most = absurd (omega (arith, least, most))

-- an atom has as many bonds as numbers
as_many : (bonds : List GraphBond) (x : ℕ) (numbers : List ℕ) → numbers ≡ numbers_at (graph_edges bonds) x → length numbers ≡ degree (graph_edges bonds) x
as_many bonds x numbers is = ap length is ∙ length-numbers_from 1 (graph_edges bonds) x

-- one atom more
pub few_more : (bonds : List GraphBond) (i : ℕ) (numbers : List ℕ) → HasFewEach i bonds → numbers ≡ numbers_at (graph_edges bonds) (i + 1) → length numbers ≤ 20 → HasFewEach (i + 1) bonds
few_more bonds i numbers few is short x least most =
    elim (cases_eq x (i + 1)) [
      | inl same ↦ subst (λ (n : ℕ). degree (graph_edges bonds) n ≤ 20) (sym same) (omega (arith, short, as_many bonds (i + 1) numbers is))
      | inr other ↦ few x least (omega (arith, most, other))
    ]

-- an atom with more
pub few_fails : (atoms : ℕ) (bonds : List GraphBond) (i : ℕ) (numbers : List ℕ) → i < atoms → numbers ≡ numbers_at (graph_edges bonds) (i + 1) → 20 < length numbers → HasFewEach atoms bonds → ⊥
few_fails atoms bonds i numbers below is many few = absurd (omega (arith, few (i + 1) (omega arith) (omega (arith, below)), as_many bonds (i + 1) numbers is, many))
