-- The bonds of the next atom to earlier ones, by their numbers.
--     met_all      where each of the next atom's bonds is met, all bonds are that end at it
--     met_each     and the other way round
--     none_earlier where none of them is to an earlier atom, the next atom has no earlier neighbour
use Rattle.std.proofs.Common.{◌≡◌, ◌≢◌, ℕ, ◌+◌, ◌-◌, true, List, Some, length, get_or, sym, ap, subst, ◌∙◌, arith, All}
use Rattle.std.specs.Prelude.{slice_get}
use Rattle.std.proofs.lemmas.List.{length-map, get_or-map}
use Rattle.mk_model.specs.declared.graph.GraphBond.{GraphBond}
use Rattle.mk_model.specs.Edges.{numbers_at, touches}
use Rattle.mk_model.specs.Molecules.{Molecule}
use Rattle.mk_model.specs.Graphs.{GraphView, graph_edge, graph_edges}
use Rattle.mk_model.specs.Fitting.{LiesOn}
use Rattle.mk_model.specs.Hits.{image}
use Rattle.mk_model.proofs.ForCallers.{all_at, at_place, numbers_at-all, touches-second}
use Rattle.mk_walk.specs.EarlierBonds.{HasNoAnchor, IsElsewhere, IsMetAt}

-- where all bonds of atom n have P that end at it, all bonds of the graph have that do
all_ends : (graph : GraphView) (n : ℕ) (P : GraphBond → Type 0)
    → All (λ number. (bond : GraphBond) → slice_get graph.bonds (number - 1) ≡ Some bond → bond.second ≡ n → P bond)
    (numbers_at (graph_edges graph.bonds) n) → All (λ bond. bond.second ≡ n → P bond) graph.bonds
all_ends graph n P all = λ k d below is.
    let bond : GraphBond = get_or graph.bonds k d in
    let edge_is : get_or (graph_edges graph.bonds) k (graph_edge d) ≡ graph_edge bond = get_or-map graph_edge graph.bonds k d (graph_edge d) below in
    let ends : touches n (graph_edge bond) ≡ true = subst (λ (m : ℕ). touches m (graph_edge bond) ≡ true) is (touches-second (graph_edge bond)) in
    let touched : touches n (get_or (graph_edges graph.bonds) k (graph_edge d)) ≡ true = rw edge_is ends in
    let at = numbers_at-all (graph_edges graph.bonds) n k (graph_edge d) (omega (arith, length-map graph.bonds graph_edge)) touched in
    let place : get_or (numbers_at (graph_edges graph.bonds) n) at.0 0 - 1 ≡ k = omega (arith, at.2) in
    all at.0 0 at.1 bond (rw place (at_place graph.bonds k d below)) is

-- where each of the next atom's bonds ends at a later one, it has no earlier neighbour
pub none_earlier : (graph : GraphView) (first : List ℕ) → All (IsElsewhere graph first) (numbers_at (graph_edges graph.bonds) (length first + 1)) → HasNoAnchor graph first
none_earlier graph first all = all_ends graph (length first + 1) (λ _. ⊥) all

-- the bond of a number is one bond
pub elsewhere : (graph : GraphView) (first : List ℕ) (number : ℕ) (bond : GraphBond) → slice_get graph.bonds (number - 1) ≡ Some bond → bond.second ≢ length first + 1 → IsElsewhere graph first number
elsewhere graph first number bond at other asked asked_at is = (let same : bond ≡ asked = cc in other (ap (λ (b : GraphBond). b.second) same ∙ is))

module _ (graph : GraphView) (mol : Molecule) (first : List ℕ) (a : ℕ) where
  -- where each of the next atom's bonds is met, all bonds are that end at it
  pub met_all : All (IsMetAt graph mol first a) (numbers_at (graph_edges graph.bonds) (length first + 1))
      → All (λ bond. bond.second ≡ length first + 1 → LiesOn mol bond (image first bond.first) a) graph.bonds
  met_all all = all_ends graph (length first + 1) (λ bond. LiesOn mol bond (image first bond.first) a) all

  -- and the other way round
  pub met_each : All (λ bond. bond.second ≡ length first + 1 → LiesOn mol bond (image first bond.first) a) graph.bonds → (number : ℕ) → IsMetAt graph mol first a number
  met_each all number bond at is = all_at (λ (b : GraphBond). b.second ≡ length first + 1 → LiesOn mol b (image first b.first) a) graph.bonds (number - 1) bond all at is

  -- a bond that doesn't end at the next atom asks for nothing
  pub met_elsewhere : (number : ℕ) (bond : GraphBond) → slice_get graph.bonds (number - 1) ≡ Some bond → (bond.second ≡ length first + 1 → ⊥) → IsMetAt graph mol first a number
  met_elsewhere number bond at other asked asked_at is = (let same : bond ≡ asked = cc in absurd (other (ap (λ (b : GraphBond). b.second) same ∙ is)))

  -- one that does, by the test of that bond
  pub met_by : (number n : ℕ) (bond : GraphBond) → slice_get graph.bonds (number - 1) ≡ Some bond → n ≡ image first bond.first → LiesOn mol bond n a → IsMetAt graph mol first a number
  met_by number n bond at is_image lies asked asked_at is =
      let same : bond ≡ asked = cc in
      let here : LiesOn mol bond (image first bond.first) a = subst (λ (m : ℕ). LiesOn mol bond m a) is_image lies in
      subst (λ (b : GraphBond). LiesOn mol b (image first b.first) a) same here

  pub lies_where_met : (number n : ℕ) (bond : GraphBond) → slice_get graph.bonds (number - 1) ≡ Some bond
      → n ≡ image first bond.first → bond.second ≡ length first + 1 → IsMetAt graph mol first a number
      → LiesOn mol bond n a
  lies_where_met number n bond at is_image is met = subst (λ (m : ℕ). LiesOn mol bond m a) (sym is_image) (met bond at is)
