-- What the conditions of a graph say of the number of its bonds.
--     few_bonds       there are fewer than 2^32
use Rattle.std.proofs.Common.{◌≤◌, ◌<◌, ◌+◌, ◌*◌, ◌^◌, ℕ, zero, suc, inl, inr, false, List, length, get_or, arith, All}
use Rattle.std.specs.Prelude.{AllPairs}
use Rattle.std.proofs.lemmas.Bool.{cases_lt}
use Rattle.mk_model.specs.declared.graph.GraphBond.{GraphBond}
use Rattle.mk_model.specs.Edges.{IsBetween}
use Rattle.mk_model.specs.Graphs.{GraphView, IsBefore, IsUnmarked, graph_edge}
use Rattle.mk_model.proofs.PlaceLemmas.{all_mapped}

-- a number that rises as the order of bonds does, where no end is above 512
key : GraphBond → ℕ
key bond = 513 * bond.first + bond.second

-- a bond that stands before another has the lower number
key-rises : (bond later : GraphBond) → bond.second ≤ 512 → IsBefore bond later → key bond < key later
unfolding key
key-rises bond later most (inl less) = omega (arith, less)
key-rises bond later most (inr less) = omega (arith, less.0, less.1)

-- so the bond at a place has at least that number
key-least : (bonds : List GraphBond) → AllPairs IsBefore bonds → All (λ bond. bond.second ≤ 512) bonds → (k : ℕ) (d : GraphBond) → k < length bonds → k ≤ key (get_or bonds k d)
key-least bonds order most zero d below = omega arith
key-least bonds order most (suc k) d below =
    let here = key-least bonds order most k d (omega arith) in
    let rises = key-rises (get_or bonds k d) (get_or bonds (suc k) d) (most k d (omega arith)) (order k (suc k) d (omega arith) below) in
    omega (arith, here, rises)

-- a graph has few bonds
pub few_bonds : (graph : GraphView) → IsUnmarked graph → length graph.bonds < 2 ^ 32
unfolding key
few_bonds graph is =
    elim (cases_lt (length graph.bonds) (2 ^ 32)) [
      | inl few ↦ few
      | inr many ↦
          let between : All (λ bond. IsBetween (length graph.atoms) (graph_edge bond)) graph.bonds = all_mapped graph_edge (IsBetween (length graph.atoms)) graph.bonds is.graph.ends in
          let d : GraphBond = record { first = 0; second = 0; kind = 0; topology = 0; ring = false; aromatic = false } in
          let last : 1000000 < length graph.bonds = omega (arith, many) in
          let least = key-least graph.bonds is.order (λ k e below. omega (arith, (between k e below).second.1, is.few)) 1000000 d last in
          absurd (omega (arith, least, (between 1000000 d last).first.1, (between 1000000 d last).second.1, is.few))
    ]
