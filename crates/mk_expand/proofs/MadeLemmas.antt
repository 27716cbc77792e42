-- The graph that is made of an open code.
--     made_ordered, made_sketch      its bonds put in order, and the sketch
--     made_graph                     with the marks it is the graph of the open code
use Rattle.std.proofs.Common.{◌≡◌, ◌∙◌, ℕ, ◌≤◌, suc, Bool, false, ltb, List, [], ◌∷◌, length, map, refl, sym, ap, subst, arith, All}
use Rattle.std.specs.Prelude.{AllPairs}
use Rattle.std.specs.List.Sorted.{IsPermutation}
use Rattle.std.proofs.lemmas.Bool.Decides.{nat_tests}
use Rattle.std.proofs.lemmas.List.{append-nil, length-map}
use Rattle.std.proofs.lemmas.List.Sorted.{IsPermutation-map}
use Rattle.mk_model.specs.declared.graph.GraphBond.{GraphBond}
use Rattle.mk_model.specs.declared.template.QueryBond.{QueryBond}
use Rattle.mk_model.specs.BondOrder.{HaveNoPairTwice, lower_first}
use Rattle.mk_model.specs.Expansions.{unmarked}
use Rattle.mk_model.specs.Graphs.{GraphView, IsBefore, IsGraph, IsUnmarked}
use Rattle.mk_model.specs.Pieces.{Fragment}
use Rattle.mk_model.specs.Queries.{QueryView, slots_of}
use Rattle.mk_model.specs.QueryFits.{QueryFits}
use Rattle.mk_marks.specs.Bare.{bare_bonds}
use Rattle.mk_pieces.specs.Fragments.{HasOrdered, IsFragment, IsLowerFirst, bare}
use Rattle.mk_pieces.proofs.GraphLemmas.{fragment_sketch}
use Rattle.mk_pieces.proofs.OrderLemmas.{ordered_of, pairs_once}
use Rattle.mk_expand.specs.OpenCodes.{IsOpenCode, open_spelling}
use Rattle.mk_expand.specs.OpenGraphs.{IsOpenGraph, open_expansion, shared_atom, shared_bond}
use Rattle.mk_expand.specs.Opening.{IsOpened, OpenBegins}
use Rattle.mk_expand.proofs.StandLemmas.{open_fragment}
use Rattle.mk_expand.proofs.OneChoiceLemmas.{one_open_choice}
use Rattle.mk_expand.proofs.WeakerLemmas.{shared_fragment, with_shared}

pub open_begins : (query : QueryView) (code : List ℕ) → IsOpenCode query 0 code → OpenBegins query (slots_of query 0) code
open_begins query code is = record { choice = is.choice; rest = []; made = is.made; spelt = append-nil (open_spelling is.choice) ∙ is.spelt }

-- bonds that agree without marks agree as drawn
same_unmarked : (xs ys : List GraphBond) → bare_bonds xs ≡ bare_bonds ys → map unmarked xs ≡ map unmarked ys
same_unmarked xs ys same = whole xs ∙ ap (map unmarked) same ∙ sym (whole ys)
  where
    whole : (zs : List GraphBond) → map unmarked zs ≡ map unmarked (bare_bonds zs)
    whole [] = refl
    whole (z ∷ zs) = ap (λ (bs : List QueryBond). unmarked z ∷ bs) (whole zs)

-- bonds with their lower ends first stay as they are
kept_first : (n : ℕ) (bonds : List QueryBond) → All (IsLowerFirst n) bonds → map unmarked (map lower_first (map bare bonds)) ≡ bonds
kept_first n [] all = refl
kept_first n (b ∷ bonds) all =
    let first : IsLowerFirst n b = all 0 b (omega arith) in
    let up : ltb b.second b.first ≡ false = (let less = first.less in grind (arith, nat_tests)) in
    let rest = kept_first n bonds (λ k d below. all (suc k) d (omega arith)) in
    rw up (ap (λ (bs : List QueryBond). b ∷ bs) rest)

module _ (query : QueryView) (fits : QueryFits query) (code rest : List ℕ) (part : Fragment) (stays : Bool) (opened_so : IsOpened query 0 code rest part stays) where
  fragment : IsFragment part
  fragment = subst IsFragment (sym opened_so.is) (open_fragment query fits opened_so.choice opened_so.made).fragment

  weak : IsFragment (with_shared stays part)
  weak = shared_fragment stays part fragment

  few : length (map (shared_atom stays) part.atoms) ≤ 512
  few =
      let small = (open_fragment query fits opened_so.choice opened_so.made).few in
      omega (arith, small, length-map part.atoms (shared_atom stays), ap (λ (p : Fragment). length p.atoms) opened_so.is)

  pub made_ordered : (bonds drawn : List GraphBond) → bonds ≡ map bare (map (shared_bond stays) part.bonds) → IsPermutation (map lower_first bonds) drawn
      → (HaveNoPairTwice bonds → AllPairs IsBefore drawn)
      → HasOrdered (map (shared_bond stays) part.bonds) drawn
  made_ordered bonds drawn is same order =
      let same' : IsPermutation (map lower_first (map bare (map (shared_bond stays) part.bonds))) drawn = subst (λ (bs : List GraphBond). IsPermutation (map lower_first bs) drawn) is same in
      let once : HaveNoPairTwice bonds = subst HaveNoPairTwice (sym is) (pairs_once (length (map (shared_atom stays) part.atoms)) (map (shared_bond stays) part.bonds) weak.ends weak.apart) in
      ordered_of (length (map (shared_atom stays) part.atoms)) (map (shared_bond stays) part.bonds) weak.ends drawn same' (order once)

  pub made_sketch : (drawn : List GraphBond) → HasOrdered (map (shared_bond stays) part.bonds) drawn → IsUnmarked (record { atoms = map (shared_atom stays) part.atoms; bonds = drawn })
  made_sketch drawn has = fragment_sketch (with_shared stays part) weak few drawn has

  pub made_graph : IsOpenCode query 0 code → (bonds drawn : List GraphBond) → bonds ≡ map bare (map (shared_bond stays) part.bonds) → IsPermutation (map lower_first bonds) drawn
      → (graph : GraphView) → IsGraph graph → graph.atoms ≡ map (shared_atom stays) part.atoms → bare_bonds graph.bonds ≡ bare_bonds drawn → IsOpenGraph query code graph
  made_graph is bonds drawn are same graph kept atoms marks =
      let whole = one_open_choice query (slots_of query 0) is.choice opened_so.choice [] rest is.made opened_so.made (append-nil (open_spelling is.choice) ∙ is.spelt ∙ sym opened_so.spelt) in
      let first : map unmarked (map lower_first bonds) ≡ map (shared_bond stays) part.bonds =
      ap (λ (bs : List GraphBond). map unmarked (map lower_first bs)) are ∙ kept_first (length (map (shared_atom stays) part.atoms)) (map (shared_bond stays) part.bonds) weak.ends in
      let turned : IsPermutation (map unmarked (map lower_first bonds)) (map unmarked drawn) = IsPermutation-map unmarked (map lower_first bonds) drawn same in
      record {
        choice = opened_so.choice;
        made = opened_so.made;
        spelt = ap open_spelling (sym whole.choices) ∙ is.spelt;
        kept = kept;
        atoms = atoms ∙ ap (λ (p : Fragment). map (shared_atom stays) p.atoms) opened_so.is
            ∙ ap (λ (t : Bool). map (shared_atom t) (open_expansion query 0 opened_so.choice).atoms) opened_so.ends;
        bonds = subst (λ (t : Bool). IsPermutation (map (shared_bond t) (open_expansion query 0 opened_so.choice).bonds) (map unmarked graph.bonds)) opened_so.ends
            (subst (λ (p : Fragment). IsPermutation (map (shared_bond stays) p.bonds) (map unmarked graph.bonds)) opened_so.is
            (subst (λ (bs : List QueryBond). IsPermutation bs (map unmarked graph.bonds)) first
            (subst (IsPermutation (map unmarked (map lower_first bonds))) (sym (same_unmarked graph.bonds drawn marks)) turned)));
      }

pub bare_twice : (stays : Bool) (bonds : List QueryBond) → map (λ bond. bare (shared_bond stays bond)) bonds ≡ map bare (map (shared_bond stays) bonds)
bare_twice stays [] = refl
bare_twice stays (b ∷ bonds) = ap (λ (bs : List GraphBond). bare (shared_bond stays b) ∷ bs) (bare_twice stays bonds)
