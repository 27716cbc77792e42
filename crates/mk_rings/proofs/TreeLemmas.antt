-- A forest grows: a tree is begun and done, and all trees together are a forest.
use Rattle.std.proofs.Common.{◌≡◌, ◌≢◌, ◌≤◌, ◌<◌, ◌+◌, ◌-◌, ℕ, zero, suc, eqb, List, [], ◌∷◌, ◌++◌, Some, refl, ap, sym, ◌∙◌, subst, inl, inr, ⊎_elim, arith, length, get_or, set, replicate}
use Rattle.std.specs.Prelude.{All, Contains}
use Rattle.std.proofs.lemmas.Bool.{cases_eq}
use Rattle.std.proofs.lemmas.List.{length-set}
use Rattle.std.proofs.lemmas.List.Elements.{All-cons, All-nil, All-pop, Contains-push_cases}
use Rattle.std.proofs.lemmas.List.Sums.{count_by-le-length}
use Rattle.mk_model.specs.declared.edge.Edge.{Edge}
use Rattle.mk_model.specs.Edges.{AreBetween, IsBetween}
use Rattle.mk_rings.specs.declared.node.Node.{Node}
use Rattle.mk_rings.specs.Forests.{node, nowhere, IsGrown, IsForest, unreached}
use Rattle.mk_rings.specs.Growing.{HasEndsInTree, IsInTree, AllDone, IsReaching, StayReached}
use Rattle.mk_marks.proofs.JoinLemmas.{joins_within, get_or-from_get}
use Rattle.mk_rings.proofs.GrowLemmas.{node-here, node-other, unreached-set, unreached_flat, StayReached-set, IsDone-set, IsGrown-set}

-- ---- a tree is begun and done

-- no bond ends at 0
IsDone-zero : (bonds : List Edge) (nodes : List Node) → AreBetween (length nodes - 1) bonds → HasEndsInTree bonds nodes 0
IsDone-zero bonds nodes ends = λ b y joined.
    let within = ends b joined.edge (joins_within bonds b 0 y joined) in
    let at : get_or bonds b joined.edge ≡ joined.edge = get_or-from_get bonds b joined.edge joined.edge joined.at in
    let between : IsBetween (length nodes - 1) joined.edge = rw at at within in
    ⊎_elim (λ e. absurd (omega (arith, between.first, e.0))) (λ e. absurd (omega (arith, between.second, e.1))) joined.ends

-- the top of a new tree stands on the stack alone
pub IsReaching-top : (bonds : List Edge) (nodes : List Node) (top : ℕ) (n : Node) → IsGrown bonds nodes
    → AllDone bonds nodes → 1 ≤ top → top < length nodes → (node nodes top).root ≡ 0 → n.root ≡ top
    → n.depth ≡ (node nodes top).depth → IsReaching bonds (set nodes top n) (top ∷ []) top 0
    × StayReached nodes (set nodes top n) × ((node (set nodes top n) top).root ≢ 0)
IsReaching-top bonds nodes top n grown done least below new root_is depth_is = (
  record {
    grown = IsGrown-set bonds nodes top n below new root grown (λ high. absurd (omega (arith, flat))) (λ _. root_is) shallow;
    waiting = All-cons (IsInTree (set nodes top n) top) top [] (least, rw length-set below, ap (λ k. k.root) (node-here nodes top n below) ∙ root_is) (All-nil (IsInTree (set nodes top n) top));
    others = λ z reached.
        ⊎_elim
        (λ (at : z ≡ top). inr (inl (0, omega arith, sym at)))
        (λ (other : z ≢ top).
        let was : (node nodes z).root ≢ 0 = λ none. reached (ap (λ k. k.root) (node-other nodes top n z other) ∙ none) in
        inl (IsDone-set bonds nodes top n below new root z was (done z was)))
        (cases_eq z top);
  },
  StayReached-set bonds nodes top n below new root,
  λ none. root (ap (λ k. k.root) (sym (node-here nodes top n below)) ∙ none),
)
  where
    root : n.root ≢ 0
    root none = absurd (omega (arith, least, root_is, none))

    flat : n.depth ≡ 0
    flat = depth_is ∙ unreached_flat bonds nodes top grown new

    shallow : n.depth + unreached (set nodes top n) < length nodes
    shallow = omega (arith, flat, unreached-set nodes top n below new root, count_by-le-length (λ (m : Node). eqb m.root 0) nodes)

-- an atom is taken from the stack
pub IsReaching-pop : (bonds : List Edge) (nodes : List Node) (stack rest : List ℕ) (x top : ℕ) → stack ≡ rest ++ x ∷ []
    → AreBetween (length nodes - 1) bonds → IsReaching bonds nodes stack top 0 → IsReaching bonds nodes rest top x
    × IsInTree nodes top x
IsReaching-pop bonds nodes stack rest x top is ends r = (
  record {
    grown = r.grown;
    waiting = taken.0;
    others = λ z reached.
        ⊎_elim
        (λ done. inl done)
        (λ others. ⊎_elim
        (λ on_stack.
        let P : List ℕ → Type 0 = λ s. Contains s z in
        inr (⊎_elim (λ among. inl among) (λ last. inr (sym last)) (Contains-push_cases rest x z (subst P is on_stack))))
        (λ none. let P : ℕ → Type 0 = λ k. HasEndsInTree bonds nodes k in inl (subst P (sym none) (IsDone-zero bonds nodes ends)))
        others)
        (r.others z reached);
  },
  taken.1,
)
  where
    taken : All (IsInTree nodes top) rest × IsInTree nodes top x
    taken = All-pop (IsInTree nodes top) stack rest (Some x) is r.waiting

-- with an empty stack whoever was reached is done
pub AllDone-empty : (bonds : List Edge) (nodes : List Node) (stack : List ℕ) (top : ℕ) → stack ≡ [] → AreBetween (length nodes - 1) bonds → IsReaching bonds nodes stack top 0 → AllDone bonds nodes
AllDone-empty bonds nodes stack top empty ends r = λ z reached.
    ⊎_elim
    (λ done. done)
    (λ others. ⊎_elim
    (λ on_stack. absurd (omega (arith, on_stack.1, ap length empty)))
    (λ none. let P : ℕ → Type 0 = λ k. HasEndsInTree bonds nodes k in subst P (sym none) (IsDone-zero bonds nodes ends))
    others)
    (r.others z reached)

-- ---- all trees

-- in a list of places that weren't reached no place was
get_or-replicate_default : (n x : ℕ) → node (replicate n nowhere) x ≡ nowhere
get_or-replicate_default zero x = refl
get_or-replicate_default (suc n) zero = refl
get_or-replicate_default (suc n) (suc x) = get_or-replicate_default n x

-- before the first tree nothing was reached
pub IsGrown-none : (bonds : List Edge) (n : ℕ) → IsGrown bonds (replicate n nowhere) × AllDone bonds (replicate n nowhere)
IsGrown-none bonds n = (
  record {
    hang = λ x high. absurd (omega (arith, high, ap (λ k. k.depth) (get_or-replicate_default n x)));
    tops = λ x reached _. absurd (reached (ap (λ k. k.root) (get_or-replicate_default n x)));
    shallow = λ x reached. absurd (reached (ap (λ k. k.root) (get_or-replicate_default n x)));
  },
  λ x reached. absurd (reached (ap (λ k. k.root) (get_or-replicate_default n x))),
)

-- with every atom reached the trees are a forest
pub IsForest-all : (atoms : ℕ) (bonds : List Edge) (nodes : List Node) → AreBetween atoms bonds
    → length nodes ≡ atoms + 1 → IsGrown bonds nodes → AllDone bonds nodes
    → ((x : ℕ) → 1 ≤ x → x ≤ atoms → (node nodes x).root ≢ 0) → IsForest atoms bonds nodes
IsForest-all atoms bonds nodes ends size grown done reached = record {
  grown = grown;
  size = size;
  one_tree = λ b x y joined.
      let within = ends b joined.edge (joins_within bonds b x y joined) in
      let at : get_or bonds b joined.edge ≡ joined.edge = get_or-from_get bonds b joined.edge joined.edge joined.at in
      let between : IsBetween atoms joined.edge = rw at at within in
      let x_reached : (node nodes x).root ≢ 0 =
      ⊎_elim
      (λ e. reached x (omega (arith, between.first, e.0)) (omega (arith, between.first, e.0)))
      (λ e. reached x (omega (arith, between.second, e.1)) (omega (arith, between.second, e.1)))
      joined.ends in
      sym (done x x_reached b y joined);
  reached = reached;
}
