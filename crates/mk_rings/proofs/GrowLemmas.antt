-- A forest grows: an atom is reached over a bond, all bonds of an atom are followed, and a tree is done.
use Rattle.std.proofs.Common.{◌≡◌, ◌≢◌, ◌≤◌, ◌<◌, ◌+◌, ◌-◌, ◌*◌, ℕ, true, cond, eqb, List, [], ◌∷◌, ◌++◌, Some, refl, ap, sym, ◌∙◌, subst, inl, inr, ⊎_elim, arith, length, get_or, set}
use Rattle.std.specs.Prelude.{Contains, slice_get}
use Rattle.mk_model.proofs.ForCallers.{slice_get-rows_of}
use Rattle.std.proofs.lemmas.Bool.{cases_eq, cases_lt, eq-eqb, ne_eqb}
use Rattle.std.proofs.lemmas.List.{get_or-set_same, get_or-set_other, length-set, length_push}
use Rattle.std.proofs.lemmas.List.Elements.{All-push, All-weaker, All-contains, Contains-append_left, Contains-push}
use Rattle.std.proofs.lemmas.List.Sums.{sum_by-set}
use Rattle.mk_model.specs.declared.edge.Edge.{Edge}
use Rattle.mk_model.specs.Edges.{AreBetween, IsBetween, Joins, HasEnds, numbers_at, rows_of, touches}
use Rattle.mk_rings.specs.declared.node.Node.{Node}
use Rattle.mk_rings.specs.Forests.{node, nowhere, Hangs, IsGrown, unreached}
use Rattle.mk_rings.specs.Growing.{HasEndsInTree, IsInTree, IsReaching, StayReached}
use Rattle.mk_marks.proofs.WayLemmas.{joins_back, same_ends}
use Rattle.mk_marks.proofs.JoinLemmas.{joins_within, slice_get-at, get_or-from_get}
use Rattle.mk_model.proofs.ForCallers.{numbers_at-all, numbers_at-each, IsNumberOf}
use Rattle.mk_model.proofs.ForCallers.{touches-ends}

-- a bond that joins x to something ends at x
pub touches_joined : (bonds : List Edge) (b x w : ℕ) (d : Edge) → Joins bonds b x w → touches x (get_or bonds b d) ≡ true
touches_joined bonds b x w d j =
    let at : get_or bonds b d ≡ j.edge = get_or-from_get bonds b d j.edge j.at in
    rw at (touches-ends j.edge x w j.ends)

-- a place that is written
pub node-here : (nodes : List Node) (y : ℕ) (n : Node) → y < length nodes → node (set nodes y n) y ≡ n
node-here nodes y n below = get_or-set_same nodes y n nowhere below

-- the other places stay
pub node-other : (nodes : List Node) (y : ℕ) (n : Node) (z : ℕ) → z ≢ y → node (set nodes y n) z ≡ node nodes z
node-other nodes y n z other = get_or-set_other nodes y z n nowhere other

-- one place fewer isn't reached
pub unreached-set : (nodes : List Node) (y : ℕ) (n : Node) → y < length nodes → (node nodes y).root ≡ 0 → n.root ≢ 0 → unreached (set nodes y n) + 1 ≡ unreached nodes
unreached-set nodes y n below new root =
    let all = sum_by-set (λ (m : Node). cond (eqb m.root 0) 1 0) nodes y n nowhere below in
    let was : ◌≡◌ {A = ℕ} (cond (eqb (node nodes y).root 0) 1 0) 1 = rw (eq-eqb (node nodes y).root 0 new) refl in
    let is : ◌≡◌ {A = ℕ} (cond (eqb n.root 0) 1 0) 0 = rw (ne_eqb n.root 0 root) refl in
    omega (arith, all, was, is)

-- an atom that wasn't reached has none above it
pub unreached_flat : (bonds : List Edge) (nodes : List Node) (y : ℕ) → IsGrown bonds nodes → (node nodes y).root ≡ 0 → (node nodes y).depth ≡ 0
unreached_flat bonds nodes y grown new =
    ⊎_elim (λ high. absurd ((grown.hang y high).reached new)) (λ low. omega arith) (cases_lt 0 (node nodes y).depth)

-- ---- a place is written whose atom wasn't reached

module _ (bonds : List Edge) (nodes : List Node) (y : ℕ) (n : Node) (below : y < length nodes) (new : (node nodes y).root ≡ 0) (root : n.root ≢ 0) where
  -- whoever was reached is another
  reached-other : (z : ℕ) → (node nodes z).root ≢ 0 → z ≢ y
  reached-other z reached same = reached (ap (λ k. (node nodes k).root) same ∙ new)

  pub StayReached-set : StayReached nodes (set nodes y n)
  StayReached-set = λ z reached none. reached (ap (λ k. k.root) (sym (node-other nodes y n z (reached-other z reached))) ∙ none)

  -- whoever is done stays done
  pub IsDone-set : (z : ℕ) → (node nodes z).root ≢ 0 → HasEndsInTree bonds nodes z → HasEndsInTree bonds (set nodes y n) z
  IsDone-set z reached done = λ b w joined.
      let same = done b w joined in
      let w_other : w ≢ y = reached-other w (λ none. reached (sym same ∙ none)) in
      ap (λ k. k.root) (node-other nodes y n w w_other) ∙ same ∙ ap (λ k. k.root) (sym (node-other nodes y n z (reached-other z reached)))

  -- whoever hangs stays hanging
  Hangs-set : (z : ℕ) → z ≢ y → Hangs bonds nodes z → Hangs bonds (set nodes y n) z
  Hangs-set z other h =
      let up : (node nodes z).parent ≢ y = reached-other (node nodes z).parent (λ none. h.reached (sym h.same_tree ∙ none)) in
      let here = node-other nodes y n z other in
      let there = node-other nodes y n (node nodes z).parent up in
      record {
        joined = rw here h.joined;
        below = rw (here, there) h.below;
        same_tree = rw (here, there) h.same_tree;
        reached = λ none. h.reached (ap (λ k. k.root) (sym here) ∙ none);
      }

  -- the forest stays one where the new place fits
  pub IsGrown-set : IsGrown bonds nodes → (0 < n.depth → Hangs bonds (set nodes y n) y) → (n.depth ≡ 0 → n.root ≡ y)
      → n.depth + unreached (set nodes y n) < length nodes → IsGrown bonds (set nodes y n)
  IsGrown-set grown hangs top shallow =
      let here = node-here nodes y n below in
      let fewer = unreached-set nodes y n below new root in
      record {
        hang = λ z high.
            ⊎_elim
            (λ same.
            let P : ℕ → Type 0 = λ k. Hangs bonds (set nodes y n) k in
            subst P (sym same) (hangs (omega (arith, high, ap (λ k. (node (set nodes y n) k).depth) same, ap (λ k. k.depth) here))))
            (λ other. Hangs-set z other (grown.hang z (omega (arith, high, ap (λ k. k.depth) (node-other nodes y n z other)))))
            (cases_eq z y);
        tops = λ z reached low.
            ⊎_elim
            (λ same.
            let flat : n.depth ≡ 0 = ap (λ k. k.depth) (sym here) ∙ ap (λ k. (node (set nodes y n) k).depth) (sym same) ∙ low in
            ap (λ k. (node (set nodes y n) k).root) same ∙ ap (λ k. k.root) here ∙ top flat ∙ sym same)
            (λ other.
            let there = node-other nodes y n z other in
            ap (λ k. k.root) there ∙ grown.tops z (λ none. reached (ap (λ k. k.root) there ∙ none)) (ap (λ k. k.depth) (sym there) ∙ low))
            (cases_eq z y);
        shallow = λ z reached.
            ⊎_elim
            (λ (same : z ≡ y).
            let depth : (node (set nodes y n) z).depth ≡ n.depth = ap (λ k. (node (set nodes y n) k).depth) same ∙ ap (λ k. k.depth) here in
            rw length-set (omega (arith, shallow, depth)))
            (λ other.
            let there = node-other nodes y n z other in
            rw length-set (omega (arith, fewer, grown.shallow z (λ none. reached (ap (λ k. k.root) there ∙ none)), ap (λ k. k.depth) there)))
            (cases_eq z y);
      }

-- ---- the bonds of an atom are followed

-- what holds when the bonds of atom x with the first i of its numbers are followed, in a tree of this top
pub record IsFollowed (bonds : List Edge) (old : List Node) (waiting : ℕ) (x top : ℕ) (numbers : List ℕ) (i : ℕ) (nodes : List Node) (stack : List ℕ) : Type 0 where
  pub reaching : IsReaching bonds nodes stack top x
  pub same : node nodes x ≡ node old x
  pub followed : (k w : ℕ) → k < i → Joins bonds (get_or numbers k 0 - 1) x w → (node nodes w).root ≡ top
  pub stay : StayReached old nodes
  pub fewer : 2 * unreached nodes + length stack ≤ 2 * unreached old + waiting
  pub size : length nodes ≡ length old

-- the number at a place numbers a bond of the atom
pub number_at : (bonds : List Edge) (x : ℕ) (numbers : List ℕ) (i : ℕ) → numbers ≡ numbers_at bonds x → i < length numbers → IsNumberOf bonds x (get_or numbers i 0)
number_at bonds x numbers i are below =
    let P : List ℕ → Type 0 = λ xs. IsNumberOf bonds x (get_or xs i 0) in
    subst P (sym are) (numbers_at-each bonds x i (omega (arith, ap length are)))

-- a bond with these ends joins them
pub joined_by : (bonds : List Edge) (b x y : ℕ) (d : Edge) → b < length bonds → HasEnds (get_or bonds b d) x y → Joins bonds b x y
joined_by bonds b x y d below ends = record { edge = get_or bonds b d; at = slice_get-at bonds b d below; ends = ends }

-- what a bond joins are atoms
pub end_within : (atoms : ℕ) (bonds : List Edge) (b x y : ℕ) → AreBetween atoms bonds → Joins bonds b x y → (1 ≤ y) × (y ≤ atoms)
end_within atoms bonds b x y ends joined =
    let within = ends b joined.edge (joins_within bonds b x y joined) in
    let at : get_or bonds b joined.edge ≡ joined.edge = get_or-from_get bonds b joined.edge joined.edge joined.at in
    let between : IsBetween atoms joined.edge = rw at at within in
    ⊎_elim
    (λ e. (omega (arith, between.second, e.1), omega (arith, between.second, e.1)))
    (λ e. (omega (arith, between.first, e.0), omega (arith, between.first, e.0)))
    joined.ends

-- the list of an atom among those of all atoms
pub numbers-row : (atoms : ℕ) (bonds : List Edge) (rows : List (List ℕ)) (x : ℕ) (numbers : List ℕ)
    → rows ≡ rows_of atoms bonds → 1 ≤ x → x ≤ atoms → slice_get rows (x - 1) ≡ Some numbers
    → numbers ≡ numbers_at bonds x
numbers-row atoms bonds rows x numbers are least most at =
    let there = slice_get-rows_of atoms bonds (x - 1) (omega arith) in
    let back : x - 1 + 1 ≡ x = omega arith in
    let same : Some numbers ≡ Some (numbers_at bonds (x - 1 + 1)) = sym at ∙ ap (λ xs. slice_get xs (x - 1)) are ∙ there in
    let list : numbers ≡ numbers_at bonds (x - 1 + 1) = cc in
    list ∙ ap (numbers_at bonds) back

module _ (bonds : List Edge) (old : List Node) (waiting x top : ℕ) (numbers : List ℕ) (i : ℕ) (nodes : List Node)
    (stack : List ℕ) (y : ℕ) (top_is : (node old x).root ≡ top) (some : top ≢ 0)
    (joined : Joins bonds (get_or numbers i 0 - 1) x y)
    (f : IsFollowed bonds old waiting x top numbers i nodes stack) where
  root_here : (node nodes x).root ≡ top
  root_here = ap (λ k. k.root) f.same ∙ top_is

  -- the other end of a bond of x is its one
  other_end : (w : ℕ) → Joins bonds (get_or numbers i 0 - 1) x w → w ≡ y
  other_end w j = ⊎_elim (λ e. e.1) (λ e. e.1 ∙ e.0) (same_ends j joined)

  -- an atom that was reached before is in the tree
  pub IsFollowed-seen : (node nodes y).root ≢ 0 → IsFollowed bonds old waiting x top numbers (i + 1) nodes stack
  IsFollowed-seen reached = record {
    reaching = f.reaching;
    same = f.same;
    followed = λ k w below j.
        ⊎_elim
        (λ earlier. f.followed k w earlier j)
        (λ last.
        let is : k ≡ i = omega arith in
        let P : ℕ → Type 0 = λ n. Joins bonds (get_or numbers n 0 - 1) x w in
        ap (λ n. (node nodes n).root) (other_end w (subst P is j)) ∙ in_tree)
        (cases_lt k i);
    stay = f.stay;
    fewer = f.fewer;
    size = f.size;
  }
    where
      in_tree : (node nodes y).root ≡ top
      in_tree =
          ⊎_elim
          (λ done. sym (done (get_or numbers i 0 - 1) x (joins_back joined)) ∙ root_here)
          (λ others. ⊎_elim
          (λ on_stack.
          let P : ℕ → Type 0 = λ n. IsInTree nodes top n in
          (All-contains (IsInTree nodes top) stack y f.reaching.waiting on_stack).2)
          (λ now. ap (λ n. (node nodes n).root) now ∙ root_here)
          others)
          (f.reaching.others y reached)

  -- an atom that wasn't reached is put into the tree and onto the stack
  pub IsFollowed-new : (n : Node) → 1 ≤ y → y < length nodes → (node nodes y).root ≡ 0
      → n ≡ record {
        parent = x;
        via = get_or numbers i 0 - 1;
        depth = (node old x).depth + 1;
        root = (node old x).root;
      } → IsFollowed bonds old waiting x top numbers (i + 1) (set nodes y n) (stack ++ y ∷ [])
  IsFollowed-new n least below new is = record {
    reaching = record {
      grown = IsGrown-set bonds nodes y n below new root f.reaching.grown (λ high. hangs) (λ flat. absurd (omega (arith, ap (λ k. k.depth) is, flat))) shallow;
      waiting = All-push (IsInTree (set nodes y n) top) stack y
          (All-weaker (IsInTree nodes top) (IsInTree (set nodes y n) top) stays_in stack f.reaching.waiting)
          (least, rw length-set below, ap (λ k. k.root) here ∙ root_is);
      others = λ z reached.
          ⊎_elim
          (λ (at : z ≡ y). let P : ℕ → Type 0 = λ k. Contains (stack ++ y ∷ []) k in inr (inl (subst P (sym at) (Contains-push stack y))))
          (λ (other : z ≢ y).
          let was : (node nodes z).root ≢ 0 = λ none. reached (ap (λ k. k.root) (node-other nodes y n z other) ∙ none) in
          ⊎_elim
          (λ done. inl (IsDone-set bonds nodes y n below new root z was done))
          (λ rest. inr (⊎_elim (λ on_stack. inl (Contains-append_left stack (y ∷ []) z on_stack)) (λ now. inr now) rest))
          (f.reaching.others z was))
          (cases_eq z y);
    };
    same = node-other nodes y n x x_other ∙ f.same;
    followed = λ k w k_below j.
        ⊎_elim
        (λ earlier.
        let there = f.followed k w earlier j in
        let w_other : w ≢ y = reached-other bonds nodes y n below new root w (λ none. some (sym there ∙ none)) in
        ap (λ m. m.root) (node-other nodes y n w w_other) ∙ there)
        (λ last.
        let at : k ≡ i = omega arith in
        let P : ℕ → Type 0 = λ m. Joins bonds (get_or numbers m 0 - 1) x w in
        ap (λ m. (node (set nodes y n) m).root) (other_end w (subst P at j)) ∙ ap (λ m. m.root) here ∙ root_is)
        (cases_lt k i);
    stay = λ z reached. StayReached-set bonds nodes y n below new root z (f.stay z reached);
    fewer = omega (arith, f.fewer, unreached-set nodes y n below new root, length_push stack y);
    size = rw length-set f.size;
  }
    where
      root_is : n.root ≡ top
      root_is = ap (λ k. k.root) is ∙ top_is

      root : n.root ≢ 0
      root none = some (sym root_is ∙ none)

      here : node (set nodes y n) y ≡ n
      here = node-here nodes y n below

      x_other : x ≢ y
      x_other = reached-other bonds nodes y n below new root x (λ none. some (sym root_here ∙ none))

      shallow : n.depth + unreached (set nodes y n) < length nodes
      shallow =
          omega (arith, ap (λ k. k.depth) is, unreached-set nodes y n below new root, f.reaching.grown.shallow x (λ none. some (sym root_here ∙ none)), ap (λ k. k.depth) f.same)

      hangs : Hangs bonds (set nodes y n) y
      hangs =
          let up : node (set nodes y n) x ≡ node old x = node-other nodes y n x x_other ∙ f.same in
          let whole = here ∙ is in
          let P : Node → Type 0 = λ m. Joins bonds m.via y m.parent in
          let parent : (node (set nodes y n) y).parent ≡ x = ap (λ k. k.parent) whole in
          let depth : (node (set nodes y n) y).depth ≡ (node old x).depth + 1 = ap (λ k. k.depth) whole in
          let above : (node (set nodes y n) (node (set nodes y n) y).parent).depth ≡ (node old x).depth = ap (λ k. (node (set nodes y n) k).depth) parent ∙ ap (λ k. k.depth) up in
          record {
            joined = subst P (sym whole) (joins_back joined);
            below = omega (arith, depth, above);
            same_tree = ap (λ k. (node (set nodes y n) k).root) parent ∙ ap (λ k. k.root) up ∙ sym (ap (λ k. k.root) whole);
            reached = λ none. root (ap (λ k. k.root) (sym here) ∙ none);
          }

      stays_in : (z : ℕ) → IsInTree nodes top z → IsInTree (set nodes y n) top z
      stays_in z z_in =
          let other : z ≢ y = reached-other bonds nodes y n below new root z (λ none. some (sym z_in.2 ∙ none)) in
          (z_in.0, rw length-set z_in.1, ap (λ k. k.root) (node-other nodes y n z other) ∙ z_in.2)

-- with all numbers followed the atom is done
pub IsFollowed-all : (bonds : List Edge) (old : List Node) (waiting x top : ℕ) (numbers : List ℕ) (i : ℕ)
    (nodes : List Node) (stack : List ℕ) → (node old x).root ≡ top → numbers ≡ numbers_at bonds x → length numbers ≤ i
    → IsFollowed bonds old waiting x top numbers i nodes stack → IsReaching bonds nodes stack top 0
IsFollowed-all bonds old waiting x top numbers i nodes stack top_is are all f = record {
  grown = f.reaching.grown;
  waiting = f.reaching.waiting;
  others = λ z reached.
      ⊎_elim
      (λ done. inl done)
      (λ rest. ⊎_elim
      (λ on_stack. inr (inl on_stack))
      (λ now. let P : ℕ → Type 0 = λ k. HasEndsInTree bonds nodes k in inl (subst P (sym now) done_here))
      rest)
      (f.reaching.others z reached);
}
  where
    done_here : HasEndsInTree bonds nodes x
    done_here = λ b w joined.
        let within : b < length bonds = joins_within bonds b x w joined in
        let at = numbers_at-all bonds x b (record { first = 0; second = 0; kind = 0 }) within (touches_joined bonds b x w (record { first = 0; second = 0; kind = 0 }) joined) in
        let number : get_or numbers at.0 0 - 1 ≡ b = omega (arith, ap (λ xs. get_or xs at.0 0) are, at.2) in
        let k_below : at.0 < i = omega (arith, ap length are, at.1) in
        f.followed at.0 w k_below (rw number joined) ∙ sym top_is ∙ sym (ap (λ k. k.root) f.same)
