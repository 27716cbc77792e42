-- Two atoms of one tree go up until they meet, and the bonds on the way are marked.
use Rattle.std.proofs.Common.{◌≡◌, ◌≢◌, ◌≤◌, ◌<◌, ◌+◌, ℕ, Bool, true, false, List, refl, ap, sym, ◌∙◌, subst, inl, inr, ⊎_elim, arith, length, get_or, set}
use Rattle.std.specs.Prelude.{◌⊎◌}
use Rattle.std.proofs.lemmas.Bool.{cases_eq, cases_lt, true≢false}
use Rattle.std.proofs.lemmas.List.{get_or-set_same, get_or-set_other}
use Rattle.mk_model.specs.declared.edge.Edge.{Edge}
use Rattle.mk_marks.specs.Marks.{IsMarked}
use Rattle.mk_rings.specs.declared.node.Node.{Node}
use Rattle.mk_rings.specs.Forests.{node, IsGrown, IsForest, is_over, HangsBy}
use Rattle.mk_rings.specs.Walks.{Parts, MarksWay}
use Rattle.mk_model.specs.Edges.{AreBetween, IsBetween, Joins}
use Rattle.mk_marks.proofs.JoinLemmas.{get_or-from_get, joins_within}
use Rattle.mk_marks.proofs.WayLemmas.{same_ends}
use Rattle.mk_rings.proofs.ForestLemmas.{over-self, over-other, over-parent, over-no_deeper}

-- a mark that is set is there
pub marked-here : (marks : List Bool) (b : ℕ) → b < length marks → IsMarked (set marks b true) b
marked-here marks b below = get_or-set_same marks b true false below

-- the other marks stay
pub marked-other : (marks : List Bool) (b k : ℕ) → k ≢ b → IsMarked marks k → IsMarked (set marks b true) k
marked-other marks b k other marked = get_or-set_other marks b k true false other ∙ marked

pub marked-kept : (marks : List Bool) (b k : ℕ) → b < length marks → IsMarked marks k → IsMarked (set marks b true) k
marked-kept marks b k below marked =
    ⊎_elim
    (λ same. let P : ℕ → Type 0 = λ n. IsMarked (set marks b true) n in subst P (sym same) (marked-here marks b below))
    (λ other. marked-other marks b k other marked)
    (cases_eq k b)

-- what holds when u has come up to a and v to c
pub record IsWalked (nodes : List Node) (u v a c : ℕ) (old now : List Bool) : Type 0 where
  pub one_tree : (node nodes a).root ≡ (node nodes c).root
  pub reached : (node nodes a).root ≢ 0
  pub kept : (b : ℕ) → IsMarked old b → IsMarked now b
  pub passed : (x b : ℕ) → HangsBy nodes x b → Parts nodes x u v → IsMarked now b ⊎ Parts nodes x a c
  pub only : (b : ℕ) → IsMarked now b → IsMarked old b ⊎ ((x : ℕ) × HangsBy nodes x b × Parts nodes x u v)
  pub within : (x : ℕ) → Parts nodes x a c → Parts nodes x u v

-- at the start nothing is passed
pub IsWalked-none : (nodes : List Node) (u v : ℕ) (marks : List Bool) → (node nodes u).root ≡ (node nodes v).root → (node nodes u).root ≢ 0 → IsWalked nodes u v u v marks marks
IsWalked-none nodes u v marks one_tree reached = record {
  one_tree = one_tree;
  reached = reached;
  kept = λ b marked. marked;
  passed = λ x b by parts. inr parts;
  only = λ b marked. inl marked;
  within = λ x parts. parts;
}

-- where they meet everything is passed
pub IsWalked-all : (nodes : List Node) (u v a c : ℕ) (old now : List Bool) → a ≡ c → IsWalked nodes u v a c old now → MarksWay nodes u v old now
IsWalked-all nodes u v a c old now met w = record {
  kept = w.kept;
  way = λ x b by parts. ⊎_elim (λ marked. marked) (λ parted. absurd (parted (ap (is_over nodes x) met))) (w.passed x b by parts);
  only = w.only;
}

-- the two may change places
IsWalked-swap : (nodes : List Node) (u v a c : ℕ) (old now : List Bool) → IsWalked nodes u v a c old now → IsWalked nodes u v c a old now
IsWalked-swap nodes u v a c old now w = record {
  one_tree = sym w.one_tree;
  reached = λ none. w.reached (w.one_tree ∙ none);
  kept = w.kept;
  passed = λ x b by parts. ⊎_elim (λ marked. inl marked) (λ parted. inr (λ e. parted (sym e))) (w.passed x b by parts);
  only = w.only;
  within = λ x parted. w.within x (λ e. parted (sym e));
}

-- the deeper of two atoms that differ hangs
pub deeper_hangs : (bonds : List Edge) (nodes : List Node) (u v a c : ℕ) (old now : List Bool) → IsGrown bonds nodes
    → IsWalked nodes u v a c old now → a ≢ c → (node nodes c).depth ≤ (node nodes a).depth → 0 < (node nodes a).depth
deeper_hangs bonds nodes u v a c old now grown w apart order =
    ⊎_elim
    (λ high. high)
    (λ low.
    let a_top = grown.tops a w.reached (omega arith) in
    let c_top = grown.tops c (λ none. w.reached (w.one_tree ∙ none)) (omega arith) in
    absurd (apart (sym a_top ∙ w.one_tree ∙ c_top)))
    (cases_lt 0 (node nodes a).depth)

-- the deeper one goes up
pub IsWalked-up : (bonds : List Edge) (nodes : List Node) (u v a c : ℕ) (old now : List Bool) → IsGrown bonds nodes
    → ((x b : ℕ) → HangsBy nodes x b → b < length now) → IsWalked nodes u v a c old now → a ≢ c
    → (node nodes c).depth ≤ (node nodes a).depth → IsWalked nodes u v (node nodes a).parent c old
    (set now (node nodes a).via true)
IsWalked-up bonds nodes u v a c old now grown fits w apart order =
    let high = deeper_hangs bonds nodes u v a c old now grown w apart order in
    let h = grown.hang a high in
    let below = fits a (node nodes a).via (high, refl) in
    let c_not = over-no_deeper bonds nodes grown a c apart order in
    record {
      one_tree = h.same_tree ∙ w.one_tree;
      reached = λ none. w.reached (sym h.same_tree ∙ none);
      kept = λ b marked. marked-kept now (node nodes a).via b below (w.kept b marked);
      passed = λ x b by parts.
          ⊎_elim
          (λ marked. inl (marked-kept now (node nodes a).via b below marked))
          (λ parted.
          ⊎_elim
          (λ same.
          let is : (node nodes a).via ≡ b = ap (λ n. (node nodes n).via) (sym same) ∙ by.1 in
          let P : ℕ → Type 0 = λ n. IsMarked (set now (node nodes a).via true) n in
          inl (subst P is (marked-here now (node nodes a).via below)))
          (λ other. inr (λ e. parted (over-other bonds nodes grown x a high other ∙ e)))
          (cases_eq x a))
          (w.passed x b by parts);
      only = λ b marked.
          ⊎_elim
          (λ same.
          inr (a, (high, sym same), w.within a (λ e. true≢false (sym (over-self bonds nodes grown a) ∙ e ∙ c_not))))
          (λ other. w.only b (sym (get_or-set_other now (node nodes a).via b true false other) ∙ marked))
          (cases_eq b (node nodes a).via);
      within = λ x parted.
          ⊎_elim
          (λ same. absurd (parted (ap (λ n. is_over nodes n (node nodes a).parent) same ∙ over-parent bonds nodes grown a high ∙ sym c_not ∙ ap (λ n. is_over nodes n c) (sym same))))
          (λ other. w.within x (λ e. parted (sym (over-other bonds nodes grown x a high other) ∙ e)))
          (cases_eq x a);
    }

-- as the loop has it: the deeper one is given first
module _ (bonds : List Edge) (nodes : List Node) (u v a c deep other : ℕ) (old now : List Bool)
    (grown : IsGrown bonds nodes) (fits : (x b : ℕ) → HangsBy nodes x b → b < length now)
    (w : IsWalked nodes u v a c old now) (apart : a ≢ c) (order : (node nodes other).depth ≤ (node nodes deep).depth)
    (same : ((deep ≡ a) × (other ≡ c)) ⊎ ((deep ≡ c) × (other ≡ a))) where
  pub turned : IsWalked nodes u v deep other old now
  turned =
      ⊎_elim
      (λ e. rw (e.0, e.1) w)
      (λ e. rw (e.0, e.1) (IsWalked-swap nodes u v a c old now w))
      same

  pub still_apart : deep ≢ other
  still_apart met = ⊎_elim (λ e. apart (sym e.0 ∙ met ∙ e.1)) (λ e. apart (sym e.1 ∙ sym met ∙ e.0)) same

  pub deep_hangs : 0 < (node nodes deep).depth
  deep_hangs = deeper_hangs bonds nodes u v deep other old now grown turned still_apart order

  pub IsWalked-more : IsWalked nodes u v (node nodes deep).parent other old (set now (node nodes deep).via true)
  IsWalked-more = IsWalked-up bonds nodes u v deep other old now grown fits turned still_apart order

  -- the depths of the two together fall
  pub depths_fall : (node nodes (node nodes deep).parent).depth + (node nodes other).depth < (node nodes a).depth + (node nodes c).depth
  depths_fall =
      let h = (grown.hang deep deep_hangs).below in
      ⊎_elim
      (λ e. omega (arith, h, ap (λ n. (node nodes n).depth) e.0, ap (λ n. (node nodes n).depth) e.1))
      (λ e. omega (arith, h, ap (λ n. (node nodes n).depth) e.0, ap (λ n. (node nodes n).depth) e.1))
      same

-- ---- the ends of a bond

-- the bond by which an atom hangs is in the list
pub hangs_within : (bonds : List Edge) (nodes : List Node) (x b : ℕ) → IsGrown bonds nodes → HangsBy nodes x b → b < length bonds
hangs_within bonds nodes x b grown by =
    let within = joins_within bonds (node nodes x).via x (node nodes x).parent (grown.hang x by.0).joined in
    omega (arith, within, by.1)

-- the ends of a bond were reached
pub end_reached : (atoms : ℕ) (bonds : List Edge) (nodes : List Node) (x y : ℕ) {b : ℕ} → AreBetween atoms bonds → IsForest atoms bonds nodes → Joins bonds b x y → (node nodes x).root ≢ 0
end_reached atoms bonds nodes x y {b} ends forest j =
    let within = ends b j.edge (joins_within bonds b x y j) in
    let at : get_or bonds b j.edge ≡ j.edge = get_or-from_get bonds b j.edge j.edge j.at in
    let between : IsBetween atoms j.edge = rw at at within in
    ⊎_elim
    (λ e. forest.reached x (omega (arith, between.first, e.0)) (omega (arith, between.first, e.0)))
    (λ e. forest.reached x (omega (arith, between.second, e.1)) (omega (arith, between.second, e.1)))
    j.ends

-- the order of the ends doesn't matter
pub MarksWay-ends : (bonds : List Edge) (nodes : List Node) (b x y u v : ℕ) (old new : List Bool) → Joins bonds b x y → Joins bonds b u v → MarksWay nodes x y old new → MarksWay nodes u v old new
MarksWay-ends bonds nodes b x y u v old new j k m =
    ⊎_elim
    (λ e. rw (← e.0, ← e.1) m)
    (λ e. rw (← e.0, ← e.1)
    (record {
      kept = m.kept;
      way = λ z c by parts. m.way z c by (λ q. parts (sym q));
      only = λ c marked. ⊎_elim (λ was. inl was) (λ is. inr (is.0, is.1, λ q. is.2 (sym q))) (m.only c marked);
    }))
    (same_ends j k)
