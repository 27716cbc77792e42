-- The marks of ring bonds, bond by bond.
use Rattle.std.proofs.Common.{◌≡◌, ◌≢◌, ◌≤◌, ◌<◌, ◌+◌, ℕ, Bool, true, false, List, refl, ap, sym, ◌∙◌, subst, inl, inr, ⊎_elim, arith, length, get_or, set}
use Rattle.std.specs.Prelude.{◌⊎◌}
use Rattle.std.proofs.lemmas.Bool.{cases_eq, cases_lt, cases_Bool, true≢false}
use Rattle.std.proofs.lemmas.List.{get_or-set_other}
use Rattle.mk_model.specs.declared.edge.Edge.{Edge}
use Rattle.mk_model.specs.Edges.{AreBetween, Joins}
use Rattle.mk_model.specs.Rings.{IsRingBond}
use Rattle.mk_marks.specs.Marks.{Marks, IsMarked}
use Rattle.mk_rings.specs.declared.node.Node.{Node}
use Rattle.mk_rings.specs.Forests.{node, IsGrown, IsForest, is_over, HangsBy}
use Rattle.mk_rings.specs.Walks.{Parts, MarksWay}
use Rattle.mk_marks.proofs.WayLemmas.{same_ends}
use Rattle.mk_marks.proofs.JoinLemmas.{joins_ends, joins_within}
use Rattle.mk_rings.proofs.ForestLemmas.{over-other, ring-outside, ring-parted, no-ring}
use Rattle.mk_rings.proofs.WalkLemmas.{marked-here, marked-kept, end_reached}

-- no atom hangs by the bond
pub record IsOutside (nodes : List Node) (b : ℕ) : Type 0 where
  pub none : (x : ℕ) → HangsBy nodes x b → ⊥

-- an atom hangs by the bond, or not
hangs_or_not : (nodes : List Node) (x b : ℕ) → HangsBy nodes x b ⊎ (HangsBy nodes x b → ⊥)
hangs_or_not nodes x b =
    ⊎_elim
    (λ high. ⊎_elim (λ is. inl (high, is)) (λ other. inr (λ by. other by.1)) (cases_eq (node nodes x).via b))
    (λ low. inr (λ by. absurd (omega (arith, by.0))))
    (cases_lt 0 (node nodes x).depth)

module _ (bonds : List Edge) (nodes : List Node) (grown : IsGrown bonds nodes) where
  -- only the ends of a bond can hang by it
  pub IsOutside-ends : (b u v : ℕ) → Joins bonds b u v → (HangsBy nodes u b → ⊥) → (HangsBy nodes v b → ⊥) → IsOutside nodes b
  IsOutside-ends b u v joined not_u not_v = record {
    none = λ x by.
        let P : ℕ → Type 0 = λ n. Joins bonds n x (node nodes x).parent in
        let h : Joins bonds b x (node nodes x).parent = subst P by.1 (grown.hang x by.0).joined in
        let Q : ℕ → Type 0 = λ n. HangsBy nodes n b in
        ⊎_elim (λ e. not_u (subst Q e.0 by)) (λ e. not_v (subst Q e.0 by)) (same_ends h joined);
  }

  -- some atom hangs by the bond, or none does
  inside_or_outside : (b u v : ℕ) → Joins bonds b u v → ((x : ℕ) × HangsBy nodes x b) ⊎ IsOutside nodes b
  inside_or_outside b u v joined =
      ⊎_elim
      (λ u_by. inl (u, u_by))
      (λ u_not. ⊎_elim (λ v_by. inl (v, v_by)) (λ v_not. inr (IsOutside-ends b u v joined u_not v_not)) (hangs_or_not nodes v b))
      (hangs_or_not nodes u b)

-- what holds when the first bonds are looked at
pub record IsMarkedUpTo (bonds : List Edge) (nodes : List Node) (n : ℕ) (marks : List Bool) : Type 0 where
  pub sound : (b : ℕ) → IsMarked marks b → IsRingBond bonds b
  pub outside : (b : ℕ) → b < n → IsOutside nodes b → IsMarked marks b
  pub parted : (b u v x t : ℕ) → b < n → Joins bonds b u v → IsOutside nodes b → HangsBy nodes x t → Parts nodes x u v → IsMarked marks t

-- a bond by which an atom hangs is passed over
pub IsMarkedUpTo-inside : (bonds : List Edge) (nodes : List Node) (n x : ℕ) (marks : List Bool) → HangsBy nodes x n → IsMarkedUpTo bonds nodes n marks → IsMarkedUpTo bonds nodes (n + 1) marks
IsMarkedUpTo-inside bonds nodes n x marks by m = record {
  sound = m.sound;
  outside = λ b below out.
      ⊎_elim
      (λ earlier. m.outside b earlier out)
      (λ last. let is : n ≡ b = omega arith in let P : ℕ → Type 0 = λ k. HangsBy nodes x k in absurd (out.none x (subst P is by)))
      (cases_lt b n);
  parted = λ b u v y t below joined out y_by parts.
      ⊎_elim
      (λ earlier. m.parted b u v y t earlier joined out y_by parts)
      (λ last. let is : n ≡ b = omega arith in let P : ℕ → Type 0 = λ k. HangsBy nodes x k in absurd (out.none x (subst P is by)))
      (cases_lt b n);
}

-- a bond by which none hangs is marked with the way between its ends
pub IsMarkedUpTo-outside : (atoms : ℕ) (bonds : List Edge) (nodes : List Node) (n : ℕ) (marks later : List Bool)
    → AreBetween atoms bonds → IsForest atoms bonds nodes → n < length bonds → length marks ≡ length bonds
    → IsOutside nodes n → ((u v : ℕ) → Joins bonds n u v → MarksWay nodes u v (set marks n true) later)
    → IsMarkedUpTo bonds nodes n marks → IsMarkedUpTo bonds nodes (n + 1) later
IsMarkedUpTo-outside atoms bonds nodes n marks later ends forest below size out ways m =
    let d : Edge = record { first = 0; second = 0; kind = 0 } in
    let edge = get_or bonds n d in
    let here = joins_ends bonds n d below in
    let way = ways edge.first edge.second here in
    let in_marks : n < length marks = omega arith in
    record {
      sound = λ b marked.
          ⊎_elim
          (λ old. ⊎_elim
          (λ same.
          let P : ℕ → Type 0 = λ k. IsRingBond bonds k in
          subst P (sym same) (ring_here edge.first edge.second here))
          (λ other. m.sound b (sym (get_or-set_other marks n b true false other) ∙ old))
          (cases_eq b n))
          (λ new.
          let P : ℕ → Type 0 = λ k. IsRingBond bonds k in
          subst P new.1.1
          (ring-parted bonds nodes forest.grown new.0 n edge.first edge.second new.1.0 here (λ same. out.none new.0 (new.1.0, sym same)) (forest.one_tree n edge.first edge.second here) new.2))
          (way.only b marked);
      outside = λ b b_below b_out.
          ⊎_elim
          (λ earlier. way.kept b (marked-kept marks n b in_marks (m.outside b earlier b_out)))
          (λ last.
          let is : n ≡ b = omega arith in
          let P : ℕ → Type 0 = λ k. IsMarked later k in
          subst P is (way.kept n (marked-here marks n in_marks)))
          (cases_lt b n);
      parted = λ b u v x t b_below joined b_out by parts.
          ⊎_elim
          (λ earlier. way.kept t (marked-kept marks n t in_marks (m.parted b u v x t earlier joined b_out by parts)))
          (λ last.
          let is : b ≡ n = omega arith in
          let P : ℕ → Type 0 = λ k. Joins bonds k u v in
          (ways u v (subst P is joined)).way x t by parts)
          (cases_lt b n);
    }
  where
    ring_here : (u v : ℕ) → Joins bonds n u v → IsRingBond bonds n
    ring_here u v joined = ring-outside bonds nodes forest.grown n u v joined (end_reached atoms bonds nodes u v ends forest joined) (forest.one_tree n u v joined) out.none

-- with every bond looked at, the marks are those of the ring bonds
pub Marks-all : (atoms : ℕ) (bonds : List Edge) (nodes : List Node) (n : ℕ) (marks : List Bool)
    → IsForest atoms bonds nodes → length bonds ≤ n → length marks ≡ length bonds → IsMarkedUpTo bonds nodes n marks
    → Marks (IsRingBond bonds) bonds marks
Marks-all atoms bonds nodes n marks forest all size m = record {
  size = size;
  each = λ b below. (λ marked. m.sound b marked, λ ring. marked_ring b below ring);
}
  where
    stays : (x b : ℕ) → HangsBy nodes x b → (IsMarked marks b → ⊥) → (k u v : ℕ) → Joins bonds k u v → k ≢ (node nodes x).via → is_over nodes x u ≡ is_over nodes x v
    stays x b by not k u v joined other =
        ⊎_elim
        (λ inside.
        let y = inside.0 in
        let y_by = inside.1 in
        let apart : x ≢ y = λ same. other (sym y_by.1 ∙ ap (λ z. (node nodes z).via) (sym same)) in
        let P : ℕ → Type 0 = λ z. Joins bonds z y (node nodes y).parent in
        let y_joined : Joins bonds k y (node nodes y).parent = subst P y_by.1 (forest.grown.hang y y_by.0).joined in
        let up = over-other bonds nodes forest.grown x y y_by.0 apart in
        ⊎_elim
        (λ e. ap (is_over nodes x) (sym e.0) ∙ up ∙ ap (is_over nodes x) e.1)
        (λ e. ap (is_over nodes x) (sym e.1) ∙ sym up ∙ ap (is_over nodes x) e.0)
        (same_ends y_joined joined))
        (λ out. same_if_not (is_over nodes x u) (is_over nodes x v)
        (λ parts. not (m.parted k u v x b (omega (arith, joins_within bonds k u v joined)) joined out by parts)))
        (inside_or_outside bonds nodes forest.grown k u v joined)
      where
        same_if_not : (p q : Bool) → (p ≢ q → ⊥) → p ≡ q
        same_if_not true true h = refl
        same_if_not false false h = refl
        same_if_not true false h = absurd (h true≢false)
        same_if_not false true h = absurd (h (λ e. true≢false (sym e)))

    not_unmarked : (b : ℕ) → b < length bonds → IsRingBond bonds b → (IsMarked marks b → ⊥) → ⊥
    not_unmarked b below ring not =
        ⊎_elim
        (λ inside.
        let x = inside.0 in
        let by = inside.1 in
        let P : ℕ → Type 0 = λ z. IsRingBond bonds z in
        no-ring bonds nodes forest.grown x by.0 (stays x b by not) (subst P (sym by.1) ring))
        (λ out. not (m.outside b (omega arith) out))
        (inside_or_outside bonds nodes forest.grown b ring.edge.first ring.edge.second (record { edge = ring.edge; at = ring.at; ends = inl (refl, refl) }))

    marked_ring : (b : ℕ) → b < length bonds → IsRingBond bonds b → IsMarked marks b
    marked_ring b below ring =
        ⊎_elim (λ marked. marked) (λ unmarked. absurd (not_unmarked b below ring (λ marked. true≢false (sym marked ∙ unmarked)))) (cases_Bool (get_or marks b false))
