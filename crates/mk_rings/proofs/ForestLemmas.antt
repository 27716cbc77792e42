-- Ring bonds by a spanning forest.
--     ring-outside     a bond by which no atom hangs is a ring bond
--     ring-parted      a bond by which an atom hangs is one where another bond leads past it
--     no-ring          and only there
use Rattle.std.proofs.Common.{◌≡◌, ◌≢◌, ◌≤◌, ◌<◌, ℕ, zero, suc, Bool, true, false, eqb, List, refl, ap, sym, ◌∙◌, subst, inl, inr, ⊎_elim, arith}
use Rattle.std.specs.Prelude.{◌||◌, ◌⊎◌}
use Rattle.std.proofs.lemmas.Bool.{cases_eq, cases_Bool, eq-eqb, ne_eqb, eqb-true, or_cases, true≢false}
use Rattle.mk_model.specs.declared.edge.Edge.{Edge}
use Rattle.mk_model.specs.Edges.{Joins}
use Rattle.mk_model.specs.Rings.{IsRingBond}
use Rattle.mk_rings.specs.declared.node.Node.{Node}
use Rattle.mk_rings.specs.Forests.{node, IsGrown, is_among, is_over, HangsBy}
use Rattle.mk_rings.specs.Walks.{Parts}
use Rattle.mk_marks.proofs.WayLemmas.{Linked, joins_back, same_ends, linked_here, linked_by, linked_on, linked_back, IsRingBond-linked, same_along}

module _ (bonds : List Edge) (nodes : List Node) (grown : IsGrown bonds nodes) where
  -- ---- who stands over whom

  -- an atom stands over itself
  pub over-self : (a : ℕ) → is_over nodes a a ≡ true
  over-self a = among-self (node nodes a).depth
    where
      among-self : (d : ℕ) → is_among nodes d a a ≡ true
      among-self zero = eq-eqb a a refl
      among-self (suc d) = rw (eq-eqb a a refl) refl

  -- over an atom that hangs stand those over its parent
  pub over-hangs : (x a : ℕ) → 0 < (node nodes a).depth → is_over nodes x a ≡ (eqb x a || is_over nodes x (node nodes a).parent)
  over-hangs x a high =
      let depth : (node nodes a).depth ≡ suc (node nodes (node nodes a).parent).depth = omega (arith, (grown.hang a high).below) in
      rw depth refl

  -- over a top stands itself alone
  over-top : (x a : ℕ) → (node nodes a).depth ≡ 0 → is_over nodes x a ≡ eqb x a
  over-top x a low = rw low refl

  -- over another atom than itself, over its parent
  pub over-other : (x a : ℕ) → 0 < (node nodes a).depth → x ≢ a → is_over nodes x a ≡ is_over nodes x (node nodes a).parent
  over-other x a high other = over-hangs x a high ∙ ap (λ b. b || is_over nodes x (node nodes a).parent) (ne_eqb x a other)

  -- whoever stands over another is less deep
  pub over-less_deep : (d x a : ℕ) → (node nodes a).depth ≡ d → is_over nodes x a ≡ true → (x ≡ a) ⊎ ((node nodes x).depth < (node nodes a).depth)
  over-less_deep zero x a depth over = inl (eqb-true x a (sym (over-top x a depth) ∙ over))
  over-less_deep (suc d) x a depth over =
      let high : 0 < (node nodes a).depth = omega arith in
      let up = (grown.hang a high).below in
      ⊎_elim
      (λ same. inl (eqb-true x a same))
      (λ higher.
      ⊎_elim
      (λ is. inr (omega (arith, up, ap (λ n. (node nodes n).depth) is)))
      (λ less. inr (omega (arith, up, less)))
      (over-less_deep d x (node nodes a).parent (omega (arith, up)) higher))
      (or_cases (eqb x a) (is_over nodes x (node nodes a).parent) (sym (over-hangs x a high) ∙ over))

  -- an atom doesn't stand over its parent
  pub over-parent : (a : ℕ) → 0 < (node nodes a).depth → is_over nodes a (node nodes a).parent ≡ false
  over-parent a high =
      let up = (grown.hang a high).below in
      ⊎_elim
      (λ over. ⊎_elim
      (λ is. absurd (omega (arith, up, ap (λ n. (node nodes n).depth) is)))
      (λ less. absurd (omega (arith, up, less)))
      (over-less_deep (node nodes (node nodes a).parent).depth a (node nodes a).parent refl over))
      (λ not. not)
      (cases_Bool (is_over nodes a (node nodes a).parent))

  -- nor over another atom that is no deeper
  pub over-no_deeper : (x a : ℕ) → x ≢ a → (node nodes a).depth ≤ (node nodes x).depth → is_over nodes x a ≡ false
  over-no_deeper x a other shallow =
      ⊎_elim
      (λ over. ⊎_elim (λ is. absurd (other is)) (λ less. absurd (omega arith)) (over-less_deep (node nodes a).depth x a refl over))
      (λ not. not)
      (cases_Bool (is_over nodes x a))

  -- ---- the bonds of the forest

  -- two atoms don't hang by one bond
  pub one_by_one : (x a : ℕ) → 0 < (node nodes x).depth → 0 < (node nodes a).depth → (node nodes x).via ≡ (node nodes a).via → x ≡ a
  one_by_one x a high_x high_a same =
      let hx = grown.hang x high_x in
      let ha = grown.hang a high_a in
      let P : ℕ → Type 0 = λ n. Joins bonds n x (node nodes x).parent in
      ⊎_elim
      (λ e. e.0)
      (λ e.
      let up : (node nodes (node nodes a).parent).depth ≡ (node nodes x).depth = ap (λ n. (node nodes n).depth) (sym e.0) in
      let down : (node nodes (node nodes x).parent).depth ≡ (node nodes a).depth = ap (λ n. (node nodes n).depth) e.1 in
      absurd (omega (arith, hx.below, ha.below, up, down)))
      (same_ends (subst P same hx.joined) ha.joined)

  -- ---- ways in the forest

  -- an atom is linked with its parent, where its bond isn't the one to avoid
  up_one : (t a : ℕ) → 0 < (node nodes a).depth → (node nodes a).via ≢ t → Linked bonds t a (node nodes a).parent
  up_one t a high other = linked_by t (grown.hang a high).joined other

  -- with the top of its tree, where no atom on the way hangs by the bond to avoid
  to_top : (d t a : ℕ) → (node nodes a).depth ≡ d → (node nodes a).root ≢ 0
      → ((x : ℕ) → 0 < (node nodes x).depth → is_over nodes x a ≡ true → (node nodes x).via ≢ t)
      → Linked bonds t a (node nodes a).root
  to_top zero t a depth reached free =
      let P : ℕ → Type 0 = λ n. Linked bonds t a n in
      subst P (sym (grown.tops a reached depth)) (linked_here bonds t a)
  to_top (suc d) t a depth reached free =
      let high : 0 < (node nodes a).depth = omega arith in
      let h = grown.hang a high in
      let P : ℕ → Type 0 = λ n. Linked bonds t (node nodes a).parent n in
      linked_on (up_one t a high (free a high (over-self a)))
      (subst P h.same_tree
      (to_top d t (node nodes a).parent (omega (arith, h.below)) (λ none. reached (sym h.same_tree ∙ none))
      (λ x x_high over. free x x_high (over-hangs x a high ∙ or_right (eqb x a) (is_over nodes x (node nodes a).parent) over))))
    where
      or_right : (b c : Bool) → c ≡ true → (b || c) ≡ true
      or_right true c e = refl
      or_right false c e = e

  -- with an atom above it, where that hangs by the bond to avoid
  to_above : (d t x a : ℕ) → (node nodes a).depth ≡ d → is_over nodes x a ≡ true
      → ((y : ℕ) → 0 < (node nodes y).depth → (node nodes y).via ≡ t → y ≡ x) → Linked bonds t a x
      × ((node nodes a).root ≡ (node nodes x).root)
  to_above zero t x a depth over alone =
      let is : x ≡ a = eqb-true x a (sym (over-top x a depth) ∙ over) in
      let P : ℕ → Type 0 = λ n. Linked bonds t n x in
      (subst P is (linked_here bonds t x), ap (λ n. (node nodes n).root) (sym is))
  to_above (suc d) t x a depth over alone =
      let high : 0 < (node nodes a).depth = omega arith in
      let h = grown.hang a high in
      ⊎_elim
      (λ is.
      let P : ℕ → Type 0 = λ n. Linked bonds t n x in
      (subst P is (linked_here bonds t x), ap (λ n. (node nodes n).root) (sym is)))
      (λ other.
      let higher = to_above d t x (node nodes a).parent (omega (arith, h.below)) (sym (over-other x a high other) ∙ over) alone in
      (linked_on (up_one t a high (λ by. other (sym (alone a high by)))) higher.0, sym h.same_tree ∙ higher.1))
      (cases_eq x a)

  -- ---- ring bonds

  -- a bond by which no atom hangs, between atoms of one tree, is a ring bond
  pub ring-outside : (b u v : ℕ) → Joins bonds b u v → (node nodes u).root ≢ 0 → (node nodes u).root ≡ (node nodes v).root → ((x : ℕ) → HangsBy nodes x b → ⊥) → IsRingBond bonds b
  ring-outside b u v joined reached one_tree none =
      let up = to_top (node nodes u).depth b u refl reached (λ x high _ by. none x (high, by)) in
      let down = to_top (node nodes v).depth b v refl (λ zero_root. reached (one_tree ∙ zero_root)) (λ x high _ by. none x (high, by)) in
      let P : ℕ → Type 0 = λ n. Linked bonds b u n in
      IsRingBond-linked joined (linked_on (subst P one_tree up) (linked_back down))

  -- the bond by which x hangs is a ring bond where another bond leads from below x past it
  below_to_past : (x b u v : ℕ) → 0 < (node nodes x).depth → Joins bonds b u v → b ≢ (node nodes x).via
      → (node nodes u).root ≡ (node nodes v).root → is_over nodes x u ≡ true → is_over nodes x v ≡ false
      → IsRingBond bonds (node nodes x).via
  below_to_past x b u v high joined other one_tree over past =
      let h = grown.hang x high in
      let alone : (y : ℕ) → 0 < (node nodes y).depth → (node nodes y).via ≡ (node nodes x).via → y ≡ x = λ y y_high same. one_by_one y x y_high high same in
      let below = to_above (node nodes u).depth (node nodes x).via x u refl over alone in
      let v_reached : (node nodes v).root ≢ 0 = λ none. h.reached (sym below.1 ∙ one_tree ∙ none) in
      let v_free : (y : ℕ) → 0 < (node nodes y).depth → is_over nodes y v ≡ true → (node nodes y).via ≢ (node nodes x).via =
      λ y y_high y_over same.
      let P : ℕ → Type 0 = λ n. is_over nodes n v ≡ true in
      true≢false (sym (subst P (alone y y_high same) y_over) ∙ past) in
      let p_free : (y : ℕ) → 0 < (node nodes y).depth → is_over nodes y (node nodes x).parent ≡ true → (node nodes y).via ≢ (node nodes x).via =
      λ y y_high y_over same.
      let P : ℕ → Type 0 = λ n. is_over nodes n (node nodes x).parent ≡ true in
      true≢false (sym (subst P (alone y y_high same) y_over) ∙ over-parent x high) in
      let v_up = to_top (node nodes v).depth (node nodes x).via v refl v_reached v_free in
      let p_up = to_top (node nodes (node nodes x).parent).depth (node nodes x).via (node nodes x).parent refl (λ none. h.reached (sym h.same_tree ∙ none)) p_free in
      let tops : (node nodes v).root ≡ (node nodes (node nodes x).parent).root = sym one_tree ∙ below.1 ∙ sym h.same_tree in
      let P : ℕ → Type 0 = λ n. Linked bonds (node nodes x).via v n in
      IsRingBond-linked h.joined
      (linked_on (linked_back below.0) (linked_on (linked_by (node nodes x).via joined other) (linked_on (subst P tops v_up) (linked_back p_up))))

  -- the bond by which x hangs is a ring bond where another bond has one end below x and one elsewhere
  pub ring-parted : (x b u v : ℕ) → 0 < (node nodes x).depth → Joins bonds b u v → b ≢ (node nodes x).via
      → (node nodes u).root ≡ (node nodes v).root → Parts nodes x u v → IsRingBond bonds (node nodes x).via
  ring-parted x b u v high joined other one_tree parts =
      ⊎_elim
      (λ u_over. ⊎_elim
      (λ v_over. absurd (parts (u_over ∙ sym v_over)))
      (λ v_past. below_to_past x b u v high joined other one_tree u_over v_past)
      (cases_Bool (is_over nodes x v)))
      (λ u_past. ⊎_elim
      (λ v_over. below_to_past x b v u high (joins_back joined) other (sym one_tree) v_over u_past)
      (λ v_past. absurd (parts (u_past ∙ sym v_past)))
      (cases_Bool (is_over nodes x v)))
      (cases_Bool (is_over nodes x u))

  -- and it is none where no other bond has
  pub no-ring : (x : ℕ) → 0 < (node nodes x).depth → ((b u v : ℕ) → Joins bonds b u v → b ≢ (node nodes x).via → is_over nodes x u ≡ is_over nodes x v) → IsRingBond bonds (node nodes x).via → ⊥
  no-ring x high stays ring =
      let h = grown.hang x high in
      let along = same_along bonds (node nodes x).via (is_over nodes x) stays ring.edge.first ring.edge.second ring.way ring.around in
      let j : Joins bonds (node nodes x).via ring.edge.first ring.edge.second = record { edge = ring.edge; at = ring.at; ends = inl (refl, refl) } in
      let ends = same_ends h.joined j in
      let differ : is_over nodes x x ≢ is_over nodes x (node nodes x).parent = λ e. true≢false (sym (over-self x) ∙ e ∙ over-parent x high) in
      ⊎_elim
      (λ e. differ (ap (is_over nodes x) e.0 ∙ along ∙ ap (is_over nodes x) (sym e.1)))
      (λ e. differ (ap (is_over nodes x) e.0 ∙ sym along ∙ ap (is_over nodes x) (sym e.1)))
      ends
