-- The search of a block as a whole.
--     reached-first      the link alone is reached
--     done-more          one atom more is done
--     plain_block        where all that was reached is done, the block holds nothing else
--     whole_block        where all that was reached is followed, it is the block
--     numbers_are        the numbers of an atom's bonds
use Rattle.std.proofs.Common.{◌≡◌, ◌≤◌, ◌<◌, ◌+◌, ◌-◌, ℕ, Bool, true, false, List, [], ◌∷◌, refl, ap, sym, subst, ◌∙◌, length, get_or, replicate, set, arith, ⊎_elim}
use Rattle.std.specs.Prelude.{IsTrue, slice_get, Some}
use Rattle.std.proofs.lemmas.Bool.{cases_eq, cases_lt, true≢false}
use Rattle.std.proofs.lemmas.List.{get_or-replicate, get_or-set_same, get_or-set_other, get_or_past, length-map, length-replicate, length-set}
use Rattle.mk_model.specs.declared.template.QueryBond.{QueryBond}
use Rattle.mk_model.specs.Edges.{rows_of}
use Rattle.mk_model.specs.Templates.{hang_together, query_edge, query_edges}
use Rattle.mk_model.proofs.ForCallers.{hangs, hangs_tested, hangs_same, hangs_closed, GoesAlong}
use Rattle.mk_demands.proofs.ForCallers.{numbers_are, numbers-within}
use Rattle.mk_query.specs.declared.atom_marks.Standing.{Standing}
use Rattle.mk_query.specs.declared.blocks.LinkEnds.{LinkEnds}
use Rattle.mk_query.specs.BlockSearch.{AreNumbersOf, HasPlainBlock, IsBlock, IsLonger, IsReached, KeepReached, LeadsOn, MayHold, is_reached, others}

-- ---- the link alone

pub reached-first : (bonds : List QueryBond) (link : LinkEnds) (n : ℕ) (none : List Bool) → none ≡ replicate (n + 1) false → 1 ≤ link.atom → link.atom ≤ n
    → IsReached bonds link (set none link.atom true) (link.atom ∷ [])
reached-first bonds link n none nothing least most =
    let size : length none ≡ n + 1 = ap (λ (l : List Bool). length l) nothing ∙ length-replicate (n + 1) false in
    let here : is_reached (set none link.atom true) link.atom ≡ true = get_or-set_same none link.atom true false (omega (arith, size)) in
    record {
      start = here;
      least = λ k below. at_first k below (λ (y : ℕ). 1 ≤ y) least;
      most = λ k below. at_first k below (λ (y : ℕ). y < length (set none link.atom true)) (omega (arith, size, length-set none link.atom true));
      hang = λ k below. at_first k below (λ (y : ℕ). IsTrue (hang_together (others link bonds) link.atom y))
          (hangs_tested (others link bonds) link.atom link.atom (hangs_same (others link bonds) link.atom));
      listed = λ y is.
          ⊎_elim
          (λ same. (0, omega arith, sym same))
          (λ other. absurd (true≢false (sym is ∙ get_or-set_other none link.atom y true false other ∙ not_yet y nothing)))
          (cases_eq y link.atom);
    }
  where
    at_first : (k : ℕ) → k < length (link.atom ∷ []) → (P : ℕ → Type 0) → P link.atom → P (get_or (link.atom ∷ []) k 0)
    at_first k below P p = (let first : 0 ≡ k = omega (arith, below) in subst (λ (j : ℕ). P (get_or (link.atom ∷ []) j 0)) first p)

    not_yet : (y : ℕ) → none ≡ replicate (n + 1) false → get_or none y false ≡ false
    not_yet y nothing =
        ap (λ (l : List Bool). get_or l y false) nothing
        ∙ ⊎_elim
        (λ inside. get_or-replicate (n + 1) y false false inside)
        (λ past. get_or_past (replicate (n + 1) false) y false (omega (arith, past, length-replicate (n + 1) false)))
        (cases_lt y (n + 1))

-- ---- one atom after the other

-- a block may hold the atom, and its other bonds lead to atoms that were reached
pub record IsDone (bonds : List QueryBond) (standing : Standing) (link : LinkEnds) (reached : List Bool) (y : ℕ) : Type 0 where
  pub may : MayHold standing link y
  pub leads : LeadsOn bonds link reached y

-- the first i of the queue are done
abbrev pub AreDone : List QueryBond → Standing → LinkEnds → List Bool → List ℕ → ℕ → Type 0
AreDone bonds standing link reached queue i = (k : ℕ) → k < i → IsDone bonds standing link reached (get_or queue k 0)

pub done-none : (bonds : List QueryBond) (standing : Standing) (link : LinkEnds) (reached : List Bool) (queue : List ℕ) → AreDone bonds standing link reached queue 0
done-none bonds standing link reached queue k below = absurd (omega (arith, below))

pub done-more : (bonds : List QueryBond) (standing : Standing) (link : LinkEnds) (old new : List Bool) (before after : List ℕ) (i : ℕ) → i < length before → KeepReached old new → IsLonger before after
    → MayHold standing link (get_or before i 0) → LeadsOn bonds link new (get_or before i 0) → AreDone bonds standing link old before i → AreDone bonds standing link new after (i + 1)
done-more bonds standing link old new before after i inside keep longer may leads done k below =
    let same : get_or after k 0 ≡ get_or before k 0 = longer.same k (omega (arith, below, inside)) in
    subst (IsDone bonds standing link new) (sym same)
    (⊎_elim
    (λ earlier.
    let was = done k earlier in
    record {
      may = was.may;
      leads = λ bond at. (let led = was.leads bond at in record { forth = λ e. keep bond.second (led.forth e); back = λ e. keep bond.first (led.back e) });
    })
    (λ here.
    let at : i ≡ k = omega (arith, here, below) in
    subst (λ (j : ℕ). IsDone bonds standing link new (get_or before j 0)) at (record { may = may; leads = leads }))
    (cases_lt k i))

-- where all are done, the block holds nothing else
pub plain_block : (bonds : List QueryBond) (standing : Standing) (link : LinkEnds) (reached : List Bool) (queue : List ℕ) (i : ℕ) → length queue ≤ i → IsReached bonds link reached queue
    → AreDone bonds standing link reached queue i → HasPlainBlock bonds standing link
plain_block bonds standing link reached queue i all are done y is =
    let P : ℕ → Type 0 = λ x. is_reached reached x ≡ true in
    (done_at y (hangs_closed P (others link bonds) link.atom y along (hangs (others link bonds) link.atom y is) are.start)).may
  where
    done_at : (x : ℕ) → is_reached reached x ≡ true → IsDone bonds standing link reached x
    done_at x is = (let found = are.listed x is in subst (IsDone bonds standing link reached) found.2 (done found.0 (omega (arith, found.1, all))))

    along : GoesAlong (λ (x : ℕ). is_reached reached x ≡ true) (others link bonds)
    along = record {
      forth = λ bond at here. ((done_at bond.first here).leads bond at).forth refl;
      back = λ bond at here. ((done_at bond.second here).leads bond at).back refl;
    }

-- ---- the block alone

-- the other bonds of the first i of the queue lead to atoms that were reached
abbrev pub AreFollowed : List QueryBond → LinkEnds → List Bool → List ℕ → ℕ → Type 0
AreFollowed bonds link reached queue i = (k : ℕ) → k < i → LeadsOn bonds link reached (get_or queue k 0)

pub followed-none : (bonds : List QueryBond) (link : LinkEnds) (reached : List Bool) (queue : List ℕ) → AreFollowed bonds link reached queue 0
followed-none bonds link reached queue k below = absurd (omega (arith, below))

pub followed-more : (bonds : List QueryBond) (link : LinkEnds) (old new : List Bool) (before after : List ℕ) (i : ℕ) → i < length before → KeepReached old new → IsLonger before after
    → LeadsOn bonds link new (get_or before i 0) → AreFollowed bonds link old before i → AreFollowed bonds link new after (i + 1)
followed-more bonds link old new before after i inside keep longer leads followed k below =
    let same : get_or after k 0 ≡ get_or before k 0 = longer.same k (omega (arith, below, inside)) in
    subst (LeadsOn bonds link new) (sym same)
    (⊎_elim
    (λ earlier. λ bond at. (let led = followed k earlier bond at in record { forth = λ e. keep bond.second (led.forth e); back = λ e. keep bond.first (led.back e) }))
    (λ here.
    let at : i ≡ k = omega (arith, here, below) in
    subst (λ (j : ℕ). LeadsOn bonds link new (get_or before j 0)) at leads)
    (cases_lt k i))

-- where all are followed, what was reached is the block
pub whole_block : (bonds : List QueryBond) (link : LinkEnds) (reached : List Bool) (queue : List ℕ) (i : ℕ) → length queue ≤ i → IsReached bonds link reached queue
    → AreFollowed bonds link reached queue i → IsBlock bonds link reached
whole_block bonds link reached queue i all are followed y = by_tests (get_or reached y false) (hang_together (others link bonds) link.atom y) refl refl
  where
    led : (x : ℕ) → is_reached reached x ≡ true → LeadsOn bonds link reached x
    led x is = (let found = are.listed x is in subst (LeadsOn bonds link reached) found.2 (followed found.0 (omega (arith, found.1, all))))

    along : GoesAlong (λ (x : ℕ). is_reached reached x ≡ true) (others link bonds)
    along = record { forth = λ bond at here. (led bond.first here bond at).forth refl; back = λ bond at here. (led bond.second here bond at).back refl }

    by_tests : (a b : Bool) → get_or reached y false ≡ a → hang_together (others link bonds) link.atom y ≡ b → get_or reached y false ≡ hang_together (others link bonds) link.atom y
    by_tests true true e e' = e ∙ sym e'
    by_tests false false e e' = e ∙ sym e'
    by_tests true false e e' =
        let found = are.listed y e in
        let hung : hang_together (others link bonds) link.atom y ≡ true = subst (λ (x : ℕ). hang_together (others link bonds) link.atom x ≡ true) found.2 (are.hang found.0 found.1) in
        absurd (true≢false (sym hung ∙ e'))
    by_tests false true e e' =
        let P : ℕ → Type 0 = λ x. is_reached reached x ≡ true in
        absurd (true≢false (sym (hangs_closed P (others link bonds) link.atom y along (hangs (others link bonds) link.atom y e') are.start) ∙ e))

-- ---- numbers

pub numbers_of : (bonds : List QueryBond) (near : List (List ℕ)) (y : ℕ) (numbers : List ℕ)
    → near ≡ rows_of (length near) (query_edges bonds) → 1 ≤ y → y ≤ length near → slice_get near (y - 1) ≡ Some numbers
    → AreNumbersOf bonds y numbers
numbers_of bonds near y numbers rows least most got =
    let are = numbers_are near (query_edges bonds) y numbers rows least most got in
    record {
      are = are;
      within = λ k d below. (let range = numbers-within (query_edges bonds) y numbers are k d below in (range.0, omega (arith, range.1, length-map bonds query_edge)));
    }
