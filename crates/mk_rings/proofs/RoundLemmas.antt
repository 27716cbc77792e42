-- Rounds: what one round keeps, and what holds when a round adds nothing.
use Rattle.std.proofs.Common.{◌≡◌, ◌≤◌, ◌<◌, ◌-◌, ◌%◌, ℕ, Bool, true, false, eqb, List, [], ◌∷◌, Some, refl, ap, sym, ◌∙◌, subst, inl, inr, ⊎_elim, arith, length, get_or, set}
use Rattle.std.specs.Prelude.{◌⊎◌, ◌↔◌, IsTrue, slice_get}
use Rattle.std.proofs.lemmas.Bool.{cases_eq, cases_lt, true≢false, eqb-true, eq-eqb}
use Rattle.std.proofs.lemmas.List.{get_or-set_other, get_or_past}
use Rattle.mk_model.specs.declared.edge.Edge.{Edge}
use Rattle.mk_model.specs.Edges.{AreBetween, Joins, HasKind, numbers_at}
use Rattle.mk_marks.specs.Marks.{IsMarked}
use Rattle.mk_marks.specs.SixRings.{CanClose, ClosesRing, set_of}
use Rattle.mk_rings.specs.Reach.{IsReached, MaySkip}
use Rattle.mk_rings.specs.Rounds.{Follows, Grows, IsDone, Spreads}
use Rattle.mk_marks.proofs.ClosedLemmas.{closed_ring, nth_round, unmarked-set}
use Rattle.mk_marks.proofs.SixLemmas.{IsRound, closed_round}
use Rattle.mk_marks.proofs.JoinLemmas.{get_or-from_get, slice_get-at}
use Rattle.mk_rings.proofs.ReachLemmas.{MaySkip-reached, each_bond}
use Rattle.mk_rings.proofs.WalkLemmas.{marked-kept}

-- ---- the bonds of type 4

-- marks that are those of type 4
pub marks-four : (bonds : List Edge) (marks : List Bool) (n : ℕ) → length bonds ≤ n
    → ((k : ℕ) (d : Edge) → k < n → get_or marks k false ≡ eqb (get_or bonds k d).kind 4) → (b : ℕ) → b < length bonds
    → IsMarked marks b ↔ HasKind bonds b 4
marks-four bonds marks n all each b below =
    let d : Edge = record { first = 0; second = 0; kind = 0 } in (
      λ marked. record { edge = get_or bonds b d; at = slice_get-at bonds b d below; is = eqb-true (get_or bonds b d).kind 4 (sym (each b d (omega arith)) ∙ marked) },
      λ kind.
          let at : get_or bonds b d ≡ kind.edge = get_or-from_get bonds b d kind.edge kind.at in
          each b d (omega arith) ∙ eq-eqb (get_or bonds b d).kind 4 (ap (λ e. e.kind) at ∙ kind.is),
    )

-- a mark is one of a bond
pub marked_within : (marks : List Bool) (b : ℕ) → IsMarked marks b → b < length marks
marked_within marks b marked =
    ⊎_elim (λ below. below) (λ past. absurd (true≢false (sym marked ∙ get_or_past marks b false past))) (cases_lt b (length marks))

-- ---- the search from a bond

-- where the stamps tell that no path from the bond can be closed it closes no six-ring
pub closes_none : (bonds : List Edge) (s : ℕ → Bool) (b : ℕ) (edge d : Edge) (two three : List ℕ) (stamp : ℕ)
    → slice_get bonds b ≡ Some edge → 1 ≤ (get_or bonds b d).kind → (get_or bonds b d).kind ≤ 2
    → IsReached bonds s edge.first (3 - edge.kind) two three stamp
    → (MaySkip bonds s (get_or bonds b d).first two three stamp (3 - (get_or bonds b d).kind) 4
    → CanClose bonds s (get_or bonds b d).first ((get_or bonds b d).second ∷ (get_or bonds b d).first ∷ [])
    (get_or bonds b d).second (3 - (get_or bonds b d).kind) 4 → ⊥) → ClosesRing bonds s b → ⊥
closes_none bonds s b edge d two three stamp at least most reached opened c =
    let here : get_or bonds b d ≡ edge = get_or-from_get bonds b d edge at in
    let kind : edge.kind ≡ (get_or bonds b d).kind = ap (λ m. m.kind) (sym here) in
    let there : get_or bonds b d ≡ c.edge = get_or-from_get bonds b d c.edge c.at in
    let label : (3 - edge.kind ≡ 1) ⊎ (3 - edge.kind ≡ 2) =
    ⊎_elim (λ one. inr (omega (arith, one, kind))) (λ other. inl (omega (arith, other, kind, least, most))) (cases_eq edge.kind 1) in
    let skip = MaySkip-reached bonds s edge.first (3 - edge.kind) two three stamp label reached in
    let P : Edge → Type 0 = λ e. MaySkip bonds s e.first two three stamp (3 - e.kind) 4 in
    let Q : Edge → Type 0 = λ e. CanClose bonds s e.first (e.second ∷ e.first ∷ []) e.second (3 - e.kind) 4 in
    opened (subst P (sym here) skip) (subst Q (sym there) c.closes)

-- ---- marks that spread

-- on from marks that spread to others
pub Spreads-on : (bonds : List Edge) (a b c : List Bool) → Spreads bonds a b → Spreads bonds b c → Spreads bonds a c
Spreads-on bonds a b c first second = record {
  kept = λ k marked. second.kept k (first.kept k marked);
  within = λ s closed lie. second.within s closed (first.within s closed lie);
  no_more = omega (arith, first.no_more, second.no_more);
}

-- one mark more, of a bond that closes a six-ring
pub Spreads-more : (atoms : ℕ) (bonds : List Edge) (old : List Bool) (n : ℕ) (marks : List Bool)
    → AreBetween atoms bonds → n < length marks → get_or marks n false ≡ false → ClosesRing bonds (set_of marks) n
    → Spreads bonds old marks → Spreads bonds old (set marks n true)
Spreads-more atoms bonds old n marks ends below new closes before =
    let one : Spreads bonds marks (set marks n true) = record {
      kept = λ b marked. marked-kept marks n b below marked;
      within = λ s closed lie b marked.
          ⊎_elim
          (λ same. let P : ℕ → Type 0 = λ k. IsTrue (s k) in subst P (sym same) (closed_ring atoms bonds marks s n ends closed lie closes))
          (λ other. lie b (sym (get_or-set_other marks n b true false other) ∙ marked))
          (cases_eq b n);
      no_more = omega (arith, unmarked-set marks n below new);
    } in
    Spreads-on bonds old marks (set marks n true) before one

-- the bonds of a ring that takes the labels follow from the marks
pub Follows-round : (bonds : List Edge) (marks : List Bool) (l : ℕ) (x k : ℕ → ℕ) → (l ≡ 1) ⊎ (l ≡ 2) → IsRound bonds (set_of marks) l x k → (i : ℕ) → i < 6 → Follows bonds marks (k i)
Follows-round bonds marks l x k one_or_two round i below s closed lie =
    let r = nth_round bonds (set_of marks) i l x k one_or_two round in
    let place : i % 6 ≡ i = omega arith in
    let P : ℕ → Type 0 = λ b. IsTrue (s b) in
    subst P (r.5 ∙ ap k place) (closed_round bonds (set_of marks) s lie closed r.0 r.1 r.2 r.3 r.4)

-- ---- marks that grow

-- one mark more, of a bond that closes a six-ring
pub Grows-more : (atoms : ℕ) (bonds : List Edge) (old : List Bool) (n : ℕ) (marks : List Bool) (f : Bool)
    → AreBetween atoms bonds → n < length marks → get_or marks n false ≡ false → ClosesRing bonds (set_of marks) n
    → Grows bonds old marks f → Grows bonds old (set marks n true) true
Grows-more atoms bonds old n marks f ends below new closes before = record {
  spreads = Spreads-more atoms bonds old n marks ends below new closes before.spreads;
  more = λ t. omega (arith, unmarked-set marks n below new, before.spreads.no_more);
  same = λ e. absurd (true≢false e);
}

-- ---- the bonds that begin at an atom

-- a bond of this type that begins at the start is done
abbrev pub IsDoneFrom : List Edge → List Bool → ℕ → ℕ → ℕ → Type 0
IsDoneFrom bonds marks start kind b = (edge : Edge) → slice_get bonds b ≡ Some edge → edge.first ≡ start → edge.kind ≡ kind → IsDone bonds marks b

-- among the first n numbers of the start, the bonds of this type that begin there are done, unless some were found
abbrev pub AreDoneFrom : List Edge → List Bool → ℕ → ℕ → List ℕ → ℕ → Bool → Type 0
AreDoneFrom bonds marks start kind numbers n found = found ≡ false → (i : ℕ) → i < n → IsDoneFrom bonds marks start kind (get_or numbers i 0 - 1)

-- behind the last number all are done
pub AreDoneFrom-all : (bonds : List Edge) (marks : List Bool) (start kind : ℕ) (numbers : List ℕ) (n : ℕ)
    → numbers ≡ numbers_at bonds start → length numbers ≤ n → AreDoneFrom bonds marks start kind numbers n false
    → (b : ℕ) → IsDoneFrom bonds marks start kind b
AreDoneFrom-all bonds marks start kind numbers n are all each b edge at first is =
    let joined : Joins bonds b start edge.second = record { edge = edge; at = at; ends = inl (first, refl) } in
    each_bond (λ k. IsDoneFrom bonds marks start kind k) bonds start numbers n are all (each refl) b edge.second joined edge at first is

-- ---- all bonds

-- the bonds whose first atom is among the first n atoms are done, unless some were found
abbrev pub AreDone : List Edge → List Bool → ℕ → Bool → Type 0
AreDone bonds marks n found = found ≡ false → (b : ℕ) (edge : Edge) → slice_get bonds b ≡ Some edge → edge.first ≤ n → IsDone bonds marks b

-- behind the last atom all are done
pub AreDone-all : (atoms : ℕ) (bonds : List Edge) (marks : List Bool) (n : ℕ) → AreBetween atoms bonds → atoms ≤ n → AreDone bonds marks n false → (b : ℕ) → b < length bonds → IsDone bonds marks b
AreDone-all atoms bonds marks n ends all each b below =
    let d : Edge = record { first = 0; second = 0; kind = 0 } in
    let between = ends b d below in
    each refl b (get_or bonds b d) (slice_get-at bonds b d below) (omega (arith, between.first.1))
