-- Each structural code of a query has an expansion.
--     put_in            a bond is put into a list in order
--     in_order          bonds of which no two join one pair can be put in order
--     has_expansion     EachCodeHasExpansion
use Rattle.std.proofs.Common.{◌≡◌, ◌∙◌, ◌⊎◌, ℕ, zero, suc, ◌<◌, inl, inr, List, [], ◌∷◌, length, get_or, refl, sym, subst, arith}
use Rattle.std.specs.Prelude.{AllPairs, Contains}
use Rattle.std.proofs.lemmas.Bool.{cases_order}
use Rattle.std.proofs.lemmas.List.{append-nil}
use Rattle.std.proofs.lemmas.List.Elements.{Contains-get_or}
use Rattle.mk_model.specs.declared.graph.GraphBond.{GraphBond}
use Rattle.mk_model.specs.declared.template.QueryBond.{QueryBond}
use Rattle.mk_model.specs.Codes.{spelling}
use Rattle.mk_model.specs.Expansions.{expansion}
use Rattle.mk_model.specs.Graphs.{GraphView, IsBefore, IsGraph}
use Rattle.mk_marks.specs.Laws.{GraphBondsHaveMarks}
use Rattle.mk_marks.proofs.ForCallers.{marked_sketch}
use Rattle.mk_pieces.specs.Begun.{IsExpanded}
use Rattle.mk_pieces.specs.Fragments.{AreApart, HasOrdered, bare}
use Rattle.mk_pieces.specs.Laws.{EachCodeHasExpansion}
use Rattle.mk_pieces.proofs.GraphLemmas.{fragment_sketch, graph_of, taken_few, taken_fragment}
use Rattle.mk_pieces.proofs.OrderLemmas.{before_through, behind_first, first_in, first_or_other, other_in, others_ordered}

-- ---- one bond more

-- a bond that stands before each of a list in order stands in front of it
pairs_cons : (bond : GraphBond) (bonds : List GraphBond) → ((other : GraphBond) → Contains bonds other → IsBefore bond other) → AllPairs IsBefore bonds → AllPairs IsBefore (bond ∷ bonds)
pairs_cons bond bonds before order i zero d less within = absurd (omega arith)
pairs_cons bond bonds before order zero (suc j) d less within = before (get_or bonds j d) (Contains-get_or bonds j d (omega arith))
pairs_cons bond bonds before order (suc i) (suc j) d less within = order i j d (omega arith) (omega arith)

-- the list in order holds the others and the bond
record IsPutIn (bond : GraphBond) (bonds new : List GraphBond) : Type 0 where
  order : AllPairs IsBefore new
  here : Contains new bond
  kept : (other : GraphBond) → Contains bonds other → Contains new other
  only : (other : GraphBond) → Contains new other → (bond ≡ other) ⊎ Contains bonds other

-- in front of all
put_first : (bond : GraphBond) (bonds : List GraphBond) → ((other : GraphBond) → Contains bonds other → IsBefore bond other) → AllPairs IsBefore bonds → IsPutIn bond bonds (bond ∷ bonds)
put_first bond bonds before order = record {
  order = pairs_cons bond bonds before order;
  here = first_in bond bonds;
  kept = λ other is. other_in bond bonds other is;
  only = λ other is. first_or_other bond bonds other is;
}

-- behind the first
put_later : (bond first : GraphBond) (bonds new : List GraphBond) → IsBefore first bond → AllPairs IsBefore (first ∷ bonds) → IsPutIn bond bonds new → IsPutIn bond (first ∷ bonds) (first ∷ new)
put_later bond first bonds new before order put = record {
  order = pairs_cons first new (λ other is. elim (put.only other is) [
    | inl same ↦ subst (IsBefore first) same before
    | inr later ↦ behind_first first bonds other order later
  ]) put.order;
  here = other_in first new bond put.here;
  kept = λ other is. elim (first_or_other first bonds other is) [
    | inl same ↦ subst (Contains (first ∷ new)) same (first_in first new)
    | inr later ↦ other_in first new other (put.kept other later)
  ];
  only = λ other is. elim (first_or_other first new other is) [
    | inl same ↦ inr (subst (Contains (first ∷ bonds)) same (first_in first bonds))
    | inr later ↦ elim (put.only other later) [
      | inl same ↦ inl same
      | inr held ↦ inr (other_in first bonds other held)
    ]
  ];
}

-- a bond is put into a list in order, where it stands before or behind each
put_in : (bond : GraphBond) (bonds : List GraphBond) → AllPairs IsBefore bonds → ((other : GraphBond) → Contains bonds other → IsBefore bond other ⊎ IsBefore other bond)
    → (new : List GraphBond) × IsPutIn bond bonds new
put_in bond [] order apart = (bond ∷ [], put_first bond [] (λ other is. absurd (omega (arith, is.1))) order)
put_in bond (first ∷ bonds) order apart =
    elim (apart first (first_in first bonds)) [
      | inl before ↦ (
        bond ∷ first ∷ bonds,
        put_first bond (first ∷ bonds)
            (λ other is. elim (first_or_other first bonds other is) [
              | inl same ↦ subst (IsBefore bond) same before
              | inr later ↦ before_through bond first other before (behind_first first bonds other order later)
            ]) order,
      )
      | inr behind ↦ (let rest = put_in bond bonds (others_ordered first bonds order) (λ other is. apart other (other_in first bonds other is)) in
          (first ∷ rest.0, put_later bond first bonds rest.0 behind order rest.1))
    ]

-- ---- all bonds

-- of two bonds that don't join one pair one stands before the other
either_before : (bond later : QueryBond) → AreApart bond later → IsBefore (bare bond) (bare later) ⊎ IsBefore (bare later) (bare bond)
either_before bond later apart =
    elim (cases_order bond.first later.first) [
      | inl same ↦ elim (cases_order bond.second later.second) [
        | inl alike ↦ absurd (apart same alike)
        | inr other ↦ elim other [ inl less ↦ inl (inr (same, less)) | inr more ↦ inr (inr (sym same, more)) ]
      ]
      | inr other ↦ elim other [ inl less ↦ inl (inl less) | inr more ↦ inr (inl more) ]
    ]

-- the first of the bonds, or one behind it
either_held : (bond : QueryBond) (bonds : List QueryBond) (held : QueryBond) → Contains (bond ∷ bonds) held → (bond ≡ held) ⊎ Contains bonds held
either_held bond bonds held is = by_place is.0 is.1 is.2
  where
    by_place : (k : ℕ) → k < length (bond ∷ bonds) → get_or (bond ∷ bonds) k held ≡ held → (bond ≡ held) ⊎ Contains bonds held
    by_place zero below same = inl same
    by_place (suc k) below same = inr (k, omega arith, same)

-- bonds of which no two join one pair can be put in order
pub in_order : (bonds : List QueryBond) → AllPairs AreApart bonds → (drawn : List GraphBond) × HasOrdered bonds drawn
in_order [] apart = ([], record { order = λ i j d less within. absurd (omega arith); each = λ d is. absurd (omega (arith, is.1)); all = λ bond is. absurd (omega (arith, is.1)) })
in_order (bond ∷ bonds) apart =
    let rest = in_order bonds (λ i j d less within. apart (suc i) (suc j) d (omega arith) (omega arith)) in
    let put = put_in (bare bond) rest.0 rest.1.order (one_more rest.0 rest.1) in (
      put.0,
      record {
        order = put.1.order;
        each = λ d is. elim (put.1.only d is) [
          | inl same ↦ (bond, (0, omega arith, refl), same)
          | inr held ↦ (let from = rest.1.each d held in (from.0, (suc from.1.0, omega (arith, from.1.1), from.1.2), from.2))
        ];
        all = λ other is. elim (either_held bond bonds other is) [
          | inl same ↦ subst (λ (b : QueryBond). Contains put.0 (bare b)) same put.1.here
          | inr held ↦ put.1.kept (bare other) (rest.1.all other held)
        ];
      },
    )
  where
    one_more : (drawn : List GraphBond) → HasOrdered bonds drawn → (other : GraphBond) → Contains drawn other → IsBefore (bare bond) other ⊎ IsBefore other (bare bond)
    one_more drawn has other is =
        let from = has.each other is in
        let apart' : AreApart bond from.0 = subst (AreApart bond) from.1.2 (apart 0 (suc from.1.0) from.0 (omega arith) (omega (arith, from.1.1))) in
        subst (λ (g : GraphBond). IsBefore (bare bond) g ⊎ IsBefore g (bare bond)) from.2 (either_before bond from.0 apart')

-- ---- the expansion

-- what the root becomes by the choice that the code spells, its bonds in order and with their marks
pub has_expansion : GraphBondsHaveMarks → EachCodeHasExpansion
has_expansion marked query code fits is =
    let part = expansion query 0 is.choice in
    let taken : IsExpanded query 0 code [] part = record { choice = is.choice; made = is.made; spelt = append-nil (spelling is.choice) ∙ is.spelt; is = refl } in
    let fragment = taken_fragment query fits code [] part taken in
    let drawn = in_order part.bonds fragment.apart in
    let sketch = fragment_sketch part fragment (taken_few query fits code [] part taken) drawn.0 drawn.1 in
    let bonds = marked (length part.atoms) drawn.0 sketch.graph in
    let graph : GraphView = record { atoms = part.atoms; bonds = bonds.0 } in
    let kept : IsGraph graph = record { sketch = marked_sketch part.atoms drawn.0 bonds.0 bonds.1 sketch; marks = bonds.2 } in
    (graph, graph_of query fits code [] part taken is drawn.0 drawn.1 graph kept refl bonds.1)
