-- Expansions that are kept under codes.
--     found, found_if   what is found under a code is that of the code
--     planned     it is the expansion by the code
--     none_kept, put   where none is kept; one more that is kept
--     swapped     one that is taken out
use Rattle.std.proofs.Common.{◌≡◌, ℕ, ◌-◌, Bool, List, [], ◌∷◌, length, position, bytes_eq, Option, Some, None, IfSome, All, sym, subst, arith}
use Rattle.std.specs.Global.{Vec}
use Rattle.std.specs.Map.{keys_of, lookup}
use Rattle.std.specs.Option.{option_map_or}
use Rattle.std.specs.List.{swap_remove}
use Rattle.std.proofs.lemmas.Bool.{cond_both}
use Rattle.std.proofs.lemmas.List.Elements.{All-cons, All-head, All-nil, All-set, All-tail, All-take}
use Rattle.std.proofs.lemmas.Slice.Eq.{bytes_eq-Decides}
use Rattle.indexmap.specs.IndexMap.{insert_entry, swap_remove_entry}
use Rattle.mk_model.specs.Expansions.{IsExpansion}
use Rattle.mk_model.specs.Queries.{QueryView}
use Rattle.mk_expansions.specs.declared.kept.Plan.{Plan}
use Rattle.mk_expansions.specs.Kept.{ArePlansOf, IsKept, IsPlanOf}

some_same : {A : Type 0} (a b : A) → Some a ≡ Some b → a ≡ b
some_same a b is = cc

-- what is found under a code is that of the code
pub found : (query : QueryView) (code : List ℕ) (es : List (Vec ℕ × Plan)) (plan : Plan) → ArePlansOf query es
    → lookup (λ k. bytes_eq code k.items) es ≡ Some plan → IsPlanOf query code plan
found query code [] plan are is = cc
found query code (e ∷ es) plan are is =
    cond_both (bytes_eq code e.0.items) (Some e.1) (lookup (λ k. bytes_eq code k.items) es)
    (λ (o : Option Plan). o ≡ Some plan → IsPlanOf query code plan)
    (λ here. λ this.
    let same : code ≡ e.0.items = (bytes_eq-Decides code e.0.items).0 here in
    let first : IsPlanOf query e.0.items e.1 = All-head (λ entry. IsPlanOf query entry.0.items entry.1) e es are in
    subst (λ (k : List ℕ). IsPlanOf query k plan) (sym same) (subst (IsPlanOf query e.0.items) (some_same e.1 plan this) first))
    (λ other. λ later. found query code es plan (All-tail (λ entry. IsPlanOf query entry.0.items entry.1) e es are) later)
    is

-- the same where something may be found
pub found_if : (query : QueryView) (code : List ℕ) (es : List (Vec ℕ × Plan)) (plan : Option Plan) → ArePlansOf query es
    → lookup (λ k. bytes_eq code k.items) es ≡ plan → IfSome plan (IsPlanOf query code)
found_if query code es None are is = tt
found_if query code es (Some plan) are is = found query code es plan are is

-- what is found under a code is kept of the expansion by that code
pub planned : (query : QueryView) (code : List ℕ) (plan : Plan) (own : Vec ℕ) → own.items ≡ code → IsPlanOf query code plan
    → IsKept query (record { code = own; graph = plan.graph; asked = plan.asked; need = plan.need })
planned query code plan own same of = record {
  is = subst (λ (k : List ℕ). IsExpansion query k plan.graph) (sym same) of.is;
  asked = of.asked;
  need = of.need;
}

-- where none is kept
pub none_kept : (query : QueryView) (es : List (Vec ℕ × Plan)) → es ≡ [] → ArePlansOf query es
none_kept query es none = subst (λ (list : List (Vec ℕ × Plan)). ArePlansOf query list) (sym none) (All-nil (λ entry. IsPlanOf query entry.0.items entry.1))

-- one more that is kept
pub put : (query : QueryView) (es : List (Vec ℕ × Plan)) (code : Vec ℕ) (plan : Plan) → ArePlansOf query es → IsPlanOf query code.items plan
    → ArePlansOf query (insert_entry (λ (a b : Vec ℕ). bytes_eq a.items b.items) es code plan)
put query [] code plan are is = All-cons (λ entry. IsPlanOf query entry.0.items entry.1) (code, plan) [] is are
put query (e ∷ es) code plan are is =
    let eq : Vec ℕ → Vec ℕ → Bool = λ a b. bytes_eq a.items b.items in
    let P : Vec ℕ × Plan → Type 0 = λ entry. IsPlanOf query entry.0.items entry.1 in
    let rest = All-tail P e es are in
    cond_both (bytes_eq code.items e.0.items) ((e.0, plan) ∷ es) (e ∷ insert_entry eq es code plan) (All P)
    (λ here. All-cons P (e.0, plan) es (subst (λ (k : List ℕ). IsPlanOf query k plan) ((bytes_eq-Decides code.items e.0.items).0 here) is) rest)
    (λ other. All-cons P e (insert_entry eq es code plan) (All-head P e es are) (put query es code plan rest is))

-- what holds of all entries holds of those that are left
pub swapped : (P : Vec ℕ × Plan → Type 0) (test : Vec ℕ → Bool) (es : List (Vec ℕ × Plan)) → All P es → All P (swap_remove_entry test es)
swapped P test [] are = are
swapped P test (e ∷ es) are = by (position test (keys_of (e ∷ es)))
  where
    by : (o : Option ℕ) → All P (option_map_or (λ i. swap_remove (e ∷ es) i e) o (e ∷ es))
    by None = are
    by (Some i) =
        let last = are (length (e ∷ es) - 1) e (omega arith) in
        All-take P (length (e ∷ es) - 1) _ (All-set P (e ∷ es) i _ last are)
