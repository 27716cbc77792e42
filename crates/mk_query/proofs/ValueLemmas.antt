-- The values that the last entries give to atoms.
use Rattle.std.proofs.Common.{◌≡◌, ◌≢◌, ◌≤◌, ◌<◌, ◌+◌, ◌-◌, ℕ, List, [], ◌∷◌, ◌++◌, refl, ap, sym, ◌∙◌, length, get_or, replicate, set, take, arith, inl, inr}
use Rattle.std.specs.Prelude.{ℤ, pos, ◌⊎◌}
use Rattle.std.proofs.lemmas.Bool.{cases_eq, eq-eqb, ne_eqb}
use Rattle.std.proofs.lemmas.List.{append-nil, append_assoc, length-set, get_or-replicate, get_or-set_same, get_or-set_other, length-replicate, take_all, take_more}
use Rattle.mk_props.specs.declared.property.Pair.{Pair}
use Rattle.mk_props.specs.declared.property.Property.{Property}
use Rattle.mk_demands.specs.Numbers.{natural}
use Rattle.mk_demands.specs.Charges.{last_or, values_for}
use Rattle.mk_demands.proofs.ForCallers.{last_or-append, values_for-append}
use Rattle.mk_query.specs.Drawn.{pairs_by}
use Rattle.mk_query.specs.LastValues.{AreLastValues, AreValuesPut}

-- ---- pairs and properties, one after the other

pub last-append : (n : ℕ) (d : ℤ) (ps qs : List Pair) → last_or d (values_for n (ps ++ qs)) ≡ last_or (last_or d (values_for n ps)) (values_for n qs)
last-append n d ps qs = ap (last_or d) (values_for-append n ps qs) ∙ last_or-append d (values_for n ps) (values_for n qs)

-- the pairs of one property more
pub pairs_by-push : (select : Property → List Pair) (ps : List Property) (p : Property) → pairs_by select (ps ++ p ∷ []) ≡ pairs_by select ps ++ select p
pairs_by-push select [] p = append-nil (select p)
pairs_by-push select (q ∷ ps) p = ap (λ (l : List Pair). select q ++ l) (pairs_by-push select ps p) ∙ sym (append_assoc (select q) (pairs_by select ps) (select p))

-- ---- what was put

pub put-none : (values : List ℤ) → AreValuesPut [] values values
put-none values = record { size = refl; each = λ k d below. refl }

put-more : (ps qs : List Pair) (old mid new : List ℤ) → AreValuesPut ps old mid → AreValuesPut qs mid new → AreValuesPut (ps ++ qs) old new
put-more ps qs old mid new first second = record {
  size = second.size ∙ first.size;
  each = λ k d below.
      second.each k d (omega (arith, first.size)) ∙ ap (λ (v : ℤ). last_or v (values_for (k + 1) qs)) (first.each k d below) ∙ sym (last-append (k + 1) (get_or old k d) ps qs);
}

-- one pair more
pub pairs-more : (pairs : List Pair) (i : ℕ) (d : Pair) (old mid new : List ℤ) → i < length pairs
    → AreValuesPut (take i pairs) old mid → AreValuesPut (get_or pairs i d ∷ []) mid new
    → AreValuesPut (take (i + 1) pairs) old new
pairs-more pairs i d old mid new below first second = rw (take_more pairs i d below) (put-more (take i pairs) (get_or pairs i d ∷ []) old mid new first second)

pub pairs-all : (pairs : List Pair) (i : ℕ) (old new : List ℤ) → length pairs ≤ i → AreValuesPut (take i pairs) old new → AreValuesPut pairs old new
pairs-all pairs i old new all put = rw (take_all i pairs all) at put

-- one property more
pub properties-more : (select : Property → List Pair) (props : List Property) (i : ℕ) (p : Property)
    (old mid new : List ℤ) → i < length props → p ≡ get_or props i p
    → AreValuesPut (pairs_by select (take i props)) old mid → AreValuesPut (select p) mid new
    → AreValuesPut (pairs_by select (take (i + 1) props)) old new
properties-more select props i p old mid new below is first second =
    let next : take (i + 1) props ≡ take i props ++ p ∷ [] = take_more props i p below ∙ ap (λ (x : Property). take i props ++ x ∷ []) (sym is) in
    rw (next, pairs_by-push select (take i props) p) (put-more (pairs_by select (take i props)) (select p) old mid new first second)

-- put over zeros, the values are the last
pub last_values : (select : Property → List Pair) (props : List Property) (i n : ℕ) (old new : List ℤ) → length props ≤ i → old ≡ replicate n (pos 0)
    → AreValuesPut (pairs_by select (take i props)) old new → AreLastValues select props new
last_values select props i n old new all zeros put k below =
    let inside : k < length old = omega (arith, put.size) in
    let zero : get_or old k (pos 0) ≡ pos 0 = ap (λ (l : List ℤ). get_or l k (pos 0)) zeros ∙ get_or-replicate n k (pos 0) (pos 0) (omega (arith, ap length zeros, length-replicate n (pos 0))) in
    put.each k (pos 0) inside ∙ ap (λ (v : ℤ). last_or v (values_for (k + 1) (pairs_by select (take i props)))) zero
    ∙ ap (λ (l : List Property). last_or (pos 0) (values_for (k + 1) (pairs_by select l))) (take_all i props all)

-- ---- one value

-- to the atom that the pair names
pub put-value : (values : List ℤ) (pair : Pair) (n : ℕ) (v : ℤ) → n ≡ natural pair.atom → v ≡ pair.value → 1 ≤ n → n ≤ length values → AreValuesPut (pair ∷ []) values (set values (n - 1) v)
put-value values pair n v names is least most = record {
  size = length-set values (n - 1) v;
  each = λ k d below. by_place k d below (cases_eq k (n - 1));
}
  where
    by_place : (k : ℕ) (d : ℤ) → k < length values → (k ≡ n - 1) ⊎ (k ≢ n - 1) → get_or (set values (n - 1) v) k d ≡ last_or (get_or values k d) (values_for (k + 1) (pair ∷ []))
    by_place k d below (inl here) =
        let at : get_or (set values (n - 1) v) k d ≡ v = ap (λ (j : ℕ). get_or (set values (n - 1) v) j d) here ∙ get_or-set_same values (n - 1) v d (omega arith) in
        let number : natural pair.atom ≡ k + 1 = omega (arith, names, here, least) in
        rw at (rw (eq-eqb (natural pair.atom) (k + 1) number) is)
    by_place k d below (inr other) =
        let at : get_or (set values (n - 1) v) k d ≡ get_or values k d = get_or-set_other values (n - 1) k v d other in
        let number : natural pair.atom ≢ k + 1 = λ same. other (omega (arith, names, same)) in
        rw at (rw (ne_eqb (natural pair.atom) (k + 1) number) refl)

-- to no atom, where the pair names none
pub put-nowhere : (values : List ℤ) (pair : Pair) (n : ℕ) → n ≡ natural pair.atom → (1 ≤ n → length values < n) → AreValuesPut (pair ∷ []) values values
put-nowhere values pair n names outside = record {
  size = refl;
  each = λ k d below.
      let number : natural pair.atom ≢ k + 1 = λ same. (let past : length values < n = outside (omega (arith, names, same)) in omega (arith, names, same, past, below)) in
      rw (ne_eqb (natural pair.atom) (k + 1) number) refl;
}
