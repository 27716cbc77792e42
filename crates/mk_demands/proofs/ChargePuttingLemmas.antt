-- Charges and radicals after the values that properties list were put.
use Rattle.std.proofs.Common.{◌≡◌, ◌≢◌, ◌≤◌, ◌<◌, ◌+◌, ◌-◌, ℕ, true, false, cond, List, [], ◌∷◌, ◌++◌, refl, ap, sym, ◌∙◌, length, get_or, set, take, arith, inl, inr}
use Rattle.std.specs.Prelude.{ℤ, pos, ◌⊎◌, ◌==◌}
use Rattle.std.proofs.lemmas.Bool.{cases_eq, eq-eqb, ne_eqb}
use Rattle.std.proofs.lemmas.List.{append-nil, append_assoc, length-set, get_or-set_same, get_or-set_other, get_or_default, take_more}
use Rattle.mk_props.specs.declared.property.Pair.{Pair}
use Rattle.mk_props.specs.declared.property.Property.{Property}
use Rattle.mk_demands.specs.declared.charges.Electrons.{Electrons}
use Rattle.mk_demands.specs.Numbers.{natural}
use Rattle.mk_demands.specs.Charges.{charge_pairs, charges_of, radical_pairs, radicals_of, last_or, values_for}
use Rattle.mk_demands.specs.ChargePutting.{ArePut, HasPut}

-- ---- values

-- the last of two lists one after the other
pub last_or-append : (d : ℤ) (xs ys : List ℤ) → last_or d (xs ++ ys) ≡ last_or (last_or d xs) ys
last_or-append d [] ys = refl
last_or-append d (x ∷ xs) ys = last_or-append x xs ys

-- the values of two lists of pairs one after the other
pub values_for-append : (n : ℕ) (ps qs : List Pair) → values_for n (ps ++ qs) ≡ values_for n ps ++ values_for n qs
values_for-append n [] qs = refl
values_for-append n (p ∷ ps) qs =
    let more = values_for-append n ps qs in
    elim (natural p.atom == n) as (λ b. cond b (p.value ∷ values_for n (ps ++ qs)) (values_for n (ps ++ qs)) ≡ cond b (p.value ∷ values_for n ps) (values_for n ps) ++ values_for n qs)
    [ true ↦ ap (λ (l : List ℤ). p.value ∷ l) more | false ↦ more ]

last-append : (n : ℕ) (d : ℤ) (ps qs : List Pair) → last_or d (values_for n (ps ++ qs)) ≡ last_or (last_or d (values_for n ps)) (values_for n qs)
last-append n d ps qs = ap (last_or d) (values_for-append n ps qs) ∙ last_or-append d (values_for n ps) (values_for n qs)

-- the pairs of one property more
charge_pairs-push : (ps : List Property) (p : Property) → charge_pairs (ps ++ p ∷ []) ≡ charge_pairs ps ++ charges_of p
charge_pairs-push [] p = append-nil (charges_of p)
charge_pairs-push (q ∷ ps) p = ap (λ (l : List Pair). charges_of q ++ l) (charge_pairs-push ps p) ∙ sym (append_assoc (charges_of q) (charge_pairs ps) (charges_of p))

radical_pairs-push : (ps : List Property) (p : Property) → radical_pairs (ps ++ p ∷ []) ≡ radical_pairs ps ++ radicals_of p
radical_pairs-push [] p = append-nil (radicals_of p)
radical_pairs-push (q ∷ ps) p = ap (λ (l : List Pair). radicals_of q ++ l) (radical_pairs-push ps p) ∙ sym (append_assoc (radicals_of q) (radical_pairs ps) (radicals_of p))

-- ---- charges and radicals

-- nothing was put
pub put-none : (list : List Electrons) → ArePut [] [] list list
put-none list = record {
  size = refl;
  each = λ i d below. record { charge = refl; radical = refl };
}

-- more was put
pub put-more : (c r c' r' : List Pair) (old mid new : List Electrons) → ArePut c r old mid → ArePut c' r' mid new → ArePut (c ++ c') (r ++ r') old new
put-more c r c' r' old mid new first second = record {
  size = second.size ∙ first.size;
  each = λ i d below.
      let p = first.each i d below in
      let q = second.each i d (omega (arith, first.size)) in
      record {
        charge = q.charge ∙ ap (λ (v : ℤ). last_or v (values_for (i + 1) c')) p.charge ∙ sym (last-append (i + 1) (get_or old i d).charge c c');
        radical = q.radical ∙ ap (λ (v : ℤ). last_or v (values_for (i + 1) r')) p.radical ∙ sym (last-append (i + 1) (pos (get_or old i d).radical) r r');
      };
}

-- one charge more
pub charges-more : (pairs : List Pair) (k : ℕ) (d : Pair) (old mid new : List Electrons) → k < length pairs
    → ArePut (take k pairs) [] old mid → ArePut (get_or pairs k d ∷ []) [] mid new
    → ArePut (take (k + 1) pairs) [] old new
charges-more pairs k d old mid new below first second =
    rw (take_more pairs k d below) (put-more (take k pairs) [] (get_or pairs k d ∷ []) [] old mid new first second)

-- one radical more
pub radicals-more : (pairs : List Pair) (k : ℕ) (d : Pair) (old mid new : List Electrons) → k < length pairs
    → ArePut [] (take k pairs) old mid → ArePut [] (get_or pairs k d ∷ []) mid new
    → ArePut [] (take (k + 1) pairs) old new
radicals-more pairs k d old mid new below first second =
    rw (take_more pairs k d below) (put-more [] (take k pairs) [] (get_or pairs k d ∷ []) old mid new first second)

-- one property more
pub property-more : (props : List Property) (k : ℕ) (p : Property) (old mid new : List Electrons) → k < length props
    → p ≡ get_or props k p → ArePut (charge_pairs (take k props)) (radical_pairs (take k props)) old mid
    → ArePut (charges_of p) (radicals_of p) mid new → ArePut (charge_pairs (take (k + 1) props))
    (radical_pairs (take (k + 1) props)) old new
property-more props k p old mid new below is first second =
    let next : take (k + 1) props ≡ take k props ++ p ∷ [] = take_more props k p below ∙ ap (λ (x : Property). take k props ++ x ∷ []) (sym is) in
    rw (next, charge_pairs-push (take k props) p, radical_pairs-push (take k props) p)
    (put-more (charge_pairs (take k props)) (radical_pairs (take k props)) (charges_of p) (radicals_of p) old mid new first second)

-- ---- one value

-- the charge of the atom that the pair names
pub put-charge : (list : List Electrons) (pair : Pair) (k : ℕ) (d new : Electrons) → k ≡ natural pair.atom → 1 ≤ k
    → k ≤ length list → new.charge ≡ pair.value → new.radical ≡ (get_or list (k - 1) d).radical
    → ArePut (pair ∷ []) [] list (set list (k - 1) new)
put-charge list pair k d new names least most charge radical = record {
  size = length-set list (k - 1) new;
  each = λ i e below. by_place i e below (cases_eq i (k - 1));
}
  where
    by_place : (i : ℕ) (e : Electrons) → i < length list → (i ≡ k - 1) ⊎ (i ≢ k - 1) → HasPut (pair ∷ []) [] (i + 1) (get_or list i e) (get_or (set list (k - 1) new) i e)
    by_place i e below (inl here) =
        let at : get_or (set list (k - 1) new) i e ≡ new = ap (λ (j : ℕ). get_or (set list (k - 1) new) j e) here ∙ get_or-set_same list (k - 1) new e (omega arith) in
        let old : get_or list (k - 1) d ≡ get_or list i e = ap (λ (j : ℕ). get_or list j d) (sym here) ∙ get_or_default list i d e below in
        let number : natural pair.atom ≡ i + 1 = omega (arith, names, here, least) in
        rw at (record {
          charge = rw (eq-eqb (natural pair.atom) (i + 1) number) charge;
          radical = ap pos (radical ∙ ap (λ (a : Electrons). a.radical) old);
        })
    by_place i e below (inr other) =
        let at : get_or (set list (k - 1) new) i e ≡ get_or list i e = get_or-set_other list (k - 1) i new e other in
        let number : natural pair.atom ≢ i + 1 = λ same. other (omega (arith, names, same)) in
        rw at (record { charge = rw (ne_eqb (natural pair.atom) (i + 1) number) refl; radical = refl })
