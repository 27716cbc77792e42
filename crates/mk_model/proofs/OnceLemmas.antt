-- Hits take plain hydrogens once.
--     embedding_of      a hit is an embedding
--     no_repeat         no atom stands at two places of a list whose atoms are distinct
--     improve           an embedding is a hit, or some plain hydrogens can lie on lower atoms
--     kept              so each embedding has a hit that agrees with it at all other atoms
--     no_embedding      so where there is no hit, there is no embedding
--     one               hits that agree there are one, where plain hydrogens lie on plain hydrogens
use Rattle.std.proofs.Common.{◌≡◌, ◌≢◌, ◌≤◌, ◌<◌, ◌+◌, ◌-◌, ◌*◌, ◌⊎◌, ℕ, zero, suc, List, [], ◌∷◌, refl, ap, sym, subst, ◌∙◌, inl, inr, length, get_or, set, arith, All, AllPairs, Contains, length-set, get_or-set_other, get_or-set_same, add-mul, mul-add, suc-mul}
use Rattle.std.proofs.lemmas.Bool.{cases_eq, cases_order}
use Rattle.std.proofs.lemmas.Grind.{same_number_lists}
use Rattle.std.proofs.lemmas.List.{get_or_default}
use Rattle.std.proofs.lemmas.List.Elements.{All-set}
use Rattle.mk_model.specs.Molecules.{IsBondOf, IsMolecule, Molecule}
use Rattle.mk_model.specs.Graphs.{GraphView, IsGraph}
use Rattle.mk_model.specs.Hits.{AgreeButPlain, HasNoEmbedding, IsEmbedding, IsHit, IsPlainAt, IsPlainDrawn, LiesPlain, image}
use Rattle.mk_model.proofs.DecidedLemmas.{Told, told_below, told_both, told_drawn, told_less, told_member, told_not, told_plain, told_three}
use Rattle.mk_model.proofs.HydrogenLemmas.{IsBeside, host_in_range, image_beside, neighbour_only, no_host, one_host, plain_beside, plain_in_range, regrouped}

-- a hit is an embedding
pub embedding_of : (graph : GraphView) (mol : Molecule) (hit : List ℕ) → IsHit graph mol hit → IsEmbedding graph mol hit
embedding_of graph mol hit is = record { one_each = is.one_each; within = is.within; distinct = is.distinct; atoms = is.atoms; bonds = is.bonds }

-- ---- lists

-- no number stands at two places
abbrev IsOnce : List ℕ → Type 0
IsOnce xs = (i j : ℕ) → i < length xs → j < length xs → get_or xs i 0 ≡ get_or xs j 0 → i ≡ j

pub no_repeat : (xs : List ℕ) → AllPairs (λ a b. a ≢ b) xs → IsOnce xs
no_repeat xs pairs i j in_i in_j same = elim (cases_order i j) [
  | inl is ↦ is
  | inr (inl less) ↦ absurd (pairs i j 0 less in_j same)
  | inr (inr more) ↦ absurd (pairs j i 0 more in_i (sym same))
]

pairs_of : (xs : List ℕ) → IsOnce xs → AllPairs (λ a b. a ≢ b) xs
pairs_of xs once i j d order below same =
    let is : i ≡ j = once i j (omega (arith, order, below)) below (get_or_default xs i 0 d (omega (arith, order, below)) ∙ same ∙ get_or_default xs j d 0 below) in
    omega (arith, is, order)

-- a number that doesn't stand in the list may take a place
once_put : (xs : List ℕ) (k v : ℕ) → k < length xs → IsOnce xs → (Contains xs v → ⊥) → IsOnce (set xs k v)
once_put xs k v at once new i j in_i in_j same =
    by_places (cases_eq i k) (cases_eq j k)
  where
    below_i : i < length xs
    below_i = omega (arith, in_i, length-set xs k v)

    below_j : j < length xs
    below_j = omega (arith, in_j, length-set xs k v)

    here : get_or (set xs k v) k 0 ≡ v
    here = get_or-set_same xs k v 0 at

    stays : (p : ℕ) → p ≢ k → get_or (set xs k v) p 0 ≡ get_or xs p 0
    stays p other = get_or-set_other xs k p v 0 other

    by_places : (i ≡ k) ⊎ (i ≡ k → ⊥) → (j ≡ k) ⊎ (j ≡ k → ⊥) → i ≡ j
    by_places (inl a) (inl b) = a ∙ sym b
    by_places (inl a) (inr b) =
        let is : get_or xs j 0 ≡ v = sym (stays j b) ∙ sym same ∙ ap (λ p. get_or (set xs k v) p 0) a ∙ here in
        absurd (new (j, below_j, get_or_default xs j v 0 below_j ∙ is))
    by_places (inr a) (inl b) =
        let is : get_or xs i 0 ≡ v = sym (stays i a) ∙ same ∙ ap (λ p. get_or (set xs k v) p 0) b ∙ here in
        absurd (new (i, below_i, get_or_default xs i v 0 below_i ∙ is))
    by_places (inr a) (inr b) = once i j below_i below_j (sym (stays i a) ∙ same ∙ stays j b)

-- two numbers change places
abbrev swapped : List ℕ → ℕ → ℕ → List ℕ
swapped xs i j = set (set xs i (get_or xs j 0)) j (get_or xs i 0)

module _ (xs : List ℕ) (i j : ℕ) (order : i < j) (below : j < length xs) where
  in_set : j < length (set xs i (get_or xs j 0))
  in_set = omega (arith, below, length-set xs i (get_or xs j 0))

  size_swapped : length (swapped xs i j) ≡ length xs
  size_swapped = length-set (set xs i (get_or xs j 0)) j (get_or xs i 0) ∙ length-set xs i (get_or xs j 0)

  first_swapped : get_or (swapped xs i j) i 0 ≡ get_or xs j 0
  first_swapped =
      get_or-set_other (set xs i (get_or xs j 0)) j i (get_or xs i 0) 0 (λ e. omega (arith, e, order))
      ∙ get_or-set_same xs i (get_or xs j 0) 0 (omega (arith, order, below))

  second_swapped : get_or (swapped xs i j) j 0 ≡ get_or xs i 0
  second_swapped = get_or-set_same (set xs i (get_or xs j 0)) j (get_or xs i 0) 0 in_set

  other_swapped : (k : ℕ) → k ≢ i → k ≢ j → get_or (swapped xs i j) k 0 ≡ get_or xs k 0
  other_swapped k not_i not_j =
      get_or-set_other (set xs i (get_or xs j 0)) j k (get_or xs i 0) 0 not_j
      ∙ get_or-set_other xs i k (get_or xs j 0) 0 not_i

  -- where each place of the new list stands in the old one
  comes_from : (k : ℕ) → k < length xs → (p : ℕ) × (p < length xs) × (get_or (swapped xs i j) k 0 ≡ get_or xs p 0)
      × (((k ≡ i) × (p ≡ j)) ⊎ (((k ≡ j) × (p ≡ i)) ⊎ ((k ≡ p) × ((k ≢ i) × (k ≢ j)))))
  comes_from k in_k = elim (cases_eq k i) [
    | inl a ↦ (j, below, ap (λ n. get_or (swapped xs i j) n 0) a ∙ first_swapped, inl (a, refl))
    | inr not_i ↦ elim (cases_eq k j) [
      | inl b ↦ (i, omega (arith, order, below), ap (λ n. get_or (swapped xs i j) n 0) b ∙ second_swapped, inr (inl (b, refl)))
      | inr not_j ↦ (k, in_k, other_swapped k not_i not_j, inr (inr (refl, (not_i, not_j))))
    ]
  ]

  once_swapped : IsOnce xs → IsOnce (swapped xs i j)
  once_swapped once k l in_k in_l same =
      let p = comes_from k (omega (arith, in_k, size_swapped)) in
      let q = comes_from l (omega (arith, in_l, size_swapped)) in
      let is : p.0 ≡ q.0 = once p.0 q.0 p.1 q.1 (sym p.2 ∙ same ∙ q.2) in
      by_both p.0 q.0 is p.3 q.3
    where
      By : ℕ → ℕ → Type 0
      By k p = ((k ≡ i) × (p ≡ j)) ⊎ (((k ≡ j) × (p ≡ i)) ⊎ ((k ≡ p) × ((k ≢ i) × (k ≢ j))))

      by_both : (p q : ℕ) → p ≡ q → By k p → By l q → k ≡ l
      by_both p q is (inl a) (inl b) = a.0 ∙ sym b.0
      by_both p q is (inl a) (inr (inl b)) = absurd (omega (arith, is, a.1, b.1, order))
      by_both p q is (inl a) (inr (inr b)) = absurd (b.1.1 (b.0 ∙ sym is ∙ a.1))
      by_both p q is (inr (inl a)) (inl b) = absurd (omega (arith, is, a.1, b.1, order))
      by_both p q is (inr (inl a)) (inr (inl b)) = a.0 ∙ sym b.0
      by_both p q is (inr (inl a)) (inr (inr b)) = absurd (b.1.0 (b.0 ∙ sym is ∙ a.1))
      by_both p q is (inr (inr a)) (inl b) = absurd (a.1.1 (a.0 ∙ is ∙ b.1))
      by_both p q is (inr (inr a)) (inr (inl b)) = absurd (a.1.0 (a.0 ∙ is ∙ b.1))
      by_both p q is (inr (inr a)) (inr (inr b)) = a.0 ∙ is ∙ sym b.0

-- ---- lower and lower

-- a number of a list of atoms that falls where earlier ones fall
weight : List ℕ → ℕ
weight [] = 0
weight (x ∷ xs) = x * suc (length xs) + weight xs

weight_set : (xs : List ℕ) (i v k : ℕ) → length xs ≡ i + k → 1 ≤ k → weight (set xs i v) + get_or xs i 0 * k ≡ weight xs + v * k
unfolding weight
weight_set [] i v k size some = absurd (omega (arith, size, some))
weight_set (x ∷ xs) zero v k size some = (let is : k ≡ suc (length xs) = omega (arith, size) in rw is (omega arith))
weight_set (x ∷ xs) (suc i) v k size some = (let fewer = weight_set xs i v k (omega (arith, size)) some in rw (length-set xs i v) (omega (arith, fewer)))

lower_by : (w w' v e k : ℕ) → w' + (v + suc e) * k ≡ w + v * k → 1 ≤ k → w' < w
lower_by w w' v e k is some = omega (arith, is, some, add-mul v (suc e) k, suc-mul e k)

-- a lower number at one place
lower_set : (xs : List ℕ) (i v : ℕ) → i < length xs → v < get_or xs i 0 → weight (set xs i v) < weight xs
lower_set xs i v below less =
    let over : get_or xs i 0 ≡ v + suc (get_or xs i 0 - v - 1) = omega (arith, less) in
    let is : weight (set xs i v) + (v + suc (get_or xs i 0 - v - 1)) * (length xs - i) ≡ weight xs + v * (length xs - i) =
    ap (λ n. weight (set xs i v) + n * (length xs - i)) (sym over) ∙ weight_set xs i v (length xs - i) (omega (arith, below)) (omega (arith, below)) in
    lower_by (weight xs) (weight (set xs i v)) v (get_or xs i 0 - v - 1) (length xs - i) is (omega (arith, below))

lower_both : (w w1 w' b e k f : ℕ) → w1 + (b + suc e) * (k + suc f) ≡ w + b * (k + suc f) → w' + b * k ≡ w1 + (b + suc e) * k → w' < w
lower_both w w1 w' b e k f first second =
    omega (arith, first, second, add-mul b (suc e) (k + suc f), add-mul b (suc e) k, mul-add (suc e) k (suc f), suc-mul e (suc f))

-- two numbers that stand in falling order, put in rising order
lower_swapped : (xs : List ℕ) (i j : ℕ) → i < j → j < length xs → get_or xs j 0 < get_or xs i 0 → weight (swapped xs i j) < weight xs
lower_swapped xs i j order below less =
    lower_both (weight xs) (weight (set xs i b)) (weight (swapped xs i j)) b e k f first second
  where
    b : ℕ
    b = get_or xs j 0

    a : ℕ
    a = get_or xs i 0

    e : ℕ
    e = a - b - 1

    k : ℕ
    k = length xs - j

    f : ℕ
    f = j - i - 1

    over : a ≡ b + suc e
    over = omega (arith, less)

    further : length xs ≡ i + (k + suc f)
    further = omega (arith, order, below)

    first : weight (set xs i b) + (b + suc e) * (k + suc f) ≡ weight xs + b * (k + suc f)
    first = subst (λ (n : ℕ). weight (set xs i b) + n * (k + suc f) ≡ weight xs + b * (k + suc f)) over (weight_set xs i b (k + suc f) further (omega arith))

    second : weight (swapped xs i j) + b * k ≡ weight (set xs i b) + (b + suc e) * k
    second = subst (λ (n : ℕ). weight (swapped xs i j) + b * k ≡ weight (set xs i b) + n * k) over
        (subst (λ (n : ℕ). weight (swapped xs i j) + n * k ≡ weight (set xs i b) + a * k) (get_or-set_other xs i j b 0 (λ same. omega (arith, same, order)))
        (weight_set (set xs i b) j a k (omega (arith, length-set xs i b, below)) (omega (arith, below))))

-- ---- each embedding has a hit

module _ (graph : GraphView) (mol : Molecule) (drawing : IsGraph graph) (molecule : IsMolecule mol) where
  -- an embedding that agrees with this one, with lower atoms
  record IsBetter (images : List ℕ) : Type 0 where
    others : List ℕ
    is : IsEmbedding graph mol others
    agree : AgreeButPlain graph images others
    less : weight others < weight images

  -- the images of two plain hydrogens on one atom fall
  abbrev Falls : List ℕ → ℕ → ℕ → ℕ → Type 0
  Falls images x h later = IsPlainDrawn graph x h × (IsPlainDrawn graph x later × ((h < later) × (image images later < image images h)))

  -- a plain hydrogen lies on one, and a lower one there is free
  abbrev LeavesFree : List ℕ → ℕ → ℕ → ℕ → Type 0
  LeavesFree images x h y =
      IsPlainDrawn graph x h × (IsPlainAt mol (image images x) (image images h)
      × (IsPlainAt mol (image images x) y × ((y < image images h) × (Contains images y → ⊥))))

  swap : (images : List ℕ) (x h later : ℕ) → IsEmbedding graph mol images → Falls images x h later → IsBetter images
  swap images x h later embedding falls = record {
    others = swapped images (h - 1) (later - 1);
    is =
        regrouped graph mol drawing images (swapped images (h - 1) (later - 1)) embedding agree beside (size_swapped images (h - 1) (later - 1) order below)
        (All-set within (set images (h - 1) (image images later)) (later - 1) (image images h) (embedding.within (h - 1) 0 in_h)
        (All-set within images (h - 1) (image images later) (embedding.within (later - 1) 0 below) embedding.within))
        (pairs_of (swapped images (h - 1) (later - 1)) (once_swapped images (h - 1) (later - 1) order below (no_repeat images embedding.distinct)));
    agree = agree;
    less = lower_swapped images (h - 1) (later - 1) order below falls.1.1.1;
  }
    where
      range_h : ((1 ≤ x) × (x ≤ length graph.atoms)) × ((1 ≤ h) × (h ≤ length graph.atoms))
      range_h = host_in_range graph x h drawing falls.0

      range_l : ((1 ≤ x) × (x ≤ length graph.atoms)) × ((1 ≤ later) × (later ≤ length graph.atoms))
      range_l = host_in_range graph x later drawing falls.1.0

      order : h - 1 < later - 1
      order = omega (arith, range_h.1.0, falls.1.1.0)

      below : later - 1 < length images
      below = omega (arith, range_l.1.0, range_l.1.1, embedding.one_each)

      in_h : h - 1 < length images
      in_h = omega (arith, order, below)

      within : ℕ → Type 0
      within a = (1 ≤ a) × (a ≤ length mol.atoms)

      stays : (e : ℕ) → 1 ≤ e → e ≢ h → e ≢ later → image images e ≡ image (swapped images (h - 1) (later - 1)) e
      stays e least not_h not_l =
          sym (other_swapped images (h - 1) (later - 1) order below (e - 1)
          (λ same. not_h (omega (arith, same, least, range_h.1.0))) (λ same. not_l (omega (arith, same, least, range_l.1.0))))

      agree : AgreeButPlain graph images (swapped images (h - 1) (later - 1))
      agree e least most not =
          stays e least (λ same. not x (subst (λ (n : ℕ). IsPlainDrawn graph x n) (sym same) falls.0)) (λ same. not x (subst (λ (n : ℕ). IsPlainDrawn graph x n) (sym same) falls.1.0))

      on_it : (y g n : ℕ) → IsPlainDrawn graph x n → IsPlainDrawn graph y g → image (swapped images (h - 1) (later - 1)) g ≡ image images n → y ≡ x
          → IsBeside mol (image images y) (image (swapped images (h - 1) (later - 1)) g)
      on_it y g n is also there same =
          subst (λ (m : ℕ). IsBeside mol (image images y) m) (sym there)
          (subst (λ (m : ℕ). IsBeside mol (image images m) (image images n)) (sym same) (image_beside graph mol images x n drawing embedding is))

      beside : (y g : ℕ) → IsPlainDrawn graph y g → IsBeside mol (image images y) (image (swapped images (h - 1) (later - 1)) g)
      beside y g also = elim (cases_eq g h) [
        | inl is_h ↦
            on_it y g later falls.1.0 also (ap (λ n. image (swapped images (h - 1) (later - 1)) n) is_h ∙ first_swapped images (h - 1) (later - 1) order below)
            (one_host graph x y h falls.0 (subst (λ (n : ℕ). IsPlainDrawn graph y n) is_h also))
        | inr not_h ↦ elim (cases_eq g later) [
          | inl is_l ↦
              on_it y g h falls.0 also (ap (λ n. image (swapped images (h - 1) (later - 1)) n) is_l ∙ second_swapped images (h - 1) (later - 1) order below)
              (one_host graph x y later falls.1.0 (subst (λ (n : ℕ). IsPlainDrawn graph y n) is_l also))
          | inr not_l ↦
              subst (λ (m : ℕ). IsBeside mol (image images y) m) (stays g (host_in_range graph y g drawing also).1.0 not_h not_l)
              (image_beside graph mol images y g drawing embedding also)
        ]
      ]

  put : (images : List ℕ) (x h y : ℕ) → IsEmbedding graph mol images → LeavesFree images x h y → IsBetter images
  put images x h y embedding leaves = record {
    others = set images (h - 1) y;
    is =
        regrouped graph mol drawing images (set images (h - 1) y) embedding agree beside (length-set images (h - 1) y)
        (All-set (λ a. (1 ≤ a) × (a ≤ length mol.atoms)) images (h - 1) y (plain_in_range mol (image images x) y molecule leaves.1.1.0) embedding.within)
        (pairs_of (set images (h - 1) y) (once_put images (h - 1) y below (no_repeat images embedding.distinct) leaves.1.1.1.1));
    agree = agree;
    less = lower_set images (h - 1) y below leaves.1.1.1.0;
  }
    where
      range : ((1 ≤ x) × (x ≤ length graph.atoms)) × ((1 ≤ h) × (h ≤ length graph.atoms))
      range = host_in_range graph x h drawing leaves.0

      below : h - 1 < length images
      below = omega (arith, range.1.0, range.1.1, embedding.one_each)

      stays : (e : ℕ) → 1 ≤ e → e ≢ h → image images e ≡ image (set images (h - 1) y) e
      stays e least not_h = sym (get_or-set_other images (h - 1) (e - 1) y 0 (λ same. not_h (omega (arith, same, least, range.1.0))))

      agree : AgreeButPlain graph images (set images (h - 1) y)
      agree e least most not = stays e least (λ same. not x (subst (λ (n : ℕ). IsPlainDrawn graph x n) (sym same) leaves.0))

      beside : (z g : ℕ) → IsPlainDrawn graph z g → IsBeside mol (image images z) (image (set images (h - 1) y) g)
      beside z g also = elim (cases_eq g h) [
        | inl is_h ↦
            subst (λ (m : ℕ). IsBeside mol (image images z) m) (sym (ap (λ n. image (set images (h - 1) y) n) is_h ∙ get_or-set_same images (h - 1) y 0 below))
            (subst (λ (m : ℕ). IsBeside mol (image images m) y) (sym (one_host graph x z h leaves.0 (subst (λ (n : ℕ). IsPlainDrawn graph z n) is_h also)))
            (plain_beside mol (image images x) y molecule leaves.1.1.0))
        | inr not_h ↦
            subst (λ (m : ℕ). IsBeside mol (image images z) m) (stays g (host_in_range graph z g drawing also).1.0 not_h)
            (image_beside graph mol images z g drawing embedding also)
      ]

  -- an embedding is a hit, or some plain hydrogens can lie on lower atoms
  improve : (images : List ℕ) → IsEmbedding graph mol images → IsHit graph mol images ⊎ IsBetter images
  improve images embedding = by_order
      (told_three (Falls images) (λ x h later. told_both (told_drawn graph x h) (told_both (told_drawn graph x later)
      (told_both (told_less h later) (told_less (image images later) (image images h)))))
      most most most)
      (told_three (LeavesFree images) (λ x h y. told_both (told_drawn graph x h) (told_both (told_plain mol (image images x) (image images h))
      (told_both (told_plain mol (image images x) y) (told_both (told_less y (image images h)) (told_not (told_member images y))))))
      most most (length mol.atoms + 1))
    where
      most : ℕ
      most = length graph.atoms + 1

      by_order : Told ((x : ℕ) × (x < most) × ((h : ℕ) × (h < most) × ((later : ℕ) × (later < most) × Falls images x h later)))
          → Told ((x : ℕ) × (x < most) × ((h : ℕ) × (h < most) × ((y : ℕ) × (y < length mol.atoms + 1) × LeavesFree images x h y)))
          → IsHit graph mol images ⊎ IsBetter images
      by_order (inl found) free = inr (swap images found.0 found.2.0 found.2.2.0 embedding found.2.2.2)
      by_order (inr ordered) (inl found) = inr (put images found.0 found.2.0 found.2.2.0 embedding found.2.2.2)
      by_order (inr ordered) (inr free) = inl record {
        one_each = embedding.one_each;
        within = embedding.within;
        distinct = embedding.distinct;
        atoms = embedding.atoms;
        bonds = embedding.bonds;
        rise = λ x h later is also order.
            (let range = host_in_range graph x h drawing is in
            let range' = host_in_range graph x later drawing also in
            elim (cases_order (image images h) (image images later)) [
              | inl same ↦
                  absurd (let one = no_repeat images embedding.distinct (h - 1) (later - 1) (omega (arith, range.1.0, range.1.1, embedding.one_each))
                  (omega (arith, range'.1.0, range'.1.1, embedding.one_each)) same in
                  omega (arith, one, order, range.1.0))
              | inr (inl less) ↦ less
              | inr (inr more) ↦ absurd (ordered (x, omega (arith, range.0.1), (h, omega (arith, range.1.1), (later, omega (arith, range'.1.1), (is, (also, (order, more)))))))
            ]);
        first_free = λ x h y is at plain less.
            (let range = host_in_range graph x h drawing is in
            elim (told_member images y) [
              | inl has ↦ has
              | inr not ↦
                  absurd (free (
                    x,
                    omega (arith, range.0.1),
                    (
                      h,
                      omega (arith, range.1.1),
                      (y, omega (arith, (plain_in_range mol (image images x) y molecule plain).1), (is, (at, (plain, (less, not))))),
                    ),
                  ))
            ]);
      }

  kept_by : (fuel : ℕ) (images : List ℕ) → weight images < fuel → IsEmbedding graph mol images → (hit : List ℕ) × IsHit graph mol hit × AgreeButPlain graph images hit
  kept_by zero images less embedding = absurd (omega (arith, less))
  kept_by (suc fuel) images less embedding = elim (improve images embedding) [
    | inl hit ↦ (images, hit, λ e least most not. refl)
    | inr better ↦
        (let found = kept_by fuel better.others (omega (arith, less, better.less)) better.is in
        (found.0, found.1, λ e least most not. better.agree e least most not ∙ found.2 e least most not))
  ]

  -- each embedding has a hit that agrees with it at all atoms but plain hydrogens
  pub kept : (images : List ℕ) → IsEmbedding graph mol images → (hit : List ℕ) × IsHit graph mol hit × AgreeButPlain graph images hit
  kept images embedding = kept_by (weight images + 1) images (omega arith) embedding

  -- so where there is no hit, there is no embedding
  pub no_embedding : ((hit : List ℕ) → IsHit graph mol hit → ⊥) → HasNoEmbedding graph mol
  no_embedding none images embedding = (let found = kept images embedding in none found.0 found.1)

  -- ---- and one hit alone

  -- the least atom at which two hits differ is no plain hydrogen that lies lower in the first
  never_lower : (a b : List ℕ) → IsHit graph mol a → IsHit graph mol b → AgreeButPlain graph a b → LiesPlain graph mol a → LiesPlain graph mol b
      → (x h : ℕ) → IsPlainDrawn graph x h → ((e : ℕ) → 1 ≤ e → e < h → image a e ≡ image b e) → image a h < image b h → ⊥
  never_lower a b in_a in_b agree plain_a plain_b x h is earlier less =
      by_hydrogen (told_below (λ y. IsPlainDrawn graph y e) (λ y. told_drawn graph y e) (length graph.atoms + 1))
    where
      range : ((1 ≤ x) × (x ≤ length graph.atoms)) × ((1 ≤ h) × (h ≤ length graph.atoms))
      range = host_in_range graph x h drawing is

      host : image a x ≡ image b x
      host = agree x range.0.0 range.0.1 (λ y also. no_host graph x h y is also)

      plain : IsPlainAt mol (image b x) (image a h)
      plain = subst (λ (m : ℕ). IsPlainAt mol m (image a h)) host (plain_a x h is)

      has : Contains b (image a h)
      has = in_b.first_free x h (image a h) is (plain_b x h is) plain less

      e : ℕ
      e = has.0 + 1

      most : e ≤ length graph.atoms
      most = omega (arith, has.1, in_b.one_each)

      there : image b e ≡ image a h
      there = (let place : has.0 + 1 - 1 ≡ has.0 = omega arith in ap (λ k. get_or b k 0) place ∙ get_or_default b has.0 0 (image a h) has.1 ∙ has.2)

      one_in_a : (p q : ℕ) → 1 ≤ p → p ≤ length graph.atoms → 1 ≤ q → q ≤ length graph.atoms → image a p ≡ image a q → p ≡ q
      one_in_a p q p_least p_most q_least q_most same =
          (let one = no_repeat a in_a.distinct (p - 1) (q - 1) (omega (arith, p_least, p_most, in_a.one_each)) (omega (arith, q_least, q_most, in_a.one_each)) same in
          omega (arith, one, p_least, q_least))

      one_in_b : (p q : ℕ) → 1 ≤ p → p ≤ length graph.atoms → 1 ≤ q → q ≤ length graph.atoms → image b p ≡ image b q → p ≡ q
      one_in_b p q p_least p_most q_least q_most same =
          (let one = no_repeat b in_b.distinct (p - 1) (q - 1) (omega (arith, p_least, p_most, in_b.one_each)) (omega (arith, q_least, q_most, in_b.one_each)) same in
          omega (arith, one, p_least, q_least))

      is_itself : image a e ≡ image b e → e ≡ h
      is_itself same = one_in_a e h (omega arith) most range.1.0 range.1.1 (same ∙ there)

      not_itself : e ≡ h → ⊥
      not_itself same = (let is' : image b h ≡ image a h = ap (λ n. image b n) (sym same) ∙ there in omega (arith, is', less))

      by_place : IsPlainDrawn graph x e → ⊥
      by_place also = elim (cases_order e h) [
        | inl same ↦ not_itself same
        | inr (inl below) ↦ not_itself (is_itself (earlier e (omega arith) below))
        | inr (inr above) ↦ (let rises : image b h < image b e = in_b.rise x h e is also above in omega (arith, rises, there, less))
      ]

      by_host : (y : ℕ) → IsPlainDrawn graph y e → ⊥
      by_host y also =
          let near : IsBeside mol (image b y) (image b e) = image_beside graph mol b y e drawing (embedding_of graph mol b in_b) also in
          let its = host_in_range graph y e drawing also in
          let joins : IsBondOf mol (image b y) (image a h) near.bond = subst (λ (n : ℕ). IsBondOf mol (image b y) n near.bond) there near.joins in
          let same : y ≡ x = one_in_b y x its.0.0 its.0.1 range.0.0 range.0.1 (neighbour_only mol (image b x) (image a h) (image b y) near.bond plain joins).1 in
          by_place (subst (λ (n : ℕ). IsPlainDrawn graph n e) same also)

      by_hydrogen : Told ((y : ℕ) × (y < length graph.atoms + 1) × IsPlainDrawn graph y e) → ⊥
      by_hydrogen (inl found) = by_host found.0 found.2
      by_hydrogen (inr not) =
          not_itself (is_itself (agree e (omega arith) most (λ y also. not (y, (let its = host_in_range graph y e drawing also in omega (arith, its.0.1)), also))))

  module _ (a b : List ℕ) (in_a : IsHit graph mol a) (in_b : IsHit graph mol b) (agree : AgreeButPlain graph a b) (plain_a : LiesPlain graph mol a) (plain_b : LiesPlain graph mol b) where
    same_below : (k e : ℕ) → 1 ≤ e → e < k → e ≤ length graph.atoms → image a e ≡ image b e
    same_below zero e least less most = absurd (omega (arith, less))
    same_below (suc k) e least less most =
        by_hydrogen (λ d d_least d_less. same_below k d d_least (omega (arith, d_less, less)) (omega (arith, d_less, most)))
        (told_below (λ y. IsPlainDrawn graph y e) (λ y. told_drawn graph y e) (length graph.atoms + 1))
      where
        by_hydrogen : ((d : ℕ) → 1 ≤ d → d < e → image a d ≡ image b d) → Told ((y : ℕ) × (y < length graph.atoms + 1) × IsPlainDrawn graph y e) → image a e ≡ image b e
        by_hydrogen earlier (inl found) = elim (cases_order (image a e) (image b e)) [
          | inl same ↦ same
          | inr (inl lower) ↦ absurd (never_lower a b in_a in_b agree plain_a plain_b found.0 e found.2 earlier lower)
          | inr (inr higher) ↦
              absurd (never_lower b a in_b in_a (λ d d_least d_most not. sym (agree d d_least d_most not)) plain_b plain_a found.0 e found.2
              (λ d d_least d_less. sym (earlier d d_least d_less)) higher)
        ]
        by_hydrogen earlier (inr not) = agree e least most (λ y also. not (y, (let its = host_in_range graph y e drawing also in omega (arith, its.0.1)), also))

    -- hits that agree at all atoms but plain hydrogens are one, where these lie on plain hydrogens
    pub one : a ≡ b
    one =
        same_number_lists a b (in_a.one_each ∙ sym in_b.one_each)
        (λ k below. (let place : k + 1 - 1 ≡ k = omega arith in
        subst (λ (n : ℕ). get_or a n 0 ≡ get_or b n 0) place (same_below (k + 2) (k + 1) (omega arith) (omega arith) (omega (arith, below, in_a.one_each)))))
