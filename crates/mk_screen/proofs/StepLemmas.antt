-- The bits that each step of the code sets.
--     atom_stop, atom_go .. bond_stop, bond_go      where a path ends, and where it goes on
--     atoms_none, atoms_more, bonds_none, bonds_more      atom by atom and bond by bond
use Rattle.std.proofs.Common.{◌≡◌, ◌≢◌, ℕ, zero, suc, ◌+◌, ◌-◌, ◌*◌, ◌%◌, ◌<◌, ◌≤◌, inl, inr, Bool, true, false, not, ◌&&◌, eqb, List, [], ◌∷◌, ◌++◌, length, get_or, Option, Some, None, refl, sym, ap, subst, ◌∙◌, arith, add-one}
use Rattle.std.specs.Prelude.{nat_le, slice_get}
use Rattle.std.specs.List.{flat_map}
use Rattle.std.proofs.lemmas.Bool.{and_from, and_left, and_right, eq-eqb, le-leb, lt-leb, ne_eqb}
use Rattle.mk_model.specs.declared.edge.Edge.{Edge}
use Rattle.mk_model.specs.Edges.{numbers_at}
use Rattle.mk_model.specs.Screens.{Shown, element_at, path_bit}
use Rattle.mk_screen.specs.Paths.{Adds, IsPair, bits_all_before, bits_all_behind, bits_around, bits_before, bits_behind, bits_of_atom, bits_of_atoms, bits_of_bond, bits_of_bonds, bits_of_edge, differ, end_at, is_named}
use Rattle.mk_screen.proofs.AddsLemmas.{adds_join, adds_none}

module _ (shown : Shown) where
  -- ---- tests

  named : (x : ℕ) → 1 ≤ x → 2 ≤ element_at shown.elements x → is_named shown x ≡ true
  named x least some = and_from (nat_le 1 x) (nat_le 2 (element_at shown.elements x)) (le-leb 1 x least) (le-leb 2 (element_at shown.elements x) some)

  not_named : (x : ℕ) → element_at shown.elements x < 2 → is_named shown x ≡ false
  not_named x few = and_right (nat_le 1 x) (nat_le 2 (element_at shown.elements x)) (lt-leb 2 (element_at shown.elements x) few)

  apart : (x y : ℕ) → x ≢ y → differ x y ≡ true
  apart x y other = rw (ne_eqb x y other) refl

  not_apart : (x y : ℕ) → x ≡ y → differ x y ≡ false
  not_apart x y same = rw (eq-eqb x y same) refl

  -- ---- values

  bit_1 : (a x : ℕ) → x ≡ element_at shown.elements a → (131 + x) % 512 ≡ path_bit shown (a ∷ [])
  bit_1 a x is_x = ap (λ n. n % 512) (let e : 131 + x ≡ 1 * 131 + element_at shown.elements a = omega arith in e)

  bit_2 : (a b x y : ℕ) → x ≡ element_at shown.elements a → y ≡ element_at shown.elements b → (2 * 131 * 131 + x * 131 + y) % 512 ≡ path_bit shown (a ∷ b ∷ [])
  bit_2 a b x y is_x is_y =
      ap (λ n. n % 512) (let e : 2 * 131 * 131 + x * 131 + y ≡ (2 * 131 + element_at shown.elements a) * 131 + element_at shown.elements b = omega arith in e)

  bit_3 : (a b c x y z : ℕ) → x ≡ element_at shown.elements a → y ≡ element_at shown.elements b
      → z ≡ element_at shown.elements c → (3 * 131 * 131 * 131 + (x * 131 + y) * 131 + z) % 512 ≡ path_bit shown
      (a ∷ b ∷ c ∷ [])
  bit_3 a b c x y z is_x is_y is_z =
      ap (λ n. n % 512) (let e : 3 * 131 * 131 * 131 + (x * 131 + y) * 131 + z ≡
      ((3 * 131 + element_at shown.elements a) * 131 + element_at shown.elements b) * 131 + element_at
      shown.elements c = omega arith in e)

  bit_4 : (a b c d x y z w : ℕ) → x ≡ element_at shown.elements a → y ≡ element_at shown.elements b → z ≡ element_at shown.elements c → w ≡ element_at shown.elements d
      → (4 * 131 * 131 * 131 * 131 + ((x * 131 + y) * 131 + z) * 131 + w) % 512 ≡ path_bit shown (a ∷ b ∷ c ∷ d ∷ [])
  bit_4 a b c d x y z w is_x is_y is_z is_w =
      ap (λ n. n % 512) (let e : 4 * 131 * 131 * 131 * 131 + ((x * 131 + y) * 131 + z) * 131 + w ≡
      (((4 * 131 + element_at shown.elements a) * 131 + element_at shown.elements b) * 131 + element_at
      shown.elements c) * 131 + element_at shown.elements d = omega arith in e)

  -- two bits, one after the other
  two : (p q p' q' : ℕ) (old mid new : List ℕ) → p ≡ p' → q ≡ q' → Adds (p ∷ []) old mid → Adds (q ∷ []) mid new → Adds (p' ∷ q' ∷ []) old new
  two p q p' q' old mid new is_p is_q first second = rw (sym is_p, sym is_q) (adds_join (p ∷ []) (q ∷ []) old mid new first second)

  -- ---- an atom

  pub atom_stop : (a : ℕ) (bits : List ℕ) → element_at shown.elements a < 2 → Adds (bits_of_atom shown a) bits bits
  unfolding bits_of_atom
  atom_stop a bits few = rw (not_named a few) (adds_none bits)

  pub atom_go : (a x : ℕ) (old new : List ℕ) → 1 ≤ a → x ≡ element_at shown.elements a → 2 ≤ x → Adds ((131 + x) % 512 ∷ []) old new → Adds (bits_of_atom shown a) old new
  unfolding bits_of_atom
  atom_go a x old new least is some put = rw (named a least (omega arith), sym (bit_1 a x is)) put

  pub atoms_none : (bits : List ℕ) → Adds (bits_of_atoms shown 0) bits bits
  unfolding bits_of_atoms
  atoms_none bits = adds_none bits

  pub atoms_more : (n : ℕ) (old mid new : List ℕ) → Adds (bits_of_atoms shown n) old mid → Adds (bits_of_atom shown (n + 1)) mid new → Adds (bits_of_atoms shown (n + 1)) old new
  unfolding bits_of_atoms
  atoms_more n old mid new first second = rw (add-one n) (adds_join (bits_of_atoms shown n) (bits_of_atom shown (suc n)) old mid new first (rw (sym (add-one n)) second))

  -- ---- around a bond

  module _ (a b c d : ℕ) where
    around_no : (is_named shown d && (differ d a && (differ d b && differ d c))) ≡ false → (bits : List ℕ) → Adds (bits_around shown a b c d) bits bits
    unfolding bits_around
    around_no none bits = rw none (adds_none bits)

    pub around_low : (bits : List ℕ) → element_at shown.elements d < 2 → Adds (bits_around shown a b c d) bits bits
    around_low bits few = around_no (and_left (is_named shown d) (differ d a && (differ d b && differ d c)) (not_named d few)) bits

    pub around_first : (bits : List ℕ) → d ≡ a → Adds (bits_around shown a b c d) bits bits
    around_first bits same = around_no (and_right (is_named shown d) (differ d a && (differ d b && differ d c)) (and_left (differ d a) (differ d b && differ d c) (not_apart d a same))) bits

    pub around_second : (bits : List ℕ) → d ≡ b → Adds (bits_around shown a b c d) bits bits
    around_second bits same =
        around_no (and_right (is_named shown d) (differ d a && (differ d b && differ d c))
        (and_right (differ d a) (differ d b && differ d c)
        (and_left (differ d b) (differ d c) (not_apart d b same)))) bits

    pub around_go : (x y z w : ℕ) (old mid new : List ℕ) → 1 ≤ d → d ≢ c → x ≡ element_at shown.elements a → IsPair shown b c y z → w ≡ element_at shown.elements d → 2 ≤ w → d ≢ a → d ≢ b
        → Adds ((4 * 131 * 131 * 131 * 131 + ((x * 131 + y) * 131 + z) * 131 + w) % 512 ∷ []) old mid → Adds ((4 * 131 * 131 * 131 * 131 + ((w * 131 + z) * 131 + y) * 131 + x) % 512 ∷ []) mid new
        → Adds (bits_around shown a b c d) old new
    unfolding bits_around
    around_go x y z w old mid new least dc is_x pair is_w some da db first second =
        rw (and_from (is_named shown d) (differ d a && (differ d b && differ d c)) (named d least (omega arith))
        (and_from (differ d a) (differ d b && differ d c) (apart d a da)
        (and_from (differ d b) (differ d c) (apart d b db) (apart d c dc))))
        (two _ _ (path_bit shown (a ∷ b ∷ c ∷ d ∷ [])) (path_bit shown (d ∷ c ∷ b ∷ a ∷ [])) old mid new
        (bit_4 a b c d x y z w is_x pair.first pair.second is_w) (bit_4 d c b a w z y x is_w pair.second pair.first is_x) first second)

  module _ (b c d : ℕ) where
    behind_no : (is_named shown d && (differ d b && differ d c)) ≡ false → (bits : List ℕ) → Adds (bits_behind shown b c d) bits bits
    unfolding bits_behind
    behind_no none bits = rw none (adds_none bits)

    pub behind_low : (bits : List ℕ) → element_at shown.elements d < 2 → Adds (bits_behind shown b c d) bits bits
    behind_low bits few = behind_no (and_left (is_named shown d) (differ d b && differ d c) (not_named d few)) bits

    pub behind_first : (bits : List ℕ) → d ≡ b → Adds (bits_behind shown b c d) bits bits
    behind_first bits same = behind_no (and_right (is_named shown d) (differ d b && differ d c) (and_left (differ d b) (differ d c) (not_apart d b same))) bits

    pub behind_go : (y z w : ℕ) (old mid new : List ℕ) → 1 ≤ d → d ≢ c → IsPair shown b c y z → w ≡ element_at shown.elements d → 2 ≤ w → d ≢ b
        → Adds ((3 * 131 * 131 * 131 + (y * 131 + z) * 131 + w) % 512 ∷ []) old mid → Adds ((3 * 131 * 131 * 131 + (w * 131 + z) * 131 + y) % 512 ∷ []) mid new
        → Adds (bits_behind shown b c d) old new
    unfolding bits_behind
    behind_go y z w old mid new least dc pair is_w some db first second =
        rw (and_from (is_named shown d) (differ d b && differ d c) (named d least (omega arith)) (and_from (differ d b) (differ d c) (apart d b db) (apart d c dc)))
        (two _ _ (path_bit shown (b ∷ c ∷ d ∷ [])) (path_bit shown (d ∷ c ∷ b ∷ [])) old mid new
        (bit_3 b c d y z w pair.first pair.second is_w) (bit_3 d c b w z y is_w pair.second pair.first) first second)

  module _ (a b c : ℕ) where
    before_no : (is_named shown a && (differ a b && differ a c)) ≡ false → (bits : List ℕ) → Adds (bits_before shown a b c) bits bits
    unfolding bits_before
    before_no none bits = rw none (adds_none bits)

    pub before_low : (bits : List ℕ) → element_at shown.elements a < 2 → Adds (bits_before shown a b c) bits bits
    before_low bits few = before_no (and_left (is_named shown a) (differ a b && differ a c) (not_named a few)) bits

    pub before_last : (bits : List ℕ) → a ≡ c → Adds (bits_before shown a b c) bits bits
    before_last bits same = before_no (and_right (is_named shown a) (differ a b && differ a c) (and_right (differ a b) (differ a c) (not_apart a c same))) bits

    pub before_go : (x y z : ℕ) (old mid next new : List ℕ) → 1 ≤ a → a ≢ b → IsPair shown b c y z → x ≡ element_at shown.elements a → 2 ≤ x → a ≢ c
        → Adds ((3 * 131 * 131 * 131 + (x * 131 + y) * 131 + z) % 512 ∷ []) old mid → Adds ((3 * 131 * 131 * 131 + (z * 131 + y) * 131 + x) % 512 ∷ []) mid next
        → Adds (flat_map (λ number. bits_around shown a b c (end_at shown.bonds number c)) (numbers_at shown.bonds c)) next new
        → Adds (bits_before shown a b c) old new
    unfolding bits_before
    before_go x y z old mid next new least ab pair is_x some ac first second others =
        rw (and_from (is_named shown a) (differ a b && differ a c) (named a least (omega arith)) (and_from (differ a b) (differ a c) (apart a b ab) (apart a c ac)))
        (adds_join (path_bit shown (a ∷ b ∷ c ∷ []) ∷ path_bit shown (c ∷ b ∷ a ∷ []) ∷ [])
        (flat_map (λ number. bits_around shown a b c (end_at shown.bonds number c)) (numbers_at shown.bonds c)) old
        next new
        (two _ _ (path_bit shown (a ∷ b ∷ c ∷ [])) (path_bit shown (c ∷ b ∷ a ∷ [])) old mid next
        (bit_3 a b c x y z is_x pair.first pair.second) (bit_3 c b a z y x pair.second pair.first is_x) first second) others)

  module _ (b c : ℕ) where
    pub all_before_is : bits_all_before shown b c ≡ flat_map (λ number. bits_before shown (end_at shown.bonds number b) b c) (numbers_at shown.bonds b)
    unfolding bits_all_before
    all_before_is = refl

    pub all_behind_is : bits_all_behind shown b c ≡ flat_map (λ number. bits_behind shown b c (end_at shown.bonds number c)) (numbers_at shown.bonds c)
    unfolding bits_all_behind
    all_behind_is = refl

    bond_no : (is_named shown b && (is_named shown c && differ b c)) ≡ false → (bits : List ℕ) → Adds (bits_of_bond shown b c) bits bits
    unfolding bits_of_bond
    bond_no none bits = rw none (adds_none bits)

    pub bond_first : (bits : List ℕ) → element_at shown.elements b < 2 → Adds (bits_of_bond shown b c) bits bits
    bond_first bits few = bond_no (and_left (is_named shown b) (is_named shown c && differ b c) (not_named b few)) bits

    pub bond_second : (bits : List ℕ) → element_at shown.elements c < 2 → Adds (bits_of_bond shown b c) bits bits
    bond_second bits few = bond_no (and_right (is_named shown b) (is_named shown c && differ b c) (and_left (is_named shown c) (differ b c) (not_named c few))) bits

    pub bond_go : (y z : ℕ) (old mid next after new : List ℕ) → 1 ≤ b → 1 ≤ c → b ≢ c → y ≡ element_at shown.elements b → z ≡ element_at shown.elements c → 2 ≤ y → 2 ≤ z
        → Adds ((2 * 131 * 131 + y * 131 + z) % 512 ∷ []) old mid → Adds ((2 * 131 * 131 + z * 131 + y) % 512 ∷ []) mid next
        → Adds (bits_all_before shown b c) next after → Adds (bits_all_behind shown b c) after new → Adds (bits_of_bond shown b c) old new
    unfolding bits_of_bond
    bond_go y z old mid next after new least_b least_c bc is_y is_z some_y some_z first second before behind =
        rw (and_from (is_named shown b) (is_named shown c && differ b c) (named b least_b (omega arith)) (and_from (is_named shown c) (differ b c) (named c least_c (omega arith)) (apart b c bc)))
        (adds_join (path_bit shown (b ∷ c ∷ []) ∷ path_bit shown (c ∷ b ∷ []) ∷ []) (bits_all_before shown b c ++ bits_all_behind shown b c) old next new
        (two _ _ (path_bit shown (b ∷ c ∷ [])) (path_bit shown (c ∷ b ∷ [])) old mid next (bit_2 b c y z is_y is_z) (bit_2 c b z y is_z is_y) first second)
        (adds_join (bits_all_before shown b c) (bits_all_behind shown b c) next after new before behind))

  pub bonds_none : (bits : List ℕ) → Adds (bits_of_bonds shown 0) bits bits
  unfolding bits_of_bonds
  bonds_none bits = adds_none bits

  pub bonds_more : (n : ℕ) (edge : Edge) (old mid new : List ℕ) → slice_get shown.bonds (n + 1 - 1) ≡ Some edge
      → Adds (bits_of_bonds shown n) old mid → Adds (bits_of_bond shown edge.first edge.second) mid new
      → Adds (bits_of_bonds shown (n + 1)) old new
  unfolding bits_of_bonds
  bonds_more n edge old mid new at first second =
      let place : n + 1 - 1 ≡ n = omega arith in
      let at' : slice_get shown.bonds n ≡ Some edge = rw place at at in
      rw (add-one n) (adds_join (bits_of_bonds shown n) (bits_of_edge shown (slice_get shown.bonds n)) old mid new first (rw at' second))
