-- The bonds of a part stand in the whole.
--     moved_between      a bond between two places
--     bonds_moved        each bond of the part stands in the whole, at the places of its ends there
use Rattle.std.proofs.Common.{◌≡◌, ◌∙◌, ℕ, ◌+◌, ◌-◌, ◌≤◌, inl, inr, Bool, true, false, cond, ◌||◌, ltb, List, [], ◌∷◌, length, get_or, map, refl, sym, ap, subst, arith}
use Rattle.std.specs.Prelude.{Contains}
use Rattle.std.specs.List.{flat_map}
use Rattle.std.proofs.lemmas.Bool.{cases_eq, cases_lt}
use Rattle.std.proofs.lemmas.Bool.Decides.{nat_tests}
use Rattle.std.proofs.lemmas.List.Elements.{All-contains, Contains-append_cases, Contains-append_left, Contains-append_right}
use Rattle.mk_model.specs.declared.template.QueryBond.{QueryBond}
use Rattle.mk_model.specs.declared.template.Slot.{Slot}
use Rattle.mk_model.specs.declared.template.Slot.TheVariants.{Link, Site}
use Rattle.mk_model.specs.Expansions.{all_within, bond_between, bond_joining, bonds_within, chained, copied, drawn, is_hydrogens, is_inside, joined, shifted}
use Rattle.mk_model.specs.Hits.{image}
use Rattle.mk_model.specs.Pieces.{Piece, before, ending, numbers_to, piece, piece_numbered, room, width}
use Rattle.mk_model.specs.Pieces.Piece.{Copies, Member, Hydrogens, Nothing}
use Rattle.mk_model.specs.QueryFits.{IsAtomOf}
use Rattle.mk_model.specs.Templates.{TemplateView, slot_atom}
use Rattle.mk_pieces.specs.Rooms.{AreEndsWithin, IsWithin, StandsAt}
use Rattle.mk_pieces.proofs.DrawnLemmas.{copied_is, drawn_inside, drawn_outside}
use Rattle.mk_pieces.proofs.JoiningLemmas.{in_flat, in_mapped, in_row, in_slots, is_spanned, spanned_is}
use Rattle.mk_pieces.proofs.PairLemmas.{one_of}
use Rattle.mk_pieces.proofs.PieceLemmas.{FitsSlot, fit_at, fit_length}
use Rattle.mk_pieces.proofs.TakerLemmas.{taker_of_slot}
use Rattle.mk_pieces.proofs.TemplateLemmas.{bonds_within as template_bonds, slots_stand}
use Rattle.mk_pieces.proofs.WithinLemmas.{all_within_one, chained_is, image_of}
use Rattle.mk_open_codes.proofs.BondLemmas.{IsInLink, in_link}
use Rattle.mk_open_codes.proofs.PlaceLemmas.{IsLevel, IsPlaceOf, ending_moved, grows, image_at, level_places, level_rise, own_places, place_within}
use Rattle.mk_open_codes.proofs.SharedLemmas.{GrowsBy, moved, numbers_image, places_numbered, still_stands}

module _ (template : TemplateView) (ps qs : List Piece) (others : List (List ℕ)) (level : IsLevel template ps qs others) where
  abbrev e : ℕ → ℕ
  e = image (level_places template qs others)

  abbrev N : ℕ
  N = room template ps (length template.atoms)

  -- a bond stands in the whole
  pub record IsMoved (whole : List QueryBond) (bond : QueryBond) : Type 0 where
    pub ends : AreEndsWithin (room template ps (length template.atoms)) bond
    pub held : Contains whole (moved (level_places template qs others) bond)

  -- a bond between two places
  pub moved_between : (a c kind topology : ℕ) → (1 ≤ a) × (a ≤ room template ps (length template.atoms)) → (1 ≤ c) × (c ≤ room template ps (length template.atoms))
      → moved (level_places template qs others) (bond_between a c kind topology) ≡ bond_between (image (level_places template qs others) a) (image (level_places template qs others) c) kind topology
  moved_between a c kind topology is_a is_c = elim (cases_lt a c) [
    | inl less ↦
        (let up = level_rise template ps qs others level a c is_a.0 less is_c.1 in
        let one : ltb a c ≡ true = grind (arith, nat_tests) in
        let two : ltb (e a) (e c) ≡ true = grind (arith, nat_tests) in
        rw (one, two) refl)
    | inr more ↦
        (let upto : e c ≤ e a = elim (cases_eq a c) [
          | inl same ↦ (let here = ap e same in omega (arith, here))
          | inr differ ↦ (let up = level_rise template ps qs others level c a is_c.0 (omega arith) is_a.1 in omega (arith, up))
        ] in
        let one : ltb a c ≡ false = grind (arith, nat_tests) in
        let two : ltb (e a) (e c) ≡ false = grind (arith, nat_tests) in
        rw (one, two) refl)
  ]

  between_ends : (a c kind topology : ℕ) → (1 ≤ a) × (a ≤ room template ps (length template.atoms)) → (1 ≤ c) × (c ≤ room template ps (length template.atoms))
      → AreEndsWithin (room template ps (length template.atoms)) (bond_between a c kind topology)
  between_ends a c kind topology is_a is_c = by (ltb a c)
    where
      by : (less : Bool) → AreEndsWithin (room template ps (length template.atoms)) (cond less (record { first = a; second = c; kind = kind; topology = topology })
          (record { first = c; second = a; kind = kind; topology = topology }))
      by true = record { first = is_a; second = is_c }
      by false = record { first = is_c; second = is_a }

  is_moved : (whole : List QueryBond) (bond : QueryBond) (a c kind topology : ℕ) → bond ≡ bond_between a c kind topology → (1 ≤ a) × (a ≤ room template ps (length template.atoms))
      → (1 ≤ c) × (c ≤ room template ps (length template.atoms))
      → Contains whole (bond_between (image (level_places template qs others) a) (image (level_places template qs others) c) kind topology) → IsMoved whole bond
  is_moved whole bond a c kind topology is is_a is_c held =
      subst (IsMoved whole) (sym is) (record { ends = between_ends a c kind topology is_a is_c; held = subst (Contains whole) (sym (moved_between a c kind topology is_a is_c)) held })

  -- ---- inside a block

  pub copy_at : (m w i : ℕ) → IsAtomOf template w → own_places template others w ≡ numbers_to m → width (piece template ps w) ≡ m → 1 ≤ i → i ≤ m
      → IsPlaceOf template ps w i (before template ps w + i) × (image (level_places template qs others) (before template ps w + i) ≡ before template qs w + i)
  copy_at m w i is own wide least most =
      let place : IsPlaceOf template ps w i (before template ps w + i) = record { at = is; least = least; most = omega (arith, most, wide); is = refl } in
      let there = image_at template ps qs others level w i (before template ps w + i) place in
      let number : image (own_places template others w) i ≡ i = ap (λ (ns : List ℕ). image ns i) own ∙ numbers_image m i least most in
      (place, omega (arith, there, number))

  pub row_held : (bond : QueryBond) (x y n j : ℕ) → 1 ≤ j → j ≤ n → Contains (copied bond x y n) (bond_between (x + j) (y + j) bond.kind bond.topology)
  unfolding copied
  row_held bond x y n j least most = in_row (λ i. bond_between (x + i) (y + i) bond.kind bond.topology) n j least most

  inside_moved : (bond b : QueryBond) → IsWithin template bond → is_inside template bond ≡ true → Contains (drawn template ps bond) b → IsMoved (drawn template qs bond) b
  inside_moved bond b within inside held = by (in_link template ps qs others level bond within inside)
    where
      copy : Contains (copied bond (before template ps bond.first) (before template ps bond.second) (width (piece template ps bond.first))) b
      copy = subst (λ (bs : List QueryBond). Contains bs b) (drawn_inside template ps bond inside) held

      by : IsInLink template ps qs others level bond.first bond.second → IsMoved (drawn template qs bond) b
      by link =
          let found = copied_is bond (before template ps bond.first) (before template ps bond.second) (width (piece template ps bond.first)) b copy in
          elim link.part [
            | inl there ↦
                (let most : found.j ≤ link.times = omega (arith, found.most, ap width there.0) in
                let second : piece template ps bond.second ≡ Copies link.times = ap (piece_numbered ps) (sym link.same) ∙ there.0 in
                let second' : own_places template others bond.second ≡ numbers_to link.times = ap (places_numbered others) (sym link.same) ∙ there.1 in
                let u = copy_at link.times bond.first found.j within.first there.1 (ap width there.0) found.least most in
                let v = copy_at link.times bond.second found.j within.second second' (ap width second) found.least most in
                let whole : drawn template qs bond ≡ copied bond (before template qs bond.first) (before template qs bond.second) link.times =
                drawn_inside template qs bond inside ∙ ap (copied bond (before template qs bond.first) (before template qs bond.second)) (ap width link.whole) in
                let row = row_held bond (before template qs bond.first) (before template qs bond.second) link.times found.j found.least most in
                let row' : Contains (drawn template qs bond) (bond_between (before template qs bond.first + found.j) (before template qs bond.second + found.j) bond.kind bond.topology) =
                subst (λ (bs : List QueryBond). Contains bs (bond_between (before template qs bond.first + found.j) (before template qs bond.second + found.j) bond.kind bond.topology))
                (sym whole) row in
                is_moved (drawn template qs bond) b (before template ps bond.first + found.j) (before template ps bond.second + found.j) bond.kind bond.topology found.is
                (place_within template ps bond.first found.j (before template ps bond.first + found.j) u.0)
                (place_within template ps bond.second found.j (before template ps bond.second + found.j) v.0)
                (subst (λ (q : ℕ). Contains (drawn template qs bond) (bond_between q (e (before template ps bond.second + found.j)) bond.kind bond.topology)) (sym u.1)
                (subst (λ (q : ℕ). Contains (drawn template qs bond) (bond_between (before template qs bond.first + found.j) q bond.kind bond.topology)) (sym v.1) row')))
            | inr none ↦ absurd (omega (arith, found.least, found.most, ap width none))
          ]

  -- ---- between two pieces

  outside_moved : (bond b : QueryBond) → IsWithin template bond → is_inside template bond ≡ false → Contains (drawn template ps bond) b → IsMoved (drawn template qs bond) b
  outside_moved bond b within outside held =
      let u = bond.first in
      let v = bond.second in
      let found = is_spanned (piece template ps u) (piece template ps v) bond (ending template ps u v) (ending template ps v u) b
      (subst (λ (bs : List QueryBond). Contains bs b) (drawn_outside template ps bond outside) held) in
      let one = still_stands (piece template ps u) (piece template qs u) (own_places template others u) (grows template ps qs others level u) found.one_there in
      let other = still_stands (piece template ps v) (piece template qs v) (own_places template others v) (grows template ps qs others level v) found.other_there in
      let end = ending_moved template ps qs others level u v within.first within.second.0 found.one_there in
      let end' = ending_moved template ps qs others level v u within.second within.first.0 found.other_there in
      let h = is_hydrogens (piece template ps u) || is_hydrogens (piece template ps v) in
      let same : (is_hydrogens (piece template qs u) || is_hydrogens (piece template qs v)) ≡ (is_hydrogens (piece template ps u) || is_hydrogens (piece template ps v)) =
      ap (λ (c : Bool). c || is_hydrogens (piece template qs v)) one.1 ∙ ap (λ (c : Bool). is_hydrogens (piece template ps u) || c) other.1 in
      let whole : drawn template qs bond ≡ bond_between (e (ending template ps u v)) (e (ending template ps v u)) (cond h 1 bond.kind) (cond h 0 bond.topology) ∷ [] =
      drawn_outside template qs bond outside ∙ spanned_is (piece template qs u) (piece template qs v) bond (ending template qs u v) (ending template qs v u) one.0 other.0
      ∙ ap (λ (c : Bool). bond_between (ending template qs u v) (ending template qs v u) (cond c 1 bond.kind) (cond c 0 bond.topology) ∷ []) same
      ∙ ap (λ (q : ℕ). bond_between q (ending template qs v u) (cond h 1 bond.kind) (cond h 0 bond.topology) ∷ []) (sym end.is)
      ∙ ap (λ (q : ℕ). bond_between (e (ending template ps u v)) q (cond h 1 bond.kind) (cond h 0 bond.topology) ∷ []) (sym end'.is) in
      is_moved (drawn template qs bond) b (ending template ps u v) (ending template ps v u) (cond h 1 bond.kind) (cond h 0 bond.topology) found.is
      (place_within template ps u _ (ending template ps u v) end.place) (place_within template ps v _ (ending template ps v u) end'.place)
      (subst (λ (bs : List QueryBond). Contains bs (bond_between (e (ending template ps u v)) (e (ending template ps v u)) (cond h 1 bond.kind) (cond h 0 bond.topology)))
      (sym whole) (0, omega arith, refl))

  drawn_moved : (bond b : QueryBond) → Contains template.bonds bond → Contains (drawn template ps bond) b → IsMoved (drawn template qs bond) b
  drawn_moved bond b at held = by (is_inside template bond) refl
    where
      within : IsWithin template bond
      within = All-contains (IsWithin template) template.bonds bond (template_bonds template level.kept) at

      by : (c : Bool) → is_inside template bond ≡ c → IsMoved (drawn template qs bond) b
      by true inside = inside_moved bond b within inside held
      by false outside = outside_moved bond b within outside held

  -- ---- within slots

  pub step_held : (bond : QueryBond) (x n j : ℕ) → 1 ≤ j → j ≤ n → Contains (chained bond x n) (record { first = x + j; second = x + j + 1; kind = bond.kind; topology = bond.topology })
  unfolding chained
  step_held bond x n j least most = in_row (λ c. record { first = x + c; second = x + c + 1; kind = bond.kind; topology = bond.topology }) n j least most

  pub bond_is : (b : QueryBond) (x y kind topology : ℕ) → b.first ≡ x → b.second ≡ y → b.kind ≡ kind → b.topology ≡ topology → record { first = x; second = y; kind = kind; topology = topology } ≡ b
  bond_is b x y kind topology p q r s =
      ap (λ (z : ℕ). four z y kind topology) (sym p) ∙ ap (λ (z : ℕ). four b.first z kind topology) (sym q) ∙ ap (λ (z : ℕ). four b.first b.second z topology) (sym r)
      ∙ ap (λ (z : ℕ). four b.first b.second b.kind z) (sym s)
    where
      four : ℕ → ℕ → ℕ → ℕ → QueryBond
      four w x' y' z' = record { first = w; second = x'; kind = y'; topology = z' }

  pub slot_moved : (slot : Slot) (r q : Piece) (b : QueryBond) → IsAtomOf template (slot_atom slot) → FitsSlot slot q → piece template ps (slot_atom slot) ≡ r
      → GrowsBy r q (own_places template others (slot_atom slot)) → Contains (bonds_within template.bonds (before template ps (slot_atom slot)) slot r) b
      → IsMoved (bonds_within template.bonds (before template qs (slot_atom slot)) slot q) b
  slot_moved (Link a m f o) (Copies n) (Copies n') b at fits is grow held =
      let bond = bond_joining template.bonds a f in
      let step = chained_is bond (before template ps a) (n - 1) b held in
      let u = copy_at n a step.j at grow.1 (ap width is) step.least (omega (arith, step.most)) in
      let v = copy_at n a (step.j + 1) at grow.1 (ap width is) (omega arith) (omega (arith, step.least, step.most)) in
      let next : b.second ≡ before template ps a + (step.j + 1) = omega (arith, step.second) in
      let first : e b.first ≡ before template qs a + step.j = ap e step.first ∙ u.1 in
      let second : e b.second ≡ before template qs a + step.j + 1 = ap e next ∙ v.1 ∙ omega arith in
      let inside = place_within template ps a step.j (before template ps a + step.j) u.0 in
      let inside' = place_within template ps a (step.j + 1) (before template ps a + (step.j + 1)) v.0 in
      record {
        ends = record { first = (omega (arith, step.first, inside.0), omega (arith, step.first, inside.1)); second = (omega (arith, next, inside'.0), omega (arith, next, inside'.1)) };
        held = subst (λ (k : ℕ). Contains (chained bond (before template qs a) (k - 1)) (moved (level_places template qs others) b)) grow.0
            (subst (Contains (chained bond (before template qs a) (n - 1)))
            (bond_is (moved (level_places template qs others) b) (before template qs a + step.j) (before template qs a + step.j + 1) bond.kind bond.topology first second step.kind step.topology)
            (step_held bond (before template qs a) (n - 1) step.j step.least step.most));
      }
  slot_moved (Link a m f o) (Member part) q b at fits is grow held = absurd (omega (arith, held.1))
  slot_moved (Link a m f o) (Hydrogens n) q b at fits is grow held = absurd (omega (arith, held.1))
  slot_moved (Link a m f o) Nothing q b at fits is grow held = absurd (omega (arith, held.1))
  slot_moved (Link a m f o) (Copies n) (Member whole) b at fits is grow held = absurd grow
  slot_moved (Link a m f o) (Copies n) (Hydrogens n') b at fits is grow held = absurd grow
  slot_moved (Link a m f o) (Copies n) Nothing b at fits is grow held = absurd grow
  slot_moved (Site a g f o) (Member part) (Member whole) b at fits is grow held =
      let found = image_of (before template ps a) part.bonds b held in
      let ends = grow.ends found.from found.at in
      let inner = grow.bonds found.from found.at in
      let there = in_mapped (shifted (before template qs a)) whole.bonds (moved (own_places template others a) found.from) inner in
      let end_at : (s : ℕ) → 1 ≤ s → s ≤ length part.atoms → IsPlaceOf template ps a s (before template ps a + s) = λ s least most.
      record { at = at; least = least; most = omega (arith, most, ap width is); is = refl } in
      let one = end_at found.from.first ends.first.0 ends.first.1 in
      let two = end_at found.from.second ends.second.0 ends.second.1 in
      let inside = place_within template ps a found.from.first (before template ps a + found.from.first) one in
      let inside' = place_within template ps a found.from.second (before template ps a + found.from.second) two in
      let first = image_at template ps qs others level a found.from.first (before template ps a + found.from.first) one in
      let second = image_at template ps qs others level a found.from.second (before template ps a + found.from.second) two in
      subst (IsMoved (map (shifted (before template qs a)) whole.bonds)) found.is (record {
        ends = record { first = inside; second = inside' };
        held = subst (Contains (map (shifted (before template qs a)) whole.bonds))
            (bond_is (moved (level_places template qs others) (shifted (before template ps a) found.from)) _ _ found.from.kind found.from.topology first second refl refl) there;
      })
  slot_moved (Site a g f o) (Copies n) q b at fits is grow held = absurd (omega (arith, held.1))
  slot_moved (Site a g f o) (Hydrogens n) q b at fits is grow held = absurd (omega (arith, held.1))
  slot_moved (Site a g f o) Nothing q b at fits is grow held = absurd (omega (arith, held.1))
  slot_moved (Site a g f o) (Member part) (Copies n) b at fits is grow held = absurd grow
  slot_moved (Site a g f o) (Member part) (Hydrogens n) b at fits is grow held = absurd grow
  slot_moved (Site a g f o) (Member part) Nothing b at fits is grow held = absurd grow

  -- ---- all bonds

  pub record IsBondMoved (b : QueryBond) : Type 0 where
    pub ends : AreEndsWithin (room template ps (length template.atoms)) b
    pub held : Contains (joined template qs).bonds (moved (level_places template qs others) b)

  -- each bond of the part stands in the whole
  pub bonds_moved : (b : QueryBond) → Contains (joined template ps).bonds b → IsBondMoved b
  unfolding joined
  bonds_moved b held = elim (Contains-append_cases (flat_map (drawn template ps) template.bonds) (all_within template ps template.slots ps) b held) [
    | inl outer ↦
        (let found = one_of (drawn template ps) template.bonds b outer in
        let there = drawn_moved found.0 b found.1 found.2 in
        record {
          ends = there.ends;
          held = Contains-append_left (flat_map (drawn template qs) template.bonds) (all_within template qs template.slots qs) (moved (level_places template qs others) b)
              (in_flat (drawn template qs) template.bonds found.0 (moved (level_places template qs others) b) found.1 there.held);
        })
    | inr inner ↦
        (let found = all_within_one template ps template.slots ps b inner in
        let slot = get_or template.slots found.0 (Link 0 0 0 0) in
        let stands : StandsAt template slot = slots_stand template level.kept found.0 (Link 0 0 0 0) found.1 in
        let number = taker_of_slot template level.kept found.0 (Link 0 0 0 0) found.1 in
        let part_is : piece template ps (slot_atom slot) ≡ get_or ps found.0 (Copies 1) = ap (piece_numbered ps) number in
        let whole_is : piece template qs (slot_atom slot) ≡ get_or qs found.0 (Copies 1) = ap (piece_numbered qs) number in
        let grow : GrowsBy (get_or ps found.0 (Copies 1)) (get_or qs found.0 (Copies 1)) (own_places template others (slot_atom slot)) =
        subst (λ (q : Piece). GrowsBy (get_or ps found.0 (Copies 1)) q (own_places template others (slot_atom slot))) whole_is
        (subst (λ (r : Piece). GrowsBy r (piece template qs (slot_atom slot)) (own_places template others (slot_atom slot))) part_is (grows template ps qs others level (slot_atom slot))) in
        let there = slot_moved slot (get_or ps found.0 (Copies 1)) (get_or qs found.0 (Copies 1)) b stands
        (fit_at template.slots qs found.0 (Link 0 0 0 0) (Copies 1) found.1 level.fit) part_is grow found.2 in
        record {
          ends = there.ends;
          held = Contains-append_right (flat_map (drawn template qs) template.bonds) (all_within template qs template.slots qs) (moved (level_places template qs others) b)
              (in_slots template qs template.slots qs found.0 (moved (level_places template qs others) b) found.1 (fit_length template.slots qs level.fit) there.held);
        })
  ]
