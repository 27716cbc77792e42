-- What a bond of a template becomes in a part and in the whole.
--     nothing_wide        nothing has no atoms
--     transfer            spokes of places of the part, in the whole
--     no_spokes           bonds between other atoms of the template are no spokes
--     in_link             both ends of a bond in one block
--     bond_claim          a bond has no more spokes and loose ends in the whole than in the part
--     bond_lower          and no fewer spokes
use Rattle.std.proofs.Common.{◌≡◌, ◌≢◌, ◌∙◌, ℕ, zero, suc, ◌+◌, ◌-◌, ◌<◌, ◌≤◌, ◌⊎◌, inl, inr, Bool, true, false, ◌&&◌, ◌||◌, not, eqb, List, [], ◌∷◌, length, get_or, refl, sym, ap, subst, arith}
use Rattle.std.specs.Prelude.{Contains, count_by}
use Rattle.std.proofs.lemmas.Bool.{cases_eq}
use Rattle.std.proofs.lemmas.Bool.Decides.{nat_tests}
use Rattle.std.proofs.lemmas.List.Elements.{All-contains}
use Rattle.mk_model.specs.declared.template.QueryBond.{QueryBond}
use Rattle.mk_model.specs.declared.template.Slot.{Slot}
use Rattle.mk_model.specs.declared.template.Slot.TheVariants.{Link, Site}
use Rattle.mk_model.specs.Expansions.{bond_between, copied, drawn, is_inside, is_nothing}
use Rattle.mk_model.specs.Hits.{image}
use Rattle.mk_model.specs.Pieces.{Piece, before, ending, numbers_to, piece, piece_numbered, room, taker, width}
use Rattle.mk_model.specs.Pieces.Piece.{Copies, Member, Hydrogens, Nothing}
use Rattle.mk_model.specs.Sizes.{takes_atom}
use Rattle.mk_model.specs.QueryFits.{IsAtomOf}
use Rattle.mk_model.specs.Templates.{TemplateView}
use Rattle.mk_pieces.specs.Fragments.{HasRange}
use Rattle.mk_pieces.specs.Rooms.{IsWithin}
use Rattle.mk_pieces.proofs.DrawnLemmas.{drawn_inside, drawn_outside, drawn_spans, ending_is_of}
use Rattle.mk_pieces.proofs.PieceLemmas.{FitsSlot, all_stand, fit_at}
use Rattle.mk_pieces.proofs.SpanLemmas.{IsOf, Spans, one_atom}
use Rattle.mk_pieces.proofs.StandLemmas.{own_only}
use Rattle.mk_pieces.proofs.TakerLemmas.{taker_is_slot}
use Rattle.mk_pieces.proofs.TemplateLemmas.{bonds_within}
use Rattle.mk_expand.specs.OpenGraphs.{is_loose}
use Rattle.mk_expand.proofs.CountLemmas.{count_mapped, count_none, count_same, one_if}
use Rattle.mk_open_codes.proofs.PlaceLemmas.{IsLevel, IsPlaceOf, ending_moved, grows, image_at, image_of, level_places, own_places, place_within, same_place}
use Rattle.mk_open_codes.proofs.SharedLemmas.{GrowsBy, numbers_image, numbers_size, places_numbered, still_stands}
use Rattle.mk_open_codes.proofs.SpokeLemmas.{IsEndSo, meets_at, no_spoke, pieces_claim, pieces_lower, spanned_count, spoke, spoke_between}

-- nothing has no atoms
pub nothing_wide : (p : Piece) → is_nothing p ≡ true → width p ≡ 0
nothing_wide (Copies n) is = absurd cc
nothing_wide (Member part) is = absurd cc
nothing_wide (Hydrogens n) is = absurd cc
nothing_wide Nothing is = refl

-- the numbers up to n
pub numbers_hold : (n j : ℕ) → Contains (numbers_to n) j → (1 ≤ j) × (j ≤ n)
numbers_hold n j (i, below, is) =
    let less : i < n = omega (arith, below, numbers_size n) in
    let at = numbers_image n (i + 1) (omega arith) (omega arith) in
    let place : i + 1 - 1 ≡ i = omega arith in
    let here : get_or (numbers_to n) i 0 ≡ i + 1 = ap (λ (k : ℕ). get_or (numbers_to n) k 0) (sym place) ∙ at in
    let there : get_or (numbers_to n) i j ≡ get_or (numbers_to n) i 0 = sym (defaults (numbers_to n) i j 0 below) in
    (omega (arith, is, there, here), omega (arith, is, there, here, less))
  where
    defaults : (xs : List ℕ) (k d e : ℕ) → k < length xs → get_or xs k e ≡ get_or xs k d
    defaults [] k d e below = absurd (omega arith)
    defaults (x ∷ xs) zero d e below = refl
    defaults (x ∷ xs) (suc k) d e below = defaults xs k d e (omega arith)

module _ (template : TemplateView) (ps qs : List Piece) (others : List (List ℕ)) (level : IsLevel template ps qs others) where
  -- the place in the whole
  abbrev e : ℕ → ℕ
  e = image (level_places template qs others)

  abbrev IsPlace : ℕ → Type 0
  IsPlace p = (1 ≤ p) × (p ≤ room template ps (length template.atoms))

  -- spokes of places of the part, in the whole
  pub transfer : (P : ℕ → Bool) (p a c : ℕ) → (1 ≤ p) × (p ≤ room template ps (length template.atoms)) → (1 ≤ a) × (a ≤ room template ps (length template.atoms))
      → (1 ≤ c) × (c ≤ room template ps (length template.atoms))
      → meets_at P (image (level_places template qs others) p) (image (level_places template qs others) a) (image (level_places template qs others) c)
      ≡ meets_at (λ q. P (image (level_places template qs others) q)) p a c
  transfer P p a c is_p is_a is_c =
      let first = same_place template ps qs others level a p is_a.0 is_a.1 is_p.0 is_p.1 in
      let second = same_place template ps qs others level c p is_c.0 is_c.1 is_p.0 is_p.1 in
      ap (λ (b : Bool). (b && P (e c)) || (eqb (e c) (e p) && P (e a))) first ∙ ap (λ (b : Bool). (eqb a p && P (e c)) || (b && P (e a))) second

  -- ---- a bond inside a block

  -- both ends are in the block of a link, which stands so many times in the whole, and in the part
  -- as often or not at all
  pub record IsInLink (u v : ℕ) : Type 0 where
    pub same : taker template u ≡ taker template v
    pub times : ℕ
    pub whole : piece template qs u ≡ Copies times
    pub part : ((piece template ps u ≡ Copies times) × (own_places template others u ≡ numbers_to times)) ⊎ (piece template ps u ≡ Nothing)

  pub in_link : (bond : QueryBond) → IsWithin template bond → is_inside template bond ≡ true → IsInLink bond.first bond.second
  in_link bond within inside = by (taker template bond.first) refl same
    where
      parts : (a b : Bool) → (not a && b) ≡ true → (a ≡ false) × (b ≡ true)
      parts true b is = absurd cc
      parts false true is = (refl, refl)
      parts false false is = absurd cc

      both : (eqb (taker template bond.first) 0 ≡ false) × (eqb (taker template bond.first) (taker template bond.second) ≡ true)
      both = parts (eqb (taker template bond.first) 0) (eqb (taker template bond.first) (taker template bond.second)) inside

      same : taker template bond.first ≡ taker template bond.second
      same = (let is = both.1 in grind (arith, nat_tests))

      of_pieces : (p' q' : Piece) (places : List ℕ) → taker template bond.first ≡ taker template bond.second → (m : ℕ) → q' ≡ Copies m
          → piece template ps bond.first ≡ p' → piece template qs bond.first ≡ q' → own_places template others bond.first ≡ places → GrowsBy p' q' places → IsInLink bond.first bond.second
      of_pieces (Copies n) q' places s m is at_p at_q at_places grow =
          (let grow' : GrowsBy (Copies n) (Copies m) places = subst (λ (r : Piece). GrowsBy (Copies n) r places) is grow in
          record { same = s; times = m; whole = at_q ∙ is; part = inl (at_p ∙ ap Copies grow'.0, at_places ∙ grow'.1 ∙ ap numbers_to grow'.0) })
      of_pieces (Member part) q' places s m is at_p at_q at_places grow =
          absurd (let grow' : GrowsBy (Member part) (Copies m) places = subst (λ (r : Piece). GrowsBy (Member part) r places) is grow in grow')
      of_pieces (Hydrogens n) q' places s m is at_p at_q at_places grow =
          absurd (let grow' : GrowsBy (Hydrogens n) (Copies m) places = subst (λ (r : Piece). GrowsBy (Hydrogens n) r places) is grow in grow')
      of_pieces Nothing q' places s m is at_p at_q at_places grow = record { same = s; times = m; whole = at_q ∙ is; part = inr at_p }

      copies : (q' : Piece) (a m f o : ℕ) → FitsSlot (Link a m f o) q' → (n : ℕ) × (q' ≡ Copies n)
      copies (Copies n) a m f o fits = (n, refl)
      copies (Member part) a m f o fits = absurd fits
      copies (Hydrogens n) a m f o fits = absurd fits
      copies Nothing a m f o fits = absurd fits

      by_slot : (k : ℕ) (slot : Slot) → taker template bond.first ≡ suc k → takes_atom template bond.first slot ≡ true → takes_atom template bond.second slot ≡ true
          → FitsSlot slot (piece template qs bond.first) → IsInLink bond.first bond.second
      by_slot k (Link a m f o) is one other fits =
          let count = copies (piece template qs bond.first) a m f o fits in
          of_pieces (piece template ps bond.first) (piece template qs bond.first) (own_places template others bond.first) same count.0 count.1 refl refl refl
          (grows template ps qs others level bond.first)
      by_slot k (Site a g f o) is one other fits = absurd (within.differ (sym (own_only a bond.first one) ∙ own_only a bond.second other))

      by : (n : ℕ) → taker template bond.first ≡ n → taker template bond.first ≡ taker template bond.second → IsInLink bond.first bond.second
      by zero is s = absurd (let no : eqb (taker template bond.first) 0 ≡ true = grind (arith, nat_tests) in let other = both.0 in cc)
      by (suc k) is s =
          let one = taker_is_slot template bond.first k is in
          let other = taker_is_slot template bond.second k (sym s ∙ is) in
          let fits : FitsSlot (get_or template.slots k (Link 0 0 0 0)) (piece template qs bond.first) =
          subst (λ (n : ℕ). FitsSlot (get_or template.slots k (Link 0 0 0 0)) (piece_numbered qs n)) (sym is) (fit_at template.slots qs k (Link 0 0 0 0) (Copies 1) one.within level.fit) in
          by_slot k (get_or template.slots k (Link 0 0 0 0)) is (one.takes (Link 0 0 0 0)) (other.takes (Link 0 0 0 0)) fits

  module _ (P : ℕ → Bool) (x j p : ℕ) (at : IsPlaceOf template ps x j p) where
    -- bonds between other atoms of the template don't end there
    pub no_spokes : (u v : ℕ) → x ≢ u → x ≢ v → (bs : List QueryBond) → ((b : QueryBond) → Contains bs b → Spans template qs u v b)
        → count_by (spoke P (image (level_places template qs others) p)) bs ≡ 0
    no_spokes u v other other' bs spans = count_none (spoke P (e p)) bs (λ b held. by b (spans b held).ends)
      where
        not_here : (w q : ℕ) → x ≢ w → IsOf template qs w q → q ≢ image (level_places template qs others) p
        not_here w q differ of same =
            differ (one_atom template qs x w (image (level_places template qs others) p) (image_of template ps qs others level x j p at) (subst (IsOf template qs w) same of))

        by : (b : QueryBond) → (IsOf template qs u b.first × IsOf template qs v b.second) ⊎ (IsOf template qs u b.second × IsOf template qs v b.first)
            → spoke P (image (level_places template qs others) p) b ≡ false
        by b (inl s) = no_spoke P _ b.first b.second (not_here u b.first other s.0) (not_here v b.second other' s.1)
        by b (inr s) = no_spoke P _ b.first b.second (not_here v b.first other' s.1) (not_here u b.second other s.0)

    -- what stands there isn't nothing
    pub stands_there : is_nothing (piece template ps x) ≡ true → ⊥
    stands_there none = omega (arith, nothing_wide (piece template ps x) none, at.least, at.most)

    -- ---- a bond between two pieces

    end_so : (u v : ℕ) → IsAtomOf template u → 1 ≤ v
        → IsEndSo (is_nothing (piece template ps u)) (is_nothing (piece template qs u)) (eqb (ending template ps u v) p) (eqb (ending template qs u v) (image (level_places template qs others) p))
        (P (image (level_places template qs others) (ending template ps u v))) (P (ending template qs u v))
    end_so u v is least = record {
      stands = λ some. (still_stands (piece template ps u) (piece template qs u) (own_places template others u) (grows template ps qs others level u) some).0;
      same_place = λ some.
          let end = ending_moved template ps qs others level u v is least some in
          let inside = place_within template ps u _ (ending template ps u v) end.place in
          let here = place_within template ps x j p at in
          ap (λ (q : ℕ). eqb q (e p)) (sym end.is) ∙ same_place template ps qs others level (ending template ps u v) p inside.0 inside.1 here.0 here.1;
      same_test = λ some. ap P (sym (ending_moved template ps qs others level u v is least some).is);
      elsewhere = λ none some. elim (cases_eq (ending template qs u v) (e p)) [
        | inl same ↦ absurd (let of = ending_is_of template qs (all_stand template.slots qs level.fit) u v is.0 least some in
            let own = one_atom template qs u x (e p) (subst (IsOf template qs u) same of) (image_of template ps qs others level x j p at) in
            stands_there (ap (λ (w : ℕ). is_nothing (piece template ps w)) (sym own) ∙ none))
        | inr differ ↦ grind (arith, nat_tests)
      ];
    }

    outside_claim : (bond : QueryBond) → IsWithin template bond → is_inside template bond ≡ false
        → count_by (spoke P (image (level_places template qs others) p)) (drawn template qs bond) + one_if (is_loose template qs (image (level_places template qs others) p) bond)
        ≤ count_by (spoke (λ q. P (image (level_places template qs others) q)) p) (drawn template ps bond) + one_if (is_loose template ps p bond)
    outside_claim bond within outside =
        let u = bond.first in
        let v = bond.second in
        let here = ap (count_by (spoke P (e p))) (drawn_outside template qs bond outside)
        ∙ spanned_count P (e p) (piece template qs u) (piece template qs v) bond (ending template qs u v) (ending template qs v u) in
        let there = ap (count_by (spoke (λ q. P (e q)) p)) (drawn_outside template ps bond outside)
        ∙ spanned_count (λ q. P (e q)) p (piece template ps u) (piece template ps v) bond (ending template ps u v) (ending template ps v u) in
        let claim = pieces_claim (is_nothing (piece template ps u)) (is_nothing (piece template ps v)) (is_nothing (piece template qs u)) (is_nothing (piece template qs v))
        (eqb (ending template ps u v) p) (eqb (ending template ps v u) p) (eqb (ending template qs u v) (e p)) (eqb (ending template qs v u) (e p))
        (P (e (ending template ps u v))) (P (e (ending template ps v u))) (P (ending template qs u v)) (P (ending template qs v u))
        (end_so u v within.first within.second.0) (end_so v u within.second within.first.0) in
        omega (arith, here, there, claim)

    -- the copies of a bond
    copied_claim : (bond : QueryBond) (m : ℕ) → IsWithin template bond → own_places template others bond.first ≡ numbers_to m → own_places template others bond.second ≡ numbers_to m
        → width (piece template ps bond.first) ≡ m → width (piece template ps bond.second) ≡ m
        → count_by (spoke P (image (level_places template qs others) p)) (copied bond (before template qs bond.first) (before template qs bond.second) m)
        ≡ count_by (spoke (λ q. P (image (level_places template qs others) q)) p) (copied bond (before template ps bond.first) (before template ps bond.second) m)
    unfolding copied
    copied_claim bond m within first second wide wide' =
        count_mapped (spoke P (e p)) (λ i. bond_between (before template qs bond.first + i) (before template qs bond.second + i) bond.kind bond.topology) (numbers_to m)
        ∙ count_same _ _ (numbers_to m) (λ i held. one i (numbers_hold m i held))
        ∙ sym (count_mapped (spoke (λ q. P (e q)) p) (λ i. bond_between (before template ps bond.first + i) (before template ps bond.second + i) bond.kind bond.topology) (numbers_to m))
      where
        copy_at : (w i : ℕ) → IsAtomOf template w → own_places template others w ≡ numbers_to m → width (piece template ps w) ≡ m → (1 ≤ i) × (i ≤ m)
            → IsPlaceOf template ps w i (before template ps w + i) × (image (level_places template qs others) (before template ps w + i) ≡ before template qs w + i)
        copy_at w i is own wide_is within_i =
            let place : IsPlaceOf template ps w i (before template ps w + i) = record { at = is; least = within_i.0; most = omega (arith, within_i.1, wide_is); is = refl } in
            let there = image_at template ps qs others level w i (before template ps w + i) place in
            let number : image (own_places template others w) i ≡ i = ap (λ (ns : List ℕ). image ns i) own ∙ numbers_image m i within_i.0 within_i.1 in
            (place, omega (arith, there, number))

        one : (i : ℕ) → (1 ≤ i) × (i ≤ m)
            → spoke P (image (level_places template qs others) p) (bond_between (before template qs bond.first + i) (before template qs bond.second + i) bond.kind bond.topology)
            ≡ spoke (λ q. P (image (level_places template qs others) q)) p (bond_between (before template ps bond.first + i) (before template ps bond.second + i) bond.kind bond.topology)
        one i is =
            let u = copy_at bond.first i within.first first wide is in
            let v = copy_at bond.second i within.second second wide' is in
            let inside = place_within template ps bond.first i (before template ps bond.first + i) u.0 in
            let inside' = place_within template ps bond.second i (before template ps bond.second + i) v.0 in
            let here = place_within template ps x j p at in
            spoke_between P (e p) (before template qs bond.first + i) (before template qs bond.second + i) bond.kind bond.topology
            ∙ ap (λ (q : ℕ). meets_at P (e p) q (before template qs bond.second + i)) (sym u.1) ∙ ap (meets_at P (e p) (e (before template ps bond.first + i))) (sym v.1)
            ∙ transfer P p (before template ps bond.first + i) (before template ps bond.second + i) here inside inside'
            ∙ sym (spoke_between (λ q. P (e q)) p (before template ps bond.first + i) (before template ps bond.second + i) bond.kind bond.topology)

    not_loose : (bond : QueryBond) (pieces : List Piece) (q : ℕ) → taker template bond.first ≡ taker template bond.second → one_if (is_loose template pieces q bond) ≡ 0
    not_loose bond pieces q same =
        let alike : is_nothing (piece template pieces bond.second) ≡ is_nothing (piece template pieces bond.first) = ap (λ (n : ℕ). is_nothing (piece_numbered pieces n)) (sym same) in
        ap (λ (b : Bool). one_if ((b && (not (is_nothing (piece template pieces bond.first)) && eqb (ending template pieces bond.first bond.second) q))
        || (is_nothing (piece template pieces bond.first) && (not b && eqb (ending template pieces bond.second bond.first) q)))) alike
        ∙ by (is_nothing (piece template pieces bond.first)) (eqb (ending template pieces bond.first bond.second) q) (eqb (ending template pieces bond.second bond.first) q)
      where
        by : (n h k : Bool) → one_if ((n && (not n && h)) || (n && (not n && k))) ≡ 0
        by true h k = refl
        by false h k = refl

    inside_claim : (bond : QueryBond) → Contains template.bonds bond → IsWithin template bond → is_inside template bond ≡ true
        → count_by (spoke P (image (level_places template qs others) p)) (drawn template qs bond) + one_if (is_loose template qs (image (level_places template qs others) p) bond)
        ≤ count_by (spoke (λ q. P (image (level_places template qs others) q)) p) (drawn template ps bond) + one_if (is_loose template ps p bond)
    inside_claim bond held within inside = by (in_link bond within inside)
      where
        by : IsInLink bond.first bond.second
            → count_by (spoke P (image (level_places template qs others) p)) (drawn template qs bond) + one_if (is_loose template qs (image (level_places template qs others) p) bond)
            ≤ count_by (spoke (λ q. P (image (level_places template qs others) q)) p) (drawn template ps bond) + one_if (is_loose template ps p bond)
        by link = elim link.part [
          | inl there ↦
              (let none = not_loose bond qs (e p) link.same in
              let whole : drawn template qs bond ≡ copied bond (before template qs bond.first) (before template qs bond.second) link.times =
              drawn_inside template qs bond inside ∙ ap (copied bond (before template qs bond.first) (before template qs bond.second)) (ap width link.whole) in
              let part : drawn template ps bond ≡ copied bond (before template ps bond.first) (before template ps bond.second) link.times =
              drawn_inside template ps bond inside ∙ ap (copied bond (before template ps bond.first) (before template ps bond.second)) (ap width there.0) in
              let second : piece template ps bond.second ≡ Copies link.times = ap (piece_numbered ps) (sym link.same) ∙ there.0 in
              let second' : own_places template others bond.second ≡ numbers_to link.times = ap (places_numbered others) (sym link.same) ∙ there.1 in
              let same = copied_claim bond link.times within there.1 second' (ap width there.0) (ap width second) in
              omega (arith, none, ap (count_by (spoke P (e p))) whole, ap (count_by (spoke (λ q. P (e q)) p)) part, same))
          | inr none_there ↦
              (let none = not_loose bond qs (e p) link.same in
              let second : piece template ps bond.second ≡ Nothing = ap (piece_numbered ps) (sym link.same) ∙ none_there in
              let away = no_spokes bond.first bond.second (λ same. stands_there (ap is_nothing (ap (piece template ps) same ∙ none_there)))
              (λ same. stands_there (ap is_nothing (ap (piece template ps) same ∙ second))) (drawn template qs bond)
              (drawn_spans template qs (all_stand template.slots qs level.fit) bond within (All-contains HasRange template.bonds bond level.kept.bond_tests held)) in
              omega (arith, none, away))
        ]

    -- a bond has no more spokes and loose ends in the whole than in the part
    pub bond_claim : (bond : QueryBond) → Contains template.bonds bond
        → count_by (spoke P (image (level_places template qs others) p)) (drawn template qs bond) + one_if (is_loose template qs (image (level_places template qs others) p) bond)
        ≤ count_by (spoke (λ q. P (image (level_places template qs others) q)) p) (drawn template ps bond) + one_if (is_loose template ps p bond)
    bond_claim bond held = by (is_inside template bond) refl
      where
        within : IsWithin template bond
        within = All-contains (IsWithin template) template.bonds bond (bonds_within template level.kept) held

        by : (b : Bool) → is_inside template bond ≡ b
            → count_by (spoke P (image (level_places template qs others) p)) (drawn template qs bond) + one_if (is_loose template qs (image (level_places template qs others) p) bond)
            ≤ count_by (spoke (λ q. P (image (level_places template qs others) q)) p) (drawn template ps bond) + one_if (is_loose template ps p bond)
        by true inside = inside_claim bond held within inside
        by false outside = outside_claim bond within outside

    -- ---- no spoke is lost

    outside_lower : (bond : QueryBond) → IsWithin template bond → is_inside template bond ≡ false
        → count_by (spoke (λ q. P (image (level_places template qs others) q)) p) (drawn template ps bond) ≤ count_by (spoke P (image (level_places template qs others) p)) (drawn template qs bond)
    outside_lower bond within outside =
        let u = bond.first in
        let v = bond.second in
        let here = ap (count_by (spoke P (e p))) (drawn_outside template qs bond outside)
        ∙ spanned_count P (e p) (piece template qs u) (piece template qs v) bond (ending template qs u v) (ending template qs v u) in
        let there = ap (count_by (spoke (λ q. P (e q)) p)) (drawn_outside template ps bond outside)
        ∙ spanned_count (λ q. P (e q)) p (piece template ps u) (piece template ps v) bond (ending template ps u v) (ending template ps v u) in
        let claim = pieces_lower (is_nothing (piece template ps u)) (is_nothing (piece template ps v)) (is_nothing (piece template qs u)) (is_nothing (piece template qs v))
        (eqb (ending template ps u v) p) (eqb (ending template ps v u) p) (eqb (ending template qs u v) (e p)) (eqb (ending template qs v u) (e p))
        (P (e (ending template ps u v))) (P (e (ending template ps v u))) (P (ending template qs u v)) (P (ending template qs v u))
        (end_so u v within.first within.second.0) (end_so v u within.second within.first.0) in
        omega (arith, here, there, claim)

    copied_none : (bond : QueryBond) (x' y' : ℕ) (Q : QueryBond → Bool) → count_by Q (copied bond x' y' 0) ≡ 0
    unfolding copied
    copied_none bond x' y' Q = refl

    inside_lower : (bond : QueryBond) → IsWithin template bond → is_inside template bond ≡ true
        → count_by (spoke (λ q. P (image (level_places template qs others) q)) p) (drawn template ps bond) ≤ count_by (spoke P (image (level_places template qs others) p)) (drawn template qs bond)
    inside_lower bond within inside = by (in_link bond within inside)
      where
        by : IsInLink bond.first bond.second
            → count_by (spoke (λ q. P (image (level_places template qs others) q)) p) (drawn template ps bond) ≤ count_by (spoke P (image (level_places template qs others) p)) (drawn template qs bond)
        by link = elim link.part [
          | inl there ↦
              (let whole : drawn template qs bond ≡ copied bond (before template qs bond.first) (before template qs bond.second) link.times =
              drawn_inside template qs bond inside ∙ ap (copied bond (before template qs bond.first) (before template qs bond.second)) (ap width link.whole) in
              let part : drawn template ps bond ≡ copied bond (before template ps bond.first) (before template ps bond.second) link.times =
              drawn_inside template ps bond inside ∙ ap (copied bond (before template ps bond.first) (before template ps bond.second)) (ap width there.0) in
              let second : piece template ps bond.second ≡ Copies link.times = ap (piece_numbered ps) (sym link.same) ∙ there.0 in
              let second' : own_places template others bond.second ≡ numbers_to link.times = ap (places_numbered others) (sym link.same) ∙ there.1 in
              let same = copied_claim bond link.times within there.1 second' (ap width there.0) (ap width second) in
              omega (arith, ap (count_by (spoke P (e p))) whole, ap (count_by (spoke (λ q. P (e q)) p)) part, same))
          | inr none_there ↦
              (let part : drawn template ps bond ≡ copied bond (before template ps bond.first) (before template ps bond.second) 0 =
              drawn_inside template ps bond inside ∙ ap (copied bond (before template ps bond.first) (before template ps bond.second)) (ap width none_there) in
              omega (arith, ap (count_by (spoke (λ q. P (e q)) p)) part, copied_none bond (before template ps bond.first) (before template ps bond.second) (spoke (λ q. P (e q)) p)))
        ]

    -- a bond has no fewer spokes in the whole than in the part
    pub bond_lower : (bond : QueryBond) → Contains template.bonds bond
        → count_by (spoke (λ q. P (image (level_places template qs others) q)) p) (drawn template ps bond) ≤ count_by (spoke P (image (level_places template qs others) p)) (drawn template qs bond)
    bond_lower bond held = by (is_inside template bond) refl
      where
        within : IsWithin template bond
        within = All-contains (IsWithin template) template.bonds bond (bonds_within template level.kept) held

        by : (b : Bool) → is_inside template bond ≡ b
            → count_by (spoke (λ q. P (image (level_places template qs others) q)) p) (drawn template ps bond) ≤ count_by (spoke P (image (level_places template qs others) p)) (drawn template qs bond)
        by true inside = inside_lower bond within inside
        by false outside = outside_lower bond within outside
