-- The bonds within what slots have become, in a part and in the whole.
--     member_free        the free ends that an atom has inside a member
--     within_total       the spokes within slots, slot by slot
--     slots_claim        no more spokes and free ends within slots in the whole than in the part
use Rattle.std.proofs.Common.{◌≡◌, ◌≢◌, ◌∙◌, ℕ, zero, suc, ◌+◌, ◌-◌, ◌<◌, ◌≤◌, inl, inr, Bool, true, false, ◌&&◌, ◌||◌, eqb, List, length, get_or, map, refl, sym, ap, subst, arith}
use Rattle.std.specs.Prelude.{count_by}
use Rattle.std.proofs.lemmas.Bool.{cases_eq}
use Rattle.std.proofs.lemmas.Bool.Decides.{nat_tests}
use Rattle.std.specs.List.{zip}
use Rattle.mk_model.specs.declared.template.QueryBond.{QueryBond}
use Rattle.mk_model.specs.declared.template.Slot.{Slot}
use Rattle.mk_model.specs.declared.template.Slot.TheVariants.{Link, Site}
use Rattle.mk_model.specs.Expansions.{all_within, bond_joining, bonds_within, chained, hydrogen, shifted}
use Rattle.mk_model.specs.Hits.{image}
use Rattle.mk_model.specs.Pieces.{Fragment, Piece, before, numbers_to, piece, piece_numbered, taker, width}
use Rattle.mk_model.specs.Pieces.Piece.{Copies, Member, Hydrogens, Nothing}
use Rattle.mk_model.specs.Sizes.{takes_atom}
use Rattle.mk_model.specs.Templates.{TemplateView, slot_atom}
use Rattle.mk_pieces.specs.Rooms.{AreEndsWithin, StandsAt}
use Rattle.mk_pieces.proofs.JoinedLemmas.{slot_piece}
use Rattle.mk_pieces.proofs.PieceLemmas.{FitsSlot, fit_at, fit_length}
use Rattle.mk_pieces.proofs.TakerLemmas.{taker_is_slot, taker_of_slot}
use Rattle.mk_pieces.proofs.TemplateLemmas.{slots_stand}
use Rattle.mk_pieces.proofs.WithinLemmas.{within_at, within_both}
use Rattle.mk_open_codes.proofs.BondLemmas.{no_spokes, numbers_hold, transfer}
use Rattle.mk_expand.proofs.CountLemmas.{count_flat, count_mapped, count_same, total, totals_below, totals_one}
use Rattle.mk_expand.proofs.FreeLemmas.{zipped_total}
use Rattle.mk_open_codes.proofs.PlaceLemmas.{IsLevel, IsPlaceOf, grows, image_at, level_places, own_places, place_within}
use Rattle.mk_open_codes.proofs.SharedLemmas.{GrowsBy, IsShared, numbers_image, same_size}
use Rattle.mk_open_codes.proofs.SpokeLemmas.{meets_at, spoke}

-- the free ends that the j-th atom of a piece has inside a member
abbrev pub member_free : Piece → ℕ → ℕ
member_free (Copies n) j = 0
member_free (Member part) j = (get_or part.atoms (j - 1) hydrogen).free
member_free (Hydrogens n) j = 0
member_free Nothing j = 0

-- slot by slot
pub within_total : (p : QueryBond → Bool) (template : TemplateView) (pieces : List Piece) → length pieces ≡ length template.slots
    → count_by p (all_within template pieces template.slots pieces) ≡ total (λ k. count_by p (within_at template pieces template.slots pieces k)) (length template.slots)
unfolding all_within
within_total p template pieces size =
    count_flat p (λ s. bonds_within template.bonds (before template pieces (slot_atom s.0)) s.0 s.1) (zip template.slots pieces)
    ∙ zipped_total (λ s. count_by p (bonds_within template.bonds (before template pieces (slot_atom s.0)) s.0 s.1)) template.slots pieces size

shift_same : (b x y : ℕ) → eqb (b + x) (b + y) ≡ eqb x y
shift_same b x y = elim (cases_eq x y) [
  | inl same ↦ grind (arith, nat_tests)
  | inr differ ↦ grind (arith, nat_tests)
]

module _ (template : TemplateView) (ps qs : List Piece) (others : List (List ℕ)) (level : IsLevel template ps qs others) (P : ℕ → Bool) (x j p : ℕ) (at : IsPlaceOf template ps x j p) where
  abbrev e : ℕ → ℕ
  e = image (level_places template qs others)

  -- the place within what stands there in the whole
  abbrev i : ℕ
  i = image (own_places template others x) j

  -- spokes within slot k, in the whole and in the part
  abbrev F : ℕ → ℕ
  F k = count_by (spoke P (image (level_places template qs others) p)) (within_at template qs template.slots qs k)

  abbrev G : ℕ → ℕ
  G k = count_by (spoke (λ q. P (image (level_places template qs others) q)) p) (within_at template ps template.slots ps k)

  -- ---- elsewhere

  abbrev atom_at : ℕ → ℕ
  atom_at k = slot_atom (get_or template.slots k (Link 0 0 0 0))

  away : (k : ℕ) → k < length template.slots → atom_at k ≢ x → F k ≡ 0
  away k below other =
      let slot = get_or template.slots k (Link 0 0 0 0) in
      let stands : StandsAt template slot = slots_stand template level.kept k (Link 0 0 0 0) below in
      let both = within_both template qs level.kept.bond_tests slot (get_or qs k (Copies 1)) stands.0 (slot_piece template level.kept qs k below)
      (inr (fit_at template.slots qs k (Link 0 0 0 0) (Copies 1) below level.fit)) in
      no_spokes template ps qs others level P x j p at (slot_atom slot) (slot_atom slot) (λ same. other (sym same)) (λ same. other (sym same)) (within_at template qs template.slots qs k) both.0

  -- ---- a chain

  pub chain_same : (bond : QueryBond) (m : ℕ) → own_places template others x ≡ numbers_to m → width (piece template ps x) ≡ m
      → count_by (spoke P (image (level_places template qs others) p)) (chained bond (before template qs x) (m - 1))
      ≡ count_by (spoke (λ q. P (image (level_places template qs others) q)) p) (chained bond (before template ps x) (m - 1))
  unfolding chained
  chain_same bond m own wide =
      count_mapped (spoke P (e p)) (λ c. record { first = before template qs x + c; second = before template qs x + c + 1; kind = bond.kind; topology = bond.topology }) (numbers_to (m - 1))
      ∙ count_same _ _ (numbers_to (m - 1)) (λ c held. one c (numbers_hold (m - 1) c held))
      ∙ sym (count_mapped (spoke (λ q. P (e q)) p) (λ c. record { first = before template ps x + c; second = before template ps x + c + 1; kind = bond.kind; topology = bond.topology })
      (numbers_to (m - 1)))
    where
      copy_at : (c : ℕ) → 1 ≤ c → c ≤ m
          → IsPlaceOf template ps x c (before template ps x + c) × (image (level_places template qs others) (before template ps x + c) ≡ before template qs x + c)
      copy_at c least most =
          let place : IsPlaceOf template ps x c (before template ps x + c) = record { at = at.at; least = least; most = omega (arith, most, wide); is = refl } in
          let there = image_at template ps qs others level x c (before template ps x + c) place in
          let number : image (own_places template others x) c ≡ c = ap (λ (ns : List ℕ). image ns c) own ∙ numbers_image m c least most in
          (place, omega (arith, there, number))

      one : (c : ℕ) → (1 ≤ c) × (c ≤ m - 1)
          → meets_at P (image (level_places template qs others) p) (before template qs x + c) (before template qs x + c + 1)
          ≡ meets_at (λ q. P (image (level_places template qs others) q)) p (before template ps x + c) (before template ps x + c + 1)
      one c is =
          let u = copy_at c is.0 (omega (arith, is.1)) in
          let v = copy_at (c + 1) (omega arith) (omega (arith, is.0, is.1)) in
          let next : before template ps x + (c + 1) ≡ before template ps x + c + 1 = omega arith in
          let next' : before template qs x + (c + 1) ≡ before template qs x + c + 1 = omega arith in
          let w : image (level_places template qs others) (before template ps x + c + 1) ≡ before template qs x + c + 1 = sym (ap e next) ∙ v.1 ∙ next' in
          let inside = place_within template ps x c (before template ps x + c) u.0 in
          let inside' = place_within template ps x (c + 1) (before template ps x + (c + 1)) v.0 in
          let here = place_within template ps x j p at in
          ap (λ (q : ℕ). meets_at P (e p) q (before template qs x + c + 1)) (sym u.1) ∙ ap (meets_at P (e p) (e (before template ps x + c))) (sym w)
          ∙ transfer template ps qs others level P p (before template ps x + c) (before template ps x + c + 1) here inside (omega (arith, inside'.0), omega (arith, inside'.1))

  -- ---- a member

  here_is : image (level_places template qs others) p ≡ before template qs x + image (own_places template others x) j
  here_is = image_at template ps qs others level x j p at

  -- spokes within the member, in the whole
  pub member_whole : (whole : Fragment)
      → count_by (spoke P (image (level_places template qs others) p)) (map (shifted (before template qs x)) whole.bonds)
      ≡ count_by (spoke (λ q. P (before template qs x + q)) (image (own_places template others x) j)) whole.bonds
  member_whole whole = count_mapped (spoke P (e p)) (shifted (before template qs x)) whole.bonds ∙ count_same _ _ whole.bonds (λ b held. of_whole b)
    where
      of_whole : (b : QueryBond) → meets_at P (image (level_places template qs others) p) (before template qs x + b.first) (before template qs x + b.second)
          ≡ meets_at (λ q. P (before template qs x + q)) (image (own_places template others x) j) b.first b.second
      of_whole b =
          ap (λ (q : ℕ). meets_at P q (before template qs x + b.first) (before template qs x + b.second)) here_is
          ∙ ap (λ (t : Bool). (t && P (before template qs x + b.second)) || (eqb (before template qs x + b.second) (before template qs x + i) && P (before template qs x + b.first)))
          (shift_same (before template qs x) b.first i)
          ∙ ap (λ (t : Bool). (eqb b.first i && P (before template qs x + b.second)) || (t && P (before template qs x + b.first))) (shift_same (before template qs x) b.second i)

  -- and in the part
  pub member_part : (part whole : Fragment) → piece template ps x ≡ Member part → IsShared part whole (own_places template others x)
      → count_by (spoke (λ q. P (image (level_places template qs others) q)) p) (map (shifted (before template ps x)) part.bonds)
      ≡ count_by (spoke (λ q. P (before template qs x + image (own_places template others x) q)) j) part.bonds
  member_part part whole is shared =
      count_mapped (spoke (λ q. P (e q)) p) (shifted (before template ps x)) part.bonds ∙ count_same _ _ part.bonds (λ b held. of_part b (shared.ends b held))
    where
      end_at : (s : ℕ) → 1 ≤ s → s ≤ length part.atoms → image (level_places template qs others) (before template ps x + s) ≡ before template qs x + image (own_places template others x) s
      end_at s least most = image_at template ps qs others level x s (before template ps x + s) (record { at = at.at; least = least; most = omega (arith, most, ap width is); is = refl })

      of_part : (b : QueryBond) → AreEndsWithin (length part.atoms) b
          → meets_at (λ q. P (image (level_places template qs others) q)) p (before template ps x + b.first) (before template ps x + b.second)
          ≡ meets_at (λ q. P (before template qs x + image (own_places template others x) q)) j b.first b.second
      of_part b ends =
          let first = end_at b.first ends.first.0 ends.first.1 in
          let second = end_at b.second ends.second.0 ends.second.1 in
          ap (λ (q : ℕ). meets_at (λ r. P (e r)) q (before template ps x + b.first) (before template ps x + b.second)) (sym at.is)
          ∙ ap (λ (t : Bool). (t && P (e (before template ps x + b.second))) || (eqb (before template ps x + b.second) (before template ps x + j) && P (e (before template ps x + b.first))))
          (shift_same (before template ps x) b.first j)
          ∙ ap (λ (t : Bool). (eqb b.first j && P (e (before template ps x + b.second))) || (t && P (e (before template ps x + b.first)))) (shift_same (before template ps x) b.second j)
          ∙ ap (λ (q : ℕ). (eqb b.first j && P q) || (eqb b.second j && P (e (before template ps x + b.first)))) second
          ∙ ap (λ (q : ℕ). (eqb b.first j && P (before template qs x + image (own_places template others x) b.second)) || (eqb b.second j && P q)) first

  member_claim : (part whole : Fragment) → piece template ps x ≡ Member part → IsShared part whole (own_places template others x)
      → count_by (spoke P (image (level_places template qs others) p)) (map (shifted (before template qs x)) whole.bonds)
      + (get_or whole.atoms (image (own_places template others x) j - 1) hydrogen).free
      ≤ count_by (spoke (λ q. P (image (level_places template qs others) q)) p) (map (shifted (before template ps x)) part.bonds) + (get_or part.atoms (j - 1) hydrogen).free
  member_claim part whole is shared =
      let wide : j ≤ length part.atoms = omega (arith, at.most, ap width is) in
      let inner = shared.spokes (λ q. P (before template qs x + q)) j hydrogen at.least wide in
      omega (arith, inner, member_whole whole, member_part part whole is shared)

  -- ---- the slot that stands there

  own_claim : (slot : Slot) (r q : Piece) → slot_atom slot ≡ x → FitsSlot slot q → piece template ps x ≡ r → piece template qs x ≡ q → GrowsBy r q (own_places template others x)
      → count_by (spoke P (image (level_places template qs others) p)) (bonds_within template.bonds (before template qs (slot_atom slot)) slot q)
      + member_free q (image (own_places template others x) j)
      ≤ count_by (spoke (λ q'. P (image (level_places template qs others) q')) p) (bonds_within template.bonds (before template ps (slot_atom slot)) slot r) + member_free r j
  own_claim (Link a m f o) (Copies n) (Copies n') own fits is is' grow =
      let same : own_places template others x ≡ numbers_to n = grow.1 in
      let chain = chain_same (bond_joining template.bonds a f) n same (ap width is) in
      let here : count_by (spoke P (e p)) (chained (bond_joining template.bonds a f) (before template qs a) (n' - 1))
      ≡ count_by (spoke P (e p)) (chained (bond_joining template.bonds a f) (before template qs x) (n - 1)) =
      ap (λ (y : ℕ). count_by (spoke P (e p)) (chained (bond_joining template.bonds a f) (before template qs y) (n' - 1))) own
      ∙ ap (λ (y : ℕ). count_by (spoke P (e p)) (chained (bond_joining template.bonds a f) (before template qs x) (y - 1))) (sym grow.0) in
      let there : count_by (spoke (λ q'. P (e q')) p) (chained (bond_joining template.bonds a f) (before template ps a) (n - 1))
      ≡ count_by (spoke (λ q'. P (e q')) p) (chained (bond_joining template.bonds a f) (before template ps x) (n - 1)) =
      ap (λ (y : ℕ). count_by (spoke (λ q'. P (e q')) p) (chained (bond_joining template.bonds a f) (before template ps y) (n - 1))) own in
      omega (arith, chain, here, there)
  own_claim (Link a m f o) (Member part) (Copies n') own fits is is' grow = absurd grow
  own_claim (Link a m f o) (Hydrogens n) (Copies n') own fits is is' grow = absurd grow
  own_claim (Link a m f o) Nothing (Copies n') own fits is is' grow = absurd (omega (arith, at.least, at.most, ap width is))
  own_claim (Link a m f o) r (Member whole) own fits is is' grow = absurd fits
  own_claim (Link a m f o) r (Hydrogens n) own fits is is' grow = absurd fits
  own_claim (Link a m f o) r Nothing own fits is is' grow = absurd fits
  own_claim (Site a g f o) r (Copies n') own fits is is' grow = absurd fits
  own_claim (Site a g f o) (Member part) (Member whole) own fits is is' grow =
      let claim = member_claim part whole is grow in
      let here = ap (λ (y : ℕ). count_by (spoke P (e p)) (map (shifted (before template qs y)) whole.bonds)) own in
      let there = ap (λ (y : ℕ). count_by (spoke (λ q'. P (e q')) p) (map (shifted (before template ps y)) part.bonds)) own in
      omega (arith, claim, here, there)
  own_claim (Site a g f o) (Copies n) (Member whole) own fits is is' grow = absurd grow
  own_claim (Site a g f o) (Hydrogens n) (Member whole) own fits is is' grow = absurd grow
  own_claim (Site a g f o) Nothing (Member whole) own fits is is' grow = absurd (omega (arith, at.least, at.most, ap width is))
  own_claim (Site a g f o) (Hydrogens n) (Hydrogens n') own fits is is' grow = omega arith
  own_claim (Site a g f o) (Copies n) (Hydrogens n') own fits is is' grow = absurd grow
  own_claim (Site a g f o) (Member part) (Hydrogens n') own fits is is' grow = absurd grow
  own_claim (Site a g f o) Nothing (Hydrogens n') own fits is is' grow = absurd (omega (arith, at.least, at.most, ap width is))
  own_claim (Site a g f o) (Copies n) Nothing own fits is is' grow = absurd grow
  own_claim (Site a g f o) (Member part) Nothing own fits is is' grow = absurd grow
  own_claim (Site a g f o) (Hydrogens n) Nothing own fits is is' grow = absurd grow
  own_claim (Site a g f o) Nothing Nothing own fits is is' grow = absurd (omega (arith, at.least, at.most, ap width is))

  -- ---- all slots

  -- a link's block has no member in it
  no_member : (slot : Slot) (q : Piece) → takes_atom template x slot ≡ true → FitsSlot slot q → slot_atom slot ≢ x → member_free q i ≡ 0
  no_member (Link a m f o) (Copies n) takes fits other = refl
  no_member (Link a m f o) (Member whole) takes fits other = absurd fits
  no_member (Link a m f o) (Hydrogens n) takes fits other = absurd fits
  no_member (Link a m f o) Nothing takes fits other = absurd fits
  no_member (Site a g f o) q takes fits other = own (eqb a x) refl takes
    where
      own : (b : Bool) → eqb a x ≡ b → (b || false) ≡ true → member_free q (image (own_places template others x) j) ≡ 0
      own true t is = absurd (let same : a ≡ x = grind (arith, nat_tests) in other same)
      own false t is = absurd cc

  -- no more spokes and free ends within slots in the whole than in the part
  pub slots_claim : count_by (spoke P (image (level_places template qs others) p)) (all_within template qs template.slots qs)
      + member_free (piece template qs x) (image (own_places template others x) j)
      ≤ count_by (spoke (λ q. P (image (level_places template qs others) q)) p) (all_within template ps template.slots ps) + member_free (piece template ps x) j
  slots_claim =
      let long = fit_length template.slots qs level.fit in
      let whole = within_total (spoke P (e p)) template qs long in
      let part = within_total (spoke (λ q. P (e q)) p) template ps (same_size ps qs others level.grow ∙ long) in
      let claim = by (taker template x) refl in
      omega (arith, whole, part, claim)
    where
      unlike : (k n : ℕ) → taker template x ≡ n → k < length template.slots → n ≢ suc k → atom_at k ≢ x
      unlike k n is below differ same = differ (sym is ∙ ap (taker template) (sym same) ∙ taker_of_slot template level.kept k (Link 0 0 0 0) below)

      by : (n : ℕ) → taker template x ≡ n
          → total (λ k. F k) (length template.slots) + member_free (piece template qs x) (image (own_places template others x) j)
          ≤ total (λ k. G k) (length template.slots) + member_free (piece template ps x) j
      by zero is =
          let none : member_free (piece template qs x) i ≡ 0 = ap (λ (n : ℕ). member_free (piece_numbered qs n) i) is in
          let each = totals_below (λ k. F k) (λ k. G k) (length template.slots)
          (λ k below. (let zero_there = away k below (unlike k zero is below (λ same. omega (arith, same))) in omega (arith, zero_there))) in
          omega (arith, none, each)
      by (suc k) is =
          let found = taker_is_slot template x k is in
          let slot = get_or template.slots k (Link 0 0 0 0) in
          let piece_is : piece template qs x ≡ get_or qs k (Copies 1) = ap (piece_numbered qs) is in
          let part_is : piece template ps x ≡ get_or ps k (Copies 1) = ap (piece_numbered ps) is in
          let fits : FitsSlot slot (get_or qs k (Copies 1)) = fit_at template.slots qs k (Link 0 0 0 0) (Copies 1) found.within level.fit in
          elim (cases_eq (slot_atom slot) x) [
            | inl same ↦
                (let grow : GrowsBy (get_or ps k (Copies 1)) (get_or qs k (Copies 1)) (own_places template others x) =
                subst (λ (q : Piece). GrowsBy (get_or ps k (Copies 1)) q (own_places template others x)) piece_is
                (subst (λ (r : Piece). GrowsBy r (piece template qs x) (own_places template others x)) part_is (grows template ps qs others level x)) in
                let own = own_claim slot (get_or ps k (Copies 1)) (get_or qs k (Copies 1)) same fits part_is piece_is grow in
                let one = totals_one (λ n. F n) (λ n. G n) (length template.slots) k (member_free (get_or qs k (Copies 1)) i) (member_free (get_or ps k (Copies 1)) j) found.within own
                (λ n below differ. (let zero_there = away n below (unlike n (suc k) is below (λ same'. differ (omega (arith, same')))) in omega (arith, zero_there))) in
                let whole_free = ap (λ (q : Piece). member_free q i) piece_is in
                let part_free = ap (λ (q : Piece). member_free q j) part_is in
                omega (arith, one, whole_free, part_free))
            | inr other ↦
                (let not_own : (n : ℕ) → n < length template.slots → atom_at n ≢ x = λ n below same.
                (let number : suc k ≡ suc n = sym is ∙ ap (taker template) (sym same) ∙ taker_of_slot template level.kept n (Link 0 0 0 0) below in
                let one : k ≡ n = omega (arith, number) in
                other (ap atom_at one ∙ same)) in
                let none = no_member slot (get_or qs k (Copies 1)) (found.takes (Link 0 0 0 0)) fits other in
                let whole_free = ap (λ (q : Piece). member_free q i) piece_is in
                let each = totals_below (λ n. F n) (λ n. G n) (length template.slots) (λ n below. (let zero_there = away n below (not_own n below) in omega (arith, zero_there))) in
                omega (arith, none, whole_free, each))
          ]
