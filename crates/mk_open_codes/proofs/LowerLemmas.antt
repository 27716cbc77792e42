-- No bond of a part is lost in the whole: within slots.
--     slots_lower        no fewer spokes within slots in the whole than in the part
use Rattle.std.proofs.Common.{◌≡◌, ◌≢◌, ◌∙◌, ℕ, ◌+◌, ◌-◌, ◌<◌, ◌≤◌, inl, inr, Bool, false, List, length, get_or, sym, ap, subst, arith}
use Rattle.std.specs.Prelude.{Contains, count_by}
use Rattle.std.proofs.lemmas.Bool.{cases_eq}
use Rattle.mk_model.specs.declared.template.QueryBond.{QueryBond}
use Rattle.mk_model.specs.declared.template.Slot.{Slot}
use Rattle.mk_model.specs.declared.template.Slot.TheVariants.{Link, Site}
use Rattle.mk_model.specs.Expansions.{all_within, bond_joining, bonds_within, chained}
use Rattle.mk_model.specs.Hits.{image}
use Rattle.mk_model.specs.Pieces.{Piece, before, piece, piece_numbered, width}
use Rattle.mk_model.specs.Pieces.Piece.{Copies, Member, Hydrogens, Nothing}
use Rattle.mk_model.specs.Templates.{TemplateView, slot_atom}
use Rattle.mk_pieces.specs.Rooms.{StandsAt}
use Rattle.mk_pieces.proofs.JoinedLemmas.{slot_piece}
use Rattle.mk_pieces.proofs.PieceLemmas.{FitsSlot, fit_at, fit_length}
use Rattle.mk_pieces.proofs.SpanLemmas.{IsOf, Spans, one_atom}
use Rattle.mk_pieces.proofs.TakerLemmas.{taker_of_slot}
use Rattle.mk_pieces.proofs.TemplateLemmas.{slots_stand}
use Rattle.mk_pieces.proofs.WithinLemmas.{within_at, within_both}
use Rattle.mk_expand.proofs.CountLemmas.{count_none, totals_below}
use Rattle.mk_open_codes.proofs.MovedLemmas.{slot_moved}
use Rattle.mk_open_codes.proofs.PlaceLemmas.{IsLevel, IsPlaceOf, grows, image_of, level_places, own_places}
use Rattle.mk_open_codes.proofs.SharedLemmas.{GrowsBy, moved, same_size}
use Rattle.mk_open_codes.proofs.SlotLemmas.{chain_same, member_part, member_whole, within_total}
use Rattle.mk_open_codes.proofs.SpokeLemmas.{no_spoke, spoke}

module _ (template : TemplateView) (ps qs : List Piece) (others : List (List ℕ)) (level : IsLevel template ps qs others) (P : ℕ → Bool) (x j p : ℕ) (at : IsPlaceOf template ps x j p) where
  abbrev e : ℕ → ℕ
  e = image (level_places template qs others)

  -- the slot at a place, and its pieces
  record IsSlotGrown (k : ℕ) : Type 0 where
    stands : StandsAt template (get_or template.slots k (Link 0 0 0 0))
    fits : FitsSlot (get_or template.slots k (Link 0 0 0 0)) (get_or qs k (Copies 1))
    part_is : piece template ps (slot_atom (get_or template.slots k (Link 0 0 0 0))) ≡ get_or ps k (Copies 1)
    grow : GrowsBy (get_or ps k (Copies 1)) (get_or qs k (Copies 1)) (own_places template others (slot_atom (get_or template.slots k (Link 0 0 0 0))))

  slot_grown : (k : ℕ) → k < length template.slots → IsSlotGrown k
  slot_grown k below =
      let a = slot_atom (get_or template.slots k (Link 0 0 0 0)) in
      let number = taker_of_slot template level.kept k (Link 0 0 0 0) below in
      let part : piece template ps a ≡ get_or ps k (Copies 1) = ap (piece_numbered ps) number in
      let whole : piece template qs a ≡ get_or qs k (Copies 1) = ap (piece_numbered qs) number in
      record {
        stands = slots_stand template level.kept k (Link 0 0 0 0) below;
        fits = fit_at template.slots qs k (Link 0 0 0 0) (Copies 1) below level.fit;
        part_is = part;
        grow = subst (λ (q : Piece). GrowsBy (get_or ps k (Copies 1)) q (own_places template others a)) whole
            (subst (λ (r : Piece). GrowsBy r (piece template qs a) (own_places template others a)) part (grows template ps qs others level a));
      }

  -- the bonds within another slot don't end there
  away : (k : ℕ) → k < length template.slots → slot_atom (get_or template.slots k (Link 0 0 0 0)) ≢ x
      → count_by (spoke (λ q. P (image (level_places template qs others) q)) p) (within_at template ps template.slots ps k) ≡ 0
  away k below other = count_none (spoke (λ q. P (e q)) p) (within_at template ps template.slots ps k) (λ b held. none b held)
    where
      slot : IsSlotGrown k
      slot = slot_grown k below

      a : ℕ
      a = slot_atom (get_or template.slots k (Link 0 0 0 0))

      both : (b : QueryBond) → Contains (within_at template qs template.slots qs k) b
          → Spans template qs (slot_atom (get_or template.slots k (Link 0 0 0 0))) (slot_atom (get_or template.slots k (Link 0 0 0 0))) b
      both = (within_both template qs level.kept.bond_tests (get_or template.slots k (Link 0 0 0 0)) (get_or qs k (Copies 1)) slot.stands.0
          (slot_piece template level.kept qs k below) (inr slot.fits)).0

      not_there : (q : ℕ) → IsOf template qs (slot_atom (get_or template.slots k (Link 0 0 0 0))) (image (level_places template qs others) q) → q ≢ p
      not_there q of same =
          other (one_atom template qs (slot_atom (get_or template.slots k (Link 0 0 0 0))) x (image (level_places template qs others) q) of
          (subst (λ (r : ℕ). IsOf template qs x (image (level_places template qs others) r)) (sym same) (image_of template ps qs others level x j p at)))

      none : (b : QueryBond) → Contains (within_at template ps template.slots ps k) b → spoke (λ q. P (image (level_places template qs others) q)) p b ≡ false
      none b held =
          let there = slot_moved template ps qs others level (get_or template.slots k (Link 0 0 0 0)) (get_or ps k (Copies 1)) (get_or qs k (Copies 1)) b
          slot.stands slot.fits slot.part_is slot.grow held in
          let spans = both (moved (level_places template qs others) b) there.held in
          elim spans.ends [
            | inl s ↦ no_spoke (λ q. P (e q)) p b.first b.second (not_there b.first s.0) (not_there b.second s.1)
            | inr s ↦ no_spoke (λ q. P (e q)) p b.first b.second (not_there b.first s.1) (not_there b.second s.0)
          ]

  -- the slot that stands there
  own_lower : (slot : Slot) (r q : Piece) → slot_atom slot ≡ x → FitsSlot slot q → piece template ps x ≡ r → GrowsBy r q (own_places template others x)
      → count_by (spoke (λ q'. P (image (level_places template qs others) q')) p) (bonds_within template.bonds (before template ps (slot_atom slot)) slot r)
      ≤ count_by (spoke P (image (level_places template qs others) p)) (bonds_within template.bonds (before template qs (slot_atom slot)) slot q)
  own_lower (Link a m f o) (Copies n) (Copies n') own fits is grow =
      let chain = chain_same template ps qs others level P x j p at (bond_joining template.bonds a f) n grow.1 (ap width is) in
      let here : count_by (spoke P (e p)) (chained (bond_joining template.bonds a f) (before template qs a) (n' - 1))
      ≡ count_by (spoke P (e p)) (chained (bond_joining template.bonds a f) (before template qs x) (n - 1)) =
      ap (λ (y : ℕ). count_by (spoke P (e p)) (chained (bond_joining template.bonds a f) (before template qs y) (n' - 1))) own
      ∙ ap (λ (y : ℕ). count_by (spoke P (e p)) (chained (bond_joining template.bonds a f) (before template qs x) (y - 1))) (sym grow.0) in
      let there : count_by (spoke (λ q'. P (e q')) p) (chained (bond_joining template.bonds a f) (before template ps a) (n - 1))
      ≡ count_by (spoke (λ q'. P (e q')) p) (chained (bond_joining template.bonds a f) (before template ps x) (n - 1)) =
      ap (λ (y : ℕ). count_by (spoke (λ q'. P (e q')) p) (chained (bond_joining template.bonds a f) (before template ps y) (n - 1))) own in
      omega (arith, chain, here, there)
  own_lower (Link a m f o) (Copies n) (Member whole) own fits is grow = absurd grow
  own_lower (Link a m f o) (Copies n) (Hydrogens n') own fits is grow = absurd grow
  own_lower (Link a m f o) (Copies n) Nothing own fits is grow = absurd grow
  own_lower (Link a m f o) (Member part) q own fits is grow = omega arith
  own_lower (Link a m f o) (Hydrogens n) q own fits is grow = omega arith
  own_lower (Link a m f o) Nothing q own fits is grow = omega arith
  own_lower (Site a g f o) (Member part) (Member whole) own fits is grow =
      let wide : j ≤ length part.atoms = omega (arith, at.most, ap width is) in
      let inner = grow.lower (λ q'. P (before template qs x + q')) j at.least wide in
      let here = ap (λ (y : ℕ). count_by (spoke P (e p)) (bonds_within template.bonds (before template qs y) (Site a g f o) (Member whole))) own in
      let there = ap (λ (y : ℕ). count_by (spoke (λ q'. P (e q')) p) (bonds_within template.bonds (before template ps y) (Site a g f o) (Member part))) own in
      omega (arith, inner, member_whole template ps qs others level P x j p at whole, member_part template ps qs others level P x j p at part whole is grow, here, there)
  own_lower (Site a g f o) (Member part) (Copies n) own fits is grow = absurd grow
  own_lower (Site a g f o) (Member part) (Hydrogens n) own fits is grow = absurd grow
  own_lower (Site a g f o) (Member part) Nothing own fits is grow = absurd grow
  own_lower (Site a g f o) (Copies n) q own fits is grow = omega arith
  own_lower (Site a g f o) (Hydrogens n) q own fits is grow = omega arith
  own_lower (Site a g f o) Nothing q own fits is grow = omega arith

  -- no fewer spokes within slots in the whole than in the part
  pub slots_lower : count_by (spoke (λ q. P (image (level_places template qs others) q)) p) (all_within template ps template.slots ps)
      ≤ count_by (spoke P (image (level_places template qs others) p)) (all_within template qs template.slots qs)
  slots_lower =
      let long = fit_length template.slots qs level.fit in
      let whole = within_total (spoke P (e p)) template qs long in
      let part = within_total (spoke (λ q. P (e q)) p) template ps (same_size ps qs others level.grow ∙ long) in
      let each = totals_below (λ k. count_by (spoke (λ q. P (e q)) p) (within_at template ps template.slots ps k)) (λ k. count_by (spoke P (e p)) (within_at template qs template.slots qs k))
      (length template.slots) slot in
      omega (arith, whole, part, each)
    where
      slot : (k : ℕ) → k < length template.slots
          → count_by (spoke (λ q. P (image (level_places template qs others) q)) p) (within_at template ps template.slots ps k)
          ≤ count_by (spoke P (image (level_places template qs others) p)) (within_at template qs template.slots qs k)
      slot k below = elim (cases_eq (slot_atom (get_or template.slots k (Link 0 0 0 0))) x) [
        | inl own ↦
            (let grown = slot_grown k below in
            own_lower (get_or template.slots k (Link 0 0 0 0)) (get_or ps k (Copies 1)) (get_or qs k (Copies 1)) own grown.fits (ap (piece template ps) (sym own) ∙ grown.part_is)
            (subst (λ (y : ℕ). GrowsBy (get_or ps k (Copies 1)) (get_or qs k (Copies 1)) (own_places template others y)) own grown.grow))
        | inr other ↦ (let none = away k below other in omega (arith, none))
      ]
