-- The frames of the numbers chosen so far, as lists.
--     opens_more, opens_last      one number more, and one less
--     chooses_behind, behind_chooses, standing_behind      what is chosen behind the numbers
--     room_behind, counts_few     there is room for all, and the counts are no more than the numbers
--     goes_with                   what begins behind the numbers goes on with a number at the first open slot
--     begins_at, valid_behind, completes_behind      codes that begin with the numbers
--     IsSought, IsWentBack, HasNoneUpTo      what loops over frames keep
use Rattle.std.proofs.Common.{◌≡◌, ℕ, zero, suc, ◌+◌, ◌-◌, ◌<◌, ◌≤◌, List, [], ◌∷◌, ◌++◌, length, get_or, replicate, Some, refl, sym, ap, subst, ◌∙◌, arith, append_assoc, length-append, take}
use Rattle.std.specs.Prelude.{false, slice_get}
use Rattle.std.proofs.lemmas.List.Sums.{count_by-le-length}
use Rattle.mk_text.specs.Rising.{IsBelow}
use Rattle.mk_model.specs.declared.query.Count.{Count}
use Rattle.mk_model.specs.declared.template.Slot.{Slot}
use Rattle.mk_model.specs.declared.template.Slot.TheVariants.{Link, Site}
use Rattle.mk_model.specs.Labels.{bears_label, holds_member_of}
use Rattle.mk_model.specs.Logic.{IsValid, Standing, filled_of, sites_of}
use Rattle.mk_model.specs.Nodes.{BeginsCode, SameFrom}
use Rattle.mk_model.specs.OpenSlots.{Chooses, most_at, opened, standing_at, standing_by}
use Rattle.mk_model.specs.Queries.{QueryView, slots_of}
use Rattle.mk_model.specs.QueryFits.{QueryFits}
use Rattle.mk_model.proofs.ForCallers.{allowed_same, chooses_of, is_code_of}
use Rattle.mk_logic.specs.Counts.{filled_at, sites_at}
use Rattle.mk_choice.specs.declared.pending.Ahead.{Ahead}
use Rattle.mk_choice.specs.declared.frames.Frames.{Frames}
use Rattle.mk_choice.specs.Frames.{AreFrames, LeavesOpen, StandsAt, from_of, most_first, numbers_of}
use Rattle.mk_choice.specs.Search.{AreCounts, Completes, LeavesRoom}
use Rattle.mk_choice.proofs.CountLemmas.{filled_both, sites_both}
use Rattle.mk_choice.proofs.SlotLemmas.{some_code}
use Rattle.mk_choice.proofs.ValidLemmas.{completes_of, no_sites, none_counted, root_room, valid_of}

-- ---- one number more, and one less

-- a last number, and the slot at which it is chosen
pub record LastOf (query : QueryView) (slots : List Slot) (numbers : List ℕ) (chosen : List Slot) (k : ℕ) (s : Slot) (rest : List Slot) : Type 0 where
  pub behind : List Slot
  pub leaves : LeavesOpen query slots numbers chosen (s ∷ behind)
  pub least : 1 ≤ k
  pub most : k ≤ most_at query s
  pub whole : opened query s k ++ behind ≡ rest

module _ (query : QueryView) where
  pub opens_more : (slots : List Slot) (numbers : List ℕ) (chosen : List Slot) (slot : Slot) (behind : List Slot) (k : ℕ)
      → LeavesOpen query slots numbers chosen (slot ∷ behind) → 1 ≤ k → k ≤ most_at query slot → LeavesOpen query slots (numbers ++ k ∷ []) (chosen ++ slot ∷ []) (opened query slot k ++ behind)
  opens_more slots [] [] slot behind k leaves least most =
      subst (λ (from : List Slot). LeavesOpen query from (k ∷ []) (slot ∷ []) (opened query slot k ++ behind)) (sym leaves) (refl, least, most, refl)
  opens_more slots [] (s ∷ chosen) slot behind k leaves least most = absurd leaves
  opens_more slots (n ∷ numbers) [] slot behind k leaves least most = absurd leaves
  opens_more [] (n ∷ numbers) (s ∷ chosen) slot behind k leaves least most = absurd leaves
  opens_more (first ∷ slots) (n ∷ numbers) (s ∷ chosen) slot behind k leaves least most =
      (leaves.0, leaves.1, leaves.2, opens_more (opened query first n ++ slots) numbers chosen slot behind k leaves.3 least most)

  pub opens_last : (slots : List Slot) (numbers : List ℕ) (chosen : List Slot) (k : ℕ) (s : Slot) (rest : List Slot)
      → LeavesOpen query slots (numbers ++ k ∷ []) (chosen ++ s ∷ []) rest → LastOf query slots numbers chosen k s rest
  opens_last [] [] [] k s rest leaves = absurd leaves
  opens_last (slot ∷ slots) [] [] k s rest leaves = record {
    behind = slots;
    leaves = ap (λ (first : Slot). first ∷ slots) leaves.0;
    least = leaves.1;
    most = subst (λ (first : Slot). k ≤ most_at query first) leaves.0 leaves.2;
    whole = subst (λ (first : Slot). opened query first k ++ slots ≡ rest) leaves.0 leaves.3;
  }
  opens_last [] [] (c ∷ chosen) k s rest leaves = absurd leaves
  opens_last (slot ∷ slots) [] (c ∷ chosen) k s rest leaves = absurd (none_more (opened query slot k ++ slots) chosen leaves.3)
    where
      none_more : (from chosen : List Slot) → LeavesOpen query from [] (chosen ++ s ∷ []) rest → ⊥
      none_more from [] never = never
      none_more from (c ∷ chosen) never = never
  opens_last [] (n ∷ numbers) [] k s rest leaves = absurd leaves
  opens_last (slot ∷ slots) (n ∷ numbers) [] k s rest leaves = absurd (none_left (opened query slot n ++ slots) numbers leaves.3)
    where
      none_left : (from : List Slot) (numbers : List ℕ) → LeavesOpen query from (numbers ++ k ∷ []) [] rest → ⊥
      none_left from [] never = never
      none_left from (m ∷ numbers) never = never
  opens_last [] (n ∷ numbers) (c ∷ chosen) k s rest leaves = absurd leaves
  opens_last (slot ∷ slots) (n ∷ numbers) (c ∷ chosen) k s rest leaves =
      let last = opens_last (opened query slot n ++ slots) numbers chosen k s rest leaves.3 in
      record { behind = last.behind; leaves = (leaves.0, leaves.1, leaves.2, last.leaves); least = last.least; most = last.most; whole = last.whole }

  -- ---- what is chosen behind the numbers

  pub chooses_behind : (slots : List Slot) (numbers : List ℕ) (chosen rest : List Slot) (more : List ℕ)
      → LeavesOpen query slots numbers chosen rest → Chooses query rest more → Chooses query slots (numbers ++ more)
  chooses_behind slots [] [] rest more leaves chooses = subst (λ (from : List Slot). Chooses query from more) (sym leaves) chooses
  chooses_behind slots [] (s ∷ chosen) rest more leaves chooses = absurd leaves
  chooses_behind slots (k ∷ numbers) [] rest more leaves chooses = absurd leaves
  chooses_behind [] (k ∷ numbers) (s ∷ chosen) rest more leaves chooses = absurd leaves
  chooses_behind (slot ∷ slots) (k ∷ numbers) (s ∷ chosen) rest more leaves chooses =
      (leaves.1, leaves.2, chooses_behind (opened query slot k ++ slots) numbers chosen rest more leaves.3 chooses)

  pub behind_chooses : (slots : List Slot) (numbers : List ℕ) (chosen rest : List Slot) (more : List ℕ)
      → LeavesOpen query slots numbers chosen rest → Chooses query slots (numbers ++ more) → Chooses query rest more
  behind_chooses slots [] [] rest more leaves chooses = subst (λ (from : List Slot). Chooses query from more) leaves chooses
  behind_chooses slots [] (s ∷ chosen) rest more leaves chooses = absurd leaves
  behind_chooses slots (k ∷ numbers) [] rest more leaves chooses = absurd leaves
  behind_chooses [] (k ∷ numbers) (s ∷ chosen) rest more leaves chooses = absurd leaves
  behind_chooses (slot ∷ slots) (k ∷ numbers) (s ∷ chosen) rest more leaves chooses =
      behind_chooses (opened query slot k ++ slots) numbers chosen rest more leaves.3 chooses.2

  -- the sites that stand by the numbers, and by those behind them
  pub standing_behind : (slots : List Slot) (numbers : List ℕ) (chosen rest : List Slot) (more : List ℕ) → LeavesOpen query slots numbers chosen rest
      → standing_by query slots (numbers ++ more) ≡ standing_by query slots numbers ++ standing_by query rest more
  standing_behind slots [] [] rest more leaves = ap (λ (from : List Slot). standing_by query from more) leaves
  standing_behind slots [] (s ∷ chosen) rest more leaves = absurd leaves
  standing_behind slots (k ∷ numbers) [] rest more leaves = absurd leaves
  standing_behind [] (k ∷ numbers) (s ∷ chosen) rest more leaves = absurd leaves
  standing_behind (slot ∷ slots) (k ∷ numbers) (s ∷ chosen) rest more leaves =
      ap (λ (others : List Standing). standing_at slot k ++ others) (standing_behind (opened query slot k ++ slots) numbers chosen rest more leaves.3)
      ∙ sym (append_assoc (standing_at slot k) (standing_by query (opened query slot k ++ slots) numbers) (standing_by query rest more))

  -- ---- how many

  -- no more sites stand than numbers are chosen
  at_most_one : (slot : Slot) (k : ℕ) → length (standing_at slot k) ≤ 1
  at_most_one (Link atom most from to) k = omega arith
  at_most_one (Site atom groups first second) k = omega arith

  pub standing_few : (slots : List Slot) (numbers : List ℕ) → length (standing_by query slots numbers) ≤ length numbers
  standing_few slots [] = omega arith
  standing_few [] (k ∷ numbers) = omega arith
  standing_few (slot ∷ slots) (k ∷ numbers) =
      omega (arith, at_most_one slot k, standing_few (opened query slot k ++ slots) numbers, length-append (standing_at slot k) (standing_by query (opened query slot k ++ slots) numbers))

  -- the numbers have room with all that is chosen behind them
  pub room_behind : QueryFits query → (numbers : List ℕ) (chosen rest : List Slot) → LeavesOpen query (slots_of query 0) numbers chosen rest → LeavesRoom query rest (length numbers)
  room_behind fits numbers chosen rest leaves others chooses =
      omega (arith, root_room query fits (numbers ++ others) (chooses_behind (slots_of query 0) numbers chosen rest others leaves chooses), length-append numbers others)

-- the counts at a place
at_counts : (counts : List Count) (i : ℕ) (d : Count) → i < length counts → slice_get counts i ≡ Some (get_or counts i d)
at_counts [] i d below = absurd (omega arith)
at_counts (count ∷ counts) zero d below = refl
at_counts (count ∷ counts) (suc i) d below = at_counts counts i d (omega arith)

sites_there : (counts : List Count) (g : ℕ) (count : Count) → slice_get counts (g - 1) ≡ Some count → sites_at counts g ≡ count.sites
sites_there counts g count here = rw here refl

filled_there : (counts : List Count) (g : ℕ) (count : Count) → slice_get counts (g - 1) ≡ Some count → filled_at counts g ≡ count.filled
filled_there counts g count here = rw here refl

-- counts of 32 groups that are those of some sites are no more than these
pub counts_few : (query : QueryView) (counts : List Count) (standing : List Standing) (k : ℕ) → length counts ≡ 32 → length standing ≤ k
    → ((g : ℕ) → 1 ≤ g → sites_at counts g ≡ sites_of standing g) → ((g : ℕ) → 1 ≤ g → filled_at counts g ≡ filled_of query standing g) → AreCounts k counts
counts_few query counts standing k all few sites filled = record {
  all = all;
  few = λ i d below.
      let place : i + 1 - 1 ≡ i = omega arith in
      let here = ap (λ (j : ℕ). slice_get counts j) place ∙ at_counts counts i d below in
      let sites_here = sites_there counts (i + 1) (get_or counts i d) here in
      let filled_here = filled_there counts (i + 1) (get_or counts i d) here in (
        omega (arith, few, sites_here, sites (i + 1) (omega arith), count_by-le-length (λ (one : Standing). bears_label one.site (i + 1)) standing),
        omega (arith, few, filled_here, filled (i + 1) (omega arith), count_by-le-length (λ (one : Standing). holds_member_of query one.site one.number (i + 1)) standing),
      );
}

-- ---- the numbers of frames

-- a number that is chosen at open slots, before others
first_number : (query : QueryView) (rest : List Slot) (j : ℕ) (others : List ℕ) → Chooses query rest (j ∷ others) → (1 ≤ j) × (j ≤ most_first query rest)
first_number query [] j others chooses = absurd chooses
first_number query (slot ∷ rest) j others chooses = (chooses.0, chooses.1)

module _ (query : QueryView) (most numbers : List ℕ) (chosen rest : List Slot) (counts : List Count) (ahead : Ahead) (is : StandsAt query most numbers chosen rest counts ahead) where
  -- codes that begin with the numbers go on with a number at the first open slot
  pub goes_with : (j : ℕ) (more : List ℕ) → BeginsCode query (numbers ++ j ∷ more) → (1 ≤ j) × (j ≤ most_first query rest)
  goes_with j more begins =
      let whole : Chooses query (slots_of query 0) (numbers ++ (j ∷ (more ++ begins.more))) =
      subst (Chooses query (slots_of query 0)) (append_assoc numbers (j ∷ more) begins.more) (chooses_of query 0 ((numbers ++ j ∷ more) ++ begins.more) begins.code) in
      first_number query rest j (more ++ begins.more) (behind_chooses query (slots_of query 0) numbers chosen rest (j ∷ (more ++ begins.more)) is.leaves whole)

  -- a code begins with them
  pub begins_at : BeginsCode query numbers
  begins_at =
      let code = some_code query rest is.known in
      record { more = code.0; code = is_code_of query 0 (numbers ++ code.0) (chooses_behind query (slots_of query 0) numbers chosen rest code.0 is.leaves code.1) }

  pub room_at : LeavesRoom query rest (length numbers)
  room_at = room_behind query is.fits numbers chosen rest is.leaves

  pub counts_at : AreCounts (length numbers) counts
  counts_at = counts_few query counts (standing_by query (slots_of query 0) numbers) (length numbers) is.groups (standing_few query (slots_of query 0) numbers) is.sites is.filled

  -- all sites, with those that stand by more numbers
  sites_all : (more : List ℕ) (g : ℕ) → 1 ≤ g
      → sites_at counts g + sites_of (standing_by query rest more) g ≡ sites_at (replicate 32 no_sites) g + sites_of (standing_by query (slots_of query 0) (numbers ++ more)) g
  sites_all more g least =
      omega (
        arith,
        is.sites g least,
        (none_counted 32).sites g,
        ap (λ standing. sites_of standing g) (standing_behind query (slots_of query 0) numbers chosen rest more is.leaves),
        sites_both (standing_by query (slots_of query 0) numbers) (standing_by query rest more) g,
      )

  filled_all : (more : List ℕ) (g : ℕ) → 1 ≤ g
      → filled_at counts g + filled_of query (standing_by query rest more) g ≡ filled_at (replicate 32 no_sites) g + filled_of query (standing_by query (slots_of query 0) (numbers ++ more)) g
  filled_all more g least =
      omega (
        arith,
        is.filled g least,
        (none_counted 32).filled g,
        ap (λ standing. filled_of query standing g) (standing_behind query (slots_of query 0) numbers chosen rest more is.leaves),
        filled_both query (standing_by query (slots_of query 0) numbers) (standing_by query rest more) g,
      )

  -- what completes the counts makes a valid code of the numbers
  pub valid_behind : (more : List ℕ) → Completes query counts rest more → IsValid query (numbers ++ more)
  valid_behind more completes =
      valid_of query (replicate 32 no_sites) (none_counted 32) (numbers ++ more)
      (record {
        chooses = chooses_behind query (slots_of query 0) numbers chosen rest more is.leaves completes.chooses;
        logic = allowed_same query _ _ _ _ (λ g least. sites_all more g least) (λ g least. filled_all more g least) completes.logic;
      })

  -- and the other way round
  pub completes_behind : (more : List ℕ) → IsValid query (numbers ++ more) → Completes query counts rest more
  completes_behind more valid =
      let completes = completes_of query (replicate 32 no_sites) (none_counted 32) (numbers ++ more) valid in
      record {
        chooses = behind_chooses query (slots_of query 0) numbers chosen rest more is.leaves completes.chooses;
        logic = allowed_same query _ _ _ _ (λ g least. sym (sites_all more g least)) (λ g least. sym (filled_all more g least)) completes.logic;
      }

-- ---- what loops keep

-- so many numbers of the front are chosen
pub record IsSought (query : QueryView) (most front : List ℕ) (i : ℕ) (frames : Frames) : Type 0 where
  pub are : AreFrames query most frames
  pub once : frames.once ≡ false
  pub depth : frames.depth ≡ i
  pub numbers : numbers_of frames ≡ take i front

-- the same beginnings of codes are left from the frames on as from where they were
pub record IsWentBack (query : QueryView) (most : List ℕ) (start frames : Frames) : Type 0 where
  pub are : AreFrames query most frames
  pub once : frames.once ≡ false
  pub same : SameFrom (BeginsCode query) (from_of start) (from_of frames)
  pub up : IsBelow (from_of frames) (from_of start) → ⊥

-- the same valid codes are
pub record HasNoneUpTo (query : QueryView) (most : List ℕ) (start frames : Frames) : Type 0 where
  pub are : AreFrames query most frames
  pub same : SameFrom (IsValid query) (from_of start) (from_of frames)
  pub up : IsBelow (from_of frames) (from_of start) → ⊥
