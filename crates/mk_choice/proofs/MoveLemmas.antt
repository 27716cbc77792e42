-- A number put on and taken off, and what is left then.
--     stands_none, stands_down, stands_up      what is kept
--     counts_before, stands_onward             with another last number
--     few_behind                               how many slots are open
--     back_same, back_up, none_left, stops_same      where nothing is left behind numbers
--     settled_same, settled_open, settled_dead       behind numbers that are come to
--     length_is, counts_within, room_for_more        how many numbers there are, and may be
use Rattle.std.proofs.Common.{◌≡◌, ℕ, suc, ◌+◌, ◌-◌, ◌<◌, ◌≤◌, inl, List, [], ◌∷◌, ◌++◌, length, take, None, refl, sym, ap, subst, ◌∙◌, arith, append_assoc, append-nil, All}
use Rattle.std.proofs.lemmas.List.{length-take-le}
use Rattle.std.proofs.lemmas.List.Elements.{All-append, All-cons, All-nil}
use Rattle.mk_text.specs.Rising.{IsBelow, IsLeastFrom}
use Rattle.mk_model.specs.declared.query.Count.{Count}
use Rattle.mk_model.specs.declared.template.Slot.{Slot}
use Rattle.mk_model.specs.Logic.{IsAllowed, IsValid, Standing, filled_of, sites_of}
use Rattle.mk_model.specs.Nodes.{BeginsCode, SameFrom}
use Rattle.mk_model.specs.OpenSlots.{Chooses, most_at, opened, standing_at, standing_by}
use Rattle.mk_model.specs.Queries.{QueryView, slots_of}
use Rattle.mk_model.specs.QueryFits.{QueryFits}
use Rattle.mk_logic.specs.Counts.{filled_at, sites_at}
use Rattle.mk_choice.specs.declared.pending.Ahead.{Ahead}
use Rattle.mk_choice.specs.Ahead.{HasRows, IsAhead}
use Rattle.mk_choice.specs.Bounds.{AreBounds}
use Rattle.mk_choice.specs.declared.frames.Frames.{Frames}
use Rattle.mk_choice.specs.Frames.{AreFrames, LeavesOpen, StandsAt, most_first, numbers_of, open_of}
use Rattle.mk_choice.specs.Search.{AreCounts, AreNone, CantComplete, Completes, IsKnown, LeavesRoom}
use Rattle.mk_choice.proofs.CountLemmas.{completes_none, filled_both, none_completes, sites_both}
use Rattle.mk_choice.proofs.FrameLemmas.{completes_behind, counts_at, counts_few, standing_few, goes_with, opens_more, room_at, standing_behind, valid_behind}
use Rattle.mk_choice.proofs.FrontLemmas.{behind_last, past_same, past_up, same_of, same_through}
use Rattle.mk_choice.proofs.SlotLemmas.{counts_grow, few_open, known_next, room_left}
use Rattle.mk_choice.proofs.TurnLemmas.{begins_itself, same_dead, same_open}

-- ---- known slots

-- what holds of all of two lists holds of those of the second
pub all_behind : (first behind : List Slot) → All IsKnown (first ++ behind) → All IsKnown behind
all_behind [] behind all = all
all_behind (slot ∷ first) behind all = all_behind first behind (λ k d below. all (suc k) d (omega arith))

-- the last of some
pub last_known : (chosen : List Slot) (slot : Slot) → All IsKnown (chosen ++ slot ∷ []) → IsKnown slot
last_known chosen slot all = all_behind chosen (slot ∷ []) all 0 slot (omega arith)

-- those before it
all_before : (chosen : List Slot) (slot : Slot) → All IsKnown (chosen ++ slot ∷ []) → All IsKnown chosen
all_before [] slot all = All-nil IsKnown
all_before (first ∷ chosen) slot all = All-cons IsKnown first chosen (all 0 first (omega arith)) (all_before chosen slot (λ k d below. all (suc k) d (omega arith)))

-- ---- what is kept

-- at the root
pub stands_none : (query : QueryView) (most : List ℕ) (counts : List Count) (ahead : Ahead) → QueryFits query → AreBounds query most → All IsKnown (slots_of query 0)
    → length counts ≡ 32 → AreNone counts → HasRows ahead → IsAhead most (slots_of query 0) ahead → StandsAt query most [] [] (slots_of query 0) counts ahead
stands_none query most counts ahead fits bounds known groups none rows is_ahead = record {
  fits = fits;
  bounds = bounds;
  leaves = refl;
  known = known;
  chosen_known = All-nil IsKnown;
  groups = groups;
  sites = λ g least. none.sites g;
  filled = λ g least. none.filled g;
  rows = rows;
  is_ahead = is_ahead;
}

module _ (query : QueryView) (most numbers : List ℕ) (chosen : List Slot) (slot : Slot) (behind : List Slot) where
  -- the sites that stand by one number more
  standing_more : (k : ℕ) → LeavesOpen query (slots_of query 0) numbers chosen (slot ∷ behind)
      → standing_by query (slots_of query 0) (numbers ++ k ∷ []) ≡ standing_by query (slots_of query 0) numbers ++ standing_at slot k
  standing_more k leaves =
      standing_behind query (slots_of query 0) numbers chosen (slot ∷ behind) (k ∷ []) leaves
      ∙ ap (λ (sites : List Standing). standing_by query (slots_of query 0) numbers ++ sites) (append-nil (standing_at slot k))

  sites_more : (k : ℕ) → LeavesOpen query (slots_of query 0) numbers chosen (slot ∷ behind) → (g : ℕ)
      → sites_of (standing_by query (slots_of query 0) (numbers ++ k ∷ [])) g ≡ sites_of (standing_by query (slots_of query 0) numbers) g + sites_of (standing_at slot k) g
  sites_more k leaves g =
      ap (λ (sites : List Standing). sites_of sites g) (standing_more k leaves) ∙ sites_both (standing_by query (slots_of query 0) numbers) (standing_at slot k) g

  filled_more : (k : ℕ) → LeavesOpen query (slots_of query 0) numbers chosen (slot ∷ behind) → (g : ℕ)
      → filled_of query (standing_by query (slots_of query 0) (numbers ++ k ∷ [])) g ≡ filled_of query (standing_by query (slots_of query 0) numbers) g + filled_of query (standing_at slot k) g
  filled_more k leaves g =
      ap (λ (sites : List Standing). filled_of query sites g) (standing_more k leaves) ∙ filled_both query (standing_by query (slots_of query 0) numbers) (standing_at slot k) g

  module _ (k : ℕ) (counts next : List Count) (ahead ahead' : Ahead) (groups : length next ≡ 32) (rows : HasRows ahead') where
    -- one number more
    pub stands_down : StandsAt query most numbers chosen (slot ∷ behind) counts ahead → 1 ≤ k → k ≤ most_at query slot → IsKnown slot → All IsKnown (opened query slot k)
        → ((g : ℕ) → 1 ≤ g → sites_at next g ≡ sites_at counts g + sites_of (standing_at slot k) g)
        → ((g : ℕ) → 1 ≤ g → filled_at next g ≡ filled_at counts g + filled_of query (standing_at slot k) g)
        → IsAhead most (opened query slot k ++ behind) ahead' → StandsAt query most (numbers ++ k ∷ []) (chosen ++ slot ∷ []) (opened query slot k ++ behind) next ahead'
    stands_down is least most' known opens sites filled is_ahead = record {
      fits = is.fits;
      bounds = is.bounds;
      leaves = opens_more query (slots_of query 0) numbers chosen slot behind k is.leaves least most';
      known = known_next slot behind (opened query slot k) opens is.known;
      chosen_known = All-append IsKnown chosen (slot ∷ []) is.chosen_known (All-cons IsKnown slot [] known (All-nil IsKnown));
      groups = groups;
      sites = λ g up. omega (arith, sites g up, is.sites g up, sites_more k is.leaves g);
      filled = λ g up. omega (arith, filled g up, is.filled g up, filled_more k is.leaves g);
      rows = rows;
      is_ahead = is_ahead;
    }

    -- one number less
    pub stands_up : (rest : List Slot) → StandsAt query most (numbers ++ k ∷ []) (chosen ++ slot ∷ []) rest counts ahead
        → LeavesOpen query (slots_of query 0) numbers chosen (slot ∷ behind) → opened query slot k ++ behind ≡ rest
        → ((g : ℕ) → 1 ≤ g → sites_at next g ≡ sites_at counts g - sites_of (standing_at slot k) g)
        → ((g : ℕ) → 1 ≤ g → filled_at next g ≡ filled_at counts g - filled_of query (standing_at slot k) g)
        → IsAhead most (slot ∷ behind) ahead' → StandsAt query most numbers chosen (slot ∷ behind) next ahead'
    stands_up rest is leaves whole sites filled is_ahead = record {
      fits = is.fits;
      bounds = is.bounds;
      leaves = leaves;
      known = All-cons IsKnown slot behind (last_known chosen slot is.chosen_known) (all_behind (opened query slot k) behind (rw whole is.known));
      chosen_known = all_before chosen slot is.chosen_known;
      groups = groups;
      sites = λ g up. omega (arith, sites g up, is.sites g up, sites_more k leaves g);
      filled = λ g up. omega (arith, filled g up, is.filled g up, filled_more k leaves g);
      rows = rows;
      is_ahead = is_ahead;
    }

  -- another number in place of the last
  module _ (k : ℕ) (counts before next : List Count) (ahead ahead' : Ahead) (rest : List Slot) (is : StandsAt query most (numbers ++ k ∷ []) (chosen ++ slot ∷ []) rest counts ahead)
      (leaves : LeavesOpen query (slots_of query 0) numbers chosen (slot ∷ behind)) (whole : opened query slot k ++ behind ≡ rest)
      (sites : (g : ℕ) → 1 ≤ g → sites_at before g ≡ sites_at counts g - sites_of (standing_at slot k) g)
      (filled : (g : ℕ) → 1 ≤ g → filled_at before g ≡ filled_at counts g - filled_of query (standing_at slot k) g) where
    -- the counts of those before it
    pub counts_before : length before ≡ 32 → (n : ℕ) → length numbers ≤ n → AreCounts n before
    counts_before groups n few =
        counts_few query before (standing_by query (slots_of query 0) numbers) n groups (omega (arith, few, standing_few query (slots_of query 0) numbers))
        (λ g up. omega (arith, sites g up, is.sites g up, sites_more k leaves g))
        (λ g up. omega (arith, filled g up, is.filled g up, filled_more k leaves g))

    pub stands_onward : (j : ℕ) → 1 ≤ j → j ≤ most_at query slot → All IsKnown (opened query slot j) → length next ≡ 32
        → ((g : ℕ) → 1 ≤ g → sites_at next g ≡ sites_at before g + sites_of (standing_at slot j) g)
        → ((g : ℕ) → 1 ≤ g → filled_at next g ≡ filled_at before g + filled_of query (standing_at slot j) g)
        → HasRows ahead' → IsAhead most (opened query slot j ++ behind) ahead' → StandsAt query most (numbers ++ j ∷ []) (chosen ++ slot ∷ []) (opened query slot j ++ behind) next ahead'
    stands_onward j least most' opens groups sites' filled' rows is_ahead = record {
      fits = is.fits;
      bounds = is.bounds;
      leaves = opens_more query (slots_of query 0) numbers chosen slot behind j leaves least most';
      known = All-append IsKnown (opened query slot j) behind opens (all_behind (opened query slot k) behind (rw whole is.known));
      chosen_known = is.chosen_known;
      groups = groups;
      sites = λ g up. omega (arith, sites' g up, sites g up, is.sites g up, sites_more k leaves g, sites_more j leaves g);
      filled = λ g up. omega (arith, filled' g up, filled g up, is.filled g up, filled_more k leaves g, filled_more j leaves g);
      rows = rows;
      is_ahead = is_ahead;
    }

-- ---- where nothing is left

module _ (query : QueryView) (most numbers : List ℕ) (chosen rest : List Slot) (counts : List Count) (ahead : Ahead) (is : StandsAt query most numbers chosen rest counts ahead) where
  -- no more slots are open than there is room
  pub few_at : length rest ≤ 512
  few_at = few_open query rest (length numbers) is.known (room_at query most numbers chosen rest counts ahead is)

  module _ (above : ℕ) (all : most_first query rest ≤ above) where
    -- nothing begins behind the numbers from there on
    no_more : (more : List ℕ) → BeginsCode query (numbers ++ more) → (IsBelow more ((above + 1) ∷ []) → ⊥) → ⊥
    no_more [] begins not = not tt
    no_more (j ∷ more) begins not =
        let with_number = goes_with query most numbers chosen rest counts ahead is j more begins in
        not (inl (omega (arith, all, with_number.1)))

    -- and so what is left goes on above the last of them
    pub back_same : (before : List ℕ) (last : ℕ) → numbers ≡ before ++ last ∷ [] → SameFrom (BeginsCode query) (numbers ++ (above + 1) ∷ []) (before ++ (last + 1) ∷ [])
    back_same before last ends =
        rw (ends, behind_last before last above)
        (past_same (BeginsCode query) before last ((above + 1) ∷ [])
        (λ more begins. no_more more (subst (BeginsCode query) (sym (ap (λ (xs : List ℕ). xs ++ more) ends ∙ append_assoc before (last ∷ []) more)) begins)))

    pub back_up : (before : List ℕ) (last : ℕ) → numbers ≡ before ++ last ∷ [] → IsBelow (before ++ (last + 1) ∷ []) (numbers ++ (above + 1) ∷ []) → ⊥
    back_up before last ends = rw (ends, behind_last before last above) (past_up before last ((above + 1) ∷ []))

    -- where they are none, nothing is left
    pub none_left : numbers ≡ [] → IsLeastFrom (numbers ++ (above + 1) ∷ []) (BeginsCode query) None
    none_left none other begins not =
        no_more other (subst (BeginsCode query) (ap (λ (xs : List ℕ). xs ++ other) (sym none)) begins) (subst (λ (xs : List ℕ). IsBelow other (xs ++ (above + 1) ∷ []) → ⊥) none not)

  -- past a number that isn't at the first open slot
  pub stops_same : (number : ℕ) (tail : List ℕ) → (1 ≤ number → number ≤ most_first query rest → ⊥) → SameFrom (BeginsCode query) (numbers ++ number ∷ tail) (numbers ++ (number + 1) ∷ [])
  stops_same number tail none =
      past_same (BeginsCode query) numbers number tail
      (λ more begins not. (let with_number = goes_with query most numbers chosen rest counts ahead is number more begins in none with_number.0 with_number.1))

  -- ---- behind numbers that are come to

  -- behind a code
  pub settled_same : SameFrom (IsValid query) (numbers ++ 0 ∷ []) (numbers ++ 1 ∷ [])
  settled_same = same_of (BeginsCode query) (IsValid query) (begins_itself query) (numbers ++ 0 ∷ []) (numbers ++ 1 ∷ []) (stops_same 0 [] (λ least _. omega (arith, least)))

  -- behind what is none
  pub settled_open : (IsValid query numbers → ⊥) → SameFrom (IsValid query) numbers (numbers ++ 1 ∷ [])
  settled_open no_code = same_through (IsValid query) numbers (numbers ++ 0 ∷ []) (numbers ++ 1 ∷ []) (same_open query numbers no_code) settled_same

  -- behind what begins none
  pub settled_dead : (above : ℕ) → CantComplete query counts rest → SameFrom (IsValid query) numbers (numbers ++ (above + 1) ∷ [])
  settled_dead above dead =
      same_dead query numbers ((above + 1) ∷ []) (λ more valid. dead more (completes_behind query most numbers chosen rest counts ahead is more valid))

  -- numbers at which slots are open are no code
  pub open_none : (0 < length rest) → IsValid query numbers → ⊥
  open_none some valid =
      let completes = completes_behind query most numbers chosen rest counts ahead is [] (subst (IsValid query) (sym (append-nil numbers)) valid) in
      chosen_some rest some completes.chooses
    where
      chosen_some : (slots : List Slot) → 0 < length slots → Chooses query slots [] → ⊥
      chosen_some [] some' chooses = omega (arith, some')
      chosen_some (slot ∷ slots) some' chooses = chooses

  -- numbers at which none is are one exactly where they are allowed
  pub allowed_valid : rest ≡ [] → IsAllowed query (sites_at counts) (filled_at counts) → IsValid query numbers
  allowed_valid none allowed =
      subst (IsValid query) (append-nil numbers)
      (valid_behind query most numbers chosen rest counts ahead is [] (rw none (completes_none query counts allowed)))

  pub valid_allowed : rest ≡ [] → IsValid query numbers → IsAllowed query (sites_at counts) (filled_at counts)
  valid_allowed none valid =
      none_completes query counts
      (subst (λ (slots : List Slot). Completes query counts slots []) none
      (completes_behind query most numbers chosen rest counts ahead is []
      (subst (IsValid query) (sym (append-nil numbers)) valid)))

-- ---- of frames

module _ (query : QueryView) (most : List ℕ) (frames : Frames) (are : AreFrames query most frames) where
  -- so many numbers
  pub length_is : length (numbers_of frames) ≡ frames.depth
  length_is = length-take-le frames.depth frames.numbers.items (omega (arith, are.within, are.numbers_room))

  -- the counts are no more than they
  pub counts_within : (k : ℕ) → frames.depth ≤ k → AreCounts k frames.counts
  counts_within k up =
      counts_grow (length (numbers_of frames)) k frames.counts (omega (arith, length_is, up))
      (counts_at query most (numbers_of frames) (take frames.depth frames.slots) (open_of frames) frames.counts frames.ahead are.stands)

  -- with a number at the first open slot there is room for it
  pub room_for_more : 1 ≤ most_first query (open_of frames) → frames.depth < 512
  room_for_more some = by_open (open_of frames) refl
    where
      by_open : (rest : List Slot) → open_of frames ≡ rest → frames.depth < 512
      by_open [] none = absurd (omega (arith, some, ap (most_first query) none))
      by_open (slot ∷ rest) is =
          omega (
            arith,
            length_is,
            room_left query slot rest (length (numbers_of frames)) (subst (All IsKnown) is are.stands.known)
                (subst (λ (slots : List Slot). LeavesRoom query slots (length (numbers_of frames))) is
                (room_at query most (numbers_of frames) (take frames.depth frames.slots) (open_of frames)
                frames.counts frames.ahead are.stands)),
          )
