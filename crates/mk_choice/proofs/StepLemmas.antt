-- One number put on frames, taken off, or raised.
--     open_first          the first open slot
--     first_known, ahead_is, few_down, frames_down      one number more
--     last_is, slot_known, few_up, number_least, frames_up      one number less
--     few_before, few_onward, room_onward, frames_onward      another last number
use Rattle.std.proofs.Common.{◌≡◌, ℕ, ◌+◌, ◌-◌, ◌<◌, ◌≤◌, inl, inr, List, [], ◌∷◌, ◌++◌, drop, length, get_or, take, Some, refl, sym, ap, subst, ◌∙◌, arith, length-append, All}
use Rattle.std.specs.Prelude.{IfSome, slice_get}
use Rattle.std.proofs.lemmas.Bool.{cases_lt}
use Rattle.std.proofs.lemmas.Option.{get_or_from_slice_get}
use Rattle.std.proofs.lemmas.List.{drop-drop, drop_all, drop_at, drop_more, length-drop, length-take-le, take_more}
use Rattle.mk_model.specs.declared.query.Count.{Count}
use Rattle.mk_model.specs.declared.template.Slot.{Slot}
use Rattle.mk_model.specs.Logic.{filled_of, sites_of}
use Rattle.mk_model.specs.OpenSlots.{most_at, opened, standing_at}
use Rattle.mk_model.specs.Queries.{QueryView, slots_of}
use Rattle.mk_logic.specs.Counts.{filled_at, sites_at}
use Rattle.mk_choice.specs.declared.frames.Frames.{Frames}
use Rattle.mk_choice.specs.Ahead.{HasRows, IsAhead}
use Rattle.mk_choice.specs.Frames.{AreFrames, StandsAt, most_first, numbers_of, open_of}
use Rattle.mk_choice.specs.Search.{AreCounts, IsKnown}
use Rattle.mk_choice.proofs.FrameLemmas.{LastOf, opens_last, room_at, room_behind}
use Rattle.mk_choice.proofs.MoveLemmas.{all_behind, counts_before, last_known, room_for_more, stands_down, stands_onward, stands_up}
use Rattle.mk_choice.proofs.SlotLemmas.{few_open, known_dropped, known_first, known_next, known_taken, leaves_more}
use Rattle.std.proofs.lemmas.List.Elements.{All-cons}

-- the slots chosen
abbrev pub chosen_of : Frames → List Slot
chosen_of frames = take frames.depth frames.slots

module _ (query : QueryView) (most : List ℕ) (frames : Frames) (are : AreFrames query most frames) where
  -- ---- one number more

  -- the first open slot, and those behind it
  pub open_first : (slot : Slot) → 1 ≤ most_first query (open_of frames) → slice_get frames.waiting frames.first ≡ Some slot
      → open_of frames ≡ slot ∷ drop (frames.first + 1) frames.waiting
  open_first slot some is =
      elim (cases_lt frames.first 512) [
        | inl below ↦
            drop_more frames.waiting frames.first slot (omega (arith, below, are.open_room))
            ∙ ap (λ (s : Slot). s ∷ drop (frames.first + 1) frames.waiting) (get_or_from_slice_get frames.waiting frames.first slot slot is)
        | inr past ↦
            let none : open_of frames ≡ [] = drop_all frames.first frames.waiting (omega (arith, past, are.open_room)) in
            absurd (omega (arith, some, ap (most_first query) none))
      ]

  -- it is known
  pub known_open : IfSome (slice_get frames.waiting frames.first) IsKnown
  known_open = known_dropped frames.waiting frames.first are.stands.known

  -- and within the list
  pub within_open : 1 ≤ most_first query (open_of frames) → frames.first < length frames.waiting
  within_open some =
      elim (cases_lt frames.first (length frames.waiting)) [
        | inl below ↦ below
        | inr past ↦
            let none : open_of frames ≡ [] = drop_all frames.first frames.waiting past in
            absurd (omega (arith, some, ap (most_first query) none))
      ]

  -- a slot that was chosen at is known
  pub known_chosen : 1 ≤ frames.depth → IfSome (slice_get frames.slots (frames.depth - 1)) IsKnown
  known_chosen some = known_taken frames.slots frames.depth (frames.depth - 1) (omega (arith, some)) are.stands.chosen_known

  module _ (slot : Slot) (behind : List Slot) (is : open_of frames ≡ slot ∷ behind) where
    stands_is : StandsAt query most (numbers_of frames) (chosen_of frames) (slot ∷ behind) frames.counts frames.ahead
    stands_is = subst (λ (rest : List Slot). StandsAt query most (numbers_of frames) (chosen_of frames) rest frames.counts frames.ahead) is are.stands

    pub first_known : IsKnown slot
    first_known = known_first slot behind stands_is.known

    pub ahead_is : IsAhead most (slot ∷ behind) frames.ahead
    ahead_is = stands_is.is_ahead

    module _ (number : ℕ) (least : 1 ≤ number) (up_to : number ≤ most_first query (open_of frames)) (opens : All IsKnown (opened query slot number)) where
      at_slot : number ≤ most_at query slot
      at_slot = omega (arith, up_to, ap (most_first query) is)

      -- there is room for what it opens
      pub few_down : length (opened query slot number ++ behind) ≤ 512
      few_down =
          few_open query (opened query slot number ++ behind) (length (numbers_of frames) + 1) (known_next slot behind (opened query slot number) opens stands_is.known)
          (leaves_more query slot behind (length (numbers_of frames)) number least at_slot
          (room_at query most (numbers_of frames) (chosen_of frames) (slot ∷ behind) frames.counts frames.ahead stands_is))

      pub frames_down : (new : Frames) → numbers_of new ≡ numbers_of frames ++ number ∷ [] → chosen_of new ≡ chosen_of frames ++ slot ∷ [] → open_of new ≡ opened query slot number ++ behind
          → new.depth ≡ frames.depth + 1 → length new.numbers.items ≡ 512 → length new.slots ≡ 512 → length new.waiting ≡ 512 → new.first ≤ 512
          → length new.counts ≡ 32 → ((g : ℕ) → 1 ≤ g → sites_at new.counts g ≡ sites_at frames.counts g + sites_of (standing_at slot number) g)
          → ((g : ℕ) → 1 ≤ g → filled_at new.counts g ≡ filled_at frames.counts g + filled_of query (standing_at slot number) g)
          → HasRows new.ahead → IsAhead most (opened query slot number ++ behind) new.ahead → AreFrames query most new
      frames_down new numbers chosen rest depth numbers_room slots_room open_room first_within groups sites filled rows is_ahead = record {
        stands = rw (numbers, chosen, rest)
            (stands_down query most (numbers_of frames) (chosen_of frames) slot behind number frames.counts new.counts frames.ahead new.ahead groups rows stands_is least at_slot first_known opens
            sites filled is_ahead);
        within = omega (arith, depth, room_for_more query most frames are (omega (arith, least, up_to)));
        numbers_room = numbers_room;
        slots_room = slots_room;
        open_room = open_room;
        first_within = first_within;
      }

  -- ---- one number less

  module _ (some : 1 ≤ frames.depth) (number : ℕ) (slot : Slot)
      (number_is : number ≡ get_or frames.numbers.items (frames.depth - 1) number)
      (slot_is : slice_get frames.slots (frames.depth - 1) ≡ Some slot) where
    abbrev pub before : List ℕ
    before = take (frames.depth - 1) frames.numbers.items

    abbrev pub chosen_before : List Slot
    chosen_before = take (frames.depth - 1) frames.slots

    one_more : frames.depth ≡ frames.depth - 1 + 1
    one_more = omega (arith, some)

    pub numbers_are : numbers_of frames ≡ before ++ number ∷ []
    numbers_are =
        ap (λ (n : ℕ). take n frames.numbers.items) one_more
        ∙ take_more frames.numbers.items (frames.depth - 1) number (omega (arith, are.within, are.numbers_room, some))
        ∙ ap (λ (n : ℕ). take (frames.depth - 1) frames.numbers.items ++ n ∷ []) (sym number_is)

    chosen_are : chosen_of frames ≡ chosen_before ++ slot ∷ []
    chosen_are =
        ap (λ (n : ℕ). take n frames.slots) one_more
        ∙ take_more frames.slots (frames.depth - 1) slot (omega (arith, are.within, are.slots_room, some))
        ∙ ap (λ (s : Slot). take (frames.depth - 1) frames.slots ++ s ∷ []) (get_or_from_slice_get frames.slots (frames.depth - 1) slot slot slot_is)

    stands_last : StandsAt query most (before ++ number ∷ []) (chosen_before ++ slot ∷ []) (open_of frames) frames.counts frames.ahead
    stands_last =
        subst (λ (chosen : List Slot). StandsAt query most (before ++ number ∷ []) chosen (open_of frames) frames.counts frames.ahead) chosen_are
        (subst (λ (numbers : List ℕ). StandsAt query most numbers (chosen_of frames) (open_of frames) frames.counts frames.ahead) numbers_are are.stands)

    pub last : LastOf query (slots_of query 0) before chosen_before number slot (open_of frames)
    last = opens_last query (slots_of query 0) before chosen_before number slot (open_of frames) stands_last.leaves

    pub number_least : 1 ≤ number
    number_least = last.least

    pub slot_known : IsKnown slot
    slot_known = last_known chosen_before slot stands_last.chosen_known

    -- what is open without what the number opens
    abbrev pub behind_last_slot : List Slot
    behind_last_slot = last.behind

    behind_known : All IsKnown last.behind
    behind_known = all_behind (opened query slot number) last.behind (subst (All IsKnown) (sym last.whole) stands_last.known)

    -- there is room for the slot
    few_behind_slot : length last.behind ≤ 511
    few_behind_slot =
        omega (
          arith,
          few_open query (slot ∷ last.behind) (length before) (All-cons IsKnown slot last.behind slot_known behind_known)
              (room_behind query stands_last.fits before chosen_before (slot ∷ last.behind) last.leaves),
        )

    pub few_up : length behind_last_slot ≤ 511
    few_up = few_behind_slot

    -- how much room
    open_long : frames.first + length (opened query slot number) + length last.behind ≡ 512
    open_long =
        omega (
          arith,
          length-append (opened query slot number) last.behind,
          ap length last.whole,
          length-drop frames.first frames.waiting,
          are.open_room,
          are.first_within,
        )

    pub room_up : 1 ≤ frames.first + length (opened query slot number)
    room_up = omega (arith, open_long, few_behind_slot)

    pub within_up : frames.first + length (opened query slot number) ≤ 512
    within_up = omega (arith, open_long)

    pub ahead_last : IsAhead most (opened query slot number ++ behind_last_slot) frames.ahead
    ahead_last = subst (λ (rest : List Slot). IsAhead most rest frames.ahead) (sym last.whole) stands_last.is_ahead

    -- behind the slots that the number opens
    pub rest_last : drop (frames.first + length (opened query slot number)) frames.waiting ≡ behind_last_slot
    rest_last =
        sym (drop-drop (length (opened query slot number)) frames.first frames.waiting)
        ∙ ap (drop (length (opened query slot number))) (sym last.whole)
        ∙ drop_at (opened query slot number) last.behind (length (opened query slot number)) refl

    -- ---- the next number in place of the last

    module _ (first : List Count) (groups : length first ≡ 32) (sites : (g : ℕ) → 1 ≤ g → sites_at first g ≡ sites_at frames.counts g - sites_of (standing_at slot number) g)
        (filled : (g : ℕ) → 1 ≤ g → filled_at first g ≡ filled_at frames.counts g - filled_of query (standing_at slot number) g) where
      -- without the last there are fewer counts
      pub few_before : AreCounts 511 first
      few_before =
          counts_before query most before chosen_before slot last.behind number frames.counts first first frames.ahead
          frames.ahead (open_of frames) stands_last last.leaves last.whole sites filled groups 511
          (omega (arith, length-take-le (frames.depth - 1) frames.numbers.items (omega (arith, are.within, are.numbers_room)), are.within))

      module _ (j : ℕ) (least : 1 ≤ j) (up_to : j ≤ most_at query slot) (opens : All IsKnown (opened query slot j)) where
        -- there is room for what the next number opens
        pub few_onward : length (opened query slot j ++ last.behind) ≤ 512
        few_onward =
            few_open query (opened query slot j ++ last.behind) (length before + 1)
            (known_next slot last.behind (opened query slot j) opens (All-cons IsKnown slot last.behind slot_known behind_known))
            (leaves_more query slot last.behind (length before) j least up_to (room_behind query stands_last.fits before chosen_before (slot ∷ last.behind) last.leaves))

        pub room_onward : length (opened query slot j) ≤ frames.first + length (opened query slot number)
        room_onward = omega (arith, few_onward, open_long, length-append (opened query slot j) last.behind)

        pub frames_onward : (new : Frames) → numbers_of new ≡ before ++ j ∷ [] → new.slots ≡ frames.slots → open_of new ≡ opened query slot j ++ last.behind
            → new.depth ≡ frames.depth → length new.numbers.items ≡ 512 → length new.waiting ≡ 512 → new.first ≤ 512
            → length new.counts ≡ 32 → ((g : ℕ) → 1 ≤ g → sites_at new.counts g ≡ sites_at first g + sites_of (standing_at slot j) g)
            → ((g : ℕ) → 1 ≤ g → filled_at new.counts g ≡ filled_at first g + filled_of query (standing_at slot j) g)
            → HasRows new.ahead → IsAhead most (opened query slot j ++ last.behind) new.ahead → AreFrames query most new
        frames_onward new numbers slots rest depth numbers_room open_room first_within groups' sites' filled' rows is_ahead =
            let chosen : take new.depth new.slots ≡ chosen_before ++ slot ∷ [] =
            ap (λ (n : ℕ). take n new.slots) depth ∙ ap (take frames.depth) slots ∙ chosen_are in
            record {
              stands = rw (numbers, chosen, rest)
                  (stands_onward query most before chosen_before slot last.behind number frames.counts first new.counts
                  frames.ahead new.ahead (open_of frames) stands_last last.leaves last.whole sites filled
                  j least up_to opens groups' sites' filled' rows is_ahead);
              within = omega (arith, depth, are.within);
              numbers_room = numbers_room;
              slots_room = ap length slots ∙ are.slots_room;
              open_room = open_room;
              first_within = first_within;
            }

    pub frames_up : (new : Frames) → new.numbers.items ≡ frames.numbers.items → new.slots ≡ frames.slots → open_of new ≡ slot ∷ behind_last_slot
        → new.depth ≡ frames.depth - 1 → length new.waiting ≡ 512 → new.first ≤ 512
        → length new.counts ≡ 32 → ((g : ℕ) → 1 ≤ g → sites_at new.counts g ≡ sites_at frames.counts g - sites_of (standing_at slot number) g)
        → ((g : ℕ) → 1 ≤ g → filled_at new.counts g ≡ filled_at frames.counts g - filled_of query (standing_at slot number) g)
        → HasRows new.ahead → IsAhead most (slot ∷ behind_last_slot) new.ahead → AreFrames query most new
    frames_up new numbers slots rest depth open_room first_within groups sites filled rows is_ahead = record {
      stands = rw (depth, numbers, slots, rest)
          (stands_up query most before chosen_before slot last.behind number frames.counts new.counts frames.ahead
          new.ahead groups rows (open_of frames) stands_last last.leaves last.whole sites filled is_ahead);
      within = omega (arith, depth, are.within);
      numbers_room = ap length numbers ∙ are.numbers_room;
      slots_room = ap length slots ∙ are.slots_room;
      open_room = open_room;
      first_within = first_within;
    }
