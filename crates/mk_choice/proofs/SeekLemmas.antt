-- What frames come to: the root, a front, the next numbers, and back.
--     frames_none         the frames of no numbers
--     ready_none          a `Codes` at the empty place
--     ready_dead          a `Codes` where no code is valid
--     frames_begin        a code begins with the numbers of frames
--     sought_stops, sought_all       where the numbers of a front end
--     went_back, went_onward, went_none           where no greater number is left
use Rattle.std.proofs.Common.{◌≡◌, ℕ, ◌+◌, ◌<◌, ◌≤◌, List, [], ◌∷◌, ◌++◌, drop, length, get_or, take, None, sym, ap, subst, ◌∙◌, arith, All}
use Rattle.std.specs.Prelude.{Bool, false}
use Rattle.std.proofs.lemmas.List.{drop_more, take-append-drop, take_all, take_more}
use Rattle.mk_text.specs.Rising.{IsBelow, IsLeast, IsLeastFrom}
use Rattle.mk_text.proofs.ForCallers.{below_through, not_below_itself}
use Rattle.mk_model.specs.Logic.{IsValid}
use Rattle.mk_model.specs.Nodes.{BeginsCode, SameFrom}
use Rattle.mk_model.specs.Queries.{QueryView, slots_of}
use Rattle.mk_model.specs.QueryFits.{QueryFits}
use Rattle.mk_model.proofs.ForCallers.{below_next, not_below_through}
use Rattle.mk_choice.specs.declared.frames.Frames.{Frames}
use Rattle.mk_choice.specs.Ahead.{HasRows, IsAhead}
use Rattle.mk_choice.specs.Bounds.{AreBounds}
use Rattle.mk_choice.specs.Codes.{IsReady}
use Rattle.mk_choice.specs.Frames.{AreFrames, IsOnward, from_at, from_of, most_first, numbers_of, open_of}
use Rattle.mk_choice.specs.Search.{AreNone, CantComplete, IsKnown}
use Rattle.mk_choice.proofs.FrameLemmas.{IsSought, IsWentBack, begins_at, completes_behind}
use Rattle.mk_choice.proofs.FrontLemmas.{least_itself, least_through, none_through, past_up, same_through}
use Rattle.mk_choice.proofs.MoveLemmas.{back_same, back_up, none_left, settled_open, stands_none, stops_same}
use Rattle.mk_choice.proofs.StepLemmas.{chosen_of}
use Rattle.mk_choice.proofs.TurnLemmas.{no_empty_code}

module _ (query : QueryView) (most : List ℕ) where
  -- the frames of no numbers
  pub frames_none : (new : Frames) → QueryFits query → AreBounds query most → All IsKnown (slots_of query 0) → new.depth ≡ 0 → open_of new ≡ slots_of query 0
      → length new.numbers.items ≡ 512 → length new.slots ≡ 512 → length new.waiting ≡ 512 → new.first ≤ 512
      → length new.counts ≡ 32 → AreNone new.counts → HasRows new.ahead → IsAhead most (slots_of query 0) new.ahead → AreFrames query most new
  frames_none new fits bounds known depth rest numbers_room slots_room open_room first_within groups none rows is_ahead = record {
    stands = rw (depth, rest) (stands_none query most new.counts new.ahead fits bounds known groups none rows is_ahead);
    within = omega (arith, depth);
    numbers_room = numbers_room;
    slots_room = slots_room;
    open_room = open_room;
    first_within = first_within;
  }

  -- at the empty place of a root with slots
  pub ready_none : (frames : Frames) → AreFrames query most frames → (place : List ℕ) → 514 ≤ length place → frames.depth ≡ 0 → frames.above ≡ 0 → frames.once ≡ false
      → 0 < length (slots_of query 0) → IsReady query most frames place 0 0
  ready_none frames are place room depth above once some =
      let none : numbers_of frames ≡ [] = ap (λ (n : ℕ). take n frames.numbers.items) depth in
      let from : from_of frames ≡ numbers_of frames ++ 1 ∷ [] =
      ap (λ (b : Bool). from_at b (numbers_of frames) frames.above) once ∙ ap (λ (a : ℕ). numbers_of frames ++ (a + 1) ∷ []) above in
      let no_code : IsValid query (numbers_of frames) → ⊥ = λ valid. no_empty_code query some (subst (IsValid query) none valid) in
      let from_first : from_of frames ≡ 1 ∷ [] = from ∙ ap (λ (xs : List ℕ). xs ++ 1 ∷ []) none in
      record {
        frames_are = are;
        within = omega arith;
        room = room;
        same = subst (λ (xs : List ℕ). SameFrom (IsValid query) xs (from_of frames)) none
            (subst (λ (xs : List ℕ). SameFrom (IsValid query) (numbers_of frames) xs) (sym from)
            (settled_open query most (numbers_of frames) (chosen_of frames) (open_of frames) frames.counts frames.ahead are.stands no_code));
        up = λ below. below;
        owed = λ _. rw from_first tt;
      }

  -- where no code is valid, anywhere behind the place
  pub ready_dead : (frames : Frames) (above : ℕ) → AreFrames query most frames → (place kept : List ℕ) → 514 ≤ length kept → length place ≤ length kept → take (length place) kept ≡ place
      → frames.depth ≡ 0 → frames.once ≡ false → CantComplete query frames.counts (open_of frames) → IsBelow place ((above + 1) ∷ [])
      → IsReady query most (record {
        counts = frames.counts;
        ahead = frames.ahead;
        numbers = frames.numbers;
        slots = frames.slots;
        waiting = frames.waiting;
        first = frames.first;
        depth = frames.depth;
        above = above;
        once = frames.once;
        together = frames.together;
        idle = frames.idle;
      }) kept (length place) 0
  ready_dead frames above are place kept room within is depth once dead below =
      let none : numbers_of frames ≡ [] = ap (λ (n : ℕ). take n frames.numbers.items) depth in
      let from : from_at frames.once (numbers_of frames) above ≡ (above + 1) ∷ [] =
      ap (λ (b : Bool). from_at b (numbers_of frames) above) once ∙ ap (λ (xs : List ℕ). xs ++ (above + 1) ∷ []) none in
      let no_code : (xs : List ℕ) → IsValid query xs → ⊥ =
      λ xs valid.
      dead xs (completes_behind query most (numbers_of frames) (chosen_of frames) (open_of frames) frames.counts frames.ahead are.stands xs
      (subst (λ (ns : List ℕ). IsValid query (ns ++ xs)) (sym none) valid)) in
      let under : IsBelow place (from_at frames.once (numbers_of frames) above) = subst (IsBelow place) (sym from) below in
      record {
        frames_are = record {
          stands = are.stands;
          within = are.within;
          numbers_room = are.numbers_room;
          slots_room = are.slots_room;
          open_room = are.open_room;
          first_within = are.first_within;
        };
        within = within;
        room = room;
        same = record { on = λ xs has. absurd (no_code xs has); back = λ xs has. absurd (no_code xs has) };
        up = λ over. not_below_itself place (below_through place (from_at frames.once (numbers_of frames) above) place under (subst (IsBelow (from_at frames.once (numbers_of frames) above)) is over));
        owed = λ _. subst (λ (xs : List ℕ). IsBelow xs (from_at frames.once (numbers_of frames) above)) (sym is) under;
      }

  -- a code begins with the numbers
  pub frames_begin : (frames : Frames) → AreFrames query most frames → BeginsCode query (numbers_of frames)
  frames_begin frames are = begins_at query most (numbers_of frames) (chosen_of frames) (open_of frames) frames.counts frames.ahead are.stands

  -- ---- a front

  module _ (front : List ℕ) (i : ℕ) (frames : Frames) (is : IsSought query most front i frames) where
    module _ (below : i < length front) (number : ℕ) (number_is : number ≡ get_or front i number) where
      tail : List ℕ
      tail = drop (i + 1) front

      front_is : front ≡ numbers_of frames ++ number ∷ tail
      unfolding tail
      front_is =
          sym (take-append-drop i front)
          ∙ ap (λ (xs : List ℕ). take i front ++ xs) (drop_more front i number below ∙ ap (λ (n : ℕ). n ∷ drop (i + 1) front) (sym number_is))
          ∙ ap (λ (xs : List ℕ). xs ++ number ∷ drop (i + 1) front) (sym is.numbers)

      -- the numbers end before one that isn't at the first open slot
      pub sought_stops : (1 ≤ number → number ≤ most_first query (open_of frames) → ⊥) → SameFrom (BeginsCode query) front (from_at frames.once (numbers_of frames) number)
      sought_stops none =
          rw is.once
          (subst (λ (xs : List ℕ). SameFrom (BeginsCode query) xs (numbers_of frames ++ (number + 1) ∷ [])) (sym front_is)
          (stops_same query most (numbers_of frames) (chosen_of frames) (open_of frames) frames.counts frames.ahead is.are.stands number tail none))

      pub sought_up : IsBelow (from_at frames.once (numbers_of frames) number) front → ⊥
      sought_up =
          rw is.once
          (subst (λ (xs : List ℕ). IsBelow (numbers_of frames ++ (number + 1) ∷ []) xs → ⊥) (sym front_is) (past_up (numbers_of frames) number tail))

      pub sought_over : IsBelow front (from_at frames.once (numbers_of frames) number)
      sought_over =
          rw is.once
          (subst (λ (xs : List ℕ). IsBelow xs (numbers_of frames ++ (number + 1) ∷ [])) (sym front_is)
          (below_next (numbers_of frames) number (number + 1) tail [] (omega arith)))

    -- or they are all
    pub sought_all : length front ≤ i → numbers_of frames ≡ front
    sought_all all = is.numbers ∙ take_all i front all

    pub sought_more : (new : Frames) (number : ℕ) → number ≡ get_or front i number → i < length front → AreFrames query most new → numbers_of new ≡ numbers_of frames ++ number ∷ []
        → new.depth ≡ frames.depth + 1 → new.once ≡ frames.once → IsSought query most front (i + 1) new
    sought_more new number number_is below are numbers depth once = record {
      are = are;
      once = once ∙ is.once;
      depth = omega (arith, depth, is.depth);
      numbers = numbers ∙ ap (λ (xs : List ℕ). xs ++ number ∷ []) is.numbers ∙ ap (λ (n : ℕ). take i front ++ n ∷ []) number_is ∙ sym (take_more front i number below);
    }

  -- ---- back

  module _ (start frames : Frames) (is : IsWentBack query most start frames) (all : most_first query (open_of frames) ≤ frames.above) where
    -- above the last number
    pub went_back : (mid : Frames) (last : ℕ) → AreFrames query most mid → numbers_of frames ≡ numbers_of mid ++ last ∷ [] → mid.once ≡ frames.once
        → IsWentBack query most start (record {
          counts = mid.counts;
          ahead = mid.ahead;
          numbers = mid.numbers;
          slots = mid.slots;
          waiting = mid.waiting;
          first = mid.first;
          depth = mid.depth;
          above = last;
          once = mid.once;
          together = mid.together;
          idle = mid.idle;
        })
    went_back mid last are numbers once = record {
      are = record {
        stands = are.stands;
        within = are.within;
        numbers_room = are.numbers_room;
        slots_room = are.slots_room;
        open_room = are.open_room;
        first_within = are.first_within;
      };
      once = once ∙ is.once;
      same = same_through (BeginsCode query) (from_of start) (from_of frames) (from_at mid.once (numbers_of mid) last) is.same
          (rw (once ∙ is.once, is.once)
          (back_same query most (numbers_of frames) (chosen_of frames) (open_of frames) frames.counts frames.ahead is.are.stands frames.above all (numbers_of mid) last numbers));
      up = not_below_through (from_at mid.once (numbers_of mid) last) (from_of frames) (from_of start)
          (rw (once ∙ is.once, is.once)
          (back_up query most (numbers_of frames) (chosen_of frames) (open_of frames) frames.counts frames.ahead is.are.stands frames.above all (numbers_of mid) last numbers))
          is.up;
    }

    -- the next number in place of the last is what is come to
    pub went_onward : (new : Frames) → AreFrames query most new → IsOnward (numbers_of frames) (numbers_of new) → IsLeast (from_of start) (BeginsCode query) (numbers_of new)
    went_onward new are onward =
        let P : List ℕ → Type 0 = BeginsCode query in
        let to = onward.before ++ (onward.last + 1) ∷ [] in
        let behind : SameFrom P (from_of frames) to =
        rw is.once (back_same query most (numbers_of frames) (chosen_of frames) (open_of frames) frames.counts frames.ahead is.are.stands frames.above all onward.before onward.last onward.old_is) in
        least_through P (from_of start) to (numbers_of new) (same_through P (from_of start) (from_of frames) to is.same behind)
        (subst (λ (xs : List ℕ). IsLeast xs P (numbers_of new)) onward.new_is (least_itself P (numbers_of new) (frames_begin new are)))

    -- nothing is left
    pub went_none : frames.depth ≡ 0 → IsLeastFrom (from_of start) (BeginsCode query) None
    went_none none =
        none_through (BeginsCode query) (from_of start) (from_of frames) is.same
        (rw is.once
        (none_left query most (numbers_of frames) (chosen_of frames) (open_of frames) frames.counts frames.ahead is.are.stands frames.above all
        (ap (λ (n : ℕ). take n frames.numbers.items) none)))
