-- Fronts that are passed over.
--     behind_front_none     no code begins with the place behind a front
--     front_passed          all codes behind a front that holds none are passed
--     shown_opened          a code that was taken out is passed or opened
use Rattle.std.proofs.Common.{◌≡◌, ℕ, ◌<◌, inl, inr, Bool, true, List, [], ◌∷◌, ◌++◌, length, All, Option, None, drop, get_or, take, sym, ap, subst, ◌∙◌, arith, append_assoc, append-nil, length-append}
use Rattle.std.proofs.Math.Seq.{get_or-append_seam}
use Rattle.std.proofs.lemmas.List.{get_or_default, take-append-drop}
use Rattle.std.proofs.lemmas.List.Elements.{All-append, All-cons, All-drop, All-head, All-nil, All-tail}
use Rattle.mk_text.specs.Rising.{IsBelow, IsLeast}
use Rattle.mk_text.proofs.ForCallers.{below_through, below_what_isnt}
use Rattle.mk_model.specs.Codes.{Choice, IsChoice, IsCode, spelling}
use Rattle.mk_model.specs.Codes.Choice.{done, repeated, unfilled, filled}
use Rattle.mk_model.specs.Expansions.{pieces_of}
use Rattle.mk_model.specs.Labels.{member}
use Rattle.mk_model.specs.Logic.{IsValid}
use Rattle.mk_model.specs.Molecules.{Molecule}
use Rattle.mk_model.specs.Nodes.{BeginsCode}
use Rattle.mk_model.specs.Queries.{QueryView, slots_of}
use Rattle.mk_model.specs.QueryFits.{QueryFits}
use Rattle.mk_model.specs.declared.template.Slot.{Slot}
use Rattle.mk_model.specs.declared.template.Slot.TheVariants.{Link, Site}
use Rattle.mk_model.proofs.ForCallers.{below_more, below_next, code_of_valid, few_members_at, not_below_front}
use Rattle.mk_choice.specs.Codes.{CodesLeft, IsMadeFrom, IsNext}
use Rattle.mk_pieces.specs.Rooms.{IsSmall, IsSmallTemplate}
use Rattle.mk_pieces.proofs.ForCallers.{have_room, root_small}
use Rattle.mk_layout.specs.Sites.{MayBeFilledSmall}
use Rattle.mk_layout.proofs.SlotLemmas.{filled_small, member_small}
use Rattle.mk_fronts.specs.Fronts.{BeginsWithNone}
use Rattle.mk_search.specs.declared.occurrences.Open.{Open}
use Rattle.mk_search.specs.Occurrences.{HitsBehind, IsCodeFrom, IsOpenedAt, Leaves, LeavesBy, is_open}
use Rattle.mk_search.specs.Passing.{IsBehindFront}
use Rattle.mk_search.specs.Turns.{IsCodeShown}
use Rattle.mk_search.proofs.BegunLemmas.{begun_over}
use Rattle.mk_search.proofs.LevelLemmas.{between_begins, goes_up}
use Rattle.mk_search.proofs.OpenLemmas.{begun_opened, hitless_passed}
use Rattle.mk_expansions.proofs.StartsLemmas.{before_zero}

-- ---- numbers

-- the slots of a small template may be filled by small ones
may_be_filled : (query : QueryView) → QueryFits query → (t : ℕ) → IsSmallTemplate query t → All (MayBeFilledSmall query) (slots_of query t)
may_be_filled query fits t small k d below =
    let slot = get_or (slots_of query t) k d in
    filled_small query fits t small slot (k, below, get_or_default (slots_of query t) k slot d below)

module _ (query : QueryView) (fits : QueryFits query) where
  -- the numbers of a choice: a link stands at most 512 times, and a site has at most 4,096 members
  choices_fit : (slots : List Slot) (choice : Choice) → IsChoice query slots choice → All (MayBeFilledSmall query) slots → All IsSmall (pieces_of query slots choice)
      → All (λ n. n < 4294967295) (spelling choice)
  unfolding pieces_of
  choices_fit [] done is may small = All-nil (λ n. n < 4294967295)
  choices_fit [] (repeated n others) is may small = absurd is
  choices_fit [] (unfilled n others) is may small = absurd is
  choices_fit [] (filled k inside others) is may small = absurd is
  choices_fit (Link atom most from to ∷ slots) done is may small = absurd is
  choices_fit (Link atom most from to ∷ slots) (unfilled n others) is may small = absurd is
  choices_fit (Link atom most from to ∷ slots) (filled k inside others) is may small = absurd is
  choices_fit (Link atom most from to ∷ slots) (repeated n others) is may small =
      let wide = (All-head IsSmall _ _ small).width in
      All-cons (λ m. m < 4294967295) n (spelling others) (omega (arith, wide))
      (choices_fit slots others is.2 (All-tail (MayBeFilledSmall query) _ slots may) (All-tail IsSmall _ _ small))
  choices_fit (Site atom groups first second ∷ slots) done is may small = absurd is
  choices_fit (Site atom groups first second ∷ slots) (repeated n others) is may small = absurd is
  choices_fit (Site atom groups first second ∷ slots) (unfilled n others) is may small =
      let few = few_members_at query fits (Site atom groups first second) in
      All-cons (λ m. m < 4294967295) n (spelling others) (omega (arith, few, is.0))
      (choices_fit slots others is.1 (All-tail (MayBeFilledSmall query) _ slots may) (All-tail IsSmall _ _ small))
  choices_fit (Site atom groups first second ∷ slots) (filled k inside others) is may small =
      let site = Site atom groups first second in
      let few = few_members_at query fits site in
      let here = member_small query site k (All-head (MayBeFilledSmall query) site slots may) is.0 is.1 in
      let t = member query site k in
      let within = choices_fit (slots_of query t) inside is.2 (may_be_filled query fits t here) (have_room query fits t here inside is.2).small in
      let behind = choices_fit slots others is.3 (All-tail (MayBeFilledSmall query) site slots may) (All-tail IsSmall _ _ small) in
      All-cons (λ m. m < 4294967295) k (spelling inside ++ spelling others) (omega (arith, few, is.1)) (All-append (λ m. m < 4294967295) (spelling inside) (spelling others) within behind)

  numbers_fit : (code : List ℕ) → IsCode query 0 code → All (λ n. n < 4294967295) code
  numbers_fit code is =
      let root = root_small query fits in
      subst (All (λ n. n < 4294967295)) is.spelt
      (choices_fit (slots_of query 0) is.choice is.made (may_be_filled query fits 0 root) (have_room query fits 0 root is.choice is.made).small)

  -- no number of a code is the greatest of all
  code_fits : (code : List ℕ) → IsValid query code → All (λ m. m < 4294967295) code
  code_fits code valid = numbers_fit code (code_of_valid query code valid)

  -- so no code begins with the place behind a front
  pub behind_front_none : (front at : List ℕ) → IsBehindFront front at → BeginsCode query at → ⊥
  behind_front_none front at is begins =
      let whole : at ++ begins.more ≡ front ++ 4294967295 ∷ begins.more = ap (λ (zs : List ℕ). zs ++ begins.more) is ∙ append_assoc front (4294967295 ∷ []) begins.more in
      let all = numbers_fit (front ++ 4294967295 ∷ begins.more) (subst (IsCode query 0) whole begins.code) in
      let here : get_or (front ++ 4294967295 ∷ begins.more) (length front) 0 < 4294967295 = all (length front) 0 (omega (arith, length-append front (4294967295 ∷ begins.more))) in
      omega (arith, here, get_or-append_seam front 4294967295 begins.more 0)

-- what goes on behind a front with numbers that aren't the greatest stands below the place behind it
under_behind : (front tail : List ℕ) → All (λ m. m < 4294967295) tail → IsBelow (front ++ tail) (front ++ 4294967295 ∷ [])
under_behind front [] all = subst (λ (zs : List ℕ). IsBelow zs (front ++ 4294967295 ∷ [])) (sym (append-nil front)) (below_more front 4294967295 [])
under_behind front (t ∷ tail) all = below_next front t 4294967295 tail [] (All-head (λ m. m < 4294967295) t tail all)

-- ---- what is passed

module _ (query : QueryView) (fits : QueryFits query) (mol : Molecule) (place : List ℕ) (old next : CodesLeft) (code : List ℕ) (taken : IsNext old next code) where
  module _ (new : CodesLeft) (k : ℕ) (passed : BeginsWithNone query mol code k) (at : List ℕ) (is : IsBehindFront (take k code) at) (made : IsMadeFrom next.query at new) where
    placed : new.place ≡ take k code ++ 4294967295 ∷ []
    placed = made.place_is ∙ is

    -- the new place is above the code
    pub behind_over : IsValid query code → IsBelow code new.place
    behind_over valid =
        subst (λ (zs : List ℕ). IsBelow code zs) (sym placed)
        (subst (λ (zs : List ℕ). IsBelow zs (take k code ++ 4294967295 ∷ [])) (take-append-drop k code)
        (under_behind (take k code) (drop k code) (All-drop (λ m. m < 4294967295) k code (code_fits query fits code valid))))

    up : IsValid query code → IsBelow new.place old.place → ⊥
    up valid below = taken.least.from (below_through code new.place old.place (behind_over valid) below)

    -- nothing stands behind a code up to the new place
    none : IsLeast old.place (IsValid query) code → (front back : List ℕ) → IsValid query front → HitsBehind query mol front back → (IsBelow front old.place → ⊥) → IsBelow front new.place → ⊥
    none least front back valid its not under =
        let late : IsBelow front (take k code ++ drop k code) → ⊥ = subst (λ (zs : List ℕ). IsBelow front zs → ⊥) (sym (take-append-drop k code)) (least.least front valid not) in
        let b = between_begins front (take k code) (4294967295 ∷ [])
        (λ below. late (below_what_isnt front (take k code ++ drop k code) (take k code) below (not_below_front (take k code) (drop k code))))
        (subst (λ (zs : List ℕ). IsBelow front zs) placed under) in
        let both : front ++ back ≡ take k code ++ (b.more ++ back) = ap (λ (zs : List ℕ). zs ++ back) b.whole ∙ append_assoc (take k code) b.more back in
        passed.none (b.more ++ back)
        (record { code = front; hit = back; graph = its.graph; valid = valid; expanded = its.expanded; hits = its.hits; whole = sym both })

    pub front_passed : (open' : Option Open) (n m : ℕ) → m ≡ n → Leaves query mol place old None → open' ≡ None → IsOpenedAt query mol place old new open' n m
    front_passed open' n m same left shut =
        let least = subst (λ (q : QueryView). IsLeast old.place (IsValid q) code) left.query_is taken.least in
        record {
          code = code;
          least = least;
          passed = behind_over least.has;
          left = record {
            query_is = made.query_is ∙ taken.query ∙ left.query_is;
            by = subst (λ (o : Option Open). LeavesBy query mol place new o) (sym shut)
                (goes_up (IsValid query) (HitsBehind query mol) place old.place new.place left.by (up least.has) (none least));
          };
          begun = begun_over (IsCodeFrom query mol place) old.place new.place n m (up least.has) same;
          for_it = λ open''. absurd (let no : is_open None ≡ true = subst (λ (o : Option Open). is_open o ≡ true) shut open'' in cc);
        }

-- a code that was taken out is passed, by itself or with others, or it is opened
pub shown_opened : (query : QueryView) → QueryFits query → (mol : Molecule) (place : List ℕ) (old next new : CodesLeft) (open' : Option Open) (before after : ℕ) (bare : Bool)
    → Leaves query mol place old None → (code : List ℕ) → IsNext old next code → IsCodeShown query mol place next new open' before after bare
    → IsOpenedAt query mol place old new open' before after
shown_opened query fits mol place old next new open' before after bare left code taken (inl r) =
    let code_is : r.1.code ≡ code = before_zero r.1.code code (sym r.1.placed ∙ taken.place) in
    front_passed query fits mol place old next r.1.code (subst (IsNext old next) (sym code_is) taken) new r.1.n r.1.none r.1.at r.1.behind r.1.made open' before after r.1.same_count left r.1.shut
shown_opened query fits mol place old next new open' before after bare left code taken (inr (inl h)) =
    hitless_passed query mol place old next new open' before after left code taken h.1
shown_opened query fits mol place old next new open' before after bare left code taken (inr (inr b)) =
    begun_opened query mol place old next new open' before after left code taken b.0
