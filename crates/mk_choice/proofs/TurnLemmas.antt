-- Turns of `Codes`: what is left behind what they come to, and what they pay.
--     turn_item, turn_open, turn_dead, turn_end      what a turn comes to
--     ready_behind, ready_still, ready_place, ready_over         what is kept
use Rattle.std.proofs.Common.{◌≡◌, ℕ, ◌<◌, ◌≤◌, inl, inr, List, [], ◌∷◌, ◌++◌, length, take, None, refl, sym, subst, arith, append-nil}
use Rattle.mk_text.specs.Rising.{IsBelow, IsLeast, IsLeastFrom}
use Rattle.mk_text.proofs.ForCallers.{below_through, below_what_isnt, between_none, not_below_itself}
use Rattle.mk_model.specs.Codes.{IsCode}
use Rattle.mk_model.specs.Logic.{IsValid}
use Rattle.mk_model.specs.Nodes.{BeginsCode, Pays, SameFrom}
use Rattle.mk_model.specs.Queries.{QueryView, slots_of}
use Rattle.mk_model.specs.declared.template.Slot.{Slot}
use Rattle.mk_model.specs.OpenSlots.{Chooses}
use Rattle.mk_model.proofs.ForCallers.{chooses_of, code_of_valid, not_below_front, not_below_through, pays_visit}
use Rattle.std.proofs.lemmas.List.{length-take-le}
use Rattle.mk_choice.specs.declared.frames.Frames.{Frames}
use Rattle.mk_choice.specs.Frames.{AreFrames, from_of}
use Rattle.mk_choice.proofs.FrontLemmas.{same_of, same_through}
use Rattle.mk_choice.specs.Codes.{IsReady, IsTurn}
use Rattle.mk_model.specs.declared.turn.Turn.TheVariants.{Item, Moved}

-- ---- the order

-- a list that isn't below another, and is below it with more behind, begins with it
record Begins (xs front : List ℕ) : Type 0 where
  rest : List ℕ
  whole : xs ≡ front ++ rest

begins : (xs front tail : List ℕ) → (IsBelow xs front → ⊥) → IsBelow xs (front ++ tail) → Begins xs front
begins xs [] tail not below = record { rest = xs; whole = refl }
begins [] (y ∷ front) tail not below = absurd (not tt)
begins (x ∷ xs) (y ∷ front) tail not (inl less) = absurd (not (inl less))
begins (x ∷ xs) (y ∷ front) tail not (inr h) =
    let r = begins xs front tail (λ below. not (inr (h.0, below))) h.1 in
    let whole = r.whole in
    let first = h.0 in
    record { rest = r.rest; whole = cc }

-- what is below a list is below it with more behind
longer : (xs front tail : List ℕ) → IsBelow xs front → IsBelow xs (front ++ tail)
longer xs [] tail below = absurd below
longer [] (y ∷ front) tail below = tt
longer (x ∷ xs) (y ∷ front) tail (inl less) = inl less
longer (x ∷ xs) (y ∷ front) tail (inr h) = inr (h.0, longer xs front tail h.1)

-- ---- what is left

module _ (query : QueryView) where
  -- a valid code begins itself
  pub begins_itself : (code : List ℕ) → IsValid query code → BeginsCode query code
  begins_itself code is = record { more = []; code = subst (λ (xs : List ℕ). IsCode query 0 xs) (sym (append-nil code)) (code_of_valid query code is) }

  module _ (place front node : List ℕ) (same : SameFrom (IsValid query) place front) (least : IsLeast front (BeginsCode query) node) where
    -- from the node on the same codes are left
    pub same_node : SameFrom (IsValid query) place node
    same_node = record {
      on = λ xs has not below. least.least xs (begins_itself xs has) (same.on xs has not) below;
      back = λ xs has not below. least_up xs has not below;
    }
      where
        least_up : (xs : List ℕ) → IsValid query xs → (IsBelow xs node → ⊥) → IsBelow xs place → ⊥
        least_up xs has not below = same.back xs has (not_below_through xs node front not least.from) below

    pub item_least : IsValid query node → IsLeast place (IsValid query) node
    item_least has = record {
      has = has;
      from = same_node.back node has (not_below_itself node);
      least = λ other has' not. same_node.on other has' not;
    }

    pub moved_same : SameFrom (IsValid query) place node
    moved_same = same_node

  -- behind numbers that are no code
  pub same_open : (node : List ℕ) → (IsValid query node → ⊥) → SameFrom (IsValid query) node (node ++ 0 ∷ [])
  same_open node no_code = record {
    on = λ xs has not below. (let is = between_none node xs not below in no_code (subst (IsValid query) (sym is) has));
    back = λ xs has not below. not (longer xs node (0 ∷ []) below);
  }

  -- behind numbers with which no code begins
  pub same_dead : (node tail : List ℕ) → ((more : List ℕ) → IsValid query (node ++ more) → ⊥) → SameFrom (IsValid query) node (node ++ tail)
  same_dead node tail dead = record {
    on = λ xs has not below. (let b = begins xs node tail not below in dead b.rest (subst (IsValid query) b.whole has));
    back = λ xs has not below. not (longer xs node tail below);
  }

  -- nothing is left where nothing is reached
  pub end_none : (place front : List ℕ) → SameFrom (IsValid query) place front → IsLeastFrom front (BeginsCode query) None → IsLeastFrom place (IsValid query) None
  end_none place front same none other has not = none other (begins_itself other has) (same.on other has not)

  -- what is least from the front is least from the place
  pub least_from : (place front : List ℕ) (code : List ℕ) → SameFrom (IsValid query) place front → IsLeast front (IsValid query) code → IsLeast place (IsValid query) code
  least_from place front code same least = record {
    has = least.has;
    from = same.back code least.has least.from;
    least = λ other has not. least.least other has (same.on other has not);
  }

  pub none_from : (place front : List ℕ) → SameFrom (IsValid query) place front → IsLeastFrom front (IsValid query) None → IsLeastFrom place (IsValid query) None
  none_from place front same none other has not = none other has (same.on other has not)

-- ---- what is kept

-- the first numbers of a list that were put there
pub put_there : (code kept : List ℕ) (n : ℕ) → n ≤ length code → take (length (take n code)) kept ≡ take n code → take n kept ≡ take n code
put_there code kept n within put = subst (λ (m : ℕ). take m kept ≡ take n code) (length-take-le n code within) put

module _ (query : QueryView) (most : List ℕ) (frames : Frames) (are : AreFrames query most frames) where
  -- behind a turn
  pub ready_behind : (place : List ℕ) (len : ℕ) → 514 ≤ length place → len ≤ 514 → (at : List ℕ) → take len place ≡ at
      → SameFrom (IsValid query) at (from_of frames) → IsBelow at (from_of frames) → IsReady query most frames place len 0
  ready_behind place len room few at is same over = record {
    frames_are = are;
    within = omega (arith, room, few);
    room = room;
    same = rw is same;
    up = rw is (λ below. not_below_itself at (below_through at (from_of frames) at over below));
    owed = λ _. rw is over;
  }

  -- where nothing is left
  pub ready_still : (old : Frames) (place : List ℕ) (len debt : ℕ) → IsReady query most old place len debt
      → SameFrom (IsValid query) (from_of old) (from_of frames) → (IsBelow (from_of frames) (from_of old) → ⊥) → IsReady query most frames place len debt
  ready_still old place len debt ready same up = record {
    frames_are = are;
    within = ready.within;
    room = ready.room;
    same = same_through (IsValid query) (take len place) (from_of old) (from_of frames) ready.same same;
    up = not_below_through (from_of frames) (from_of old) (take len place) up ready.up;
    owed = λ none. below_what_isnt (take len place) (from_of frames) (from_of old) (ready.owed none) up;
  }

  -- as they are made from a place
  pub ready_place : (place : List ℕ) (n : ℕ) → 514 ≤ length place → n ≤ length place → (from : List ℕ) → take n place ≡ from
      → SameFrom (BeginsCode query) from (from_of frames) → (IsBelow (from_of frames) from → ⊥) → IsReady query most frames place n 1
  ready_place place n room within from is same up = record {
    frames_are = are;
    within = within;
    room = room;
    same = rw is (same_of (BeginsCode query) (IsValid query) (begins_itself query) from (from_of frames) same);
    up = rw is up;
    owed = λ none. absurd (omega (arith, none));
  }

  -- the same where what comes first is above it
  pub ready_over : (place : List ℕ) (n : ℕ) → 514 ≤ length place → n ≤ length place → (from : List ℕ) → take n place ≡ from
      → SameFrom (BeginsCode query) from (from_of frames) → IsBelow from (from_of frames) → IsReady query most frames place n 0
  ready_over place n room within from is same over = record {
    frames_are = are;
    within = within;
    room = room;
    same = rw is (same_of (BeginsCode query) (IsValid query) (begins_itself query) from (from_of frames) same);
    up = rw is (λ below. not_below_itself from (below_through from (from_of frames) from over below));
    owed = λ _. rw is over;
  }

-- the empty place of a root with slots isn't a code
pub no_empty_code : (query : QueryView) → 0 < length (slots_of query 0) → IsValid query [] → ⊥
no_empty_code query some valid = chosen (slots_of query 0) some (chooses_of query 0 [] (code_of_valid query [] valid))
  where
    chosen : (slots : List Slot) → 0 < length slots → Chooses query slots [] → ⊥
    chosen [] some' chooses = omega (arith, some')
    chosen (slot ∷ slots) some' chooses = chooses

-- ---- what a turn comes to

module _ (query : QueryView) (place front : List ℕ) (debt : ℕ) (same : SameFrom (IsValid query) place front) (up : IsBelow front place → ⊥) (owed : debt ≡ 0 → IsBelow place front)
    (v : List ℕ) (least : IsLeast front (BeginsCode query) v) (at : List ℕ) where
  pays : (to : List ℕ) → (IsBelow to v → ⊥) → Pays (BeginsCode query) place debt to 0
  pays to behind = pays_visit (BeginsCode query) place front v to debt least.has least.from up owed behind

  pub turn_code : IsValid query v → at ≡ v ++ 0 ∷ [] → IsTurn (record { query = query; place = place; debt = debt }) (record { query = query; place = at; debt = 0 }) Item
  turn_code valid is = (
    (v, record { least = item_least query place front v same least valid; query = refl; place = is }),
    subst (λ (zs : List ℕ). Pays (BeginsCode query) place debt zs 0) (sym is) (pays (v ++ 0 ∷ []) (not_below_front v (0 ∷ []))),
  )

  pub turn_moved : length v ≤ 512 → at ≡ v → IsTurn (record { query = query; place = place; debt = debt }) (record { query = query; place = at; debt = 0 }) Moved
  turn_moved few is = (
    record {
      query = refl;
      same = subst (λ (zs : List ℕ). SameFrom (IsValid query) place zs) (sym is) (moved_same query place front v same least);
      few = subst (λ (zs : List ℕ). length zs ≤ 512) (sym is) few;
    },
    subst (λ (zs : List ℕ). Pays (BeginsCode query) place debt zs 0) (sym is) (pays v (not_below_itself v)),
  )
