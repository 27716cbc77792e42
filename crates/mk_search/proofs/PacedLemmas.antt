-- A page within a budget, turn by turn.
--     left_by_lower                 what a higher place leaves, a lower one does
--     paced_none                    no turn yet
--     paced_moved, paced_key        a turn more, that takes no key out, or one
--     paced_full, paced_ended, paced_spent      as many keys as asked for, or all, or the budget is spent
--     begins_full .. begins_spent   what was begun for them
--     paced_and_others              with those from its place on they are all
use Rattle.std.proofs.Common.{◌≡◌, ℕ, ◌+◌, ◌-◌, ◌<◌, ◌≤◌, ◌⊎◌, inl, inr, true, List, [], ◌∷◌, ◌++◌, length, None, refl, sym, ap, subst, ◌∙◌, arith, length-append}
use Rattle.mk_text.specs.Rising.{AreFirst, Each, Holds, IsBelow, IsFrom, IsLeast, IsLeastFrom, IsRisingListOfAll, place_behind}
use Rattle.mk_text.proofs.ForCallers.{Listed, all_below_behind, below_after, below_or_not, below_through, below_what_isnt, each_holds, first_and_others, first_listed, holds_append, holds_each, holds_either, listed_more, listed_moved, listed_none, none_before_place_behind, not_below_itself}
use Rattle.mk_model.specs.Keys.{IsKey, Remains}
use Rattle.mk_model.specs.Molecules.{Molecule}
use Rattle.mk_model.specs.Nodes.{IsNode, Pays, SameFrom}
use Rattle.mk_model.specs.Queries.{QueryView}
use Rattle.mk_model.specs.QueryFits.{QueryFits}
use Rattle.mk_model.proofs.ForCallers.{not_below_through}
use Rattle.mk_choice.proofs.FrontLemmas.{same_here, same_through}
use Rattle.mk_rows.specs.declared.by_number.Numbered.{Numbered}
use Rattle.mk_search.specs.declared.paced.Paced.{Paced}
use Rattle.mk_search.specs.declared.paced.Stop.{Stop}
use Rattle.mk_search.specs.declared.paced.Stop.TheVariants.{Full, Ended, Paused}
use Rattle.mk_search.specs.Begins.{BeginsOfPaced, BeginsWithOneOf, IsBegunUpTo, IsLeftBy, IsPairFrom, IsUpToLast}
use Rattle.mk_search.specs.Begun.{Begun, IsPairLeft, IsPairOf}
use Rattle.mk_search.specs.Hits.{HitsLeft, IsMadeFrom, MovesOn, TakesNone, TakesOutKey}
use Rattle.mk_search.specs.Laws.{PacedAndOthersAreAll}
use Rattle.mk_search.specs.Paced.{AreUpTo, IsPacedPage}
use Rattle.mk_search.specs.Pages.{IsHeldIn}
use Rattle.mk_expansions.specs.Starts.{first_number}
use Rattle.mk_search.proofs.BegunLemmas.{begun_append, begun_none, begun_same}
use Rattle.mk_search.proofs.HitsLemmas.{one_code_before, place_behind_last}
use Rattle.mk_search.proofs.LevelLemmas.{between_begins, over_not, same_if_neither}
use Rattle.mk_search.proofs.PagesLemmas.{key_has_few}
use Rattle.mk_search.proofs.PayLemmas.{PaysFor, below_later, for_one, pays_nothing, pays_on, stand_fewer}
use Rattle.mk_expansions.proofs.StartsLemmas.{shorter_below}

-- ---- pairs and places

-- what a higher place leaves, a lower one does: it isn't below it, or begins it
pub left_by_lower : (place higher pair : List ℕ) → (IsBelow higher place → ⊥) → IsLeftBy higher pair → IsLeftBy place pair
left_by_lower place higher pair up (inl not) = inl (λ below. not (below_what_isnt pair higher place below up))
left_by_lower place higher pair up (inr (behind, whole)) =
    elim (below_or_not pair place) [
      | inr not ↦ inl not
      | inl over ↦ by_end (below_or_not place (pair ++ behind)) over
    ]
  where
    up' : IsBelow (pair ++ behind) place → ⊥
    up' = subst (λ (zs : List ℕ). IsBelow zs place → ⊥) whole up

    by_end : IsBelow place (pair ++ behind) ⊎ (IsBelow place (pair ++ behind) → ⊥) → IsBelow pair place → IsLeftBy place pair
    by_end (inl under) over = (let b = between_begins place pair behind (λ below. over_not pair place over below) under in inr (b.more, b.whole))
    by_end (inr not) over = inr (behind, same_if_neither place (pair ++ behind) not up')

-- ---- turns

-- the keys up to where the search stands, what the turns have paid, and what was begun
pub record HasPacedTo (rows : List (Numbered Molecule)) (query : QueryView) (place : List ℕ) (left : HitsLeft) (keys : List (List ℕ)) (spent before now : ℕ) : Type 0 where
  pub rows_is : left.rows ≡ rows
  pub query_is : left.query ≡ query
  pub listed : Listed (IsFrom (IsKey (IsHeldIn rows) query) place) left.place keys
  pub others : SameFrom (IsKey (IsHeldIn rows) query) (place_behind place keys) left.place
  pub pays : PaysFor (IsNode (IsHeldIn rows) query) place (length place) left.place left.debt spent
  pub short : length left.place ≤ 514
  pub begun : Begun (IsPairLeft rows query place) (first_number place ∷ []) left.from before now
  pub up_to : (pair : List ℕ) → Holds begun.begun pair → IsBelow left.place pair → ⊥
  pub all : (key : List ℕ) → Holds keys key → BeginsWithOneOf begun.begun key
  pub last : left.opened ≡ true → (n : ℕ) (code : List ℕ) → left.from ≡ n ∷ (code ++ 0 ∷ []) → Holds begun.begun (n ∷ code)
  pub each_counted : length keys ≤ spent

-- what was begun for a page
begins_paced : (rows : List (Numbered Molecule)) (query : QueryView) (place from to : List ℕ) (before after : ℕ) (paced : Paced)
    → (b : Begun (IsPairLeft rows query place) from to before after)
    → ((pair : List ℕ) → Holds b.begun pair → IsBegunUpTo paced.stop paced.hits paced.place pair) → ((key : List ℕ) → Holds paced.hits key → BeginsWithOneOf b.begun key)
    → BeginsOfPaced (IsHeldIn rows) query place paced before after
begins_paced rows query place from to before after paced b up all = record {
  pairs = b.begun;
  rises = b.rise;
  each = holds_each (IsPairFrom (IsHeldIn rows) query place) b.begun (λ pair held. (let is = b.each pair held in record {
    number = is.of.number;
    mol = is.of.mol;
    screen = is.of.covered.screen;
    code = is.of.code;
    held = is.of.held;
    shows = is.of.covered.shows;
    covered = is.of.covered.covered;
    left = is.from;
    whole = is.of.is;
  }));
  ticks = b.ticked;
  up_to = holds_each (IsBegunUpTo paced.stop paced.hits paced.place) b.begun up;
  fronts = holds_each (BeginsWithOneOf b.begun) paced.hits all;
}

module _ (rows : List (Numbered Molecule)) (query : QueryView) (place : List ℕ) (before : ℕ) where
  pub paced_none : (left : HitsLeft) → length place ≤ 514 → IsMadeFrom rows query place left → HasPacedTo rows query place left [] 0 before before
  unfolding begun_none
  paced_none left few made = record {
    rows_is = made.rows_is;
    query_is = made.query_is;
    listed = subst (λ (zs : List ℕ). Listed (IsFrom (IsKey (IsHeldIn rows) query) place) zs []) (sym made.place_is)
        (listed_none (IsFrom (IsKey (IsHeldIn rows) query) place) place (λ xs is below. is.1 below));
    others = subst (λ (zs : List ℕ). SameFrom (IsKey (IsHeldIn rows) query) place zs) (sym made.place_is) (same_here (IsKey (IsHeldIn rows) query) place);
    pays = subst (λ (zs : List ℕ). PaysFor (IsNode (IsHeldIn rows) query) place (length place) zs left.debt 0) (sym made.place_is)
        (pays_nothing (IsNode (IsHeldIn rows) query) place (length place) left.debt made.few);
    short = omega (arith, few, ap length made.place_is);
    begun = subst (λ (zs : List ℕ). Begun (IsPairLeft rows query place) (first_number place ∷ []) zs before before) (sym made.from_is)
        (begun_none (IsPairLeft rows query place) (first_number place ∷ []) before before refl);
    up_to = λ pair held. absurd held;
    all = λ key held. absurd held;
    last = λ is n code e. absurd (let long = ap length (sym made.from_is ∙ e) in omega (arith, long, length-append code (0 ∷ [])));
    each_counted = omega arith;
  }

  module _ (old : HitsLeft) (keys : List (List ℕ)) (spent now : ℕ) (h : HasPacedTo rows query place old keys spent before now) where
    -- what is said of the search's rows and query
    own : (F : List (Numbered Molecule) → QueryView → Type 0) → F old.rows old.query → F rows query
    own F is = subst (λ (q : QueryView). F rows q) h.query_is (subst (λ (r : List (Numbered Molecule)). F r old.query) h.rows_is is)

    pair_from : (pair : List ℕ) → IsPairLeft old.rows old.query old.place pair → IsPairLeft rows query place pair
    pair_from pair is = record { of = own (λ r q. IsPairOf r q pair) is.of; from = left_by_lower place old.place pair h.pays.up is.from }

    -- what is begun by a turn, and behind what was begun before
    begun_more : (to : List ℕ) (after : ℕ) → Begun (IsPairLeft old.rows old.query old.place) old.from to now after → Begun (IsPairLeft rows query place) (first_number place ∷ []) to before after
    begun_more to after b = begun_append (IsPairLeft rows query place) (first_number place ∷ []) old.from old.from to before now after h.begun (not_below_itself old.from)
        (begun_same (IsPairLeft old.rows old.query old.place) (IsPairLeft rows query place) old.from to now after b (λ pair held is. pair_from pair is))

    -- what was begun before isn't above a place that isn't below
    still_up_to : (to : List ℕ) → (IsBelow to old.place → ⊥) → (pair : List ℕ) → Holds h.begun.begun pair → IsBelow to pair → ⊥
    still_up_to to up pair held over = h.up_to pair held (below_later old.place to pair up over)

    -- the first so many
    first_paced : AreFirst (length keys) (Remains (IsHeldIn rows) query place) keys
    first_paced = first_listed (IsFrom (IsKey (IsHeldIn rows) query) place) old.place keys h.listed

    up_to_paced : AreUpTo (IsHeldIn rows) query place keys old.place
    up_to_paced = record { first = first_paced; others = h.others; up = h.pays.up }

    -- ---- none is taken out

    pub paced_moved : (new : HitsLeft) (after : ℕ) → MovesOn old new now after → HasPacedTo rows query place new keys (spent + 1) before after
    unfolding begun_more begun_append begun_same
    paced_moved new after m =
        let same = own (λ r q. SameFrom (IsKey (IsHeldIn r) q) old.place new.place) m.same in
        let pays = own (λ r q. Pays (IsNode (IsHeldIn r) q) old.place old.debt new.place new.debt) m.pays in
        record {
          rows_is = m.search.rows ∙ h.rows_is;
          query_is = m.search.query ∙ h.query_is;
          listed = listed_moved (IsFrom (IsKey (IsHeldIn rows) query) place) old.place new.place keys h.listed (λ xs below. below_what_isnt xs new.place old.place below pays.up)
              (λ xs is not. same.on xs is.0 not);
          others = same_through (IsKey (IsHeldIn rows) query) (place_behind place keys) old.place new.place h.others same;
          pays = pays_on (IsNode (IsHeldIn rows) query) place old.place new.place (length place) old.debt new.debt spent 1 h.pays
              (for_one (IsNode (IsHeldIn rows) query) old.place new.place old.debt new.debt pays);
          short = m.short h.short;
          begun = begun_more new.from after m.begun;
          up_to = λ pair held. elim (holds_either h.begun.begun m.begun.begun pair held) [
            | inl here ↦ still_up_to new.place pays.up pair here
            | inr there ↦ m.up_to pair there
          ];
          all = λ key held. (let one = h.all key held in record { pair = one.pair; back = one.back; is = holds_append h.begun.begun m.begun.begun one.pair (inl one.is); whole = one.whole });
          last = λ is n code e. holds_append h.begun.begun m.begun.begun (n ∷ code)
              (elim (m.since is n code e) [ inl here ↦ inr here | inr was ↦ inl (h.last was.0 n code was.1) ]);
          each_counted = omega (arith, h.each_counted);
        }

    -- ---- a key is taken out

    module _ (fits : QueryFits query) (new : HitsLeft) (key : List ℕ) (after : ℕ) (t : TakesOutKey old new now after key) where
      is_key : IsLeast old.place (IsKey (IsHeldIn rows) query) key
      is_key = own (λ r q. IsLeast old.place (IsKey (IsHeldIn r) q) key) t.takes.least

      least_key : IsLeast old.place (IsFrom (IsKey (IsHeldIn rows) query) place) key
      least_key = record {
        has = (is_key.has, λ below. is_key.from (below_what_isnt key old.place place below h.pays.up));
        from = is_key.from;
        least = λ other is not. is_key.least other is.0 not;
      }

      -- the place is behind the last key
      key_place : new.place ≡ place_behind place (keys ++ key ∷ [])
      key_place = t.takes.place ∙ sym (place_behind_last place keys key)

      -- the key's pair was begun, now or before
      own_pair : Holds (h.begun.begun ++ t.takes.begun.begun) (t.takes.taken.number ∷ t.takes.taken.code)
      own_pair = holds_append h.begun.begun t.takes.begun.begun (t.takes.taken.number ∷ t.takes.taken.code)
          (elim t.since [ inl here ↦ inr here | inr was ↦ inl (h.last was.0 t.takes.taken.number t.takes.taken.code was.1) ])

      -- a list that is begun isn't above the key
      not_over : (pair : List ℕ) → IsBelow pair new.from → IsBelow key pair → ⊥
      not_over pair below over =
          none_before_place_behind (t.takes.taken.number ∷ t.takes.taken.code) pair
          (shorter_below (t.takes.taken.number ∷ t.takes.taken.code) t.takes.taken.hit pair (subst (λ (zs : List ℕ). IsBelow zs pair) t.takes.taken.whole over))
          (subst (λ (zs : List ℕ). IsBelow pair zs) t.takes.taken.placed below)

      over_key : (pair : List ℕ) → IsBelow new.place pair → IsBelow key pair
      over_key pair over = below_through key new.place pair (subst (λ (zs : List ℕ). IsBelow key zs) (sym t.takes.place) (below_after key)) over

      pub paced_key : HasPacedTo rows query place new (keys ++ key ∷ []) (spent + 1) before after
      unfolding begun_more begun_append begun_same
      paced_key =
          let pays = own (λ r q. Pays (IsNode (IsHeldIn r) q) old.place old.debt new.place new.debt) t.pays in
          record {
            rows_is = t.takes.same.rows ∙ h.rows_is;
            query_is = t.takes.same.query ∙ h.query_is;
            listed = subst (λ (zs : List ℕ). Listed (IsFrom (IsKey (IsHeldIn rows) query) place) zs (keys ++ key ∷ [])) (sym t.takes.place)
                (listed_more (IsFrom (IsKey (IsHeldIn rows) query) place) old.place keys key h.listed least_key);
            others = subst (λ (zs : List ℕ). SameFrom (IsKey (IsHeldIn rows) query) zs new.place) key_place (same_here (IsKey (IsHeldIn rows) query) new.place);
            pays = pays_on (IsNode (IsHeldIn rows) query) place old.place new.place (length place) old.debt new.debt spent 1 h.pays
                (for_one (IsNode (IsHeldIn rows) query) old.place new.place old.debt new.debt pays);
            short = omega (arith, ap length t.takes.place, length-append key (0 ∷ []), key_has_few (IsHeldIn rows) query key fits is_key.has);
            begun = begun_more new.from after t.takes.begun;
            up_to = λ pair held. elim (holds_either h.begun.begun t.takes.begun.begun pair held) [
              | inl here ↦ still_up_to new.place pays.up pair here
              | inr there ↦ λ over. not_over pair (t.takes.begun.to_is pair there) (over_key pair over)
            ];
            all = λ other held. elim (holds_either keys (key ∷ []) other held) [
              | inl early ↦ (let one = h.all other early in record { pair = one.pair; back = one.back; is = holds_append h.begun.begun t.takes.begun.begun one.pair (inl one.is); whole = one.whole })
              | inr (inl same) ↦ record { pair = t.takes.taken.number ∷ t.takes.taken.code; back = t.takes.taken.hit; is = own_pair; whole = sym same ∙ t.takes.taken.whole }
              | inr (inr none) ↦ absurd none
            ];
            last = λ is n code e. subst (λ (pair : List ℕ). Holds (h.begun.begun ++ t.takes.begun.begun) pair)
                (one_code_before t.takes.taken.number n t.takes.taken.code code (sym t.takes.taken.placed ∙ e)) own_pair;
            each_counted = omega (arith, h.each_counted, length-append keys (key ∷ []));
          }

      -- they are as many as asked for
      pub paced_full : (limit budget from to : ℕ) (given : List (List ℕ)) (next : List ℕ) → given ≡ keys ++ key ∷ [] → next ≡ new.place → length (keys ++ key ∷ []) ≡ limit → spent < budget
          → to ≡ from + (spent + 1) → IsPacedPage (IsHeldIn rows) query place limit budget from to (record { hits = given; place = next; stop = Full })
      paced_full limit budget from to given next are at full within counted =
          subst (λ (ks : List (List ℕ)). IsPacedPage (IsHeldIn rows) query place limit budget from to (record { hits = ks; place = next; stop = Full })) (sym are)
          (subst (λ (zs : List ℕ). IsPacedPage (IsHeldIn rows) query place limit budget from to (record { hits = keys ++ key ∷ []; place = zs; stop = Full })) (sym at)
          (record {
            spent = spent + 1;
            counted = counted;
            up_to = record { first = first_listed (IsFrom (IsKey (IsHeldIn rows) query) place) new.place (keys ++ key ∷ []) paced_key.listed; others = paced_key.others; up = paced_key.pays.up };
            stops = (full, key_place);
            each_counted = paced_key.each_counted;
            within = omega (arith, within);
            short = paced_key.short;
          }))

      pub begins_full : (given : List (List ℕ)) (next : List ℕ) → given ≡ keys ++ key ∷ [] → BeginsOfPaced (IsHeldIn rows) query place (record { hits = given; place = next; stop = Full }) before after
      begins_full given next are =
          subst (λ (ks : List (List ℕ)). BeginsOfPaced (IsHeldIn rows) query place (record { hits = ks; place = next; stop = Full }) before after) (sym are)
          (begins_paced rows query place (first_number place ∷ []) new.from before after (record { hits = keys ++ key ∷ []; place = next; stop = Full }) paced_key.begun
          (λ pair held over. not_over pair (paced_key.begun.to_is pair held)
          (each_holds (λ other. IsBelow other pair) (keys ++ key ∷ []) key over (holds_append keys (key ∷ []) key (inr (inl refl)))))
          paced_key.all)

    -- ---- none is left

    module _ (new : HitsLeft) (after : ℕ) (t : TakesNone old new now after) where
      pub paced_ended : (limit budget from to : ℕ) (given : List (List ℕ)) (next : List ℕ) → given ≡ keys → next ≡ new.place → length keys < limit → spent ≤ budget → to ≡ from + spent
          → IsPacedPage (IsHeldIn rows) query place limit budget from to (record { hits = given; place = next; stop = Ended })
      paced_ended limit budget from to given next are at fewer within counted =
          subst (λ (ks : List (List ℕ)). IsPacedPage (IsHeldIn rows) query place limit budget from to (record { hits = ks; place = next; stop = Ended })) (sym are)
          (subst (λ (zs : List ℕ). IsPacedPage (IsHeldIn rows) query place limit budget from to (record { hits = keys; place = zs; stop = Ended })) (sym (at ∙ t.place))
          (record {
            spent = spent;
            counted = counted;
            up_to = up_to_paced;
            stops = (fewer, own (λ r q. IsLeastFrom old.place (IsKey (IsHeldIn r) q) None) t.none);
            each_counted = h.each_counted;
            within = within;
            short = h.short;
          }))

      pub begins_ended : (given : List (List ℕ)) (next : List ℕ) → given ≡ keys → BeginsOfPaced (IsHeldIn rows) query place (record { hits = given; place = next; stop = Ended }) before after
      unfolding begun_more begun_append begun_same
      begins_ended given next are =
          subst (λ (ks : List (List ℕ)). BeginsOfPaced (IsHeldIn rows) query place (record { hits = ks; place = next; stop = Ended }) before after) (sym are)
          (begins_paced rows query place (first_number place ∷ []) t.to before after (record { hits = keys; place = next; stop = Ended }) (begun_more t.to after t.begun)
          (λ pair held. tt)
          (λ key held. (let one = h.all key held in record { pair = one.pair; back = one.back; is = holds_append h.begun.begun t.begun.begun one.pair (inl one.is); whole = one.whole })))

    -- ---- the budget is spent

    pub paced_spent : (limit budget from to : ℕ) (given : List (List ℕ)) (next : List ℕ) → given ≡ keys → next ≡ old.place → length keys < limit → spent ≡ budget
        → to ≡ from + spent → length place ≤ 514
        → IsPacedPage (IsHeldIn rows) query place limit budget from to (record { hits = given; place = next; stop = Paused })
    paced_spent limit budget from to given next are at fewer all counted few =
        subst (λ (ks : List (List ℕ)). IsPacedPage (IsHeldIn rows) query place limit budget from to (record { hits = ks; place = next; stop = Paused })) (sym are)
        (subst (λ (zs : List ℕ). IsPacedPage (IsHeldIn rows) query place limit budget from to (record { hits = keys; place = zs; stop = Paused })) (sym at)
        (record {
          spent = spent;
          counted = counted;
          up_to = up_to_paced;
          stops = (
            fewer,
            omega (arith, all),
            stand_fewer (IsNode (IsHeldIn rows) query) place old.place (budget - 514) h.pays.passed (omega (arith, all, few, h.pays.pays)) h.pays.stand,
          );
          each_counted = h.each_counted;
          within = omega (arith, all);
          short = h.short;
        }))

    pub begins_spent : (given : List (List ℕ)) (next : List ℕ) → given ≡ keys → next ≡ old.place
        → BeginsOfPaced (IsHeldIn rows) query place (record { hits = given; place = next; stop = Paused }) before now
    begins_spent given next are at =
        subst (λ (ks : List (List ℕ)). BeginsOfPaced (IsHeldIn rows) query place (record { hits = ks; place = next; stop = Paused }) before now) (sym are)
        (subst (λ (zs : List ℕ). BeginsOfPaced (IsHeldIn rows) query place (record { hits = keys; place = zs; stop = Paused }) before now) (sym at)
        (begins_paced rows query place (first_number place ∷ []) old.from before now (record { hits = keys; place = old.place; stop = Paused }) h.begun h.up_to h.all))

-- ---- laws

-- what remains from the next place on is what remains from the place behind the keys
pub paced_and_others : PacedAndOthersAreAll
paced_and_others rows query place limit budget before after paced others is left =
    first_and_others (length paced.hits) (IsKey (IsHeldIn rows) query) place paced.hits others is.up_to.first (record {
      rises = left.rises;
      each = λ xs held. ((left.each xs held).0, is.up_to.others.back xs (left.each xs held).0 (left.each xs held).1);
      all = λ xs has. left.all xs (has.0, is.up_to.others.on xs has.0 has.1);
    })
