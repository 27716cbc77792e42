-- Pages that may pause, made of the first keys that remain: a turn for each key.
--     taken_first          the first so many of a rising list of all
--     key_is_node          a key is a node
--     keys_ahead           keys from a place on, but for one, lie between it and the place behind them
--     paced_full .. paced_paused      as many keys as asked for, all keys, or as many as there are turns
--     paced_pages_there    PacedPagesAreThere
use Rattle.std.proofs.Common.{◌≡◌, ℕ, zero, suc, ◌+◌, ◌-◌, ◌<◌, ◌≤◌, ◌⊎◌, inl, inr, List, [], ◌∷◌, None, length, take, drop, refl, sym, ap, subst, arith}
use Rattle.std.proofs.lemmas.Bool.{cases_lt}
use Rattle.std.proofs.lemmas.List.{length-take-le}
use Rattle.mk_text.specs.Rising.{AreFirst, Each, Holds, IsBelow, IsLeastFrom, IsRisingListOfAll, Rises, place_behind}
use Rattle.mk_text.proofs.ForCallers.{all_below_behind, below_or_not, below_through, below_what_isnt, each_holds, holds_each, not_below_itself}
use Rattle.mk_text.proofs.FirstLemmas.{not_below_before}
use Rattle.mk_text.proofs.RisingLemmas.{take_below_drop, take_holds, take_rises}
use Rattle.mk_model.specs.Keys.{IsKey, Remains}
use Rattle.mk_model.specs.Molecules.{Molecule}
use Rattle.mk_model.specs.Nodes.{Ahead, IsNode, SameFrom}
use Rattle.mk_model.specs.Queries.{QueryView}
use Rattle.mk_model.specs.QueryFits.{QueryFits}
use Rattle.mk_model.proofs.ForCallers.{code_of_valid}
use Rattle.mk_rows.specs.declared.by_number.Numbered.{Numbered}
use Rattle.mk_search.specs.declared.paced.Paced.{Paced}
use Rattle.mk_search.specs.declared.paced.Stop.TheVariants.{Full, Ended, Paused}
use Rattle.mk_search.specs.Laws.{PacedPagesAreThere}
use Rattle.mk_search.specs.Paced.{AreUpTo, IsPacedPage}
use Rattle.mk_search.specs.Pages.{IsHeldIn}
use Rattle.mk_search.proofs.AllKeysLemmas.{keys_listed}
use Rattle.mk_search.proofs.PagesLemmas.{place_has_few}

-- ---- the first so many of all

-- what is held is among the first so many or the others
holds_cut : (n : ℕ) (lists : List (List ℕ)) (xs : List ℕ) → Holds lists xs → Holds (take n lists) xs ⊎ Holds (drop n lists) xs
holds_cut zero lists xs is = inr is
holds_cut (suc n) [] xs is = absurd is
holds_cut (suc n) (ys ∷ lists) xs (inl same) = inl (inl same)
holds_cut (suc n) (ys ∷ lists) xs (inr is) = elim (holds_cut n lists xs is) [ inl h ↦ inl (inr h) | inr h ↦ inr h ]

-- where others are left the first so many are as many
full_take : (n : ℕ) (lists : List (List ℕ)) (xs : List ℕ) → Holds (drop n lists) xs → length (take n lists) ≡ n
full_take zero lists xs is = refl
full_take (suc n) [] xs is = absurd is
full_take (suc n) (ys ∷ lists) xs is = ap suc (full_take n lists xs is)

few_take : (n : ℕ) (lists : List (List ℕ)) → length (take n lists) ≤ n
few_take zero lists = omega arith
few_take (suc n) [] = omega arith
few_take (suc n) (ys ∷ lists) = let rest = few_take n lists in omega (arith, rest)

-- the first so many of the rising list of all are the first so many
pub taken_first : (most : ℕ) (P : List ℕ → Type 0) (all : List (List ℕ)) → IsRisingListOfAll P all → AreFirst most P (take most all)
taken_first most P all h = record {
  rises = take_rises most all h.rises;
  each = λ xs is. h.each xs (take_holds most all xs is);
  few = few_take most all;
  others = λ xs is. elim (holds_cut most all xs (h.all xs is)) [
    | inl early ↦ inl early
    | inr late ↦ inr (full_take most all xs late, holds_each (λ ys. IsBelow ys xs) (take most all) (λ ys early. take_below_drop most all ys xs h.rises early late))
  ];
}

-- ---- keys as nodes

-- a key is a node
pub key_is_node : (Held : ℕ → Molecule → Type 0) (query : QueryView) (key : List ℕ) → IsKey Held query key → IsNode Held query key
key_is_node Held query key is =
    let o = is.occurs in
    record {
      number = is.number;
      mol = is.mol;
      numbers = is.numbers;
      held = is.held;
      reached = inr (inr (record {
        code = o.code;
        atoms = o.hit;
        graph = o.graph;
        chosen = code_of_valid query o.code o.valid;
        expanded = o.expanded;
        few = omega (arith, o.hits.one_each);
        within = o.hits.within;
        distinct = o.hits.distinct;
        whole = o.whole;
      }));
      whole = is.whole;
    }

-- Rising keys from a place on, but for the first of them, lie above the place, and not above that
-- behind them.
pub keys_ahead : (Held : ℕ → Molecule → Type 0) (query : QueryView) (place : List ℕ) (keys : List (List ℕ)) (k : ℕ) → Rises keys
    → ((key : List ℕ) → Holds keys key → Remains Held query place key) → k < length keys → Ahead Held query place (place_behind place keys) k
keys_ahead Held query place [] k rises each more = absurd (omega arith)
keys_ahead Held query place (key ∷ keys) k rises each more = record {
  nodes = take k keys;
  rise = take_rises k keys rises.1;
  each = λ node held. key_is_node Held query node (each node (inr (take_holds k keys node held))).0;
  above = λ node held. above node (take_holds k keys node held);
  not_above = λ node held over. not_below_itself node (below_through node behind node (under node (take_holds k keys node held)) over);
  many = length-take-le k keys (omega (arith, more));
}
  where
    behind : List ℕ
    behind = place_behind place (key ∷ keys)

    -- each of the others is above the first, which isn't below the place
    above : (node : List ℕ) → Holds keys node → IsBelow place node
    above node held =
        elim (below_or_not place node) [
          | inl below ↦ below
          | inr not ↦ absurd ((each key (inl refl)).1 (below_what_isnt key place node (each_holds (λ zs. IsBelow key zs) keys node rises.0 held) not))
        ]

    under : (node : List ℕ) → Holds keys node → IsBelow node behind
    under node held = each_holds (λ zs. IsBelow zs behind) (key ∷ keys) node (all_below_behind place (key ∷ keys) rises) (inr held)

-- ---- pages of the first keys

module _ (Held : ℕ → Molecule → Type 0) (query : QueryView) (place : List ℕ) (most : ℕ) (keys : List (List ℕ)) (first : AreFirst most (Remains Held query place) keys) where
  -- each key isn't below the place
  from_place : Each (λ ys. IsBelow ys place → ⊥) keys
  from_place = holds_each (λ ys. IsBelow ys place → ⊥) keys (λ ys held. (first.each ys held).1)

  -- the place behind the keys isn't either
  behind_is_up : IsBelow (place_behind place keys) place → ⊥
  behind_is_up below = not_below_before place keys (place_behind place keys) first.rises from_place (not_below_itself (place_behind place keys)) below

  -- they are up to the place behind them
  up_to_behind : AreUpTo Held query place keys (place_behind place keys)
  up_to_behind = record {
    first = record {
      rises = first.rises;
      each = first.each;
      few = omega arith;
      others = λ xs is. elim (first.others xs is) [ inl held ↦ inl held | inr full ↦ inr (refl, full.1) ];
    };
    others = record { on = λ xs has not below. not below; back = λ xs has not below. not below };
    up = behind_is_up;
  }

  -- where they are fewer than so many, none is left
  none_left : length keys < most → IsLeastFrom (place_behind place keys) (IsKey Held query) None
  none_left fewer = λ other is not. elim (first.others other (is, λ below. not_below_before place keys other first.rises from_place not below)) [
    | inl held ↦ not (each_holds (λ zs. IsBelow zs (place_behind place keys)) keys other (all_below_behind place keys first.rises) held)
    | inr full ↦ omega (arith, full.0, fewer)
  ]

  module _ (limit budget before after : ℕ) (fits : QueryFits query) (short : length place ≤ 514) (counted : after ≡ before + length keys) where
    few_behind : length (place_behind place keys) ≤ 514
    few_behind = place_has_few Held query place most keys fits first short

    -- as many as asked for
    pub paced_full : length keys ≡ limit → limit ≤ budget → IsPacedPage Held query place limit budget before after (record { hits = keys; place = place_behind place keys; stop = Full })
    paced_full full within = record {
      spent = length keys;
      counted = counted;
      up_to = up_to_behind;
      stops = (full, refl);
      each_counted = omega arith;
      within = omega (arith, full, within);
      short = few_behind;
    }

    -- all
    pub paced_ended : length keys < most → most ≤ limit → most ≤ budget
        → IsPacedPage Held query place limit budget before after (record { hits = keys; place = place_behind place keys; stop = Ended })
    paced_ended fewer up within = record {
      spent = length keys;
      counted = counted;
      up_to = up_to_behind;
      stops = (omega (arith, fewer, up), none_left fewer);
      each_counted = omega arith;
      within = omega (arith, fewer, within);
      short = few_behind;
    }

    -- as many as there are turns
    pub paced_paused : length keys ≡ budget → budget < limit → IsPacedPage Held query place limit budget before after (record { hits = keys; place = place_behind place keys; stop = Paused })
    paced_paused full over = record {
      spent = length keys;
      counted = counted;
      up_to = up_to_behind;
      stops = (omega (arith, full, over), omega (arith, full), ahead);
      each_counted = omega arith;
      within = omega (arith, full);
      short = few_behind;
    }
      where
        none_ahead : budget ≡ 0 → Ahead Held query place (place_behind place keys) (budget - 514)
        none_ahead none = record {
          nodes = [];
          rise = tt;
          each = λ node held. absurd held;
          above = λ node held. absurd held;
          not_above = λ node held. absurd held;
          many = omega (arith, none);
        }

        ahead : Ahead Held query place (place_behind place keys) (budget - 514)
        ahead = elim (cases_lt 0 budget) [
          | inl some ↦ keys_ahead Held query place keys (budget - 514) first.rises first.each (omega (arith, some, full))
          | inr none ↦ none_ahead (omega (arith, none))
        ]

-- ---- law

module _ (rows : List (Numbered Molecule)) (query : QueryView) (place : List ℕ) (limit budget before : ℕ) (fits : QueryFits query) (short : length place ≤ 514) where
  abbrev IsThere : Type 0
  IsThere = (paced : Paced) × ((after : ℕ) × IsPacedPage (IsHeldIn rows) query place limit budget before after paced)

  -- as many as there are turns, or all
  of_turns : (keys : List (List ℕ)) → AreFirst budget (Remains (IsHeldIn rows) query place) keys → budget < limit → IsThere
  of_turns keys first over =
      elim (cases_lt (length keys) budget) [
        | inl fewer ↦ (
          record { hits = keys; place = place_behind place keys; stop = Ended },
          (
            before + length keys,
            paced_ended (IsHeldIn rows) query place budget keys first limit budget before (before + length keys) fits short refl fewer (omega (arith, over)) (omega arith),
          ),
        )
        | inr many ↦ (
          record { hits = keys; place = place_behind place keys; stop = Paused },
          (
            before + length keys,
            paced_paused (IsHeldIn rows) query place budget keys first limit budget before (before + length keys) fits short refl (omega (arith, many, first.few)) over,
          ),
        )
      ]

  -- as many as asked for, or all
  of_limit : (keys : List (List ℕ)) → AreFirst limit (Remains (IsHeldIn rows) query place) keys → limit ≤ budget → IsThere
  of_limit keys first up =
      elim (cases_lt (length keys) limit) [
        | inl fewer ↦ (
          record { hits = keys; place = place_behind place keys; stop = Ended },
          (
            before + length keys,
            paced_ended (IsHeldIn rows) query place limit keys first limit budget before (before + length keys) fits short refl fewer (omega arith) up,
          ),
        )
        | inr many ↦ (
          record { hits = keys; place = place_behind place keys; stop = Full },
          (
            before + length keys,
            paced_full (IsHeldIn rows) query place limit keys first limit budget before (before + length keys) fits short refl (omega (arith, many, first.few)) up,
          ),
        )
      ]

pub paced_pages_there : PacedPagesAreThere
paced_pages_there rows query place limit budget before fits short =
    let all = keys_listed rows query place fits in
    elim (cases_lt budget limit) [
      | inl over ↦ of_turns rows query place limit budget before fits short (take budget all.0) (taken_first budget (Remains (IsHeldIn rows) query place) all.0 all.1) over
      | inr up ↦ of_limit rows query place limit budget before fits short (take limit all.0) (taken_first limit (Remains (IsHeldIn rows) query place) all.0 all.1) up
    ]
