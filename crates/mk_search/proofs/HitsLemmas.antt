-- A page, key by key.
--     page_none, page_more      no key yet, and one key more
--     page_full, page_all       as many as asked for, or all
--     begins_full, begins_all   what was begun for them
--     least_next                the first key is the least
--     place_of_number           a place of which a number is left
--     made_itself, of_made      from where a search is made
use Rattle.std.proofs.Common.{◌≡◌, ℕ, ◌<◌, ◌≤◌, ◌⊎◌, inl, inr, true, false, List, [], ◌∷◌, ◌++◌, length, Option, Some, None, refl, sym, ap, subst, ◌∙◌, arith, append_assoc, length-append, append-nil, slice_set, take}
use Rattle.std.proofs.lemmas.Bool.{le-ltb, lt-ltb}
use Rattle.mk_text.specs.Rising.{AreFirst, Each, Holds, IsBelow, IsFrom, IsLeast, IsLeastFrom, place_behind}
use Rattle.mk_text.proofs.ForCallers.{Listed, below_after, below_through, below_what_isnt, each_holds, first_listed, first_when_all, holds_append, holds_each, holds_either, listed_more, listed_none, none_before_place_behind, not_below_itself}
use Rattle.mk_model.specs.Keys.{IsKey, Remains}
use Rattle.mk_model.specs.Logic.{IsValid}
use Rattle.mk_model.specs.Molecules.{Molecule}
use Rattle.mk_model.specs.Queries.{QueryView}
use Rattle.mk_choice.proofs.ForCallers.{no_valid_begins_another}
use Rattle.mk_rows.specs.declared.by_number.Numbered.{Numbered}
use Rattle.mk_search.specs.declared.pages.Page.{Page}
use Rattle.mk_search.specs.Begins.{BeginsOfPage, BeginsWithOneOf, IsLeftBy, IsPairFrom, IsUpToLast}
use Rattle.mk_search.specs.Begun.{Begun, IsPairLeft, IsPairOf}
use Rattle.mk_search.specs.Hits.{HitsLeft, IsMadeFrom, IsNextKey, TakesKey, TakesNone}
use Rattle.mk_search.specs.Pages.{IsHeldIn, IsPage}
use Rattle.mk_expansions.specs.Starts.{first_number}
use Rattle.mk_search.proofs.BegunLemmas.{begun_append, begun_none, begun_same}
use Rattle.mk_search.proofs.LevelLemmas.{longer, nested, shorter}
use Rattle.mk_expansions.proofs.StartsLemmas.{before_zero, shorter_below}

-- ---- lists

-- the place behind lists is that behind the last of them
pub place_behind_last : (place : List ℕ) (lists : List (List ℕ)) (last : List ℕ) → place_behind place (lists ++ last ∷ []) ≡ last ++ 0 ∷ []
place_behind_last place [] last = refl
place_behind_last place (xs ∷ lists) last = place_behind_last (xs ++ 0 ∷ []) lists last

-- a code that goes on with 0 is one
pub one_code_before : (n m : ℕ) (code other : List ℕ) → n ∷ (code ++ 0 ∷ []) ≡ m ∷ (other ++ 0 ∷ []) → n ∷ code ≡ m ∷ other
one_code_before n m code other e = before_zero (n ∷ code) (m ∷ other) e

-- ---- pages

-- the place is behind a key, and its pair was begun last
pub record IsAtKey (left : HitsLeft) (key : List ℕ) : Type 0 where
  pub number : ℕ
  pub code : List ℕ
  pub hit : List ℕ
  pub whole : key ≡ number ∷ (code ++ hit)
  pub place : left.place ≡ key ++ 0 ∷ []
  pub from : left.from ≡ number ∷ (code ++ 0 ∷ [])

-- the keys up to where the search stands, and what was begun for them
pub record HasKeysTo (rows : List (Numbered Molecule)) (query : QueryView) (place : List ℕ) (left : HitsLeft) (keys : List (List ℕ)) (before now : ℕ) : Type 0 where
  pub rows_is : left.rows ≡ rows
  pub query_is : left.query ≡ query
  pub listed : Listed (IsFrom (IsKey (IsHeldIn rows) query) place) left.place keys
  pub behind : left.place ≡ place_behind place keys
  pub up : (xs : List ℕ) → IsBelow xs place → IsBelow xs left.place
  pub begun : Begun (IsPairLeft rows query place) (first_number place ∷ []) left.from before now
  pub all : (key : List ℕ) → Holds keys key → BeginsWithOneOf begun.begun key
  pub last : (n : ℕ) (code : List ℕ) → left.from ≡ n ∷ (code ++ 0 ∷ []) → Holds begun.begun (n ∷ code)
  pub at : ((keys ≡ []) × (left.place ≡ place)) ⊎ ((key : List ℕ) × Holds keys key × IsAtKey left key)

-- what was begun for a page
begins_page : (rows : List (Numbered Molecule)) (query : QueryView) (place from to : List ℕ) (before after : ℕ) (page : Page) (keys : List (List ℕ)) → page.hits ≡ keys
    → (b : Begun (IsPairLeft rows query place) from to before after)
    → ((pair : List ℕ) → Holds b.begun pair → page.ended ≡ false → IsUpToLast keys pair) → ((key : List ℕ) → Holds keys key → BeginsWithOneOf b.begun key)
    → BeginsOfPage (IsHeldIn rows) query place page before after
begins_page rows query place from to before after page keys are b up all = record {
  pairs = b.begun;
  rises = b.rise;
  each = holds_each (IsPairFrom (IsHeldIn rows) query place) b.begun (λ pair held. (let is = b.each pair held in record {
    number = is.of.number;
    mol = is.of.mol;
    screen = is.of.covered.screen;
    code = is.of.code;
    held = is.of.held;
    shows = is.of.covered.shows;
    covered = is.of.covered.covered;
    left = is.from;
    whole = is.of.is;
  }));
  ticks = b.ticked;
  up_to = λ going_on. subst (λ (ks : List (List ℕ)). Each (IsUpToLast ks) b.begun) (sym are) (holds_each (IsUpToLast keys) b.begun (λ pair held. up pair held going_on));
  fronts = subst (λ (ks : List (List ℕ)). Each (BeginsWithOneOf b.begun) ks) (sym are) (holds_each (BeginsWithOneOf b.begun) keys all);
}

module _ (rows : List (Numbered Molecule)) (query : QueryView) (place : List ℕ) (before : ℕ) where
  pub page_none : (left : HitsLeft) → IsMadeFrom rows query place left → HasKeysTo rows query place left [] before before
  unfolding begun_none
  page_none left made = record {
    rows_is = made.rows_is;
    query_is = made.query_is;
    listed = subst (λ (zs : List ℕ). Listed (IsFrom (IsKey (IsHeldIn rows) query) place) zs []) (sym made.place_is)
        (listed_none (IsFrom (IsKey (IsHeldIn rows) query) place) place (λ xs is below. is.1 below));
    behind = made.place_is;
    up = λ xs below. subst (λ (zs : List ℕ). IsBelow xs zs) (sym made.place_is) below;
    begun = subst (λ (zs : List ℕ). Begun (IsPairLeft rows query place) (first_number place ∷ []) zs before before) (sym made.from_is)
        (begun_none (IsPairLeft rows query place) (first_number place ∷ []) before before refl);
    all = λ key held. absurd held;
    last = λ n code e. absurd (let long = ap length (sym made.from_is ∙ e) in omega (arith, long, length-append code (0 ∷ [])));
    at = inl (refl, made.place_is);
  }

  module _ (old : HitsLeft) (keys : List (List ℕ)) (now : ℕ) (h : HasKeysTo rows query place old keys before now) where
    -- a pair that isn't below where the search stands, or begins it
    pair_from : (pair : List ℕ) → (IsBelow pair old.from → ⊥) → IsPairLeft old.rows old.query old.place pair → IsPairLeft rows query place pair
    pair_from pair late is = record { of = of; from = elim is.from [ inl not ↦ inl (λ below. not (h.up pair below)) | inr begins ↦ begins_place begins.0 begins.1 h.at ] }
      where
        of : IsPairOf rows query pair
        of = subst (λ (q : QueryView). IsPairOf rows q pair) h.query_is (subst (λ (r : List (Numbered Molecule)). IsPairOf r old.query pair) h.rows_is is.of)

        -- two codes with which a list begins are one
        one_code : (code other : List ℕ) → IsValid query code → IsValid query other → (a b : List ℕ) → code ++ a ≡ other ++ b → other ≡ code
        one_code code other valid other_valid a b e =
            elim (nested code a other b e) [
              | longer more w ↦ w ∙ ap (λ (zs : List ℕ). code ++ zs) (no_valid_begins_another query code more valid (subst (IsValid query) w other_valid)) ∙ append-nil code
              | shorter more w ↦ sym (w ∙ ap (λ (zs : List ℕ). other ++ zs) (no_valid_begins_another query other more other_valid (subst (IsValid query) w valid)) ∙ append-nil other)
            ]

        begins_place : (behind : List ℕ) → old.place ≡ pair ++ behind → ((keys ≡ []) × (old.place ≡ place)) ⊎ ((key : List ℕ) × Holds keys key × IsAtKey old key) → IsLeftBy place pair
        begins_place behind whole (inl first) = inr (behind, sym first.1 ∙ whole)
        begins_place behind whole (inr (key, held, k)) = absurd (late under)
          where
            lists : k.number ∷ (k.code ++ (k.hit ++ 0 ∷ [])) ≡ of.number ∷ (of.code ++ behind)
            lists =
                ap (λ (zs : List ℕ). k.number ∷ zs) (sym (append_assoc k.code k.hit (0 ∷ []))) ∙ ap (λ (zs : List ℕ). zs ++ 0 ∷ []) (sym k.whole) ∙ sym k.place ∙ whole
                ∙ ap (λ (zs : List ℕ). zs ++ behind) of.is

            number : k.number ≡ of.number
            number = (let e = lists in cc)

            rest : k.code ++ (k.hit ++ 0 ∷ []) ≡ of.code ++ behind
            rest = (let e = lists in cc)

            begun_pair : IsPairLeft rows query place (k.number ∷ k.code)
            begun_pair = h.begun.each (k.number ∷ k.code) (h.last k.number k.code k.from)

            valid : IsValid query k.code
            valid = subst (IsValid query)
                (let e : k.number ∷ k.code ≡ begun_pair.of.number ∷ begun_pair.of.code = begun_pair.of.is in let rest' : begun_pair.of.code ≡ k.code = cc in
                rest') begun_pair.of.covered.covered.valid

            code : of.code ≡ k.code
            code = one_code k.code of.code valid of.covered.covered.valid (k.hit ++ 0 ∷ []) behind rest

            pair_is : pair ≡ k.number ∷ k.code
            pair_is = of.is ∙ ap (λ (n : ℕ). n ∷ of.code) (sym number) ∙ ap (λ (zs : List ℕ). k.number ∷ zs) code

            under : IsBelow pair old.from
            under = subst (λ (zs : List ℕ). IsBelow pair zs) (sym k.from)
                (subst (λ (zs : List ℕ). IsBelow zs (k.number ∷ (k.code ++ 0 ∷ []))) (sym pair_is) (below_after (k.number ∷ k.code)))

    module _ (new : HitsLeft) (key : List ℕ) (after : ℕ) (t : TakesKey old new now after key) where
      -- the least of those from the place on
      least_key : IsLeast old.place (IsFrom (IsKey (IsHeldIn rows) query) place) key
      least_key =
          let least : IsLeast old.place (IsKey (IsHeldIn rows) query) key =
          subst (λ (q : QueryView). IsLeast old.place (IsKey (IsHeldIn rows) q) key) h.query_is
          (subst (λ (r : List (Numbered Molecule)). IsLeast old.place (IsKey (IsHeldIn r) old.query) key) h.rows_is t.least) in
          record {
            has = (least.has, λ below. least.from (h.up key below));
            from = least.from;
            least = λ other is not. least.least other is.0 not;
          }

      begun_now : Begun (IsPairLeft rows query place) old.from new.from now after
      begun_now = begun_same (IsPairLeft old.rows old.query old.place) (IsPairLeft rows query place) old.from new.from now after t.begun
          (λ pair held is. pair_from pair (t.begun.from_is pair held) is)

      begun_all : Begun (IsPairLeft rows query place) (first_number place ∷ []) new.from before after
      begun_all = begun_append (IsPairLeft rows query place) (first_number place ∷ []) old.from old.from new.from before now after h.begun (not_below_itself old.from) begun_now

      -- the key's pair was begun, now or before
      own_pair : Holds (h.begun.begun ++ t.begun.begun) (t.taken.number ∷ t.taken.code)
      own_pair = holds_append h.begun.begun t.begun.begun (t.taken.number ∷ t.taken.code)
          (elim t.taken.begun_for [ inl here ↦ inr here | inr was ↦ inl (h.last t.taken.number t.taken.code was) ])

      pub page_more : HasKeysTo rows query place new (keys ++ key ∷ []) before after
      unfolding begun_all begun_append begun_now begun_same
      page_more = record {
        rows_is = t.same.rows ∙ h.rows_is;
        query_is = t.same.query ∙ h.query_is;
        listed = subst (λ (zs : List ℕ). Listed (IsFrom (IsKey (IsHeldIn rows) query) place) zs (keys ++ key ∷ [])) (sym t.place)
            (listed_more (IsFrom (IsKey (IsHeldIn rows) query) place) old.place keys key h.listed least_key);
        behind = t.place ∙ sym (place_behind_last place keys key);
        up = λ xs below. subst (λ (zs : List ℕ). IsBelow xs zs) (sym t.place)
            (below_through xs key (key ++ 0 ∷ []) (below_what_isnt xs key old.place (h.up xs below) t.least.from) (below_after key));
        begun = begun_all;
        all = λ other held. elim (holds_either keys (key ∷ []) other held) [
          | inl early ↦ (let one = h.all other early in record { pair = one.pair; back = one.back; is = holds_append h.begun.begun t.begun.begun one.pair (inl one.is); whole = one.whole })
          | inr (inl same) ↦ record { pair = t.taken.number ∷ t.taken.code; back = t.taken.hit; is = own_pair; whole = sym same ∙ t.taken.whole }
          | inr (inr none) ↦ absurd none
        ];
        last = λ n code e. subst (λ (pair : List ℕ). Holds (h.begun.begun ++ t.begun.begun) pair) (one_code_before t.taken.number n t.taken.code code (sym t.taken.placed ∙ e)) own_pair;
        at = inr (
          key,
          holds_append keys (key ∷ []) key
              (inr (inl refl)),
          record { number = t.taken.number; code = t.taken.code; hit = t.taken.hit; whole = t.taken.whole; place = t.place; from = t.taken.placed },
        );
      }

    -- as many as asked for
    first_full : (limit : ℕ) → length keys ≡ limit → AreFirst limit (Remains (IsHeldIn rows) query place) keys
    first_full limit full = subst (λ (n : ℕ). AreFirst n (Remains (IsHeldIn rows) query place) keys) full (first_listed (IsFrom (IsKey (IsHeldIn rows) query) place) old.place keys h.listed)

    pub page_full : (page : Page) (limit : ℕ) → page.hits ≡ keys → page.place ≡ old.place → page.ended ≡ false → length keys ≡ limit → IsPage (IsHeldIn rows) query place limit page
    page_full page limit are at going_on full = record {
      hits = subst (λ (ks : List (List ℕ)). AreFirst limit (Remains (IsHeldIn rows) query place) ks) (sym are) (first_full limit full);
      next = at ∙ h.behind ∙ ap (place_behind place) (sym are);
      ended = going_on ∙ sym (le-ltb (length page.hits) limit (omega (arith, ap length are, full)));
    }

    -- none of them is above the last key
    up_to_last : 1 ≤ length keys → (pair : List ℕ) → Holds h.begun.begun pair → IsUpToLast keys pair
    up_to_last some pair held over =
        elim h.at [
          | inl none ↦ absurd (let long = ap length none.0 in omega (arith, some, long))
          | inr k ↦ above_key k.0 k.2 (each_holds (λ key. IsBelow key pair) keys k.0 over k.1)
        ]
      where
        above_key : (key : List ℕ) → IsAtKey old key → IsBelow key pair → ⊥
        above_key key k over =
            let over' : IsBelow (k.number ∷ k.code) pair = shorter_below (k.number ∷ k.code) k.hit pair (subst (λ (zs : List ℕ). IsBelow zs pair) k.whole over) in
            none_before_place_behind (k.number ∷ k.code) pair over' (subst (λ (zs : List ℕ). IsBelow pair zs) k.from (h.begun.to_is pair held))

    pub begins_full : (page : Page) → page.hits ≡ keys → 1 ≤ length keys → BeginsOfPage (IsHeldIn rows) query place page before now
    begins_full page are some = begins_page rows query place (first_number place ∷ []) old.from before now page keys are h.begun (λ pair held _. up_to_last some pair held) h.all

    module _ (new : HitsLeft) (after : ℕ) (t : TakesNone old new now after) where
      -- none is left
      first_all : (limit : ℕ) → length keys ≤ limit → AreFirst limit (Remains (IsHeldIn rows) query place) keys
      first_all limit few =
          let none : IsLeastFrom old.place (IsKey (IsHeldIn rows) query) None =
          subst (λ (q : QueryView). IsLeastFrom old.place (IsKey (IsHeldIn rows) q) None) h.query_is
          (subst (λ (r : List (Numbered Molecule)). IsLeastFrom old.place (IsKey (IsHeldIn r) old.query) None) h.rows_is t.none) in
          first_when_all (IsFrom (IsKey (IsHeldIn rows) query) place) old.place limit keys h.listed few (λ xs is not. none xs is.0 not)

      pub page_all : (page : Page) (limit : ℕ) → page.hits ≡ keys → page.place ≡ new.place → page.ended ≡ true → length keys < limit → IsPage (IsHeldIn rows) query place limit page
      page_all page limit are at ended fewer = record {
        hits = subst (λ (ks : List (List ℕ)). AreFirst limit (Remains (IsHeldIn rows) query place) ks) (sym are) (first_all limit (omega (arith, fewer)));
        next = at ∙ t.place ∙ h.behind ∙ ap (place_behind place) (sym are);
        ended = ended ∙ sym (lt-ltb (length page.hits) limit (omega (arith, ap length are, fewer)));
      }

      pub begins_all : (page : Page) → page.hits ≡ keys → page.ended ≡ true → BeginsOfPage (IsHeldIn rows) query place page before after
      unfolding begun_append begun_same
      begins_all page are ended =
          begins_page rows query place (first_number place ∷ []) t.to before after page keys are
          (begun_append (IsPairLeft rows query place) (first_number place ∷ []) old.from old.from t.to before now after h.begun (not_below_itself old.from)
          (begun_same (IsPairLeft old.rows old.query old.place) (IsPairLeft rows query place) old.from t.to now after t.begun
          (λ pair held is. pair_from pair (t.begun.from_is pair held) is)))
          (λ pair held no_end. absurd cc)
          (λ key held. (let one = h.all key held in record { pair = one.pair; back = one.back; is = holds_append h.begun.begun t.begun.begun one.pair (inl one.is); whole = one.whole }))

-- ---- the first key alone

-- the least from where a search is made from
least_made : (rows : List (Numbered Molecule)) (query : QueryView) (place : List ℕ) (old : HitsLeft) → IsMadeFrom rows query place old → (found : Option (List ℕ))
    → IsLeastFrom old.place (IsKey (IsHeldIn old.rows) old.query) found
    → IsLeastFrom place (IsKey (IsHeldIn rows) query) found
least_made rows query place old made found least =
    subst (λ (zs : List ℕ). IsLeastFrom zs (IsKey (IsHeldIn rows) query) found) made.place_is
    (subst (λ (q : QueryView). IsLeastFrom old.place (IsKey (IsHeldIn rows) q) found) made.query_is
    (subst (λ (r : List (Numbered Molecule)). IsLeastFrom old.place (IsKey (IsHeldIn r) old.query) found) made.rows_is least))

-- the first key is the least
pub least_next : (rows : List (Numbered Molecule)) (query : QueryView) (place : List ℕ) (old new : HitsLeft) (before after : ℕ) → IsMadeFrom rows query place old → (found : Option (List ℕ))
    → IsNextKey old new before after found → IsLeastFrom place (IsKey (IsHeldIn rows) query) found
least_next rows query place old new before after made None t = least_made rows query place old made None t.none
least_next rows query place old new before after made (Some key) t = least_made rows query place old made (Some key) t.least

-- ---- the rest of a record

-- a number in place of a place that isn't empty
pub place_of_number : (place : List ℕ) (n : ℕ) → 1 ≤ length place → slice_set (take 1 place) 0 n ≡ n ∷ []
place_of_number [] n some = absurd (omega (arith, some))
place_of_number (x ∷ place) n some = refl

-- ---- from where a search is made

-- it is made from its own place
pub made_itself : (rows : List (Numbered Molecule)) (query : QueryView) (place : List ℕ) (left : HitsLeft) → IsMadeFrom rows query place left → IsMadeFrom left.rows left.query left.place left
made_itself rows query place left made = record {
  rows_is = refl;
  query_is = refl;
  place_is = refl;
  from_is = made.from_is ∙ ap (λ (zs : List ℕ). first_number zs ∷ []) (sym made.place_is);
  few = omega (arith, made.few, ap length made.place_is);
}

-- what is said of its own rows, query and place is said of those that it is made from
pub of_made : (F : List (Numbered Molecule) → QueryView → List ℕ → Type 0) (rows : List (Numbered Molecule)) (query : QueryView) (place : List ℕ) (left : HitsLeft)
    → IsMadeFrom rows query place left → F left.rows left.query left.place → F rows query place
of_made F rows query place left made has =
    subst (λ (zs : List ℕ). F rows query zs) made.place_is
    (subst (λ (q : QueryView). F rows q left.place) made.query_is
    (subst (λ (r : List (Numbered Molecule)). F r left.query left.place) made.rows_is has))
