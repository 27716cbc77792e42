-- What is begun in the records of a shelf, one after another.
--     begun_in, begun_key               what is begun in a record
--     searched_none .. searched_all     what is begun in the records below a number
--     ready_first, finds_in             a record is opened, and what is found in it
--     behind_open, none_last            what is found behind it
--     standing_from .. standing_ended   where a search stands
--     ok_same                           what holds of an answer, in other words
use Rattle.std.proofs.Common.{◌≡◌, ℕ, ◌+◌, ◌≤◌, inl, inr, Bool, true, false, List, [], ◌∷◌, ◌++◌, map, Option, Some, None, Result, Ok, Err, refl, sym, ap, subst, ◌∙◌, arith}
use Rattle.std.specs.Prelude.{IfOk, IfSome}
use Rattle.std.proofs.lemmas.List.{length-map}
use Rattle.mk_text.specs.Rising.{IsBelow, IsLeastFrom}
use Rattle.mk_text.proofs.ForCallers.{holds_append, holds_before_map, holds_mapped, not_below_itself, rises_mapped}
use Rattle.mk_model.specs.Keys.{IsKey}
use Rattle.mk_model.specs.Molecules.{Molecule}
use Rattle.mk_model.specs.Queries.{QueryView}
use Rattle.mk_model.specs.Screens.{IsScreenOf}
use Rattle.mk_model.specs.declared.screen.Screen.{Screen}
use Rattle.mk_model.proofs.ForCallers.{not_below_through}
use Rattle.mk_rows.specs.declared.by_number.Numbered.{Numbered}
use Rattle.mk_rows.specs.Rows.{NoneFrom}
use Rattle.mk_choice.specs.Codes.{CodesLeft}
use Rattle.mk_search.specs.declared.occurrences.Open.{Open}
use Rattle.mk_search.specs.declared.occurrences.Occurrences.{Occurrences}
use Rattle.mk_search.specs.declared.stages.Row.{Row}
use Rattle.mk_search.specs.declared.stages.Stage.TheVariants.{From, In, Ended}
use Rattle.mk_search.specs.Begins.{IsLeftBy}
use Rattle.mk_search.specs.Begun.{Begun, IsPairLeft}
use Rattle.mk_search.specs.Levels.{AtFronts}
use Rattle.mk_expansions.specs.Starts.{first_number, rest_in}
use Rattle.mk_search.specs.Occurrences.{BelongsTo, IsBegunFor, IsCodeFrom, Leaves, TakesNext, given, is_open, reached}
use Rattle.mk_search.specs.Pages.{IsHeldIn}
use Rattle.mk_search.specs.Passing.{KnowOf}
use Rattle.mk_open_codes.specs.Fronts.{IsNeedOfAll}
use Rattle.mk_search.specs.Records.{IsNextRecord, NoRecord}
use Rattle.mk_search.specs.Stages.{Finds, FindsIn, FindsKey, FindsNoKey, FindsNone, IsBegunKey, IsReadyHere, IsReadyIn, IsRecord, IsStanding, OccursIn}
use Rattle.mk_search.specs.Turns.{StandsBy}
use Rattle.mk_search.proofs.BegunLemmas.{begun_append, begun_none}
use Rattle.mk_expansions.proofs.StartsLemmas.{behind_same}
use Rattle.mk_search.proofs.StagesLemmas.{at_first, at_next, behind_number, found_at, found_key, found_none, no_key, no_record_held, number_from, ready_in, rest_same}

-- ---- what is begun

-- what is begun in a record, with its number before it
module _ (rows : List (Numbered Molecule)) (query : QueryView) (n : ℕ) (mol : Molecule) (held : IsHeldIn rows n mol) (place : List ℕ) (front_from : IsLeftBy place (n ∷ [])) where
  -- a pair whose code isn't below the rest isn't below the place
  pub pair_from : (code : List ℕ) → IsLeftBy (rest_in place n) code → IsLeftBy place (n ∷ code)
  pair_from code from =
      elim (behind_number place n) [
        | inl whole ↦ elim from [
          | inl not ↦ inl (λ below. not (behind_same (n ∷ []) code (rest_in place n) (subst (λ (zs : List ℕ). IsBelow (n ∷ code) zs) whole below)))
          | inr begins ↦ inr (begins.0, whole ∙ ap (λ (zs : List ℕ). n ∷ zs) begins.1)
        ]
        | inr apart ↦ elim front_from [
          | inl not ↦ inl (not_lower place not apart.1)
          | inr begins ↦ absurd (apart.1 begins.0 begins.1)
        ]
      ]
    where
      not_lower : (place : List ℕ) → (IsBelow (n ∷ []) place → ⊥) → ((behind : List ℕ) → place ≡ n ∷ behind → ⊥) → IsBelow (n ∷ code) place → ⊥
      not_lower [] not apart below = below
      not_lower (p ∷ place) not apart (inl less) = not (inl less)
      not_lower (p ∷ place) not apart (inr h) = apart place (ap (λ (m : ℕ). m ∷ place) (sym h.0))

  unfoldable pub begun_in : (from to : List ℕ) (before after : ℕ) → Begun (IsCodeFrom query mol (rest_in place n)) from to before after
      → Begun (IsPairLeft rows query place) (n ∷ from) (n ∷ to) before after
  begun_in from to before after b = record {
    begun = map (λ code. n ∷ code) b.begun;
    rise = rises_mapped (λ code. n ∷ code) (λ x y below. inr (refl, below)) b.begun b.rise;
    each = λ xs is. (let m = holds_before_map (λ code. n ∷ code) b.begun xs is in record {
      of = record { number = n; mol = mol; code = m.0; held = held; covered = (b.each m.0 m.2).covered; is = sym m.1 };
      from = subst (IsLeftBy place) m.1 (pair_from m.0 (b.each m.0 m.2).from);
    });
    from_is = λ xs is below.
        (let m = holds_before_map (λ code. n ∷ code) b.begun xs is in b.from_is m.0 m.2
        (behind_same (n ∷ []) m.0 from (subst (λ (zs : List ℕ). IsBelow zs (n ∷ from)) (sym m.1) below)));
    to_is = λ xs is. (let m = holds_before_map (λ code. n ∷ code) b.begun xs is in subst (λ (zs : List ℕ). IsBelow zs (n ∷ to)) m.1 (inr (refl, b.to_is m.0 m.2)));
    up = λ below. b.up (behind_same (n ∷ []) to from below);
    ticked = omega (arith, length-map b.begun (λ code. n ∷ code), b.ticked);
  }

-- the key's pair is begun, or was open
pub begun_key : (n : ℕ) (old : CodesLeft) (opened : Option Open) (new : CodesLeft) (begun : List (List ℕ)) (numbers : List ℕ) → IsBegunFor old opened new begun numbers
    → IsBegunKey (n ∷ old.place) (is_open opened) (n ∷ new.place) (map (λ code. n ∷ code) begun) (n ∷ numbers)
begun_key n old opened new begun numbers for_it = record {
  number = n;
  code = for_it.code;
  hit = for_it.hit;
  whole = ap (λ (zs : List ℕ). n ∷ zs) for_it.whole;
  placed = ap (λ (zs : List ℕ). n ∷ zs) for_it.placed;
  begun_for = elim for_it.begun_for [
    | inl here ↦ inl (holds_mapped (λ code. n ∷ code) begun for_it.code here)
    | inr was ↦ inr (was.0, ap (λ (zs : List ℕ). n ∷ zs) was.1)
  ];
}

-- a key's pair that is begun among others is begun with those before them
pub begun_later : (from start to : List ℕ) (others begun : List (List ℕ)) (key : List ℕ) → IsBegunKey from false to begun key → (opened : Bool) → IsBegunKey start opened to (others ++ begun) key
begun_later from start to others begun key is opened = record {
  number = is.number;
  code = is.code;
  hit = is.hit;
  whole = is.whole;
  placed = is.placed;
  begun_for = elim is.begun_for [
    | inl here ↦ inl (holds_append others begun (is.number ∷ is.code) (inr here))
    | inr was ↦ absurd (let never = was.0 in cc)
  ];
}

-- ---- the records from a number on

-- what has been begun in the records below a number
pub record HasSearched (rows : List (Numbered Molecule)) (query : QueryView) (place : List ℕ) (start : List ℕ) (next before now : ℕ) : Type 0 where
  pub at : AtFronts (IsRecord rows) (OccursIn rows query) place (next ∷ [])
  pub to : List ℕ
  pub begun : Begun (IsPairLeft rows query place) start to before now
  pub up : IsBelow (next ∷ []) to → ⊥

module _ (rows : List (Numbered Molecule)) (query : QueryView) (place start : List ℕ) (before : ℕ) where
  pub searched_none : (next : ℕ) → AtFronts (IsRecord rows) (OccursIn rows query) place (next ∷ []) → start ≡ next ∷ [] → HasSearched rows query place start next before before
  searched_none next at is = record {
    at = at;
    to = start;
    begun = begun_none (IsPairLeft rows query place) start before before refl;
    up = rw is (not_below_itself (next ∷ []));
  }

  module _ (next now : ℕ) (h : HasSearched rows query place start next before now) where
    -- from where a record is searched
    record_up : (n : ℕ) (from : List ℕ) → next ≤ n → IsBelow (n ∷ from) h.to → ⊥
    record_up n from up below = not_below_through (n ∷ from) (next ∷ []) h.to not_less h.up below
      where
        not_less : IsBelow (n ∷ from) (next ∷ []) → ⊥
        not_less (inl less) = omega (arith, less, up)
        not_less (inr h) = h.1

    -- nothing is found in one more
    pub searched_more : (n : ℕ) (from : List ℕ) (after : ℕ) → next ≤ n → FindsNone rows query place n (n ∷ from) now after → HasSearched rows query place start (n + 1) before after
    searched_more n from after up f = record {
      at = at_next rows query place n f.at;
      to = n ∷ f.to;
      begun = begun_append (IsPairLeft rows query place) start h.to (n ∷ from) (n ∷ f.to) before now after h.begun (record_up n from up) f.begun;
      up = later;
    }
      where
        later : IsBelow ((n + 1) ∷ []) (n ∷ f.to) → ⊥
        later (inl less) = omega (arith, less)
        later (inr g) = omega (arith, g.0)

    -- a key is found in the next
    pub searched_found : (n : ℕ) (from : List ℕ) (after : ℕ) (all : Occurrences) (row : Row) → next ≤ n → FindsKey rows query place (n ∷ from) false now after all row
        → FindsKey rows query place start false before after all row
    unfolding begun_append
    searched_found n from after all row up f = record {
      least = f.least;
      ready = f.ready;
      begun = begun_append (IsPairLeft rows query place) start h.to (n ∷ from) (row.number ∷ all.codes.place) before now after h.begun (record_up n from up) f.begun;
      taken = begun_later (n ∷ from) start (row.number ∷ all.codes.place) h.begun.begun f.begun.begun (row.number ∷ all.numbers.items) f.taken false;
    }

    -- no record is left
    pub searched_all : NoRecord rows query next → FindsNoKey rows query place start before now
    searched_all none = record {
      none = no_key rows query place next h.at none;
      to = h.to;
      begun = h.begun;
    }

-- ---- a record that is open

-- what belongs to a query belongs to its own
pub belongs_itself : (query : QueryView) (all : Occurrences) → BelongsTo query all → BelongsTo all.query.now all
belongs_itself query all belongs = subst (λ (q : QueryView). BelongsTo q all) (sym belongs.query_is) belongs

-- a record is opened
pub ready_first : (rows : List (Numbered Molecule)) (query : QueryView) (place : List ℕ) (next : ℕ) → AtFronts (IsRecord rows) (OccursIn rows query) place (next ∷ []) → (row : Row)
    → IsHeldIn rows row.number row.mol.now → IsScreenOf row.mol.now row.screen.now → IsNextRecord rows query next row.number → (all : Occurrences)
    → Leaves query row.mol.now (rest_in place row.number) all.codes all.open → KnowOf row.mol.now all.fronts → IsReadyIn rows query place row all
ready_first rows query place next at row held shows is all left know = record {
  held = held;
  shows = shows;
  left = left;
  know = know;
  at = ready_in rows query row.number row.mol.now held place next at is;
  from = at.fronts (row.number ∷ []) (record { number = row.number; mol = row.mol.now; held = held; is = refl }) (number_from next row.number is.not_below);
}

-- where a code is open, the place is that of its hits, behind it
pub stands_open : (query : QueryView) (place : List ℕ) (codes : CodesLeft) (owed : ℕ) (open' : Option Open) → is_open open' ≡ true → reached codes open' ≡ place → StandsBy query place codes owed open'
stands_open query place codes owed None is at = absurd (let no : is_open None ≡ true = is in cc)
stands_open query place codes owed (Some open') is at = sym at

module _ (rows : List (Numbered Molecule)) (query : QueryView) (place : List ℕ) (row : Row) (old new : Occurrences) (before after : ℕ) (ready : IsReadyIn rows query place row old)
    (know : KnowOf row.mol.now new.fronts) where
  finds_none : TakesNext query row.mol.now (rest_in place row.number) old.codes old.open new.codes new.open before after None
      → FindsNone rows query place row.number (row.number ∷ old.codes.place) before after
  finds_none t = record {
    at = found_none rows query row.number row.mol.now ready.held place ready.at t.least;
    to = new.codes.place;
    begun = begun_in rows query row.number row.mol.now ready.held place ready.from old.codes.place new.codes.place before after t.begun;
  }

  finds_key : TakesNext query row.mol.now (rest_in place row.number) old.codes old.open new.codes new.open before after (Some new.numbers.items)
      → FindsKey rows query place (row.number ∷ old.codes.place) (is_open old.open) before after new row
  unfolding begun_in
  finds_key t =
      let numbers = new.numbers.items in
      record {
        least = found_key rows query row.number row.mol.now ready.held place ready.at numbers t.least;
        ready = record {
          ready = record {
            held = ready.held;
            shows = ready.shows;
            left = subst (λ (zs : List ℕ). Leaves query row.mol.now zs new.codes new.open) (sym (rest_same row.number (numbers ++ 0 ∷ []))) (t.left numbers refl);
            know = know;
            at = found_at rows query row.number row.mol.now ready.held (numbers ++ 0 ∷ []);
            from = inr (numbers ++ 0 ∷ [], refl);
          };
          begins = ap (λ (zs : List ℕ). row.number ∷ zs) (sym (rest_same row.number (numbers ++ 0 ∷ [])));
          by = subst (λ (zs : List ℕ). StandsBy query zs new.codes new.owed new.open) (sym (rest_same row.number (numbers ++ 0 ∷ [])))
              (stands_open query (numbers ++ 0 ∷ []) new.codes new.owed new.open (t.now_open numbers refl) (t.at numbers refl));
        };
        begun = begun_in rows query row.number row.mol.now ready.held place ready.from old.codes.place new.codes.place before after t.begun;
        taken = begun_key row.number old.codes old.open new.codes t.begun.begun numbers (t.taken numbers refl);
      }

  -- what is found in it next
  pub finds_in : (more : Bool) → TakesNext query row.mol.now (rest_in place row.number) old.codes old.open new.codes new.open before after (given more new.numbers.items)
      → FindsIn rows query place (row.number ∷ old.codes.place) (is_open old.open) before after new row more
  finds_in true t = finds_key t
  finds_in false t = finds_none t

-- the number behind a record isn't below what was begun in it
next_up : (n : ℕ) (to : List ℕ) → IsBelow ((n + 1) ∷ []) (n ∷ to) → ⊥
next_up n to (inl less) = omega (arith, less)
next_up n to (inr g) = omega (arith, g.0)

-- what is found behind a record that was open
pub behind_open : (rows : List (Numbered Molecule)) (query : QueryView) (place : List ℕ) (n : ℕ) (from : List ℕ) (opened : Bool) (before now after : ℕ) (all : Occurrences) (found : Option Row)
    → FindsNone rows query place n from before now → Finds rows query place ((n + 1) ∷ []) false now after all found → Finds rows query place from opened before after all found
unfolding begun_append
behind_open rows query place n from opened before now after all None f k = record {
  none = k.none;
  to = k.to;
  begun = begun_append (IsPairLeft rows query place) from (n ∷ f.to) ((n + 1) ∷ []) k.to before now after f.begun (next_up n f.to) k.begun;
}
behind_open rows query place n from opened before now after all (Some row) f k = record {
  least = k.least;
  ready = k.ready;
  begun = begun_append (IsPairLeft rows query place) from (n ∷ f.to) ((n + 1) ∷ []) (row.number ∷ all.codes.place) before now after f.begun (next_up n f.to) k.begun;
  taken = begun_later ((n + 1) ∷ []) from (row.number ∷ all.codes.place) f.begun.begun k.begun.begun (row.number ∷ all.numbers.items) k.taken opened;
}

-- no record is behind it
pub none_last : (rows : List (Numbered Molecule)) (query : QueryView) (place : List ℕ) (n : ℕ) (from : List ℕ) (before now : ℕ)
    → FindsNone rows query place n from before now → NoneFrom (n + 1) rows → FindsNoKey rows query place from before now
none_last rows query place n from before now f none = record {
  none = no_key rows query place (n + 1) (at_next rows query place n f.at) (no_record_held rows query (n + 1) none);
  to = n ∷ f.to;
  begun = f.begun;
}

-- ---- where a search stands

module _ (rows : List (Numbered Molecule)) (place : List ℕ) (need : Option Screen) (query : QueryView) (all : Occurrences) (belongs : BelongsTo query all)
    (need_is : IfSome need (IsNeedOfAll query)) where
  own_need : IfSome need (IsNeedOfAll all.query.now)
  own_need = subst (λ (q : QueryView). IfSome need (IsNeedOfAll q)) (sym belongs.query_is) need_is

  pub standing_from : (first : ℕ) → first ≡ first_number place → IsStanding rows place need (From first) all
  standing_from first is = record { belongs = belongs_itself query all belongs; need_is = own_need; ready = rw is (at_first rows all.query.now place) }

  pub standing_in : (row : Row) → IsReadyHere rows query place row all → IsStanding rows place need (In row) all
  standing_in row ready = record {
    belongs = belongs_itself query all belongs;
    need_is = own_need;
    ready = subst (λ (q : QueryView). IsReadyHere rows q place row all) (sym belongs.query_is) ready;
  }

  pub standing_ended : IsLeastFrom place (IsKey (IsHeldIn rows) query) None → IsStanding rows place need Ended all
  standing_ended none = record {
    belongs = belongs_itself query all belongs;
    need_is = own_need;
    ready = subst (λ (q : QueryView). IsLeastFrom place (IsKey (IsHeldIn rows) q) None) (sym belongs.query_is) none;
  }

-- what holds of an answer, in other words
pub ok_same : {A E : Type 0} (r : Result A E) (P Q : A → Type 0) → ((x : A) → P x → Q x) → IfOk r P → IfOk r Q
ok_same (Ok x) P Q to is = to x is
ok_same (Err e) P Q to is = tt
