-- Turns in the records of a shelf.
--     entered_same, entered_pays     a record is taken up
--     comes_up                       and that is a turn
--     comes_out, comes_on            a turn in a record
--     leaves_none                    nothing more in a record
--     searched_comes, behind_comes   a turn behind the records that were searched
--     owes_all, owes_behind          what is owed where records are to come
--     enters_none, enters_bare       what is owed where the place begins with the record
--     takes_out .. moves_on          what is seen of a turn
use Rattle.std.proofs.Common.{◌≡◌, ℕ, ◌+◌, ◌≤◌, ◌⊎◌, inl, inr, Bool, true, false, List, [], ◌∷◌, ◌++◌, length, map, Option, None, refl, sym, ap, subst, ◌∙◌, arith}
use Rattle.std.specs.Prelude.{◌==◌, if◌then◌else◌, not}
use Rattle.std.proofs.lemmas.Bool.{cases_lt}
use Rattle.mk_text.specs.Rising.{Holds, IsBelow}
use Rattle.mk_text.proofs.ForCallers.{below_after, below_or_not, below_through, below_what_isnt, between_none, holds_append, holds_before_map, holds_either, holds_mapped, not_below_after, not_below_itself}
use Rattle.mk_model.specs.Keys.{IsKey, IsOccurrence}
use Rattle.mk_model.specs.Molecules.{Molecule}
use Rattle.mk_model.specs.Nodes.{IsNode, Pays, SameFrom}
use Rattle.mk_model.specs.Queries.{QueryView, slots_of}
use Rattle.mk_model.proofs.ForCallers.{not_below_through}
use Rattle.mk_rows.specs.declared.by_number.Numbered.{Numbered}
use Rattle.mk_choice.specs.Codes.{CodesLeft}
use Rattle.mk_choice.proofs.FrontLemmas.{same_of, same_through}
use Rattle.mk_search.specs.declared.occurrences.Open.{Open}
use Rattle.mk_search.specs.declared.occurrences.Occurrences.{Occurrences}
use Rattle.mk_search.specs.declared.stages.Came.{Came}
use Rattle.mk_search.specs.declared.stages.Came.TheVariants.{Out, On, Nowhere}
use Rattle.mk_search.specs.declared.stages.Row.{Row}
use Rattle.mk_search.specs.Begins.{IsLeftBy}
use Rattle.mk_search.specs.Begun.{Begun, IsPairLeft}
use Rattle.mk_search.specs.Hits.{HitsLeft, MovesOn, TakesOutKey}
use Rattle.mk_search.specs.Levels.{AtBacks, IsPair}
use Rattle.mk_expansions.specs.Starts.{rest_in}
use Rattle.mk_search.specs.Occurrences.{Leaves, is_open, reached}
use Rattle.mk_search.specs.Pages.{IsHeldIn}
use Rattle.mk_search.specs.Passing.{KnowOf}
use Rattle.mk_search.specs.Stages.{ComesOn, ComesOut, ComesTo, FindsNone, IsReadyHere, IsReadyIn, IsRecord, OccursIn, OwesFrom}
use Rattle.mk_search.specs.Turns.{IsHigher, IsInnerNode, LeavesNone, MovesTo, OwesFew, StandsBy, StandsIn, TakesOut, debt_in}
use Rattle.mk_search.proofs.BegunLemmas.{begun_append, begun_none}
use Rattle.mk_search.proofs.LevelLemmas.{over_not, same_backs, same_if_neither}
use Rattle.mk_search.proofs.PayLemmas.{PaysFor, as_one, below_later, for_one, pays_lifted, pays_nothing, pays_on, stand_none, stand_one}
use Rattle.mk_search.proofs.RecordsLemmas.{one_molecule, records_apart}
use Rattle.mk_search.proofs.SearchedLemmas.{HasSearched, begun_in, begun_key, begun_later}
use Rattle.mk_search.proofs.StagesLemmas.{behind_number, found_at, found_key, found_none, key_pair, rest_same}
use Rattle.mk_expansions.proofs.StartsLemmas.{behind_same}
use Rattle.mk_search.proofs.TurnsLemmas.{higher_cons, one_higher}

-- ---- the order

-- what a number leaves of a place is shorter
rest_short : (place : List ℕ) (n : ℕ) → length place ≤ 514 → length (rest_in place n) ≤ 513
rest_short [] n few = omega arith
rest_short (p ∷ place) n few = by_test (p == n)
  where
    by_test : (b : Bool) → length (if b then place else []) ≤ 513
    by_test true = omega (arith, few)
    by_test false = omega arith

module _ (rows : List (Numbered Molecule)) (query : QueryView) (n : ℕ) (mol : Molecule) (held : IsHeldIn rows n mol) where
  -- ---- in one record

  keys_on : (here there : List ℕ) → ((xs : List ℕ) → IsOccurrence query mol xs → (IsBelow xs here → ⊥) → IsBelow xs there → ⊥)
      → (xs : List ℕ) → IsKey (IsHeldIn rows) query xs → (IsBelow xs (n ∷ here) → ⊥) → IsBelow xs (n ∷ there) → ⊥
  keys_on here there on xs key not below =
      elim (subst (λ (zs : List ℕ). IsBelow zs (n ∷ there)) key.whole below) [
        | inl less ↦ not' (inl less)
        | inr h ↦ on key.numbers (own h.0) (λ under. not' (inr (h.0, under))) h.1
      ]
    where
      not' : IsBelow (key.number ∷ key.numbers) (n ∷ here) → ⊥
      not' = subst (λ (zs : List ℕ). IsBelow zs (n ∷ here) → ⊥) key.whole not

      own : key.number ≡ n → IsOccurrence query mol key.numbers
      own same = subst (λ (m : Molecule). IsOccurrence query m key.numbers) (one_molecule rows key.number n key.mol mol same key.held held) key.occurs

  -- the same keys remain where the same occurrences do
  same_keys : (here there : List ℕ) → SameFrom (IsOccurrence query mol) here there → SameFrom (IsKey (IsHeldIn rows) query) (n ∷ here) (n ∷ there)
  same_keys here there same = record { on = keys_on here there same.on; back = keys_on there here same.back }

  -- what is paid in a molecule is paid in its record
  record_pays : (here there : List ℕ) (owed owing : ℕ) → Pays (IsInnerNode query mol) here owed there owing → PaysFor (IsNode (IsHeldIn rows) query) (n ∷ here) owed (n ∷ there) owing 1
  record_pays here there owed owing p =
      pays_lifted (IsInnerNode query mol) (IsNode (IsHeldIn rows) query) (n ∷ []) here there (n ∷ here) (n ∷ there) owed owing 1 (for_one (IsInnerNode query mol) here there owed owing p)
      (λ xs is. record { number = n; mol = mol; numbers = xs; held = held; reached = inr is; whole = refl })
      (λ xs _ above. inr (refl, above))
      (λ xs _ not above. not (behind_same (n ∷ []) there xs above))
      (λ below. p.up (behind_same (n ∷ []) there here below))

  -- ---- a record is taken up

  module _ (place : List ℕ) (at : AtBacks (IsRecord rows) (OccursIn rows query) place (n ∷ []) (rest_in place n)) (from : IsLeftBy place (n ∷ [])) where
    -- the place begins with the number, or is below it and leaves nothing
    entered : (place ≡ n ∷ rest_in place n) ⊎ (IsBelow place (n ∷ []) × (rest_in place n ≡ []))
    entered =
        elim (behind_number place n) [
          | inl whole ↦ inl whole
          | inr apart ↦ elim from [
            | inl not ↦ inr (under not apart.1, apart.0)
            | inr begins ↦ absurd (apart.1 begins.0 begins.1)
          ]
        ]
      where
        under : (IsBelow (n ∷ []) place → ⊥) → ((behind : List ℕ) → place ≡ n ∷ behind → ⊥) → IsBelow place (n ∷ [])
        under not apart = elim (below_or_not place (n ∷ [])) [
          | inl below ↦ below
          | inr up ↦ absurd (apart [] (same_if_neither place (n ∷ []) up not))
        ]

    entered_up : IsBelow (n ∷ rest_in place n) place → ⊥
    entered_up below = elim entered [
      | inl whole ↦ not_below_itself place (subst (λ (zs : List ℕ). IsBelow zs place) (sym whole) below)
      | inr under ↦ over_not place (n ∷ []) under.0 (subst (λ (zs : List ℕ). IsBelow (n ∷ zs) place) under.1 below)
    ]

    entered_same : SameFrom (IsKey (IsHeldIn rows) query) place (n ∷ rest_in place n)
    entered_same = same_of (IsPair (IsRecord rows) (OccursIn rows query)) (IsKey (IsHeldIn rows) query) (key_pair rows query) place (n ∷ rest_in place n)
        (same_backs (IsRecord rows) (OccursIn rows query) (records_apart rows) place (n ∷ []) (rest_in place n) at entered_up)

    higher_entered : (to new : List ℕ) → IsHigher (rest_in place n) to new → IsHigher place (n ∷ to) (n ∷ new)
    higher_entered to new higher = elim entered [
      | inl whole ↦ subst (λ (zs : List ℕ). IsHigher zs (n ∷ to) (n ∷ new)) (sym whole) (higher_cons n (rest_in place n) to new higher)
      | inr under ↦ inr (
        λ below. over_not place (n ∷ to) (below_later' under.0) below,
        ap (λ (zs : List ℕ). n ∷ zs) (of_none (subst (λ (zs : List ℕ). IsHigher zs to new) under.1 higher)),
      )
    ]
      where
        below_later' : IsBelow place (n ∷ []) → IsBelow place (n ∷ to)
        below_later' under = below_what_isnt place (n ∷ to) (n ∷ []) under (λ below. elim below [ inl less ↦ absurd (omega (arith, less)) | inr h ↦ h.1 ])

        of_none : IsHigher [] to new → new ≡ to
        of_none (inl stays) = absurd stays.0
        of_none (inr moves) = moves.1

    -- what is owed at the place is owed behind it, or its number is a node that is passed
    entered_pays : (owed owing turns : ℕ) → ((rest : List ℕ) → place ≡ n ∷ rest → length place ≤ owed) → owing + turns ≤ length (rest_in place n) + 1
        → PaysFor (IsNode (IsHeldIn rows) query) place owed (n ∷ rest_in place n) owing turns
    entered_pays owed owing turns all few = elim entered [
      | inl whole ↦ record {
        passed = 0;
        stand = stand_none (IsNode (IsHeldIn rows) query) place (n ∷ rest_in place n);
        up = entered_up;
        pays = omega (arith, few, all (rest_in place n) whole, ap length whole);
      }
      | inr under ↦ record {
        passed = 1;
        stand = stand_one (IsNode (IsHeldIn rows) query) place (n ∷ rest_in place n) (n ∷ [])
            (record { number = n; mol = mol; numbers = []; held = held; reached = inl refl; whole = refl }) under.0
            (λ above. elim above [ inl less ↦ absurd (omega (arith, less)) | inr h ↦ h.1 ]);
        up = entered_up;
        pays = omega (arith, few, ap length under.1);
      }
    ]

-- ---- a record that is open

module _ (rows : List (Numbered Molecule)) (query : QueryView) (place : List ℕ) (row : Row) (old : Occurrences) (ready : IsReadyIn rows query place row old) where
  abbrev n : ℕ
  n = row.number

  abbrev rest : List ℕ
  rest = rest_in place row.number

  -- at another place in it
  ready_here : (to : List ℕ) (new : Occurrences) → StandsIn query row.mol.now to new.codes new.owed new.open → KnowOf row.mol.now new.fronts → IsReadyHere rows query (n ∷ to) row new
  ready_here to new stands know = record {
    ready = record {
      held = ready.held;
      shows = ready.shows;
      left = subst (λ (zs : List ℕ). Leaves query row.mol.now zs new.codes new.open) (sym (rest_same n to)) stands.left;
      know = know;
      at = found_at rows query n row.mol.now ready.held to;
      from = inr (to, refl);
    };
    begins = ap (λ (zs : List ℕ). n ∷ zs) (sym (rest_same n to));
    by = subst (λ (zs : List ℕ). StandsBy query zs new.codes new.owed new.open) (sym (rest_same n to)) stands.by;
  }

  -- a record is taken up, and that is a turn
  pub comes_up : (owed now : ℕ) → StandsBy query rest old.codes old.owed old.open → old.open ≡ None → IsHigher rest old.codes.place rest
      → ((rest' : List ℕ) → place ≡ n ∷ rest' → length place ≤ owed) → OwesFew query rest old.codes old.owed → not (length (slots_of query 0) == 0) ≡ true
      → ComesOn rows query place owed (n ∷ old.codes.place) false now now old row
  unfolding begun_none
  comes_up owed now by shut higher all few slots = record {
    to = n ∷ rest;
    higher = subst (λ (m : Option Open). IsHigher place (n ∷ reached old.codes m) (n ∷ rest)) (sym shut)
        (higher_entered rows query n row.mol.now ready.held place ready.at ready.from old.codes.place rest higher);
    ready = ready_here rest old (record { left = ready.left; by = by }) ready.know;
    same = entered_same rows query n row.mol.now ready.held place ready.at ready.from;
    short = λ few'. omega (arith, rest_short place n few');
    begun = begun_none (IsPairLeft rows query place) (n ∷ old.codes.place) now now refl;
    up_to = λ pair held. absurd held;
    since = λ is. absurd (let no : is_open None ≡ true = subst (λ (m : Option Open). is_open m ≡ true) shut is in cc);
    pays = subst (λ (m : Option Open). Pays (IsNode (IsHeldIn rows) query) place owed (n ∷ rest) (debt_in old.codes old.owed m)) (sym shut)
        (as_one (IsNode (IsHeldIn rows) query) place (n ∷ rest) owed (debt_in old.codes old.owed None) 1 refl
        (entered_pays rows query n row.mol.now ready.held place ready.at ready.from owed (old.owed + old.codes.debt) 1 all
        (few_slots (length (slots_of query 0) == 0) slots few)));
  }
    where
      few_slots : (t : Bool) → not t ≡ true → old.owed + old.codes.debt ≤ length rest + (if t then 1 else 0) → old.owed + old.codes.debt + 1 ≤ length rest + 1
      few_slots true none few = absurd cc
      few_slots false some few = omega (arith, few)

  -- nothing more is in it
  pub leaves_none : (new : Occurrences) (before after : ℕ) → LeavesNone query row.mol.now rest old.codes new.codes before after → FindsNone rows query place n (n ∷ old.codes.place) before after
  leaves_none new before after t = record {
    at = found_none rows query n row.mol.now ready.held place ready.at t.none;
    to = new.codes.place;
    begun = begun_in rows query n row.mol.now ready.held place ready.from old.codes.place new.codes.place before after t.begun;
  }

  -- ---- a turn in it, from where it is taken up

  module _ (new : Occurrences) (know : KnowOf row.mol.now new.fronts) (owed before after : ℕ)
      (enters : PaysFor (IsNode (IsHeldIn rows) query) place owed (n ∷ rest) (debt_in old.codes old.owed old.open) 0) where
    pays_in : (to : List ℕ) (owing : ℕ) → Pays (IsInnerNode query row.mol.now) rest (debt_in old.codes old.owed old.open) to owing → Pays (IsNode (IsHeldIn rows) query) place owed (n ∷ to) owing
    pays_in to owing p = as_one (IsNode (IsHeldIn rows) query) place (n ∷ to) owed owing (0 + 1) refl
        (pays_on (IsNode (IsHeldIn rows) query) place (n ∷ rest) (n ∷ to) owed (debt_in old.codes old.owed old.open) owing 0 1 enters
        (record_pays rows query n row.mol.now ready.held rest to (debt_in old.codes old.owed old.open) owing p))

    -- a key is taken out
    pub comes_out : TakesOut query row.mol.now rest old.codes old.owed old.open new.codes new.owed new.open before after
        → ComesOut rows query place owed (n ∷ old.codes.place) (is_open old.open) before after new row
    unfolding begun_in
    comes_out t = record {
      numbers = t.numbers;
      at = t.at;
      least = found_key rows query n row.mol.now ready.held place ready.at t.numbers t.least;
      ready = ready_here (t.numbers ++ 0 ∷ []) new t.stands know;
      begun = begun_in rows query n row.mol.now ready.held place ready.from old.codes.place new.codes.place before after t.begun;
      taken = begun_key n old.codes old.open new.codes t.begun.begun t.numbers t.for_it;
      pays = pays_in (t.numbers ++ 0 ∷ []) (debt_in new.codes new.owed new.open) t.pays;
    }

    -- the place moves
    pub comes_on : MovesTo query row.mol.now rest old.codes old.owed old.open new.codes new.owed new.open before after
        → ComesOn rows query place owed (n ∷ old.codes.place) (is_open old.open) before after new row
    unfolding begun_in
    comes_on t = record {
      to = n ∷ t.to;
      higher = higher_entered rows query n row.mol.now ready.held place ready.at ready.from (reached new.codes new.open) t.to t.higher;
      ready = ready_here t.to new t.stands know;
      same = same_through (IsKey (IsHeldIn rows) query) place (n ∷ rest) (n ∷ t.to) (entered_same rows query n row.mol.now ready.held place ready.at ready.from)
          (same_keys rows query n row.mol.now ready.held rest t.to t.same);
      short = λ few. omega (arith, t.short (rest_short place n few));
      begun = begun_in rows query n row.mol.now ready.held place ready.from old.codes.place new.codes.place before after t.begun;
      up_to = λ pair held over.
          (let m = holds_before_map (λ code. n ∷ code) t.begun.begun pair held in
          t.up_to m.0 m.2 (behind_same (n ∷ []) t.to m.0 (subst (λ (zs : List ℕ). IsBelow (n ∷ t.to) zs) (sym m.1) over)));
      since = λ is number code e.
          (let same : n ≡ number = cc in let at : new.codes.place ≡ code ++ 0 ∷ [] = cc in
          elim (t.since is code at) [
            | inl here ↦ inl (subst (λ (k : ℕ). Holds (map (λ code. n ∷ code) t.begun.begun) (k ∷ code)) same (holds_mapped (λ code. n ∷ code) t.begun.begun code here))
            | inr was ↦ inr (was.0, ap (λ (k : ℕ). k ∷ old.codes.place) same ∙ ap (λ (zs : List ℕ). number ∷ zs) was.1)
          ]);
      pays = pays_in t.to (debt_in new.codes new.owed new.open) t.pays;
    }

-- ---- the records that were searched

-- what was begun before stands below the place where that is above it
begun_under : (P : List ℕ → Type 0) (from at to : List ℕ) (before now : ℕ) → (b : Begun P from at before now) → (IsBelow to at → ⊥) → (pair : List ℕ) → Holds b.begun pair → IsBelow to pair → ⊥
begun_under P from at to before now b up pair held over = over_not at pair (below_later at to pair up over) (b.to_is pair held)

module _ (rows : List (Numbered Molecule)) (query : QueryView) (place start : List ℕ) (owed before now after : ℕ) (opened : Bool) (at next : List ℕ)
    (b : Begun (IsPairLeft rows query place) start at before now) (up : IsBelow next at → ⊥) (all : Occurrences) where
  -- a turn behind what was begun before
  comes_behind : (came : Came) → ((row : Row) (rest : List ℕ) → (IsBelow (row.number ∷ all.codes.place) next → ⊥) → IsBelow (row.number ∷ rest) at → ⊥)
      → ComesTo rows query place owed next false now after all came → ComesTo rows query place owed start opened before after all came
  unfolding begun_append
  comes_behind (Out row) over k = record {
    numbers = k.numbers;
    at = k.at;
    least = k.least;
    ready = k.ready;
    begun = begun_append (IsPairLeft rows query place) start at next (row.number ∷ all.codes.place) before now after b up k.begun;
    taken = begun_later next start (row.number ∷ all.codes.place) b.begun k.begun.begun (row.number ∷ k.numbers) k.taken opened;
    pays = k.pays;
  }
  comes_behind (On row) over k = record {
    to = k.to;
    higher = k.higher;
    ready = k.ready;
    same = k.same;
    short = k.short;
    begun = begun_append (IsPairLeft rows query place) start at next (row.number ∷ all.codes.place) before now after b up k.begun;
    up_to = λ pair held. elim (holds_either b.begun k.begun.begun pair held) [
      | inl here ↦ begun_under (IsPairLeft rows query place) start at k.to before now b
          (λ below. over row (rest_in k.to row.number) k.begun.up (subst (λ (zs : List ℕ). IsBelow zs at) k.ready.begins below)) pair here
      | inr there ↦ k.up_to pair there
    ];
    since = λ is number code e. elim (k.since is number code e) [
      | inl here ↦ inl (holds_append b.begun k.begun.begun (number ∷ code) (inr here))
      | inr was ↦ absurd (let never = was.0 in cc)
    ];
    pays = k.pays;
  }
  comes_behind Nowhere over k = record {
    none = k.none;
    to = k.to;
    begun = begun_append (IsPairLeft rows query place) start at next k.to before now after b up k.begun;
  }

-- a turn in the records from a number on
pub searched_comes : (rows : List (Numbered Molecule)) (query : QueryView) (place start : List ℕ) (owed before now after next n : ℕ) (from : List ℕ) (all : Occurrences) (came : Came)
    → HasSearched rows query place start next before now → next ≤ n → ComesTo rows query place owed (n ∷ from) false now after all came
    → ComesTo rows query place owed start false before after all came
searched_comes rows query place start owed before now after next n from all came h more k =
    comes_behind rows query place start owed before now after false h.to (n ∷ from) h.begun (late n from more) all came
    (λ row rest not. late row.number rest (omega (arith, more, number_up row.number all.codes.place not))) k
  where
    late : (m : ℕ) (xs : List ℕ) → next ≤ m → IsBelow (m ∷ xs) h.to → ⊥
    late m xs up below = not_below_through (m ∷ xs) (next ∷ []) h.to (λ under. elim under [ inl less ↦ omega (arith, less, up) | inr g ↦ g.1 ]) h.up below

    number_up : (m : ℕ) (xs : List ℕ) → (IsBelow (m ∷ xs) (n ∷ from) → ⊥) → n ≤ m
    number_up m xs not = elim (cases_lt m n) [ inl less ↦ absurd (not (inl less)) | inr up ↦ up ]

-- a turn behind a record that was open
pub behind_comes : (rows : List (Numbered Molecule)) (query : QueryView) (place : List ℕ) (n : ℕ) (from : List ℕ) (owed : ℕ) (opened : Bool) (before now after : ℕ) (all : Occurrences) (came : Came)
    → FindsNone rows query place n from before now → ComesTo rows query place owed ((n + 1) ∷ []) false now after all came → ComesTo rows query place owed from opened before after all came
behind_comes rows query place n from owed opened before now after all came f k =
    comes_behind rows query place from owed before now after opened (n ∷ f.to) ((n + 1) ∷ []) f.begun (λ below. elim below [ inl less ↦ omega (arith, less) | inr g ↦ omega (arith, g.0) ]) all came
    (λ row rest not below. elim below [ inl less ↦ omega (arith, less, number_up row.number all.codes.place not) | inr g ↦ omega (arith, g.0, number_up row.number all.codes.place not) ]) k
  where
    number_up : (m : ℕ) (xs : List ℕ) → (IsBelow (m ∷ xs) ((n + 1) ∷ []) → ⊥) → n + 1 ≤ m
    number_up m xs not = elim (cases_lt m (n + 1)) [ inl less ↦ absurd (not (inl less)) | inr up ↦ up ]

-- ---- what is owed where records are to come

-- all numbers of the place are
pub owes_all : (place : List ℕ) (from : ℕ) → OwesFrom place from (length place)
owes_all place from number rest whole up = omega arith

-- behind the record with which the place begins nothing has to be
pub owes_behind : (place : List ℕ) (n : ℕ) (rest : List ℕ) (owed : ℕ) → place ≡ n ∷ rest → OwesFrom place (n + 1) owed
owes_behind place n rest owed begins number rest' whole up = absurd (let e : n ∷ rest ≡ number ∷ rest' = sym begins ∙ whole in let same : n ≡ number = cc in omega (arith, up, same))

-- where the place begins with the record, and where one is taken up for a root without slots
pub enters_none : (rows : List (Numbered Molecule)) (query : QueryView) (place to : List ℕ) (owed : ℕ) → place ≡ to → PaysFor (IsNode (IsHeldIn rows) query) place owed to owed 0
enters_none rows query place to owed same =
    subst (λ (zs : List ℕ). PaysFor (IsNode (IsHeldIn rows) query) place owed zs owed 0) same (pays_nothing (IsNode (IsHeldIn rows) query) place owed owed (omega arith))

pub enters_bare : (rows : List (Numbered Molecule)) (query : QueryView) (place : List ℕ) (row : Row) (old : Occurrences) → IsReadyIn rows query place row old → old.open ≡ None → (owed : ℕ)
    → ((rest' : List ℕ) → place ≡ row.number ∷ rest' → length place ≤ owed) → OwesFew query (rest_in place row.number) old.codes old.owed
    → PaysFor (IsNode (IsHeldIn rows) query) place owed (row.number ∷ rest_in place row.number) (debt_in old.codes old.owed old.open) 0
enters_bare rows query place row old ready shut owed all few =
    subst (λ (m : Option Open). PaysFor (IsNode (IsHeldIn rows) query) place owed (row.number ∷ rest_in place row.number) (debt_in old.codes old.owed m) 0) (sym shut)
    (entered_pays rows query row.number row.mol.now ready.held place ready.at ready.from owed (old.owed + old.codes.debt) 0 all (few_by (length (slots_of query 0) == 0) few))
  where
    few_by : (t : Bool) → old.owed + old.codes.debt ≤ length (rest_in place row.number) + (if t then 1 else 0) → old.owed + old.codes.debt + 0 ≤ length (rest_in place row.number) + 1
    few_by true few = omega (arith, few)
    few_by false few = omega (arith, few)

-- ---- what is seen of it

module _ (rows : List (Numbered Molecule)) (query : QueryView) (place : List ℕ) (owed : ℕ) (from : List ℕ) (opened : Bool) (before after : ℕ) (all : Occurrences) (row : Row)
    (to : List ℕ) (higher : IsHigher place (row.number ∷ reached all.codes all.open) to) where
  abbrev seen_before : HitsLeft
  seen_before = record { rows = rows; query = query; place = place; from = from; debt = owed; opened = opened }

  abbrev seen_behind : HitsLeft
  seen_behind = record {
    rows = rows;
    query = all.query.now;
    place = to;
    from = row.number ∷ all.codes.place;
    debt = debt_in all.codes all.owed all.open;
    opened = is_open all.open;
  }

  -- the place is that behind the key
  pub out_place : (k : ComesOut rows query place owed from opened before after all row) → to ≡ row.number ∷ (k.numbers ++ 0 ∷ [])
  out_place k = by_case (subst (λ (zs : List ℕ). IsHigher place (row.number ∷ zs) to) k.at higher)
    where
      by_case : IsHigher place (row.number ∷ (k.numbers ++ 0 ∷ [])) to → to ≡ row.number ∷ (k.numbers ++ 0 ∷ [])
      by_case (inl stays) = absurd (k.least.from (below_through (row.number ∷ k.numbers) (row.number ∷ (k.numbers ++ 0 ∷ [])) place (below_after (row.number ∷ k.numbers)) stays.0))
      by_case (inr moves) = moves.1

  pub out_ready : (k : ComesOut rows query place owed from opened before after all row) → IsReadyHere rows query to row all
  out_ready k = subst (λ (zs : List ℕ). IsReadyHere rows query zs row all) (sym (out_place k)) k.ready

  pub takes_out : all.query.now ≡ query → (k : ComesOut rows query place owed from opened before after all row) → TakesOutKey seen_before seen_behind before after (row.number ∷ k.numbers)
  takes_out own k = record {
    takes = record {
      same = record { rows = refl; query = own };
      least = k.least;
      place = out_place k;
      begun = k.begun;
      taken = record {
        number = k.taken.number;
        code = k.taken.code;
        hit = k.taken.hit;
        whole = k.taken.whole;
        placed = k.taken.placed;
        begun_for = elim k.taken.begun_for [ inl here ↦ inl here | inr was ↦ inr was.1 ];
      };
    };
    since = k.taken.begun_for;
    pays = subst (λ (zs : List ℕ). Pays (IsNode (IsHeldIn rows) query) place owed zs (debt_in all.codes all.owed all.open)) (sym (out_place k)) k.pays;
  }

  -- it is where the search came to
  pub on_ready : (k : ComesOn rows query place owed from opened before after all row) → IsReadyHere rows query to row all
  on_ready k = subst (λ (zs : List ℕ). IsReadyHere rows query zs row all) (one_higher place (row.number ∷ reached all.codes all.open) k.to to k.higher higher) k.ready

  pub moves_on : all.query.now ≡ query → (k : ComesOn rows query place owed from opened before after all row) → MovesOn seen_before seen_behind before after
  moves_on own k =
      let is = one_higher place (row.number ∷ reached all.codes all.open) k.to to k.higher higher in
      record {
        search = record { rows = refl; query = own };
        same = subst (λ (zs : List ℕ). SameFrom (IsKey (IsHeldIn rows) query) place zs) is k.same;
        short = λ few. subst (λ (zs : List ℕ). length zs ≤ 514) is (k.short few);
        begun = k.begun;
        up_to = λ pair held. subst (λ (zs : List ℕ). IsBelow zs pair → ⊥) is (k.up_to pair held);
        since = k.since;
        pays = subst (λ (zs : List ℕ). Pays (IsNode (IsHeldIn rows) query) place owed zs (debt_in all.codes all.owed all.open)) is k.pays;
      }
