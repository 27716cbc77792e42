-- The table of the records below a number, and what was begun for it.
--     rows_none, rows_more        no record yet, and one key's record more
--     rows_up, rows_last, rows_all     the search leaves the record, no record is above it, and no key is left
--     goes_on, fewer              the loop goes on, with fewer numbers left
--     ends_table, ends_begins, begins_all     the table at its end, and what was begun for it
use Rattle.std.proofs.Common.{◌≡◌, ℕ, ◌+◌, ◌-◌, ◌<◌, ◌≤◌, ◌⊎◌, inl, inr, true, false, List, [], ◌∷◌, ◌++◌, length, length-append, take, drop, map, Option, Some, None, refl, sym, ap, ◌∙◌, subst, arith}
use Rattle.std.proofs.lemmas.Bool.{cases_lt}
use Rattle.std.proofs.lemmas.List.{map-append, take_all}
use Rattle.mk_text.specs.Rising.{Each, Holds, IsBelow, IsLeast, IsLeastFrom, IsRisingListOfAll}
use Rattle.mk_text.proofs.ForCallers.{holds_append, holds_each, holds_either, none_before_place_behind, rises_append}
use Rattle.mk_model.specs.Codes.{IsCode}
use Rattle.mk_model.specs.Keys.{IsKey}
use Rattle.mk_model.specs.Logic.{IsValid}
use Rattle.mk_model.specs.Molecules.{Molecule}
use Rattle.mk_model.specs.Queries.{QueryView}
use Rattle.mk_model.proofs.ForCallers.{code_of_valid, one_code}
use Rattle.mk_rows.specs.declared.by_number.Numbered.{Numbered}
use Rattle.mk_rows.specs.Rows.{NoneFrom, holds}
use Rattle.mk_search.specs.Begun.{Begun, IsPairLeft, IsPairOf}
use Rattle.mk_search.specs.Hits.{GoesUp, HitsLeft, IsMadeFrom, TakesKey, TakesNone}
use Rattle.mk_search.specs.Pages.{IsHeldIn}
use Rattle.mk_expansions.specs.Starts.{first_number}
use Rattle.mk_search.proofs.ForCallers.{begun_append, begun_none, begun_same, held_number, one_molecule}
use Rattle.mk_rtable.specs.declared.rows.TableRow.{TableRow}
use Rattle.mk_rtable.specs.Begins.{BeginsOfTable, IsPairToLeast}
use Rattle.mk_rtable.specs.Rows.{IsRowOfKey}
use Rattle.mk_rtable.specs.Table.{HasHit, IsLeastCode, IsRow, IsRGroupTable, numbers_of_row}
use Rattle.mk_rtable.proofs.TableLemmas.{in_parts, key_of_hit, least_code, none_below, one_least, one_row}

-- ---- places of at most one number

-- what isn't below the number of such a place isn't below the place
pub cut_at : (place : List ℕ) → length place ≤ 1 → (n : ℕ) (numbers : List ℕ) → first_number place ≤ n → IsBelow (n ∷ numbers) place → ⊥
cut_at [] short n numbers up below = below
cut_at (p ∷ []) short n numbers up (inl less) = omega (arith, less, up)
cut_at (p ∷ []) short n numbers up (inr h) = h.1
cut_at (p ∷ q ∷ place) short n numbers up below = omega (arith, short)

-- and what isn't below the place isn't below its number
up_from : (place : List ℕ) (n : ℕ) (numbers : List ℕ) → (IsBelow (n ∷ numbers) place → ⊥) → first_number place ≤ n
up_from [] n numbers not = omega arith
up_from (p ∷ place) n numbers not = elim (cases_lt n p) [ inl less ↦ absurd (not (inl less)) | inr up ↦ up ]

module _ (rows : List (Numbered Molecule)) (query : QueryView) where
  -- a record has one molecule
  pub alone : (n : ℕ) (mol other : Molecule) → IsHeldIn rows n mol → IsHeldIn rows n other → mol ≡ other
  alone n mol other held its = one_molecule rows n n mol other refl held its

  -- the row is that of a record below a number
  pub record IsRowBelow (next : ℕ) (row : List ℕ) : Type 0 where
    pub is : IsRow (IsHeldIn rows) query row
    pub below : is.number < next

  -- the rows of the records below a number, and what was begun for them
  pub record HasRowsBelow (table : List (List ℕ)) (next before now : ℕ) : Type 0 where
    pub listed : IsRisingListOfAll (IsRowBelow next) table
    pub to : List ℕ
    pub begun : Begun (IsPairToLeast (IsHeldIn rows) query) (0 ∷ []) to before now
    pub up : IsBelow (next ∷ []) to → ⊥
    pub found : (n : ℕ) (mol : Molecule) (code : List ℕ) → n < next → IsHeldIn rows n mol → IsLeastCode query mol code → Holds begun.begun (n ∷ code)

  -- the same of the records below the place of a search
  pub record HasRowsTo (left : HitsLeft) (table : List (List ℕ)) (before now : ℕ) : Type 0 where
    pub rows_is : left.rows ≡ rows
    pub query_is : left.query ≡ query
    pub short : length left.place ≤ 1
    pub from : left.from ≡ first_number left.place ∷ []
    pub so_far : HasRowsBelow table (first_number left.place) before now

  -- no record is below 0
  none_so_far : (before : ℕ) → HasRowsBelow [] 0 before before
  unfolding begun_none
  none_so_far before = record {
    listed = record { rises = tt; each = λ xs held. absurd held; all = λ xs is. absurd (omega (arith, is.below)) };
    to = 0 ∷ [];
    begun = begun_none (IsPairToLeast (IsHeldIn rows) query) (0 ∷ []) before before refl;
    up = λ below. elim below [ inl less ↦ omega (arith, less) | inr h ↦ h.1 ];
    found = λ n mol code under held least. absurd (omega (arith, under));
  }

  pub rows_none : (left : HitsLeft) (before : ℕ) → IsMadeFrom rows query [] left → HasRowsTo left [] before before
  rows_none left before made = record {
    rows_is = made.rows_is;
    query_is = made.query_is;
    short = subst (λ (zs : List ℕ). length zs ≤ 1) (sym made.place_is) (omega arith);
    from = made.from_is ∙ ap (λ (zs : List ℕ). first_number zs ∷ []) (sym made.place_is);
    so_far = subst (λ (zs : List ℕ). HasRowsBelow [] (first_number zs) before before) (sym made.place_is) (none_so_far before);
  }

  -- ---- one key more

  module _ (left : HitsLeft) (table : List (List ℕ)) (before now : ℕ) (h : HasRowsTo left table before now) where
    abbrev next : ℕ
    next = first_number left.place

    cut : (n : ℕ) (numbers : List ℕ) → next ≤ n → IsBelow (n ∷ numbers) left.place → ⊥
    cut = cut_at left.place h.short

    -- a pair of the search's rows and query is one of these
    pair_of : (pair : List ℕ) → IsPairOf left.rows left.query pair → IsPairOf rows query pair
    pair_of pair is =
        subst (λ (q : QueryView). IsPairOf rows q pair) h.query_is (subst (λ (r : List (Numbered Molecule)). IsPairOf r left.query pair) h.rows_is is)

    -- a pair that isn't below where the search stands is of a record from there on
    number_up : (m : ℕ) (code : List ℕ) → (IsBelow (m ∷ code) left.from → ⊥) → next ≤ m
    number_up m code not =
        elim (cases_lt m next) [ inl less ↦ absurd (not (subst (λ (zs : List ℕ). IsBelow (m ∷ code) zs) (sym h.from) (inl less))) | inr up ↦ up ]

    -- the least key, over these rows and this query
    least_over : (found : Option (List ℕ)) → IsLeastFrom left.place (IsKey (IsHeldIn left.rows) left.query) found → IsLeastFrom left.place (IsKey (IsHeldIn rows) query) found
    least_over found least =
        subst (λ (q : QueryView). IsLeastFrom left.place (IsKey (IsHeldIn rows) q) found) h.query_is
        (subst (λ (r : List (Numbered Molecule)). IsLeastFrom left.place (IsKey (IsHeldIn r) left.query) found) h.rows_is least)

    module _ (new : HitsLeft) (key : List ℕ) (after : ℕ) (t : TakesKey left new now after key) (row : TableRow) (made : IsRowOfKey query key row) where
      least : IsLeast left.place (IsKey (IsHeldIn rows) query) key
      least = least_over (Some key) t.least

      abbrev number : ℕ
      number = least.has.number

      abbrev code : List ℕ
      code = least.has.occurs.code

      whole : key ≡ number ∷ (code ++ least.has.occurs.hit)
      whole = in_parts (IsHeldIn rows) query left.place next cut key least

      -- the record of the key isn't below the place
      number_from : next ≤ number
      number_from = up_from left.place number (code ++ least.has.occurs.hit) (subst (λ (zs : List ℕ). IsBelow zs left.place → ⊥) whole least.from)

      none_between : (n : ℕ) (mol : Molecule) (other : List ℕ) → next ≤ n → n < number → IsHeldIn rows n mol → HasHit query mol other → ⊥
      none_between = none_below (IsHeldIn rows) query left.place next cut key least

      is_least : IsLeastCode query least.has.mol code
      is_least = least_code (IsHeldIn rows) query left.place next cut key least number_from

      is_code : IsCode query 0 code
      is_code = code_of_valid query code least.has.occurs.valid

      -- in the record of the key no other code is the least
      same_code : (n : ℕ) (mol : Molecule) (other : List ℕ) → n ≡ number → IsHeldIn rows n mol → IsLeastCode query mol other → other ≡ code
      same_code n mol other same held its =
          let mols : mol ≡ least.has.mol = alone number mol least.has.mol (subst (λ (m : ℕ). IsHeldIn rows m mol) same held) least.has.held in
          one_least query least.has.mol other code (subst (λ (m : Molecule). IsLeastCode query m other) mols its) is_least

      first_is : first_number new.place ≡ number
      first_is = ap first_number (t.place ∙ ap (λ (zs : List ℕ). zs ++ 0 ∷ []) whole)

      -- the place of the record above leaves fewer numbers, of those below any bound of the record's
      pub fewer : (above : HitsLeft) → GoesUp new above → (most : ℕ) → row.number < most → most - first_number above.place < most - first_number left.place
      fewer above up most fits =
          let at : first_number above.place ≡ first_number new.place + 1 = ap first_number up.place in
          let same : row.number ≡ number = (made number code least.has.occurs.hit is_code whole).0 in
          omega (arith, at, first_is, number_from, same, fits)

      -- ---- what was begun for the key

      -- the key's own pair was begun now
      begun_here : Holds t.begun.begun (t.taken.number ∷ t.taken.code)
      begun_here = elim t.taken.begun_for [
        | inl here ↦ here
        | inr was ↦ absurd (let long = ap length (sym h.from ∙ was) in omega (arith, long, length-append t.taken.code (0 ∷ [])))
      ]

      taken_whole : number ∷ (code ++ least.has.occurs.hit) ≡ t.taken.number ∷ (t.taken.code ++ t.taken.hit)
      taken_whole = sym whole ∙ t.taken.whole

      taken_number : t.taken.number ≡ number
      taken_number = (let e = taken_whole in cc)

      taken_code : t.taken.code ≡ code
      taken_code = one_code query code least.has.occurs.hit t.taken.code t.taken.hit is_code (code_of_valid query t.taken.code valid) (let e = taken_whole in cc)
        where
          pair : IsPairOf rows query (t.taken.number ∷ t.taken.code)
          pair = pair_of (t.taken.number ∷ t.taken.code) (t.begun.each (t.taken.number ∷ t.taken.code) begun_here).of

          same : pair.code ≡ t.taken.code
          same = (let e : t.taken.number ∷ t.taken.code ≡ pair.number ∷ pair.code = pair.is in cc)

          valid : IsValid query t.taken.code
          valid = subst (IsValid query) same pair.covered.covered.valid

      own_pair : Holds t.begun.begun (number ∷ code)
      own_pair = subst (λ (zs : List ℕ). Holds t.begun.begun zs) (ap (λ (n : ℕ). n ∷ t.taken.code) taken_number ∙ ap (λ (zs : List ℕ). number ∷ zs) taken_code) begun_here

      placed : new.from ≡ number ∷ (code ++ 0 ∷ [])
      placed = t.taken.placed ∙ ap (λ (n : ℕ). n ∷ (t.taken.code ++ 0 ∷ [])) taken_number ∙ ap (λ (zs : List ℕ). number ∷ (zs ++ 0 ∷ [])) taken_code

      -- each pair that was begun has a code up to the least
      to_least : (pair : List ℕ) → Holds t.begun.begun pair → IsPairLeft left.rows left.query left.place pair → IsPairToLeast (IsHeldIn rows) query pair
      to_least pair held is = record {
        number = of.number;
        mol = of.mol;
        screen = of.covered.screen;
        code = of.code;
        held = of.held;
        shows = of.covered.shows;
        covered = of.covered.covered;
        up_to = up_to under;
        whole = of.is;
      }
        where
          of : IsPairOf rows query pair
          of = pair_of pair is.of

          up : next ≤ of.number
          up = number_up of.number of.code (subst (λ (zs : List ℕ). IsBelow zs left.from → ⊥) of.is (t.begun.from_is pair held))

          under : IsBelow (of.number ∷ of.code) (number ∷ (code ++ 0 ∷ []))
          under = subst (λ (zs : List ℕ). IsBelow (of.number ∷ of.code) zs) placed (subst (λ (zs : List ℕ). IsBelow zs new.from) of.is (t.begun.to_is pair held))

          up_to : IsBelow (of.number ∷ of.code) (number ∷ (code ++ 0 ∷ [])) → (other : List ℕ) → IsLeastCode query of.mol other → IsBelow other of.code → ⊥
          up_to (inl less) other its below = none_between of.number of.mol other up less of.held its.has
          up_to (inr g) other its below =
              none_before_place_behind code of.code
              (subst (λ (zs : List ℕ). IsBelow zs of.code) (same_code of.number of.mol other g.0 of.held its) below) g.1

      begun_now : Begun (IsPairToLeast (IsHeldIn rows) query) left.from new.from now after
      begun_now = begun_same (IsPairLeft left.rows left.query left.place) (IsPairToLeast (IsHeldIn rows) query) left.from new.from now after t.begun to_least

      -- ---- the rows

      own_row : IsRow (IsHeldIn rows) query (numbers_of_row row)
      own_row = record {
        number = number;
        mol = least.has.mol;
        code = code;
        members = row.members;
        held = least.has.held;
        least = is_least;
        are_members = (made number code least.has.occurs.hit is_code whole).1;
        whole = ap (λ (n : ℕ). n ∷ row.members) (made number code least.has.occurs.hit is_code whole).0;
      }

      listed_more : IsRisingListOfAll (IsRowBelow (number + 1)) (table ++ numbers_of_row row ∷ [])
      unfolding own_row
      listed_more = record {
        rises = rises_append table (numbers_of_row row ∷ []) h.so_far.listed.rises (tt, tt)
            (holds_each (λ x. Each (λ y. IsBelow x y) (numbers_of_row row ∷ [])) table (λ x held. (below_own x held, tt)));
        each = λ xs held. elim (holds_either table (numbers_of_row row ∷ []) xs held) [
          | inl early ↦ (let one = h.so_far.listed.each xs early in record { is = one.is; below = omega (arith, one.below, number_from) })
          | inr (inl same) ↦ subst (IsRowBelow (number + 1)) same (record { is = own_row; below = omega arith })
          | inr (inr none) ↦ absurd none
        ];
        all = λ xs is. holds_append table (numbers_of_row row ∷ []) xs (by_number xs is);
      }
        where
          below_own : (xs : List ℕ) → Holds table xs → IsBelow xs (numbers_of_row row)
          below_own xs held =
              let one = h.so_far.listed.each xs held in
              subst (λ (zs : List ℕ). IsBelow zs (numbers_of_row row)) (sym one.is.whole)
              (subst (λ (zs : List ℕ). IsBelow (one.is.number ∷ one.is.members) zs) (sym own_row.whole) (inl (omega (arith, one.below, number_from))))

          by_number : (xs : List ℕ) → IsRowBelow (number + 1) xs → Holds table xs ⊎ Holds (numbers_of_row row ∷ []) xs
          by_number xs is =
              elim (cases_lt is.is.number next) [
                | inl early ↦ inl (h.so_far.listed.all xs (record { is = is.is; below = early }))
                | inr late ↦ elim (cases_lt is.is.number number) [
                  | inl less ↦ absurd (none_between is.is.number is.is.mol is.is.code late less is.is.held is.is.least.has)
                  | inr more ↦ inr
                      (inl (one_row (IsHeldIn rows) query alone (numbers_of_row row) xs own_row is.is (omega (arith, more, is.below))))
                ]
              ]

      pub rows_more : HasRowsBelow (table ++ numbers_of_row row ∷ []) (first_number new.place + 1) before after
      unfolding begun_append begun_now begun_same
      rows_more = subst (λ (n : ℕ). HasRowsBelow (table ++ numbers_of_row row ∷ []) (n + 1) before after) (sym first_is) (record {
        listed = listed_more;
        to = new.from;
        begun = begun_append (IsPairToLeast (IsHeldIn rows) query) (0 ∷ []) h.so_far.to left.from new.from before now after h.so_far.begun
            (subst (λ (zs : List ℕ). IsBelow zs h.so_far.to → ⊥) (sym h.from) h.so_far.up) begun_now;
        up = λ below. above_placed (subst (λ (zs : List ℕ). IsBelow ((number + 1) ∷ []) zs) placed below);
        found = λ n mol other under held its. holds_append h.so_far.begun.begun t.begun.begun (n ∷ other) (elim (cases_lt n next) [
          | inl early ↦ inl (h.so_far.found n mol other early held its)
          | inr late ↦ elim (cases_lt n number) [
            | inl less ↦ absurd (none_between n mol other late less held its.has)
            | inr more ↦ inr (pair_at n mol other (omega (arith, more, under)) held its)
          ]
        ]);
      })
        where
          above_placed : IsBelow ((number + 1) ∷ []) (number ∷ (code ++ 0 ∷ [])) → ⊥
          above_placed (inl less) = omega (arith, less)
          above_placed (inr g) = omega (arith, g.0)

          pair_at : (n : ℕ) (mol : Molecule) (other : List ℕ) → n ≡ number → IsHeldIn rows n mol → IsLeastCode query mol other → Holds t.begun.begun (n ∷ other)
          pair_at n mol other same held its =
              subst (λ (zs : List ℕ). Holds t.begun.begun zs) (sym (ap (λ (m : ℕ). m ∷ other) same ∙ ap (λ (zs : List ℕ). number ∷ zs) (same_code n mol other same held its))) own_pair

      -- the search leaves the record
      pub rows_up : (above : HitsLeft) → GoesUp new above → HasRowsTo above (table ++ numbers_of_row row ∷ []) before after
      rows_up above up = record {
        rows_is = up.same.rows ∙ t.same.rows ∙ h.rows_is;
        query_is = up.same.query ∙ t.same.query ∙ h.query_is;
        short = subst (λ (zs : List ℕ). length zs ≤ 1) (sym up.place) (omega arith);
        from = up.from ∙ ap (λ (zs : List ℕ). first_number zs ∷ []) (sym up.place);
        so_far = subst (λ (zs : List ℕ). HasRowsBelow (table ++ numbers_of_row row ∷ []) (first_number zs) before after) (sym up.place) rows_more;
      }

  -- ---- the end

  -- where no record from a number on has a hit, the rows below it are all
  rows_end : (table : List TableRow) (next before now : ℕ) → HasRowsBelow (map numbers_of_row table) next before now
      → ((n : ℕ) (mol : Molecule) (code : List ℕ) → next ≤ n → IsHeldIn rows n mol → HasHit query mol code → ⊥)
      → IsRGroupTable (IsHeldIn rows) query table
  rows_end table next before now h none = record {
    rises = h.listed.rises;
    each = λ xs held. (h.listed.each xs held).is;
    all = λ xs is. h.listed.all xs (record { is = is; below = elim (cases_lt is.number next) [ inl less ↦ less | inr up ↦ absurd (none is.number is.mol is.code up is.held is.least.has) ] });
  }

  -- and so is what was begun
  begins_end : (from to : List ℕ) (next before now : ℕ) (b : Begun (IsPairToLeast (IsHeldIn rows) query) from to before now)
      → ((n : ℕ) (mol : Molecule) (code : List ℕ) → n < next → IsHeldIn rows n mol → IsLeastCode query mol code → Holds b.begun (n ∷ code))
      → ((n : ℕ) (mol : Molecule) (code : List ℕ) → next ≤ n → IsHeldIn rows n mol → HasHit query mol code → ⊥)
      → BeginsOfTable (IsHeldIn rows) query before now
  begins_end from to next before now b found none = record {
    pairs = b.begun;
    rises = b.rise;
    each = holds_each (IsPairToLeast (IsHeldIn rows) query) b.begun b.each;
    ticks = b.ticked;
    rows = λ n mol code held least. elim (cases_lt n next) [ inl less ↦ found n mol code less held least | inr up ↦ absurd (none n mol code up held least.has) ];
  }

  -- no number is held from one on
  module _ (table : List TableRow) (next before now : ℕ) (h : HasRowsBelow (map numbers_of_row table) next before now) (none : NoneFrom next rows) where
    no_hit : (n : ℕ) (mol : Molecule) (code : List ℕ) → next ≤ n → IsHeldIn rows n mol → HasHit query mol code → ⊥
    no_hit n mol code up held hit = (let yes' : holds n rows ≡ true = held_number rows n mol held in let no' : holds n rows ≡ false = none n up in absurd cc)

    pub rows_last : IsRGroupTable (IsHeldIn rows) query table
    rows_last = rows_end table next before now h no_hit

    pub begins_last : BeginsOfTable (IsHeldIn rows) query before now
    begins_last = begins_end (0 ∷ []) h.to next before now h.begun h.found no_hit

  -- no key is left
  module _ (left : HitsLeft) (table : List TableRow) (before now : ℕ) (h : HasRowsTo left (map numbers_of_row table) before now)
      (new : HitsLeft) (after : ℕ) (t : TakesNone left new now after) where
    none_left : (n : ℕ) (mol : Molecule) (code : List ℕ) → first_number left.place ≤ n → IsHeldIn rows n mol → HasHit query mol code → ⊥
    none_left n mol code up held hit =
        least_over left (map numbers_of_row table) before now h None t.none (n ∷ (code ++ hit.hit)) (key_of_hit (IsHeldIn rows) query n mol code held hit)
        (cut_at left.place h.short n (code ++ hit.hit) up)

    pub rows_all : IsRGroupTable (IsHeldIn rows) query table
    rows_all = rows_end table (first_number left.place) before now h.so_far none_left

    -- a pair that was begun is of a record that has no hit
    to_none : (pair : List ℕ) → Holds t.begun.begun pair → IsPairLeft left.rows left.query left.place pair → IsPairToLeast (IsHeldIn rows) query pair
    to_none pair held is =
        let of : IsPairOf rows query pair = pair_of left (map numbers_of_row table) before now h pair is.of in
        let up = number_up left (map numbers_of_row table) before now h of.number of.code (subst (λ (zs : List ℕ). IsBelow zs left.from → ⊥) of.is (t.begun.from_is pair held)) in
        record {
          number = of.number;
          mol = of.mol;
          screen = of.covered.screen;
          code = of.code;
          held = of.held;
          shows = of.covered.shows;
          covered = of.covered.covered;
          up_to = λ other its below. none_left of.number of.mol other up of.held its.has;
          whole = of.is;
        }

    pub begins_all : BeginsOfTable (IsHeldIn rows) query before after
    unfolding begun_append begun_same
    begins_all =
        begins_end (0 ∷ []) t.to (first_number left.place) before after
        (begun_append (IsPairToLeast (IsHeldIn rows) query) (0 ∷ []) h.so_far.to left.from t.to before now after h.so_far.begun
        (subst (λ (zs : List ℕ). IsBelow zs h.so_far.to → ⊥) (sym h.from) h.so_far.up)
        (begun_same (IsPairLeft left.rows left.query left.place) (IsPairToLeast (IsHeldIn rows) query) left.from t.to now after t.begun to_none))
        (λ n mol code under held least. holds_append h.so_far.begun.begun t.begun.begun (n ∷ code) (inl (h.so_far.found n mol code under held least)))
        none_left

  -- ---- the loop

  -- one row more in the table
  pushed : (P : List (List ℕ) → Type 0) (table : List TableRow) (row : TableRow) → P (map numbers_of_row table ++ numbers_of_row row ∷ []) → P (map numbers_of_row (table ++ row ∷ []))
  pushed P table row is = subst P (sym (map-append numbers_of_row table (row ∷ []))) is

  module _ (left : HitsLeft) (table : List TableRow) (before now : ℕ) (h : HasRowsTo left (map numbers_of_row table) before now)
      (new : HitsLeft) (key : List ℕ) (after : ℕ) (t : TakesKey left new now after key) (row : TableRow) (made : IsRowOfKey query key row) where
    pub goes_on : (above : HitsLeft) → GoesUp new above → HasRowsTo above (map numbers_of_row (table ++ row ∷ [])) before after
    goes_on above up =
        pushed (λ (lists : List (List ℕ)). HasRowsTo above lists before after) table row (rows_up left (map numbers_of_row table) before now h new key after t row made above up)

    all_below : HasRowsBelow (map numbers_of_row (table ++ row ∷ [])) (first_number new.place + 1) before after
    all_below =
        pushed (λ (lists : List (List ℕ)). HasRowsBelow lists (first_number new.place + 1) before after) table row (rows_more left (map numbers_of_row table) before now h new key after t row made)

    none_held : NoneFrom (first_number new.place + 1) new.rows → NoneFrom (first_number new.place + 1) rows
    none_held none = subst (λ (rs : List (Numbered Molecule)). NoneFrom (first_number new.place + 1) rs) (t.same.rows ∙ h.rows_is) none

    pub ends_table : NoneFrom (first_number new.place + 1) new.rows → IsRGroupTable (IsHeldIn rows) query (table ++ row ∷ [])
    ends_table none = rows_last (table ++ row ∷ []) (first_number new.place + 1) before after all_below (none_held none)

    pub ends_begins : NoneFrom (first_number new.place + 1) new.rows → BeginsOfTable (IsHeldIn rows) query before after
    ends_begins none = begins_last (table ++ row ∷ []) (first_number new.place + 1) before after all_below (none_held none)

-- what stands behind the first number of a list
pub behind_first : (key : List ℕ) (n : ℕ) (rest : List ℕ) → key ≡ n ∷ rest → take (length key - 1) (drop 1 key) ≡ rest
behind_first key n rest whole =
    subst (λ (zs : List ℕ). take (length zs - 1) (drop 1 zs) ≡ rest) (sym whole) (take_all (length (n ∷ rest) - 1) rest (omega arith))
