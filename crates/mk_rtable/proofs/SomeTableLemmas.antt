-- A query has a table.
--     some_rows       the rows from a number on
--     some_table      all rows
use Rattle.std.proofs.Common.{◌≡◌, ℕ, zero, suc, ◌+◌, ◌≤◌, inl, inr, List, [], ◌∷◌, ◌++◌, length, length-append, map, refl, sym, ap, ◌∙◌, subst, arith}
use Rattle.std.proofs.lemmas.Bool.{cases_lt}
use Rattle.mk_text.specs.Rising.{Holds, IsBelow, IsCutAt, IsLeast, IsRisingListOfAll}
use Rattle.mk_text.proofs.ForCallers.{below_through, each_holds, holds_append, holds_each, holds_either, not_below_itself, rising_from_place}
use Rattle.mk_model.specs.Keys.{IsKey}
use Rattle.mk_model.specs.Molecules.{Molecule}
use Rattle.mk_model.specs.Queries.{QueryView}
use Rattle.mk_model.specs.QueryFits.{QueryFits}
use Rattle.mk_model.proofs.ForCallers.{code_of_valid}
use Rattle.mk_rows.specs.declared.by_number.Numbered.{Numbered}
use Rattle.mk_search.specs.Pages.{IsHeldIn}
use Rattle.mk_search.proofs.ForCallers.{keys_listed}
use Rattle.mk_rtable.specs.declared.rows.TableRow.{TableRow}
use Rattle.mk_rtable.specs.Members.{chosen_members}
use Rattle.mk_rtable.specs.Table.{IsRow, IsRGroupTable, numbers_of_row}
use Rattle.mk_rtable.proofs.RecordsLemmas.{alone, cut_at}
use Rattle.mk_rtable.proofs.TableLemmas.{key_of_hit, least_code, none_below, one_row}

module _ (rows : List (Numbered Molecule)) (query : QueryView) where
  -- a key of a record from a number on
  record IsKeyUp (next : ℕ) (key : List ℕ) : Type 0 where
    is : IsKey (IsHeldIn rows) query key
    up : next ≤ is.number

  -- the row of a record from a number on
  record IsRowUp (next : ℕ) (row : List ℕ) : Type 0 where
    is : IsRow (IsHeldIn rows) query row
    up : next ≤ is.number

  -- the rows from a number on, in a table
  record HasRowsUp (next : ℕ) : Type 0 where
    table : List TableRow
    listed : IsRisingListOfAll (IsRowUp next) (map numbers_of_row table)

  -- a key that isn't below a number is of a record from there on
  key_up : (next : ℕ) (key : List ℕ) (k : IsKey (IsHeldIn rows) query key) → (IsBelow key (next ∷ []) → ⊥) → next ≤ k.number
  key_up next key k not =
      elim (cases_lt k.number next) [
        | inl less ↦ absurd (not (subst (λ (zs : List ℕ). IsBelow zs (next ∷ [])) (sym k.whole) (inl less)))
        | inr up ↦ up
      ]

  -- and the other way round
  not_under : (next : ℕ) (key : List ℕ) → IsKeyUp next key → IsBelow key (next ∷ []) → ⊥
  not_under next key k below = cut_at (next ∷ []) (omega arith) k.is.number k.is.numbers k.up (subst (λ (zs : List ℕ). IsBelow zs (next ∷ [])) k.is.whole below)

  -- no key is left
  rows_of_none : (next : ℕ) → IsRisingListOfAll (IsKeyUp next) [] → HasRowsUp next
  unfolding key_of_hit
  rows_of_none next none = record {
    table = [];
    listed = record {
      rises = tt;
      each = λ xs held. absurd held;
      all = λ xs is. none.all (is.is.number ∷ (is.is.code ++ is.is.least.has.hit))
          (record { is = key_of_hit (IsHeldIn rows) query is.is.number is.is.mol is.is.code is.is.held is.is.least.has; up = is.up });
    };
  }

  -- the first key makes a row, and the keys of the records above it make the others
  module _ (next : ℕ) (key : List ℕ) (others : List (List ℕ)) (keys : IsRisingListOfAll (IsKeyUp next) (key ∷ others)) where
    first : IsKeyUp next key
    first = keys.each key (inl refl)

    least : IsLeast (next ∷ []) (IsKey (IsHeldIn rows) query) key
    least = record {
      has = first.is;
      from = not_under next key first;
      least = λ other k not below. elim (keys.all other (record { is = k; up = key_up next other k not })) [
        | inl same ↦ not_below_itself key (subst (λ (zs : List ℕ). IsBelow zs key) (sym same) below)
        | inr later ↦ not_below_itself key (below_through key other key (each_holds (λ ys. IsBelow key ys) others other keys.rises.0 later) below)
      ];
    }

    abbrev number : ℕ
    number = first.is.number

    cut : (n : ℕ) (numbers : List ℕ) → next ≤ n → IsBelow (n ∷ numbers) (next ∷ []) → ⊥
    cut = cut_at (next ∷ []) (omega arith)

    abbrev row : TableRow
    row = record { number = number; members = chosen_members (code_of_valid query first.is.occurs.code first.is.occurs.valid).choice }

    own_row : IsRow (IsHeldIn rows) query (numbers_of_row row)
    unfolding least first
    own_row = record {
      number = number;
      mol = first.is.mol;
      code = first.is.occurs.code;
      members = chosen_members (code_of_valid query first.is.occurs.code first.is.occurs.valid).choice;
      held = first.is.held;
      least = least_code (IsHeldIn rows) query (next ∷ []) next cut key least first.up;
      are_members = record { of = code_of_valid query first.is.occurs.code first.is.occurs.valid; are = refl };
      whole = refl;
    }

    -- the keys of the records above
    parts : (front : List (List ℕ)) × (back : List (List ℕ)) × IsCutAt ((number + 1) ∷ []) others front back
    parts = rising_from_place ((number + 1) ∷ []) others keys.rises.1

    back_listed : IsRisingListOfAll (IsKeyUp (number + 1)) parts.1
    back_listed = record {
      rises = parts.2.rises;
      each = λ xs held.
          (let k = keys.each xs (inr (in_others xs held)) in
          record { is = k.is; up = key_up (number + 1) xs k.is (each_holds (λ ys. IsBelow ys ((number + 1) ∷ []) → ⊥) parts.1 xs parts.2.not_below held) });
      all = λ xs k. later xs k (keys.all xs (record { is = k.is; up = omega (arith, k.up, first.up) }));
    }
      where
        in_others : (xs : List ℕ) → Holds parts.1 xs → Holds others xs
        in_others xs held = subst (λ (lists : List (List ℕ)). Holds lists xs) (sym parts.2.whole) (holds_append parts.0 parts.1 xs (inr held))

        later : (xs : List ℕ) → IsKeyUp (number + 1) xs → Holds (key ∷ others) xs → Holds parts.1 xs
        later xs k (inl same) =
            absurd
            (let whole : number ∷ first.is.numbers ≡ k.is.number ∷ k.is.numbers = sym first.is.whole ∙ same ∙ k.is.whole in
            let one : number ≡ k.is.number = cc in
            omega (arith, one, k.up))
        later xs k (inr held) =
            elim (holds_either parts.0 parts.1 xs (subst (λ (lists : List (List ℕ)). Holds lists xs) parts.2.whole held)) [
              | inl early ↦ absurd (not_under (number + 1) xs k (each_holds (λ ys. IsBelow ys ((number + 1) ∷ [])) parts.0 xs parts.2.below early))
              | inr late ↦ late
            ]

    fewer : length parts.1 ≤ length others
    fewer = (let whole = ap length parts.2.whole in omega (arith, whole, length-append parts.0 parts.1))

    rows_of_key : HasRowsUp (number + 1) → HasRowsUp next
    unfolding least first own_row
    rows_of_key above = record {
      table = row ∷ above.table;
      listed = record {
        rises = (holds_each (λ ys. IsBelow (numbers_of_row row) ys) (map numbers_of_row above.table) below_later, above.listed.rises);
        each = λ xs held. elim held [
          | inl same ↦ subst (IsRowUp next) same (record { is = own_row; up = first.up })
          | inr later ↦ (let one = above.listed.each xs later in record { is = one.is; up = omega (arith, one.up, first.up) })
        ];
        all = λ xs is. by_number xs is;
      };
    }
      where
        below_later : (ys : List ℕ) → Holds (map numbers_of_row above.table) ys → IsBelow (numbers_of_row row) ys
        below_later ys held =
            let one = above.listed.each ys held in
            subst (λ (zs : List ℕ). IsBelow (numbers_of_row row) zs) (sym one.is.whole) (inl (omega (arith, one.up)))

        by_number : (xs : List ℕ) → IsRowUp next xs → Holds (numbers_of_row row ∷ map numbers_of_row above.table) xs
        by_number xs is =
            elim (cases_lt number is.is.number) [
              | inl over ↦ inr (above.listed.all xs (record { is = is.is; up = omega (arith, over) }))
              | inr most ↦ elim (cases_lt is.is.number number) [
                | inl less ↦ absurd (none_below (IsHeldIn rows) query (next ∷ []) next cut key least is.is.number is.is.mol is.is.code is.up less is.is.held is.is.least.has)
                | inr more ↦ inl (one_row (IsHeldIn rows) query (alone rows query) (numbers_of_row row) xs own_row is.is (omega (arith, most, more)))
              ]
            ]

  -- from keys, of which there are at most so many
  some_rows : (most next : ℕ) (keys : List (List ℕ)) → length keys ≤ most → IsRisingListOfAll (IsKeyUp next) keys → HasRowsUp next
  some_rows most next [] few listed = rows_of_none next listed
  some_rows zero next (key ∷ others) few listed = absurd (omega (arith, few))
  some_rows (suc most) next (key ∷ others) few listed =
      rows_of_key next key others listed
      (some_rows most (number next key others listed + 1) (parts next key others listed).1 (omega (arith, few, fewer next key others listed)) (back_listed next key others listed))

  pub some_table : QueryFits query → (table : List TableRow) × IsRGroupTable (IsHeldIn rows) query table
  some_table fits =
      let keys = keys_listed rows query [] fits in
      let up : IsRisingListOfAll (IsKeyUp 0) keys.0 = record {
        rises = keys.1.rises;
        each = λ xs held. (let k = (keys.1.each xs held).0 in record { is = k; up = omega arith });
        all = λ xs k. keys.1.all xs (k.is, λ below. below);
      } in
      let all = some_rows (length keys.0) 0 keys.0 (omega arith) up in (
        all.table,
        record {
          rises = all.listed.rises;
          each = λ xs held. (all.listed.each xs held).is;
          all = λ xs is. all.listed.all xs (record { is = is; up = omega arith });
        },
      )
