-- Drilled molecules loaded one after the other.
--     AreLoaded start n library state     the library holds the first n, and the next is drilled from the state
use Rattle.std.proofs.Common.{[], ◌∷◌, ◌++◌, ◌≡◌, ℕ, ◌+◌, ◌*◌, ◌-◌, List, length, arith, refl, sym, ap, ◌∙◌}
use Rattle.std.proofs.lemmas.List.FromFn.{length-map-range_with_len, map-range_with_len_more}
use Rattle.mk_outside.specs.declared.tables.RecordRow.{RecordRow}
use Rattle.mk_tables.specs.declared.raw.RawTable.{RawTable}
use Rattle.mk_library.specs.Library.{LibraryView}
use Rattle.mk_drill.specs.Draws.{drilled_table, state_behind, state_for}
use Rattle.mk_drill.specs.DrilledRecords.{IsCounted, drilled_record, drilled_records, next_record, record_text}
use Rattle.mk_drill.proofs.DrawsLemmas.{states_joined}

pub record AreLoaded (start n : ℕ) (library : LibraryView) (state : ℕ) : Type 0 where
  pub records : library.records ≡ drilled_records start n
  pub counted : IsCounted library
  pub state_is : state ≡ state_behind (6 * n) start

-- how many there are
pub count : (start n : ℕ) (library : LibraryView) (state : ℕ) → AreLoaded start n library state → length library.records ≡ n
count start n library state are = ap length are.records ∙ length-map-range_with_len (drilled_record start) 1 n

pub loaded_none : (start : ℕ) (library : LibraryView) → library.records ≡ [] → library.next_record ≡ 1 → AreLoaded start 0 library start
loaded_none start library none first = record {
  records = none;
  counted = record {
    counted = omega (arith, first, ap length none);
    below = rw none tt;
    short = rw none (omega arith);
  };
  state_is = refl;
}

-- the next record is that of the next molecule
next_is : (start n : ℕ) (library : LibraryView) (table : RawTable) (state : ℕ) → AreLoaded start n library state
    → table ≡ drilled_table state → next_record library table ≡ drilled_record start (1 + n)
unfolding drilled_record state_for
next_is start n library table state are drilled =
    let number : library.next_record ≡ 1 + n = omega (arith, are.counted.counted, count start n library state are) in
    let place : (1 + n) - 1 ≡ n = omega arith in
    ap (λ (m : ℕ). record { number = m; text = record_text table }) number
    ∙ ap (λ (t : RawTable). record { number = 1 + n; text = record_text t }) (drilled ∙ ap drilled_table (are.state_is ∙ ap (λ k. state_behind (6 * k) start) (sym place)))

-- one molecule more
pub loaded_more : (start n : ℕ) (library after : LibraryView) (table : RawTable) (state next : ℕ) → AreLoaded start n library state → table ≡ drilled_table state → next ≡ state_behind 6 state
    → after.records ≡ library.records ++ next_record library table ∷ [] → IsCounted after → AreLoaded start (n + 1) after next
loaded_more start n library after table state next are drilled moved put counted = record {
  records =
      put ∙ ap (λ (row : RecordRow). library.records ++ row ∷ []) (next_is start n library table state are drilled)
      ∙ ap (λ (rows : List RecordRow). rows ++ drilled_record start (1 + n) ∷ []) are.records
      ∙ sym (map-range_with_len_more (drilled_record start) 1 n (1 + n) refl);
  counted = counted;
  state_is =
      moved ∙ ap (state_behind 6) are.state_is ∙ sym (states_joined (6 * n) 6 start)
      ∙ ap (λ k. state_behind k start) (let six : 6 * n + 6 ≡ 6 * (n + 1) = omega arith in six);
}
