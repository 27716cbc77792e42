-- The numbers of the rows that have a bit are the posting of the bit.
--     posted_more      one row more
--     posted_is        all rows
use Rattle.std.proofs.Common.{◌≡◌, ◌≢◌, ℕ, zero, suc, ◌+◌, ◌*◌, ◌/◌, ◌%◌, ◌^◌, ◌<◌, ◌≤◌, inl, inr, true, false, eqb, List, [], ◌∷◌, ◌++◌, length, get_or, Some, Contains, refl, sym, ap, subst, ◌∙◌, arith, add-one}
use Rattle.std.specs.Prelude.{bit_and}
use Rattle.std.specs.Int.{bit_at}
use Rattle.std.specs.List.{AllByRecursion}
use Rattle.std.proofs.lemmas.Bool.{cases_Bool, cases_lt, eq-eqb, ne_eqb}
use Rattle.std.proofs.lemmas.Nat.Bits.{bit_at-lt, shr_and_one}
use Rattle.std.proofs.lemmas.List.{append-nil, get_or_default}
use Rattle.std.proofs.lemmas.List.Elements.{Contains-append_left, Contains-push, Contains-push_cases}
use Rattle.mk_model.specs.Molecules.{Molecule}
use Rattle.mk_model.proofs.ForCallers.{at_place}
use Rattle.mk_model.specs.declared.screen.Screen.{Screen}
use Rattle.mk_model.specs.Screens.{IsBitOf, has_bit, shown_by_mol}
use Rattle.mk_rows.specs.declared.by_number.Numbered.{Numbered}
use Rattle.mk_rows.specs.Rows.{IsRising, item_at}
use Rattle.mk_index.specs.Columns.{AreColumns, cell}
use Rattle.mk_index.specs.Posted.{number_at, posted_at, posted_by}
use Rattle.mk_index.specs.Postings.{AreRising, IsPosted, IsPosting}
use Rattle.mk_index.specs.Shelf.{AreScreens}
use Rattle.mk_index.proofs.BesideLemmas.{beside_at, beside_size}
use Rattle.mk_index.proofs.CountsLemmas.{rises_append}
use Rattle.mk_index.proofs.PostingsLemmas.{found_at, item_there, numbers_rise}

pub posted_none : (rows : List (Numbered Molecule)) (columns : List ℕ) (b : ℕ) → posted_by rows columns b 0 ≡ []
unfolding posted_by
posted_none rows columns b = refl

pub posted_more : (rows : List (Numbered Molecule)) (columns : List ℕ) (b n : ℕ) → posted_by rows columns b (n + 1) ≡ posted_by rows columns b n ++ posted_at rows columns b n
unfolding posted_by
posted_more rows columns b n = rw (add-one n) refl

-- the bit of a row, as the code reads it
module _ (rows : List (Numbered Molecule)) (columns : List ℕ) (b i : ℕ) (word : ℕ) (is : word ≡ get_or columns (i / 64 * 512 + b) 0) where
  read : bit_and (word / 2 ^ (i % 64)) 1 ≡ cell columns i b
  read = (let place : i / 64 * 512 + b ≡ 512 * (i / 64) + b = omega arith in shr_and_one word (i % 64) ∙ ap (λ n. bit_at n (i % 64)) (rw place at is))

  pub posted_unset : bit_and (word / 2 ^ (i % 64)) 1 ≡ 0 → posted_at rows columns b i ≡ []
  posted_unset none = (let unset : eqb (cell columns i b) 1 ≡ false = ne_eqb (cell columns i b) 1 (λ set. absurd (omega (arith, read))) in rw unset refl)

  pub posted_set : (row : Numbered Molecule) → i < length rows → bit_and (word / 2 ^ (i % 64)) 1 ≢ 0 → row ≡ get_or rows i row → posted_at rows columns b i ≡ row.number ∷ []
  posted_set row within some at =
      let set : eqb (cell columns i b) 1 ≡ true = eq-eqb (cell columns i b) 1 (omega (arith, sym read, bit_at-lt (get_or columns (512 * (i / 64) + b) 0) (i % 64))) in
      rw (set, at_place rows i row within, sym at) refl

module _ (rows : List (Numbered Molecule)) (screens : List Screen) (columns : List ℕ) (b : ℕ) (below : b < 512)
    (rising : IsRising rows) (beside : AreScreens rows screens) (are : AreColumns screens columns) where
  -- a row before a place that has the bit, under this number
  record IsBefore (n number : ℕ) : Type 0 where
    place : ℕ
    before : place < n
    within : place < length rows
    is : (d : Numbered Molecule) → (get_or rows place d).number ≡ number
    set : eqb (cell columns place b) 1 ≡ true

  -- the numbers of the rows before a place that have the bit
  record IsPostedTo (n : ℕ) (numbers : List ℕ) : Type 0 where
    rises : AreRising numbers
    each : (number : ℕ) → Contains numbers number → IsBefore n number
    all : (number : ℕ) → IsBefore n number → Contains numbers number

  one_row : (row : Numbered Molecule) (n : ℕ) → n < length rows → number_at rows n ≡ (get_or rows n row).number ∷ []
  one_row row n within = rw (at_place rows n row within) refl

  -- each of the numbers is below that of a later row
  each_below : (row : Numbered Molecule) (n : ℕ) (numbers : List ℕ) → n < length rows
      → ((number : ℕ) → Contains numbers number → IsBefore n number)
      → AllByRecursion (λ number. number < (get_or rows n row).number) numbers
  each_below row n [] within each = tt
  each_below row n (number ∷ numbers) within each =
      let first = each number (0, omega arith, refl) in
      let less = numbers_rise rows rising first.place n row first.before within in (
        omega (arith, first.is row),
        each_below row n numbers within (λ other has. each other (suc has.0, (let lt = has.1 in omega arith), has.2)),
      )

  to_more : (row : Numbered Molecule) (n : ℕ) (numbers : List ℕ) → n < length rows → IsPostedTo n numbers → IsPostedTo (n + 1) (numbers ++ posted_at rows columns b n)
  to_more row n numbers within is = elim (cases_Bool (eqb (cell columns n b) 1)) [
    | inl set ↦ rw (set, one_row row n within) (record {
      rises = rises_append (get_or rows n row).number numbers ((get_or rows n row).number ∷ []) (each_below row n numbers within is.each) (omega arith, tt) is.rises (tt, tt);
      each = λ number has. (elim (Contains-push_cases numbers (get_or rows n row).number number has) [
        | inl earlier ↦ (let before = is.each number earlier
            in record {
              place = before.place;
              before = (let lt = before.before in omega arith);
              within = before.within;
              is = before.is;
              set = before.set;
            })
        | inr last ↦ record { place = n; before = omega arith; within = within; is = λ d. ap (λ (r : Numbered Molecule). r.number) (get_or_default rows n d row within) ∙ last; set = set }
      ]);
      all = λ number before. (elim (cases_lt before.place n) [
        | inl earlier ↦ Contains-append_left numbers ((get_or rows n row).number ∷ []) number
            (is.all number (record {
              place = before.place;
              before = earlier;
              within = before.within;
              is = before.is;
              set = before.set;
            }))
        | inr last ↦ (let lt = before.before in let same : before.place ≡ n = omega arith
            in let number_is : (get_or rows n row).number ≡ number = rw same at (before.is row) in
            subst (Contains (numbers ++ (get_or rows n row).number ∷ [])) number_is
            (Contains-push numbers (get_or rows n row).number))
      ]);
    })
    | inr unset ↦ rw (unset, append-nil numbers) (record {
      rises = is.rises;
      each = λ number has. (let before = is.each number has
          in record {
            place = before.place;
            before = (let lt = before.before in omega arith);
            within = before.within;
            is = before.is;
            set = before.set;
          });
      all = λ number before. (elim (cases_lt before.place n) [
        | inl earlier ↦ is.all number (record { place = before.place; before = earlier; within = before.within; is = before.is; set = before.set })
        | inr last ↦ (let lt = before.before in let same : before.place ≡ n = omega arith in let set = rw same at before.set in absurd (let no = unset in cc))
      ]);
    })
  ]

  no_row : Numbered Molecule
  no_row = record { number = 0; item = record { written = 0; atoms = []; bonds = [] } }

  to_all : (n : ℕ) → n ≤ length rows → IsPostedTo n (posted_by rows columns b n)
  unfolding posted_by
  to_all zero within = record {
    rises = tt;
    each = λ number has. absurd (let lt = has.1 in omega arith);
    all = λ number before. absurd (let lt = before.before in omega arith);
  }
  to_all (suc n) within = rw (sym (add-one n)) (to_more no_row n (posted_by rows columns b n) (omega arith) (to_all n (omega arith)))

  -- all rows
  pub posted_is : IsPosting rows b (posted_by rows columns b (length rows))
  posted_is =
      let is = to_all (length rows) (omega arith) in
      record {
        rises = is.rises;
        each = λ number. ((λ has. to_posted number (is.each number has)), (λ posted. is.all number (from_posted number posted)));
      }
    where
      to_posted : (number : ℕ) → IsBefore (length rows) number → IsPosted rows b number
      to_posted number before =
          let row = get_or rows before.place no_row in
          let screen : Screen = record { counts = []; bits = [] } in
          let held : item_at number rows ≡ Some row.item = rw (before.is no_row) at (item_there rows rising before.place no_row before.within) in
          let there : before.place < length screens = (let within = before.within in omega (arith, beside_size rows screens beside)) in
          let set : has_bit (get_or screens before.place screen).bits b ≡ true = sym (are.cells before.place b screen there below) ∙ before.set in
          (row.item, held, ((beside_at rows screens beside before.place no_row screen before.within).bits b below).0 set)

      from_posted : (number : ℕ) → IsPosted rows b number → IsBefore (length rows) number
      from_posted number posted =
          let row = found_at rows number posted.0 posted.1 in
          let screen : Screen = record { counts = []; bits = [] } in
          let there : row.place < length screens = (let within = row.within in omega (arith, beside_size rows screens beside)) in
          let bit : IsBitOf (shown_by_mol (get_or rows row.place no_row).item) b = subst (λ (m : Molecule). IsBitOf (shown_by_mol m) b) (sym (row.item_is no_row)) posted.2 in
          record {
            place = row.place;
            before = row.within;
            within = row.within;
            is = row.number;
            set = are.cells row.place b screen there below ∙ ((beside_at rows screens beside row.place no_row screen row.within).bits b below).1 bit;
          }
