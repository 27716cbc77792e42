-- The definitions on a few lines, by hand: the bad line and the name of a line of the forms of specs/Examples.antt.
use Rattle.std.proofs.Common.{◌≡◌, ℕ, true, false, None, List, [], ◌∷◌, suc, length, refl, arith, eqb-true}
use Rattle.std.specs.Prelude.{nat_eq, nat_lt}
use Rattle.std.proofs.lemmas.Bool.{ne_eqb}
use Rattle.mk_form.specs.Fronts.{IsFront, IsBadLineOfPart, IsBadLineOfPartWhere, IsPart, IsNamed, IsBadLine}
use Rattle.mk_form.specs.Exact.{Exact, Anything, NoLines}
use Rattle.mk_form.specs.InWords.{plain}
use Rattle.mk_form.specs.ToEnd.{lines_to_end}
use Rattle.mk_form.specs.Examples.{digit, says, is_end, counted, three_of, three}
use Rattle.mk_form.proofs.Lines.{exact-line, exact-counts_line}
use Rattle.mk_form.proofs.Sequence.{exact-sequence}
use Rattle.mk_form.proofs.Rows.{exact-rows}
use Rattle.mk_form.proofs.ToEnd.{exact-lines_to_end}
use Rattle.mk_form.proofs.Joined.{exact-joined}
use Rattle.mk_form.proofs.Fronts.{completes-line, completes-counts_line, completes-sequence, completes-rows, completes-lines_to_end, exact-plain}
use Rattle.mk_form.proofs.Stops.{bad_line_is_stop, bad_line_of_part_is_stop, part_is_taken, named_is_due}

-- a line that says its name is no digit
not_digit : (l : ℕ) → says l ≡ true → digit l ≡ None
not_digit l h = let k : l ≡ 30 = eqb-true l 30 h in rw k refl

-- a count and its rows are read exactly, and what is live are fronts
counted_exact : Exact says Anything (plain counted)
counted_exact =
    exact-plain (exact-sequence (exact-counts_line says digit not_digit) (λ n. exact-rows n (exact-line digit)))
    (completes-sequence (completes-counts_line says digit 0 0 refl) (λ n. completes-rows n (completes-line digit 0 0 refl)))

-- the first three lines are a count of two and two rows
first_three : IsPart counted.is (2 ∷ 5 ∷ 6 ∷ 7 ∷ []) 3 (5 ∷ 6 ∷ [])
first_three = (part_is_taken counted_exact (2 ∷ 5 ∷ 6 ∷ 7 ∷ []) 3 (5 ∷ 6 ∷ [])).1 (record { within = omega arith; took = refl })

-- the second row doesn't fit
third_is_bad : IsBadLineOfPart counted.is (2 ∷ 5 ∷ 99 ∷ []) 3
third_is_bad = (bad_line_of_part_is_stop counted_exact (2 ∷ 5 ∷ 99 ∷ []) 3).1 (false, record { counted = (omega arith, omega arith); stop = refl })

-- the second row is missing, and the line behind the last is bad
third_is_missing : IsBadLineOfPart counted.is (2 ∷ 5 ∷ []) 3
third_is_missing = (bad_line_of_part_is_stop counted_exact (2 ∷ 5 ∷ []) 3).1 (false, record { counted = (omega arith, omega arith); stop = refl })

-- the first line says its name where the count is due
first_is_named : IsNamed counted.due says (30 ∷ 5 ∷ []) 1
first_is_named = (named_is_due counted_exact (30 ∷ 5 ∷ []) 1).1 (record { counted = (omega arith, omega arith); stop = refl })

-- lines that are all ends are read exactly, and what is live are fronts
ends_exact : Exact says NoLines (plain (lines_to_end is_end))
ends_exact = exact-plain (exact-lines_to_end is_end) (completes-lines_to_end is_end)

-- the second of three lines is no end
second_is_bad : IsBadLine (lines_to_end is_end).is (99 ∷ 5 ∷ 99 ∷ []) 2
second_is_bad = (bad_line_is_stop ends_exact (99 ∷ 5 ∷ 99 ∷ []) 2).1 (false, record { counted = (omega arith, omega arith); stop = refl })

-- ---- several lines as one: what is live is more than the fronts

-- four lines and more are not three
too_many : (more : List ℕ) → nat_eq (length (4 ∷ 4 ∷ 4 ∷ 4 ∷ more)) 3 ≡ false
too_many more =
    let four : length (4 ∷ 4 ∷ 4 ∷ 4 ∷ more) ≡ suc (suc (suc (suc (length more)))) = refl in
    ne_eqb (length (4 ∷ 4 ∷ 4 ∷ 4 ∷ more)) 3 (λ e. omega (arith, e, four))

-- lines that aren't three spell nothing
no_three : (xs : List ℕ) → nat_eq (length xs) 3 ≡ false → three_of xs ≡ None
no_three xs h = rw h refl

-- no further line makes them three
no_front : IsFront three.is (4 ∷ 4 ∷ 4 ∷ 4 ∷ []) → ⊥
no_front h =
    let none : three_of (4 ∷ 4 ∷ 4 ∷ 4 ∷ h.0) ≡ None = no_three (4 ∷ 4 ∷ 4 ∷ 4 ∷ h.0) (too_many h.0) in
    let some = h.2.spells in
    cc

-- yet the bad line is the one behind them, since the text is cut inside the lines that are one
fifth_is_bad : IsBadLineOfPartWhere three.live three.is (4 ∷ 4 ∷ 4 ∷ 4 ∷ []) 5
fifth_is_bad =
    (bad_line_of_part_is_stop (exact-joined {says = says} (λ l. nat_lt l 5) (λ l. nat_lt l 10) three_of) (4 ∷ 4 ∷ 4 ∷ 4 ∷ []) 5).1
    (false, record { counted = (omega arith, omega arith); stop = refl })
