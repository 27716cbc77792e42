use Rattle.std.proofs.Common.{◌≡◌, ◌+◌, ◌≤◌, ◌<◌, ◌++◌, ◌∙◌, sym, ap, length, rules, List, SFits, arith, w32, to_z-of_z}
use Rattle.std.proofs.Math.Facts.{to_z_pos}
use Rattle.std.specs.Prelude.{ℤ}
use Rattle.mk_v3000.specs.Indexes.{numbers_from}
use Rattle.mk_v3000.specs.Twin.{place_from}
use Rattle.mk_v3000.proofs.IndexLemmas.{size_is, place_by_count, place_by_list, place_by_none}
use Rattle.mk_v3000.proofs.indexes.Indexes.place_of.Goals as goal
use Rattle.mk_v3000.proofs.indexes.Indexes.place_of.Goals.{In-Some}

few : (c : In-Some) → c.self.inside.counted + c.in-Some.at + 1 ≤ 999
few c =
    let shown : length (numbers_from 1 c.self.inside.counted ++ c.self.inside.others.keys) ≡ length c.args.self.now = ap length c.self.view_is in
    let within : c.in-Some.at < length c.self.inside.others.keys = c.in-Some.ensures.within in
    omega (arith, shown, size_is c.self.inside.counted c.self.inside.others.keys, c.requires, within)

pub returns-then-is_counted : goal.returns-then-is_counted
returns-then-is_counted c =
    let fits : SFits w32 c.args.index = search rules in
    let test = rw (to_z-of_z fits) at c.is_counted.ensures in
    rw (to_z-of_z fits)
    (place_by_count c.self.inside.counted c.self.inside.others.keys c.args.index (sym test ∙ c.if-is_counted.true)
    ∙ ap (λ (xs : List ℤ). place_from 1 xs c.args.index) c.self.view_is)

pub overflow_add-result : goal.overflow_add-result
overflow_add-result c = omega (arith, few c)

pub overflow_add-result-in-Some : goal.overflow_add-result-in-Some
overflow_add-result-in-Some c = omega (arith, few c)

pub overflow_cast-result : goal.overflow_cast-result
overflow_cast-result c = omega (arith, few (goal.at.overflow_cast-result c).In-Some)

pub returns-in-Some : goal.returns-in-Some
returns-in-Some c =
    let fits : SFits w32 c.args.index = search rules in
    let test = rw (to_z-of_z fits) at c.is_counted.ensures in
    let found = rw (to_z-of_z fits) at c.in-Some.ensures.index in
    to_z_pos w32 (omega (arith, few (goal.at.returns-in-Some c).In-Some))
    ∙ place_by_list c.self.inside.counted c.self.inside.others.keys c.args.index (sym test ∙ c.if-is_counted.false) c.in-Some.at found
    ∙ ap (λ (xs : List ℤ). place_from 1 xs c.args.index) c.self.view_is

pub returns-in-None : goal.returns-in-None
returns-in-None c =
    let fits : SFits w32 c.args.index = search rules in
    let test = rw (to_z-of_z fits) at c.is_counted.ensures in
    let found = rw (to_z-of_z fits) at c.in-None.ensures.index in
    place_by_none c.self.inside.counted c.self.inside.others.keys c.args.index (sym test ∙ c.if-is_counted.false) found
    ∙ ap (λ (xs : List ℤ). place_from 1 xs c.args.index) c.self.view_is
