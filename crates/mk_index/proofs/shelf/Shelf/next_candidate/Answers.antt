use Rattle.std.proofs.Common.{◌<◌, ◌+◌, ℕ, length, Some, None, arith, subst, sym}
use Rattle.mk_model.specs.Molecules.{Molecule}
use Rattle.mk_rows.specs.Rows.{Rows, place_of}
use Rattle.mk_index.specs.Looking.{IsFirstFrom, LooksTo, NoneCovers}
use Rattle.mk_index.specs.Postings.{HaveScreens, IsNextCandidate, LooksFor, NoCandidate}
use Rattle.mk_index.proofs.BesideLemmas.{beside_size}
use Rattle.mk_index.proofs.PostingsLemmas.{have_screens, looks_found, looks_none, next_found, none_found}
use Rattle.mk_index.proofs.shelf.Shelf.next_candidate.Goals as goal

pub number_at-requires : goal.number_at-requires
number_at-requires g c =
    let first = rw c.as_slice.ensures.value at c.in-Some.ensures.some in
    let within = first.within in
    let less : c.in-Some.place < length c.self.inside.rows.rows = omega (arith, beside_size c.self.inside.rows.rows c.self.inside.screens.items c.self.invariant.beside) in
    less

pub returns-in-Some-clause-some : goal.returns-in-Some-clause-some
returns-in-Some-clause-some g c =
    let rows = c.self.inside.rows.rows in
    let first : IsFirstFrom c.self.inside.screens.items c.args.need.now (place_of c.args.from rows) c.in-Some.place =
    rw (c.as_slice.ensures.value, c.place-at.ensures.place) at c.in-Some.ensures.some in
    let is = next_found rows c.self.inside.screens.items c.args.need.now c.args.from c.place-at.ensures.rising c.self.invariant.beside c.in-Some.place first in
    subst (λ (m : Rows Molecule). IsNextCandidate m.rows c.args.need.now c.args.from c.number_at.result) c.self.view_is
    (subst (IsNextCandidate rows c.args.need.now c.args.from) (sym c.number_at.ensures.number) is)

pub returns-in-Some-clause-looks : goal.returns-in-Some-clause-looks
returns-in-Some-clause-looks g c =
    let rows = c.self.inside.rows.rows in
    let first : IsFirstFrom c.self.inside.screens.items c.args.need.now (place_of c.args.from rows) c.in-Some.place =
    rw (c.as_slice.ensures.value, c.place-at.ensures.place) at c.in-Some.ensures.some in
    let looks : LooksTo c.self.inside.screens.items c.args.need.now (place_of c.args.from rows) (c.in-Some.place + 1)
    c.args.looks.now c.next_place-found.new.looks =
    rw (c.as_slice.ensures.value, c.place-at.ensures.place) at c.in-Some.ensures.looks in
    let is = looks_found rows c.self.inside.screens.items c.args.need.now c.args.from c.place-at.ensures.rising
    c.self.invariant.beside c.in-Some.place c.args.looks.now c.next_place-found.new.looks first looks
    c.in-Some.ensures.least in
    subst (λ (m : Rows Molecule). LooksFor m.rows c.args.need.now c.args.from (Some c.number_at.result) c.args.looks.now c.next_place-found.new.looks) c.self.view_is
    (subst (λ (n : ℕ). LooksFor rows c.args.need.now c.args.from (Some n) c.args.looks.now c.next_place-found.new.looks) (sym c.number_at.ensures.number) is)

pub returns-in-None-clause-none : goal.returns-in-None-clause-none
returns-in-None-clause-none g c =
    let rows = c.self.inside.rows.rows in
    let none : NoneCovers c.self.inside.screens.items c.args.need.now (place_of c.args.from rows)
    (length c.self.inside.screens.items) = rw (c.as_slice.ensures.value, c.place-at.ensures.place)
    at c.in-None.ensures.none in
    subst (λ (m : Rows Molecule). NoCandidate m.rows c.args.need.now c.args.from) c.self.view_is
    (none_found rows c.self.inside.screens.items c.args.need.now c.args.from c.place-at.ensures.rising c.self.invariant.beside none)

pub returns-in-None-clause-looks : goal.returns-in-None-clause-looks
returns-in-None-clause-looks g c =
    let rows = c.self.inside.rows.rows in
    let looks : LooksTo c.self.inside.screens.items c.args.need.now (place_of c.args.from rows)
    (length c.self.inside.screens.items) c.args.looks.now c.next_place-found.new.looks =
    rw (c.as_slice.ensures.value, c.place-at.ensures.place) at c.in-None.ensures.looks in
    subst (λ (m : Rows Molecule). LooksFor m.rows c.args.need.now c.args.from None c.args.looks.now c.next_place-found.new.looks) c.self.view_is
    (looks_none rows c.self.inside.screens.items c.args.need.now c.args.from c.place-at.ensures.rising c.self.invariant.beside c.args.looks.now c.next_place-found.new.looks looks)

pub returns-in-Some-clause-screens : goal.returns-in-Some-clause-screens
returns-in-Some-clause-screens g c =
    subst (λ (m : Rows Molecule). HaveScreens m.rows) c.self.view_is (have_screens c.self.inside.rows.rows c.self.inside.screens.items c.self.invariant.beside)

pub returns-in-None-clause-screens : goal.returns-in-None-clause-screens
returns-in-None-clause-screens g c =
    subst (λ (m : Rows Molecule). HaveScreens m.rows) c.self.view_is (have_screens c.self.inside.rows.rows c.self.inside.screens.items c.self.invariant.beside)
