use Rattle.std.proofs.Common.{◌≡◌, ◌∙◌, ◌++◌, List, ℕ, Option, Some, ap, refl, subst, sym}
use Rattle.mk_search.specs.declared.occurrences.Open.{Open}
use Rattle.mk_search.specs.Occurrences.{LeavesBy, LeavesOpen, TakesHere}
use Rattle.mk_search.proofs.OpenLemmas.{none_here, taken_here}
use Rattle.mk_search.proofs.occurrences.Occurrences.next_here.Goals as goal

pub returns-in_default-next-clause-here : goal.returns-in_default-next-clause-here
returns-in_default-next-clause-here c = λ mol place left.
    let self = c.args.self.now in
    let o : LeavesOpen self.query.now mol place self.codes c.in-Some.open = subst (λ (m : Option Open). LeavesBy self.query.now mol place self.codes m) c.in-Some.is left.by in
    let none = rw c.in_default-next.is at c.next.follows.holds-at-none in
    rw c.close.ensures.shut (none_here self.query.now mol place self.codes left.query_is c.in-Some.open o none.0, refl)

pub returns-clause-here : goal.returns-clause-here
returns-clause-here c = λ mol place left.
    let self = c.args.self.now in
    let o : LeavesOpen self.query.now mol place self.codes c.in-Some.open = subst (λ (m : Option Open). LeavesBy self.query.now mol place self.codes m) c.in-Some.is left.by in
    let next = rw c.in-Some-next.is at c.next.follows.holds-at-none in
    let hit = c.in-Some-next.hit.now in
    let numbers = c.put_joined.new.numbers.items in
    let new : Open = record { maps = c.next.follows.lender-at-none; code = c.in-Some.open.code; asked = c.in-Some.open.asked; need = c.in-Some.open.need } in
    let whole : numbers ≡ c.in-Some.open.code.items ++ hit = c.in_ok-put_joined.ensures ∙ ap (λ (zs : List ℕ). zs ++ hit) c.deref.ensures.value in
    subst (λ (m : Option Open). TakesHere self.query.now mol place self.codes m (Some new) numbers) (sym c.in-Some.is)
    (taken_here self.query.now mol place self.codes left.query_is c.in-Some.open o hit numbers new next.least whole refl next.graph next.mol next.place o.of.asked o.of.need)
