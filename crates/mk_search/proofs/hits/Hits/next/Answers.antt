use Rattle.std.proofs.Common.{◌≡◌, ◌∙◌, ◌∷◌, ◌++◌, [], ℕ, List, inl, inr, ap, refl, subst, sym}
use Rattle.mk_expansions.specs.Starts.{first_number}
use Rattle.mk_search.specs.Stages.{IsReadyHere}
use Rattle.mk_search.proofs.SearchedLemmas.{standing_from, standing_in}
use Rattle.mk_search.proofs.hits.Hits.next.Goals as goal

-- ---- after `Memory` records from the place on are to come

pub invariant_of-self : goal.invariant_of-self
invariant_of-self g c =
    let self = c.self.inside in
    rw c.replace-stage.ensures.after
    (standing_from self.shelf.now.rows self.place.items self.need self.all.query.now c.next_key.new.all c.next_key.ensures.belongs c.self.invariant.need_is
    c.first_number-first.result (c.first_number-first.ensures ∙ ap first_number c.deref.ensures.value))

pub invariant_of-self-in_err-key : goal.invariant_of-self-in_err-key
invariant_of-self-in_err-key g c =
    let self = c.self.inside in
    rw c.replace-stage.ensures.after
    (standing_from self.shelf.now.rows self.place.items self.need self.all.query.now c.next_key.new.all c.next_key.ensures.belongs c.self.invariant.need_is
    c.first_number-first.result (c.first_number-first.ensures ∙ ap first_number c.deref.ensures.value))

pub invariant_of-self-in_err-put_behind : goal.invariant_of-self-in_err-put_behind
invariant_of-self-in_err-put_behind g c =
    let self = c.self.inside in
    rw c.replace-stage.ensures.after
    (standing_from self.shelf.now.rows self.place.items self.need self.all.query.now c.next_key.new.all c.next_key.ensures.belongs c.self.invariant.need_is
    c.first_number-first.result (c.first_number-first.ensures ∙ ap first_number c.deref.ensures.value))

-- ---- a key is found

pub invariant_of-self-2 : goal.invariant_of-self-2
invariant_of-self-2 g c =
    let self = c.self.inside in
    let rows = self.shelf.now.rows in
    let query = self.all.query.now in
    let all = c.next_key.new.all in
    let row = c.in-Some.row in
    let f = rw (c.in-Some.is, c.deref-2.ensures.value, c.replace-stage.ensures.value) at c.in_ok-found.ensures.found in
    let key : c.in_ok-key.key.items ≡ row.number ∷ all.numbers.items = c.in_ok-key.ensures ∙ ap (λ (zs : List ℕ). row.number ∷ zs) c.deref-3.ensures.value in
    let place : c.put_behind.new.place.items ≡ row.number ∷ (all.numbers.items ++ 0 ∷ []) = c.in_ok-put_behind.ensures ∙ ap (λ (zs : List ℕ). zs ++ 0 ∷ []) (c.deref-4.ensures.value ∙ key) in
    rw c.swap.ensures.x_after
    (standing_in rows c.put_behind.new.place.items self.need query all c.next_key.ensures.belongs c.self.invariant.need_is row
    (subst (λ (zs : List ℕ). IsReadyHere rows query zs row all) (sym place) f.ready))

pub returns-clause-next : goal.returns-clause-next
returns-clause-next g c =
    let all = c.next_key.new.all in
    let row = c.in-Some.row in
    let f = rw (c.in-Some.is, c.deref-2.ensures.value, c.replace-stage.ensures.value) at c.in_ok-found.ensures.found in
    let key : c.in_ok-key.key.items ≡ row.number ∷ all.numbers.items = c.in_ok-key.ensures ∙ ap (λ (zs : List ℕ). row.number ∷ zs) c.deref-3.ensures.value in
    let place : c.put_behind.new.place.items ≡ row.number ∷ (all.numbers.items ++ 0 ∷ []) = c.in_ok-put_behind.ensures ∙ ap (λ (zs : List ℕ). zs ++ 0 ∷ []) (c.deref-4.ensures.value ∙ key) in
    rw (sym c.self.view_is, c.of.ensures, key, c.swap.ensures.x_after) (record {
      same = record { rows = refl; query = c.next_key.ensures.belongs.query_is };
      least = f.least;
      place = place;
      begun = f.begun;
      taken = record {
        number = f.taken.number;
        code = f.taken.code;
        hit = f.taken.hit;
        whole = f.taken.whole;
        placed = f.taken.placed;
        begun_for = elim f.taken.begun_for [ inl here ↦ inl here | inr was ↦ inr was.1 ];
      };
    })
