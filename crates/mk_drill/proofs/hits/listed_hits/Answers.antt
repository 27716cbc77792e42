use Rattle.std.proofs.Common.{List, [], ℕ, subst}
use Rattle.mk_rows.specs.declared.by_number.Numbered.{Numbered}
use Rattle.mk_model.specs.Molecules.{Molecule}
use Rattle.mk_search.specs.Pages.{IsHeldIn, IsPage}
use Rattle.mk_drill.specs.Listing.{AreOthers}
use Rattle.mk_drill.proofs.HitsLemmas.{more_hits, one_page_of_hits}
use Rattle.mk_drill.proofs.hits.listed_hits.Goals as goal

pub returns-then-first : goal.returns-then-first
returns-then-first g c =
    rw c.into_vec-hits.ensures
    (one_page_of_hits c.args.start c.args.count c.args.query.now c.in_ok-library.library.rows c.in_ok-first.first c.in_ok-library.ensures.held
    (subst (λ (rows : List (Numbered Molecule)). IsPage (IsHeldIn rows) c.args.query.now [] 100 c.in_ok-first.first) c.shelf.ensures.rows c.in_ok-first.ensures.page) c.if-first.true)

pub returns : goal.returns
returns g c =
    more_hits c.args.start c.args.count c.args.query.now c.in_ok-library.library.rows c.remove_multiples.new.library.rows c.in_ok-first.first c.put_others.new.hits.items
    c.in_ok-library.ensures.held c.in_ok-remove_multiples.ensures
    (subst (λ (rows : List (Numbered Molecule)). IsPage (IsHeldIn rows) c.args.query.now [] 100 c.in_ok-first.first) c.shelf.ensures.rows c.in_ok-first.ensures.page) c.if-first.false
    (subst (λ (former : List (List ℕ)). AreOthers c.remove_multiples.new.library.rows c.args.query.now c.in_ok-first.first.place former c.put_others.new.hits.items) c.into_vec-hits.ensures
    (subst (λ (rows : List (Numbered Molecule)). AreOthers rows c.args.query.now c.in_ok-first.first.place
    c.into_vec-hits.result.items c.put_others.new.hits.items) c.shelf-2.ensures.rows c.in_ok-put_others.ensures))
