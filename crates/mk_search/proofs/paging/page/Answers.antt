use Rattle.std.proofs.Common.{IfOk}
use Rattle.mk_search.specs.Begins.{BeginsOfPage}
use Rattle.mk_search.specs.Pages.{IsHeldIn, IsPage}
use Rattle.mk_search.proofs.HitsLemmas.{made_itself, of_made}
use Rattle.mk_search.proofs.paging.page.Goals as goal

pub page_of-page-requires : goal.page_of-page-requires
page_of-page-requires g c = record {
  least = c.requires.least;
  made = made_itself c.args.shelf.now.rows c.args.query.now c.args.place.now c.in_ok-hits.hits c.in_ok-hits.ensures.left;
}

pub returns-clause-page : goal.returns-clause-page
returns-clause-page g c =
    of_made (λ rows query place. IfOk c.page_of-page.result (IsPage (IsHeldIn rows) query place c.args.limit))
    c.args.shelf.now.rows c.args.query.now c.args.place.now c.in_ok-hits.hits c.in_ok-hits.ensures.left c.page_of-page.ensures.page

pub returns-clause-begins : goal.returns-clause-begins
returns-clause-begins g c =
    of_made (λ rows query place. IfOk c.page_of-page.result (λ page. BeginsOfPage (IsHeldIn rows) query place page c.args.steps.now c.page_of-page.new.steps))
    c.args.shelf.now.rows c.args.query.now c.args.place.now c.in_ok-hits.hits c.in_ok-hits.ensures.left c.page_of-page.ensures.begins
