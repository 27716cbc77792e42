use Rattle.std.proofs.Common.{ℕ, List, ◌≤◌, IfOk, length, subst, sym}
use Rattle.mk_model.specs.QueryFits.{QueryFits}
use Rattle.mk_search.specs.Begins.{BeginsOfPaced}
use Rattle.mk_search.specs.Paced.{IsPacedPage}
use Rattle.mk_search.specs.Pages.{IsHeldIn}
use Rattle.mk_search.proofs.HitsLemmas.{made_itself, of_made}
use Rattle.mk_search.proofs.pacing.page_within.Goals as goal

pub paced_of-paced-requires : goal.paced_of-paced-requires
paced_of-paced-requires g c =
    let made = c.in_ok-hits.ensures.left in
    record {
      least = c.requires.least;
      short = subst (λ (zs : List ℕ). length zs ≤ 514) (sym made.place_is) c.requires.short;
      fits = subst QueryFits (sym made.query_is) c.templates-fits.ensures.kept;
      made = made_itself c.args.shelf.now.rows c.args.query.now c.args.place.now c.in_ok-hits.hits made;
    }

pub returns-clause-paced : goal.returns-clause-paced
returns-clause-paced g c =
    of_made (λ rows query place. IfOk c.paced_of-paced.result (IsPacedPage (IsHeldIn rows) query place c.args.limit c.args.budget c.args.turns.now c.paced_of-paced.new.turns))
    c.args.shelf.now.rows c.args.query.now c.args.place.now c.in_ok-hits.hits c.in_ok-hits.ensures.left c.paced_of-paced.ensures.paced

pub returns-clause-begins : goal.returns-clause-begins
returns-clause-begins g c =
    of_made (λ rows query place. IfOk c.paced_of-paced.result (λ paced. BeginsOfPaced (IsHeldIn rows) query place paced c.args.begins.now c.paced_of-paced.new.begins))
    c.args.shelf.now.rows c.args.query.now c.args.place.now c.in_ok-hits.hits c.in_ok-hits.ensures.left c.paced_of-paced.ensures.begins
