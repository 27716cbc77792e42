use Rattle.std.proofs.Common.{◌∷◌, [], sym, subst, List, ◌++◌, arith}
use Rattle.mk_model.specs.Templates.{TemplateView}
use Rattle.mk_query.specs.TableWalk.{IsWalked}
use Rattle.mk_query.proofs.TableWalkLemmas.{next_fault, walked_more}
use Rattle.mk_query.proofs.table_walk.put_table.Goals as goal

pub returns-in-Some-clause-found : goal.returns-in-Some-clause-found
returns-in-Some-clause-found c = λ done walked.
    next_fault c.args.groups.now done c.args.templates.now.items c.args.table.now c.len-t.result c.in-Some.fault (omega (arith, c.len-t.ensures, c.args.templates.now.ok.0)) walked
    ((rw (c.in_ok-notes.ensures, c.in-Some.is) at c.in_ok-fault.ensures) c.args.groups.now c.requires.served)

pub template_of-requires : goal.template_of-requires
template_of-requires c = record {
  groups = c.args.groups.now;
  is_root = _;
  passes = (rw c.in_default.is at c.in_ok-fault.ensures) c.args.groups.now c.requires.served;
}

pub returns-clause-found : goal.returns-clause-found
returns-clause-found c = λ done walked.
    subst (λ (l : List TemplateView). IsWalked c.args.groups.now (done ++ c.args.table.now ∷ []) l) (sym c.in_ok-push.ensures.items)
    (walked_more c.args.groups.now done c.args.templates.now.items c.args.table.now c.in_ok-template_of.field-0 c.len-t.result
    (omega (arith, c.len-t.ensures, c.args.templates.now.ok.0)) walked
    ((rw (c.in_ok-notes.ensures, c.in_default.is) at c.in_ok-fault.ensures) c.args.groups.now c.requires.served) (rw c.in_ok-notes.ensures at c.in_ok-template_of.ensures))
