use Rattle.std.proofs.Common.{◌++◌, ◌∷◌, [], List, subst, take, arith}
use Rattle.std.proofs.lemmas.List.{take_all}
use Rattle.mk_tables.specs.declared.raw.RawTable.{RawTable}
use Rattle.mk_query.specs.TableWalk.{IsWalked}
use Rattle.mk_query.proofs.TableWalkLemmas.{next_among, take_split, take_next}
use Rattle.mk_query.proofs.table_walk.put_members.Goals as goal

pub returns-in-Some : goal.returns-in-Some
returns-in-Some c = λ done walked.
    let front = done ++ take c.loop-k.k c.args.members.now in
    next_among c.args.groups.now front (c.index-members-k.result ∷ []) c.in-Some.fault (take_split done c.args.members.now c.loop-k.k c.index-members-k.result c.loop-k-test.true c.index-members-k.is)
    ((rw c.in-Some.is at c.in_ok-fault.ensures.found) front (c.loop-k.invariant.walked done walked))

pub loop-k-preserved : goal.loop-k-preserved
loop-k-preserved c =
    record {
      size = omega (arith, c.loop-k.invariant.size, c.in_ok-fault.ensures.size c.in_default.is);
      walked = λ done walked.
          let front = done ++ take c.loop-k.k c.args.members.now in
          subst (λ (l : List RawTable). IsWalked c.args.groups.now l c.put_table.new.templates.items)
          (take_next done c.args.members.now c.loop-k.k c.index-members-k.result c.loop-k-test.true c.index-members-k.is)
          ((rw c.in_default.is at c.in_ok-fault.ensures.found) front (c.loop-k.invariant.walked done walked));
    }

pub returns : goal.returns
returns c = λ done walked.
    subst (λ (l : List RawTable). IsWalked c.args.groups.now (done ++ l) c.loop-k.templates.items) (take_all c.loop-k.k c.args.members.now c.loop-k-test.false) (c.loop-k.invariant.walked done walked)
