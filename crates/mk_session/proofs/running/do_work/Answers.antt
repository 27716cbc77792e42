use Rattle.mk_session.proofs.HeadlineLemmas.{leaves_done, leaves_halted}
use Rattle.mk_session.specs.Given.{orders_of_work}
use Rattle.mk_session.proofs.RunningLemmas.{unread_through}
use Rattle.mk_session.proofs.running.do_work.Goals as goal

pub returns-in-Err-go-clause-leaves : goal.returns-in-Err-go-clause-leaves
returns-in-Err-go-clause-leaves g c =
    let opens = c.in-Ok.ensures.opens (g.F.Files.look_up c.args.files.now) (g.F.Files.faults c.args.files.now) (g.F.Files.absences c.args.files.now) (orders_of_work c.args.work.now) in
    leaves_halted _ _ _ _ _ _ _ _ _ _ _ _ _ _ _ _ _ opens.0 opens.1 opens.2 opens.3 c.go.ensures.sound c.go.ensures.kept c.go.ensures.missed c.in-Err-go.status c.in-Err-go.ensures.turns

pub returns-clause-leaves : goal.returns-clause-leaves
returns-clause-leaves g c =
    let opens = c.in-Ok.ensures.opens (g.F.Files.look_up c.args.files.now) (g.F.Files.faults c.args.files.now) (g.F.Files.absences c.args.files.now) (orders_of_work c.args.work.now) in
    leaves_done _ _ _ _ _ _ _ _ _ _ _ _ _ _ _ _ _ opens.0 opens.1 opens.2 opens.3 c.go.ensures.sound c.go.ensures.kept
    c.go.ensures.missed c.in-Ok-go.refused c.ending_of.result c.in-Ok-go.ensures.turns c.ending_of.ensures

pub returns-in-Err-go-clause-unread : goal.returns-in-Err-go-clause-unread
returns-in-Err-go-clause-unread g c =
    let opens = c.in-Ok.ensures.opens (g.F.Files.look_up c.args.files.now) (g.F.Files.faults c.args.files.now) (g.F.Files.absences c.args.files.now) (orders_of_work c.args.work.now) in
    unread_through c.args.work.now _ _ _ c.in-Err-go.status opens.2 c.in-Err-go.ensures.unread
