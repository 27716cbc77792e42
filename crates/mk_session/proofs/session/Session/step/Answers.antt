use Rattle.std.proofs.Common.{Some, ◌∙◌, subst}
use Rattle.mk_outside.specs.declared.tables.Tables.{Tables}
use Rattle.mk_found.specs.Findings.{MissesAt}
use Rattle.mk_session.specs.Step.{Reaches}
use Rattle.mk_session.proofs.SteppingLemmas.{same_tables, step_counted, stepped_err}
use Rattle.std.proofs.lemmas.Result.{err_from_is_err_and}
use Rattle.mk_session.proofs.session.Session.step.Goals as goal

pub returns-in_ok-extend_from_slice-in-Refused-clause-missed : goal.returns-in_ok-extend_from_slice-in-Refused-clause-missed
returns-in_ok-extend_from_slice-in-Refused-clause-missed g c =
    subst (λ (t : Tables). MissesAt (g.F.Files.look_up c.args.files.now)
    (Reaches (g.F.Files.look_up c.args.files.now) t (Some c.args.command.now)) (g.F.Files.absences c.args.files.now)
    (g.F.Files.absences c.found_of.new.files))
    c.self.view_is c.found_of.ensures.missed

pub returns-in_ok-fulfil-in-Answered-clause-missed : goal.returns-in_ok-fulfil-in-Answered-clause-missed
returns-in_ok-fulfil-in-Answered-clause-missed g c =
    subst (λ (t : Tables). MissesAt (g.F.Files.look_up c.args.files.now)
    (Reaches (g.F.Files.look_up c.args.files.now) t (Some c.args.command.now)) (g.F.Files.absences c.args.files.now)
    (g.F.Files.absences c.found_of.new.files))
    c.self.view_is c.found_of.ensures.missed

pub returns-in_err-fulfil-in-Answered-clause-missed : goal.returns-in_err-fulfil-in-Answered-clause-missed
returns-in_err-fulfil-in-Answered-clause-missed g c =
    subst (λ (t : Tables). MissesAt (g.F.Files.look_up c.args.files.now)
    (Reaches (g.F.Files.look_up c.args.files.now) t (Some c.args.command.now)) (g.F.Files.absences c.args.files.now)
    (g.F.Files.absences c.found_of.new.files))
    c.self.view_is c.found_of.ensures.missed

pub returns-in_err-line-clause-missed : goal.returns-in_err-line-clause-missed
returns-in_err-line-clause-missed g c =
    subst (λ (t : Tables). MissesAt (g.F.Files.look_up c.args.files.now)
    (Reaches (g.F.Files.look_up c.args.files.now) t (Some c.args.command.now)) (g.F.Files.absences c.args.files.now)
    (g.F.Files.absences c.found_of.new.files))
    c.self.view_is c.found_of.ensures.missed

pub returns-in_err-fulfil-in-Answered-clause-stepped : goal.returns-in_err-fulfil-in-Answered-clause-stepped
returns-in_err-fulfil-in-Answered-clause-stepped g c =
    stepped_err _ _ _ _ _ _ _ c.from_residual-in_err-fulfil-in-Answered.ensures.0
    (c.in_err-fulfil-in-Answered.ensures.tables ∙ same_tables _ _ _ _ c.found_of.ensures.same c.found_of.ensures.same_saved ∙ c.self.view_is) c.in_err-fulfil-in-Answered.ensures.answer_err

pub returns-in_err-extend_from_slice-in-Refused-clause-missed : goal.returns-in_err-extend_from_slice-in-Refused-clause-missed
returns-in_err-extend_from_slice-in-Refused-clause-missed g c =
    subst (λ (t : Tables). MissesAt (g.F.Files.look_up c.args.files.now)
    (Reaches (g.F.Files.look_up c.args.files.now) t (Some c.args.command.now)) (g.F.Files.absences c.args.files.now)
    (g.F.Files.absences c.found_of.new.files))
    c.self.view_is c.found_of.ensures.missed

pub returns-in_err-fulfil-in-Answered-clause-counted : goal.returns-in_err-fulfil-in-Answered-clause-counted
returns-in_err-fulfil-in-Answered-clause-counted g c =
    let p = err_from_is_err_and c.from_residual-in_err-fulfil-in-Answered.result c.from_residual-in_err-fulfil-in-Answered.ensures.1 in
    let sought = rw c.in-Answered.is at c.in_ok-line.ensures.sought in
    rw p.1 (step_counted (g.F.Files.look_up c.args.files.now) c.args.self.now _ (Some c.args.command.now) _ _ _ _ c.in-Answered.edit c.in-Answered.text c.in_err-fulfil-in-Answered.field-0.0 p.0 p.2
    c.self.view_is sought.0 sought.1 c.in_err-fulfil-in-Answered.ensures.counted)
