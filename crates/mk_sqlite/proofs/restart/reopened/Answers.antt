use Rattle.sqlite.specs.Files.{file_state}
use Rattle.sqlite.proofs.Callers.{finds_again}
use Rattle.mk_sqlite.proofs.AgainLemmas.{told_again, opened_sound, not_closed, not_opened}
use Rattle.mk_sqlite.proofs.restart.reopened.Goals as goal

pub returns-in-Ok-open_files-clause-found : goal.returns-in-Ok-open_files-clause-found
returns-in-Ok-open_files-clause-found g c =
    let closed = c.in-Ok.ensures in
    rw c.over.ensures.opened (record {
      files = c.in-Ok.files;
      closed = record { last = closed.ok.0; given_up = closed.ok.1; closed = closed.ok.2; copied = closed.copied };
      opened = c.in-Ok-open_files.ensures.opened;
      found = c.in-Ok-open_files.ensures.found;
    })

pub returns-in-Ok-open_files-clause-sound : goal.returns-in-Ok-open_files-clause-sound
returns-in-Ok-open_files-clause-sound g c =
    rw c.over.ensures.opened (λ clean. opened_sound (file_state c.in-Ok-open_files.connection) clean (c.in-Ok-open_files.ensures.opened clean).0)

pub returns-in-Ok-open_files-clause-tells : goal.returns-in-Ok-open_files-clause-tells
returns-in-Ok-open_files-clause-tells g c =
    rw c.over.ensures.opened (λ sound.
    let old = c.args.connection in
    let new = c.in-Ok-open_files.connection in
    told_again (file_state old) (file_state new) (λ opens. (c.schema-schema.ensures.live opens).1) (λ opens. ((c.in-Ok-open_files.ensures.opened sound.clean).1 opens).1)
    (finds_again old new c.in-Ok.files c.in-Ok.ensures.copied (c.in-Ok-open_files.ensures.found sound.clean)) sound)

pub returns-in-Err-open_files-clause-err : goal.returns-in-Err-open_files-clause-err
returns-in-Err-open_files-clause-err g c =
    let closed = c.in-Ok.ensures in (
      c.in-Ok.files,
      record { last = closed.ok.0; given_up = closed.ok.1; closed = closed.ok.2; copied = closed.copied },
      λ clean left. rw c.fail_of.ensures (not_opened c.args.connection c.in-Ok.files c.in-Err-open_files.left c.in-Err-open_files.error (closed.copied clean) (c.in-Err-open_files.ensures.cause left)),
    )

pub returns-in-Err-clause-err : goal.returns-in-Err-clause-err
returns-in-Err-clause-err g c =
    (c.in-Err.ensures.err.0, λ clean. rw c.fail_of-in-Err.ensures (not_closed c.args.connection c.in-Err.store c.in-Err.error (c.in-Err.ensures.err.1 clean)))
