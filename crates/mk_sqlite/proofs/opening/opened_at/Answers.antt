use Rattle.std.proofs.Common.{◌≡◌, false}
use Rattle.sqlite_store.specs.FileStore.{view}
use Rattle.sqlite_wal.specs.Files.{image_at}
use Rattle.sqlite.specs.State.{HasCleanDisk}
use Rattle.sqlite.specs.Held.{IsNew}
use Rattle.sqlite.specs.Start.{FindsIn}
use Rattle.sqlite.specs.Files.{file_state, IsOpened, IsBlankAs}
use Rattle.mk_sqlite.proofs.AgainLemmas.{if_opened}
use Rattle.mk_sqlite.proofs.opening.opened_at.Goals as goal

pub returns-clause-opened : goal.returns-clause-opened
returns-clause-opened g c = if_opened c.open_from.result c.opened_of.result (λ c. HasCleanDisk (file_state c) → IsOpened c) c.opened_of.ensures c.open_from.ensures.opened

pub returns-clause-found : goal.returns-clause-found
returns-clause-found g c =
    if_opened c.open_from.result c.opened_of.result (λ c. HasCleanDisk (file_state c) → FindsIn (image_at g.B.Start) (file_state c)) c.opened_of.ensures c.open_from.ensures.found

pub returns-clause-fresh : goal.returns-clause-fresh
returns-clause-fresh g c = if_opened c.open_from.result c.opened_of.result IsNew c.opened_of.ensures c.open_from.ensures.fresh

pub returns-clause-plain : goal.returns-clause-plain
returns-clause-plain g c =
    if_opened c.open_from.result c.opened_of.result (λ c. HasCleanDisk (file_state c) → IsBlankAs false (image_at g.B.Start) → (view c.store).has_sums ≡ false) c.opened_of.ensures
    c.open_from.ensures.sums
