use Rattle.mk_enum.proofs.ListedLemmas.{behind_last}
use Rattle.mk_enum.proofs.enumeration.behind.Goals as goal

pub returns : goal.returns
returns c =
    rw (c.of-2.ensures, c.in_ok-push.ensures.items, c.in_ok-extend_from_slice-2.ensures.items, c.new-behind.ensures.items, c.as_slice.ensures)
    (behind_last c.args.place.now c.args.codes.now c.in-Some.last.now c.in-Some.ensures.value)
