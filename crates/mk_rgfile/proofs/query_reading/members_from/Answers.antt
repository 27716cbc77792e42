use Rattle.std.proofs.Common.{◌≡◌, ◌<◌, false, length, get_or, [], arith}
use Rattle.std.specs.Prelude.{codes}
use Rattle.mk_text.specs.Lines.{lines_of}
use Rattle.mk_rgfile.specs.QueryLines.{is_keyword}
use Rattle.mk_rgfile.proofs.QueryReadingLemmas.{members_more}
use Rattle.mk_rgfile.proofs.query_reading.members_from.Goals as goal

pub loop-at-preserved : goal.loop-at-preserved
loop-at-preserved c =
    let lines = lines_of c.args.text.now in
    let there : c.loop-at.at < length lines = omega arith in
    let goes : is_keyword (codes "$END RGP") (get_or lines c.loop-at.at []) ≡ false = cc in
    rw c.in_ok-push-2.ensures.ok (members_more lines c.args.from c.loop-at.members c.loop-at.at c.loop-at.invariant
    there c.in_ok-member.member c.in_ok-member.next goes c.in_ok-member.ensures.ahead c.in_ok-member.ensures.value)
