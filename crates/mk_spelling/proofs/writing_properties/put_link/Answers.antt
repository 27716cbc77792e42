use Rattle.std.proofs.Common.{ap}
use Rattle.std.specs.Prelude.{ℤ}
use mir.Syntax.{w32}
use mir.Val.{to_z, of_z}
use Rattle.mk_spelling.specs.TableSpelling.{spaced}
use Rattle.mk_spelling.proofs.AppendLemmas.{as_spaced, as_last, four_last}
use Rattle.mk_spelling.proofs.ThreeLemmas.{passed}
use Rattle.mk_spelling.proofs.writing_properties.put_link.Goals as goal

pub returns : goal.returns
returns c =
    let link = c.args.link.now in
    let old = c.args.out.now.items in
    let one = c.put_spaced.new.out.items in
    let two = c.put_spaced-2.new.out.items in
    let three = c.put_spaced-3.new.out.items in
    let last = c.put_spaced-4.new.out.items in
    four_last c.put_spaced-4.result old one two three last (spaced link.atom) (spaced link.most) (spaced link.from) (spaced link.to)
    (as_spaced old one link.atom c.requires.atom c.in_ok-put_spaced.ensures) (as_spaced one two link.most c.requires.most c.in_ok-put_spaced-2.ensures)
    (as_spaced two three link.from c.requires.from c.in_ok-put_spaced-3.ensures)
    (as_last c.put_spaced-4.result three last (spaced (to_z w32 (of_z w32 link.to))) (spaced link.to) (ap (λ (n : ℤ). spaced n) (passed link.to c.requires.to)) c.put_spaced-4.ensures)
