use Rattle.std.proofs.Common.{◌≡◌, ◌<◌, List, ℕ, length, ap, arith, subst, sym}
use Rattle.mk_model.specs.Molecules.{Molecule}
use Rattle.mk_rows.specs.Rows.{Rows}
use Rattle.mk_index.specs.Posted.{posted_by}
use Rattle.mk_index.specs.Postings.{IsPosting}
use Rattle.mk_index.proofs.BesideLemmas.{beside_size}
use Rattle.mk_index.proofs.PostedLemmas.{posted_is}
use Rattle.mk_index.proofs.shelf.Shelf.posting.Goals as goal

pub posted_rows-requires-clause-size : goal.posted_rows-requires-clause-size
posted_rows-requires-clause-size c i within =
    let there : i < length c.self.inside.screens.items = omega (arith, ap length c.rows.ensures.rows, beside_size c.self.inside.rows.rows c.self.inside.screens.items c.self.invariant.beside) in
    let size = c.self.invariant.bits.size i there in
    omega (arith, ap length c.as_slice.ensures.value)

pub returns : goal.returns
returns c =
    let rows = c.self.inside.rows.rows in
    let columns = c.self.inside.columns.items in
    let is = posted_is rows c.self.inside.screens.items columns c.args.bit c.requires (rw c.rows.ensures.rows at c.rows.ensures.rising) c.self.invariant.beside c.self.invariant.bits in
    let numbers : c.in_ok-numbers.numbers.items ≡ posted_by rows columns c.args.bit (length rows) = rw (c.rows.ensures.rows, c.as_slice.ensures.value) at c.in_ok-numbers.ensures in
    subst (λ (m : Rows Molecule). IsPosting m.rows c.args.bit c.in_ok-numbers.numbers.items) c.self.view_is
    (subst (λ (xs : List ℕ). IsPosting rows c.args.bit xs) (sym numbers) is)
