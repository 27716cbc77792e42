use Rattle.std.proofs.Common.{◌≡◌, ◌+◌, ℕ, length, take, refl, sym, subst, arith}
use Rattle.std.proofs.lemmas.List.{length-take-le}
use Rattle.mk_walk.specs.Table.{MayLie}
use Rattle.mk_walk.proofs.FreeHydrogensLemmas.{order_asked, order_free, order_met}
use Rattle.mk_walk.proofs.WalkLemmas.{new_where, not_new}
use Rattle.mk_walk.proofs.walk.Walk.may_stand.Goals as goal

pub returns-then-holds : goal.returns-then-holds
returns-then-holds c = (
  λ never. absurd cc,
  λ stands. absurd (not_new (take c.args.self.now.depth c.args.self.now.images.items) c.args.a (c.if-holds.ensures.0 refl) stands.new),
)

pub returns-then-not-are_bonds_met : goal.returns-then-not-are_bonds_met
returns-then-not-are_bonds_met c = (
  λ never. absurd cc,
  λ stands. (let met = rw c.deref.ensures.value at c.if-not-are_bonds_met.ensures in met.1 stands.bonds),
)

pub returns : goal.returns
returns c =
    let w = c.args.self.now in
    let graph = c.args.graph.now in
    let mol = c.args.mol.now in
    let list = c.args.hydrogens.now in
    let first = take w.depth w.images.items in
    let long : w.depth ≡ length first = sym (length-take-le w.depth w.images.items (omega (arith, c.requires.kept.short, c.requires.kept.room))) in
    let met = rw c.deref.ensures.value at c.if-not-are_bonds_met.ensures in
    let order = rw c.deref-2.ensures.value at c.are_in_order.ensures in (
      λ is. record {
        fits = subst (λ (n : ℕ). MayLie graph mol (n + 1) c.args.a) long (c.if-not-fits_at.ensures.fits.0 refl);
        new = new_where first c.args.a (λ held. (let never = c.if-holds.ensures.1 held in absurd cc));
        bonds = met.0 refl;
        rise = order_met graph mol c.requires.kept.drawing list c.requires.plain first c.args.a c.requires.kept.begun (order.0 is);
        first_free = order_free graph mol c.requires.kept.drawing list c.requires.plain first c.args.a c.requires.kept.begun (order.0 is);
      },
      λ stands. order.1 (order_asked graph mol c.requires.kept.drawing list c.requires.plain first c.args.a stands.rise stands.first_free),
    )
