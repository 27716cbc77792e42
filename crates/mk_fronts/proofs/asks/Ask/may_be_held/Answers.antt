use Rattle.std.proofs.Common.{false, Err, IfOk, Ok, Result, refl, subst, ◌≡◌}
use Rattle.mk_model.specs.Graphs.{GraphView}
use Rattle.mk_model.specs.Hits.{HasNoEmbedding}
use Rattle.mk_model.proofs.ForCallers.{no_embedding}
use Rattle.mk_screen.proofs.LossFreeLemmas.{covers_of_embedding}
use Rattle.mk_fronts.proofs.asks.Ask.may_be_held.Goals as goal

-- what follows from an answer that is right is right too
on_ok : {A E : Type 0} (r : Result A E) (P Q : A → Type 0) → ((a : A) → P a → Q a) → IfOk r P → IfOk r Q
on_ok (Ok a) P Q on is = on a is
on_ok (Err e) P Q on is = is

pub returns-then-not-is_covered-clause-none : goal.returns-then-not-is_covered-clause-none
returns-then-not-is_covered-clause-none c = λ _.
    subst (λ (g : GraphView). HasNoEmbedding g c.args.mol.now) c.self.view_is
    (λ images is.
    let covered = c.is_covered.ensures.1 (covers_of_embedding c.self.inside.graph c.args.mol.now images c.args.screen.now c.self.inside.need is c.requires.screen c.self.invariant.needs) in
    cc)

pub returns-then-cannot_hold-clause-none : goal.returns-then-cannot_hold-clause-none
returns-then-cannot_hold-clause-none c = λ _.
    subst (λ (g : GraphView). HasNoEmbedding g c.args.mol.now) c.self.view_is
    (no_embedding c.self.inside.graph c.args.mol.now c.atom_count-few.ensures.kept c.atoms-width.ensures.kept
    (c.if-cannot_hold.ensures refl c.self.inside.graph c.args.mol.now c.self.invariant.counts c.requires.there))

pub returns-clause-none : goal.returns-clause-none
returns-clause-none c =
    on_ok c.may_hold.result _ (λ may. may ≡ false → HasNoEmbedding c.args.self.now c.args.mol.now)
    (λ may none no'. subst (λ (g : GraphView). HasNoEmbedding g c.args.mol.now) c.self.view_is
    (no_embedding c.self.inside.graph c.args.mol.now c.atom_count-few.ensures.kept c.atoms-width.ensures.kept (none no')))
    c.may_hold.ensures.none
