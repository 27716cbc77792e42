use Rattle.std.proofs.Common.{◌≡◌, ◌≤◌, eqb, ltb, true, inl, inr, arith}
use Rattle.std.specs.Prelude.{◌↔◌}
use Rattle.std.proofs.lemmas.Bool.{eqb-true, lt-ltb, ltb-true}
use Rattle.mk_model.specs.declared.edge.Edge.{Edge}
use Rattle.mk_model.specs.Edges.{IsEdgeBefore}
use Rattle.mk_model.proofs.edge.Edge.is_before.Goals as goal

-- where the first ends are one, the second decide
before_same : (edge later : Edge) → later.first ≤ edge.first → edge.first ≡ later.first → (ltb edge.second later.second ≡ true) ↔ IsEdgeBefore edge later
before_same edge later least same = (
  λ yes. inr (same, ltb-true edge.second later.second yes),
  λ before. elim before [ inl lower ↦ absurd (omega (arith, lower)) | inr second ↦ lt-ltb edge.second later.second second.1 ],
)

-- and where the first end is higher, it doesn't stand before
not_before : (edge later : Edge) → later.first ≤ edge.first → (edge.first ≡ later.first → ⊥) → (eqb edge.first later.first ≡ true) ↔ IsEdgeBefore edge later
not_before edge later least other = (
  λ yes. absurd (other (eqb-true edge.first later.first yes)),
  λ before. elim before [ inl lower ↦ absurd (omega (arith, lower)) | inr second ↦ absurd (other second.0) ],
)

pub returns-then-self-other : goal.returns-then-self-other
returns-then-self-other c = (λ _. inl c.if-self-other.true, λ _. lt-ltb c.args.self.first c.args.other.first c.if-self-other.true)

pub returns-then-self-other-2 : goal.returns-then-self-other-2
returns-then-self-other-2 c = before_same c.args.self c.args.other c.if-self-other.false c.if-self-other-2.true

pub returns-else-self-other-2 : goal.returns-else-self-other-2
returns-else-self-other-2 c = not_before c.args.self c.args.other c.if-self-other.false c.if-self-other-2.false
