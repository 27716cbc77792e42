use Rattle.std.proofs.Common.{◌≡◌, ◌∙◌, ℕ, Bool, eqb, true, ◌⊎◌, inl, inr}
use Rattle.std.specs.Prelude.{◌↔◌}
use Rattle.std.proofs.lemmas.Bool.{eq-eqb, eqb-true}
use Rattle.mk_model.specs.declared.edge.Edge.{Edge}
use Rattle.mk_model.specs.Edges.{HasEnds}
use Rattle.mk_model.proofs.edge.Edge.has_ends.Goals as goal
use Rattle.mk_model.proofs.edge.Edge.has_ends.Goals.{then-self-a, else-self-a}

-- the ends as they stand
as_written : (edge : Edge) (a b : ℕ) (is_so : Bool) → (edge.first ≡ a) × (edge.second ≡ b) → is_so ≡ true → (is_so ≡ true) ↔ HasEnds edge a b
as_written edge a b is_so ends test = (λ _. inl ends, λ _. test)

-- they don't stand so
abbrev NotWritten : Edge → ℕ → ℕ → Type 0
NotWritten edge a b = ((edge.first ≡ a) × (edge.second ≡ b → ⊥)) ⊎ (edge.first ≡ a → ⊥)

not_written : (edge : Edge) (a b : ℕ) → NotWritten edge a b → (edge.first ≡ a) × (edge.second ≡ b) → ⊥
not_written edge a b (inl second) ends = second.1 ends.1
not_written edge a b (inr first) ends = first ends.0

-- the ends the other way round
turned : (edge : Edge) (a b : ℕ) → NotWritten edge a b → edge.first ≡ b → (eqb edge.second a ≡ true) ↔ HasEnds edge a b
turned edge a b other first = (
  λ test. inr (first, eqb-true edge.second a test),
  λ ends. elim ends [ inl written ↦ absurd (not_written edge a b other written) | inr back ↦ eq-eqb edge.second a back.1 ],
)

-- other ends
others : (edge : Edge) (a b : ℕ) → NotWritten edge a b → (edge.first ≡ b → ⊥) → (eqb edge.first b ≡ true) ↔ HasEnds edge a b
others edge a b other first = (
  λ test. absurd (first (eqb-true edge.first b test)),
  λ ends. elim ends [ inl written ↦ absurd (not_written edge a b other written) | inr back ↦ absurd (first back.0) ],
)

pub returns-then-self-b : goal.returns-then-self-b
returns-then-self-b c =
    elim c.if-self-a.branch [
      | then-self-a w ↦ as_written c.args.self c.args.a c.args.b c.if-self-a.t-5 c.if-self-b.true (w.t-5-is ∙ eq-eqb c.args.self.second c.args.b c.if-self-b.true.1)
      | else-self-a w ↦ absurd (w.if-self-a.false c.if-self-b.true.0)
    ]

pub returns-then-self-b-2 : goal.returns-then-self-b-2
returns-then-self-b-2 c = turned c.args.self c.args.a c.args.b c.if-self-b.either c.if-self-b-2.true

pub returns-else-self-b-2 : goal.returns-else-self-b-2
returns-else-self-b-2 c = others c.args.self c.args.a c.args.b c.if-self-b.either c.if-self-b-2.false
