use Rattle.std.proofs.Common.{◌≡◌, ◌<◌, ◌∷◌, ◌++◌, [], length, take, refl, arith, All}
use Rattle.std.proofs.lemmas.List.{take_all}
use Rattle.std.proofs.lemmas.List.Elements.{All-more}
use Rattle.mk_walk.specs.Hydrogens.{IsEndTaken}
use Rattle.mk_walk.proofs.FreeHydrogensLemmas.{lower_given, lower_taken}
use Rattle.mk_walk.proofs.free_hydrogens.are_lower_taken.Goals as goal

pub returns-in_default : goal.returns-in_default
returns-in_default c = (λ _ m z at_y. absurd (c.in_default.ensures.none m at_y), λ _. refl)

pub returns-then-not-is_end_taken : goal.returns-then-not-is_end_taken
returns-then-not-is_end_taken c = (
  λ never. absurd cc,
  λ all. c.if-not-is_end_taken.ensures.1 (lower_given c.args.mol.now (c.args.first.now ++ c.args.a ∷ []) c.in-Some.m c.args.y c.in-Some.ensures.some all _),
)

pub loop-number-preserved : goal.loop-number-preserved
loop-number-preserved c =
    let items = c.bonds_at-number-items.result.now in
    let i = c.loop-number.number-index in
    let below : i < length items = omega arith in
    All-more (IsEndTaken c.args.mol.now (c.args.first.now ++ c.args.a ∷ []) c.in-Some.m c.args.y) items i 0 below c.loop-number.invariant (c.if-not-is_end_taken.ensures.0 refl)

pub returns : goal.returns
returns c =
    let items = c.bonds_at-number-items.result.now in
    let taken = c.args.first.now ++ c.args.a ∷ [] in
    let whole : take c.loop-number.number-index items ≡ items = take_all c.loop-number.number-index items (omega arith) in
    let all : All (IsEndTaken c.args.mol.now taken c.in-Some.m c.args.y) items = rw whole at c.loop-number.invariant in
    (λ _. lower_taken c.args.mol.now taken c.in-Some.m c.args.y c.in-Some.ensures.some (rw c.bonds_at-number-items.ensures.numbers at all), λ _. refl)
