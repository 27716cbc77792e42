use Rattle.std.proofs.Common.{◌≡◌, sym, ◌∙◌, subst, refl, rules, w32}
use Rattle.std.specs.Prelude.{ℤ}
use Rattle.std.proofs.lemmas.Bool.{true≢false, false≢true}
use Rattle.std.proofs.lemmas.Int.{to_z-of_z}
use Rattle.std.proofs.lemmas.List.{take_all}
use Rattle.std.proofs.lemmas.List.Elements.{All-more}
use mir.Val.{SFits, to_z, of_z}
use Rattle.mk_props.specs.declared.property.Pair.{Pair}
use Rattle.mk_demands.specs.Numbers.{IsWithin}
use Rattle.mk_demands.specs.Values.{HaveValues}
use Rattle.mk_demands.proofs.values.have_values.Goals as goal

pub loop-pair-preserved : goal.loop-pair-preserved
loop-pair-preserved c =
    let low = to_z w32 (of_z w32 c.args.low) in
    let high = to_z w32 (of_z w32 c.args.high) in
    All-more (λ (pair : Pair). IsWithin low high pair.value) c.args.pairs.now c.loop-pair.pair-index _ c.loop-pair-test.true c.loop-pair.invariant (c.has_value.ensures.0 c.if-not-has_value.false)

pub returns-then-not-has_value : goal.returns-then-not-has_value
returns-then-not-has_value c =
    let low : SFits w32 c.args.low = search rules in
    let high : SFits w32 c.args.high = search rules in
    let least : to_z w32 (of_z w32 c.args.low) ≡ c.args.low = to_z-of_z w32 c.args.low low in
    let most : to_z w32 (of_z w32 c.args.high) ≡ c.args.high = to_z-of_z w32 c.args.high high in
    let is = rw (least, most) at c.has_value.ensures in (
      λ t. absurd (false≢true t),
      λ all. absurd (true≢false (sym (is.1 (all c.loop-pair.pair-index _ c.loop-pair-test.true)) ∙ c.if-not-has_value.true)),
    )

pub returns : goal.returns
returns c =
    let low : SFits w32 c.args.low = search rules in
    let high : SFits w32 c.args.high = search rules in
    let least : to_z w32 (of_z w32 c.args.low) ≡ c.args.low = to_z-of_z w32 c.args.low low in
    let most : to_z w32 (of_z w32 c.args.high) ≡ c.args.high = to_z-of_z w32 c.args.high high in
    let all : HaveValues (to_z w32 (of_z w32 c.args.low)) (to_z w32 (of_z w32 c.args.high)) c.args.pairs.now =
    rw (take_all c.loop-pair.pair-index c.args.pairs.now c.loop-pair-test.false) at c.loop-pair.invariant in
    let P : ℤ → ℤ → Type 0 = λ x y. HaveValues x y c.args.pairs.now in
    (λ t. subst (λ (x : ℤ). P x c.args.high) least (subst (λ (y : ℤ). P (to_z w32 (of_z w32 c.args.low)) y) most all), λ all. refl)
