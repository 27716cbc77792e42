use Rattle.std.proofs.Common.{◌-◌, ℕ, ap, arith}
use Rattle.std.specs.Prelude.{◌==◌}
use Rattle.std.proofs.lemmas.Nat.Bits.{bit_at_set_other, bit_at_set_same}
use mir.Syntax.{w32}
use Rattle.mk_query.proofs.drawn.with_group.Goals as goal

pub returns-clause-set : goal.returns-clause-set
returns-clause-set c = ap (λ (n : ℕ). n == 1) (bit_at_set_same w32 c.args.groups (c.args.g - 1) (omega (arith, c.requires)))

pub returns-clause-others : goal.returns-clause-others
returns-clause-others c = λ h least other.
    ap (λ (n : ℕ). n == 1)
    (bit_at_set_other w32 c.args.groups (c.args.g - 1) (omega (arith, c.requires)) (h - 1) (λ same. other (omega (arith, same, least, c.requires))))
