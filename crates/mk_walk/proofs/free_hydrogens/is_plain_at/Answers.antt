use Rattle.std.proofs.Common.{◌≡◌, ℕ, eq-eqb, subst, arith}
use Rattle.std.proofs.lemmas.Bool.Decides.{nat_tests}
use Rattle.mk_model.specs.Hits.{IsPlainAt}
use Rattle.mk_walk.proofs.HydrogensLemmas.{one_host_at}
use Rattle.mk_walk.proofs.free_hydrogens.is_plain_at.Goals as goal

pub returns-in-Some : goal.returns-in-Some
returns-in-Some c = (
  λ same.
      (let is : c.in-Some.host ≡ c.args.m = grind (arith, nat_tests) in
      subst (λ (n : ℕ). IsPlainAt c.args.mol.now n c.args.z) is c.in-Some.ensures.some),
  λ plain. eq-eqb _ _ (one_host_at c.args.mol.now c.in-Some.host c.args.m c.args.z c.in-Some.ensures.some plain),
)

pub returns-in-None : goal.returns-in-None
returns-in-None c = (λ never. absurd cc, λ plain. absurd (c.in-None.ensures.none c.args.m plain))
