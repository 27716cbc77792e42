use Rattle.std.proofs.Common.{ℕ, bytes_eq, subst, sym}
use Rattle.std.specs.Global.{Vec}
use Rattle.mk_expansions.specs.declared.kept.Plan.{Plan}
use Rattle.mk_expansions.specs.Kept.{AreKept, IsPlanOf, KeptView}
use Rattle.mk_expansions.proofs.KeptLemmas.{found, found_if, swapped}
use Rattle.mk_expansions.proofs.kept.Kept.take.Goals as goal

pub returns-in-Some-clause-kept : goal.returns-in-Some-clause-kept
returns-in-Some-clause-kept c = λ query are.
    let all = subst (λ (k : KeptView). AreKept query k) (sym c.self.view_is) are in
    record {
      young = rw c.swap_remove.ensures.entries (swapped (λ (e : Vec ℕ × Plan). IsPlanOf query e.0.items e.1) (λ (k : Vec ℕ). bytes_eq c.args.code.now k.items) c.self.inside.young.entries all.young);
      elder = all.elder;
    }

pub returns-in-Some-clause-is : goal.returns-in-Some-clause-is
returns-in-Some-clause-is c = λ query are.
    let all = subst (λ (k : KeptView). AreKept query k) (sym c.self.view_is) are in
    found query c.args.code.now c.self.inside.young.entries c.in-Some.plan all.young (sym c.in-Some.ensures.value)

pub returns-clause-kept : goal.returns-clause-kept
returns-clause-kept c = λ query are.
    let all = subst (λ (k : KeptView). AreKept query k) (sym c.self.view_is) are in
    let P : Vec ℕ × Plan → Type 0 = λ e. IsPlanOf query e.0.items e.1 in
    let test = λ (k : Vec ℕ). bytes_eq c.args.code.now k.items in
    record {
      young = rw c.swap_remove.ensures.entries (swapped P test c.self.inside.young.entries all.young);
      elder = rw c.swap_remove-2.ensures.entries (swapped P test c.self.inside.elder.entries all.elder);
    }

pub returns-clause-is : goal.returns-clause-is
returns-clause-is c = λ query are.
    let all = subst (λ (k : KeptView). AreKept query k) (sym c.self.view_is) are in
    found_if query c.args.code.now c.self.inside.elder.entries c.swap_remove-2.result all.elder (sym c.swap_remove-2.ensures.value)
