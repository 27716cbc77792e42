-- `exact-limit`, `completes-limit`, `never-limit` and `limit_of_steps` are the law.
use Rattle.mk_form.proofs.Limit.{exact-limit, completes-limit, never-limit, limit_of_steps}
use Rattle.mk_form.proofs.combining.limit_is_exact.Goals as goal

pub returns-clause-grows : goal.returns-clause-grows
returns-clause-grows g c = λ g. limit_of_steps g

pub returns-clause-exact : goal.returns-clause-exact
returns-clause-exact g c = λ e w. exact-limit e w

pub returns-clause-completes : goal.returns-clause-completes
returns-clause-completes g c = λ e w. completes-limit e w

pub returns-clause-unnamed : goal.returns-clause-unnamed
returns-clause-unnamed g c = λ e w. never-limit e w
