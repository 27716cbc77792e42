-- `text_is_taken` is the law.
use Rattle.mk_form.proofs.Stops.{text_is_taken}
use Rattle.mk_form.proofs.stopping.text_is_taken.Goals as goal

pub returns : goal.returns
returns g c = λ e. text_is_taken e
