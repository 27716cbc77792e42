-- `text_or_bad` is the law.
use Rattle.mk_form.proofs.Stops.{text_or_bad}
use Rattle.mk_form.proofs.stopping.text_or_bad_line.Goals as goal

pub returns : goal.returns
returns g c = λ e. text_or_bad e
