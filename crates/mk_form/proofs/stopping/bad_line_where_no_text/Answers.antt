-- `bad_is_no_text` is the law.
use Rattle.mk_form.proofs.Stops.{bad_is_no_text}
use Rattle.mk_form.proofs.stopping.bad_line_where_no_text.Goals as goal

pub returns : goal.returns
returns g c = λ e. bad_is_no_text e
