use Rattle.std.proofs.Common.{◌∙◌, sym}
use Rattle.mk_query.proofs.links.are_right.Goals as goal

pub returns-in-One : goal.returns-in-One
returns-in-One c = rw (sym c.links_at.ensures ∙ c.in-One.is) c.is_right_link.ensures
