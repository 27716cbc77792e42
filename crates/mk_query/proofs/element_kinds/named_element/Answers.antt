use Rattle.mk_query.proofs.KindLemmas.{some_is}
use Rattle.mk_query.proofs.element_kinds.named_element.Goals as goal

pub unwrap-requires : goal.unwrap-requires
unwrap-requires c = some_is _ _ ((c.number_of.ensures.names c.requires.element).1 c.requires.names)
