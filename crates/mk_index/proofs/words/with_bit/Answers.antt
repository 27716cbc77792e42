use Rattle.mk_index.proofs.WordsLemmas.{set_is}
use Rattle.mk_index.proofs.words.with_bit.Goals as goal

pub returns : goal.returns
returns c k below = set_is c.args.word c.args.low c.requires k below
