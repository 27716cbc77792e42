use Rattle.mk_elements.proofs.TableLemmas.{IsSymbol-columns_of}
use Rattle.mk_elements.proofs.symbols.symbol_of.Goals as goal

pub returns : goal.returns
returns c = rw c.columns_of.ensures (IsSymbol-columns_of c.args.z c.requires.least c.requires.most)
