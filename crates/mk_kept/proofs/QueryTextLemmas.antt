-- A query file, from what is made of its tables.
--     said_if          what is said of its tables is said of the text
use Rattle.std.proofs.Common.{ℕ, List}
use Rattle.std.specs.Prelude.{Result, Ok, Err, IfOk}
use Rattle.mk_text.specs.Lines.{lines_of}
use Rattle.mk_rgfile.specs.declared.raw_query.RawQuery.{RawQuery}
use Rattle.mk_rgfile.specs.QueryFile.{IsQueryFile}
use Rattle.mk_kept.specs.declared.query_text.QueryText.{QueryText}
use Rattle.mk_kept.specs.declared.query_text.QueryText.TheVariants.{Compiled, Bad, V3000, Fails}
use Rattle.mk_kept.specs.QueryText.{IsRawSaid, IsTextSaid}

-- what is said of the tables of a query file is said of the text
said_of : (text : List ℕ) (raw : RawQuery) (said : QueryText) → IsQueryFile (lines_of text) raw → IsRawSaid raw said → IsTextSaid text said
said_of text raw (Compiled query) file is = record { raw = raw; file = file; passes = is.0; means = is.1 }
said_of text raw (Bad k) file is = absurd is
said_of text raw (V3000 k) file is = absurd is
said_of text raw (Fails check table item) file is = record { raw = raw; file = file; first = is }

pub said_if : {E : Type 0} (text : List ℕ) (raw : RawQuery) (r : Result QueryText E) → IsQueryFile (lines_of text) raw → IfOk r (IsRawSaid raw) → IfOk r (IsTextSaid text)
said_if text raw (Ok said) file is = said_of text raw said file is
said_if text raw (Err e) file is = tt
