-- What the readers answer that go through a text line by line, from where a line begins. It serves
-- the code of these readers alone: the lines of the text are those of `lines_of`, and the readings
-- those of TableReading.antt.
--     AnswersAt text answer reading       the reading gave this value, and the next line begins
--                                         there
--     AnswersPast text answer reading     lines that aren't looked at were passed over, up to there
use Rattle.std.specs.Prelude.{ℕ, List, Result, Ok, Err}
use Rattle.mk_form.specs.Reading.{Reading, TakesLines}
use Rattle.mk_text.specs.declared.line_start.LineStart.{LineStart}
use Rattle.mk_text.specs.Lines.{lines_of}
use Rattle.mk_text.specs.LineStart.{IsLineStart}
use Rattle.mk_tables.specs.declared.fault.TableFault.{TableFault}
use Rattle.mk_tables.specs.TableLines.{Line}
use Rattle.mk_tables.specs.TableReading.{Fails}

-- the reading gave this value, and the lines that are left begin there
pub record TakesTo {V : Type 0} (text : List ℕ) (next : LineStart) (value : V) (reading : Reading Line V) : Type 0 where
  pub takes : TakesLines (lines_of text) next.line value reading
  pub start : IsLineStart text next

-- the reading gave this value, and the next line begins there; or it stopped at the line that the
-- fault names
abbrev pub AnswersAt : {V : Type 0} → List ℕ → Result (V × LineStart) TableFault → Reading Line V → Type 0
AnswersAt text (Ok answer) reading = TakesTo text answer.1 answer.0 reading
AnswersAt text (Err fault) reading = Fails (lines_of text) fault reading

-- lines that aren't looked at were passed over, and the next line begins there; or the reading
-- stopped at the line that the fault names
abbrev pub AnswersPast : List ℕ → Result LineStart TableFault → Reading Line (Unit {0}) → Type 0
AnswersPast text (Ok next) reading = TakesTo text next tt reading
AnswersPast text (Err fault) reading = Fails (lines_of text) fault reading
