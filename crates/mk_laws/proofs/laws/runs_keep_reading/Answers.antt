use Rattle.mk_laws.proofs.GoingOnLemmas.{runs_keep_reading}
use Rattle.mk_laws.proofs.laws.runs_keep_reading.Goals as goal

pub returns : goal.returns
returns c = runs_keep_reading (record {
  kept = c.kept_text_stays.ensures.kept;
  same = c.kept_text_is_the_query.ensures;
  reading = c.edits_keep_reading.ensures.reading;
  of_records = c.edits_keep_reading.ensures.of_records;
  alone = c.records_change_alone.ensures;
  fit = c.passed_queries_fit.ensures;
})
