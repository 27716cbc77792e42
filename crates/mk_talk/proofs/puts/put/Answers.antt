use Rattle.std.proofs.Common.{ap, ◌∙◌}
use Rattle.std.specs.Prelude.{Err}
use Rattle.mk_talk.proofs.SpeakingLemmas.{put_failed}
use Rattle.mk_talk.proofs.puts.put.Goals as goal

pub returns-in-Err-Failed : goal.returns-in-Err-Failed
returns-in-Err-Failed g c = put_failed c.put.result _ _ c.args.piece.now (c.in-Err-Failed.is ∙ ap Err c.in-Err-Failed.field-0-is) c.put.ensures.told
