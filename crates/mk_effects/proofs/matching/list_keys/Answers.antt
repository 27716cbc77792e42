use Rattle.std.proofs.Common.{[], ap, length, nat_lt}
use Rattle.mk_text.specs.Rising.{AreFirst}
use Rattle.mk_model.specs.Keys.{IsKey}
use Rattle.mk_found.specs.Effects.{Answers}
use Rattle.mk_effects.specs.Hits.{IsHitsText, stop_of}
use Rattle.mk_effects.specs.Match.{IsRecord1}
use Rattle.mk_effects.proofs.HitLinesLemmas.{have_parts}
use Rattle.mk_effects.proofs.ListingsLemmas.{first_of_record1}
use Rattle.mk_effects.proofs.matching.list_keys.Goals as goal

pub hits_answer-requires : goal.hits_answer-requires
hits_answer-requires g c =
    let query = c.args.wanted.now in
    let mol = c.args.mol in
    let hits = c.in_ok-listed.listed.hits in
    let first : AreFirst 10000 (IsKey (IsRecord1 mol) query) hits =
    first_of_record1 mol query 10000 c.in_ok-shelf.shelf.rows hits c.in_ok-shelf.ensures c.in_ok-listed.ensures.page.hits in
    rw c.as_slice.ensures (have_parts (IsKey (IsRecord1 mol) query) (IsRecord1 mol) query 10000 hits (λ key is. is) first)

pub returns : goal.returns
returns g c = λ bytes held.
    let query = c.args.wanted.now in
    let mol = c.args.mol in
    let hits = c.in_ok-listed.listed.hits in
    let lines : IsHitsText query hits (stop_of (nat_lt (length hits) 10000) 0) c.in_ok-answer.answer.items =
    rw (c.as_slice.ensures, c.stop_of.ensures, c.in_ok-listed.ensures.page.ended) at c.in_ok-answer.ensures in
    record {
      mol = mol;
      held = held;
      keys = hits;
      first = first_of_record1 mol query 10000 c.in_ok-shelf.shelf.rows hits c.in_ok-shelf.ensures c.in_ok-listed.ensures.page.hits;
      text = c.in_ok-answer.answer.items;
      lines = lines;
      answered = ap (Answers []) c.of.ensures;
    }
