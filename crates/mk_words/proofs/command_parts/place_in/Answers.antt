use Rattle.std.proofs.Common.{◌≤◌, length, eqb, arith, ap, sym}
use Rattle.std.specs.List.{slice_split}
use Rattle.std.proofs.lemmas.List.{length-map}
use Rattle.mk_words.proofs.CommandPartsLemmas.{is_place, no_place}
use Rattle.mk_words.proofs.command_parts.place_in.Goals as goal

pub returns-then-len-gt-LONGEST_PLACE : goal.returns-then-len-gt-LONGEST_PLACE
returns-then-len-gt-LONGEST_PLACE c =
    no_place c.args.word.now (omega (arith, ap length c.in_ok-parts.ensures, length-map c.in_ok-parts.parts.items (λ part. part.now), c.len.ensures, c.if-len-gt-LONGEST_PLACE.true))

pub returns : goal.returns
returns c =
    let few : length (slice_split (λ b. eqb b 44) c.args.word.now) ≤ 514 =
    omega (arith, ap length c.in_ok-parts.ensures, length-map c.in_ok-parts.parts.items (λ part. part.now), c.len.ensures, c.if-len-gt-LONGEST_PLACE.false) in
    rw (sym (is_place c.args.word.now few), sym c.in_ok-parts.ensures, sym c.deref.ensures.value) c.numbers_in.ensures
