use Rattle.std.proofs.Common.{◌++◌, ◌∷◌, [], ◌∙◌, ◌+◌, ◌*◌, ◌/◌, List, ℕ, get_or, ap, refl, sym}
use Rattle.mk_model.specs.Molecules.{Molecule}
use Rattle.mk_rows.specs.declared.by_number.Numbered.{Numbered}
use Rattle.mk_index.proofs.PostedLemmas.{posted_set}
use Rattle.mk_index.proofs.posted.put_posted.Goals as goal

pub returns : goal.returns
returns c =
    let rows = c.args.rows.now in
    let word = get_or c.args.columns.now (c.args.i / 64 * 512 + c.args.bit) 0 in
    let set = posted_set rows c.args.columns.now c.args.bit c.args.i word refl c.index-rows-i.result c.requires.within c.if-word-i-eq0.false c.index-rows-i.is in
    c.in_ok-push.ensures.items ∙ ap (λ (xs : List ℕ). c.args.numbers.now.items ++ xs) (ap (λ (r : Numbered Molecule). r.number ∷ []) (sym c.index-rows-i.is) ∙ sym set)
