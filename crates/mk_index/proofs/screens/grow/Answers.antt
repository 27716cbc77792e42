use Rattle.std.proofs.Common.{◌≡◌, ◌∙◌, ◌-◌, ◌++◌, ℕ, List, replicate, take, vec_len, ap, sym, arith}
use Rattle.std.proofs.lemmas.List.{append-nil, take_all}
use Rattle.mk_rows.proofs.ForCallers.{took}
use Rattle.mk_index.proofs.screens.grow.Goals as goal

pub returns-then-len-words-clause-zeros : goal.returns-then-len-words-clause-zeros
returns-then-len-words-clause-zeros c = (0, sym (append-nil c.args.columns.now.items))

pub returns-clause-zeros : goal.returns-clause-zeros
returns-clause-zeros c =
    let old = c.args.columns.now.items in
    let is = took c.resize.result _ _ _ (c.resize.ensures.succeeds c.requires) c.resize.ensures.items in
    let all : take c.args.words old ≡ old = take_all c.args.words old (omega (arith, c.args.columns.now.ok.0, c.len.ensures)) in
    let zeros : List ℕ = replicate (c.args.words - vec_len c.args.columns.now) 0 in
    (c.args.words - vec_len c.args.columns.now, is ∙ ap (λ (xs : List ℕ). xs ++ zeros) all)
