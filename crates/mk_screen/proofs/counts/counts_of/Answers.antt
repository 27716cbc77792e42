use Rattle.std.proofs.Common.{◌≡◌, ◌∙◌, ◌+◌, ◌-◌, ◌<◌, ℕ, List, length, get_or, map, take, ap, sym, arith, refl}
use Rattle.std.proofs.lemmas.List.{take_all}
use Rattle.mk_model.specs.Screens.{capped_count, counted}
use Rattle.mk_screen.specs.Counting.{counted_at, place_in}
use Rattle.mk_screen.proofs.CountingLemmas.{counts_more}
use Rattle.mk_screen.proofs.counts.counts_of.Goals as goal

pub loop-k-preserved : goal.loop-k-preserved
loop-k-preserved g c =
    let elements = (g.D.Drawn.shown c.args.drawn.now).elements in
    let below : c.loop-k.k < length elements = omega (arith, c.size-k-end.ensures) in
    let place : c.loop-k.k + 1 - 1 ≡ c.loop-k.k = omega arith in
    let at : c.element.result ≡ get_or elements c.loop-k.k 0 = c.element.ensures.element ∙ ap (λ i. get_or elements i 0) place in
    c.count_one.ensures ∙ ap (λ (xs : List ℕ). counted_at xs c.place_of.result) c.loop-k.invariant
    ∙ ap (λ n. counted_at (map (capped_count (take c.loop-k.k elements)) counted) n) (c.place_of.ensures ∙ ap (λ z. place_in z counted) at)
    ∙ counts_more elements c.loop-k.k below

pub returns : goal.returns
returns g c =
    let elements = (g.D.Drawn.shown c.args.drawn.now).elements in
    let all : take c.loop-k.k elements ≡ elements = take_all c.loop-k.k elements (omega (arith, c.size-k-end.ensures)) in
    c.loop-k.invariant ∙ ap (λ (xs : List ℕ). map (capped_count xs) counted) all
