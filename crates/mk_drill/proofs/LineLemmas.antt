-- The fold of the hits, computed modulo 1,000,000 at each step.
use Rattle.std.proofs.Common.{[], ◌∷◌, ◌++◌, ◌≡◌, ℕ, suc, ◌+◌, ◌*◌, ◌%◌, ◌<◌, List, length, get_or, take, arith, sym, ap, ◌∙◌}
use Rattle.std.specs.Prelude.{sum}
use Rattle.std.proofs.Math.Nat.{add-mod-mod, mod-add-mod}
use Rattle.std.proofs.lemmas.List.{length-take-le, take_all, take_more}
use Rattle.std.proofs.lemmas.List.Sums.{sum_by_more}
use Rattle.std.proofs.lemmas.Nat.{mul-mod_first, mul-mod_second}
use Rattle.mk_drill.specs.Drill.{fold, weighed_from}

-- ---- sums

-- ---- weights

-- a hit behind others
weighed_behind : (i : ℕ) (hits : List (List ℕ)) (hit : List ℕ) → weighed_from i (hits ++ hit ∷ []) ≡ weighed_from i hits + (i + length hits) * sum hit
weighed_behind i [] hit = let none : i + 0 ≡ i = omega arith in rw none (omega arith)
weighed_behind i (first ∷ hits) hit =
    let place : (i + 1) + length hits ≡ i + suc (length hits) = omega arith in
    let rest : weighed_from (i + 1) (hits ++ hit ∷ []) ≡ weighed_from (i + 1) hits + (i + suc (length hits)) * sum hit =
    weighed_behind (i + 1) hits hit ∙ ap (λ (k : ℕ). weighed_from (i + 1) hits + k * sum hit) place in
    omega (arith, rest)

-- a product of remainders
product : (i s : ℕ) → ((i % 1000000 + 1) * (s % 1000000)) % 1000000 ≡ ((i + 1) * s) % 1000000
product i s =
    mul-mod_second (i % 1000000 + 1) s 1000000 ∙ sym (mul-mod_first (i % 1000000 + 1) s 1000000)
    ∙ ap (λ (k : ℕ). (k * s) % 1000000) (mod-add-mod i 1000000 1) ∙ mul-mod_first (i + 1) s 1000000

-- one hit more
pub fold_step : (hits : List (List ℕ)) (i folded : ℕ) (hit : List ℕ) (s : ℕ) → i < length hits → hit ≡ get_or hits i hit → s ≡ sum hit % 1000000 → folded ≡ weighed_from 1 (take i hits) % 1000000
    → (folded + (i % 1000000 + 1) * s) % 1000000 ≡ weighed_from 1 (take (i + 1) hits) % 1000000
fold_step hits i folded hit s below is summed so_far =
    let w = weighed_from 1 (take i hits) in
    let count : 1 + length (take i hits) ≡ i + 1 = omega (arith, length-take-le i hits (omega arith)) in
    let one_more : weighed_from 1 (take (i + 1) hits) ≡ w + (i + 1) * sum hit =
    ap (weighed_from 1) (take_more hits i hit below ∙ ap (λ (h : List ℕ). take i hits ++ h ∷ []) (sym is))
    ∙ weighed_behind 1 (take i hits) hit ∙ ap (λ (k : ℕ). w + k * sum hit) count in
    ap (λ (f : ℕ). (f + (i % 1000000 + 1) * s) % 1000000) so_far ∙ mod-add-mod w 1000000 ((i % 1000000 + 1) * s)
    ∙ sym (add-mod-mod w ((i % 1000000 + 1) * s) 1000000) ∙ ap (λ (k : ℕ). (w + k) % 1000000) (ap (λ (t : ℕ). ((i % 1000000 + 1) * t) % 1000000) summed ∙ product i (sum hit))
    ∙ add-mod-mod w ((i + 1) * sum hit) 1000000 ∙ ap (λ (k : ℕ). k % 1000000) (sym one_more)
