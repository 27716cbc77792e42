-- Loose ends, counted bond by bond.
--     LooseLeft             the list has the loose ends of the first bonds
--     loose_none, loose_more, loose_all
use Rattle.std.proofs.Common.{◌≡◌, ◌∙◌, ℕ, ◌+◌, ◌<◌, ◌≤◌, true, false, List, length, get_or, take, replicate, refl, ap, arith}
use Rattle.std.specs.Prelude.{Bool, count_by}
use Rattle.std.proofs.lemmas.List.{get_or-replicate, length-replicate, take_all}
use Rattle.std.proofs.lemmas.List.Sums.{count_by_more_no, count_by_more_yes}
use Rattle.mk_model.specs.declared.template.QueryBond.{QueryBond}
use Rattle.mk_model.specs.Pieces.{Piece, room}
use Rattle.mk_model.specs.Templates.{TemplateView}
use Rattle.mk_expand.specs.OpenGraphs.{is_loose, loose_ends}
use Rattle.mk_expand.specs.Opening.{AreLoose}
use Rattle.mk_expand.proofs.CountLemmas.{one_if}

-- the loose ends of the first k bonds stand in the list
pub record LooseLeft (template : TemplateView) (pieces : List Piece) (k : ℕ) (loose : List ℕ) : Type 0 where
  pub size : length loose ≡ room template pieces (length template.atoms)
  pub each : (p : ℕ) → p < length loose → get_or loose p 0 ≡ count_by (is_loose template pieces (p + 1)) (take k template.bonds)

zeros : ℕ → List ℕ
zeros n = replicate n 0

zero_at : (total p : ℕ) → p < length (zeros total) → get_or (zeros total) p 0 ≡ 0
unfolding zeros
zero_at total p below = get_or-replicate total p 0 0 (omega (arith, length-replicate {A = ℕ} total 0))

pub loose_none : (template : TemplateView) (pieces : List Piece) (loose : List ℕ) (total : ℕ) → loose ≡ replicate total 0 → total ≡ room template pieces (length template.atoms)
    → LooseLeft template pieces 0 loose
unfolding zeros
loose_none template pieces loose total made is = record {
  size = ap length made ∙ length-replicate {A = ℕ} total 0 ∙ is;
  each = λ p below. (let here : get_or loose p 0 ≡ 0 = rw made (zero_at total p (rw made at below)) in omega (arith, here));
}

pub loose_more : (template : TemplateView) (pieces : List Piece) (k : ℕ) (old new : List ℕ) (d : QueryBond) → k < length template.bonds
    → length new ≡ length old → ((p : ℕ) → p < length old → get_or new p 0 ≡ get_or old p 0 + one_if (is_loose template pieces (p + 1) (get_or template.bonds k d)))
    → LooseLeft template pieces k old → LooseLeft template pieces (k + 1) new
loose_more template pieces k old new d below size each left = record {
  size = size ∙ left.size;
  each = λ p inside. one p (omega (arith, size, inside));
}
  where
    one : (p : ℕ) → p < length old → get_or new p 0 ≡ count_by (is_loose template pieces (p + 1)) (take (k + 1) template.bonds)
    one p inside = by (is_loose template pieces (p + 1) (get_or template.bonds k d)) refl
      where
        by : (b : Bool) → is_loose template pieces (p + 1) (get_or template.bonds k d) ≡ b → get_or new p 0 ≡ count_by (is_loose template pieces (p + 1)) (take (k + 1) template.bonds)
        by true e =
            let more = count_by_more_yes (is_loose template pieces (p + 1)) template.bonds k d below e in
            let added : one_if (is_loose template pieces (p + 1) (get_or template.bonds k d)) ≡ 1 = ap one_if e in
            omega (arith, more, added, each p inside, left.each p inside)
        by false e =
            let more = count_by_more_no (is_loose template pieces (p + 1)) template.bonds k d below e in
            let added : one_if (is_loose template pieces (p + 1) (get_or template.bonds k d)) ≡ 0 = ap one_if e in
            omega (arith, more, added, each p inside, left.each p inside)

pub loose_all : (template : TemplateView) (pieces : List Piece) (k : ℕ) (loose : List ℕ) → length template.bonds ≤ k → LooseLeft template pieces k loose → AreLoose template pieces loose
unfolding loose_ends
loose_all template pieces k loose past left = record {
  size = left.size;
  each = λ p below. left.each p below ∙ ap (count_by (is_loose template pieces (p + 1))) (take_all k template.bonds past);
}
