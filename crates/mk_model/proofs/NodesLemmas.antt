-- What lies ahead adds up.
use Rattle.std.proofs.Common.{inl, inr, ℕ, List, ◌++◌, arith}
use Rattle.std.proofs.lemmas.List.{length-append}
use Rattle.mk_text.specs.Rising.{Holds, IsBelow}
use Rattle.mk_text.proofs.ForCallers.{below_or_not, below_what_isnt, holds_each, holds_either, rises_append}
use Rattle.mk_model.specs.Molecules.{Molecule}
use Rattle.mk_model.specs.Nodes.{AheadAddsUp, IsNode}

-- what a list is above, all that isn't above that list is below
below_later : (xs ys zs : List ℕ) → (IsBelow ys xs → ⊥) → IsBelow ys zs → IsBelow xs zs
below_later xs ys zs not below =
    elim (below_or_not xs zs) [
      | inl under ↦ under
      | inr over ↦ absurd (not (below_what_isnt ys xs zs below over))
    ]

-- what each of two lists of lists keeps, both together keep
in_either : (P : List ℕ → Type 0) (lists others : List (List ℕ)) → ((xs : List ℕ) → Holds lists xs → P xs)
    → ((xs : List ℕ) → Holds others xs → P xs) → (xs : List ℕ) → Holds (lists ++ others) xs → P xs
in_either P lists others one two xs held =
    elim (holds_either lists others xs held) [
      | inl here ↦ one xs here
      | inr there ↦ two xs there
    ]

pub ahead_adds_up : (Held : ℕ → Molecule → Type 0) → AheadAddsUp Held
ahead_adds_up Held query from through to j k up on a b =
    let across : (xs ys : List ℕ) → Holds a.nodes xs → Holds b.nodes ys → IsBelow xs ys =
    λ xs ys here there. below_later xs through ys (a.not_above xs here) (b.above ys there) in
    record {
      nodes = a.nodes ++ b.nodes;
      rise = rises_append a.nodes b.nodes a.rise b.rise (holds_each _ a.nodes (λ xs here. holds_each _ b.nodes (λ ys there. across xs ys here there)));
      each = in_either (IsNode Held query) a.nodes b.nodes a.each b.each;
      above = in_either (IsBelow from) a.nodes b.nodes a.above (λ xs there. below_later from through xs up (b.above xs there));
      not_above = in_either (λ xs. IsBelow to xs → ⊥) a.nodes b.nodes (λ xs here over. a.not_above xs here (below_later through to xs on over)) b.not_above;
      many = (let whole = length-append a.nodes b.nodes in let one = a.many in let other = b.many in omega (arith, whole, one, other));
    }
