use Rattle.std.proofs.Common.{◌≡◌, ◌∙◌, true, inl, inr, refl}
use Rattle.mk_text.specs.Rising.{IsBelow}
use Rattle.mk_search.proofs.hits.put_higher.Goals as goal

pub returns-then-is_below-clause-higher : goal.returns-then-is_below-clause-higher
returns-then-is_below-clause-higher c =
    let to = c.deref.ensures.value ∙ c.in_ok-put_reached.ensures in
    inl (rw (to, c.deref-2.ensures.value) at (c.is_below.ensures.0 c.if-is_below.true), refl)

pub returns-clause-higher : goal.returns-clause-higher
returns-clause-higher c =
    let to = c.deref.ensures.value ∙ c.in_ok-put_reached.ensures in
    rw c.swap.ensures.x_after (inr (
      λ below.
          (let under : IsBelow c.deref.result.now c.deref-2.result.now = rw (to, c.deref-2.ensures.value) below in
          let is : c.is_below.result ≡ true = c.is_below.ensures.1 under in
          let no = c.if-is_below.false in
          absurd cc),
      c.in_ok-put_reached.ensures,
    ))
