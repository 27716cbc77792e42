-- A batch of changes, one after the other.
use Rattle.std.proofs.Common.{◌≡◌, ◌≤◌, ◌<◌, ◌+◌, ℕ, List, [], ◌∷◌, ◌++◌, take, get_or, length, refl, sym, ap, subst, ◌∙◌}
use Rattle.std.proofs.lemmas.List.{take_more, take_all}
use Rattle.sqlite.specs.State.{State}
use Rattle.mk_outside.specs.declared.tables.Tables.{Tables}
use Rattle.mk_outside.specs.declared.tables.Change.{Change}
use Rattle.mk_outside.specs.Tables.{after_change, after_batch}
use Rattle.mk_sqlite.specs.Steps.{IsWhole, Changes}

after_snoc : (batch : List Change) (change : Change) (t : Tables) → after_batch (batch ++ change ∷ []) t ≡ after_change change (after_batch batch t)
after_snoc [] change t = refl
after_snoc (first ∷ batch) change t = after_snoc batch change (after_change first t)

-- one change more
pub batch_more : (batch : List Change) (i : ℕ) (change : Change) (t : Tables) → i < length batch → change ≡ get_or batch i change
    → after_batch (take (i + 1) batch) t ≡ after_change change (after_batch (take i batch) t)
batch_more batch i change t below is =
    ap (λ changes. after_batch changes t) (take_more batch i change below ∙ ap (λ (one : Change). take i batch ++ one ∷ []) (sym is)) ∙ after_snoc (take i batch) change t

-- one change more
pub changes_more : (a b c : State) (batch : List Change) (i : ℕ) (change : Change) → i < length batch → change ≡ get_or batch i change
    → Changes a b (after_batch (take i batch)) → Changes b c (after_change change) → Changes a c (after_batch (take (i + 1) batch))
changes_more a b c batch i change below is first after t at = subst (IsWhole c.now) (sym (batch_more batch i change t below is)) (after (after_batch (take i batch) t) (first t at))

-- all changes of the batch
pub changes_all : (a b : State) (batch : List Change) (i : ℕ) → length batch ≤ i → Changes a b (after_batch (take i batch)) → Changes a b (after_batch batch)
changes_all a b batch i over first t at = subst (λ changes. IsWhole b.now (after_batch changes t)) (take_all i batch over) (first t at)
