use Rattle.std.proofs.Common.{◌≡◌, ◌<◌, ℕ, Some, length}
use Rattle.std.specs.Prelude.{slice_get, slice_index_or}
use Rattle.mk_model.specs.Templates.{TemplateView}
use Rattle.mk_query.specs.RootSizes.{capped, own_size}
use Rattle.mk_query.proofs.own_sizes.own_sizes.Given as goal

abbrev pub invariant-loop-t : goal.invariant-loop-t
invariant-loop-t l =
    record {
      size : length l.own.items ≡ l.t;
      each : (t : ℕ) (template : TemplateView) → t < l.t → slice_get l.draft.templates t ≡ Some template → slice_index_or l.own.items t 0 ≡ capped (own_size template);
    }
