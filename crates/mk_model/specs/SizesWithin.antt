-- For code alone: the sizes of templates, where the chains of sites and members are no longer than
-- a number.
--     size_if query size template     the size of a template, where there is one, by the sizes of
--                                     others
--     size_within n query t           the size of template t, where no chain is longer than n
use Rattle.std.specs.Prelude.{ℕ, zero, suc, Option, Some, None, slice_get}
use Rattle.mk_model.specs.Templates.{TemplateView}
use Rattle.mk_model.specs.Queries.{QueryView}
use Rattle.mk_model.specs.Sizes.{size_by}

-- the size of a template, where there is one, by the sizes of others
abbrev pub size_if : QueryView → (ℕ → ℕ) → Option TemplateView → ℕ
size_if query size None = 0
size_if query size (Some template) = size_by query size template

-- the size of a template, where no chain is longer than n
abbrev pub size_within : ℕ → QueryView → ℕ → ℕ
size_within zero query t = 0
size_within (suc n) query t = size_if query (size_within n query) (slice_get query.templates t)
