-- For the code: how many members of some groups stand below a template.
--     members_below query groups u    how many of the templates below u are a member of one of them
use Rattle.std.specs.Prelude.{ℕ, List, count_by}
use Rattle.std.specs.List.{range_with_len}
use Rattle.mk_model.specs.Queries.{QueryView}
use Rattle.mk_model.specs.Labels.{is_member_of_one}

-- how many of the templates below u are a member of one of these groups
unfoldable pub members_below : QueryView → List ℕ → ℕ → ℕ
members_below query groups u = count_by (is_member_of_one query groups) (range_with_len 0 u)
