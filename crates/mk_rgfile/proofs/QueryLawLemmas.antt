-- The laws of query files.
use Rattle.mk_form.proofs.Stops.{one_value, bad_is_no_text, one_bad_line}
use Rattle.mk_rgfile.specs.QueryFile.{HasOneQuery, HasBadLine, HasOneBadLine}
use Rattle.mk_rgfile.proofs.QueryFileLemmas.{exact-query_file}

-- lines are at most one query file
pub one_query : HasOneQuery
one_query lines a b h k = one_value exact-query_file lines a b h k

-- a bad line exactly where they are none
pub bad_where_none : HasBadLine
bad_where_none lines = bad_is_no_text exact-query_file lines

-- and only one
pub one_bad : HasOneBadLine
one_bad lines j k a b = one_bad_line exact-query_file lines j k a b
