-- What mk_match needs.
--     owed_at                                    what is owed at a place, where 1 is owed at the most
--     plain_test_found, plain_test_given         the test for a plain test
--     all_found .. distinct_given                tests on lists, and what they say of each element
pub use Rattle.mk_walk.proofs.HydrogensLemmas.{plain_test_found, plain_test_given}
pub use Rattle.mk_walk.proofs.ListTestLemmas.{all_found, all_given, all_places, all_recursion, any_found, any_given, distinct_found, distinct_given}
pub use Rattle.mk_walk.proofs.SearchTurnLemmas.{owed_at}
