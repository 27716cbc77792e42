-- What proofs of the crates above use of this one.
--     no valid code begins another               CodesLemmas
--     fewer codes are left behind each taken     CodesLeftLemmas
pub use Rattle.mk_choice.proofs.CodesLemmas.{no_valid_begins_another}
pub use Rattle.mk_choice.proofs.CodesLeftLemmas.{codes_left, fewer_left}
