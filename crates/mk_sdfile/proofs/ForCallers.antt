-- What proofs of the crates above use of this one.
--     one, bad_where_none      a text is one SDfile at most, and has a bad line where it is none
--     text_is_its_record       a record's text is an SDfile of that one record
pub use Rattle.mk_sdfile.proofs.SdfileLemmas.{bad_where_none, one}
pub use Rattle.mk_sdfile.proofs.SdfileTextLemmas.{text_is_its_record}
