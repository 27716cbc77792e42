-- What proofs of the crates above use of this one.
--     how many bytes are kept of a text                        TextLengthLemmas
--     demands in their order                                   DemandLemmas
--     molecules of rows as those of records                    MoleculesAtLemmas
--     the first refusal of a file as that of a replacement     OneMoleculeLemmas
pub use Rattle.mk_library.proofs.DemandLemmas.{MetBelow, least_order, most_order, none_met, one_demand, one_met}
pub use Rattle.mk_library.proofs.MoleculesAtLemmas.{at_is_item, item_is_at}
pub use Rattle.mk_library.proofs.OneMoleculeLemmas.{first_of_file}
pub use Rattle.mk_library.proofs.TextLengthLemmas.{kept_lines_are_short}
