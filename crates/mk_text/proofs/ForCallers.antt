-- What proofs of the crates above use of this one.
--     tests joined by `&&`, `||` and `not`         TestLemmas
--     the least item at which a demand fails       ItemLemmas
--     entries of a line, one by one                OptionLemmas
--     lines, kept lines and their places           PieceLemmas, KeptLinesLemmas, SpanLemmas
--     columns of kept lines                        KeptColumnLemmas
--     columns without their outer blanks           TrimLemmas
--     numbers in columns                           DigitLemmas, FieldLemmas, SpellingLemmas
--     rising lists                                 RisingLemmas, JoinedLemmas, ChoiceLemmas
--     places behind lists, the first so many       PlaceLemmas, FirstLemmas
pub use Rattle.mk_text.proofs.TestLemmas.{both, and_true, neither, or_left, or_right, not_true, not_false}
pub use Rattle.mk_text.proofs.ItemLemmas.{of_item-here, of_item-at, of_item-past, items-none, items-more, items-fail, items-more_at, items-fail_at, items-more_get, items-fail_get, items-all, all_of, one_item}
pub use Rattle.mk_text.proofs.OptionLemmas.{both_read, test_passed, read_behind, entries_none, entries_more, entries_fail, entries_all}
pub use Rattle.mk_text.proofs.PieceLemmas.{pieces_at, without_cr-at_other}
pub use Rattle.mk_text.proofs.KeptLinesLemmas.{range_item_more, kept-push, no_lf_at, lines_hold_no_lf, lines_few, text_of_lines_is_read, without_cr_same, without_crs_end, without_crs_same, kept_lines_are_read, kept_lines_stay}
pub use Rattle.mk_text.proofs.LineStartLemmas.{line_there}
pub use Rattle.mk_text.proofs.SpanLemmas.{parts_length, behind_within, parts_behind}
pub use Rattle.mk_text.proofs.TrimLemmas.{trimmed_padded, trimmed-columns, trimmed_between, trimmed_blank, list_all_at, AreBetween, trimmed_is_between}
pub use Rattle.mk_text.proofs.DigitLemmas.{all_digits}
pub use Rattle.mk_text.proofs.FieldLemmas.{fields_are_read, field_found, field_given, digits_given, number_given, ends_not, field_end}
pub use Rattle.mk_text.proofs.SpellingLemmas.{columns_between, decimal_digits, right_justified_is_read, signed_right_justified_is_read}
pub use Rattle.mk_text.proofs.KeptColumnLemmas.{crs_behind, columns_left, columns_core, columns_field, word_left, field_left, field_same, drop_left, standing_all}
pub use Rattle.mk_text.proofs.RisingLemmas.{not_below_itself, below_through, below_or_not, each_holds, holds_each, each_append, each_from, each_mapped, holds_append, holds_either, holds_mapped, holds_before_map, rises_append, rises_mapped, one_rising_list, one_of_all, first_of_rising, rising_from_place}
pub use Rattle.mk_text.proofs.PlaceLemmas.{below_after, not_below_after, between_none}
pub use Rattle.mk_text.proofs.FirstLemmas.{below_what_isnt, none_before_place_behind, one_list_is_first, first_are_taken, first_and_others, all_below_behind, not_below_behind, Listed, listed_none, listed_more, listed_moved, first_listed, first_when_all}
pub use Rattle.mk_text.proofs.JoinedLemmas.{below_behind, below_joined, joined_lists_rise}
pub use Rattle.mk_text.proofs.ChoiceLemmas.{choices_that_pass}
