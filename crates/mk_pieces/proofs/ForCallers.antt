-- What proofs of the crates above use of this one.
--     one_graph      a code has one expansion alone
--     some_graph     and has one
--     short          a code and a hit of its expansion together have at most 512 numbers
--     kept_template .. template_kept     all else serves the code of mk_layout and mk_expand
use Rattle.mk_marks.proofs.ForCallers.{graph_bonds_have_marks, one_list_of_graph_bonds}
use Rattle.mk_pieces.specs.Laws.{EachCodeHasExpansion, OneExpansion}
use Rattle.mk_pieces.proofs.HaveExpansionLemmas.{has_expansion}
use Rattle.mk_pieces.proofs.OneExpansionLemmas.{one_expansion}
pub use Rattle.mk_pieces.proofs.ChoiceFits.{kept_template}
pub use Rattle.mk_pieces.proofs.GraphLemmas.{fragment_sketch, graph_of, put_ordered, root_small, short, taken_few, taken_fragment}
pub use Rattle.mk_pieces.proofs.NumberLemmas.{flat_more, mapped_more, numbers_more}
pub use Rattle.mk_pieces.proofs.RoomLemmas.{have_room}
pub use Rattle.mk_pieces.proofs.SpanLemmas.{room_more, room_none, room_within}
pub use Rattle.mk_pieces.proofs.TemplateLemmas.{bonds_within, ends_within, slots_stand}
pub use Rattle.mk_pieces.proofs.DrawnLemmas.{drawn_inside, drawn_outside}
pub use Rattle.mk_pieces.proofs.KeptLemmas.{labels_known, member_there, slots_are, template_is, template_kept}

pub one_graph : OneExpansion
one_graph = one_expansion one_list_of_graph_bonds

pub some_graph : EachCodeHasExpansion
some_graph = has_expansion graph_bonds_have_marks
