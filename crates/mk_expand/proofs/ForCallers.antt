-- What proofs of the crates above use of this one, from mk_pieces.
--     one_graph      a code has one expansion alone
--     some_graph     and has one
--     short          a code and a hit of its expansion together have at most 512 numbers
pub use Rattle.mk_pieces.proofs.ForCallers.{one_graph, short, some_graph}
