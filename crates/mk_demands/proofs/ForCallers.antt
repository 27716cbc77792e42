-- The lemmas that proofs of crates above cite.
pub use Rattle.mk_demands.proofs.ChargePuttingLemmas.{last_or-append, values_for-append}
pub use Rattle.mk_demands.proofs.EdgeLemmas.{atom_is, atom_within, atoms_differ}
pub use Rattle.mk_demands.proofs.BondLemmas.{numbers_are, numbers-within, graph, whole, is_graph, crowded, none_crowded}
