pub mod RowsLemmas
pub mod StreamsLemmas
pub mod RisingRowsLemmas
pub mod TablesLemmas
