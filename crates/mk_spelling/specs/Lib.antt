pub mod TableSpelling
