pub mod QueryLines
pub mod QueryFile
pub mod QueryFacts
pub mod QueryReading
pub mod KeptQueries
