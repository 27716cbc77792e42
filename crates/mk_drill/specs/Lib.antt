pub mod Draws
pub mod DrillQuery
pub mod Drill
pub mod DrilledRecords
pub mod Listing
pub mod Answer
