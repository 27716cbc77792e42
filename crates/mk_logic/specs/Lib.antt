pub mod Counts
pub mod RangeReading
pub mod RangeTexts
