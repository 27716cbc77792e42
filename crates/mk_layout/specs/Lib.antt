pub mod Shapes
pub mod Laid
pub mod Blocks
pub mod Sites
