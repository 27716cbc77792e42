pub mod OpenCodes
pub mod OpenGraphs
pub mod Opening
pub mod Bridges
pub mod Laws
