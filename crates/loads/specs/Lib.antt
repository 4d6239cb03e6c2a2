pub mod Loads
pub mod Line
pub mod State
pub mod Network
pub mod Raised
pub mod Way
pub mod Ranges
pub mod NodesOf
