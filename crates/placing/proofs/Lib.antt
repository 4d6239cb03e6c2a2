pub mod Kept
pub mod Upto
pub mod Scan
pub mod Order
pub mod Placed
pub mod Filled
