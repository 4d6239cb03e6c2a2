pub mod Overlap
pub mod Ascending
pub mod List
pub mod Transfer
pub mod Loops
pub mod SetWords
pub mod Sums
pub mod Chained
