pub mod Clear
pub mod Splitting
pub mod Splits
