pub mod Costs
pub mod Asked
pub mod Writing
pub mod Result
pub mod Data
