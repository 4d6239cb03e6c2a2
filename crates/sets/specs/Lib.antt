pub mod Walk
pub mod Sets
pub mod Chained
