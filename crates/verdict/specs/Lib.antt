pub mod Weighing
pub mod Analysed
pub mod Verdict
pub mod Demand
pub mod Weights
