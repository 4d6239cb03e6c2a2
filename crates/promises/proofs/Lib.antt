pub mod Counts
pub mod Words
pub mod Plans
pub mod Steps
pub mod Demands
