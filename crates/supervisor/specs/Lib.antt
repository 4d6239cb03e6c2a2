pub mod ToC
pub mod Boundary
