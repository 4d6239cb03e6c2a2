pub mod Route
pub mod Rows
