pub mod Rows
pub mod Clear
pub mod Columns
pub mod Given
