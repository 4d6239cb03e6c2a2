pub mod Sound
pub mod Rows
pub mod Columns
pub mod Refusal
