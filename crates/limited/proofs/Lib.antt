pub mod Checked
pub mod Promises
pub mod Own
pub mod Weighing
pub mod Within
