pub mod Checked
pub mod Without
pub mod Promises
