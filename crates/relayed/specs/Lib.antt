pub mod Without
pub mod Promises
