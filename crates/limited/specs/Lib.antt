pub mod Limited
pub mod Promises
pub mod Limits
